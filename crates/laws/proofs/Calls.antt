-- Laws of what every call over a text and its table is told first, case by case, and what follows where all is well.
use mathlib.Core.Path.{◌≡◌, refl}
use mathlib.Core.Bool.{Bool, true, false, cond, ◌&&◌, and-false}
use mathlib.Core.List.{List}
use Prim.Native.Nat.{ℕ}
use native.Mathlib.Omega.{arith}
use lib.ListN.{length}
use lib.Dec.{eqb}
use borrow.Author.Tests.{eqb-true, eq-eqb, ne_eqb}
use Rattle.rules.specs.declared.Cursor.{Cursor}
use Rattle.rules.specs.declared.Table.{Table}
use Rattle.rules.specs.declared.Unfit.{Unfit}
use Rattle.rules.specs.declared.Outer.{Outer}
use Rattle.rules.specs.declared.Outer.TheVariants.{NotWellFormed}
use Rattle.rules.specs.Outcomes.{Judged, unfit}
use Rattle.std.specs.declared.result.Result.TheVariants.{Ok, Err}
use Rattle.rules.specs.Text.{start_place, text_judged}
use Rattle.rules.specs.Rows.{well_formed}
use Rattle.rules.specs.Calls.{judged}
use Rattle.laws.proofs.Tests.{both_true}

-- a test that is not well formed where it fails
pub test_fine : (d : Bool) (z : Cursor) → cond {A = Judged} d (Ok tt) (Err (unfit NotWellFormed z)) ≡ Ok tt → d ≡ true
test_fine true z e = refl
test_fine false z e = cc

module _ (t ws : List ℕ) (tbl : Table) where
  pub judged_text : {e : Unfit} → text_judged t ≡ Err e → judged t ws tbl ≡ Err e
  unfolding judged
  judged_text e = rw (judged, e)

  module _ (e : text_judged t ≡ Ok tt) where
    pub judged_unformed : well_formed ws tbl ≡ false → judged t ws tbl ≡ Err (unfit NotWellFormed start_place)
    unfolding judged
    judged_unformed w = rw (judged, e) (rw w)

    pub judged_size : (tbl.length ≡ length t → ⊥) → judged t ws tbl ≡ Err (unfit NotWellFormed start_place)
    unfolding judged
    judged_size h = rw (judged, e) (rw (ne_eqb tbl.length (length t) h, and-false (well_formed ws tbl)))

    pub judged_well : well_formed ws tbl ≡ true → tbl.length ≡ length t → judged t ws tbl ≡ Ok tt
    unfolding judged
    judged_well w h = rw (judged, e) (rw (w, eq-eqb tbl.length (length t) h))

  -- where all is well, the table is well formed and as long as the text
  pub judged_fine : judged t ws tbl ≡ Ok tt → (well_formed ws tbl ≡ true) × (tbl.length ≡ length t)
  unfolding judged
  judged_fine e = go (text_judged t) e
    where
      good : Bool
      good = well_formed ws tbl && eqb tbl.length (length t)

      go : (v : Judged) → elim v as (λ _. Judged) [ Ok _ ↦ cond good (Ok tt) (Err (unfit NotWellFormed start_place)) | Err e ↦ Err e ] ≡ Ok tt
          → (well_formed ws tbl ≡ true) × (tbl.length ≡ length t)
      go (Ok _) e =
          let b = both_true (well_formed ws tbl) (eqb tbl.length (length t)) (test_fine good start_place e) in
          (b.0, eqb-true tbl.length (length t) b.1)
      go (Err refusal) e = absurd (let z : ◌≡◌ {A = ℕ} 0 1 = cc in let y : ⊥ = omega arith in y)
