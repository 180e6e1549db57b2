-- What a change tells and leaves, by the order of its refusals.
use mathlib.Core.Path.{◌≡◌, refl, sym, subst, ◌∙◌}
use mathlib.Core.Bool.{Bool, true, false, ◌&&◌, true≢false}
use mathlib.Core.List.{List}
use Prim.Native.Nat.{ℕ, ◌+◌, ◌-◌, ◌≤◌}
use native.Mathlib.Omega.{arith}
use lib.ListN.{length, take, drop}
use lib.Dec.{eqb, leb}
use borrow.Author.Tests.{leb-true, eqb-true, eq-eqb}
use Rattle.rules.specs.declared.Outer.TheVariants.{NotWellFormed, EditNotSensible}
use Rattle.rules.specs.declared.Table.{Table}
use Rattle.rules.specs.Outcomes.{Told, unread}
use Rattle.std.specs.declared.result.Result.TheVariants.{Err}
use Rattle.rules.specs.Text.{start_place}
use Rattle.rules.specs.Rows.{rows_in, well_formed}
use Rattle.rules.specs.Edit.{new_length, sensible, edit_told, edit_leaves}
use Rattle.laws.proofs.Tests.{both_true}
use Rattle.laws.proofs.Lists.{lent_tail}
use Rattle.theory_edits.proofs.Kept.{restart_le}
use Rattle.edit.specs.declared.Job.{Job}
use Rattle.edit.specs.Job.{job_of}
use Rattle.edit.proofs.Calls.{Edited}
use Rattle.edit_change.specs.Change.{change_start, change_window, change_told, change_leaves, fits_change}

not_first : (x y : Bool) → (x && y) ≡ false → y ≡ true → x ≡ false
not_first false y h e = refl
not_first true y h e = absurd (true≢false (sym e ∙ h))

-- ---- a change that lies in the old text, and a new text as long as it says

module _ (len a b n size : ℕ) where
  pub record Fits : Type 0 where
    pub order : a ≤ b
    pub inside : b ≤ len
    pub same : size ≡ new_length len a b n

  pub fits_by : fits_change len a b n size ≡ true → Fits
  unfolding fits_change
  fits_by e =
      let x = both_true (leb a b && leb b len) (eqb size (new_length len a b n)) e in
      let y = both_true (leb a b) (leb b len) x.0 in
      record { order = leb-true a b y.0; inside = leb-true b len y.1; same = eqb-true size (new_length len a b n) x.1 }

  -- the new text reaches over the new bytes
  pub reaches : Fits → a + n ≤ size
  unfolding new_length
  reaches f = omega (arith, f.order, f.inside, f.same)

-- ---- the call

module _ (ws : List ℕ) (t : Table) (a b n : ℕ) (text : List ℕ) (m : ℕ) (new : List ℕ) where
  abbrev pub Changed : Told → List ℕ → Type 0
  Changed x ys = (x ≡ change_told ws t a b n text m) × (ys ≡ change_leaves ws t a b n text new)

  pub change_3 : well_formed ws t ≡ false → Changed (Err (unread NotWellFormed start_place 0)) new
  unfolding change_told change_leaves
  change_3 e = rw e (refl, refl)

  module _ (f : well_formed ws t ≡ true) where
    other_length : eqb (length text) (new_length t.length a b n) ≡ false → Changed (Err (unread EditNotSensible start_place 0)) new
    unfolding change_told change_leaves
    other_length e = rw (f, e) (refl, refl)

    outside : eqb (length text) (new_length t.length a b n) ≡ true → (leb a b && leb b t.length) ≡ false
        → Changed (Err (unread EditNotSensible start_place 0)) new
    unfolding change_told change_leaves edit_told edit_leaves sensible
    outside e h = rw (f, e, h) (refl, refl)

    pub change_6 : fits_change t.length a b n (length text) ≡ false → Changed (Err (unread EditNotSensible start_place 0)) new
    unfolding fits_change
    change_6 h = by (eqb (length text) (new_length t.length a b n)) refl
      where
        by : (x : Bool) → eqb (length text) (new_length t.length a b n) ≡ x → Changed (Err (unread EditNotSensible start_place 0)) new
        by false e = other_length e
        by true e = outside e (not_first (leb a b && leb b t.length) _ h e)

    module _ (s : Fits t.length a b n (length text)) where
      pub start_inside : change_start ws t a ≤ length text
      start_inside = omega (arith, restart_le a (rows_in t.count ws), reaches t.length a b n (length text) s)

      pub change_edit : (x : Told) (ys : List ℕ) → Edited ws t a b n (change_start ws t a) (drop (change_start ws t a) text) m new x ys
          → Changed x ys
      unfolding change_told change_leaves change_window
      change_edit x ys e = rw (f, eq-eqb (length text) (new_length t.length a b n) s.same) e

      module _ (j : Job) (q : j ≡ job_of ws t a b n) where
        pub job_inside : j.begin.offset.0 ≤ length text
        job_inside = subst (λ (i : Job). i.begin.offset.0 ≤ length text) (sym q) start_inside

        -- the edit from the job's restart place on, lent the text's tail
        abbrev tail_edited : Job → Told → List ℕ → Type 0
        tail_edited i =
            let k : ℕ = i.begin.offset.0 in
            Edited ws t a b n k (take (length text - k) (drop k text)) m new

        pub change_job : (x : Told) (ys : List ℕ) → tail_edited j x ys → Changed x ys
        change_job x ys e =
            let g : tail_edited (job_of ws t a b n) x ys = subst (λ (i : Job). tail_edited i x ys) q e in
            change_edit x ys (rw (lent_tail text (change_start ws t a) start_inside) at g)
