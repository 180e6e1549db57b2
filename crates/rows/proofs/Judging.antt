-- Laws of what a call for a row's spelling is told, case by case, and what follows where all is well.
use Rattle.std.proofs.Common.{◌≡◌, ℕ, ◌+◌, ◌-◌, ◌*◌, ◌<◌, ◌≤◌, cond, ltb, List, [], length, take, drop, refl, arith, ltb-true, le-ltb, lt-ltb}
use Rattle.rules.specs.declared.Cursor.{Cursor}
use Rattle.rules.specs.declared.Table.{Table}
use Rattle.rules.specs.declared.Unfit.{Unfit}
use Rattle.rules.specs.declared.Outer.{Outer}
use Rattle.rules.specs.declared.Outer.TheVariants.{NotWellFormed}
use Rattle.rules.specs.Outcomes.{Judged, unfit}
use Rattle.std.specs.declared.result.Result.TheVariants.{Ok, Err}
use Rattle.rules.specs.Text.{start_place}
use Rattle.rules.specs.Rows.{spelling}
use Rattle.rules.specs.Calls.{judged, spelling_judged, spelling_part}
use Rattle.rows.specs.Shape.{row_no}
use Rattle.laws.proofs.Calls.{test_fine, judged_fine}
use Rattle.rows.proofs.Inside.{fine, row_sound, within}

module _ (t ws : List ℕ) (tbl : Table) where
  module _ (row : ℕ) where
    pub told_refused : {e : Unfit} → judged t ws tbl ≡ Err e → spelling_judged t ws tbl row ≡ Err e
    unfolding spelling_judged
    told_refused e = rw (spelling_judged, e)

    pub told_row : judged t ws tbl ≡ Ok tt → row < tbl.count → spelling_judged t ws tbl row ≡ Ok tt
    unfolding spelling_judged
    told_row e h = rw (spelling_judged, e) (rw (lt-ltb row tbl.count h))

    pub told_past : judged t ws tbl ≡ Ok tt → tbl.count ≤ row → spelling_judged t ws tbl row ≡ Err (unfit NotWellFormed start_place)
    unfolding spelling_judged
    told_past e h = rw (spelling_judged, e) (rw (le-ltb row tbl.count h))

    -- where a spelling is told, the row lies in the text
    pub record Told : Type 0 where
      pub lent : row * 8 + 8 ≤ length ws
      pub ordered : (row_no ws row).start ≤ (row_no ws row).end
      pub within : (row_no ws row).end ≤ length t

    pub told : spelling_judged t ws tbl row ≡ Ok tt → Told
    unfolding spelling_judged
    told e = go (judged t ws tbl) refl e
      where
        inside : judged t ws tbl ≡ Ok tt → row < tbl.count → Told
        inside j h =
            let w = judged_fine t ws tbl j in
            let f = fine ws tbl w.0 in
            record { lent = omega (arith, f.lent); ordered = (row_sound f row h).ordered; within = omega (arith, within f row h, w.1) }

        go : (v : Judged) → judged t ws tbl ≡ v →
            elim v as (λ _. Judged) [ Ok _ ↦ cond (ltb row tbl.count) (Ok tt) (Err (unfit NotWellFormed start_place)) | Err e ↦ Err e ] ≡ Ok tt
            → Told
        go (Ok _) j e = inside j (ltb-true row tbl.count (test_fine (ltb row tbl.count) start_place e))
        go (Err refusal) j e = absurd (let z : ◌≡◌ {A = ℕ} 0 1 = cc in omega arith)

    pub part_fine : spelling_judged t ws tbl row ≡ Ok tt → spelling_part t ws tbl row ≡ take ((row_no ws row).end - (row_no ws row).start) (drop (row_no ws row).start t)
    unfolding spelling_part spelling
    part_fine e = rw (spelling_part, e)

    pub part_refused : {e : Unfit} → spelling_judged t ws tbl row ≡ Err e → spelling_part t ws tbl row ≡ []
    unfolding spelling_part
    part_refused e = rw (spelling_part, e)
