-- Lines and columns of a text are under the line rules of a well-formed table.
use Prim.Native.Nat.{ℕ, ◌+◌, ◌-◌, ◌≤◌}
use native.Mathlib.Omega.{arith}
use mathlib.Core.Bool.{Bool, true, false, not, ◌||◌}
use mathlib.Core.List.{List, [], ◌∷◌, reverse}
use mathlib.Core.Path.{◌≡◌, refl, ap, ◌∙◌}
use lib.Dec.{eqb}
use lib.ListN.{length, drop, take, length-take, length-drop, length-reverse}
use lib.Seq.{length-take-le}
use borrow.Author.Tests.{eqb-true, eq-eqb, le-leb}
use Rattle.rules.specs.declared.Cursor.{Cursor}
use Rattle.rules.specs.Text.{front, newlines, not_newline, line_at, column_at, place_at, moved, over}
use Rattle.rules.specs.Rows.{place_fits, lines_fit}
use Rattle.laws.proofs.Fronts.{front_le}
use Rattle.laws.proofs.Places.{place_eq, over_offset, newlines_le, place_add}

-- ---- line and column never exceed offset + 1

pub place_fits_lem : (t : List ℕ) (k : ℕ) → place_fits (place_at t k) ≡ true
unfolding place_fits place_at line_at column_at
place_fits_lem t k =
    let n : length (take k t) ≤ k = rw (length-take k t) (omega arith) in
    let l : newlines (take k t) ≤ length (take k t) = newlines_le (take k t) in
    let c : front not_newline (reverse (take k t)) ≤ length (take k t) = rw (length-reverse (take k t)) at (front_le not_newline (reverse (take k t))) in
    rw (
      le-leb 1 (1 + newlines (take k t)) (omega arith),
      le-leb 1 (1 + front not_newline (reverse (take k t))) (omega arith),
      le-leb (1 + newlines (take k t)) (k + 1) (omega arith),
      le-leb (1 + front not_newline (reverse (take k t))) (k + 1) (omega arith),
    )

-- ---- lines don't fall; on one line column differences equal offset differences

record Lines (c d : Cursor) : Type 0 where
  past : c.offset.0 ≤ d.offset.0
  down : c.line.0 ≤ d.line.0
  along : c.line.0 ≡ d.line.0 → d.column.0 + c.offset.0 ≡ c.column.0 + d.offset.0

lines_moved : (b : ℕ) (c d : Cursor) → Lines c d → Lines c (moved d b)
unfolding moved
lines_moved b c d h = by (eqb b 10) refl
  where
    by : (q : Bool) → eqb b 10 ≡ q → Lines c (moved d b)
    by true q = rw (moved, q) (record { past = omega arith; down = omega arith; along = λ e. absurd (let z : ⊥ = omega arith in z) })
    by false q =
        rw (moved, q) (record {
          past = omega arith;
          down = h.down;
          along = λ e. let l : d.column.0 + c.offset.0 ≡ c.column.0 + d.offset.0 = h.along e in omega arith;
        })

lines_over : (s : List ℕ) (c d : Cursor) → Lines c d → Lines c (over d s)
unfolding over
lines_over [] c d h = h
lines_over (b ∷ s) c d h = lines_over s c (moved d b) (lines_moved b c d h)

lines_fit_lem : {c d : Cursor} → Lines c d → lines_fit c d ≡ true
unfolding lines_fit
lines_fit_lem {c} {d} h = rw (le-leb c.line.0 d.line.0 h.down) (by (eqb c.line.0 d.line.0) refl)
  where
    by : (q : Bool) → eqb c.line.0 d.line.0 ≡ q → (not q || eqb (d.column.0 + c.offset.0) (c.column.0 + d.offset.0)) ≡ true
    by true q = eq-eqb _ _ (h.along (eqb-true _ _ q))
    by false q = refl

pub places_fit : (t : List ℕ) (j k : ℕ) → j ≤ k → k ≤ length t → lines_fit (place_at t j) (place_at t k) ≡ true
unfolding place_at
places_fit t j k l h =
    let s : List ℕ = take (k - j) (drop j t) in
    let d : length (drop j t) ≡ length t - j = length-drop j t in
    let n : length s ≡ k - j = length-take-le (k - j) (drop j t) (omega arith) in
    let o : (over (place_at t j) s).offset.0 ≡ j + length s = over_offset (place_at t j) s in
    let q : k ≡ j + (k - j) = omega arith in
    let e : place_at t k ≡ over (place_at t j) s = ap (place_at t) q ∙ place_add t j (k - j) ∙ place_eq _ _ (omega arith) refl refl in
    rw e (lines_fit_lem (lines_over s (place_at t j) (place_at t j) (record { past = omega arith; down = omega arith; along = λ x. omega arith })))
