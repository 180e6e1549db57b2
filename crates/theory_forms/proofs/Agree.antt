-- Rows and an ending that agree with a text are what is counted over that text.
use mathlib.Core.Path.{◌≡◌, refl, sym, ap}
use mathlib.Core.Bool.{true}
use mathlib.Core.List.{List, [], ◌∷◌, ◌++◌}
use Prim.Native.Nat.{ℕ, zero, suc, ◌+◌, ◌*◌, ◌≤◌}
use native.Mathlib.Omega.{arith}
use lib.ListN.{length, take, drop, get_or, length-drop}
use lib.Seq.{take-add}
use lib.Dec.{eqb}
use borrow.Author.Tests.{eqb-true, eq-eqb}
use Rattle.laws.proofs.Tests.{both_true, true_both}
use Rattle.laws.proofs.Places.{place_eq}
use Rattle.laws.proofs.Rows.{front_words}
use Rattle.rules.specs.declared.Cursor.{Cursor}
use Rattle.rules.specs.Outcomes.{Ending, halt}
use Rattle.std.specs.declared.option.Option.TheVariants.{None, Some}
use Rattle.rules.specs.Text.{line_at, column_at, place_at}
use Rattle.rules.specs.Rows.{row_in, rows_in, row_words, row_place, every, words_per_row}
use Rattle.rules_forms.specs.Short.{short_row, shortened, placed_row, placed, placed_ending, on_one_line}
use Rattle.rules_forms.specs.Forms.{is_place_in, ending_agrees}

-- a place with the line and column of its offset is the place of its offset
pub place_of : (text : List ℕ) (p : Cursor) → is_place_in text p ≡ true → place_at text p.offset.0 ≡ p
unfolding is_place_in place_at
place_of text p e =
    let a = both_true (eqb p.line.0 (line_at text p.offset.0)) (eqb p.column.0 (column_at text p.offset.0)) e in
    place_eq _ p refl (sym (eqb-true _ _ a.0)) (sym (eqb-true _ _ a.1))

-- and the other way round
pub place_agrees : (text : List ℕ) (k : ℕ) → is_place_in text (place_at text k) ≡ true
unfolding is_place_in place_at
place_agrees text k = true_both (eq-eqb (line_at text k) (line_at text k) refl) (eq-eqb (column_at text k) (column_at text k) refl)

whole : (ws : List ℕ) → words_per_row ≤ length ws
    → (get_or ws 0 0 ∷ get_or ws 1 0 ∷ get_or ws 2 0 ∷ get_or ws 3 0 ∷ get_or ws 4 0 ∷ get_or ws 5 0 ∷ get_or ws 6 0 ∷ get_or ws 7 0 ∷ [])
    ≡ take words_per_row ws
unfolding row_words row_in
whole ws h = front_words ws h

-- the row at the front has its line and column back
front_placed : (text ws more : List ℕ) → words_per_row ≤ length ws → is_place_in text (row_place (row_in ws)) ≡ true
    → placed_row (place_at text) (short_row (row_in ws) ++ more) ≡ take words_per_row ws
unfolding placed_row short_row row_in row_place
front_placed text ws more h e =
    let c = place_of text (row_place (row_in ws)) e in
    let l : (place_at text (get_or ws 1 0)).line.0 ≡ get_or ws 3 0 = ap (λ (p : Cursor). p.line.0) c in
    let k : (place_at text (get_or ws 1 0)).column.0 ≡ get_or ws 4 0 = ap (λ (p : Cursor). p.column.0) c in
    rw (l, k) (whole ws h)

-- rows that agree with a text have their lines and columns back where these are counted over it
pub rows_placed : (text : List ℕ) (n : ℕ) (ws : List ℕ) → words_per_row * n ≤ length ws
    → every (λ r. is_place_in text (row_place r)) (rows_in n ws) ≡ true
    → placed (place_at text) n (shortened n ws) ≡ take (words_per_row * n) ws
unfolding placed shortened short_row rows_in every
rows_placed text zero ws h e = refl
rows_placed text (suc n) ws h e =
    let a =
    both_true (is_place_in text (row_place (row_in ws))) (every (λ r. is_place_in text (row_place r)) (rows_in n (drop words_per_row ws))) e in
    let k : words_per_row * suc n ≡ words_per_row + words_per_row * n = omega arith in
    let r = rows_placed text n (drop words_per_row ws) (omega (arith, length-drop words_per_row ws)) a.1 in
    let f = front_placed text ws (shortened n (drop words_per_row ws)) (omega arith) a.0 in
    rw (k, take-add words_per_row (words_per_row * n) ws, ← r, ← f)

-- and so has an ending
pub ending_placed : (text : List ℕ) (e : Ending) → ending_agrees text e ≡ true → placed_ending (place_at text) (placed_ending on_one_line e) ≡ e
unfolding ending_agrees on_one_line
ending_placed text None q = refl
ending_placed text (Some e) q = ap (λ (p : Cursor). Some (halt e.why p)) (place_of text e.at q)
