-- All that the theorems on edits know of `begin`, `step` and `finish`: a machine in a gap only begins, and no row holds a newline.
use Prim.Native.Nat.{ℕ}
use mathlib.Core.Bool.{Bool, true, false, cond, not, ◌&&◌, true≢false}
use mathlib.Core.List.{List, [], ◌∷◌}
use mathlib.Core.Path.{◌≡◌, refl, sym, ◌∙◌}
use lib.Dec.{eqb, leb}
use Rattle.rules.specs.Text.{is_blank}
use Rattle.rules.specs.Kinds
use Rattle.rules.specs.Kinds.{Spelt, signs, same_bytes, kind_in}
use Rattle.rules.specs.Lex.{is_digit, is_letter, is_word, is_hex_digit, is_escape, largest, is_lone}
use Rattle.laws.proofs.Tests.{both_true}
use Rattle.theory_machine.specs.Machine.{St, gap, slash, line, block, star, minus, str, esc, two, name, zer, hex0, dec, hex, First, go, clear, over, bad, Move, fresh, on, back, Last, clean, ended, cut, number, begin, step, finish}

pub step_gap : (k b : ℕ) → step gap k b ≡ fresh
unfolding step
step_gap k b = refl

pub finish_gap : (k : ℕ) → finish gap k ≡ clean
unfolding finish
finish_gap k = refl

-- ---- no row holds a newline

unfoldable pub comment : St → Bool
comment gap = false
comment slash = false
comment line = true
comment block = true
comment star = true
comment minus = false
comment str = false
comment esc = false
comment (two x) = false
comment (name w) = false
comment (zer n) = false
comment (hex0 n) = false
comment (dec n v) = false
comment (hex n v) = false

-- a comment goes on or is over
unfoldable pub stays : Move → Bool
stays fresh = false
stays (on (go st)) = comment st
stays (on clear) = true
stays (on (over x)) = false
stays (on (bad why x)) = false
stays (back x) = false

-- the byte is not taken into a row
unfoldable pub halts : First → Bool
halts (go st) = false
halts clear = true
halts (over x) = false
halts (bad why x) = true

unfoldable pub ceases : Move → Bool
ceases fresh = true
ceases (on x) = halts x
ceases (back x) = true

if_stays : (t : Bool) (x y : Move) → stays x ≡ true → stays y ≡ true → stays (cond t x y) ≡ true
if_stays true x y p q = p
if_stays false x y p q = q

pub comment_stays : (st : St) (k b : ℕ) → comment st ≡ true → stays (step st k b) ≡ true
unfolding comment stays step
comment_stays gap k b h = absurd (true≢false (sym h))
comment_stays slash k b h = absurd (true≢false (sym h))
comment_stays line k b h = if_stays (eqb b 10) _ _ refl refl
comment_stays block k b h = if_stays (eqb b 42) _ _ refl refl
comment_stays star k b h = if_stays (eqb b 47) _ _ refl (if_stays (eqb b 42) _ _ refl refl)
comment_stays minus k b h = absurd (true≢false (sym h))
comment_stays str k b h = absurd (true≢false (sym h))
comment_stays esc k b h = absurd (true≢false (sym h))
comment_stays (two x) k b h = absurd (true≢false (sym h))
comment_stays (name w) k b h = absurd (true≢false (sym h))
comment_stays (zer n) k b h = absurd (true≢false (sym h))
comment_stays (hex0 n) k b h = absurd (true≢false (sym h))
comment_stays (dec n v) k b h = absurd (true≢false (sym h))
comment_stays (hex n v) k b h = absurd (true≢false (sym h))

if_ceases : (t : Bool) (x y : Move) → ceases x ≡ true → ceases y ≡ true → ceases (cond t x y) ≡ true
if_ceases true x y p q = p
if_ceases false x y p q = q

number_ceases : (n : Bool) (v : ℕ) → ceases (number n v) ≡ true
unfolding number ceases halts
number_ceases n v = if_ceases (leb v largest) _ _ refl refl

-- no sign of two bytes has y behind its first
second_is : ℕ → List ℕ → Bool
second_is y [] = false
second_is y (a ∷ []) = false
second_is y (a ∷ c ∷ s) = eqb c y

no_second : ℕ → List Spelt → Bool
no_second y [] = true
no_second y (e ∷ es) = not (second_is y e.spelling) && no_second y es

same_second : (x y : ℕ) (s : List ℕ) → same_bytes s (x ∷ y ∷ []) ≡ true → second_is y s ≡ true
unfolding same_bytes second_is
same_second x y [] h = h
same_second x y (a ∷ []) h = (both_true (eqb a x) false h).1
same_second x y (a ∷ c ∷ s) h = (both_true (eqb c y) _ (both_true (eqb a x) _ h).1).0

no_sign : (x y d : ℕ) (es : List Spelt) → no_second y es ≡ true → kind_in es d (x ∷ y ∷ []) ≡ d
unfolding kind_in no_second
no_sign x y d [] h = refl
no_sign x y d (e ∷ es) h = by (same_bytes e.spelling (x ∷ y ∷ [])) refl (second_is y e.spelling) refl h (no_sign x y d es)
  where
    by : (p : Bool) → same_bytes e.spelling (x ∷ y ∷ []) ≡ p → (q : Bool) → second_is y e.spelling ≡ q → (not q && no_second y es) ≡ true
        → (no_second y es ≡ true → kind_in es d (x ∷ y ∷ []) ≡ d) → kind_in (e ∷ es) d (x ∷ y ∷ []) ≡ d
    by true p true q h ih = absurd (true≢false (sym h))
    by true p false q h ih = absurd (true≢false (sym (same_second x y e.spelling p) ∙ q))
    by false p true q h ih = absurd (true≢false (sym h))
    by false p false q h ih = rw (kind_in, p) (ih h)

two_newline : (x k : ℕ) → ceases (step (two x) k 10) ≡ true
unfolding step ceases halts no_second second_is signs
two_newline x k = rw (step, no_sign x 10 Kinds.Eof signs refl) (if_ceases (is_lone x) _ _ refl refl)

pub newline_ceases : (st : St) (k : ℕ) → comment st ≡ false → ceases (step st k 10) ≡ true
unfolding comment ceases halts step is_digit is_letter is_word is_hex_digit is_escape
newline_ceases gap k h = refl
newline_ceases slash k h = refl
newline_ceases line k h = absurd (true≢false h)
newline_ceases block k h = absurd (true≢false h)
newline_ceases star k h = absurd (true≢false h)
newline_ceases minus k h = refl
newline_ceases str k h = refl
newline_ceases esc k h = refl
newline_ceases (two x) k h = two_newline x k
newline_ceases (name w) k h = refl
newline_ceases (zer n) k h = number_ceases n 0
newline_ceases (hex0 n) k h = refl
newline_ceases (dec n v) k h = number_ceases n v
newline_ceases (hex n v) k h = number_ceases n v

pub newline_begins : halts (begin 10) ≡ true
unfolding halts begin is_blank
newline_begins = refl

unfoldable pub closes : Last → Bool
closes clean = true
closes (ended x) = false
closes (cut why x) = true

pub comment_closes : (st : St) (k : ℕ) → comment st ≡ true → closes (finish st k) ≡ true
unfolding comment closes finish
comment_closes gap k h = refl
comment_closes slash k h = absurd (true≢false (sym h))
comment_closes line k h = refl
comment_closes block k h = refl
comment_closes star k h = refl
comment_closes minus k h = absurd (true≢false (sym h))
comment_closes str k h = refl
comment_closes esc k h = refl
comment_closes (two x) k h = absurd (true≢false (sym h))
comment_closes (name w) k h = absurd (true≢false (sym h))
comment_closes (zer n) k h = absurd (true≢false (sym h))
comment_closes (hex0 n) k h = refl
comment_closes (dec n v) k h = absurd (true≢false (sym h))
comment_closes (hex n v) k h = absurd (true≢false (sym h))
