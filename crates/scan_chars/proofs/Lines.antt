-- What the code relies on of the table's lines: how long the line of each byte is and what may stand second, by a test of all bytes; and
-- how many bytes lie in a line, by its second range and by how many tails follow.
use mathlib.Core.Path.{◌≡◌, refl, ap, sym, ◌∙◌}
use mathlib.Core.Bool.{Bool, true, false, cond, ◌&&◌, true≢false}
use mathlib.Core.List.{List, [], ◌∷◌}
use Prim.Native.Nat.{ℕ, suc, ◌+◌, ◌-◌, ◌≤◌, ◌<◌, min}
use native.Mathlib.Numerals.{add-one}
use native.Mathlib.Omega.{arith}
use lib.Dec.{eqb, leb, ltb}
use lib.ListN.{length, drop, get_or, length-drop, drop_of_length-le}
use lib.Seq.{drop-cons}
use borrow.Author.Tests.{eqb-true, ne_eqb, lt-ltb, le-ltb, leb-true, le-leb, lt-leb}
use Rattle.rules.specs.Text.{front, within, Range, is_tail, utf8, met, line_in, line_of, char_at, is_cut}
use Rattle.laws.specs.Tests.{all_below}
use Rattle.laws.proofs.Tests.{below, both_true, true_both, false_by}
use Rattle.laws.proofs.Fronts.{front_in, front_out}
use Rattle.laws.proofs.Chars.{each, line_each, front_char, front_none, cut_nil}
use Rattle.scan_chars.specs.Lines.{second}

-- ---- each byte

abbrev size_of : ℕ → ℕ
size_of b = cond (ltb b 0x80) 1 (cond (ltb b 0xC2) 0 (cond (ltb b 0xE0) 2 (cond (ltb b 0xF0) 3 (cond (ltb b 0xF5) 4 0))))

abbrev pub low_of : ℕ → ℕ
low_of b = cond (eqb b 0xE0) 0xA0 (cond (eqb b 0xF0) 0x90 0x80)

abbrev pub high_of : ℕ → ℕ
high_of b = cond (eqb b 0xED) 0x9F (cond (eqb b 0xF4) 0x8F 0xBF)

right : ℕ → Bool
right b = eqb (length (line_of b)) (size_of b) && (eqb (second (line_of b)).lo (low_of b) && eqb (second (line_of b)).hi (high_of b))

all_right : all_below right 256 ≡ true
unfolding right utf8 met line_in second
all_right = refl

module _ (b : ℕ) (h : b < 256) where
  size_is : length (line_of b) ≡ size_of b
  unfolding right
  size_is = eqb-true (length (line_of b)) (size_of b) (both_true (eqb (length (line_of b)) (size_of b)) _ (below right 256 all_right b h)).0

  pub size_one : b < 0x80 → length (line_of b) ≡ 1
  size_one hi = size_is ∙ rw (lt-ltb b 0x80 hi)

  pub size_none : 0x80 ≤ b → b < 0xC2 → length (line_of b) ≡ 0
  size_none lo hi = size_is ∙ rw (le-ltb b 0x80 lo, lt-ltb b 0xC2 hi)

  pub size_two : 0xC2 ≤ b → b < 0xE0 → length (line_of b) ≡ 2
  size_two lo hi = size_is ∙ rw (le-ltb b 0x80 (omega arith), le-ltb b 0xC2 lo, lt-ltb b 0xE0 hi)

  pub size_three : 0xE0 ≤ b → b < 0xF0 → length (line_of b) ≡ 3
  size_three lo hi = size_is ∙ rw (le-ltb b 0x80 (omega arith), le-ltb b 0xC2 (omega arith), le-ltb b 0xE0 lo, lt-ltb b 0xF0 hi)

  pub size_four : 0xF0 ≤ b → b < 0xF5 → length (line_of b) ≡ 4
  size_four lo hi =
      size_is
      ∙ rw (le-ltb b 0x80 (omega arith), le-ltb b 0xC2 (omega arith), le-ltb b 0xE0 (omega arith), le-ltb b 0xF0 lo, lt-ltb b 0xF5 hi)

  pub size_above : 0xF5 ≤ b → length (line_of b) ≡ 0
  size_above lo =
      let k : 0xE0 ≤ b = omega arith in
      let l : 0xF0 ≤ b = omega arith in
      size_is ∙ rw (le-ltb b 0x80 (omega arith), le-ltb b 0xC2 (omega arith), le-ltb b 0xE0 k, le-ltb b 0xF0 l, le-ltb b 0xF5 lo)

  seconds : (eqb (second (line_of b)).lo (low_of b) && eqb (second (line_of b)).hi (high_of b)) ≡ true
  unfolding right
  seconds = (both_true (eqb (length (line_of b)) (size_of b)) _ (below right 256 all_right b h)).1

  pub low_is : (second (line_of b)).lo ≡ low_of b
  low_is = eqb-true _ _ (both_true (eqb (second (line_of b)).lo (low_of b)) _ seconds).0

  pub high_is : (second (line_of b)).hi ≡ high_of b
  high_is = eqb-true _ _ (both_true (eqb (second (line_of b)).lo (low_of b)) _ seconds).1

  module _ (n : b ≡ 0xE0 → ⊥) (m : b ≡ 0xF0 → ⊥) where
    pub low_other : 0x80 ≡ (second (line_of b)).lo
    low_other = rw (low_is, ne_eqb b 0xE0 n, ne_eqb b 0xF0 m)

  module _ (n : b ≡ 0xED → ⊥) (m : b ≡ 0xF4 → ⊥) where
    pub high_other : 0xBF ≡ (second (line_of b)).hi
    high_other = rw (high_is, ne_eqb b 0xED n, ne_eqb b 0xF4 m)

-- ---- how many bytes lie in a line

-- behind the second range only tails
plain : List Range → Bool
plain [] = true
plain (r ∷ rs) = (eqb r.lo 0x80 && eqb r.hi 0xBF) && plain rs

behind_second : List Range → Bool
behind_second [] = true
behind_second (r ∷ []) = true
behind_second (r ∷ q ∷ rs) = plain rs

line_plain : (b : ℕ) → behind_second (line_of b) ≡ true
unfolding plain behind_second utf8 each
line_plain b = line_each behind_second refl utf8 refl b

met_plain : (rs : List Range) (s : List ℕ) → plain rs ≡ true → met rs s ≡ min (length rs) (front is_tail s)
unfolding met plain front
met_plain [] s h = omega arith
met_plain (r ∷ rs) [] h = omega arith
met_plain (r ∷ rs) (b ∷ s) h =
    rw (lo, hi) (by (is_tail b) refl (met_plain rs s (both_true (eqb r.lo 0x80 && eqb r.hi 0xBF) (plain rs) h).1))
  where
    i : (eqb r.lo 0x80 ≡ true) × (eqb r.hi 0xBF ≡ true)
    i = both_true (eqb r.lo 0x80) (eqb r.hi 0xBF) (both_true (eqb r.lo 0x80 && eqb r.hi 0xBF) (plain rs) h).0

    lo : r.lo ≡ 0x80
    lo = eqb-true r.lo 0x80 i.0

    hi : r.hi ≡ 0xBF
    hi = eqb-true r.hi 0xBF i.1

    by : (q : Bool) → is_tail b ≡ q → met rs s ≡ min (length rs) (front is_tail s)
        → cond (is_tail b) (suc (met rs s)) 0 ≡ min (suc (length rs)) (front is_tail (b ∷ s))
    by true e ih = rw (e, front_in is_tail b s e) (omega arith)
    by false e ih = rw (e, front_out is_tail b s e) (omega arith)

-- a byte lies in the first range of its line
data First (b : ℕ) : List Range → Type 0 where
  lacks : First b []
  has : {r : Range} {rs : List Range} → within r.lo r.hi b ≡ true → First b (r ∷ rs)

met_first : (rs : List Range) (b : ℕ) → eqb (met rs (b ∷ [])) 1 ≡ true → First b rs
unfolding met
met_first [] b e = lacks
met_first (r ∷ rs) b e = by (within r.lo r.hi b) refl e
  where
    by : (q : Bool) → within r.lo r.hi b ≡ q → eqb (cond q (suc (met rs [])) 0) 1 ≡ true → First b (r ∷ rs)
    by true f e = has f
    by false f e = absurd (true≢false (sym e))

line_first : (lines : List (List Range)) (b : ℕ) → First b (line_in lines b)
unfolding line_in
line_first [] b = lacks
line_first (rs ∷ lines) b = by (eqb (met rs (b ∷ [])) 1) refl (line_first lines b)
  where
    by : (q : Bool) → eqb (met rs (b ∷ [])) 1 ≡ q → First b (line_in lines b) → First b (cond q rs (line_in lines b))
    by true e ih = met_first rs b e
    by false e ih = ih

-- the ways of the code
one_in : {b : ℕ} {rs : List Range} → First b rs → (s : List ℕ) → length rs ≤ 1 → met rs (b ∷ s) ≡ length rs
unfolding met
one_in lacks s h = refl
one_in (has {rs = []} e) s h = rw e
one_in (has {rs = q ∷ rs} e) s h = absurd (let y : ⊥ = omega arith in y)

end_in : {b : ℕ} {rs : List Range} → First b rs → 1 ≤ length rs → met rs (b ∷ []) ≡ 1
unfolding met
end_in lacks h = absurd (let y : ⊥ = omega arith in y)
end_in (has {rs = []} e) h = rw e
end_in (has {rs = q ∷ rs} e) h = rw e

out_of_second : {b : ℕ} {rs : List Range} → First b rs → (c : ℕ) (s : List ℕ) → 2 ≤ length rs
    → within (second rs).lo (second rs).hi c ≡ false → met rs (b ∷ c ∷ s) ≡ 1
unfolding met second
out_of_second lacks c s h f = absurd (let y : ⊥ = omega arith in y)
out_of_second (has {rs = []} e) c s h f = absurd (let y : ⊥ = omega arith in y)
out_of_second (has {rs = q ∷ rs} e) c s h f = rw (e, f)

in_second : {b : ℕ} {rs : List Range} → First b rs → behind_second rs ≡ true → (c : ℕ) (s : List ℕ) → 2 ≤ length rs
    → within (second rs).lo (second rs).hi c ≡ true → met rs (b ∷ c ∷ s) ≡ 2 + min (length rs - 2) (front is_tail s)
unfolding met second behind_second
in_second lacks p c s h f = absurd (let y : ⊥ = omega arith in y)
in_second (has {rs = []} e) p c s h f = absurd (let y : ⊥ = omega arith in y)
in_second (has {rs = q ∷ rs} e) p c s h f = rw (e, f) (omega (arith, met_plain rs s p))

-- ---- a byte and a range

pub below_range : (lo hi b : ℕ) → b < lo → within lo hi b ≡ false
below_range lo hi b h = rw (lt-leb lo b h)

pub above_range : (lo hi b : ℕ) → hi < b → within lo hi b ≡ false
above_range lo hi b h = false_by (within lo hi b) (λ e. omega (arith, leb-true b hi (both_true (leb lo b) (leb b hi) e).1))

pub in_range : (lo hi b : ℕ) → lo ≤ b → b ≤ hi → within lo hi b ≡ true
in_range lo hi b h l = true_both (le-leb lo b h) (le-leb b hi l)

-- ---- at an index of a text

module _ (t : List ℕ) (i : ℕ) (h : i < length t) where
  abbrev at : List Range
  at = line_of (get_or t i 0)

  first : First (get_or t i 0) at
  first = line_first utf8 (get_or t i 0)

  -- a character, or none
  pub char_yes : met at (drop i t) ≡ length at → length at ≡ char_at (drop i t)
  char_yes e = rw (drop-cons t i 0 h) (sym (front_char (get_or t i 0) (drop (suc i) t) (rw (drop-cons t i 0 h) at e)))

  pub char_no : (met at (drop i t) ≡ length at → ⊥) → 0 ≡ char_at (drop i t)
  char_no e =
      rw (drop-cons t i 0 h) (sym (front_none (get_or t i 0) (drop (suc i) t) (λ f. e (rw (drop-cons t i 0 h) f))))

  -- a cut one, or none
  cut_test : is_cut (drop i t) ≡ (eqb (met at (drop i t)) (length t - i) && ltb (length t - i) (length at))
  unfolding is_cut
  cut_test =
      let e : length t - i ≡ suc (length (drop (suc i) t)) = omega (arith, length-drop (suc i) t) in
      rw (drop-cons t i 0 h, e)

  pub cut_no : length at ≤ length t - i → false ≡ is_cut (drop i t)
  cut_no l = sym (cut_test ∙ rw (le-ltb (length t - i) (length at) l) (by (eqb (met at (drop i t)) (length t - i))))
    where
      by : (q : Bool) → (q && false) ≡ false
      by true = refl
      by false = refl

  pub cut_by : length t - i < length at → eqb (met at (drop i t)) (length t - i) ≡ is_cut (drop i t)
  cut_by l = sym (cut_test ∙ rw (lt-ltb (length t - i) (length at) l) (by (eqb (met at (drop i t)) (length t - i))))
    where
      by : (q : Bool) → (q && true) ≡ q
      by true = refl
      by false = refl

  -- the ways of the code through a line
  pub met_one : length at ≤ 1 → length at ≡ met at (drop i t)
  met_one l = rw (drop-cons t i 0 h) (sym (one_in first (drop (suc i) t) l))

  pub char_none : length at ≡ 0 → char_at (drop i t) ≡ 0
  char_none e = let m : length at ≤ 1 = omega arith in sym (char_yes (sym (met_one m))) ∙ e

  pub met_end : 1 ≤ length at → length t ≤ i + 1 → 1 ≡ met at (drop i t)
  met_end l e = rw (drop-cons t i 0 h, drop_of_length-le t {i = suc i} (omega arith)) (sym (end_in first l))

  module _ (l : 2 ≤ length at) (k : i + 1 < length t) where
    two : drop i t ≡ get_or t i 0 ∷ get_or t (i + 1) 0 ∷ drop (i + 2) t
    two =
        let e : suc (suc i) ≡ i + 2 = omega arith in
        drop-cons t i 0 h ∙ ap (◌∷◌ (get_or t i 0)) (rw (← add-one i, drop-cons t (i + 1) 0 k, add-one i, e))

    pub met_out : within (second at).lo (second at).hi (get_or t (i + 1) 0) ≡ false → 1 ≡ met at (drop i t)
    met_out f = rw two (sym (out_of_second first (get_or t (i + 1) 0) (drop (i + 2) t) l f))

    pub met_in : within (second at).lo (second at).hi (get_or t (i + 1) 0) ≡ true
        → 2 + min (length at - 2) (front is_tail (drop (i + 2) t)) ≡ met at (drop i t)
    met_in f = rw two (sym (in_second first (line_plain (get_or t i 0)) (get_or t (i + 1) 0) (drop (i + 2) t) l f))

-- nothing is left
pub cut_end : (t : List ℕ) (i : ℕ) → length t ≤ i → true ≡ is_cut (drop i t)
cut_end t i h = rw (drop_of_length-le t h) (sym cut_nil)
