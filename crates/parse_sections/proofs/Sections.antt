-- Sections: the first section's kind holds, the last licence's row, and a section's text is a part of the table's text.
use mathlib.Core.Path.{◌≡◌, refl, sym, ap, ◌∙◌}
use mathlib.Core.Bool.{Bool, true, false, cond}
use mathlib.Core.List.{List, [], ◌∷◌, ◌++◌}
use Prim.Native.Nat.{ℕ, suc, ◌+◌, ◌-◌, ◌≤◌, ◌<◌}
use native.Mathlib.Omega.{arith}
use lib.Dec.{eqb, ltb}
use lib.ListN.{length, get_or, take, drop, length-drop}
use lib.Seq.{length-take-le, take-take, take-nil, drop-drop, get_or-take, get_or-drop}
use borrow.Author.Tests.{eqb-true, eq-eqb, ne_eqb, le-ltb, lt-ltb}
use Rattle.rules.specs.Tree.{content, section_text, kind_of_first}
use Rattle.rules.specs.Nodes.{missing}
use Rattle.parse_sections.specs.Sections.{kind_from, first_of, row_told, last_row}
use Rattle.std.specs.Prelude.{Option, Some, None}
use Rattle.std.specs.Option.{unwrap_or}

-- ---- kinds, and rows

pub kind_append : (xs ys : List (List ℕ)) → kind_from (xs ++ ys) ≡ first_of (kind_from xs) (kind_from ys)
unfolding kind_from
kind_append [] ys = refl
kind_append (w ∷ ws) ys = refl

pub kind_known : (xs : List (List ℕ)) → kind_of_first xs ≡ unwrap_or (kind_from xs) 10
unfolding kind_from kind_of_first
kind_known [] = refl
kind_known (w ∷ ws) = refl

pub first_none : (x : Option ℕ) → first_of x None ≡ x
first_none None = refl
first_none (Some x) = refl

-- the first kind of all, where one more is told
pub first_some : (x : Option ℕ) (k : ℕ) → first_of x (Some k) ≡ Some (unwrap_or x k)
first_some None k = refl
first_some (Some x) k = refl

-- a licence's row is a row
pub row_here : (i : ℕ) → i ≤ 65535 → row_told (i + 1) ≡ Some (i + 1)
row_here i h = rw (ne_eqb (i + 1) missing (λ e. omega arith))

-- a row, or `missing`
pub or_row : (r : ℕ) → unwrap_or (row_told r) missing ≡ r
or_row r = go (eqb r missing) refl
  where
    go : (b : Bool) → eqb r missing ≡ b → unwrap_or (cond b None (Some r)) missing ≡ r
    go true e = sym (eqb-true r missing e)
    go false e = refl

-- of two numbers the last that tells a row
pub last_told : (x y : ℕ) → last_row (row_told x) (row_told y) ≡ row_told (cond (eqb y missing) x y)
last_told x y = go (eqb y missing) refl
  where
    go : (b : Bool) → eqb y missing ≡ b → last_row (row_told x) (cond b None (Some y)) ≡ row_told (cond b x y)
    go true e = refl
    go false e = rw e

-- ---- a section's text

tail_take : (n : ℕ) (l : List ℕ) → drop 1 (take (suc n) l) ≡ take n (drop 1 l)
tail_take n [] = sym (take-nil n)
tail_take n (x ∷ l) = refl

section_of : (w c : List ℕ) → content w ≡ c
    → section_text w ≡ cond (ltb 0 (length c)) (cond (eqb (get_or c (length c - 1) 0) 34) (take (length c - 1) c) c) c
unfolding section_text
section_of w c e = rw e

-- the string is the text from a to e
module _ (t : List ℕ) (a e : ℕ) (two : a + 2 ≤ e) (inside : e ≤ length t) where
  -- between its quotes
  abbrev between : List ℕ
  between = take (e - 1 - (a + 1)) (drop (a + 1) t)

  behind_long : length (drop (a + 1) t) ≡ length t - (a + 1)
  behind_long = length-drop (a + 1) t

  between_long : length between ≡ e - 1 - (a + 1)
  between_long = length-take-le (e - 1 - (a + 1)) (drop (a + 1) t) (omega (arith, behind_long))

  content_is : content (take (e - a) (drop a t)) ≡ between
  unfolding content
  content_is =
      let long : length (take (e - a) (drop a t)) ≡ e - a = length-take-le (e - a) (drop a t) (omega (arith, length-drop a t)) in
      let n : e - a ≡ suc (e - a - 1) = omega arith in
      let k : e - a - 2 ≡ e - 1 - (a + 1) = omega arith in
      rw (long, k) (ap (λ (x : ℕ). take (e - 1 - (a + 1)) (drop 1 (take x (drop a t)))) n
      ∙ ap (take (e - 1 - (a + 1))) (tail_take (e - a - 1) (drop a t))
      ∙ take-take (e - 1 - (a + 1)) (e - a - 1) (drop 1 (drop a t)) (omega arith)
      ∙ ap (take (e - 1 - (a + 1))) (drop-drop 1 a t))

  text_is : section_text (take (e - a) (drop a t))
      ≡ cond (ltb 0 (length between)) (cond (eqb (get_or between (length between - 1) 0) 34)
      (take (length between - 1) between) between) between
  text_is = section_of (take (e - a) (drop a t)) between content_is

  pub text_empty : e - 1 ≤ a + 1 → section_text (take (e - a) (drop a t)) ≡ between
  text_empty h = text_is ∙ rw (le-ltb 0 (length between) (omega (arith, between_long)))

  module _ (h : a + 1 < e - 1) where
    last_byte : get_or between (length between - 1) 0 ≡ get_or t (e - 1 - 1) 0
    last_byte =
        let k : a + 1 + (length between - 1) ≡ e - 1 - 1 = omega (arith, between_long) in
        get_or-take (e - 1 - (a + 1)) (drop (a + 1) t) (length between - 1) 0 (omega (arith, between_long))
        ∙ get_or-drop (a + 1) t (length between - 1) 0 ∙ ap (λ (i : ℕ). get_or t i 0) k

    some : ltb 0 (length between) ≡ true
    some = lt-ltb 0 (length between) (omega (arith, between_long))

    pub text_plain : (get_or t (e - 1 - 1) 0 ≡ 34 → ⊥) → section_text (take (e - a) (drop a t)) ≡ between
    text_plain n = text_is ∙ rw (some, ne_eqb (get_or between (length between - 1) 0) 34 (λ q. n (sym last_byte ∙ q)))

    pub text_quoted : get_or t (e - 1 - 1) 0 ≡ 34 → section_text (take (e - a) (drop a t)) ≡ take (e - 1 - 1 - (a + 1)) (drop (a + 1) t)
    text_quoted q =
        let k : length between - 1 ≡ e - 1 - 1 - (a + 1) = omega (arith, between_long) in
        text_is ∙ rw (some, eq-eqb (get_or between (length between - 1) 0) 34 (last_byte ∙ q))
        (ap (λ (x : ℕ). take x between) k
        ∙ take-take (e - 1 - 1 - (a + 1)) (e - 1 - (a + 1)) (drop (a + 1) t) (omega arith))
