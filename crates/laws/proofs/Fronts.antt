-- Laws of the front of a list, the bytes that meet a test: how long it is, at an index of a text, of its first bytes, and in a line.
use mathlib.Core.Path.{◌≡◌, refl, sym, ap, ◌∙◌}
use mathlib.Core.Bool.{Bool, true, false, true≢false}
use mathlib.Core.List.{List, [], ◌∷◌}
use Prim.Native.Nat.{ℕ, zero, suc, ◌+◌, ◌≤◌, ◌<◌}
use native.Mathlib.Nat.{zero-add}
use native.Mathlib.Decide.{dec_lt}
use native.Mathlib.Numerals.{add-one}
use native.Mathlib.Omega.{arith}
use lib.ListN.{length, take, drop, get_or, drop_of_length-le, get_or-eq_default}
use lib.Seq.{drop-cons, drop-drop}
use borrow.Author.Tests.{ne_eqb}
use Rattle.rules.specs.Text.{front, not_newline}

-- ---- byte by byte

module _ (p : ℕ → Bool) where
  pub front_in : (b : ℕ) (s : List ℕ) → p b ≡ true → front p (b ∷ s) ≡ suc (front p s)
  unfolding front
  front_in b s e = rw (front, e)

  pub front_out : (b : ℕ) (s : List ℕ) → p b ≡ false → front p (b ∷ s) ≡ 0
  unfolding front
  front_out b s e = rw (front, e)

  -- what is left of a front behind its first byte
  pub front_rest : (b : ℕ) (s : List ℕ) (n : ℕ) → suc n ≤ front p (b ∷ s) → n ≤ front p s
  front_rest b s n h = by (p b) refl
    where
      by : (q : Bool) → p b ≡ q → n ≤ front p s
      by true e = omega (arith, front_in b s e)
      by false e = absurd (let y : ⊥ = omega (arith, front_out b s e) in y)

  pub front_le : (s : List ℕ) → front p s ≤ length s
  unfolding front
  front_le [] = omega arith
  front_le (b ∷ s) = by (p b) refl (front_le s)
    where
      by : (q : Bool) → p b ≡ q → front p s ≤ length s → front p (b ∷ s) ≤ suc (length s)
      by true e h = rw (front_in b s e) (omega arith)
      by false e h = rw (front_out b s e) (omega arith)

-- a narrower test has a shorter front
pub front_mono : (p q : ℕ → Bool) → ((b : ℕ) → p b ≡ true → q b ≡ true) → (s : List ℕ) → front p s ≤ front q s
unfolding front
front_mono p q h [] = omega arith
front_mono p q h (b ∷ s) = by (p b) refl (front_mono p q h s)
  where
    by : (x : Bool) → p b ≡ x → front p s ≤ front q s → front p (b ∷ s) ≤ front q (b ∷ s)
    by true e r = rw (front_in p b s e, front_in q b s (h b e)) (omega arith)
    by false e r = rw (front_out p b s e) (omega arith)

-- ---- at an index of a text

-- an index at which something other than 0 is read lies inside
pub inside : (t : List ℕ) (i b : ℕ) → get_or t i 0 ≡ b → 0 < b → i < length t
inside t i b e h = pick (dec_lt i (length t))
  where
    pick : Dec (i < length t) → i < length t
    pick (yes p) = p
    pick (no p) = omega (arith, get_or-eq_default t 0 {n = i} (omega arith))

module _ (p : ℕ → Bool) (t : List ℕ) (i : ℕ) where
  pub front_on : i < length t → p (get_or t i 0) ≡ true → front p (drop i t) ≡ 1 + front p (drop (i + 1) t)
  front_on h e = rw (drop-cons t i 0 h, add-one i) (front_in p _ _ e ∙ omega arith)

  pub front_off : i < length t → p (get_or t i 0) ≡ false → front p (drop i t) ≡ 0
  front_off h e = rw (drop-cons t i 0 h) (front_out p _ _ e)

  pub front_end : length t ≤ i → front p (drop i t) ≡ 0
  unfolding front
  front_end h = rw (drop_of_length-le t h)

-- what is left of a front behind n of its bytes
pub front_drop : (p : ℕ → Bool) (n : ℕ) (s : List ℕ) → n ≤ front p s → front p s ≡ n + front p (drop n s)
unfolding front
front_drop p zero s h = sym (zero-add _)
front_drop p (suc n) [] h = omega arith
front_drop p (suc n) (b ∷ s) h = by (p b) refl (front_drop p n s)
  where
    by : (q : Bool) → p b ≡ q → (n ≤ front p s → front p s ≡ n + front p (drop n s)) → front p (b ∷ s) ≡ suc n + front p (drop n s)
    by true e r =
        let y : front p (b ∷ s) ≡ suc (front p s) = front_in p b s e in
        let k : front p s ≡ n + front p (drop n s) = r (omega arith) in
        omega arith
    by false e r = let y : front p (b ∷ s) ≡ 0 = front_out p b s e in omega arith

-- a front goes on over a byte that meets the test
pub front_more : (p : ℕ → Bool) (t : List ℕ) (a n : ℕ) → n ≤ front p (drop a t) → a + n < length t → p (get_or t (a + n) 0) ≡ true → n + 1 ≤ front p (drop a t)
front_more p t a n h i e =
    let d : front p (drop a t) ≡ n + front p (drop (a + n) t) = rw (← drop-drop n a t) (front_drop p n (drop a t) h) in
    omega (arith, front_on p t (a + n) i e)

-- ---- of the first n bytes

module _ (p : ℕ → Bool) where
  -- a front that ends in them is the whole list's
  pub front_first : (n : ℕ) (s : List ℕ) → front p (take n s) < n → front p s ≡ front p (take n s)
  unfolding front
  front_first zero s h = absurd (let y : ⊥ = omega arith in y)
  front_first (suc n) [] h = refl
  front_first (suc n) (b ∷ s) h = by (p b) refl (front_first n s)
    where
      by : (q : Bool) → p b ≡ q → (front p (take n s) < n → front p s ≡ front p (take n s)) → front p (b ∷ s) ≡ front p (b ∷ take n s)
      by true e r = rw (front_in p b s e, front_in p b (take n s) e) (ap suc (r (omega (arith, front_in p b (take n s) e))))
      by false e r = rw (front_out p b s e, front_out p b (take n s) e)

  pub front_part : (n : ℕ) (s : List ℕ) → front p (take n s) ≤ front p s
  unfolding front
  front_part zero s = omega arith
  front_part (suc n) [] = omega arith
  front_part (suc n) (b ∷ s) = by (p b) refl (front_part n s)
    where
      by : (q : Bool) → p b ≡ q → front p (take n s) ≤ front p s → front p (b ∷ take n s) ≤ front p (b ∷ s)
      by true e r = rw (front_in p b s e, front_in p b (take n s) e) (omega arith)
      by false e r = rw (front_out p b (take n s) e) (omega arith)

-- ---- in a line: a test that no newline meets

module _ (p : ℕ → Bool) (h : p 10 ≡ false) where
  pub met_in_line : (b : ℕ) → p b ≡ true → not_newline b ≡ true
  met_in_line b e = rw (ne_eqb b 10 (λ (z : b ≡ 10). true≢false (sym (rw z at e) ∙ h)))

  pub front_in_line : (s : List ℕ) → front p s ≤ front not_newline s
  front_in_line s = front_mono p not_newline met_in_line s
