-- Laws of the end of a word: how many bits stand below the first mark, and what eight bytes at an index say of it.
use mathlib.Core.Path.{◌≡◌, refl, sym, ap, ap₂, ◌∙◌}
use mathlib.Core.Bool.{Bool, true, false, cond}
use mathlib.Core.List.{List, [], ◌∷◌, ◌++◌, map}
use Prim.Native.Nat.{ℕ, zero, suc, ◌+◌, ◌*◌, ◌/◌, ◌^◌, ◌≤◌, ◌<◌}
use native.Mathlib.Nat.{add-suc, suc-add, mul-one, mul-suc, add-zero, zero-add}
use native.Mathlib.Decide.{dec_lt}
use native.Mathlib.Numerals.{add-one}
use native.Mathlib.Omega.{arith}
use lib.ListN.{length, take, drop, length-drop}
use lib.Seq.{drop-drop, length-take-le}
use lib.Dec.{lit<}
use lib.Arith.{digits_mod}
use lib.Bits.{shifted_half, shifted_even}
use lib.Count.{under, count_trailing_zeros, trailing_of_zero}
use Rattle.rules.specs.Text.{front}
use Rattle.rules.specs.Lex.{is_word}
use Rattle.laws.proofs.Fronts.{front_drop, front_first, front_part}
use Rattle.laws.specs.Bounds.{Bytes}
use Rattle.laws.proofs.Bounds.{below_take, below_drop}
use Rattle.laws.proofs.Chains.{block_is}
use Rattle.std.proofs.lemmas.List.{length-take}
use Rattle.scan_eights.specs.Eights.{number_of, end_mark}

-- a front with the byte before it, by the test of that byte
abbrev one_more : Bool → ℕ → ℕ
one_more q n = elim q as (λ _. ℕ) [ true ↦ suc n | false ↦ 0 ]

-- ---- the zeros at the low end of a number

trailing_shift : (j k n : ℕ) → count_trailing_zeros (k + j) (n * 2 ^ j) ≡ j + count_trailing_zeros k n
unfolding count_trailing_zeros
trailing_shift zero k n = rw (add-zero k, mul-one n) (sym (zero-add _))
trailing_shift (suc j) k n =
    ap (λ (d : ℕ). count_trailing_zeros d (n * 2 ^ suc j)) (add-suc k j)
    ∙ ap₂ (λ (d m : ℕ). under d (count_trailing_zeros (k + j) m)) (shifted_even n j) (shifted_half n j)
    ∙ ap suc (trailing_shift j k n) ∙ sym (suc-add j (count_trailing_zeros k n))

trailing_odd : (k n : ℕ) → count_trailing_zeros (k + 1) (n * 2 + 1) ≡ 0
unfolding count_trailing_zeros
trailing_odd k n = rw (add-one k, digits_mod n {m = 2} {r = 1} (lit< tt))

-- eight zeros for each byte of the word, and seven below the mark behind it
mark_ends : (s : List ℕ) → count_trailing_zeros (8 * length s) (number_of (map end_mark s)) / 8 ≡ front is_word s
unfolding number_of end_mark front count_trailing_zeros
mark_ends [] = refl
mark_ends (b ∷ s) = rw (mul-suc 8 (length s)) (pick (is_word b) (mark_ends s))
  where
    pick : (q : Bool) → count_trailing_zeros (8 * length s) (number_of (map end_mark s)) / 8 ≡ front is_word s
        → count_trailing_zeros (8 * length s + 8) (number_of (map end_mark s) * 256 + cond q 0 128) / 8 ≡ one_more q (front is_word s)
    pick true r = rw (add-zero, trailing_shift 8 (8 * length s) (number_of (map end_mark s))) (omega arith)
    pick false r =
        let n : ℕ = number_of (map end_mark s) in
        let e : n * 256 + 128 ≡ (n * 2 + 1) * 128 = omega arith in
        let w : 8 * length s + 8 ≡ 8 * length s + 1 + 7 = omega arith in
        rw (w, e, trailing_shift 7 (8 * length s + 1) (n * 2 + 1), trailing_odd (8 * length s) n)

-- ---- a number with no mark, and one with a mark

no_mark : (s : List ℕ) → number_of (map end_mark s) ≡ 0 → front is_word s ≡ length s
no_mark s e = sym (mark_ends s) ∙ rw (e, trailing_of_zero (8 * length s)) (omega arith)

all_words : (s : List ℕ) → length s ≤ front is_word s → number_of (map end_mark s) ≡ 0
unfolding number_of end_mark front
all_words [] h = refl
all_words (b ∷ s) h = pick (is_word b) h (all_words s)
  where
    pick : (q : Bool) → suc (length s) ≤ one_more q (front is_word s)
        → (length s ≤ front is_word s → number_of (map end_mark s) ≡ 0) → number_of (map end_mark s) * 256 + cond q 0 128 ≡ 0
    pick true h r = rw (r (omega arith))
    pick false h r = absurd (let y : ⊥ = omega arith in y)

some_mark : (s : List ℕ) → (number_of (map end_mark s) ≡ 0 → ⊥) → front is_word s < length s
some_mark s h = pick (dec_lt (front is_word s) (length s))
  where
    pick : Dec (front is_word s < length s) → front is_word s < length s
    pick (yes p) = p
    pick (no p) = absurd (h (all_words s (omega arith)))

-- ---- eight bytes at an index

module _ (t : List ℕ) (i : ℕ) (h : i + 8 ≤ length t) where
  pub eight_long : length (take 8 (drop i t)) ≡ 8
  eight_long = length-take-le 8 (drop i t) (omega (arith, length-drop i t))

  module _ (m : ℕ) (e : m ≡ number_of (map end_mark (take 8 (drop i t)))) where
    pub eight_on : m ≡ 0 → front is_word (drop i t) ≡ 8 + front is_word (drop (i + 8) t)
    eight_on z =
        let l : front is_word (take 8 (drop i t)) ≡ 8 = no_mark (take 8 (drop i t)) (sym e ∙ z) ∙ eight_long in
        rw (← drop-drop 8 i t) (front_drop is_word 8 (drop i t) (omega (arith, front_part is_word 8 (drop i t))))

    pub eight_stop : (m ≡ 0 → ⊥) → front is_word (drop i t) ≡ count_trailing_zeros 64 m / 8
    eight_stop z =
        front_first is_word 8 (drop i t) (omega (arith, some_mark (take 8 (drop i t)) (λ n. z (e ∙ n)), eight_long))
        ∙ sym (mark_ends (take 8 (drop i t))) ∙ rw (eight_long, e)

-- what a number of marks tells of eight bytes with r behind them
pub record Told (t : List ℕ) (i m : ℕ) (r : List ℕ) : Type 0 where
  pub inside : i + 8 ≤ length t
  pub behind : r ≡ drop (i + 8) t
  pub marked : m ≡ number_of (map end_mark (take 8 (drop i t)))

pub eight_told : (t : List ℕ) (i : ℕ) (x r : List ℕ) → drop i t ≡ x ++ r → length x ≡ 8 → Bytes t → {n m : ℕ} → n ≡ number_of x
    → ((s : List ℕ) → length s ≡ 8 → Bytes s → n ≡ number_of s → m ≡ number_of (map end_mark s)) → Told t i m r
eight_told t i x r e h u n m =
    let b = block_is t i 8 x r e h in
    let l : i + 8 ≤ length t = omega (arith, ap length b.0, length-take 8 (drop i t), length-drop i t) in
    record {
      inside = l;
      behind = b.1;
      marked = m (take 8 (drop i t)) (eight_long t i l) (below_take 8 (below_drop i u)) (n ∙ ap number_of b.0);
    }
