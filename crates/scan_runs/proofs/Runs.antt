-- Laws of digits: what a byte is worth, what a run of digits spells from an index on, and that a clipped number keeps what is told of it.
use mathlib.Core.Path.{◌≡◌, refl, sym, ap, ◌∙◌}
use mathlib.Core.Bool.{Bool, true, false, cond}
use mathlib.Core.List.{List, [], ◌∷◌}
use Prim.Native.Nat.{ℕ, suc, ◌+◌, ◌*◌, ◌≤◌, ◌<◌}
use native.Mathlib.Decide.{dec_le}
use native.Mathlib.Numerals.{add-one}
use native.Mathlib.Omega.{arith}
use lib.ListN.{length, take, drop, get_or, drop_of_length-le}
use lib.Seq.{drop-cons}
use lib.Dec.{eqb, ltb}
use borrow.Author.Tests.{lt-ltb, le-ltb, lt-leb}
use Rattle.rules.specs.Text.{front}
use Rattle.rules.specs.Lex.{is_digit, is_hex_digit, digit_value, spelt, largest, number_of}
use Rattle.laws.specs.Tests.{all_below}
use Rattle.laws.proofs.Tests.{below}
use Rattle.laws.proofs.Fronts.{front_on, front_off, front_end}
use Rattle.scan_runs.specs.Leaf.{digit_in, base_of, digit_of, clipped, spelt_front, digits_of}
use Rattle.scan_runs.specs.declared.Digits.{Digits}

-- ---- bytes

-- 1 for true
abbrev bit : Bool → ℕ
bit true = 1
bit false = 0

bit_same : (p q : Bool) → eqb (bit p) (bit q) ≡ true → p ≡ q
bit_same true true e = refl
bit_same true false e = cc
bit_same false true e = cc
bit_same false false e = refl

-- a byte is a digit where it is worth less than the base
digit_test : Bool → ℕ → Bool
digit_test hex b = eqb (bit (digit_in hex b)) (bit (ltb (digit_of b) (base_of hex)))

digits_all : (hex : Bool) → all_below (digit_test hex) 256 ≡ true
unfolding digit_test digit_in digit_of is_digit is_hex_digit digit_value
digits_all true = refl
digits_all false = refl

pub digit_in_lem : (hex : Bool) (b : ℕ) → b < 256 → digit_in hex b ≡ ltb (digit_of b) (base_of hex)
unfolding digit_test
digit_in_lem hex b h = bit_same _ _ (below (digit_test hex) 256 (digits_all hex) b h)

pub digit_worth : (b : ℕ) → digit_of b < 16 → digit_value b ≡ digit_of b
unfolding digit_of
digit_worth b h = pick (is_hex_digit b) h
  where
    pick : (p : Bool) → cond p (digit_value b) 16 < 16 → digit_value b ≡ cond p (digit_value b) 16
    pick true h = refl
    pick false h = absurd (no h)
      where
        no : 16 < 16 → ⊥
        no h = omega arith

-- ---- clipped numbers

pub clipped_least : (v : ℕ) → v ≤ suc largest → clipped v ≡ v
unfolding clipped
clipped_least v h = omega arith

pub clipped_small : (v : ℕ) → clipped v ≤ suc largest
unfolding clipped
clipped_small v = omega arith

pub clipped_most : (v : ℕ) → largest < v → clipped v ≡ suc largest
unfolding clipped
clipped_most v h = omega arith

clipped_digit : (hex : Bool) (v d : ℕ) → clipped (clipped v * base_of hex + d) ≡ clipped (v * base_of hex + d)
unfolding clipped
clipped_digit true v d = omega arith
clipped_digit false v d = omega arith

clipped_twice : (v : ℕ) → clipped (clipped v) ≡ clipped v
unfolding clipped
clipped_twice v = omega arith

spelt_clip : (hex : Bool) (v : ℕ) (s : List ℕ) → clipped (spelt (base_of hex) (clipped v) s) ≡ clipped (spelt (base_of hex) v s)
unfolding spelt
spelt_clip hex v [] = clipped_twice v
spelt_clip hex v (b ∷ s) =
    sym (spelt_clip hex (clipped v * base_of hex + digit_value b) s)
    ∙ ap (λ (x : ℕ). clipped (spelt (base_of hex) x s)) (clipped_digit hex v (digit_value b))
    ∙ spelt_clip hex (v * base_of hex + digit_value b) s

pub spelt_clipped : (hex : Bool) (v : ℕ) (s : List ℕ) → spelt_front hex (clipped v) s ≡ spelt_front hex v s
unfolding spelt_front
spelt_clipped hex v s = spelt_clip hex v (take (front (digit_in hex) s) s)

-- a number is told by its clipped value
pub number_clipped : (negative : Bool) (n v : ℕ) → number_of negative n (clipped v) ≡ number_of negative n v
unfolding number_of
number_clipped negative n v = pick (dec_le v largest)
  where
    pick : Dec (v ≤ largest) → number_of negative n (clipped v) ≡ number_of negative n v
    pick (yes h) = rw (clipped_least v (omega arith))
    pick (no h) = rw (clipped_most v (omega arith), lt-leb v largest (omega arith))

-- ---- a run at an index of the text

module _ (hex : Bool) (v : ℕ) (t : List ℕ) (i : ℕ) where
  pub spelt_on : i < length t → digit_in hex (get_or t i 0) ≡ true →
      spelt_front hex v (drop i t) ≡ spelt_front hex (v * base_of hex + digit_value (get_or t i 0)) (drop (i + 1) t)
  unfolding spelt_front front spelt
  spelt_on h e = rw (drop-cons t i 0 h, add-one i) (rw (front, e))

  pub spelt_off : i < length t → digit_in hex (get_or t i 0) ≡ false → spelt_front hex v (drop i t) ≡ clipped v
  unfolding spelt_front front spelt
  spelt_off h e = rw (drop-cons t i 0 h) (rw (front, e))

  pub spelt_end : length t ≤ i → spelt_front hex v (drop i t) ≡ clipped v
  unfolding spelt_front front spelt
  spelt_end h = rw (drop_of_length-le t h)

-- ---- a loop over digits from index i₀ on, which has come to i with the value v

pub record Counted (hex : Bool) (t : List ℕ) (i₀ v i : ℕ) : Type 0 where
  pub inside : i ≤ length t
  pub ends : i + front (digit_in hex) (drop i t) ≡ i₀ + front (digit_in hex) (drop i₀ t)
  pub small : v ≤ suc largest
  pub spells : spelt_front hex v (drop i t) ≡ spelt_front hex 0 (drop i₀ t)

module _ (hex : Bool) (t : List ℕ) (i₀ v i : ℕ) (r : Counted hex t i₀ v i) where
  pub counted_on : i < length t → get_or t i 0 < 256 → digit_of (get_or t i 0) < base_of hex → Counted hex t i₀ (clipped (v * base_of hex + digit_of (get_or t i 0))) (i + 1)
  counted_on h b d =
      let y : digit_in hex (get_or t i 0) ≡ true = digit_in_lem hex (get_or t i 0) b ∙ lt-ltb _ _ d in
      let w : digit_value (get_or t i 0) ≡ digit_of (get_or t i 0) = digit_worth (get_or t i 0) (under hex d) in
      record {
        inside = omega arith;
        ends = omega (arith, front_on (digit_in hex) t i h y, r.ends);
        small = clipped_small _;
        spells = spelt_clipped hex _ (drop (i + 1) t) ∙ rw (← w) (sym (spelt_on hex v t i h y) ∙ r.spells);
      }
    where
      under : (hex : Bool) → digit_of (get_or t i 0) < base_of hex → digit_of (get_or t i 0) < 16
      under true h = h
      under false h = omega arith

  answer : i ≡ i₀ + front (digit_in hex) (drop i₀ t) → spelt_front hex 0 (drop i₀ t) ≡ v → ◌≡◌ {A = Digits} (record { end = i; value = v }) (digits_of hex i₀ (drop i₀ t))
  unfolding digits_of
  answer e w = rw (w, ← e)

  pub counted_stop : i < length t → get_or t i 0 < 256 → base_of hex ≤ digit_of (get_or t i 0) → ◌≡◌ {A = Digits} (record { end = i; value = v }) (digits_of hex i₀ (drop i₀ t))
  counted_stop h b d =
      let n : digit_in hex (get_or t i 0) ≡ false = digit_in_lem hex (get_or t i 0) b ∙ le-ltb _ _ d in
      answer (omega (arith, front_off (digit_in hex) t i h n, r.ends)) (sym r.spells ∙ spelt_off hex v t i h n ∙ clipped_least v r.small)

  pub counted_end : length t ≤ i → ◌≡◌ {A = Digits} (record { end = i; value = v }) (digits_of hex i₀ (drop i₀ t))
  counted_end h = answer (omega (arith, front_end (digit_in hex) t i h, r.ends)) (sym r.spells ∙ spelt_end hex v t i h ∙ clipped_least v r.small)

pub base_most : (hex : Bool) → base_of hex ≤ 16
base_most true = omega arith
base_most false = omega arith

pub base_least : (hex : Bool) → 10 ≤ base_of hex
base_least true = omega arith
base_least false = omega arith
