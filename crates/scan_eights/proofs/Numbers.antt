-- Laws of bytes as one number: which bytes they are, and what is computed of each of them alone.
use mathlib.Core.Path.{◌≡◌, refl, sym, ap, ap₂, subst, ◌∙◌}
use mathlib.Core.Bool.{Bool, true, ◌&&◌}
use mathlib.Core.List.{List, [], ◌∷◌, map}
use Prim.Native.Nat.{ℕ, suc, ◌+◌, ◌*◌, ◌/◌, ◌^◌, ◌≤◌, ◌<◌}
use native.Mathlib.Nat.{add_assoc}
use native.Mathlib.Numerals.{add-one}
use native.Mathlib.Omega.{arith}
use lib.ListN.{length, take, drop, get_or, replicate}
use lib.Seq.{drop-cons}
use lib.Dec.{ltb, eqb}
use lib.Bits.{bit_and, bit_or, bit_xor, and_block, or_block, xor_block, and_lt, or_lt, xor_lt}
use borrow.Author.Tests.{ltb-true, eqb-true}
use Rattle.laws.specs.Tests.{all_below}
use Rattle.laws.specs.Bounds.{Bytes, none, some}
use Rattle.laws.proofs.Tests.{below, both_true}
use Rattle.scan_eights.specs.Eights.{number_of}

-- ---- the bytes of a text

-- the byte at an index is the lowest of those from it on
number_on : (t : List ℕ) (i n : ℕ) → i < length t
    → number_of (take (suc n) (drop i t)) ≡ number_of (take n (drop (i + 1) t)) * 256 + get_or t i 0
unfolding number_of
number_on t i n h = rw (drop-cons t i 0 h, add-one i)

number_next : (t : List ℕ) (i k n : ℕ) → i + k < length t
    → number_of (take (suc n) (drop (i + k) t)) ≡ number_of (take n (drop (i + (k + 1)) t)) * 256 + get_or t (i + k) 0
number_next t i k n h = rw (← add_assoc i k 1) (number_on t (i + k) n h)

module _ (t : List ℕ) (i : ℕ) (h : i + 8 ≤ length t) where
  abbrev at : ℕ → ℕ
  at k = get_or t (i + k) 0

  pub eight_is :
      ((get_or t i 0 + at 1 * 256) + (at 2 * 65536 + at 3 * 16777216))
      + ((at 4 * 4294967296 + at 5 * 1099511627776) + (at 6 * 281474976710656 + at 7 * 72057594037927936))
      ≡ number_of (take 8 (drop i t))
  unfolding number_of
  eight_is =
      omega (
        arith,
        number_on t i 7 (omega arith),
        number_next t i 1 6 (omega arith),
        number_next t i 2 5 (omega arith),
        number_next t i 3 4 (omega arith),
        number_next t i 4 3 (omega arith),
        number_next t i 5 2 (omega arith),
        number_next t i 6 1 (omega arith),
        number_next t i 7 0 (omega arith),
      )

-- ---- a number that has, in the place of each byte, what f gives of it: a byte again

pub record Each (s : List ℕ) (f : ℕ → ℕ) (x : ℕ) : Type 0 where
  pub is : x ≡ number_of (map f s)
  pub byte : (b : ℕ) → b < 256 → f b < 256

map_self : (s : List ℕ) → s ≡ map (λ b. b) s
map_self [] = refl
map_self (b ∷ s) = ap (◌∷◌ b) (map_self s)

pub each_self : {s : List ℕ} {x : ℕ} → x ≡ number_of s → Each s (λ b. b) x
each_self {s} e = record { is = e ∙ ap number_of (map_self s); byte = λ b h. h }

-- the number 1 in each of eight bytes, and any byte in each
abbrev pub one_each : ℕ
one_each = 72340172838076673

alike : (c : ℕ) (s : List ℕ) → number_of (map (λ _. c) s) ≡ number_of (replicate (length s) c)
unfolding number_of
alike c [] = refl
alike c (b ∷ s) = ap (λ (n : ℕ). n * 256 + c) (alike c s)

eight_times : (c : ℕ) → one_each * c ≡ number_of (replicate 8 c)
unfolding number_of
eight_times c = omega arith

each_of : (c : ℕ) {s : List ℕ} → c < 256 → length s ≡ 8 → Each s (λ _. c) (one_each * c)
each_of c {s} h l = record { is = eight_times c ∙ ap (λ (n : ℕ). number_of (replicate n c)) (sym l) ∙ sym (alike c s); byte = λ b _. h }

-- a number that has the same byte in each place: it is tested, not named
abbrev pub all_alike : ℕ → Bool
all_alike n = ltb (n / one_each) 256 && eqb (one_each * (n / one_each)) n

pub each_all : {n : ℕ} {s : List ℕ} → length s ≡ 8 → all_alike n ≡ true → Each s (λ _. n / one_each) n
each_all {n} {s} l e =
    let y = both_true (ltb (n / one_each) 256) (eqb (one_each * (n / one_each)) n) e in
    subst (λ (m : ℕ). Each s (λ _. n / one_each) m) (eqb-true _ _ y.1) (each_of (n / one_each) (ltb-true _ _ y.0) l)

-- an operation that works on each run of bits apart
module _ (op : ℕ → ℕ → ℕ) (nothing : op 0 0 ≡ 0)
    (block : (k a b r s : ℕ) → r < 2 ^ k → s < 2 ^ k → op (a * 2 ^ k + r) (b * 2 ^ k + s) ≡ op a b * 2 ^ k + op r s)
    (bound : (k a b : ℕ) → a < 2 ^ k → b < 2 ^ k → op a b < 2 ^ k) where
  module _ (f g : ℕ → ℕ) (hf : (b : ℕ) → b < 256 → f b < 256) (hg : (b : ℕ) → b < 256 → g b < 256) where
    through : {s : List ℕ} → Bytes s → op (number_of (map f s)) (number_of (map g s)) ≡ number_of (map (λ b. op (f b) (g b)) s)
    unfolding number_of
    through none = nothing
    through (some {x = b} {xs = s} h y) =
        block 8 (number_of (map f s)) (number_of (map g s)) (f b) (g b) (hf b h) (hg b h)
        ∙ ap (λ (n : ℕ). n * 256 + op (f b) (g b)) (through y)

  each_op : {s : List ℕ} {f g : ℕ → ℕ} {x y : ℕ} → Bytes s → Each s f x → Each s g y → Each s (λ b. op (f b) (g b)) (op x y)
  each_op {f = f} {g = g} u v w = record {
    is = ap₂ op v.is w.is ∙ through f g v.byte w.byte u;
    byte = λ b h. bound 8 (f b) (g b) (v.byte b h) (w.byte b h);
  }

module _ {s : List ℕ} (u : Bytes s) {f g : ℕ → ℕ} {x y : ℕ} (v : Each s f x) (w : Each s g y) where
  pub each_and : Each s (λ b. bit_and (f b) (g b)) (bit_and x y)
  each_and = each_op bit_and refl and_block and_lt u v w

  pub each_or : Each s (λ b. bit_or (f b) (g b)) (bit_or x y)
  each_or = each_op bit_or refl or_block or_lt u v w

  pub each_xor : Each s (λ b. bit_xor (f b) (g b)) (bit_xor x y)
  each_xor = each_op bit_xor refl xor_block xor_lt u v w

-- a sum, where no byte carries into the next
number_add : (f g : ℕ → ℕ) (s : List ℕ) → number_of (map f s) + number_of (map g s) ≡ number_of (map (λ b. f b + g b) s)
unfolding number_of
number_add f g [] = refl
number_add f g (b ∷ s) = omega (arith, number_add f g s)

pub each_add : {s : List ℕ} {f g : ℕ → ℕ} {x y : ℕ} → Each s f x → Each s g y → all_below (λ b. ltb (f b + g b) 256) 256 ≡ true
    → Each s (λ b. f b + g b) (x + y)
each_add {s} {f} {g} v w e = record {
  is = ap₂ (λ (m n : ℕ). m + n) v.is w.is ∙ number_add f g s;
  byte = λ b h. ltb-true _ _ (below (λ b. ltb (f b + g b) 256) 256 e b h);
}

-- what is the same of each byte is the same number
number_same : (f g : ℕ → ℕ) → ((b : ℕ) → b < 256 → f b ≡ g b) → {s : List ℕ} → Bytes s → number_of (map f s) ≡ number_of (map g s)
unfolding number_of
number_same f g e none = refl
number_same f g e (some {x = b} h y) = ap₂ (λ (m n : ℕ). m * 256 + n) (number_same f g e y) (e b h)

pub each_is : {s : List ℕ} {f : ℕ → ℕ} {x : ℕ} → Bytes s → Each s f x → (g : ℕ → ℕ) → all_below (λ b. eqb (f b) (g b)) 256 ≡ true
    → x ≡ number_of (map g s)
each_is {f = f} u v g e = v.is ∙ number_same f g (λ b h. eqb-true _ _ (below (λ b. eqb (f b) (g b)) 256 e b h)) u
