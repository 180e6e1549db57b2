-- Laws of one more byte's check, and of bytes that are all zero.
use mathlib.Core.Path.{◌≡◌, refl}
use mathlib.Core.Bool.{true}
use mathlib.Core.List.{List, [], ◌∷◌, ◌++◌}
use Prim.Native.Nat.{ℕ, zero, suc, ◌+◌, ◌*◌, ◌<◌}
use native.Mathlib.Nat.{not-suc-le-zero}
use native.Mathlib.Numerals.{add-one}
use native.Mathlib.Omega.{arith}
use lib.ListN.{length, take, get_or}
use lib.Seq.{take-suc, length-take-le}
use lib.Dec.{eqb}
use borrow.Author.Tests.{eqb-true, eq-eqb}
use Rattle.laws.proofs.Tests.{both_true, true_both}
use Rattle.rules_files.specs.Blocks.{sum_from, check, zeros}

sum_snoc : (p : ℕ) (s : List ℕ) (b : ℕ) → sum_from p (s ++ (b ∷ [])) ≡ sum_from p s + b * (p + length s)
unfolding sum_from
sum_snoc p [] b = let e : p + 0 ≡ p = omega arith in rw e (omega arith)
sum_snoc p (x ∷ s) b = let e : p + suc (length s) ≡ suc p + length s = omega arith in rw (sum_snoc (suc p) s b, e) (omega arith)

pub check_more : (s : List ℕ) (i : ℕ) → i < length s → check (take (i + 1) s) ≡ check (take i s) + get_or s i 0 * (i + 1)
unfolding check
check_more s i h =
    let e : 1 + length (take i s) ≡ suc i = omega (arith, length-take-le i s (omega arith)) in
    rw (add-one i, take-suc s i 0 h, sum_snoc 1 (take i s) (get_or s i 0), e)

pub zeros_all : (s : List ℕ) → ((k : ℕ) → k < length s → get_or s k 0 ≡ 0) → zeros s ≡ true
unfolding zeros
zeros_all [] h = refl
zeros_all (b ∷ s) h = true_both {p = eqb b 0} {q = zeros s} (eq-eqb b 0 (h 0 (omega arith))) (zeros_all s (λ k l. h (suc k) (omega arith)))

pub all_zeros : (s : List ℕ) → zeros s ≡ true → (k : ℕ) → k < length s → get_or s k 0 ≡ 0
unfolding zeros
all_zeros [] e k h = absurd (not-suc-le-zero h)
all_zeros (b ∷ s) e zero h = eqb-true b 0 (both_true (eqb b 0) (zeros s) e).0
all_zeros (b ∷ s) e (suc k) h = all_zeros s (both_true (eqb b 0) (zeros s) e).1 k (omega arith)
