-- Laws of tests: of two at once, and of each number below a bound.
use mathlib.Core.Path.{◌≡◌, refl, sym, ◌∙◌}
use mathlib.Core.Bool.{Bool, true, false, ◌&&◌, ◌||◌, true≢false, and-eq-true_iff}
use Prim.Native.Nat.{ℕ, zero, suc, ◌+◌, ◌<◌}
use native.Mathlib.Nat.{not-suc-le-zero}
use native.Mathlib.Numerals.{add-one}
use native.Mathlib.Decide.{ℕ_discrete}
use native.Mathlib.Omega.{arith}
use Rattle.laws.specs.Tests.{all_below}

-- ---- one test, and two

pub false_by : (p : Bool) → (p ≡ true → ⊥) → p ≡ false
false_by true h = absurd (h refl)
false_by false h = refl

pub same_bool : (p q : Bool) → (p ≡ true → q ≡ true) → (q ≡ true → p ≡ true) → p ≡ q
same_bool true q f g = sym (f refl)
same_bool false true f g = g refl
same_bool false false f g = refl

pub both_true : (p q : Bool) → (p && q) ≡ true → (p ≡ true) × (q ≡ true)
both_true p q = (and-eq-true_iff p q).0

pub true_both : {p q : Bool} → p ≡ true → q ≡ true → (p && q) ≡ true
true_both {p} {q} e f = rw (e, f)

pub either : {C : Type 0} (p q : Bool) → (p || q) ≡ true → (p ≡ true → C) → (q ≡ true → C) → C
either true q h f g = f refl
either false q h f g = g h

pub neither : (p q : Bool) → (p || q) ≡ false → (p ≡ false) × (q ≡ false)
neither true q e = absurd (true≢false e)
neither false q e = (refl, e)

-- ---- each number below a bound

pub below : (f : ℕ → Bool) (n : ℕ) → all_below f n ≡ true → (k : ℕ) → k < n → f k ≡ true
below f zero e k h = absurd (not-suc-le-zero h)
below f (suc n) e k h =
    let b = both_true (f n) (all_below f n) e in
    pick (ℕ_discrete k n) b.0 (below f n b.1 k)
  where
    pick : Dec (k ≡ n) → f n ≡ true → (k < n → f k ≡ true) → f k ≡ true
    pick (yes p) b r = rw p b
    pick (no p) b r = r (omega arith)

pub below_by : (f : ℕ → Bool) (n : ℕ) → ((k : ℕ) → k < n → f k ≡ true) → all_below f n ≡ true
below_by f zero h = refl
below_by f (suc n) h = true_both {p = f n} {q = all_below f n} (h n (omega arith)) (below_by f n (λ k l. h k (omega arith)))

pub below_one : (f : ℕ → Bool) (n : ℕ) → all_below f n ≡ true → f n ≡ true → all_below f (n + 1) ≡ true
below_one f n e h = rw add-one (true_both {p = f n} {q = all_below f n} h e)

pub below_not : (f : ℕ → Bool) (n k : ℕ) → k < n → f k ≡ false → all_below f n ≡ false
below_not f n k h e = false_by (all_below f n) (λ a. true≢false (sym (below f n a k h) ∙ e))
