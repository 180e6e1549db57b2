-- The order of names is strict: no name comes before itself, and it goes on from name to name.
use mathlib.Core.Path.{◌≡◌, refl, sym}
use mathlib.Core.Bool.{Bool, true, false, cond, true≢false}
use mathlib.Core.List.{List, [], ◌∷◌}
use mathlib.Core.Logic.{◌⊎◌, inl, inr}
use Prim.Native.Nat.{ℕ, ◌<◌}
use native.Mathlib.Omega.{arith}
use lib.Dec.{eqb, ltb}
use borrow.Author.Tests.{eqb-true, ltb-true, eq-eqb, ne_eqb, lt-ltb}
use Rattle.rules_program.specs.Names.{comes_before}

pub before_irrefl : (a : List ℕ) → comes_before a a ≡ true → ⊥
unfolding comes_before
before_irrefl [] e = true≢false (sym e)
before_irrefl (x ∷ xs) e = before_irrefl xs (rw (eq-eqb x x refl) at e)

pub before_not_same : (a b : List ℕ) → a ≡ b → comes_before a b ≡ true → ⊥
before_not_same a b e h = before_irrefl b (rw e at h)

-- one byte of each: the same and so on, or smaller
ahead : (x y : ℕ) (f : Bool) → cond (eqb x y) f (ltb x y) ≡ true → ((x ≡ y) × (f ≡ true)) ⊎ (x < y)
ahead x y f e = go (eqb x y) refl e
  where
    go : (t : Bool) → eqb x y ≡ t → cond t f (ltb x y) ≡ true → ((x ≡ y) × (f ≡ true)) ⊎ (x < y)
    go true d h = inl (eqb-true x y d, h)
    go false d h = inr (ltb-true x y h)

ahead_same : (x y : ℕ) (f : Bool) → x ≡ y → f ≡ true → cond (eqb x y) f (ltb x y) ≡ true
ahead_same x y f e h = rw (eq-eqb x y e) h

ahead_less : (x y : ℕ) (f : Bool) → x < y → cond (eqb x y) f (ltb x y) ≡ true
ahead_less x y f l = rw (ne_eqb x y (λ e. omega arith)) (lt-ltb x y l)

step : (x y z : ℕ) (f g h : Bool) → (f ≡ true → g ≡ true → h ≡ true) →
    cond (eqb x y) f (ltb x y) ≡ true → cond (eqb y z) g (ltb y z) ≡ true → cond (eqb x z) h (ltb x z) ≡ true
step x y z f g h k p q = go (ahead x y f p) (ahead y z g q)
  where
    go : ((x ≡ y) × (f ≡ true)) ⊎ (x < y) → ((y ≡ z) × (g ≡ true)) ⊎ (y < z) → cond (eqb x z) h (ltb x z) ≡ true
    go (inl a) (inl b) = ahead_same x z h (cc) (k a.1 b.1)
    go (inl a) (inr m) = ahead_less x z h (omega (arith, a.0))
    go (inr l) (inl b) = ahead_less x z h (omega (arith, b.0))
    go (inr l) (inr m) = ahead_less x z h (omega arith)

pub before_trans : (a b c : List ℕ) → comes_before a b ≡ true → comes_before b c ≡ true → comes_before a c ≡ true
unfolding comes_before
before_trans [] [] c p q = absurd (true≢false (sym p))
before_trans [] (y ∷ ys) [] p q = absurd (true≢false (sym q))
before_trans [] (y ∷ ys) (z ∷ zs) p q = refl
before_trans (x ∷ xs) [] c p q = absurd (true≢false (sym p))
before_trans (x ∷ xs) (y ∷ ys) [] p q = absurd (true≢false (sym q))
before_trans (x ∷ xs) (y ∷ ys) (z ∷ zs) p q =
    step x y z (comes_before xs ys) (comes_before ys zs) (comes_before xs zs) (before_trans xs ys zs) p q
