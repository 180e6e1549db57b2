-- Spellings that are compared byte by byte are the same exactly where the lists are one.
use mathlib.Core.Path.{◌≡◌, refl, sym}
use mathlib.Core.Bool.{Bool, true, false, true≢false}
use mathlib.Core.List.{List, [], ◌∷◌}
use Prim.Native.Nat.{ℕ}
use lib.Dec.{eqb}
use borrow.Author.Tests.{eqb-true, eq-eqb}
use Rattle.rules.specs.Kinds.{same_bytes}
use Rattle.laws.proofs.Tests.{both_true}

pub same_eq : (a b : List ℕ) → same_bytes a b ≡ true → a ≡ b
unfolding same_bytes
same_eq [] [] e = refl
same_eq [] (y ∷ ys) e = cc
same_eq (x ∷ xs) [] e = cc
same_eq (x ∷ xs) (y ∷ ys) e =
    let h = both_true (eqb x y) (same_bytes xs ys) e in
    rw (eqb-true x y h.0, same_eq xs ys h.1)

pub differs : (a b : List ℕ) → (b ≡ a → ⊥) → same_bytes a b ≡ false
differs a b h = go (same_bytes a b) refl
  where
    go : (p : Bool) → same_bytes a b ≡ p → p ≡ false
    go true e = absurd (h (sym (same_eq a b e)))
    go false e = refl

pub same_self : (a : List ℕ) → same_bytes a a ≡ true
unfolding same_bytes
same_self [] = refl
same_self (x ∷ xs) = rw (eq-eqb x x refl, same_self xs)

-- an answer that is true exactly where two lists are one is the definition's
pub same_says : (r : Bool) (a b : List ℕ) → (r ≡ true → a ≡ b) × (a ≡ b → r ≡ true) → r ≡ same_bytes b a
same_says true a b h = rw (h.0 refl) (sym (same_self b))
same_says false a b h = sym (differs b a (λ e. true≢false (sym (h.1 e))))
