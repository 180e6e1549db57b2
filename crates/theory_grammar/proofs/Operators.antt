-- Operators by their kinds, which stand side by side.
use mathlib.Core.Path.{◌≡◌, refl}
use mathlib.Core.Bool.{Bool, true, false, ◌&&◌, ◌||◌}
use Prim.Native.Nat.{ℕ, ◌≤◌}
use native.Mathlib.Omega.{arith}
use lib.Dec.{eqb, leb}
use borrow.Author.Tests.{leb-true, le-leb, eq-eqb, eqb-false}
use Rattle.rules.specs.Kinds.{Plus, Minus, Star, Slash, Percent, Shr, Shl}
use Rattle.rules.specs.Parse.{is_add, is_shift, is_mul}
use Rattle.laws.proofs.Tests.{same_bool, both_true, true_both, neither}
use Rattle.theory_grammar.proofs.Laws.{either_kind, three_kinds}

or_else : (p q : Bool) → (p ≡ false → q ≡ true) → p || q ≡ true
or_else true q h = refl
or_else false q h = h refl

-- a test that holds from x up to y, and nowhere else
between : (k x y : ℕ) (q : Bool) → (x ≤ k → k ≤ y → q ≡ true) → (q ≡ true → (x ≤ k) × (k ≤ y)) → leb x k && leb k y ≡ q
between k x y q f g =
    same_bool (leb x k && leb k y) q
    (λ e. let b = both_true (leb x k) (leb k y) e in f (leb-true x k b.0) (leb-true k y b.1))
    (λ e. let b = g e in true_both (le-leb x k b.0) (le-leb k y b.1))

pub add_between : (k : ℕ) → leb Plus k && leb k Minus ≡ is_add k
add_between k =
    between k Plus Minus (is_add k)
    (λ l h. or_else (eqb k Plus) (eqb k Minus) (λ e. eq-eqb k Minus (omega (arith, eqb-false k Plus e))))
    (λ e. either_kind (λ x. (Plus ≤ x) × (x ≤ Minus)) k Plus Minus e (omega arith, omega arith) (omega arith, omega arith))

pub shift_between : (k : ℕ) → leb Shr k && leb k Shl ≡ is_shift k
shift_between k =
    between k Shr Shl (is_shift k)
    (λ l h. or_else (eqb k Shl) (eqb k Shr) (λ e. eq-eqb k Shr (omega (arith, eqb-false k Shl e))))
    (λ e. either_kind (λ x. (Shr ≤ x) × (x ≤ Shl)) k Shl Shr e (omega arith, omega arith) (omega arith, omega arith))

pub mul_between : (k : ℕ) → leb Star k && leb k Percent ≡ is_mul k
mul_between k =
    between k Star Percent (is_mul k)
    (λ l h. or_else (eqb k Star || eqb k Slash) (eqb k Percent) (λ e.
    let b = neither (eqb k Star) (eqb k Slash) e in
    eq-eqb k Percent (omega (arith, eqb-false k Star b.0, eqb-false k Slash b.1))))
    (λ e. three_kinds (λ x. (Star ≤ x) × (x ≤ Percent)) k Star Slash Percent e
    (omega arith, omega arith) (omega arith, omega arith) (omega arith, omega arith))
