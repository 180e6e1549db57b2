-- Names compared by the library answer as the definitions do.
use mathlib.Core.Path.{◌≡◌, refl, ap, ◌∙◌}
use mathlib.Core.Bool.{Bool, ◌&&◌}
use mathlib.Core.List.{List, [], ◌∷◌}
use Prim.Native.Nat.{ℕ}
use native.Mathlib.Omega.{arith}
use lib.Dec.{eqb}
use Rattle.std.specs.Prelude.{Some}
use Rattle.std.specs.Ordering.{nat_cmp, is_lt, is_some_and}
use Rattle.std.specs.Cmp.Lexicographic.{slice_partial_cmp, pointwise}
use Rattle.std.proofs.lemmas.Cmp.{same_from_slice_cmp_tested}
use Rattle.std.proofs.lemmas.Bool.Decides.{nat_tests}
use Rattle.rules.specs.Kinds.{same_bytes}
use Rattle.rules_program.specs.Names.{comes_before}

pub less_says : (a b : List ℕ) (r : Bool) → r ≡ is_some_and is_lt (slice_partial_cmp (λ x y. Some (nat_cmp x y)) a b) → r ≡ comes_before a b
unfolding comes_before
less_says = same_from_slice_cmp_tested nat_cmp is_lt comes_before refl (λ _ _. refl) (λ _ _. refl) (λ x y xs ys o h. grind (arith, nat_tests))

same_along : (a b : List ℕ) → pointwise eqb a b ≡ same_bytes a b
unfolding same_bytes
same_along [] [] = refl
same_along [] (y ∷ ys) = refl
same_along (x ∷ xs) [] = refl
same_along (x ∷ xs) (y ∷ ys) = ap (λ (t : Bool). eqb x y && t) (same_along xs ys)

pub same_says : (a b : List ℕ) (r : Bool) → r ≡ pointwise eqb a b → r ≡ same_bytes a b
same_says a b r e = e ∙ same_along a b
