-- The numbers and shifts of a max, and what a map lacks.
use mathlib.Core.Path.{◌≡◌, refl, sym, ◌∙◌}
use mathlib.Core.Bool.{Bool, true, false, cond, not, ◌&&◌, true≢false}
use mathlib.Core.List.{List}
use Prim.Native.Nat.{ℕ, ◌+◌, ◌-◌, ◌≤◌, ◌<◌}
use native.Mathlib.Omega.{arith}
use lib.Dec.{eqb, leb}
use lib.ListN.{length}
use borrow.Author.Tests.{eqb-true, eqb-false}
use Rattle.rules.specs.Parse
use Rattle.rules.specs.Kinds.{Number}
use Rattle.rules.specs.Tree.{Tok, Tree, bits_in, lacking}
use Rattle.rules.specs.Parse.{tok_at}
use Rattle.std.specs.Prelude.{Option, Some, None, is_some, is_none}
use Rattle.parse_maps.specs.Steps.{told, told_less, Lacks}
use Rattle.parse_maps.specs.declared.Facts.{Facts}
use Rattle.theory_grammar.proofs.Laws.{here}
use Rattle.theory_grammar.proofs.Runs.{All, valued_all}

-- a shift takes two rows, its sign at row j
pub shift_on : (ts : List Tok) (c : Tree) (j : ℕ) → All (λ u k. (j < k) × (k ≤ length ts)) (Parse.chain_step ts c j)
unfolding Parse.chain_step Parse.count_by
shift_on ts c j = valued_all ts (λ u k. (j < k) × (k ≤ length ts)) _ (j + 1) (λ e. go e (leb (bits_in (tok_at ts (j + 1))) 63))
  where
    go : Parse.kind_at ts (j + 1) ≡ Number → (b : Bool)
        → All (λ u k. (j < k) × (k ≤ length ts)) (Parse.count_by ts b c j (bits_in (tok_at ts (j + 1))) (j + 1 + 1))
    go e true = (omega arith, omega (arith, here ts (j + 1) Number e refl))
    go e false = tt

-- ---- what a map lacks

-- the same, by the facts
abbrev pub lacks_of : (maptype key value max : Option ℕ) → Option ℕ
lacks_of None k v m = Some 1
lacks_of (Some t) k v m =
    cond (not (eqb t 3) && is_none k) (Some 2) (cond (not (eqb t 3) && is_none v) (Some 3) (cond (is_none m) (Some 4) None))

lacks_told : (a b v m : ℕ) → lacks_of (told a) (told b) (told v) (told_less m) ≡ told (lacking a b v m)
unfolding lacking
lacks_told a b v m = go (eqb a 0) (eqb a 3) (eqb b 0) (eqb v 0) (eqb m 0) refl
  where
    none_of : (p : Bool) (x : ℕ) → is_none (cond p None (Some x)) ≡ p
    none_of true x = refl
    none_of false x = refl

    go : (p q x y z : Bool) → eqb a 3 ≡ q
        → lacks_of (cond p None (Some a)) (cond x None (Some b)) (cond y None (Some v)) (cond z None (Some (m - 1)))
        ≡ told (cond p 1 (cond q (cond z 4 0) (cond x 2 (cond y 3 (cond z 4 0)))))
    go true q x y z e = refl
    go false true x y true e = rw e
    go false true x y false e = rw e
    go false false true y z e = rw e
    go false false false true z e = rw e
    go false false false false true e = rw e
    go false false false false false e = rw e

lacks_is : (f : Facts) (r : Option ℕ) → r ≡ lacks_of f.maptype f.key f.value f.max → Lacks f r
lacks_is f r e type key val lim a b v m =
    e ∙ (λ k. lacks_of (a k) (b k) (v k) (m k)) ∙ lacks_told type key val lim

module _ (f : Facts) where
  pub lacks_type : f.maptype ≡ None → Lacks f (Some 1)
  lacks_type e = lacks_is f (Some 1) (rw e)

  module _ (t : ℕ) (e : f.maptype ≡ Some t) where
    pub lacks_key : not (eqb t 3) && is_none f.key ≡ true → Lacks f (Some 2)
    lacks_key a = lacks_is f (Some 2) (rw (e, a))

    module _ (a : not (eqb t 3) && is_none f.key ≡ false) where
      pub lacks_value : not (eqb t 3) && is_none f.value ≡ true → Lacks f (Some 3)
      lacks_value b = lacks_is f (Some 3) (rw (e, a, b))

      module _ (b : not (eqb t 3) && is_none f.value ≡ false) where
        pub lacks_max : is_none f.max ≡ true → Lacks f (Some 4)
        lacks_max m = lacks_is f (Some 4) (rw (e, a, b, m))

        pub lacks_nothing : is_none f.max ≡ false → Lacks f None
        lacks_nothing m = lacks_is f None (rw (e, a, b, m))

-- what `is_none` answers
pub none_told : (o : Option ℕ) (b : Bool) → is_some o ≡ not b → is_none o ≡ b
none_told None true e = refl
none_told None false e = sym e
none_told (Some x) true e = sym e
none_told (Some x) false e = refl

-- a map that is found to lack something does, and one that is not does not
pub told_yes : (n x : ℕ) → Some x ≡ told n → (n ≡ 0 → ⊥) × (n ≡ x)
told_yes n x e = go (eqb n 0) refl e
  where
    go : (b : Bool) → eqb n 0 ≡ b → Some x ≡ cond b None (Some n) → (n ≡ 0 → ⊥) × (n ≡ x)
    go true q e = cc (e)
    go false q e = (eqb-false n 0 q, cc (e))

pub told_no : (n : ℕ) → None ≡ told n → n ≡ 0
told_no n e = go (eqb n 0) refl e
  where
    go : (b : Bool) → eqb n 0 ≡ b → None ≡ cond b None (Some n) → n ≡ 0
    go true q e = eqb-true n 0 q
    go false q e = cc (e)

-- a number tells nothing where it is 0
pub told_is_none : (n : ℕ) (o : Option ℕ) → o ≡ told n → is_none o ≡ true → n ≡ 0
told_is_none n None e b = told_no n e
told_is_none n (Some x) e b = absurd (true≢false (sym b))

pub told_is_some : (n : ℕ) (o : Option ℕ) → o ≡ told n → is_none o ≡ false → n ≡ 0 → ⊥
told_is_some n None e b = absurd (true≢false b)
told_is_some n (Some x) e b = (told_yes n x e).0
