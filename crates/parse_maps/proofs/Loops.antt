-- What holds at each turn of a loop that reads and writes nothing.
use mathlib.Core.Path.{◌≡◌, refl, ap, ◌∙◌}
use mathlib.Core.Bool.{Bool, true, false}
use mathlib.Core.List.{List}
use Prim.Native.Nat.{ℕ, zero, suc, ◌+◌, ◌≤◌, ◌<◌}
use native.Mathlib.Omega.{arith}
use lib.ListN.{length}
use Rattle.rules.specs.declared.Syntax.{Syntax}
use Rattle.rules.specs.Tree.{Tok, Tree}
use Rattle.rules.specs.Parse.{Out, ok, no, P, then, many}
use Rattle.theory_grammar.proofs.Cases.{then_ok, then_no, many_stop, many_step}

-- the loop that is to give `whole` has read a tree with the property Q up to row j, and has the rest to do
pub record Loop (Q : Tree → Type 0) (ts : List Tok) (test : ℕ → Bool) (step : Tree → P) (whole : Out) (j : ℕ) : Type 0 where
  pub tree : Tree
  pub fuel : ℕ
  pub rest : whole ≡ many test step fuel (test j) tree j
  pub enough : length ts < fuel + j
  pub inside : j ≤ length ts
  pub known : Q tree

module _ (Q : Tree → Type 0) (ts : List Tok) (test : ℕ → Bool) (step : Tree → P) (whole : Out) (j : ℕ) where
  pub begins : (t : Tree) → whole ≡ many test step (suc (length ts)) (test j) t j → j ≤ length ts → Q t → Loop Q ts test step whole j
  begins t e l q = record { tree = t; fuel = suc (length ts); rest = e; enough = omega arith; inside = l; known = q }

  module _ (c : Loop Q ts test step whole j) where
    pub ends : test j ≡ false → whole ≡ ok c.tree j
    ends b = c.rest ∙ many_stop test step c.fuel c.tree j b

    steps : test j ≡ true → (f : ℕ) × (c.fuel ≡ suc f) × (whole ≡ then (step c.tree j) (λ u k. many test step f (test k) u k))
    steps b = go c.fuel refl
      where
        go : (f : ℕ) → c.fuel ≡ f
            → (f : ℕ) × (c.fuel ≡ suc f) × (whole ≡ then (step c.tree j) (λ u k. many test step f (test k) u k))
        go zero e = absurd (omega (arith, c.enough, c.inside))
        go (suc f) e =
            (f, e, c.rest ∙ ap (λ (n : ℕ). many test step n (test j) c.tree j) e ∙ many_step test step f c.tree j b)

    pub fails : test j ≡ true → (why : Syntax) (p : ℕ) → step c.tree j ≡ no why p → whole ≡ no why p
    fails b why p e = (steps b).2 ∙ then_no (step c.tree j) _ why p e

    pub goes_on : test j ≡ true → (R : Tree → Type 0) (u : Tree) (k : ℕ) → step c.tree j ≡ ok u k → j < k → k ≤ length ts → R u
        → Loop R ts test step whole k
    goes_on b R u k e up l q = record {
      tree = u;
      fuel = (steps b).0;
      rest = (steps b).2 ∙ then_ok (step c.tree j) _ u k e;
      enough = omega (arith, c.enough, (steps b).1);
      inside = l;
      known = q;
    }
