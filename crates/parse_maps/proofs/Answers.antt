-- Answers, made of what the parser says and taken apart again.
use mathlib.Core.Path.{◌≡◌, refl, sym, ap, ◌∙◌, subst}
use Prim.Native.Nat.{ℕ}
use native.Mathlib.Omega.{arith}
use Rattle.std.specs.Prelude.{Result, Ok, Err}
use Rattle.rules.specs.declared.Syntax.{Syntax}
use Rattle.rules.specs.Tree.{Tree, max_bits}
use Rattle.rules.specs.Parse.{Out, ok, no}
use Rattle.parse_nodes.specs.Post.{refusal, refused_at}
use Rattle.parse_nodes.specs.declared.Refusal.{Refusal}
use Rattle.parse_maps.specs.Steps.{Answer, sum_of, Adds}
use Rattle.parse_maps.specs.declared.Facts.{Facts}
use Rattle.parse_maps.specs.declared.Sum.{Sum}

module _ {X : Type 0} (value : Tree → ℕ → X) (o : Out) where
  pub answer_ok : (t : Tree) (j : ℕ) → o ≡ ok t j → Answer value o (Ok (value t j))
  answer_ok t j e = subst (λ (x : Out). Answer value x (Ok (value t j))) (sym e) refl

  -- a refusal that a function made, for a reason that a function gave
  pub answer_err : (why x : Syntax) (p : ℕ) (e : Refusal) → o ≡ no why p → x ≡ why → e ≡ refusal x p → Answer value o (Err e)
  answer_err why x p e q s r =
      subst (λ (y : Out). Answer value y (Err e)) (sym q) (ap Err r ∙ ap (λ (y : Syntax). refused_at y p) s)

  -- what a refusal says of the parser
  pub answer_refused : (r : Result X Refusal) (e : Refusal) → Answer value o r → r ≡ Err e → o ≡ no e.why e.row
  answer_refused r e h q = go o h
    where
      go : (o : Out) → Answer value o r → o ≡ no e.why e.row
      go (ok t j) h = cc (h, q)
      go (no why p) h = let z : refusal why p ≡ e = cc (h, q) in ap (λ (y : Refusal). no y.why y.row) z

-- the tree that a sum is of
pub record Summing (o : Out) (s : Sum) : Type 0 where
  pub tree : Tree
  pub is : o ≡ ok tree s.row
  pub bits : max_bits tree ≡ s.bits

pub sum_gave : (o : Out) (r : Result Sum Refusal) (s : Sum) → Adds o r → r ≡ Ok s → Summing o s
sum_gave (ok t j) r s h e =
    let q : sum_of t j ≡ s = cc (h, e) in
    subst (λ (x : Sum). Summing (ok t j) x) q (record { tree = t; is = refl; bits = refl })
sum_gave (no why p) r s h e = let z : ◌≡◌ {A = ℕ} 0 1 = cc (h, e) in absurd (omega arith)

-- the tree that facts are of
pub record Facing (value : Tree → ℕ → Facts) (o : Out) (f : Facts) : Type 0 where
  pub tree : Tree
  pub is : o ≡ ok tree f.row
  pub same : f ≡ value tree f.row

module _ (value : Tree → ℕ → Facts) where
  pub facts_gave : ((t : Tree) (j : ℕ) → (value t j).row ≡ j) → (o : Out) (r : Result Facts Refusal) (f : Facts)
      → Answer value o r → r ≡ Ok f → Facing value o f
  facts_gave g (ok t j) r f h e =
      let q : f ≡ value t j = cc (h, e) in
      let k : f.row ≡ j = ap (λ (x : Facts). x.row) q ∙ g t j in
      record { tree = t; is = ap (λ (x : ℕ). ok t x) (sym k); same = q ∙ ap (λ (x : ℕ). value t x) (sym k) }
  facts_gave g (no why p) r f h e = let z : ◌≡◌ {A = ℕ} 0 1 = cc (h, e) in absurd (omega arith)
