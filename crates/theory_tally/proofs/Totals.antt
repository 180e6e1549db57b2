-- Totals of nodes one after the other, and tallies by what is added up.
use Prim.Native.Nat.{ℕ, ◌+◌, ◌≤◌}
use mathlib.Core.Bool.{Bool, true, false, cond}
use mathlib.Core.List.{List, [], ◌∷◌, ◌++◌}
use mathlib.Core.Path.{◌≡◌, refl, ap, sym, fun_ext, ◌∙◌}
use native.Mathlib.Omega.{arith}
use lib.Dec.{eqb}
use Rattle.rules.specs.Nodes.{Node, NodeUnit, NodeMap, NodeEvent, NodeProgram}
use Rattle.rules_tally.specs.Tally.{Thing, a_unit, a_map, an_event, a_statement, max_of, tally_by, is_statement, node_total, nodes_total, nodes_tally}
use Rattle.rules_tally.specs.Calls.{add_each, sum}

-- Tallies are the same if all totals are.
pub tally_same : {g h : (Thing → ℕ) → ℕ} → ((f : Thing → ℕ) → g f ≡ h f) → tally_by g ≡ tally_by h
tally_same e = ap tally_by (fun_ext e)

pub sum_by : (g h : (Thing → ℕ) → ℕ) → sum (tally_by g) (tally_by h) ≡ tally_by (λ f. g f + h f)
unfolding tally_by sum add_each
sum_by g h = refl

module _ (f : Thing → ℕ) where
  -- ---- one after the other

  pub nodes_append : (a b : List Node) → nodes_total f (a ++ b) ≡ nodes_total f a + nodes_total f b
  unfolding nodes_total
  nodes_append [] b = omega arith
  nodes_append (n ∷ a) b = let e = nodes_append a b in omega arith

  pub one_node : (n : Node) → nodes_total f (n ∷ []) ≡ node_total f n
  unfolding nodes_total
  one_node n = omega arith

  pub nodes_last : (ns : List Node) (n : Node) {x y : ℕ} → nodes_total f ns ≡ x → node_total f n ≡ y → nodes_total f (ns ++ (n ∷ [])) ≡ x + y
  nodes_last ns n p q = let e = nodes_append ns (n ∷ []) in let o = one_node n in omega arith

  -- ---- a program node counts nothing

  pub program_nothing : (n : Node) → n.kind ≡ NodeProgram → node_total f n ≡ 0
  unfolding node_total
  program_nothing n e = rw e refl

  -- ---- how much a node counts at most

  pub node_most : (b : ℕ) → ((x : Thing) → f x ≤ b) → (n : Node) → node_total f n ≤ b
  unfolding node_total
  node_most b h n =
      by (eqb n.kind NodeUnit) (h (a_unit n.fact0))
      (by (eqb n.kind NodeMap) (h (a_map n.fact0 n.fact3))
      (by (eqb n.kind NodeEvent) (h an_event) (by (is_statement n.kind) (h a_statement) (omega arith))))
    where
      by : (c : Bool) {x y : ℕ} → x ≤ b → y ≤ b → cond c x y ≤ b
      by true p q = p
      by false p q = q

pub max_most : (n : Node) → node_total max_of n ≤ n.fact3
unfolding node_total max_of
max_most n =
    by (eqb n.kind NodeUnit) (omega arith)
    (by (eqb n.kind NodeMap) (omega arith)
    (by (eqb n.kind NodeEvent) (omega arith) (by (is_statement n.kind) (omega arith) (omega arith))))
  where
    by : (c : Bool) {x y : ℕ} → x ≤ n.fact3 → y ≤ n.fact3 → cond c x y ≤ n.fact3
    by true p q = p
    by false p q = q

-- ---- tallies

-- Of nodes behind nodes the tallies add up.
pub tally_append : (a b : List Node) → nodes_tally (a ++ b) ≡ sum (nodes_tally a) (nodes_tally b)
unfolding nodes_tally
tally_append a b = tally_same (λ f. nodes_append f a b) ∙ sym (sum_by (λ f. nodes_total f a) (λ f. nodes_total f b))
