-- Over the nodes of a tree, whichever row is its first, everything adds up as over the tree.
use Prim.Native.Nat.{ℕ, ◌+◌}
use mathlib.Core.Bool.{Bool, true, false, cond}
use mathlib.Core.List.{List, [], ◌∷◌, ◌++◌}
use mathlib.Core.Path.{◌≡◌, refl, ◌∙◌}
use native.Mathlib.Omega.{arith}
use lib.Dec.{eqb}
use Rattle.rules.specs.Kinds.{KeywordReg, KeywordImm, KeywordSection, Equals, Plus, Minus, Star, Slash, Percent, Shl}
use Rattle.rules.specs.Tree.{Tree, none, num, var, star, group, field, call, bin, one, more, decl, ret, plain, assign, guard, then_body, else_body, seq, text, unit, map_type, typed, limit, first, shifted, map_decl, plain_field, bytes_field, array_field, event, program}
use Rattle.rules.specs.Nodes.{Node, node, missing, NodeProgram, place_of, binary_node, decl_node, assign_node, text_node, nodes_of, size, tree_words, width}
use Rattle.rules_tally.specs.Tally.{Thing, a_statement, total, tally_of, node_total, nodes_total, nodes_tally, nodes_in}
use Rattle.rules_tally.specs.Calls.{sum}
use Rattle.theory_tally.proofs.Totals.{nodes_append, one_node, nodes_last, program_nothing, tally_same, tally_append}
use Rattle.theory_tally.proofs.Reading.{read_tree}

module _ (f : Thing → ℕ) where
  -- what the nodes of signs and words count
  module _ (p q c : ℕ) where
    binary_nothing : (k : ℕ) → node_total f (node (binary_node k) p q c) ≡ 0
    unfolding node_total binary_node
    binary_nothing k = by (eqb k Plus) (eqb k Minus) (eqb k Star) (eqb k Slash) (eqb k Percent) (eqb k Shl)
      where
        by : (x₁ x₂ x₃ x₄ x₅ x₆ : Bool) → node_total f (node (cond x₁ 4 (cond x₂ 5 (cond x₃ 6 (cond x₄ 7 (cond x₅ 8 (cond x₆ 9 10)))))) p q c) ≡ 0
        by true x₂ x₃ x₄ x₅ x₆ = refl
        by false true x₃ x₄ x₅ x₆ = refl
        by false false true x₄ x₅ x₆ = refl
        by false false false true x₅ x₆ = refl
        by false false false false true x₆ = refl
        by false false false false false true = refl
        by false false false false false false = refl

    decl_one : (k : ℕ) → node_total f (node (decl_node k) p q c) ≡ f a_statement
    unfolding node_total decl_node
    decl_one k = by (eqb k KeywordReg) (eqb k KeywordImm)
      where
        by : (x₁ x₂ : Bool) → node_total f (node (cond x₁ 16 (cond x₂ 17 18)) p q c) ≡ f a_statement
        by true x₂ = refl
        by false true = refl
        by false false = refl

    assign_one : (k : ℕ) → node_total f (node (assign_node k) p q c) ≡ f a_statement
    unfolding node_total assign_node
    assign_one k = by (eqb k Equals)
      where
        by : (x : Bool) → node_total f (node (cond x 14 15) p q c) ≡ f a_statement
        by true = refl
        by false = refl

    text_nothing : (k : ℕ) → node_total f (node (text_node k) p q c) ≡ 0
    unfolding node_total text_node
    text_nothing k = by (eqb k KeywordSection)
      where
        by : (x : Bool) → node_total f (node (cond x 23 24) p q c) ≡ 0
        by true = refl
        by false = refl

  -- a node behind what adds up to x
  behind : (ns : List Node) (n : Node) {x y : ℕ} → nodes_total f ns ≡ x → node_total f n ≡ y → nodes_total f (ns ++ (n ∷ [])) ≡ x + y
  behind ns n p q = nodes_last f ns n p q

  nothing_behind : (ns : List Node) (n : Node) {x : ℕ} → nodes_total f ns ≡ x → node_total f n ≡ 0 → nodes_total f (ns ++ (n ∷ [])) ≡ x
  nothing_behind ns n p q = let e = nodes_last f ns n p q in omega arith

  two : (a b : List Node) {x y : ℕ} → nodes_total f a ≡ x → nodes_total f b ≡ y → nodes_total f (a ++ b) ≡ x + y
  two a b p q = let e = nodes_append f a b in omega arith

  three : (a b : List Node) (n : Node) {x y z : ℕ} → nodes_total f a ≡ x → nodes_total f b ≡ y → node_total f n ≡ z → nodes_total f (a ++ (b ++ (n ∷ []))) ≡ x + y + z
  three a b n p q r = let e = nodes_append f a (b ++ (n ∷ [])) in let g = nodes_last f b n q r in omega arith

  two_and_nothing : (a b : List Node) (n : Node) {x y : ℕ} → nodes_total f a ≡ x → nodes_total f b ≡ y → node_total f n ≡ 0
      → nodes_total f (a ++ (b ++ (n ∷ []))) ≡ x + y
  two_and_nothing a b n p q r = let e = three a b n p q r in omega arith

  nothing_before : (n : Node) (ns : List Node) {x : ℕ} → node_total f n ≡ 0 → nodes_total f ns ≡ x → nodes_total f (n ∷ ns) ≡ x
  unfolding nodes_total
  nothing_before n ns p q = omega arith

  no_nodes : nodes_total f [] ≡ 0
  unfolding nodes_total
  no_nodes = refl

  alone : (n : Node) {x : ℕ} → node_total f n ≡ x → nodes_total f (n ∷ []) ≡ x
  alone n p = one_node f n ∙ p

  pub total_nodes : (i : ℕ) (t : Tree) → nodes_total f (nodes_of i t) ≡ total f t
  unfolding node_total nodes_of total
  total_nodes i none = no_nodes
  total_nodes i (num v) = alone _ refl
  total_nodes i (var w) = alone _ refl
  total_nodes i (star t) = nothing_behind _ _ (total_nodes (i + 1) t) refl
  total_nodes i (group t) = total_nodes (i + 1) t
  total_nodes i (field t w) = nothing_behind _ _ (total_nodes i t) refl
  total_nodes i (call t w a) = two_and_nothing _ _ _ (total_nodes i t) (total_nodes (i + width t + 3) a) refl
  total_nodes i (bin k l r) = two_and_nothing _ _ _ (total_nodes i l) (total_nodes (i + width l + 1) r) (binary_nothing (place_of i l) missing 2 k)
  total_nodes i (one t) = total_nodes i t
  total_nodes i (more a t) = two _ _ (total_nodes i a) (total_nodes (i + width a + 1) t)
  total_nodes i (decl k w e) = behind _ _ (total_nodes (i + 3) e) (decl_one (i + 1) (i + 1) 1 k)
  total_nodes i (ret e) = behind _ _ (total_nodes (i + 1) e) refl
  total_nodes i (plain e) = behind _ _ (total_nodes i e) refl
  total_nodes i (assign k l r) = three _ _ _ (total_nodes i l) (total_nodes (i + width l + 1) r) (assign_one (place_of i l) missing 2 k)
  total_nodes i (guard w b e) =
      nothing_before _ _ refl (three _ _ _ (total_nodes (i + 5) b) (total_nodes (i + 5 + width b) e) refl)
  total_nodes i (then_body s) = nothing_behind _ _ (total_nodes (i + 1) s) refl
  total_nodes i (else_body s) = nothing_behind _ _ (total_nodes (i + 2) s) refl
  total_nodes i (seq l t) = two _ _ (total_nodes i l) (total_nodes (i + width l) t)
  total_nodes i (text k w) = alone _ (text_nothing (i + 1) (i + 1) 0 k)
  total_nodes i (unit w l) = behind _ _ (total_nodes (i + 3) l) refl
  total_nodes i (map_type w) = no_nodes
  total_nodes i (typed k t) = no_nodes
  total_nodes i (limit c) = no_nodes
  total_nodes i (first v) = no_nodes
  total_nodes i (shifted k c v) = no_nodes
  total_nodes i (map_decl w l) = alone _ refl
  total_nodes i (plain_field w t) = alone _ refl
  total_nodes i (bytes_field w v) = alone _ refl
  total_nodes i (array_field w t v) = alone _ refl
  total_nodes i (event w l) = behind _ _ (total_nodes (i + 3) l) refl
  total_nodes i (program l) = nothing_behind _ _ (total_nodes i l) refl

-- The tally of a tree's nodes is the tree's.
pub tally_nodes : (i : ℕ) (t : Tree) → nodes_tally (nodes_of i t) ≡ tally_of t
unfolding nodes_tally tally_of
tally_nodes i t = tally_same (λ f. total_nodes f i t)

-- The same of its words, whatever is lent behind them.
pub tally_words : (i : ℕ) (t : Tree) (rest : List ℕ) → nodes_tally (nodes_in (size t) (tree_words i t ++ rest)) ≡ tally_of t
tally_words i t rest = rw (read_tree i t rest) (tally_nodes i t)

-- Two trees' nodes one behind the other: the tallies add up.
pub tally_two : (i j : ℕ) (t u : Tree) → nodes_tally (nodes_of i t ++ nodes_of j u) ≡ sum (tally_of t) (tally_of u)
tally_two i j t u = rw (tally_append, tally_nodes i t, tally_nodes j u)

-- The program's own node counts nothing, so what two texts declare, with one program node behind it, has the tally of both programs.
pub tally_program : (l : Tree) → tally_of (program l) ≡ tally_of l
unfolding tally_of total
tally_program l = refl

declared : (j : ℕ) (m : Tree) (n : Node) → n.kind ≡ NodeProgram → nodes_tally (nodes_of j m ++ (n ∷ [])) ≡ tally_of m
unfolding nodes_tally tally_of
declared j m n e = tally_same (λ f. nothing_behind f (nodes_of j m) n (total_nodes f j m) (program_nothing f n e))

pub tally_texts : (i j : ℕ) (l m : Tree) (n : Node) → n.kind ≡ NodeProgram
    → nodes_tally (nodes_of i l ++ (nodes_of j m ++ (n ∷ []))) ≡ sum (tally_of (program l)) (tally_of (program m))
tally_texts i j l m n e = rw (tally_append, tally_nodes i l, declared j m n e, tally_program l, tally_program m)
