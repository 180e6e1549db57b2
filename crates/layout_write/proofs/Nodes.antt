-- Nodes that stand one behind the other in words, and what their words say.
use mathlib.Core.Path.{◌≡◌, refl, sym, ap, ◌∙◌}
use mathlib.Core.List.{List, [], ◌∷◌, ◌++◌, append_assoc}
use Prim.Native.Nat.{ℕ, suc, ◌+◌, ◌*◌}
use native.Mathlib.Omega.{arith}
use lib.ListN.{length, get_or, drop}
use lib.Seq.{get_or-drop, drop-drop, drop_at}
use Rattle.rules.specs.Tree.{Tree}
use Rattle.rules.specs.Nodes.{Node, node_words, words_of_nodes, nodes_of, size}
use Rattle.theory_grammar.proofs.Laws.{words_append, nodes_size}
use Rattle.layout_back.specs.Words.{word_of}

words_long : (ns : List Node) → length (words_of_nodes ns) ≡ length ns * 8
unfolding words_of_nodes node_words
words_long [] = refl
words_long (n ∷ ns) = omega (arith, words_long ns)

-- from node m on the words are those of these nodes, and then others
pub record At (nodes : List ℕ) (m : ℕ) (ns : List Node) : Type 0 where
  pub rest : List ℕ
  pub are : drop (m * 8) nodes ≡ words_of_nodes ns ++ rest

module _ {nodes : List ℕ} where
  pub at_left : {m : ℕ} (ns ms : List Node) → At nodes m (ns ++ ms) → At nodes m ns
  at_left ns ms a =
      record {
        rest = words_of_nodes ms ++ a.rest;
        are = a.are ∙ ap (λ (l : List ℕ). l ++ a.rest) (words_append ns ms) ∙ append_assoc (words_of_nodes ns) (words_of_nodes ms) a.rest;
      }

  pub at_right : {m : ℕ} (ns ms : List Node) → At nodes m (ns ++ ms) → At nodes (m + length ns) ms
  at_right {m} ns ms a =
      let e : (m + length ns) * 8 ≡ m * 8 + length ns * 8 = omega arith in
      record {
        rest = a.rest;
        are =
            ap (λ (k : ℕ). drop k nodes) e
            ∙ sym (drop-drop (length ns * 8) (m * 8) nodes)
            ∙ ap (λ (l : List ℕ). drop (length ns * 8) l) (a.are ∙ ap (λ (l : List ℕ). l ++ a.rest) (words_append ns ms)
            ∙ append_assoc (words_of_nodes ns) (words_of_nodes ms) a.rest)
            ∙ drop_at (words_of_nodes ns) (words_of_nodes ms ++ a.rest) (length ns * 8) (words_long ns);
      }

  -- behind a tree's nodes
  pub at_after : {m : ℕ} (i : ℕ) (t : Tree) (ms : List Node) → At nodes m (nodes_of i t ++ ms) → At nodes (m + size t) ms
  at_after {m} i t ms a =
      let b = at_right (nodes_of i t) ms a in
      record { rest = b.rest; are = ap (λ (k : ℕ). drop ((m + k) * 8) nodes) (sym (nodes_size i t)) ∙ b.are }

  pub at_next : {m : ℕ} (n : Node) (ns : List Node) → At nodes m (n ∷ ns) → At nodes (suc m) ns
  at_next {m} n ns a =
      let b = at_right (n ∷ []) ns a in
      let e : suc m ≡ m + 1 = omega arith in
      record { rest = b.rest; are = ap (λ (k : ℕ). drop (k * 8) nodes) e ∙ b.are }

  word_at_lem : {m : ℕ} {n : Node} {ns : List Node} (k : ℕ) (a : At nodes m (n ∷ ns)) → word_of nodes m k ≡ get_or
      (node_words n ++ (words_of_nodes ns ++ a.rest)) k 0
  unfolding word_of words_of_nodes
  word_at_lem {m} {n} {ns} k a =
      sym (get_or-drop (m * 8) nodes k 0) ∙ ap (λ (l : List ℕ). get_or l k 0) (a.are ∙ append_assoc (node_words n) (words_of_nodes ns) a.rest)

  pub kind_at : {m : ℕ} {n : Node} {ns : List Node} → At nodes m (n ∷ ns) → word_of nodes m 0 ≡ n.kind
  unfolding node_words
  kind_at a = word_at_lem 0 a

  pub name_at : {m : ℕ} {n : Node} {ns : List Node} → At nodes m (n ∷ ns) → word_of nodes m 2 ≡ n.name
  unfolding node_words
  name_at a = word_at_lem 2 a

  pub children_at : {m : ℕ} {n : Node} {ns : List Node} → At nodes m (n ∷ ns) → word_of nodes m 3 ≡ n.children
  unfolding node_words
  children_at a = word_at_lem 3 a

  pub fact0_at : {m : ℕ} {n : Node} {ns : List Node} → At nodes m (n ∷ ns) → word_of nodes m 4 ≡ n.fact0
  unfolding node_words
  fact0_at a = word_at_lem 4 a

  pub fact1_at : {m : ℕ} {n : Node} {ns : List Node} → At nodes m (n ∷ ns) → word_of nodes m 5 ≡ n.fact1
  unfolding node_words
  fact1_at a = word_at_lem 5 a

  pub fact2_at : {m : ℕ} {n : Node} {ns : List Node} → At nodes m (n ∷ ns) → word_of nodes m 6 ≡ n.fact2
  unfolding node_words
  fact2_at a = word_at_lem 6 a

  pub fact3_at : {m : ℕ} {n : Node} {ns : List Node} → At nodes m (n ∷ ns) → word_of nodes m 7 ≡ n.fact3
  unfolding node_words
  fact3_at a = word_at_lem 7 a
