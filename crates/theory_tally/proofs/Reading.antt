-- Nodes read from words: so many and then one more, and read from the words of nodes they are those nodes.
use Prim.Native.Nat.{ℕ, zero, suc, ◌+◌, ◌*◌, ◌≤◌}
use mathlib.Core.List.{List, [], ◌∷◌, ◌++◌}
use mathlib.Core.Path.{◌≡◌, refl, ap, ◌∙◌}
use native.Mathlib.Omega.{arith}
use native.Mathlib.Nat.{suc-mul}
use lib.ListN.{length, drop}
use lib.Seq.{drop-drop}
use Rattle.rules.specs.Tree.{Tree}
use Rattle.rules.specs.Nodes.{Node, node_words, words_of_nodes, tree_words, nodes_of, size}
use Rattle.theory_grammar.proofs.Laws.{nodes_size}
use Rattle.rules_tally.specs.Tally.{Thing, node_in, nodes_in, node_total, nodes_total}

-- node i
abbrev pub node_no : List ℕ → ℕ → Node
node_no ws i = node_in (drop (8 * i) ws)

further : (i : ℕ) (ws : List ℕ) → drop (8 * i) (drop 8 ws) ≡ drop (8 * suc i) ws
further i ws =
    let e : 8 + 8 * i ≡ 8 * suc i = omega arith in
    drop-drop (8 * i) 8 ws ∙ ap (λ (n : ℕ). drop n ws) e

pub read_next : (i : ℕ) (ws : List ℕ) → nodes_in (suc i) ws ≡ nodes_in i ws ++ (node_no ws i ∷ [])
unfolding nodes_in
read_next zero ws = refl
read_next (suc i) ws = ap (λ (ns : List Node). node_in ws ∷ ns) (read_next i (drop 8 ws) ∙ ap (λ (us : List ℕ). nodes_in i (drop 8 ws) ++ (node_in us ∷ [])) (further i ws))

-- what each of n nodes counts at most
pub read_most : (f : Thing → ℕ) (b n : ℕ) (ws : List ℕ) → ((i : ℕ) → node_total f (node_no ws i) ≤ b) → nodes_total f (nodes_in n ws) ≤ n * b
unfolding nodes_in nodes_total
read_most f b zero ws h = omega arith
read_most f b (suc n) ws h =
    let first : node_total f (node_in ws) ≤ b = h 0 in
    let rest : nodes_total f (nodes_in n (drop 8 ws)) ≤ n * b = read_most f b n (drop 8 ws) (λ i. rw (further i ws) (h (suc i))) in
    omega (arith, suc-mul n b)

pub read_back : (ns : List Node) (rest : List ℕ) → nodes_in (length ns) (words_of_nodes ns ++ rest) ≡ ns
unfolding nodes_in node_in words_of_nodes node_words
read_back [] rest = refl
read_back (n ∷ ns) rest = ap (λ (ms : List Node). n ∷ ms) (read_back ns rest)

-- the nodes of a tree, whatever is lent behind them
pub read_tree : (i : ℕ) (t : Tree) (rest : List ℕ) → nodes_in (size t) (tree_words i t ++ rest) ≡ nodes_of i t
unfolding tree_words
read_tree i t rest = rw (← nodes_size i t) (read_back (nodes_of i t) rest)
