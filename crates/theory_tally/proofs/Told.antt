-- What a tallying tells of the nodes of a program: all are counted, and the tally is the tree's.
use Prim.Native.Nat.{ℕ, ◌*◌, ◌≤◌}
use mathlib.Core.Bool.{true}
use mathlib.Core.List.{List, ◌++◌}
use Rattle.std.specs.Prelude.{Ok}
use mathlib.Core.Path.{◌≡◌}
use native.Mathlib.Omega.{arith}
use lib.ListN.{length, length-append}
use borrow.Author.Tests.{le-leb}
use Rattle.rules.specs.Tree.{Tree}
use Rattle.rules.specs.Nodes.{size, tree_words}
use Rattle.rules.specs.Grammar.{Program, Is}
use Rattle.theory_grammar.proofs.Laws.{tree_length}
use Rattle.rules_tally.specs.Tally.{tally_of, nodes_in}
use Rattle.rules_tally.specs.Calls.{most_nodes, are_countable, tallied}
use Rattle.theory_tally.proofs.Reading.{read_tree}
use Rattle.theory_tally.proofs.Trees.{tally_words}
use Rattle.theory_tally.proofs.Countable.{nodes_countable}

pub program_told : {d : ℕ} (i : ℕ) (t : Tree) (rest : List ℕ) → Is true Program d t → size t ≤ most_nodes
    → tallied (tree_words i t ++ rest) (size t) ≡ Ok (tally_of t)
unfolding tallied
program_told i t rest h l =
    let lent : 8 * size t ≤ length (tree_words i t ++ rest) = simp length-append (omega (arith, tree_length i t)) in
    let countable : are_countable (nodes_in (size t) (tree_words i t ++ rest)) ≡ true = rw (read_tree i t rest) (nodes_countable i h) in
    rw (le-leb (size t) most_nodes l, le-leb (8 * size t) (length (tree_words i t ++ rest)) lent, countable, tally_words i t rest)
