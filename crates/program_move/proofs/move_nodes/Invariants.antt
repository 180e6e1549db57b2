-- the nodes in front are moved
use Rattle.std.proofs.Common.{◌≡◌, ℕ, ◌*◌, List, ◌++◌, length}
use Rattle.rules.specs.Nodes.{Node, words_of_nodes}
use Rattle.program_move.proofs.Going.{Going}
use Rattle.program_move.proofs.move_nodes.Given as goal

abbrev pub invariant-loop-i : goal.invariant-loop-i
invariant-loop-i l =
    (ns : List Node) (rest : List ℕ) → length ns ≡ l.count → l.initial.nodes ≡ words_of_nodes ns ++ rest → Going ns rest l.by (l.i * 8) l.nodes
