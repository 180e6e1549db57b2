-- the nodes in front have their entries
use Rattle.std.proofs.Common.{◌≡◌, List, ℕ, ◌++◌, length}
use Rattle.rules.specs.Nodes.{Node, words_of_nodes}
use Rattle.program_index.proofs.Filling.{Filling}
use Rattle.program_index.proofs.write_entries.Given as goal

abbrev pub invariant-loop-n : goal.invariant-loop-n
invariant-loop-n l =
    (ns : List Node) (rest : List ℕ) → length ns ≡ l.count → l.nodes ≡ words_of_nodes ns ++ rest → Filling ns l.initial.index l.n l.index l.made
