-- The number, the words and a newline, one behind the other.
use Rattle.lister_parts.specs.Parts.{node_line}
use Rattle.lister_parts.proofs.Adding.{adds_then}
use Rattle.lister_parts.proofs.node_line.Goals as goal

pub returns : goal.returns
unfolding node_line
returns c = adds_then (adds_then c.number-numbered.ensures c.words-told.ensures) c.put.ensures
