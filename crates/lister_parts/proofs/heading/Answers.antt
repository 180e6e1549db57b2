-- The name, the number of lines and a newline, one behind the other.
use Rattle.lister_parts.specs.Parts.{heading}
use Rattle.lister_parts.proofs.Adding.{adds_then}
use Rattle.lister_parts.proofs.heading.Goals as goal

pub returns : goal.returns
unfolding heading
returns c = adds_then (adds_then c.bytes-named.ensures c.word-counted.ensures) c.put.ensures
