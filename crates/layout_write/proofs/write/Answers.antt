-- The nodes that are lent have the bytes of the layout.
use Rattle.layout_write.proofs.Whole.{program_made}
use Rattle.layout_write.proofs.write.Goals as goal

pub returns : goal.returns
returns c = λ u l. c.program.ensures.done (program_made l)
