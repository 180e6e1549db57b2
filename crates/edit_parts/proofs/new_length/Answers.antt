use Rattle.rules.specs.Edit.{new_length}
use Rattle.edit_parts.proofs.new_length.Goals as goal

pub returns : goal.returns
unfolding new_length
returns c = rw (c.from.ensures, c.from-2.ensures)
