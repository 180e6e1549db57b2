-- A statement as a thing that a unit holds.
use Rattle.parse_pass_units.proofs.Parts.{as_item}
use Rattle.parse_pass_units.proofs.item.Goals as goal

pub returns-in_default : goal.returns-in_default
returns-in_default c = as_item _ _ _ _ _ c.statement.ensures
