use Rattle.rules.specs.Edit.{carry_row, with_comments}
use Rattle.edit_carry.proofs.Shift.row.Goals as goal

pub returns : goal.returns
unfolding carry_row with_comments
returns c = rw (c.moved.ensures, c.place-start.ensures, c.place.ensures)
