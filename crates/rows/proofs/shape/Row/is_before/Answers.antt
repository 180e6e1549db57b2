use Rattle.rows.specs.Shape.{behind}
use Rattle.rows.proofs.shape.Row.is_before.Goals as goal

pub returns : goal.returns
unfolding behind
returns c = rw (c.lines_fit.ensures, c.place.ensures)
