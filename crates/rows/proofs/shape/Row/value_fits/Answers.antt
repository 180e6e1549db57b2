-- Both words together are the 64 bits.
use Rattle.rows.specs.Shape.{as_row}
use Rattle.rows.proofs.Shapes.{value_fits_lem}
use Rattle.rows.proofs.shape.Row.value_fits.Goals as goal

pub returns : goal.returns
returns c = rw (c.from-2.ensures, c.from.ensures) (value_fits_lem (as_row c.args.self))
