-- The sum is taken in 64 bits, so that it fits for every offset.
use Rattle.rules.specs.Rows.{place_fits}
use Rattle.rows.proofs.shape.place_fits.Goals as goal

pub returns : goal.returns
unfolding place_fits
returns c = rw (c.from-most.ensures, c.from.ensures, c.from-2.ensures)
