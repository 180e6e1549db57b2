use Rattle.std.proofs.Common.{refl}
use Rattle.rules.specs.Rows.{row_place}
use Rattle.rows.proofs.shape.Row.place.Goals as goal

pub returns : goal.returns
unfolding row_place
returns c = refl
