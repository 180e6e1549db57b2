-- Where there are no words, each is read as zero.
use Rattle.std.proofs.Common.{refl}
use Rattle.rules.specs.Rows.{row_in}
use Rattle.rows.proofs.shape.Row.none.Goals as goal

pub returns : goal.returns
unfolding row_in
returns c = refl
