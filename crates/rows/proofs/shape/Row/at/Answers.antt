-- The eight words from 8 times i on are row i.
use Rattle.rows.proofs.Shapes.{row_words}
use Rattle.rows.proofs.shape.Row.at.Goals as goal

pub returns : goal.returns
returns c = row_words c.args.rows.now c.args.i
