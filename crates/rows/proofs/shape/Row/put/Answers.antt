-- Eight stores are the words of a row.
use lib.Seq.{sets-eq}
use Rattle.rules.specs.Rows.{row_words}
use Rattle.rows.specs.Shape.{as_row}
use Rattle.rows.proofs.shape.Row.put.Goals as goal

pub returns : goal.returns
unfolding row_words
returns c = sets-eq (row_words (as_row c.args.self)) c.args.words.now 0 c.requires
