use Rattle.std.proofs.Common.{arith}
use Rattle.file_blocks.proofs.Laws.{word_is}
use Rattle.file_blocks.proofs.word_at.Goals as goal

pub returns : goal.returns
returns c = omega (arith, word_is c.args.bytes.now c.args.at c.requires, c.from_le_bytes.ensures)
