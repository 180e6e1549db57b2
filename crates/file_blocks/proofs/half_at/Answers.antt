use Rattle.std.proofs.Common.{arith}
use Rattle.file_blocks.proofs.Laws.{half_is}
use Rattle.file_blocks.proofs.half_at.Goals as goal

pub returns : goal.returns
returns c = omega (arith, half_is c.args.bytes.now c.args.at c.requires, c.from.ensures, c.from_le_bytes.ensures)
