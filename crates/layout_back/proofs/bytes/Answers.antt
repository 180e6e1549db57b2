-- One byte more stands in front of those behind it.
use Rattle.std.proofs.Common.{arith}
use Rattle.layout_back.proofs.Back.{bytes_begin, bytes_on}
use Rattle.layout_back.proofs.bytes.Goals as goal

pub loop-i-init : goal.loop-i-init
loop-i-init c = bytes_begin c.args.text.now c.args.room.now c.args.at

pub loop-i-preserved : goal.loop-i-preserved
loop-i-preserved c = bytes_on c.args.text.now c.loop-i.i (omega arith) (omega arith) c.loop-i.invariant c.put-to.ensures
