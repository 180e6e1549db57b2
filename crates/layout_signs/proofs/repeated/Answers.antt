-- The bytes once more.
use Rattle.layout_signs.proofs.Signs.{repeated_none, repeated_on}
use Rattle.layout_signs.proofs.repeated.Goals as goal

pub loop-init : goal.loop-init
loop-init c = repeated_none c.args.bytes.now c.args.room.now c.args.at

pub loop-preserved : goal.loop-preserved
loop-preserved c = repeated_on c.loop.counter c.loop.invariant c.bytes-to.ensures
