-- The first digit stands in front of those behind it.
use Rattle.std.proofs.Common.{arith}
use Rattle.layout_back.proofs.Back.{counting_last}
use Rattle.layout_back.proofs.decimal.Goals as goal

pub returns : goal.returns
returns c = counting_last (omega arith) c.loop-left.invariant c.put.ensures
