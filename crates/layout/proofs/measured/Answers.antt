-- It begins at 0 if it is longer than 65,536 bytes.
use Rattle.std.proofs.Common.{arith}
use Rattle.rules_layout.specs.Bytes.{layout}
use Rattle.layout.proofs.Rooms.{measured_none, measured_some}
use Rattle.layout.proofs.measured.Goals as goal

pub returns-then-start-eq0 : goal.returns-then-start-eq0
returns-then-start-eq0 c = λ u l. measured_none (layout u) (c.write-start.ensures u l).begins c.if-start-eq0.true

pub overflow_sub-result : goal.overflow_sub-result
overflow_sub-result c = omega (arith, (c.write-start.ensures c.requires.tree c.requires.lent).begins)

pub returns-else-start-eq0 : goal.returns-else-start-eq0
returns-else-start-eq0 c = λ u l. measured_some (layout u) (c.write-start.ensures u l).begins c.if-start-eq0.false
