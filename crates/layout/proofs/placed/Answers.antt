-- The layout is longer than 65,536 bytes, or than the room, or is written so that it ends where it is long.
use Rattle.std.proofs.Common.{arith}
use Rattle.rules_layout.specs.Bytes.{layout}
use Rattle.layout.proofs.Rooms.{refused_long, refused_short, in_room, length_is}
use Rattle.layout.proofs.placed.Goals as goal

pub returns-in_default : goal.returns-in_default
returns-in_default c = λ u l. refused_long (layout u) c.args.room.now (c.in_default.ensures u l)

pub returns-then-room-long : goal.returns-then-room-long
returns-then-room-long c = λ u l. refused_short (layout u) c.args.room.now (c.in-Some.ensures u l) c.if-room-long.true

pub overflow_cast-result : goal.overflow_cast-result
overflow_cast-result c =
    let e = length_is (layout c.requires.tree) c.args.room.now (c.in-Some.ensures c.requires.tree c.requires.lent) in
    omega (arith, e.0, e.1)

pub returns : goal.returns
returns c = λ u l. in_room (layout u) c.args.room.now (c.in-Some.ensures u l) c.if-room-long.false (c.write.ensures u l)
