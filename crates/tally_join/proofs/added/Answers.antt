-- All twenty sums fit (`fitting`).
use Rattle.std.proofs.Common.{arith}
use Rattle.tally_join.proofs.Adds.{fitting}
use Rattle.tally_join.proofs.added.Goals as goal

pub add_each-requires : goal.add_each-requires
add_each-requires c =
    let f = fitting c.args.a c.args.b.now c.requires in
    record { alike = omega arith; fit = f.units }

pub add_each-requires-2 : goal.add_each-requires-2
add_each-requires-2 c =
    let f = fitting c.args.a c.args.b.now c.requires in
    record { alike = omega arith; fit = f.maps }

pub overflow_add-a : goal.overflow_add-a
overflow_add-a c = omega (arith, (fitting c.args.a c.args.b.now c.requires).events)

pub overflow_add-a-2 : goal.overflow_add-a-2
overflow_add-a-2 c = omega (arith, (fitting c.args.a c.args.b.now c.requires).statements)

pub overflow_add-a-3 : goal.overflow_add-a-3
overflow_add-a-3 c = omega (arith, (fitting c.args.a c.args.b.now c.requires).max)

pub overflow_add-a-4 : goal.overflow_add-a-4
overflow_add-a-4 c = omega (arith, (fitting c.args.a c.args.b.now c.requires).methods)
