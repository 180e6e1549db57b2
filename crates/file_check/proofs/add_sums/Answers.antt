use Rattle.std.proofs.Common.{arith, sym, refl}
use Rattle.file_check.proofs.Added.{plus_none, plus_stored, stored_within}
use Rattle.file_check.proofs.add_sums.Goals as goal

pub loop-j-init : goal.loop-j-init
loop-j-init c = sym (plus_none c.args.onto.now c.args.sums.now)

-- the place that is next is as it was
pub overflow_add-onto : goal.overflow_add-onto
overflow_add-onto c =
    let small = stored_within c.args.onto.now c.args.sums.now c.loop-j.onto c.loop-j.j c.loop-j.invariant 32767 c.requires.0 in
    omega (arith, small, c.requires.1.at c.loop-j.j)

pub loop-j-preserved : goal.loop-j-preserved
loop-j-preserved c = plus_stored c.args.onto.now c.args.sums.now c.loop-j.onto c.loop-j.j c.loop-j.invariant _ refl (omega arith) (omega arith)
