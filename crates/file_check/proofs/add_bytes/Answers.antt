use Rattle.std.proofs.Common.{arith, sym}
use Rattle.file_check.proofs.Added.{plus_none, plus_stored, stored_within}
use Rattle.file_check.proofs.add_bytes.Goals as goal

pub loop-j-init : goal.loop-j-init
loop-j-init c = sym (plus_none c.args.sums.now c.args.strip.now)

-- the place that is next is as it was
pub overflow_add-sums : goal.overflow_add-sums
overflow_add-sums c =
    let small = stored_within c.args.sums.now c.args.strip.now c.loop-j.sums c.loop-j.j c.loop-j.invariant 65280 c.requires.1 in
    omega (arith, small, c.from.ensures, c.type_inv.strip c.loop-j.j)

pub loop-j-preserved : goal.loop-j-preserved
loop-j-preserved c =
    plus_stored c.args.sums.now c.args.strip.now c.loop-j.sums c.loop-j.j c.loop-j.invariant c.from.result c.from.ensures (omega arith) (omega arith)
