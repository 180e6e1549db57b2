use Rattle.std.proofs.Common.{◌≡◌, ◌+◌, ◌-◌, ◌*◌, arith}
use Rattle.file_check.proofs.Added.{summed_none, summed_more, summed_all}
use Rattle.file_check.proofs.check_of.Goals as goal

pub loop-k-init : goal.loop-k-init
loop-k-init c = summed_none c.args.bytes.now c.requires

pub loop-k-preserved : goal.loop-k-preserved
loop-k-preserved c =
    let k = c.loop-k.k in
    let z = c.loop-k.invariant in
    let g = c.add_bytes.ensures in
    let long : 64 * (k - 1 + 1) - 64 * (k - 1) ≡ 64 = omega arith in
    let few = rw long at g.few in
    let more = summed_more c.args.bytes.now k (k - 1) c.loop-k.sums c.loop-k.below c.requires (omega arith) (omega arith) z few in
    rw (rw long at g.is, c.add_sums.ensures) more

pub overflow_sub-result : goal.overflow_sub-result
overflow_sub-result c =
    let all = summed_all c.args.bytes.now c.loop-k.k c.loop-k.sums c.loop-k.below (omega arith) c.loop-k.invariant in
    omega (arith, all, c.weigh.ensures, c.own_part.ensures)

pub returns : goal.returns
returns c =
    let all = summed_all c.args.bytes.now c.loop-k.k c.loop-k.sums c.loop-k.below (omega arith) c.loop-k.invariant in
    omega (arith, all, c.weigh.ensures, c.own_part.ensures)
