use Rattle.std.proofs.Common.{◌+◌, ◌*◌, ◌≤◌, arith, refl}
use Rattle.std.proofs.Math.Nat.{mul-le-mul}
use Rattle.rules_files.specs.Blocks.{sum_from, check}
use Rattle.file_check.specs.Columns.{total}
use Rattle.file_check.proofs.Laws.{check_more}
use Rattle.file_check.proofs.Added.{total_more}
use Rattle.file_check.proofs.weigh.Goals as goal

pub loop-j-init : goal.loop-j-init
unfolding check sum_from total
loop-j-init c = (refl, omega arith)

pub loop-j-preserved : goal.loop-j-preserved
loop-j-preserved c =
    let f = check_more c.args.sums.now c.loop-j.j (omega arith) in
    let g = total_more c.args.below.now c.loop-j.j (omega arith) in
    let place : c.loop-j.j + 1 ≤ 64 = omega arith in
    let most : c.from.result ≤ 65535 = omega (arith, c.fits-sums c.loop-j.j) in
    let product : c.from.result * (c.loop-j.j + 1) ≤ 65535 * 64 = mul-le-mul most place in (
      rw (c.from.ensures, c.from-in-loop-j.ensures, f, g) (omega (arith, c.loop-j.invariant.0)),
      omega (arith, product, c.loop-j.invariant.1, c.fits-below c.loop-j.j),
    )
