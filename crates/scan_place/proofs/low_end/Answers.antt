-- A byte below 128 is passed, and the end.
use Rattle.std.proofs.Common.{◌≡◌, length, arith}
use Rattle.scan_place.proofs.Passed.{passed_on, passed_low}
use Rattle.scan_place.proofs.low_end.Goals as goal

pub loop-i-preserved : goal.loop-i-preserved
loop-i-preserved c =
    let t = c.args.text.now in
    passed_on t c.loop-i.invariant (passed_low t c.loop-i.i c.loop-i-test.true c.if-text-i-ge-FIRST_HIGH.false)

pub returns : goal.returns
returns c =
    let e : c.loop-i.i ≡ length c.args.text.now = omega (arith, c.loop-i.invariant.inside, c.loop-i-test.false) in
    rw (← e) c.loop-i.invariant
