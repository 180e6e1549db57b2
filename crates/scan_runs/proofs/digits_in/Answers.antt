-- A digit, and a byte that is none.
use Rattle.std.proofs.Common.{◌≡◌, length, arith}
use Rattle.scan_runs.proofs.Runs.{counted_on, counted_stop, counted_end}
use Rattle.scan_runs.proofs.digits_in.Goals as goal

pub returns-in-None : goal.returns-in-None
returns-in-None c =
    let l = c.loop-i in
    counted_stop c.args.hex c.args.text.now c.args.at l.value l.i l.invariant c.loop-i-test.true (c.type_inv.text l.i).fits c.in-None.ensures

pub loop-i-preserved : goal.loop-i-preserved
loop-i-preserved c =
    let l = c.loop-i in
    rw (c.longer-value.ensures, c.in-Some.ensures.0)
    (counted_on c.args.hex c.args.text.now c.args.at l.value l.i l.invariant c.loop-i-test.true (c.type_inv.text l.i).fits
    (rw (← c.in-Some.ensures.0) c.in-Some.ensures.1))

pub returns : goal.returns
returns c =
    let l = c.loop-i in
    let e : l.i ≡ length c.args.text.now = omega (arith, l.invariant.inside, c.loop-i-test.false) in
    rw (← e) (counted_end c.args.hex c.args.text.now c.args.at l.value l.i l.invariant c.loop-i-test.false)
