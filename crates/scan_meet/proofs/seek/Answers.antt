-- The rows that are passed start below the offset.
use Rattle.std.proofs.Common.{ap, arith}
use Rattle.rules.specs.Rows.{Row}
use Rattle.scan_meet.proofs.Meetings.{below_step}
use Rattle.scan_meet.proofs.seek.Goals as goal

pub returns-then-target-from : goal.returns-then-target-from
returns-then-target-from c =
    let s = ap (λ (r : Row). r.start) c.at.ensures in
    record {
      low = omega arith;
      high = omega arith;
      below = c.loop-i.invariant;
      stop = λ h. omega (arith, c.if-target-from.true, c.from.ensures, s);
    }

pub loop-i-preserved : goal.loop-i-preserved
loop-i-preserved c =
    let s = ap (λ (r : Row). r.start) c.at.ensures in
    below_step c.args.old.now c.args.row c.args.target c.loop-i.i c.loop-i.invariant (omega (arith, c.if-target-from.false, c.from.ensures, s))
