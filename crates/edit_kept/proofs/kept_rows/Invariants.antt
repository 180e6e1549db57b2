-- As many as are kept lie between low and high, which halving brings together.
use Rattle.std.proofs.Common.{◌-◌}
use Rattle.edit_kept.proofs.Kept.{Between}
use Rattle.edit_kept.proofs.kept_rows.Given as goal

abbrev pub invariant-loop-low : goal.invariant-loop-low
invariant-loop-low l = Between l.a l.old l.count l.low l.high

abbrev pub decreases-loop-low : goal.decreases-loop-low
decreases-loop-low l = l.high - l.low
