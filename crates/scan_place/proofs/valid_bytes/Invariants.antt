-- What was passed is characters.
use Rattle.std.proofs.Common.{length, ◌-◌}
use Rattle.scan_place.specs.Passed.{Passed}
use Rattle.scan_place.proofs.valid_bytes.Given as goal

abbrev pub invariant-loop-i : goal.invariant-loop-i
invariant-loop-i l = Passed l.text 0 l.i

abbrev pub decreases-loop-i : goal.decreases-loop-i
decreases-loop-i l = length l.text - l.i
