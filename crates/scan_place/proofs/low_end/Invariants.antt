-- What was passed is below 128.
use Rattle.scan_place.specs.Passed.{Passed}
use Rattle.scan_place.proofs.low_end.Given as goal

abbrev pub invariant-loop-i : goal.invariant-loop-i
invariant-loop-i l = Passed l.text l.from l.i
