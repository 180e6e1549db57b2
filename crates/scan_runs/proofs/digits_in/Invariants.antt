-- The run of digits and what it spells are the same from every index on the way.
use Rattle.scan_runs.proofs.Runs.{Counted}
use Rattle.scan_runs.proofs.digits_in.Given as goal

abbrev pub invariant-loop-i : goal.invariant-loop-i
invariant-loop-i l = Counted l.hex l.text l.at l.value l.i
