-- All sums in front of i fit.
use Rattle.tally_join.proofs.Adds.{Tried}
use Rattle.tally_join.proofs.all_fit.Given as goal

abbrev pub invariant-loop-i : goal.invariant-loop-i
invariant-loop-i l = Tried l.a l.b l.i
