-- In front of i the counts are the sums, and behind it they are those of a.
use Rattle.tally_join.proofs.Adds.{Adding}
use Rattle.tally_join.proofs.add_each.Given as goal

abbrev pub invariant-loop-i : goal.invariant-loop-i
invariant-loop-i l = Adding l.initial.a l.b l.a l.i
