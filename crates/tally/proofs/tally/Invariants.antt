-- Behind i nodes the tally is theirs, and each of them can be counted.
use Rattle.tally.proofs.Going.{Going}
use Rattle.tally.proofs.tally.Given as goal

abbrev pub invariant-loop-i : goal.invariant-loop-i
invariant-loop-i l = Going l.nodes l.n l.i l.t
