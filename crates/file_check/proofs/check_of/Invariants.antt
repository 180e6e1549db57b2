-- At the loop's head the sums are those of the strips that were passed, from the last one on.
use Rattle.file_check.proofs.Added.{Summed}
use Rattle.file_check.proofs.check_of.Given as goal

abbrev pub invariant-loop-k : goal.invariant-loop-k
invariant-loop-k l = Summed l.bytes l.k l.sums l.below
