-- At the loop's head the sums that were passed are added.
use Rattle.std.proofs.Common.{◌≡◌, take}
use Rattle.file_check.specs.Columns.{plus}
use Rattle.file_check.proofs.add_sums.Given as goal

abbrev pub invariant-loop-j : goal.invariant-loop-j
invariant-loop-j l = l.onto ≡ plus l.fn.onto (take l.j l.sums)
