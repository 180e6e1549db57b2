-- At the loop's head the words of the rows in front are taken.
use Rattle.std.proofs.Common.{◌*◌}
use Rattle.file_load.proofs.Taking.{Taking}
use Rattle.file_load.proofs.take_rows.Given as goal

abbrev pub invariant-loop-k : goal.invariant-loop-k
invariant-loop-k l = Taking l.file l.count l.fn.rows l.rows l.done (512 * l.k)
