-- At the loop's head the blocks in front of k are written, and the blocks of the rows that are left give the whole.
use Rattle.std.proofs.Common.{◌*◌}
use Rattle.file_store.proofs.Going.{Going}
use Rattle.file_store.proofs.put_rows.Given as goal

abbrev pub invariant-loop-k : goal.invariant-loop-k
invariant-loop-k l = Going l.rows l.count l.fn.file l.file l.done l.k (512 * l.k)
