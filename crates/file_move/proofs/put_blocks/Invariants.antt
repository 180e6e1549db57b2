-- At the loop's head the blocks in front of k are written, and those of the rows that are left give the whole.
use Rattle.std.proofs.Common.{◌*◌}
use Rattle.file_move.proofs.Going.{Moving}
use Rattle.file_move.proofs.put_blocks.Given as goal

abbrev pub invariant-loop-k : goal.invariant-loop-k
invariant-loop-k l = Moving l.form l.text l.file l.table.count l.fn.moved l.moved l.words l.here l.done l.k (512 * l.k)
