-- At the loop's head the blocks in front are sound, and those that are left give the whole answer.
use Rattle.std.proofs.Common.{◌*◌}
use Rattle.rows.specs.Shape.{as_row}
use Rattle.file_load.proofs.Judging.{Judging}
use Rattle.file_load.proofs.judge_blocks.Given as goal

abbrev pub invariant-loop-k : goal.invariant-loop-k
invariant-loop-k l = Judging l.form l.file l.count l.plain (as_row l.last) l.stand l.left l.more l.k (512 * l.k)
