-- At the loop's head the rows in front agree, and the place of the last of them is known.
use Rattle.file_beside.proofs.Agreeing.{Agreeing}
use Rattle.file_beside.proofs.rows_agree.Given as goal

abbrev pub invariant-loop-i : goal.invariant-loop-i
invariant-loop-i l = Agreeing l.text l.file l.table.count l.here l.i
