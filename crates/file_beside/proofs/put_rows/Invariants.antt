-- At the loop's head the words of the rows in front are put, and the place of the last of them is known.
use Rattle.file_beside.proofs.Putting.{Putting}
use Rattle.file_beside.proofs.put_rows.Given as goal

abbrev pub invariant-loop-i : goal.invariant-loop-i
invariant-loop-i l = Putting l.text l.file l.from l.n l.fn.words l.words l.here l.i
