-- At the loop's head the rows from there on stand behind the last one just where all of them stand.
use Rattle.std.proofs.Common.{◌≡◌, ◌+◌, ◌-◌, ◌*◌, drop}
use Rattle.rows.specs.Shape.{as_row}
use Rattle.rules_forms.specs.Shapes.{row_bytes_of}
use Rattle.file_blocks.specs.Standing.{rows_from, stand}
use Rattle.file_blocks.proofs.rows_stand.Given as goal

abbrev pub invariant-loop-i : goal.invariant-loop-i
invariant-loop-i l =
    stand (as_row l.last) (rows_from l.form (l.n - l.i) (drop (4 + row_bytes_of l.form * l.i) l.bytes))
    ≡ stand (as_row l.fn.before) (rows_from l.form l.n (drop 4 l.bytes))
