-- the names counted are no more than the rows, and with those of the rows from here on they are all
use Rattle.std.proofs.Common.{◌≡◌, ◌+◌, ◌-◌, ◌≤◌, length}
use Rattle.program_names.specs.Heads.{rows_where}
use Rattle.program_names.specs.Both.{heads, rows_of}
use Rattle.program_names.proofs.Both.count_names.Given as goal

abbrev pub invariant-loop-row : goal.invariant-loop-row
invariant-loop-row l = record {
  few : l.names ≤ l.row;
  all : l.names + length (rows_where (heads l.self) l.row (rows_of l.self - l.row)) ≡ length (rows_where (heads l.self) 0 (rows_of l.self));
}
