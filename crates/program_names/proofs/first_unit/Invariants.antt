-- what is found in the rows from here on is what is found in all
use Rattle.std.proofs.Common.{◌≡◌, ◌-◌}
use Rattle.program_names.specs.Heads.{rows_where, first_of, is_unit_head}
use Rattle.program_names.proofs.first_unit.Given as goal

abbrev pub invariant-loop-row : goal.invariant-loop-row
invariant-loop-row l = first_of (rows_where (is_unit_head l.rows) l.row (l.count - l.row)) ≡ first_of (rows_where (is_unit_head l.rows) 0 l.count)
