-- The rows that are passed start below the offset.
use Rattle.std.proofs.Common.{ℕ, ◌<◌, ◌≤◌}
use Rattle.rows.specs.Shape.{row_no}
use Rattle.scan_meet.proofs.seek.Given as goal

abbrev pub invariant-loop-i : goal.invariant-loop-i
invariant-loop-i l = (j : ℕ) → l.row ≤ j → j < l.i → (row_no l.old j).start < l.target
