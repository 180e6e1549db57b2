-- there are no more than there is room for
use Rattle.std.proofs.Common.{◌≤◌}
use Rattle.program_heap.proofs.gather.Given as goal

abbrev pub invariant-loop-row : goal.invariant-loop-row
invariant-loop-row l = l.n ≤ 2048
