-- the free place is one of the heap
use Rattle.std.proofs.Common.{◌<◌, length}
use Rattle.program_heap.proofs.rise.Given as goal

abbrev pub invariant-loop-at : goal.invariant-loop-at
invariant-loop-at l = l.at < length l.heap

abbrev pub decreases-loop-at : goal.decreases-loop-at
decreases-loop-at l = l.at
