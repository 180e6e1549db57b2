-- At the loop's head the bytes that were passed stand in their places.
use Rattle.std.proofs.Common.{◌≡◌}
use Rattle.std.proofs.Math.Seq.{paste}
use Rattle.file_blocks.proofs.put_word.Given as goal

abbrev pub invariant-loop-k : goal.invariant-loop-k
invariant-loop-k l = l.bytes ≡ paste l.fn.bytes l.at l.byte-items l.k
