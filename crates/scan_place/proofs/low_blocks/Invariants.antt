-- What was passed is below 128, and the blocks go on behind it.
use Rattle.std.proofs.Common.{◌≡◌, drop}
use Rattle.std.specs.Slice.Iter.{chunks_exact_rest, chunks_exact_size}
use Rattle.scan_place.specs.Passed.{Passed}
use Rattle.scan_place.proofs.low_blocks.Given as goal

abbrev pub invariant-loop-block : goal.invariant-loop-block
invariant-loop-block l = record {
  can : goal.iterator-loop-block.can_next l.block-iterator;
  finite : goal.iterator-loop-block.is_finite l.block-iterator;
  size : chunks_exact_size l.block-iterator ≡ 32;
  rest : chunks_exact_rest l.block-iterator ≡ drop l.i l.text;
  passed : Passed l.text l.fn.from l.i;
}
