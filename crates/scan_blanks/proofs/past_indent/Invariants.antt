-- Blanks were passed, and the bytes go on behind them.
use Rattle.std.proofs.Common.{◌≡◌, drop}
use Rattle.std.specs.Slice.Iter.{chunks_exact_rest, chunks_exact_size}
use Rattle.scan_blanks.specs.Blanks.{Blanked}
use Rattle.scan_blanks.proofs.past_indent.Given as goal

abbrev pub invariant-loop-bytes : goal.invariant-loop-bytes
invariant-loop-bytes l = record {
  can : goal.iterator-loop-bytes.can_next l.bytes-iterator;
  finite : goal.iterator-loop-bytes.is_finite l.bytes-iterator;
  size : chunks_exact_size l.bytes-iterator ≡ 4;
  rest : chunks_exact_rest l.bytes-iterator ≡ drop l.here.at l.text;
  passed : Blanked l.text l.fn.from l.here;
}
