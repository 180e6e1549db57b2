-- No newline was passed, and the blocks go on behind what was.
use Rattle.std.proofs.Common.{◌≡◌, ◌+◌, ◌≤◌, drop}
use Rattle.std.specs.Slice.Iter.{chunks_exact_rest, chunks_exact_size}
use Rattle.rules.specs.Text.{front, not_newline}
use Rattle.scan_runs.proofs.past_blocks.Given as goal

abbrev pub invariant-loop-bytes : goal.invariant-loop-bytes
invariant-loop-bytes l = record {
  can : goal.iterator-loop-bytes.can_next l.bytes-iterator;
  finite : goal.iterator-loop-bytes.is_finite l.bytes-iterator;
  size : chunks_exact_size l.bytes-iterator ≡ 16;
  rest : chunks_exact_rest l.bytes-iterator ≡ drop l.i l.text;
  from : l.at ≤ l.i;
  line : l.i ≤ l.at + front not_newline (drop l.at l.text);
}
