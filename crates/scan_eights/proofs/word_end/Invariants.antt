-- The end of the word is the same from every index on the way, and the blocks go on there.
use Rattle.std.proofs.Common.{◌≡◌, ◌+◌, ◌≤◌, length, drop}
use Rattle.std.specs.Slice.Iter.{chunks_exact_rest, chunks_exact_size}
use Rattle.rules.specs.Text.{front}
use Rattle.rules.specs.Lex.{is_word}
use Rattle.scan_eights.proofs.word_end.Given as goal

abbrev pub invariant-loop-bytes : goal.invariant-loop-bytes
invariant-loop-bytes l = record {
  can : goal.iterator-loop-bytes.can_next l.bytes-iterator;
  finite : goal.iterator-loop-bytes.is_finite l.bytes-iterator;
  size : chunks_exact_size l.bytes-iterator ≡ 8;
  rest : chunks_exact_rest l.bytes-iterator ≡ drop l.i l.text;
  inside : l.i ≤ length l.text;
  ends : l.i + front is_word (drop l.i l.text) ≡ l.at + front is_word (drop l.at l.text);
}
