-- At the loop's head the rows that were passed are written.
use Rattle.std.proofs.Common.{◌*◌}
use Rattle.rules_files.specs.Bytes.{bytes_of}
use Rattle.rules_files.specs.Blocks.{at_content}
use Rattle.rules_forms.specs.Short.{short_bytes, shortened}
use Rattle.file_parts.proofs.Parts.{Put}
use Rattle.file_parts.proofs.put_short_rows.Given as goal

abbrev pub invariant-loop-i : goal.invariant-loop-i
invariant-loop-i l = Put l.fn.bytes at_content (short_bytes * l.i) (bytes_of (shortened l.i l.rows)) l.bytes
