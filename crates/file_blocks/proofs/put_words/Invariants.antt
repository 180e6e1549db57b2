-- At the loop's head the words that were passed stand in the bytes.
use Rattle.std.proofs.Common.{◌≡◌, ◌++◌, ◌+◌, ◌*◌, take, drop}
use Rattle.rules_files.specs.Bytes.{bytes_of}
use Rattle.file_blocks.proofs.put_words.Given as goal

abbrev pub invariant-loop-i : goal.invariant-loop-i
invariant-loop-i l = l.bytes ≡ (take 4 l.fn.bytes ++ bytes_of (take l.i l.words)) ++ drop (4 + 4 * l.i) l.fn.bytes
