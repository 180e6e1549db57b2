-- At the loop's head the words that were passed are the block's.
use Rattle.std.proofs.Common.{◌≡◌, ◌++◌, drop}
use Rattle.rules_files.specs.Bytes.{words_in}
use Rattle.file_blocks.proofs.take_words.Given as goal

abbrev pub invariant-loop-i : goal.invariant-loop-i
invariant-loop-i l = l.word-items ≡ words_in l.i (drop 4 l.bytes) ++ drop l.i l.initial.word-items
