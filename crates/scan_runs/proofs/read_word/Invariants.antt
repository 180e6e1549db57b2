-- The end of the word, and its number, are the same from every index on the way.
use Rattle.scan_runs.proofs.Words.{Packing}
use Rattle.scan_runs.proofs.read_word.Given as goal

abbrev pub invariant-loop-i : goal.invariant-loop-i
invariant-loop-i l = Packing l.text l.at l.packed l.i
