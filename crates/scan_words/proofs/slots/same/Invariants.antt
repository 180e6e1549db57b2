-- What is left of the number is held against what is left of the bytes.
use Rattle.std.proofs.Common.{◌+◌}
use Rattle.scan_words.proofs.Telling.{Comparing}
use Rattle.scan_words.proofs.slots.same.Given as goal

abbrev pub invariant-loop-b : goal.invariant-loop-b
invariant-loop-b l = Comparing l.text l.at l.end l.fn.spelling l.left (l.at + l.b-index)
