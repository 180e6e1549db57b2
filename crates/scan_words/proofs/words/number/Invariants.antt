-- The number is the same from every byte on.
use Rattle.std.proofs.Common.{◌≡◌, drop}
use Rattle.scan_words.specs.Words.{packed_of}
use Rattle.scan_words.proofs.words.number.Given as goal

abbrev pub invariant-loop-b : goal.invariant-loop-b
invariant-loop-b l = packed_of l.v (drop l.b-index l.s) ≡ packed_of 0 l.s
