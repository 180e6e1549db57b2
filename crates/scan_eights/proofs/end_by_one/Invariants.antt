-- The end of the word is the same from every index on the way.
use Rattle.std.proofs.Common.{◌≡◌, ◌+◌, drop}
use Rattle.rules.specs.Text.{front}
use Rattle.rules.specs.Lex.{is_word}
use Rattle.scan_eights.proofs.end_by_one.Given as goal

abbrev pub invariant-loop-i : goal.invariant-loop-i
invariant-loop-i l = l.i + front is_word (drop l.i l.text) ≡ l.at + front is_word (drop l.at l.text)
