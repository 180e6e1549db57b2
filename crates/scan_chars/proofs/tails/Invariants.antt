-- So many tails were passed.
use Rattle.std.proofs.Common.{◌≤◌, drop}
use Rattle.rules.specs.Text.{front, is_tail}
use Rattle.scan_chars.proofs.tails.Given as goal

abbrev pub invariant-loop-k : goal.invariant-loop-k
invariant-loop-k l = l.k ≤ front is_tail (drop l.from l.text)
