-- Whether the line ends before the byte that the loop has come to.
use Rattle.std.proofs.Common.{◌≡◌, ltb}
use Rattle.rules.specs.Text.{front, not_newline}
use Rattle.scan_runs.proofs.ends_line.Given as goal

abbrev pub invariant-loop-b : goal.invariant-loop-b
invariant-loop-b l = l.found ≡ ltb (front not_newline l.bytes) l.b-index
