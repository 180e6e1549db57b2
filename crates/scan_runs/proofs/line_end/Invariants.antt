-- The end of the line is the same from every index on the way.
use Rattle.std.proofs.Common.{◌≡◌, ◌+◌, ◌≤◌, length, drop}
use Rattle.rules.specs.Text.{front, not_newline}
use Rattle.scan_runs.proofs.line_end.Given as goal

abbrev pub invariant-loop-i : goal.invariant-loop-i
invariant-loop-i l = record {
  inside : l.i ≤ length l.text;
  line : l.i + front not_newline (drop l.i l.text) ≡ l.at + front not_newline (drop l.at l.text);
}
