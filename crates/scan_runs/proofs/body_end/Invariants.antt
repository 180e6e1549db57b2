-- The end of the comment's body is the same from every index on the way.
use Rattle.std.proofs.Common.{◌≡◌, ◌≤◌, ◌+◌, ◌-◌, length, drop}
use Rattle.rules.specs.Lex.{before_close}
use Rattle.scan_runs.proofs.body_end.Given as goal

abbrev pub invariant-loop-i : goal.invariant-loop-i
invariant-loop-i l = record {
  inside : l.i ≤ length l.text;
  same : l.i + before_close (drop l.i l.text) ≡ l.at + before_close (drop l.at l.text);
}

abbrev pub decreases-loop-i : goal.decreases-loop-i
decreases-loop-i l = length l.text - l.i
