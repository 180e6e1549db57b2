-- The string's answer is the same from every index on the way.
use Rattle.std.proofs.Common.{◌≡◌, ◌≤◌, ◌-◌, false, length, drop}
use Rattle.scan_runs.specs.Leaf.{quoted_from}
use Rattle.scan_runs.proofs.read_quoted.Given as goal

abbrev pub invariant-loop-i : goal.invariant-loop-i
invariant-loop-i l = record { inside : l.i ≤ length l.text; same : quoted_from false l.i (drop l.i l.text) ≡ quoted_from false l.at (drop l.at l.text) }

abbrev pub decreases-loop-i : goal.decreases-loop-i
decreases-loop-i l = length l.text - l.i
