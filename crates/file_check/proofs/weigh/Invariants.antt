-- At the loop's head the sums that were passed are weighed, none of which adds more than 2 * 65535 * 64.
use Rattle.std.proofs.Common.{◌≡◌, ◌+◌, ◌*◌, ◌≤◌, take}
use Rattle.rules_files.specs.Blocks.{check}
use Rattle.file_check.specs.Columns.{total}
use Rattle.file_check.proofs.weigh.Given as goal

abbrev pub invariant-loop-j : goal.invariant-loop-j
invariant-loop-j l = (l.sum ≡ check (take l.j l.sums) + 64 * total (take l.j l.below)) × (l.sum ≤ 8388480 * l.j)
