-- At the loop's head the bytes that were passed are added.
use Rattle.std.proofs.Common.{◌≡◌, take}
use Rattle.file_check.specs.Columns.{plus}
use Rattle.file_check.proofs.add_bytes.Given as goal

abbrev pub invariant-loop-j : goal.invariant-loop-j
invariant-loop-j l = l.sums ≡ plus l.fn.sums (take l.j l.strip)
