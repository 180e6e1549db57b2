-- At the loop's head the rows so far are written, and the reading goes on behind them; each turn passes a byte.
use Rattle.std.proofs.Common.{◌-◌, length}
use Rattle.scan_part.proofs.Parts.{Going}
use Rattle.scan_part.proofs.read_part.Given as goal

abbrev pub invariant-loop-count : goal.invariant-loop-count
invariant-loop-count l = Going l.text l.fn.from.at l.most l.initial.rows l.rows l.here l.count l.comments

abbrev pub decreases-loop-count : goal.decreases-loop-count
decreases-loop-count l = length l.text - l.here.at
