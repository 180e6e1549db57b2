-- Digit by digit from the last.
use Rattle.layout_back.proofs.Back.{Counting}
use Rattle.layout_back.proofs.decimal.Given as goal

abbrev pub invariant-loop-left : goal.invariant-loop-left
invariant-loop-left l = Counting l.number l.initial.room l.at l.left l.room l.to

abbrev pub decreases-loop-left : goal.decreases-loop-left
decreases-loop-left l = l.left
