-- Blanks were passed.
use Rattle.std.proofs.Common.{length, ◌-◌}
use Rattle.scan_blanks.specs.Blanks.{Blanked}
use Rattle.scan_blanks.proofs.past_blanks.Given as goal

abbrev pub invariant-loop-here : goal.invariant-loop-here
invariant-loop-here l = Blanked l.text l.fn.from l.here

abbrev pub decreases-loop-here : goal.decreases-loop-here
decreases-loop-here l = length l.text - l.here.at
