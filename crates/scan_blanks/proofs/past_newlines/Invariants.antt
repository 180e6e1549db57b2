-- Blanks were passed.
use Rattle.scan_blanks.specs.Blanks.{Blanked}
use Rattle.scan_blanks.proofs.past_newlines.Given as goal

abbrev pub invariant-loop-i : goal.invariant-loop-i
invariant-loop-i l = Blanked l.text l.fn.from (record { at = l.i; cursor = l.cursor })
