-- what was checked stays so
use Rattle.program_twins.specs.Given.{CheckedBoth}
use Rattle.program_twins.proofs.Given.give_block.Given as goal

abbrev pub invariant-loop-key : goal.invariant-loop-key
invariant-loop-key l = CheckedBoth l.both l.given
