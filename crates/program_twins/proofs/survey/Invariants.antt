-- what was checked stays so with each block
use Rattle.program_twins.specs.Given.{CheckedBoth}
use Rattle.program_twins.proofs.survey.Given as goal

abbrev pub invariant-loop : goal.invariant-loop
invariant-loop l = CheckedBoth l.both l.given
