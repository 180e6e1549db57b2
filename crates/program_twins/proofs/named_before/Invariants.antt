-- no head passed is named so
use Rattle.program_names.specs.Both.{heads, spelled}
use Rattle.program_twins.specs.Given.{Before}
use Rattle.program_twins.proofs.named_before.Given as goal

abbrev pub invariant-loop-k : goal.invariant-loop-k
invariant-loop-k l = Before (heads l.both) (spelled l.both) l.k l.name → ⊥
