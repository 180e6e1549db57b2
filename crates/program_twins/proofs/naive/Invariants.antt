-- no row passed is a twin
use Rattle.std.proofs.Common.{ℕ, ◌<◌}
use Rattle.program_names.specs.Both.{heads, spelled}
use Rattle.program_twins.specs.Given.{Twin}
use Rattle.program_twins.proofs.naive.Given as goal

abbrev pub invariant-loop-row : goal.invariant-loop-row
invariant-loop-row l = (j : ℕ) → j < l.row → Twin (heads l.both) (spelled l.both) j → ⊥
