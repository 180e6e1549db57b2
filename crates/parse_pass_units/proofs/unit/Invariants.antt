-- Things are read from the brace up to where the loop stands.
use Prim.Native.Nat.{◌-◌}
use Rattle.rules.specs.Grammar.{Items}
use Rattle.parse_pass_units.proofs.Parts.{Listed}
use Rattle.parse_pass_units.proofs.unit.Given as goal

abbrev pub invariant-loop-at : goal.invariant-loop-at
invariant-loop-at l = Listed Items 64 l.rows l.count l.initial.at l.at

abbrev pub decreases-loop-at : goal.decreases-loop-at
decreases-loop-at l = l.count - l.at
