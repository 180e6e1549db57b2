-- Fields are seen from the row up to where the loop stands.
use Prim.Native.Nat.{◌-◌}
use Rattle.parse_pass_expr.specs.Seen.{SeenOn}
use Rattle.parse_pass_expr.proofs.fields.Given as goal

abbrev pub invariant-loop-at : goal.invariant-loop-at
invariant-loop-at l = SeenOn l.rows l.count l.row l.at

abbrev pub decreases-loop-at : goal.decreases-loop-at
decreases-loop-at l = l.count - l.at
