-- What falls with each call of the circle: the constructs that are left, and then the function's rank. What a body's loop has read.
use Prim.Native.Nat.{ℕ, ◌+◌, ◌*◌, ◌-◌}
use Rattle.rules.specs.Grammar.{Stmts}
use Rattle.parse_pass_units.proofs.Parts.{Listed}
use Rattle.parse_pass_units.proofs.+statement.Given as goal

-- three ranks
abbrev measure : (left rank : ℕ) → ℕ
measure left rank = 3 * left + rank

abbrev pub decreases-statement : goal.decreases-statement
decreases-statement l = measure l.left 2

abbrev pub decreases-branch : goal.decreases-branch
decreases-branch l = measure l.left 1

abbrev pub decreases-body : goal.decreases-body
decreases-body l = measure l.left 0

abbrev pub invariant-body-loop-at : goal.invariant-body-loop-at
invariant-body-loop-at l = Listed Stmts l.under l.rows l.count l.initial.at l.at

abbrev pub decreases-body-loop-at : goal.decreases-body-loop-at
decreases-body-loop-at l = l.count - l.at
