-- What falls with each call of the circle: the nesting that is left, and then the function's rank. What holds at each turn of its loops.
use Prim.Native.Nat.{ℕ, ◌+◌, ◌*◌, ◌-◌}
use Rattle.rules.specs.Grammar.{Mul, Args}
use Rattle.rules.specs.Parse.{is_mul}
use Rattle.parse_pass_expr.proofs.Ladder.{Turn, level_of, op_of, is_comma}
use Rattle.parse_pass_expr.proofs.Passes.{Stars}
use Rattle.parse_pass_expr.proofs.+expression.Given as goal

-- six ranks
abbrev measure : (left rank : ℕ) → ℕ
measure left rank = 6 * left + rank

abbrev pub decreases-arguments : goal.decreases-arguments
decreases-arguments l = measure l.left 5

abbrev pub decreases-expression : goal.decreases-expression
decreases-expression l = measure l.left 4

abbrev pub decreases-product : goal.decreases-product
decreases-product l = measure l.left 3

abbrev pub decreases-factor : goal.decreases-factor
decreases-factor l = measure l.left 2

abbrev pub decreases-operand : goal.decreases-operand
decreases-operand l = measure l.left 1

abbrev pub decreases-group : goal.decreases-group
decreases-group l = measure l.left 0

abbrev pub decreases-variable : goal.decreases-variable
decreases-variable l = measure l.left 0

-- ---- the loops: what was seen before the row at which they stand

abbrev pub invariant-arguments-loop-end : goal.invariant-arguments-loop-end
invariant-arguments-loop-end l = Turn Args is_comma l.left l.rows l.count l.row l.at

abbrev pub decreases-arguments-loop-end : goal.decreases-arguments-loop-end
decreases-arguments-loop-end l = l.count - l.at

abbrev pub invariant-expression-loop-end : goal.invariant-expression-loop-end
invariant-expression-loop-end l = Turn (level_of l.summed) (op_of l.summed) l.left l.rows l.count l.row l.at

abbrev pub decreases-expression-loop-end : goal.decreases-expression-loop-end
decreases-expression-loop-end l = l.count - l.at

abbrev pub invariant-product-loop-end : goal.invariant-product-loop-end
invariant-product-loop-end l = Turn Mul is_mul l.left l.rows l.count l.row l.at

abbrev pub decreases-product-loop-end : goal.decreases-product-loop-end
decreases-product-loop-end l = l.count - l.at

-- ---- the stars of an operand: each has opened one construct more

abbrev pub invariant-operand-loop-rest : goal.invariant-operand-loop-rest
invariant-operand-loop-rest l = Stars l.left l.rest l.rows l.count l.row l.at

abbrev pub decreases-operand-loop-rest : goal.decreases-operand-loop-rest
decreases-operand-loop-rest l = l.rest
