-- What falls with each call of the circle, the node and then the function's rank; and what holds on the way through a loop.
use Rattle.std.proofs.Common.{◌+◌, ◌*◌}
use Rattle.layout_signs.specs.Levels.{number}
use Rattle.layout_expr.proofs.Ways.{InArgs, OnWay}
use Rattle.layout_expr.proofs.+args_call_expr_leaf_step.Given as goal

abbrev pub decreases-args : goal.decreases-args
decreases-args l = 4 * l.n + 1

abbrev pub decreases-call : goal.decreases-call
decreases-call l = 4 * l.j + 2

abbrev pub decreases-expr : goal.decreases-expr
decreases-expr l = 4 * l.n

abbrev pub decreases-leaf : goal.decreases-leaf
decreases-leaf l = 4 * l.j + 1

abbrev pub decreases-step : goal.decreases-step
decreases-step l = 4 * l.j + 3

abbrev pub invariant-args-loop-left : goal.invariant-args-loop-left
invariant-args-loop-left l =
    InArgs l.source.text.now l.source.rows.now l.source.nodes.now l.n l.things l.initial.room l.at l.end l.left l.room l.to

abbrev pub invariant-expr-loop-end : goal.invariant-expr-loop-end
invariant-expr-loop-end l =
    OnWay l.source.text.now l.source.rows.now l.source.nodes.now l.n (number l.fn.place) l.initial.room l.at l.end (number l.takes) l.opened l.room l.to

abbrev pub decreases-expr-loop-end : goal.decreases-expr-loop-end
decreases-expr-loop-end l = l.end
