-- What falls with each call of the circle: the nesting that is left, and then the function's rank. And what holds at each turn of the loop.
use Rattle.std.proofs.Common.{◌+◌, ◌-◌, ◌*◌, List}
use Rattle.rules.specs.Tree.{Tok}
use Rattle.parse_nodes.specs.Post.{Tells}
use Rattle.parse_stmt.proofs.Lists.{Reading}
use Rattle.parse_stmt.proofs.+body_branch_otherwise_stmt.Given as goal

abbrev pub decreases-stmt : goal.decreases-stmt
decreases-stmt l = 4 * l.left + 3

abbrev pub decreases-branch : goal.decreases-branch
decreases-branch l = 4 * l.left + 2

abbrev pub decreases-otherwise : goal.decreases-otherwise
decreases-otherwise l = 4 * l.left + 1

abbrev pub decreases-body : goal.decreases-body
decreases-body l = 4 * l.left

abbrev pub invariant-body-loop-s : goal.invariant-body-loop-s
invariant-body-loop-s l = (ts : List Tok) → Tells ts l.rows l.count → Reading ts l.fn.row l.node l.left l.fn.nodes l.s l.nodes

abbrev pub decreases-body-loop-s : goal.decreases-body-loop-s
decreases-body-loop-s l = l.count - l.s.row
