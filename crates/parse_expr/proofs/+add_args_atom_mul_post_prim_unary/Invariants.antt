-- What falls with each call of the circle: the nesting that is left, and then the function's rank. And what holds at each turn of the loops.
use Rattle.std.proofs.Common.{◌+◌, ◌-◌, ◌*◌, List}
use Rattle.rules.specs.Tree.{Tok}
use Rattle.parse_nodes.specs.Post.{Tells}
use Rattle.parse_expr.proofs.Ladder.{Terms, Factors}
use Rattle.parse_expr.proofs.Lists.{Dotted, Argued}
use Rattle.parse_expr.proofs.+add_args_atom_mul_post_prim_unary.Given as goal

abbrev pub decreases-add : goal.decreases-add
decreases-add l = 6 * l.left + 5

abbrev pub decreases-mul : goal.decreases-mul
decreases-mul l = 6 * l.left + 4

abbrev pub decreases-unary : goal.decreases-unary
decreases-unary l = 6 * l.left + 3

abbrev pub decreases-prim : goal.decreases-prim
decreases-prim l = 6 * l.left + 2

abbrev pub decreases-post : goal.decreases-post
decreases-post l = 6 * l.left + 1

abbrev pub decreases-atom : goal.decreases-atom
decreases-atom l = 6 * l.left

abbrev pub decreases-args : goal.decreases-args
decreases-args l = 6 * l.left

abbrev pub invariant-add-loop-t : goal.invariant-add-loop-t
invariant-add-loop-t l = (ts : List Tok) → Tells ts l.rows l.count → Terms ts l.left l.row l.node l.fn.nodes l.s l.operator l.at l.nodes

abbrev pub decreases-add-loop-t : goal.decreases-add-loop-t
decreases-add-loop-t l = l.count - l.at

abbrev pub invariant-mul-loop-t : goal.invariant-mul-loop-t
invariant-mul-loop-t l = (ts : List Tok) → Tells ts l.rows l.count → Factors ts l.left l.row l.node l.fn.nodes l.s l.operator l.at l.nodes

abbrev pub decreases-mul-loop-t : goal.decreases-mul-loop-t
decreases-mul-loop-t l = l.count - l.at

abbrev pub invariant-prim-loop-nodes : goal.invariant-prim-loop-nodes
invariant-prim-loop-nodes l = (ts : List Tok) → Tells ts l.rows l.count → Dotted ts l.left l.row l.node l.fn.nodes l.s l.nodes

abbrev pub decreases-prim-loop-nodes : goal.decreases-prim-loop-nodes
decreases-prim-loop-nodes l = l.count - l.s.row

abbrev pub invariant-args-loop-nodes : goal.invariant-args-loop-nodes
invariant-args-loop-nodes l = (ts : List Tok) → Tells ts l.rows l.count → Argued ts l.left l.fn.row l.node l.fn.nodes l.s l.nodes

abbrev pub decreases-args-loop-nodes : goal.decreases-args-loop-nodes
decreases-args-loop-nodes l = l.count - l.s.row
