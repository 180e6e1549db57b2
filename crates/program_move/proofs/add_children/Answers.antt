-- the children's word is there, and their number fits it
use Rattle.std.proofs.Common.{arith}
use Rattle.program_move.proofs.First.{children_long, children_fit}
use Rattle.program_move.proofs.add_children.Goals as goal

pub bounds-nodes-3 : goal.bounds-nodes-3
bounds-nodes-3 c = omega (arith, children_long c.requires)

pub overflow_add-nodes : goal.overflow_add-nodes
overflow_add-nodes c = omega (arith, children_fit c.requires)

pub bounds-nodes-3-2 : goal.bounds-nodes-3-2
bounds-nodes-3-2 c = omega (arith, children_long c.requires)
