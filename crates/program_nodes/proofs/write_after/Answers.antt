-- The text's nodes are written and moved, and its program node's children added to.
use Rattle.std.proofs.Common.{arith}
use Rattle.program_nodes.proofs.Writing.{made_some, asks_move, after_long, asks_children, after_written}
use Rattle.program_nodes.proofs.write_after.Goals as goal

pub move_nodes-requires : goal.move_nodes-requires
move_nodes-requires c = asks_move c.args.nodes.now c.requires _ c.write_one-made.result c.write_one-made.ensures

pub overflow_sub-last : goal.overflow_sub-last
overflow_sub-last c = made_some c.args.nodes.now c.requires _ c.write_one-made.result c.write_one-made.ensures

pub add_children-requires : goal.add_children-requires
add_children-requires c =
    asks_children c.args.nodes.now c.requires _ c.write_one-made.result c.write_one-made.ensures c.move_nodes.new.nodes c.move_nodes.ensures

pub returns : goal.returns
returns c =
    after_written c.args.nodes.now c.requires _ c.write_one-made.result c.write_one-made.ensures
    c.move_nodes.new.nodes c.move_nodes.ensures c.add_children.new.nodes c.add_children.ensures

pub slice_bounds-add_children-count : goal.slice_bounds-add_children-count
slice_bounds-add_children-count c =
    let l = after_long c.args.nodes.now c.requires _ c.write_one-made.result c.write_one-made.ensures c.move_nodes.new.nodes c.move_nodes.ensures in
    omega (arith, l)

pub slice_bounds-add_children-start : goal.slice_bounds-add_children-start
slice_bounds-add_children-start c =
    let l = after_long c.args.nodes.now c.requires _ c.write_one-made.result c.write_one-made.ensures c.move_nodes.new.nodes c.move_nodes.ensures in
    omega (arith, l)
