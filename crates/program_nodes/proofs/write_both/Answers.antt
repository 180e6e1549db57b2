-- The probe's nodes stand after the prelude's, from the prelude's program node on.
use Rattle.std.proofs.Common.{arith}
use Rattle.program_nodes.proofs.Writing.{first_some, first_long, asks_after, both_few, both_written}
use Rattle.program_nodes.proofs.write_both.Goals as goal

pub overflow_sub-kept : goal.overflow_sub-kept
overflow_sub-kept c = first_some c.args.nodes.now c.requires _ c.write_one-kept.result c.write_one-kept.ensures

pub write_after-made-requires : goal.write_after-made-requires
write_after-made-requires c = asks_after c.args.nodes.now c.requires _ c.write_one-kept.result c.write_one-kept.ensures

pub returns : goal.returns
returns c =
    both_written c.args.nodes.now c.requires _ c.write_one-kept.result c.write_one-kept.ensures _ c.write_after-made.result c.write_after-made.ensures

pub bounds-nodes-first : goal.bounds-nodes-first
bounds-nodes-first c = omega (arith, first_long c.args.nodes.now c.requires _ c.write_one-kept.result c.write_one-kept.ensures)

pub slice_bounds-write_after-count : goal.slice_bounds-write_after-count
slice_bounds-write_after-count c = omega (arith, first_long c.args.nodes.now c.requires _ c.write_one-kept.result c.write_one-kept.ensures)

pub slice_bounds-write_after-start : goal.slice_bounds-write_after-start
slice_bounds-write_after-start c = omega (arith, first_long c.args.nodes.now c.requires _ c.write_one-kept.result c.write_one-kept.ensures)

pub overflow_add-result : goal.overflow_add-result
overflow_add-result c =
    let w = c.write_after-made in
    omega (arith, both_few c.args.nodes.now c.requires _ c.write_one-kept.result c.write_one-kept.ensures _ w.result w.ensures)
