-- A turn moves the next node.
use Rattle.std.proofs.Common.{◌≡◌, ◌+◌, ◌*◌, arith}
use Rattle.program_move.proofs.Going.{going_start, going_ends, going_next, next_back, starts, asks_first}
use Rattle.program_move.proofs.move_nodes.Goals as goal

pub loop-i-init : goal.loop-i-init
loop-i-init c ns rest n e = going_start ns rest c.args.by c.args.nodes.now e

pub slice_bounds-move_first-count : goal.slice_bounds-move_first-count
slice_bounds-move_first-count c = starts c.requires c.loop-i.i c.loop-i.nodes c.loop-i-test.true c.loop-i.invariant

pub slice_bounds-move_first-start : goal.slice_bounds-move_first-start
slice_bounds-move_first-start c = starts c.requires c.loop-i.i c.loop-i.nodes c.loop-i-test.true c.loop-i.invariant

pub move_first-requires : goal.move_first-requires
move_first-requires c = asks_first c.requires c.loop-i.i c.loop-i.nodes c.loop-i-test.true c.loop-i.invariant

pub loop-i-preserved : goal.loop-i-preserved
loop-i-preserved c ns rest n e =
    let g = going_next ns rest c.args.by (c.loop-i.i * 8) c.loop-i.nodes (c.loop-i.invariant ns rest n e) (omega (arith, c.loop-i-test.true)) in
    let s : (c.loop-i.i + 1) * 8 ≡ c.loop-i.i * 8 + 8 = omega arith in
    rw s (next_back ns rest c.args.by (c.loop-i.i * 8) c.loop-i.nodes g c.move_first.new.nodes c.move_first.ensures)

pub returns : goal.returns
returns c ns rest n e =
    going_ends ns rest c.args.by (c.loop-i.i * 8) c.loop-i.nodes (c.loop-i.invariant ns rest n e) (omega (arith, c.loop-i-test.false))
