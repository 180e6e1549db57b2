use Rattle.std.proofs.Common.{◌≡◌, ◌+◌, ◌*◌, arith}
use Rattle.file_store.proofs.Going.{Going, going_start, going_next, going_end, rows_to_go, no_rows_to_go, few_blocks}
use Rattle.file_store.proofs.put_rows.Goals as goal

pub loop-k-init : goal.loop-k-init
loop-k-init c = going_start c.args.rows.now c.args.count c.args.file.now

pub overflow_cast-k : goal.overflow_cast-k
overflow_cast-k c = omega (arith, few_blocks c.loop-k.invariant c.requires.0.1)

pub loop-k-preserved : goal.loop-k-preserved
loop-k-preserved c =
    let some = rows_to_go c.loop-k.invariant (omega (arith, c.length_for-k-end.ensures)) in
    let e : 512 * (c.loop-k.k + 1) ≡ 512 * c.loop-k.k + 512 = omega arith in
    rw e (going_next c.loop-k.invariant c.requires.1 some c.rows_here-n.result c.rows_here-n.ensures c.put_block.new.bytes c.put_block.ensures)

pub returns : goal.returns
returns c = going_end c.loop-k.invariant (no_rows_to_go c.loop-k.invariant (omega (arith, c.length_for-k-end.ensures)))
