use Rattle.std.proofs.Common.{◌≡◌, ◌+◌, ◌*◌, arith, refl, sym, ◌∙◌}
use Rattle.rules_forms.specs.Forms.{rows_beside}
use Rattle.file_beside.proofs.Rows.{few_count, last_first}
use Rattle.file_beside.proofs.Agreeing.{agrees_long}
use Rattle.file_move.proofs.Bodies.{blocks_of}
use Rattle.file_move.proofs.Going.{Moving, going_start, rows_to_go, no_rows_to_go, few_left, all_words, moving_end, moving_next}
use Rattle.file_move.proofs.put_blocks.Goals as goal

pub loop-k-init : goal.loop-k-init
loop-k-init c =
    let a = c.args in
    record {
      going = going_start a.form (rows_beside a.text.now a.file.now) a.table.count a.moved.now;
      room = refl;
      last = c.start-here.ensures ∙ sym (last_first a.text.now a.file.now);
    }

pub overflow_cast-k : goal.overflow_cast-k
overflow_cast-k c =
    let a = c.args in
    let some = rows_to_go c.loop-k.invariant.going (omega (arith, c.length_for-k-end.ensures)) in
    let few = few_count a.text.now a.file.now a.table c.requires.0.holds (agrees_long c.requires.0) in
    omega (arith, few_left c.loop-k.invariant.going c.requires.1 some, few)

pub loop-k-preserved : goal.loop-k-preserved
loop-k-preserved c =
    let some = rows_to_go c.loop-k.invariant.going (omega (arith, c.length_for-k-end.ensures)) in
    let e : 512 * (c.loop-k.k + 1) ≡ 512 * c.loop-k.k + 512 = omega arith in
    rw e (moving_next c.loop-k.invariant (all_words c.requires.0) c.requires.1 some c.rows_here-n.result c.rows_here-n.ensures
    c.put_rows-here.new.words c.put_rows-here.ensures.0 c.put_rows-here.result c.put_rows-here.ensures.1
    c.put_part.new.bytes c.put_part.ensures)

pub returns : goal.returns
unfolding blocks_of
returns c =
    moving_end c.loop-k.invariant (all_words c.requires.0) (no_rows_to_go c.loop-k.invariant.going (omega (arith, c.length_for-k-end.ensures)))
