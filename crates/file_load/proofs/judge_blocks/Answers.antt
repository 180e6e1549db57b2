use Rattle.std.proofs.Common.{◌≡◌, ◌+◌, ◌*◌, arith, length, sym, ◌∙◌}
use Rattle.rows.specs.Shape.{as_row}
use Rattle.rows.proofs.Lengths.{length_table}
use Rattle.file_load.proofs.Rows.{here_bytes}
use Rattle.file_load.proofs.Judging.{Judging, judging_start, judging_end, judging_bad, judging_next, rows_left, no_rows_left, here_length, few_blocks}
use Rattle.file_load.proofs.judge_blocks.Goals as goal

pub loop-k-init : goal.loop-k-init
loop-k-init c = rw c.none-last.ensures (judging_start c.args.form c.args.file.now c.args.count c.args.plain c.requires.0 c.requires.1)

pub overflow_cast-number : goal.overflow_cast-number
overflow_cast-number c =
    let l = c.loop-k in
    omega (arith, few_blocks c.args.form c.args.file.now c.args.count c.args.plain c.requires.0 (as_row l.last) l.stand l.left l.more l.k (512 * l.k) l.invariant (omega arith))

pub returns-then-not-is_sound : goal.returns-then-not-is_sound
returns-then-not-is_sound c =
    let l = c.loop-k in
    let some = rows_left c.args.form c.args.file.now c.args.count c.args.plain c.requires.0 (as_row l.last) l.stand l.left l.more l.k (512 * l.k) l.invariant (omega arith) in
    sym (judging_bad c.args.form c.args.file.now c.args.count c.args.plain c.requires.0 (as_row l.last) l.stand l.left l.more l.k (512 * l.k) l.invariant some
    c.rows_here-n.result c.rows_here-n.ensures c.row_bytes.result c.row_bytes.ensures (sym c.is_sound.ensures ∙ c.if-not-is_sound.true))

-- the rows that are to be judged stand in the block
pub rows_stand-stand-requires : goal.rows_stand-stand-requires
rows_stand-stand-requires c =
    let l = c.loop-k in
    let some = rows_left c.args.form c.args.file.now c.args.count c.args.plain c.requires.0 (as_row l.last) l.stand l.left l.more l.k (512 * l.k) l.invariant (omega arith) in
    let whole = here_length c.args.form c.args.file.now c.args.count c.args.plain c.requires.0 (as_row l.last) l.stand l.left l.more l.k (512 * l.k) l.invariant some in
    (omega (arith, here_bytes c.args.form c.rows_here-m.result _ c.rows_here-m.ensures, whole), length_table)

pub loop-k-preserved : goal.loop-k-preserved
loop-k-preserved c =
    let l = c.loop-k in
    let some = rows_left c.args.form c.args.file.now c.args.count c.args.plain c.requires.0 (as_row l.last) l.stand l.left l.more l.k (512 * l.k) l.invariant (omega arith) in
    let e : 512 * (l.k + 1) ≡ 512 * l.k + 512 = omega arith in
    rw e (judging_next c.args.form c.args.file.now c.args.count c.args.plain c.requires.0 (as_row l.last) l.stand l.left l.more l.k (512 * l.k) l.invariant some
    c.rows_here-n.result c.rows_here-n.ensures c.row_bytes.result c.row_bytes.ensures (sym c.is_sound.ensures ∙ c.if-not-is_sound.false)
    c.rows_here-m.result c.rows_here-m.ensures c.rows_stand-stand.result c.rows_stand-stand.ensures
    (as_row c.last_of-last.result) c.last_of-last.ensures)

pub returns : goal.returns
returns c =
    let l = c.loop-k in
    let none = no_rows_left c.args.form c.args.file.now c.args.count c.args.plain c.requires.0 (as_row l.last) l.stand l.left l.more l.k (512 * l.k) l.invariant (omega arith) in
    sym (judging_end c.args.form c.args.file.now c.args.count c.args.plain c.requires.0 (as_row l.last) l.stand l.left l.more l.k (512 * l.k) l.invariant none)
