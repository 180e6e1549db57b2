use Rattle.std.proofs.Common.{◌≡◌, ◌-◌, length, arith, sym, ◌∙◌}
use Rattle.rows.specs.Shape.{as_row}
use Rattle.file_blocks.specs.Standing.{rows_from, stand}
use Rattle.file_blocks.proofs.Laws.{rows_none, row_inside, stand_not, stand_more}
use Rattle.file_blocks.proofs.rows_stand.Goals as goal

pub loop-i-init : goal.loop-i-init
loop-i-init c =
    let e : c.args.n - 0 ≡ c.args.n = omega arith in
    rw (e, rows_none c.args.form c.args.bytes.now)

pub row_in-r-requires : goal.row_in-r-requires
row_in-r-requires c = row_inside c.args.form c.loop-i.i c.args.n (length c.args.bytes.now) (omega arith) c.requires.0

pub returns-then-not-stands_on : goal.returns-then-not-stands_on
returns-then-not-stands_on c =
    let a = c.args in
    let l = c.loop-i in
    let no = stand_not a.form a.n l.i a.bytes.now (as_row l.last) (as_row c.row_in-r.result) (omega arith) c.row_in-r.ensures (sym c.stands_on.ensures ∙ c.if-not-stands_on.true) in
    sym (sym l.invariant ∙ no)

pub loop-i-preserved : goal.loop-i-preserved
loop-i-preserved c =
    let a = c.args in
    let l = c.loop-i in
    stand_more a.form a.n l.i a.bytes.now (as_row l.last) (as_row c.row_in-r.result) (omega arith) c.row_in-r.ensures
    (sym c.stands_on.ensures ∙ c.if-not-stands_on.false) ∙ l.invariant

pub returns : goal.returns
unfolding stand rows_from
returns c =
    let e : c.args.n - c.loop-i.i ≡ 0 = omega arith in
    rw e at c.loop-i.invariant
