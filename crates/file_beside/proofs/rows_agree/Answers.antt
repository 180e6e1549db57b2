use Rattle.std.proofs.Common.{sym, ◌∙◌}
use Rattle.rows.specs.Shape.{as_row}
use Rattle.file_beside.proofs.Agreeing.{agreeing_start, full_frame, agreeing_all, agreeing_counts, agreeing_next, agreeing_not, row_same}
use Rattle.file_beside.proofs.rows_agree.Goals as goal

pub loop-i-init : goal.loop-i-init
loop-i-init c = agreeing_start c.args.text.now c.args.file.now c.args.table.count c.start-here.result c.start-here.ensures

pub row_of-r-requires : goal.row_of-r-requires
row_of-r-requires c = (full_frame c.requires, c.loop-i-test.true)

pub place_from-here-requires : goal.place_from-here-requires
place_from-here-requires c = agreeing_counts c.requires c.loop-i.invariant c.loop-i-test.true (as_row c.row_of-r.result) c.row_of-r.ensures

pub returns-then-not-same_line : goal.returns-then-not-same_line
returns-then-not-same_line c =
    let same =
    c.same_line.ensures
    ∙ row_same c.args.text.now (as_row c.row_of-r.result) c.place.result c.place_from-here.result c.place.ensures c.place_from-here.ensures
    in
    agreeing_not c.requires c.loop-i.invariant c.loop-i-test.true (as_row c.row_of-r.result) c.row_of-r.ensures (sym same ∙ c.if-not-same_line.true)

pub loop-i-preserved : goal.loop-i-preserved
loop-i-preserved c =
    let same =
    c.same_line.ensures
    ∙ row_same c.args.text.now (as_row c.row_of-r.result) c.place.result c.place_from-here.result c.place.ensures c.place_from-here.ensures
    in
    agreeing_next c.requires c.loop-i.invariant c.loop-i-test.true (as_row c.row_of-r.result) c.row_of-r.ensures
    c.place_from-here.result c.place_from-here.ensures (sym same ∙ c.if-not-same_line.false)

pub returns : goal.returns
returns c = agreeing_all c.requires c.loop-i.invariant c.loop-i-test.false
