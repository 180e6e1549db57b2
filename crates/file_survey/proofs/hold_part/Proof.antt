-- `hold_part` meets its contract, with a law for a part that has no rows and one for a part that has some.
use borrow.Author.Rules.{rules}
use Rattle.file_survey.proofs.Steps.{held_none, held_some}
use Rattle.file_survey.proofs.hold_part.Statement.{statement}
use Rattle.file_survey.proofs.hold_part.Tie as tie

-- ---- the places on the way

abbrev no_rows : tie.Then-part-eq0 → tie.After-fresh_part-part
no_rows c = c.before.before.before

abbrev start : tie.After-fresh_part-part → tie.Start
start c = c.before.before.before.before

abbrev rows : tie.After-count_block → tie.Else-part-eq0
rows c = c.before.before

abbrev some_rows : tie.Else-part-eq0 → tie.After-fresh_part-part
some_rows c = c.before.before.before

slice_aggregate_fresh_part : tie.Need-slice_bounds-fresh_part-end
slice_aggregate_fresh_part c = search rules

fresh_part_requires : tie.Need-fresh_part-part-requires
fresh_part_requires c κs = search rules

returns : tie.Need-returns-then-part-eq0
returns c =
    let p = no_rows c in
    let a = (start p).args in
    held_none a.form a.text.now a.spot.at a.k p.fresh_part-part.ensures.0 a.file.now c.if-part-eq0.true

slice_aggregate_count_block : tie.Need-slice_bounds-count_block-end
slice_aggregate_count_block c = search rules

count_block_requires : tie.Need-count_block-requires
count_block_requires c κs = search rules

returns_2 : tie.Need-returns
returns_2 c =
    let e = rows c in
    let p = some_rows e in
    let a = (start p).args in
    held_some a.form a.text.now a.spot.at a.k p.fresh_part-part.ensures.0 e.if-part-eq0.false _ p.fresh_part-part.ensures.1
    a.file.now _ c.count_block.ensures

pub hold_part_spec : {M : Type 1} → statement M
hold_part_spec =
    tie.close
    (tie.spec
    slice_aggregate_fresh_part
    fresh_part_requires
    returns
    slice_aggregate_count_block
    count_block_requires
    returns_2)
