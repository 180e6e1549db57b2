-- `mend_part` meets its contract, with a law for a part that has no rows and one for a part that has some.
use borrow.Author.Rules.{rules}
use Rattle.file_rewrite.proofs.Steps.{mended_none, mended_some, fits_block}
use Rattle.file_rewrite.proofs.mend_part.Statement.{statement}
use Rattle.file_rewrite.proofs.mend_part.Tie as tie

-- ---- the places on the way

abbrev no_rows : tie.Then-part-eq0 → tie.After-fresh_part-part
no_rows c = c.before.before.before

abbrev start : tie.After-fresh_part-part → tie.Start
start c = c.before.before.before.before.before

abbrev rows : tie.After-mend_block-arg-2-1 → tie.Else-part-eq0
rows c = c.before.before.before

abbrev some_rows : tie.Else-part-eq0 → tie.After-fresh_part-part
some_rows c = c.before.before.before

abbrev mended : tie.After-slice_known-4-1 → tie.After-mend_block
mended c = c.before.before.before.before

slice_aggregate_fresh_part : tie.Need-slice_bounds-fresh_part-end
slice_aggregate_fresh_part c = search rules

fresh_part_requires : tie.Need-fresh_part-part-requires
fresh_part_requires c κs = search rules

returns : tie.Need-returns-then-part-eq0
returns c =
    let p = no_rows c in
    let a = (start p).args in
    mended_none a.form a.text.now a.spot.at a.k p.fresh_part-part.ensures.0
    a.n a.listed a.file.now a.list.now c.if-part-eq0.true

slice_aggregate_mend_block : tie.Need-slice_bounds-mend_block-end
slice_aggregate_mend_block c = search rules

mend_block_requires : tie.Need-mend_block-requires
mend_block_requires c κs =
    let e = rows c in
    let p = some_rows e in
    let s = start p in
    let a = s.args in
    fits_block a.form a.text.now a.spot.at a.k p.fresh_part-part.ensures.0 e.if-part-eq0.false _ p.fresh_part-part.ensures.1
    a.n a.file.now a.listed a.list.now s.requires.1

same_length : tie.Need-shape_of-file
same_length c = search rules

same_length_2 : tie.Need-shape_of-list
same_length_2 c = search rules

returns_2 : tie.Need-returns
returns_2 c =
    let m = mended c in
    let e = rows m.before in
    let p = some_rows e in
    let a = (start p).args in
    mended_some a.form a.text.now a.spot.at a.k p.fresh_part-part.ensures.0 e.if-part-eq0.false _ p.fresh_part-part.ensures.1
    a.n a.listed _ a.file.now _ a.list.now _ m.mend_block.ensures

pub mend_part_spec : {M : Type 1} → statement M
mend_part_spec =
    tie.close
    (tie.spec
    slice_aggregate_fresh_part
    fresh_part_requires
    returns
    slice_aggregate_mend_block
    mend_block_requires
    same_length
    same_length_2
    returns_2)
