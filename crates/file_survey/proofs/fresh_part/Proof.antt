-- `fresh_part` meets its contract: as many rows are asked for as stand in a block, and their words give it.
use mathlib.Core.Path.{◌≡◌, ◌∙◌}
use native.Mathlib.Omega.{arith}
use borrow.Author.Rules.{rules}
use Rattle.rules_files.specs.Blocks.{per_block}
use Rattle.rules_forms.specs.Shapes.{row_bytes_of}
use Rattle.file_sizes.proofs.Sizes.{some_rows, few_rows}
use Rattle.scan_part.specs.Part.{PartOf}
use Rattle.scan_part.proofs.Onward.{count_most}
use Rattle.file_survey.proofs.Steps.{words_lent, fresh_made}
use Rattle.file_survey.proofs.fresh_part.Statement.{statement}
use Rattle.file_survey.proofs.fresh_part.Tie as tie

-- ---- the places on the way

abbrev start : tie.After-words-1 → tie.Start
start c = c.before.before.before.before

abbrev read : tie.After-words-3-1 → tie.After-read_part-part
read c = c.before.before.before

abbrev asked : tie.After-read_part-part → tie.After-words-1
asked c = c.before

abbrev written : tie.After-slice_known-2-1 → tie.After-put_part
written c = c.before.before

abbrev to_write : tie.After-put_part → tie.After-words-3-1
to_write c = c.before

-- how many rows were asked for
most : (c : tie.After-words-1) → c.before.block_rows.result ≡ per_block (row_bytes_of (start c).args.form)
most c = c.before.block_rows.ensures

part : (c : tie.After-read_part-part) → let a = (start (asked c)).args in
    PartOf a.text.now a.spot.at (per_block (row_bytes_of a.form)) c.read_part-part.result
part c = rw (most (asked c)) at c.read_part-part.ensures.0

block_rows_requires : tie.Need-block_rows-requires
block_rows_requires c κs = search rules

slice_aggregate_read_part : tie.Need-slice_bounds-read_part-end
slice_aggregate_read_part c = search rules

read_part_requires : tie.Need-read_part-part-requires
read_part_requires c κs =
    let s = start c in
    let e = most c in
    ((s.requires.0, omega (arith, some_rows s.args.form)), omega (arith, few_rows s.args.form))

slice_aggregate_put_part : tie.Need-slice_bounds-put_part-end
slice_aggregate_put_part c = search rules

put_part_requires : tie.Need-put_part-requires
put_part_requires c κs =
    let r = read c in
    let s = start (asked r) in
    let n = words_lent _ _ _ r.read_part-part.result _ _ r.read_part-part.ensures.0 r.read_part-part.ensures.1 in
    ((s.requires.1, count_most (part r)), n)

same_length : tie.Need-shape_of-fresh
same_length c = search rules

returns : tie.Need-returns
returns c =
    let w = written c in
    let r = read (to_write w) in
    let a = (start (asked r)).args in
    let e = r.read_part-part.ensures in
    let b = fresh_made a.form a.text.now a.spot.at a.k _ r.read_part-part.result _ _ (most (asked r)) e.0 e.1 in
    (part r, w.put_part.ensures ∙ b)

pub fresh_part_spec : {M : Type 1} → statement M
fresh_part_spec =
    tie.close
    (tie.spec
    block_rows_requires
    slice_aggregate_read_part
    read_part_requires
    slice_aggregate_put_part
    put_part_requires
    same_length
    returns)
