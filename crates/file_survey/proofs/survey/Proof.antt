-- `survey` meets its contract: block 0's entry, those of the rows' blocks, and that of a surplus tail are all that are listed.
use mathlib.Core.Path.{◌≡◌}
use Prim.Native.Nat.{◌+◌, ◌≤◌}
use native.Mathlib.Omega.{arith}
use lib.ListN.{length}
use borrow.Author.Rules.{rules}
use Rattle.rules_forms.specs.Shapes.{number_of}
use Rattle.rules_mend.specs.Mend.{fresh_file}
use Rattle.file_survey.proofs.Surveyed.{length_is, survey_few, survey_long, survey_all}
use Rattle.file_survey.proofs.survey.Statement.{statement}
use Rattle.file_survey.proofs.survey.Tie as tie

-- ---- the places on the way

abbrev counted : tie.After-length_for → tie.After-count_block
counted c = c.before.before

abbrev said : tie.After-count_block → tie.After-put_said
said c = c.before.before.before

abbrev rows : tie.After-put_said → tie.After-survey_rows-held
rows c = c.before.before.before

abbrev start : tie.After-survey_rows-held → tie.Start
start c = c.before.before.before

-- the sum of both counts is small
small : (c : tie.After-count_block) → (rows (said c)).survey_rows-held.result.listed + c.count_block.result ≤ 65538
small c =
    let p = said c in
    let r = rows p in
    let s = start r in
    let h = r.survey_rows-held.ensures in
    survey_few s.args.form s.args.text.now s.args.file.now r.survey_rows-held.result.table _ _ _ h.table_is
    p.put_said.ensures h.listed_is c.count_block.ensures s.requires

-- the length that was computed
size : (c : tie.After-length_for) → let a = (start (rows (said (counted c)))).args in
    c.length_for.result ≡ length (fresh_file (number_of a.form) a.text.now)
size c =
    let r = rows (said (counted c)) in
    let a = (start r).args in
    length_is a.form a.text.now r.survey_rows-held.result.table _ r.survey_rows-held.ensures.table_is c.length_for.ensures

survey_rows_requires : tie.Need-survey_rows-held-requires
survey_rows_requires c κs = search rules

slice_aggregate_put_said : tie.Need-slice_bounds-put_said-end
slice_aggregate_put_said c = search rules

put_said_requires : tie.Need-put_said-requires
put_said_requires c κs = search rules

slice_aggregate_count_block : tie.Need-slice_bounds-count_block-end
slice_aggregate_count_block c = search rules

count_block_requires : tie.Need-count_block-requires
count_block_requires c κs = search rules

add_listed : tie.Need-overflow_add-listed
add_listed c = omega (arith, small c.before)

length_for_requires : tie.Need-length_for-requires
length_for_requires c κs = search rules

add_t16 : tie.Need-overflow_add-result
add_t16 c = omega (arith, small (counted c.before))

returns : tie.Need-returns-then-length_for-file
returns c =
    let l = c.before in
    let k = counted l in
    let p = said k in
    let r = rows p in
    let a = (start r).args in
    let h = r.survey_rows-held.ensures in
    let z = size l in (
      h.table_is,
      survey_long a.form a.text.now a.file.now r.survey_rows-held.result.table _ _ _ h.table_is p.put_said.ensures
          h.listed_is k.count_block.ensures (omega arith),
    )

returns_2 : tie.Need-returns
returns_2 c =
    let l = c.before in
    let k = counted l in
    let p = said k in
    let r = rows p in
    let a = (start r).args in
    let h = r.survey_rows-held.ensures in
    let z = size l in (
      h.table_is,
      survey_all a.form a.text.now a.file.now r.survey_rows-held.result.table _ _ _ h.table_is p.put_said.ensures
          h.listed_is k.count_block.ensures (omega arith),
    )

pub survey_spec : {M : Type 1} → statement M
survey_spec =
    tie.close
    (tie.spec
    survey_rows_requires
    slice_aggregate_put_said
    put_said_requires
    slice_aggregate_count_block
    count_block_requires
    add_listed
    length_for_requires
    add_t16
    returns
    returns_2)
