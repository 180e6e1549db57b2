-- `mend_blocks` meets its contract: block 0, the blocks of the rows, and the entry of a tail where there is one.
use mathlib.Core.Path.{◌≡◌, ap, ◌∙◌}
use Prim.Native.Nat.{ℕ, ◌/◌, ◌<◌}
use native.Mathlib.Omega.{arith}
use lib.ListN.{length, length-set}
use borrow.Author.Rules.{rules}
use Rattle.rules_forms.specs.Shapes.{number_of}
use Rattle.rules_mend.specs.Mend.{fresh_table, fresh_file}
use Rattle.file_survey.proofs.Files.{said_block}
use Rattle.file_survey.proofs.Surveyed.{length_is, length_small}
use Rattle.file_rewrite.proofs.Left.{first_fits, rows_fit, Left, rows_left}
use Rattle.file_rewrite.proofs.mend_blocks.Statement.{statement}
use Rattle.file_rewrite.proofs.mend_blocks.Tie as tie

-- ---- the places on the way

abbrev said : tie.After-mend_block-arg-2-1 → tie.After-put_said
said c = c.before.before.before.before

abbrev start : tie.After-put_said → tie.Start
start c = c.before.before.before.before.before

abbrev first_of : tie.After-mend_rows-arg-2-1 → tie.After-mend_block-first
first_of c = c.before.before.before.before.before.before

abbrev rows_of : tie.After-length_for-length → tie.After-mend_rows-last
rows_of c = c.before.before.before.before.before

abbrev begun : tie.After-mend_block-first → tie.After-put_said
begun c = said c.before

abbrev entered : tie.After-length_for-length → tie.Start
entered c = start (begun (first_of (rows_of c).before))

-- block 0 was made
made : (c : tie.After-put_said) → let a = (start c).args in c.put_said.new.bytes ≡ said_block a.form (fresh_table a.text.now)
made c = c.put_said.ensures ∙ ap (said_block (start c).args.form) (start c).requires.0.1

-- the length that was computed
size : (c : tie.After-length_for-length) → let a = (entered c).args in
    c.length_for-length.result ≡ length (fresh_file (number_of a.form) a.text.now)
size c =
    let s = entered c in
    let a = s.args in
    length_is a.form a.text.now a.table _ s.requires.0.1 c.length_for-length.ensures

-- there is a tail
longer : (c : tie.Then-length-n) → let a = (entered c.before).args in length (fresh_file (number_of a.form) a.text.now) < a.n
longer c = let z = size c.before in omega arith

-- what both readings left
left : (c : tie.After-length_for-length) → let a = (entered c).args in let r = (rows_of c).mend_rows-last in
    Left a.form a.text.now a.n a.file.now a.list.now r.result r.new.file r.new.list
left c =
    let r = rows_of c in
    let m = first_of r.before in
    let p = begun m in
    let s = start p in
    let a = s.args in
    rows_left a.form a.text.now a.n a.file.now a.list.now s.requires.1.0.0 s.requires.1.0.1 s.requires.1.1 _ (made p)
    _ _ _ m.mend_block-first.ensures _ _ _ r.mend_rows-last.ensures s.requires.0.0

slice_aggregate_put_said : tie.Need-slice_bounds-put_said-end
slice_aggregate_put_said c = search rules

put_said_requires : tie.Need-put_said-requires
put_said_requires c κs = search rules

slice_aggregate_mend_block : tie.Need-slice_bounds-mend_block-end
slice_aggregate_mend_block c = search rules

mend_block_requires : tie.Need-mend_block-first-requires
mend_block_requires c κs =
    let p = said c in
    let s = start p in
    let a = s.args in
    first_fits a.form a.text.now a.n a.file.now a.list.now
    s.requires.1.0.0 s.requires.1.0.1 s.requires.1.1 _ (made p)

mend_rows_requires : tie.Need-mend_rows-last-requires
mend_rows_requires c κs =
    let m = first_of c in
    let p = begun m in
    let s = start p in
    let a = s.args in
    rows_fit a.form a.text.now a.n a.file.now a.list.now
    s.requires.1.0.0 s.requires.1.0.1 s.requires.1.1 _ (made p) _ _ _ m.mend_block-first.ensures s.requires.0.0

length_for_requires : tie.Need-length_for-length-requires
length_for_requires c κs = search rules

cast_list : tie.Need-overflow_cast-list
cast_list c =
    let s = entered c.before in
    omega (arith, size c.before, length_small s.args.form s.args.text.now s.requires.0.0)

mul_list : tie.Need-offset_bounds-list-last
mul_list c = omega (arith, (left c.before).small)

slice_write_list : tie.Need-bounds-list-last
slice_write_list c = (left c.before).fits (longer c)

same_length : tie.Need-shape_of-file-then-length-n
same_length c = search rules

same_length_2 : tie.Need-shape_of-list-then-length-n
same_length_2 c =
    let r = rows_of c.before in
    length-set r.mend_rows-last.new.list _ _ ∙ (left c.before).same_size (longer c)

returns : tie.Need-returns-then-length-n
returns c =
    let w = left c.before in
    (w.file, w.tail (longer c) _ (ap (λ (x : ℕ). x / 512) (size c.before)))

same_length_3 : tie.Need-shape_of-file-else-length-n
same_length_3 c = search rules

same_length_4 : tie.Need-shape_of-list-else-length-n
same_length_4 c = search rules

returns_2 : tie.Need-returns-else-length-n
returns_2 c =
    let w = left c.before in
    let z = size c.before in
    (w.file, w.all (omega arith))

pub mend_blocks_spec : {M : Type 1} → statement M
mend_blocks_spec =
    tie.close
    (tie.spec
    slice_aggregate_put_said
    put_said_requires
    slice_aggregate_mend_block
    mend_block_requires
    mend_rows_requires
    length_for_requires
    cast_list
    mul_list
    slice_write_list
    same_length
    same_length_2
    returns
    same_length_3
    same_length_4
    returns_2)
