-- `row_of` meets its contract: so many rows stand in a block of the form.
use mathlib.Core.Path.{sym, ◌∙◌}
use Prim.Native.Nat.{◌+◌, ◌*◌, ◌/◌, ◌≤◌}
use native.Mathlib.Omega.{arith}
use lib.ListN.{length}
use Rattle.file_sizes.proofs.Sizes.{some_rows}
use Rattle.file_load.proofs.Tests.{row_room, row_fits, row_file}
use borrow.Author.Rules.{rules}
use Rattle.file_load.proofs.row_of.Statement.{statement}
use Rattle.file_load.proofs.row_of.Tie as tie

-- the row's block is one of the file's
room : (c : tie.After-block_rows-rows) →
    let a = c.before.before.args in
    512 * (1 + a.i / c.block_rows-rows.result) + 512 ≤ length a.file.now
room c =
    let s = c.before.before in
    let b = c.block_rows-rows in
    row_room s.args.form s.args.count s.args.file.now s.requires.0 s.args.i s.requires.1 b.result b.ensures

block_rows_requires : tie.Need-block_rows-rows-requires
block_rows_requires c κs = search rules

div_at : tie.Need-nonzero_div-at
div_at c = omega (arith, c.block_rows-rows.ensures, some_rows c.before.before.args.form)

add_at : tie.Need-overflow_add-at
add_at c = omega (arith, room c)

mul_at : tie.Need-overflow_mul-at
mul_at c = omega (arith, room c)

add_end : tie.Need-overflow_add-end
add_end c = omega (arith, room c)

sub_row_in : tie.Need-slice_bounds-row_in-count
sub_row_in c = search rules

part_row_in_start : tie.Need-slice_bounds-row_in-start
part_row_in_start c = search rules

part_row_in_end : tie.Need-slice_bounds-row_in-end
part_row_in_end c = omega (arith, room c)

rem_row_in : tie.Need-nonzero_rem-i
rem_row_in c = let b = c.before in omega (arith, b.block_rows-rows.ensures, some_rows b.before.before.args.form)

row_in_requires : tie.Need-row_in-requires
row_in_requires c κs =
    let b = c.before in
    let s = b.before.before in
    row_fits s.args.form s.args.count s.args.file.now s.requires.0 s.args.i s.requires.1
    b.block_rows-rows.result b.block_rows-rows.ensures

returns : tie.Need-returns
returns c =
    let b = c.before.before in
    let s = b.before.before in
    c.row_in.ensures
    ∙ sym (row_file s.args.form s.args.count s.args.file.now s.requires.0 s.args.i s.requires.1
    b.block_rows-rows.result b.block_rows-rows.ensures)

pub row_of_spec : {M : Type 1} → statement M
row_of_spec =
    tie.close
    (tie.spec
    block_rows_requires
    div_at
    add_at
    mul_at
    add_end
    sub_row_in
    part_row_in_start
    part_row_in_end
    rem_row_in
    row_in_requires
    returns)
