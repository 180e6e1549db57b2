-- `length_for` meets its contract: rows are counted up to the next whole block.
use mathlib.Core.Path.{◌≡◌, ap}
use native.Mathlib.Omega.{arith}
use Prim.Native.Nat.{ℕ, ◌+◌, ◌-◌, ◌*◌, ◌/◌}
use borrow.Author.Rules.{rules}
use Rattle.rules_files.specs.Blocks.{block_bytes, blocks_for, file_length}
use Rattle.rules_forms.specs.Shapes.{row_bytes_of}
use Rattle.file_sizes.proofs.Sizes.{some_rows, few_rows, few_blocks, blocks_by}
use Rattle.file_sizes.proofs.length_for.Statement.{statement}
use Rattle.file_sizes.proofs.length_for.Tie as tie

-- the blocks behind block 0 are those of the rows
blocks : (c : tie.After-block_rows-most) → let s = c.before in let m = c.block_rows-most.result in
    (s.args.n + (m - 1)) / m ≡ blocks_for (row_bytes_of s.args.form) s.args.n
blocks c = let s = c.before in blocks_by s.args.form s.args.n c.block_rows-most.result c.block_rows-most.ensures

block_rows_requires : tie.Need-block_rows-most-requires
block_rows_requires c κs = search rules

sub_result : tie.Need-overflow_sub-result
sub_result c = omega (arith, c.block_rows-most.ensures, some_rows c.before.args.form)

add_result : tie.Need-overflow_add-result
add_result c = omega (arith, c.block_rows-most.ensures, few_rows c.before.args.form)

div_result : tie.Need-nonzero_div-result
div_result c = omega (arith, c.block_rows-most.ensures, some_rows c.before.args.form)

add_result_2 : tie.Need-overflow_add-result-2
add_result_2 c = let s = c.before in rw (blocks c) (omega (arith, few_blocks s.args.form s.args.n))

mul_result : tie.Need-overflow_mul-result
mul_result c = let s = c.before in rw (blocks c) (omega (arith, few_blocks s.args.form s.args.n))

returns : tie.Need-returns
unfolding file_length
returns c = ap (λ (x : ℕ). block_bytes * (1 + x)) (blocks c)

pub length_for_spec : {M : Type 1} → statement M
length_for_spec =
    tie.close
    (tie.spec block_rows_requires sub_result add_result div_result add_result_2 mul_result returns)
