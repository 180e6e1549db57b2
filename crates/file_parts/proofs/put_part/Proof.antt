-- `put_part` meets its contract, by cases of the form: words as they are lent, or the rows but their lines and columns.
use mathlib.Core.Path.{◌≡◌, ap, ◌∙◌}
use mathlib.Core.List.{List}
use Prim.Native.Nat.{ℕ, ◌+◌, ◌*◌, ◌-◌, ◌≤◌}
use native.Mathlib.Omega.{arith}
use lib.ListN.{length, take, length-take}
use borrow.Author.Rules.{rules}
use Rattle.rules.specs.Rows.{words_per_row}
use Rattle.rules_files.specs.Bytes.{bytes_of}
use Rattle.rules_files.specs.Blocks.{block, content_of, per_block}
use Rattle.rules_files.specs.Files.{row_bytes}
use Rattle.rules_forms.specs.Short.{short_bytes, shortened}
use Rattle.file_blocks.proofs.Laws.{content_put}
use Rattle.file_parts.proofs.Parts.{full_few, short_few, rows_size}
use Rattle.file_parts.proofs.put_part.Statement.{statement}
use Rattle.file_parts.proofs.put_part.Tie as tie

-- ---- the places on the way

abbrev full_start : tie.In-Full → tie.Start
full_start c = c.before.before.before

abbrev short_start : tie.In-Short → tie.Start
short_start c = c.before.before.before

abbrev full_told : tie.After-put_block → tie.In-Full
full_told c = c.before.before.before

abbrev written : tie.After-seal → tie.After-put_short_rows
written c = c.before.before.before.before

abbrev short_told : tie.After-put_short_rows → tie.In-Short
short_told c = c.before.before

-- how many rows a block has at most, by the form
full_rows : (c : tie.In-Full) → (full_start c).args.n ≤ per_block row_bytes
full_rows c = let s = full_start c in full_few s.args.form c.in-Full.is s.args.n s.requires.0.1

short_rows : (c : tie.In-Short) → (short_start c).args.n ≤ per_block short_bytes
short_rows c = let s = short_start c in short_few s.args.form c.in-Short.is s.args.n s.requires.0.1

enum_told : tie.Need-enum_told-1
enum_told c = search rules

mul_words : tie.Need-overflow_mul-words
mul_words c = omega (arith, full_rows c)

cast_put_block : tie.Need-overflow_cast-n
cast_put_block c = omega (arith, full_rows c.before)

sub_put_block : tie.Need-slice_bounds-put_block-count
sub_put_block c = omega arith

part_put_block_start : tie.Need-slice_bounds-put_block-start
part_put_block_start c = omega arith

part_put_block_end : tie.Need-slice_bounds-put_block-end
part_put_block_end c = omega (arith, (full_start c.before).requires.1)

put_block_requires : tie.Need-put_block-requires
put_block_requires c κs =
    let s = full_start c.before.before in
    let r = s.args.rows.now in
    (s.requires.0.0, omega (arith, full_rows c.before.before, length-take (s.args.n * words_per_row - 0) r))

enum_told_2 : tie.Need-enum_told-in-Short
enum_told_2 c = search rules

put_short_rows_requires : tie.Need-put_short_rows-requires
put_short_rows_requires c κs = let s = short_start c.before in (omega (arith, short_rows c.before, s.requires.0.0), s.requires.1)

cast_seal : tie.Need-overflow_cast-n-in-Short
cast_seal c = omega (arith, short_rows (short_told c.before.before.before))

mul_seal : tie.Need-overflow_mul-n
mul_seal c = omega (arith, short_rows (short_told c.before.before.before))

seal_requires : tie.Need-seal-requires
seal_requires c κs = let t = short_told c.before.before.before in (search rules, omega (arith, short_rows t))

same_length : tie.Need-shape_of-bytes-in-Full
same_length c = search rules

returns : tie.Need-returns-in-Full
returns c =
    let p = c.before.before in
    let t = full_told p in
    let a = (full_start t).args in
    let e : a.n * words_per_row - 0 ≡ words_per_row * a.n = omega arith in
    rw t.in-Full.is (p.put_block.ensures ∙ rw e)

same_length_2 : tie.Need-shape_of-bytes-in-Short
same_length_2 c = search rules

returns_2 : tie.Need-returns-in-Short
returns_2 c =
    let p = c.before.before in
    let w = written p in
    let t = short_told w in
    let s = short_start t in
    let a = s.args in
    let size : ℕ = short_bytes * a.n in
    let rows = bytes_of (shortened a.n a.rows.now) in
    let h = content_put a.bytes.now rows size (rows_size a.n a.rows.now) (omega (arith, short_rows t, s.requires.0.0)) in
    rw t.in-Short.is (p.seal.ensures ∙ ap (block a.k a.n) (ap (content_of size) w.put_short_rows.ensures ∙ h))

pub put_part_spec : {M : Type 1} → statement M
put_part_spec =
    tie.close
    (tie.spec
    enum_told
    mul_words
    cast_put_block
    sub_put_block
    part_put_block_start
    part_put_block_end
    put_block_requires
    enum_told_2
    put_short_rows_requires
    cast_seal
    mul_seal
    seal_requires
    same_length
    returns
    same_length_2
    returns_2)
