-- `put_short_row` meets its contract: six words, one behind the other.
use Rattle.file_parts.proofs.Parts.{row_put}
use borrow.Author.Rules.{rules}
use Rattle.file_parts.proofs.put_short_row.Statement.{statement}
use Rattle.file_parts.proofs.put_short_row.Tie as tie

-- ---- the places on the way, from each word back to the one before it

abbrev at_sixth : tie.After-slice_known-7-1 → tie.After-put_word-6
at_sixth c = c.before.before

abbrev at_fifth : tie.After-put_word-6 → tie.After-put_word-5
at_fifth c = c.before.before.before.before.before

abbrev at_fourth : tie.After-put_word-5 → tie.After-put_word-4
at_fourth c = c.before.before.before.before.before

abbrev at_third : tie.After-put_word-4 → tie.After-put_word-3
at_third c = c.before.before.before.before.before

abbrev at_second : tie.After-put_word-3 → tie.After-put_word-2
at_second c = c.before.before.before.before.before

abbrev at_first : tie.After-put_word-2 → tie.After-put_word
at_first c = c.before.before.before.before.before

abbrev at_start : tie.After-put_word → tie.Start
at_start c = c.before.before.before.before.before

shared_slice_read_put_word : tie.Need-bounds-rows-0
shared_slice_read_put_word c = search rules

put_word_requires : tie.Need-put_word-requires
put_word_requires c κs = search rules

mul_put_word : tie.Need-overflow_mul-put_word
mul_put_word c = search rules

add_put_word : tie.Need-overflow_add-at
add_put_word c = search rules

shared_slice_read_put_word_2 : tie.Need-bounds-rows-1
shared_slice_read_put_word_2 c = search rules

put_word_requires_2 : tie.Need-put_word-requires-2
put_word_requires_2 c κs = search rules

mul_put_word_2 : tie.Need-overflow_mul-put_word-2
mul_put_word_2 c = search rules

add_put_word_2 : tie.Need-overflow_add-at-2
add_put_word_2 c = search rules

shared_slice_read_put_word_3 : tie.Need-bounds-rows-2
shared_slice_read_put_word_3 c = search rules

put_word_requires_3 : tie.Need-put_word-requires-3
put_word_requires_3 c κs = search rules

mul_put_word_3 : tie.Need-overflow_mul-put_word-3
mul_put_word_3 c = search rules

add_put_word_3 : tie.Need-overflow_add-at-3
add_put_word_3 c = search rules

shared_slice_read_put_word_4 : tie.Need-bounds-rows-5
shared_slice_read_put_word_4 c = search rules

put_word_requires_4 : tie.Need-put_word-requires-4
put_word_requires_4 c κs = search rules

mul_put_word_4 : tie.Need-overflow_mul-put_word-4
mul_put_word_4 c = search rules

add_put_word_4 : tie.Need-overflow_add-at-4
add_put_word_4 c = search rules

shared_slice_read_put_word_5 : tie.Need-bounds-rows-6
shared_slice_read_put_word_5 c = search rules

put_word_requires_5 : tie.Need-put_word-requires-5
put_word_requires_5 c κs = search rules

mul_put_word_5 : tie.Need-overflow_mul-put_word-5
mul_put_word_5 c = search rules

add_put_word_5 : tie.Need-overflow_add-at-5
add_put_word_5 c = search rules

shared_slice_read_put_word_6 : tie.Need-bounds-rows-7
shared_slice_read_put_word_6 c = search rules

put_word_requires_6 : tie.Need-put_word-requires-6
put_word_requires_6 c κs = search rules

same_length : tie.Need-shape_of-bytes
same_length c = search rules

returns : tie.Need-returns
returns c =
    let f = at_sixth c in
    let e = at_fifth f in
    let d = at_fourth e in
    let q = at_third d in
    let b = at_second q in
    let a = at_first b in
    let s = at_start a in
    row_put s.args.bytes.now s.args.at s.args.rows.now a.put_word.new.bytes b.put_word-2.new.bytes q.put_word-3.new.bytes
    d.put_word-4.new.bytes e.put_word-5.new.bytes f.put_word-6.new.bytes s.requires.0 a.put_word.ensures b.put_word-2.ensures
    q.put_word-3.ensures d.put_word-4.ensures e.put_word-5.ensures f.put_word-6.ensures

pub put_short_row_spec : {M : Type 1} → statement M
put_short_row_spec =
    tie.close
    (tie.spec
    shared_slice_read_put_word
    put_word_requires
    mul_put_word
    add_put_word
    shared_slice_read_put_word_2
    put_word_requires_2
    mul_put_word_2
    add_put_word_2
    shared_slice_read_put_word_3
    put_word_requires_3
    mul_put_word_3
    add_put_word_3
    shared_slice_read_put_word_4
    put_word_requires_4
    mul_put_word_4
    add_put_word_4
    shared_slice_read_put_word_5
    put_word_requires_5
    mul_put_word_5
    add_put_word_5
    shared_slice_read_put_word_6
    put_word_requires_6
    same_length
    returns)
