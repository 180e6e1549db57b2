-- `put_said` meets its contract, by cases of the form.
use mathlib.Core.Path.{ap, ◌∙◌}
use mathlib.Core.List.{List}
use Prim.Native.Nat.{ℕ}
use Rattle.rules_files.specs.Bytes.{bytes_of}
use Rattle.rules_files.specs.Blocks.{block}
use borrow.Author.Rules.{rules}
use Rattle.file_parts.proofs.put_said.Statement.{statement}
use Rattle.file_parts.proofs.put_said.Tie as tie

-- ---- the places on the way, from behind the call back to the words and the form

abbrev full_put : tie.After-slice_known-in-Full-1 → tie.After-put_block
full_put c = c.before.before

abbrev full_words : tie.After-put_block → tie.After-words_of-words
full_words c = c.before.before.before

abbrev short_put : tie.After-slice_known-in-Short-1 → tie.After-put_block-in-Short
short_put c = c.before.before

abbrev short_words : tie.After-put_block-in-Short → tie.After-short_words_of-words
short_words c = c.before.before.before

enum_told : tie.Need-enum_told-1
enum_told c = search rules

words_of_requires : tie.Need-words_of-words-requires
words_of_requires c κs = search rules

slice_aggregate_put_block : tie.Need-slice_bounds-put_block-end
slice_aggregate_put_block c = search rules

put_block_requires : tie.Need-put_block-requires
put_block_requires c κs = search rules

enum_told_2 : tie.Need-enum_told-in-Short
enum_told_2 c = search rules

short_words_of_requires : tie.Need-short_words_of-words-requires
short_words_of_requires c κs = search rules

slice_aggregate_put_block_2 : tie.Need-slice_bounds-put_block-end-in-Short
slice_aggregate_put_block_2 c = search rules

put_block_requires_2 : tie.Need-put_block-requires-in-Short
put_block_requires_2 c κs = search rules

same_length : tie.Need-shape_of-bytes-in-Full
same_length c = search rules

returns : tie.Need-returns-in-Full
returns c =
    let p = full_put c in
    let w = full_words p in
    rw w.before.in-Full.is (p.put_block.ensures ∙ ap (λ (x : List ℕ). block 0 0 (bytes_of x)) w.words_of-words.ensures)

same_length_2 : tie.Need-shape_of-bytes-in-Short
same_length_2 c = search rules

returns_2 : tie.Need-returns-in-Short
returns_2 c =
    let p = short_put c in
    let w = short_words p in
    rw w.before.in-Short.is (p.put_block-in-Short.ensures ∙ ap (λ (x : List ℕ). block 0 0 (bytes_of x)) w.short_words_of-words.ensures)

pub put_said_spec : {M : Type 1} → statement M
put_said_spec =
    tie.close
    (tie.spec
    enum_told
    words_of_requires
    slice_aggregate_put_block
    put_block_requires
    enum_told_2
    short_words_of_requires
    slice_aggregate_put_block_2
    put_block_requires_2
    same_length
    returns
    same_length_2
    returns_2)
