-- `words::word_at` meets its contract: the arrays list the definition's words.
use mathlib.Core.Path.{sym}
use Rattle.rules.specs.Kinds.{reserved}
use Rattle.scan_words.specs.Words.{held_at}
use Rattle.scan_words.proofs.Telling.{padded_eight}
use borrow.Author.Rules.{rules}
use Rattle.scan_words.proofs.words.word_at.Statement.{statement}
use Rattle.scan_words.proofs.words.word_at.Tie as tie

mul_spelling : tie.Need-offset_bounds-spellings-i
mul_spelling c = search rules

array_copy_out_spelling : tie.Need-bounds-spellings-i
array_copy_out_spelling c = search rules

slice_aggregate_number : tie.Need-slice_bounds-number-end
unfolding reserved
slice_aggregate_number c = sym (padded_eight c.before.before.args.i c.before.before.requires)

number_requires : tie.Need-number-requires
number_requires c κs = search rules

mul_t30 : tie.Need-offset_bounds-lengths-i
mul_t30 c = search rules

array_read_t38 : tie.Need-bounds-lengths-i
array_read_t38 c = search rules

mul_t39 : tie.Need-offset_bounds-kinds-i
mul_t39 c = search rules

array_read_t42 : tie.Need-bounds-kinds-i
array_read_t42 c = search rules

returns : tie.Need-returns
unfolding held_at reserved
returns c = rw c.number.ensures

pub word_at_spec : {M : Type 1} → statement M
word_at_spec =
    tie.close
    (tie.spec
    mul_spelling
    array_copy_out_spelling
    slice_aggregate_number
    number_requires
    mul_t30
    array_read_t38
    mul_t39
    array_read_t42
    returns)
