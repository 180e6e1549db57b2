-- `row_before` meets its contract: the first row has a row of zeros before it.
use mathlib.Core.Path.{sym, ◌∙◌}
use Rattle.rows.proofs.Tables.{before_first, before_next}
use Rattle.rules_forms.specs.Shapes.{row_words_of}
use borrow.Author.Rules.{rules}
use Rattle.file_load.proofs.row_before.Statement.{statement}
use Rattle.file_load.proofs.row_before.Tie as tie

no_row_requires : tie.Need-none-requires
no_row_requires c κs = search rules

returns : tie.Need-returns-then-i-eq0
returns c =
    let a = c.before.before.before.args in
    c.none.ensures ∙ sym (before_first (row_words_of a.form a.file.now) a.i c.before.if-i-eq0.true)

sub_row_of : tie.Need-overflow_sub-i
sub_row_of c = search rules

row_of_requires : tie.Need-row_of-requires
row_of_requires c κs = search rules

returns_2 : tie.Need-returns
returns_2 c =
    let a = c.before.before.before.args in
    c.row_of.ensures ∙ sym (before_next (row_words_of a.form a.file.now) a.i c.before.if-i-eq0.false)

pub row_before_spec : {M : Type 1} → statement M
row_before_spec = tie.close (tie.spec no_row_requires returns sub_row_of row_of_requires returns_2)
