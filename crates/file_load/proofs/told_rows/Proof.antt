-- `told_rows` meets its contract, a law for each way out.
use mathlib.Core.Path.{sym, ◌∙◌}
use borrow.Author.Tests.{not-true, not-false}
use Rattle.rules_forms.specs.Shapes.{row_words_of}
use Rattle.theory_files.proofs.Said.{told_many, told_unformed, told_full, told_table}
use borrow.Author.Rules.{rules}
use Rattle.file_load.proofs.told_rows.Statement.{statement}
use Rattle.file_load.proofs.told_rows.Tie as tie

returns : tie.Need-returns-then-count-gt-MOST_ROWS
returns c =
    let a = c.before.before.args in
    sym (told_many (row_words_of a.form a.file.now) a.room a.table c.if-count-gt-MOST_ROWS.true)

table_fits_requires : tie.Need-table_fits-requires
table_fits_requires c κs = search rules

returns_2 : tie.Need-returns-then-not-table_fits
returns_2 c =
    let f = c.before in
    let a = f.before.before.before.args in
    let e = sym f.table_fits.ensures ∙ not-true f.table_fits.result c.if-not-table_fits.true-raw in
    sym (told_unformed (row_words_of a.form a.file.now) a.room a.table f.before.if-count-gt-MOST_ROWS.false e)

cast_if3 : tie.Need-overflow_cast-count
cast_if3 c = search rules

returns_3 : tie.Need-returns-then-room-count
returns_3 c =
    let f = c.before.before in
    let a = f.before.before.before.args in
    let e = sym f.table_fits.ensures ∙ not-false f.table_fits.result c.before.if-not-table_fits.false-raw in
    sym (told_full (row_words_of a.form a.file.now) a.room a.table f.before.if-count-gt-MOST_ROWS.false e c.if-room-count.true)

returns_4 : tie.Need-returns
returns_4 c =
    let f = c.before.before in
    let a = f.before.before.before.args in
    let e = sym f.table_fits.ensures ∙ not-false f.table_fits.result c.before.if-not-table_fits.false-raw in
    sym (told_table (row_words_of a.form a.file.now) a.room a.table f.before.if-count-gt-MOST_ROWS.false e c.if-room-count.false)

pub told_rows_spec : {M : Type 1} → statement M
told_rows_spec =
    tie.close (tie.spec returns table_fits_requires returns_2 cast_if3 returns_3 returns_4)
