-- `place_breaks` meets its contract, a law for each way out.
use mathlib.Core.Path.{sym, ◌∙◌}
use borrow.Author.Tests.{not-true, not-false}
use Rattle.rows.proofs.Tables.{breaks_over, breaks_not, breaks_none, breaks_last}
use Rattle.rules_forms.specs.Shapes.{row_words_of}
use borrow.Author.Rules.{rules}
use Rattle.file_load.proofs.place_breaks.Statement.{statement}
use Rattle.file_load.proofs.place_breaks.Tie as tie

returns : tie.Need-returns-then-size-offset
returns c =
    let a = c.before.before.args in
    sym (breaks_over (row_words_of a.form a.file.now) a.size a.count a.p c.if-size-offset.true)

place_fits_requires : tie.Need-place_fits-requires
place_fits_requires c κs = search rules

returns_2 : tie.Need-returns-then-not-place_fits
returns_2 c =
    let f = c.before in
    let a = f.before.before.before.args in
    let e = sym f.place_fits.ensures ∙ not-true f.place_fits.result c.if-not-place_fits.true-raw in
    sym (breaks_not (row_words_of a.form a.file.now) a.size a.count a.p f.before.if-size-offset.false e)

returns_3 : tie.Need-returns-then-count-eq0
returns_3 c =
    let f = c.before.before in
    let a = f.before.before.before.args in
    let e = sym f.place_fits.ensures ∙ not-false f.place_fits.result c.before.if-not-place_fits.false-raw in
    sym (breaks_none (row_words_of a.form a.file.now) a.size a.count a.p f.before.if-size-offset.false e c.if-count-eq0.true)

sub_row_of : tie.Need-overflow_sub-count
sub_row_of c = search rules

row_of_requires : tie.Need-row_of-r-requires
row_of_requires c κs = search rules

place_behind_requires : tie.Need-is_before-requires
place_behind_requires c κs = search rules

returns_4 : tie.Need-returns
returns_4 c =
    let z = c.before.before in
    let f = z.before.before in
    let a = f.before.before.before.args in
    let e = sym f.place_fits.ensures ∙ not-false f.place_fits.result z.before.if-not-place_fits.false-raw in
    rw (c.is_before.ensures, c.before.row_of-r.ensures)
    (sym (breaks_last (row_words_of a.form a.file.now) a.size a.count a.p f.before.if-size-offset.false e z.if-count-eq0.false))

pub place_breaks_spec : {M : Type 1} → statement M
place_breaks_spec =
    tie.close
    (tie.spec
    returns
    place_fits_requires
    returns_2
    returns_3
    sub_row_of
    row_of_requires
    place_behind_requires
    returns_4)
