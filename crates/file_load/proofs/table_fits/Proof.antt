-- `table_fits` meets its contract, a law for each way out.
use mathlib.Core.Path.{sym, ◌∙◌}
use borrow.Author.Tests.{not-true, not-false}
use Rattle.rules_forms.specs.Shapes.{row_words_of}
use Rattle.rows.proofs.Tables.{well_long}
use Rattle.file_load.proofs.Tests.{unfit, fits_empty, fits_none, fits_refused}
use borrow.Author.Rules.{rules}
use Rattle.file_load.proofs.table_fits.Statement.{statement}
use Rattle.file_load.proofs.table_fits.Tie as tie

returns : tie.Need-returns-then-size-gt-MOST_BYTES_U32
returns c =
    let a = c.before.before.args in
    sym (well_long (row_words_of a.form a.file.now) a.table c.if-size-gt-MOST_BYTES_U32.true)

returns_2 : tie.Need-returns-then-not-stand
returns_2 c =
    let s = c.before.before.before in
    let a = s.args in
    let e = sym s.requires.1 ∙ not-true a.stand c.if-not-stand.true-raw in
    sym (unfit a.form a.file.now a.table s.requires.0 c.before.if-size-gt-MOST_BYTES_U32.false e)

enum_told : tie.Need-enum_told-1
enum_told c = search rules

returns_3 : tie.Need-returns-then-count-eq0
returns_3 c =
    let m = c.before in
    let e = m.before.before in
    let s = e.before.before in
    let a = s.args in
    sym (fits_empty a.form a.file.now a.table s.requires.0 e.if-size-gt-MOST_BYTES_U32.false m.in-None.is c.if-count-eq0.true)

cast_last_closes : tie.Need-overflow_cast-count
cast_last_closes c = search rules

sub_last_closes : tie.Need-overflow_sub-count
sub_last_closes c = search rules

last_closes_requires : tie.Need-last_closes-requires
last_closes_requires c κs = search rules

enum_known_ending : tie.Need-enum_known-ending
enum_known_ending c = search rules

place_breaks_requires : tie.Need-place_breaks-requires
place_breaks_requires c κs = search rules

returns_4 : tie.Need-returns-else-count-eq0
returns_4 c =
    let z = c.before in
    let m = z.before in
    let f = m.before in
    let e = f.before in
    let s = e.before.before in
    let a = s.args in
    let h = sym s.requires.1 ∙ not-false a.stand f.if-not-stand.false-raw in
    c.last_closes.ensures
    ∙ sym (fits_none a.form a.file.now a.table s.requires.0 e.if-size-gt-MOST_BYTES_U32.false m.in-None.is h z.if-count-eq0.false)

returns_5 : tie.Need-returns-in-Some
returns_5 c =
    let m = c.before in
    let f = m.before in
    let e = f.before in
    let s = e.before.before in
    let a = s.args in
    let h = sym s.requires.1 ∙ not-false a.stand f.if-not-stand.false-raw in
    c.place_breaks.ensures
    ∙ sym (fits_refused a.form a.file.now a.table s.requires.0 e.if-size-gt-MOST_BYTES_U32.false _ _ m.in-Some.is h)

pub table_fits_spec : {M : Type 1} → statement M
table_fits_spec =
    tie.close
    (tie.spec
    returns
    returns_2
    enum_told
    returns_3
    cast_last_closes
    sub_last_closes
    last_closes_requires
    enum_known_ending
    place_breaks_requires
    returns_4
    returns_5)
