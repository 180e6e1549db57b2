-- `last_closes` meets its contract, a law for each way out.
use mathlib.Core.Path.{sym, ap, ◌∙◌}
use mathlib.Core.Bool.{◌&&◌}
use native.Mathlib.Omega.{arith}
use Rattle.rules.specs.Rows.{Row, row_fits}
use Rattle.rows.specs.Shape.{as_row, fits_after}
use Rattle.rows.proofs.Lengths.{length_table}
use Rattle.rows.proofs.Tables.{closes_plain, closes_apart, closes_fit}
use Rattle.rules_forms.specs.Shapes.{row_words_of}
use borrow.Author.Rules.{rules}
use Rattle.file_load.proofs.last_closes.Statement.{statement}
use Rattle.file_load.proofs.last_closes.Tie as tie

-- the place behind the first two tests: the row is Eof, at the size
abbrev at_size : tie.After-row_before → tie.Else-r-size
at_size c = c.before.before.before

row_of_requires : tie.Need-row_of-r-requires
row_of_requires c κs = search rules

returns : tie.Need-returns-then-r-ne-EOF
returns c =
    let r = c.before.before in
    let a = r.before.before.args in
    sym (closes_plain (row_words_of a.form a.file.now) a.i (as_row r.row_of-r.result) r.row_of-r.ensures a.size
    c.if-r-ne-EOF.true)

returns_2 : tie.Need-returns-then-r-size
returns_2 c =
    let k = c.before.before in
    let r = k.before.before in
    let a = r.before.before.args in
    sym (closes_apart (row_words_of a.form a.file.now) a.i (as_row r.row_of-r.result) r.row_of-r.ensures a.size
    k.if-r-ne-EOF.false c.if-r-size.true)

row_before_requires : tie.Need-row_before-requires
row_before_requires c κs = search rules

row_stands_requires : tie.Need-fits_behind-requires
row_stands_requires c κs = (omega (arith, (at_size c).before.before.if-r-ne-EOF.false), length_table)

returns_3 : tie.Need-returns
returns_3 c =
    let b = c.before in
    let f = at_size b in
    let k = f.before.before in
    let r = k.before.before in
    let a = r.before.before.args in
    let q = as_row r.row_of-r.result in
    c.fits_behind.ensures ∙ ap (λ (z : Row). row_fits q && fits_after z q) b.row_before.ensures
    ∙ closes_fit (row_words_of a.form a.file.now) a.i q r.row_of-r.ensures a.size k.if-r-ne-EOF.false f.if-r-size.false

pub last_closes_spec : {M : Type 1} → statement M
last_closes_spec =
    tie.close
    (tie.spec row_of_requires returns returns_2 row_before_requires row_stands_requires returns_3)
