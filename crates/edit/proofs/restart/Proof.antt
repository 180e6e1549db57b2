-- `restart` meets its contract.
use mathlib.Core.Path.{◌≡◌, sym, ◌∙◌}
use mathlib.Core.Bool.{true}
use native.Mathlib.Omega.{arith}
use borrow.Author.Tests.{not-true, not-false, lt-ltb, le-ltb}
use borrow.Author.Rules.{rules}
use Rattle.rules.specs.Rows.{well_formed}
use Rattle.rules.specs.Edit.{restart_told}
use Rattle.rows.proofs.Inside.{fine}
use Rattle.edit.proofs.Facts.{ends_rise}
use Rattle.edit.proofs.Calls.{restart_by, kept_lent}
use Rattle.edit.proofs.restart.Statement.{statement}
use Rattle.edit.proofs.restart.Tie as tie

formed : (c : tie.Else-not-well_formed) → let a = c.before.before.before.args in well_formed a.old.now a.table ≡ true
formed c = sym c.before.well_formed-2.ensures ∙ not-false c.before.well_formed-2.result c.if-not-well_formed.false-raw

well_formed_requires : tie.Need-well_formed-requires
well_formed_requires c κs = search rules

returns : tie.Need-returns-then-not-well_formed
unfolding restart_told
returns c = rw (sym c.before.well_formed-2.ensures ∙ not-true c.before.well_formed-2.result c.if-not-well_formed.true-raw)

returns_2 : tie.Need-returns-then-length-a
unfolding restart_told
returns_2 c =
    let a = c.before.before.before.before.args in
    rw (formed c.before, lt-ltb a.table.length a.a (omega (arith, c.if-length-a.true)))

cast_kept_rows : tie.Need-overflow_cast-table
cast_kept_rows c = search rules

kept_rows_requires : tie.Need-kept_rows-requires
kept_rows_requires c κs =
    let a = c.before.before.before.before.before.args in
    let f = fine a.old.now a.table (formed c.before.before) in
    (f.lent, ends_rise f)

place_behind_requires : tie.Need-place_behind-requires
place_behind_requires c κs =
    let a = c.before.before.before.before.before.before.args in
    kept_lent a.old.now a.table a.a (formed c.before.before.before) c.kept_rows.result c.kept_rows.ensures

returns_3 : tie.Need-returns
unfolding restart_told
returns_3 c =
    let e = c.before.before.before.before in
    let a = e.before.before.before.args in
    rw (formed e, le-ltb a.table.length a.a (omega (arith, c.before.before.before.if-length-a.false)), c.place_behind.ensures, restart_by a.old.now a.table a.a c.before.kept_rows.result c.before.kept_rows.ensures)

pub restart_spec : {M : Type 1} → statement M
restart_spec =
    tie.close
    (tie.spec
    well_formed_requires
    returns
    returns_2
    cast_kept_rows
    kept_rows_requires
    place_behind_requires
    returns_3)
