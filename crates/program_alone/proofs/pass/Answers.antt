-- The first pass, into no memory, says what is read.
use mathlib.Core.Path.{ap, ◌∙◌}
use Rattle.rules.specs.Refusals.{found_told}
use Rattle.rules.specs.Rows.{Row, row_place, rows_in}
use Rattle.rules.specs.Calls.{place_of_row}
use Rattle.rules.specs.Parse.{Out}
use Rattle.theory_grammar.proofs.Tables.{tokens_proper}
use Rattle.parse_nodes.proofs.Told.{names_told}
use Rattle.parse.specs.Program.{reading_of}
use Rattle.parse.proofs.Whole.{refused_in}
use Rattle.parse.proofs.Passing.{reached, stopped}
use Rattle.program_alone.proofs.Told.{roomy, read_ok, read_no}
use Rattle.program_alone.proofs.pass.Goals as goal

pub at-row-requires : goal.at-row-requires
at-row-requires c =
    let a = c.args in
    let f = c.program_passed.ensures _ (names_told a.text.now a.rows.now a.count) (tokens_proper a.text.now (rows_in a.count a.rows.now)) in
    refused_in a.text.now a.rows.now a.count _ (roomy c.requires) c.in-Err.e.why c.in-Err.e.row (stopped _ _ _ f c.in-Err.is)

pub returns-in-Ok : goal.returns-in-Ok
returns-in-Ok c =
    let a = c.args in
    let o : Out = reading_of a.text.now a.rows.now a.count in
    let f = c.program_passed.ensures _ (names_told a.text.now a.rows.now a.count) (tokens_proper a.text.now (rows_in a.count a.rows.now)) in
    let v = reached o _ _ f c.in-Ok.is in
    read_ok a.rows.now o v.tree _ v.is

pub returns-in-Err : goal.returns-in-Err
unfolding place_of_row
returns-in-Err c =
    let a = c.args in
    let x = c.in-Err.e in
    let o : Out = reading_of a.text.now a.rows.now a.count in
    let f = c.program_passed.ensures _ (names_told a.text.now a.rows.now a.count) (tokens_proper a.text.now (rows_in a.count a.rows.now)) in
    read_no a.rows.now o x.why x.row _ _ (stopped o _ _ f c.in-Err.is)
    (c.place.ensures ∙ ap row_place c.at-row.ensures)
    (c.found_told-found.ensures ∙ ap (λ (y : Row). found_told x.why y.kind) c.at-row.ensures)
