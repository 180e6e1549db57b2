-- Nothing is written unless the file is moved.
use Rattle.std.proofs.Common.{ℕ, sym, ◌∙◌, length}
use Rattle.std.proofs.lemmas.Result.{err_from_is_err_and}
use Rattle.std.specs.Prelude.{Ok, Err}
use Rattle.rules_forms.specs.declared.Apart.TheVariants.{File}
use Rattle.rules_forms.specs.Shapes.{number_of}
use Rattle.theory_forms.proofs.Moves.{move_untouched}
use Rattle.file_move.proofs.Answers.{told_by, told_refused, leaves_by}
use Rattle.file_move.proofs.move_to.Goals as goal

pub returns-in_err-table : goal.returns-in_err-table
returns-in_err-table c =
    let a = c.args in
    let why = c.in_err-table.field-0.0 in
    let room : ℕ = length a.moved.now in
    let told = told_by a.form a.text.now a.file.now room (Err why) (sym c.in_err-table.was ∙ c.judge.ensures)
    ∙ told_refused (number_of a.form) a.text.now a.file.now room why in
    let p = err_from_is_err_and c.from_residual.result c.from_residual.ensures.1 in
    rw (p.1, p.2) (sym told, sym (move_untouched a.text.now a.file.now (number_of a.form) a.moved.now (File why) told))

pub returns : goal.returns
returns c =
    let a = c.args in
    let table = c.in_ok-table.table in
    let holds = sym c.judge.ensures ∙ c.in_ok-table.was in
    let told = told_by a.form a.text.now a.file.now (length a.moved.now) (Ok table) (sym holds) ∙ sym c.move_table.ensures.0 in
    let left = leaves_by (number_of a.form) a.text.now a.file.now a.moved.now table holds c.move_table.result told in
    (sym told, c.move_table.ensures.1 ∙ sym left)
