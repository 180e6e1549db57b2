-- Nothing is written unless the file is read beside its text.
use Rattle.std.proofs.Common.{ℕ, sym, ◌∙◌}
use Rattle.std.proofs.lemmas.Result.{err_from_is_err_and}
use Rattle.std.specs.Prelude.{Ok, Err}
use Rattle.rules.specs.Scan.{room_of}
use Rattle.rules_forms.specs.declared.Apart.TheVariants.{File}
use Rattle.file_beside.proofs.Answers.{told_by, told_refused, leaves_by}
use Rattle.file_beside.proofs.load_beside.Goals as goal

pub returns-in_err-table-clause-told : goal.returns-in_err-table-clause-told
returns-in_err-table-clause-told c =
    let a = c.args in
    let why = c.in_err-table.field-0.0 in
    let room : ℕ = room_of a.rows.now in
    let told = told_by a.text.now a.file.now room (Err why) (sym c.in_err-table.was ∙ c.judge.ensures) ∙ told_refused a.text.now a.file.now room why in
    let p = err_from_is_err_and c.from_residual.result c.from_residual.ensures.1 in
    rw (p.1, p.2) (sym told)

pub returns-in_err-table-clause-left : goal.returns-in_err-table-clause-left
returns-in_err-table-clause-left c =
    let a = c.args in
    let why = c.in_err-table.field-0.0 in
    let room : ℕ = room_of a.rows.now in
    let told = told_by a.text.now a.file.now room (Err why) (sym c.in_err-table.was ∙ c.judge.ensures) ∙ told_refused a.text.now a.file.now room why in
    sym (leaves_by a.text.now a.file.now a.rows.now (Err (File why)) told)

pub returns-clause-told : goal.returns-clause-told
returns-clause-told c =
    let a = c.args in
    let holds = sym c.judge.ensures ∙ c.in_ok-table.was in
    let told = told_by a.text.now a.file.now (room_of a.rows.now) (Ok c.in_ok-table.table) (sym holds) ∙ sym c.load_table.ensures.0 in
    sym told

pub returns-clause-left : goal.returns-clause-left
returns-clause-left c =
    let a = c.args in
    let holds = sym c.judge.ensures ∙ c.in_ok-table.was in
    let told = told_by a.text.now a.file.now (room_of a.rows.now) (Ok c.in_ok-table.table) (sym holds) ∙ sym c.load_table.ensures.0 in
    c.load_table.ensures.1 ∙ sym (leaves_by a.text.now a.file.now a.rows.now c.load_table.result told)
