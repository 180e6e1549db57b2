-- `spelling_judge` meets its contract, a law for each way out.
use Rattle.std.proofs.Common.{sym, ◌∙◌}
use Rattle.std.proofs.lemmas.Result.{err_from_is_err_and}
use Rattle.rows.proofs.Judging.{told_refused, told_row, told_past}
use Rattle.rows.proofs.spelling_judge.Goals as goal

pub returns-in_err-judge : goal.returns-in_err-judge
returns-in_err-judge c =
    let a = c.args in
    let p = err_from_is_err_and c.from_residual.result c.from_residual.ensures.1 in
    rw (p.1, p.2) (sym (told_refused a.text.now a.rows.now a.table a.row (sym c.judge.ensures ∙ c.in_err-judge.was)))

pub returns-then-row-table : goal.returns-then-row-table
returns-then-row-table c =
    let a = c.args in
    sym (told_row a.text.now a.rows.now a.table a.row (sym c.judge.ensures ∙ c.in_ok-judge.was) c.if-row-table.true)

pub returns : goal.returns
returns c =
    let a = c.args in
    rw c.unformed.ensures (sym (told_past a.text.now a.rows.now a.table a.row (sym c.judge.ensures ∙ c.in_ok-judge.was) c.if-row-table.false))
