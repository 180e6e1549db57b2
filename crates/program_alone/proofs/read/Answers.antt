-- 1, 2 and 3, the table's refused ending, and then the reading.
use Rattle.std.proofs.Common.{sym, ◌∙◌}
use Rattle.std.proofs.lemmas.Result.{err_from_is_err_and}
use Rattle.program_alone.proofs.Told.{told_refused, told_ending, told_read, table_ended}
use Rattle.program_alone.proofs.read.Goals as goal

pub returns-in_err-judge : goal.returns-in_err-judge
returns-in_err-judge c =
    let a = c.args in
    let e = c.in_err-judge.field-0.0 in
    let p = err_from_is_err_and c.from_residual.result c.from_residual.ensures.1 in
    rw (p.1, p.2) (told_refused a.text.now a.rows.now a.table e.why e.at (sym c.judge.ensures ∙ c.in_err-judge.was))

pub returns-in-Some : goal.returns-in-Some
returns-in-Some c =
    let a = c.args in
    told_ending a.text.now a.rows.now a.table (sym c.judge.ensures ∙ c.in_ok-judge.was) c.in-Some.e.why c.in-Some.e.at c.in-Some.is

pub pass-requires : goal.pass-requires
pass-requires c =
    let a = c.args in
    table_ended a.text.now a.rows.now a.table (sym c.judge.ensures ∙ c.in_ok-judge.was) c.in-None.is

pub returns-in-None : goal.returns-in-None
returns-in-None c =
    let a = c.args in
    c.pass.ensures ∙ told_read a.text.now a.rows.now a.table (sym c.judge.ensures ∙ c.in_ok-judge.was) c.in-None.is
