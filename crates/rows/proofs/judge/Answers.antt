-- `judge` meets its contract, a law for each way out.
use Rattle.std.proofs.Common.{sym, ◌∙◌}
use Rattle.std.proofs.lemmas.Result.{err_from_is_err_and}
use Rattle.laws.proofs.Calls.{judged_text, judged_unformed, judged_size, judged_well}
use Rattle.rows.proofs.judge.Goals as goal

pub returns-in_err-judge_text : goal.returns-in_err-judge_text
returns-in_err-judge_text c =
    let a = c.args in
    let p = err_from_is_err_and c.from_residual.result c.from_residual.ensures.1 in
    rw (p.1, p.2) (sym (judged_text a.text.now a.rows.now a.table (sym c.judge_text.ensures ∙ c.in_err-judge_text.was)))

pub returns-then-size-text : goal.returns-then-size-text
returns-then-size-text c =
    let a = c.args in
    rw c.unformed.ensures (sym (judged_size a.text.now a.rows.now a.table (sym c.judge_text.ensures ∙ c.in_ok-judge_text.was) c.if-size-text.true))

pub returns-then-well_formed : goal.returns-then-well_formed
returns-then-well_formed c =
    let a = c.args in
    sym (judged_well a.text.now a.rows.now a.table (sym c.judge_text.ensures ∙ c.in_ok-judge_text.was) (sym c.well_formed-2.ensures ∙ c.if-well_formed.true) c.if-size-text.false)

pub returns : goal.returns
returns c =
    let a = c.args in
    rw c.unformed-2.ensures (sym (judged_unformed a.text.now a.rows.now a.table (sym c.judge_text.ensures ∙ c.in_ok-judge_text.was) (sym c.well_formed-2.ensures ∙ c.if-well_formed.false)))
