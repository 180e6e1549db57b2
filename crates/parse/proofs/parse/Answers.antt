-- `parse` meets its contract: 1, 2 and 3, the table's refused ending, 5, and then the reading.
use Rattle.std.proofs.Common.{sym, ◌∙◌}
use Rattle.std.proofs.lemmas.Result.{err_from_is_err_and}
use Rattle.rules.specs.Calls.{node_room}
use Rattle.laws.proofs.Calls.{judged_fine}
use Rattle.rows.proofs.Inside.{fine}
use Rattle.parse.proofs.Tables.{asks_whole}
use Rattle.parse.proofs.Whole.{whole_refused, whole_ending, whole_tight, whole_read}
use Rattle.parse.proofs.parse.Goals as goal

pub returns-in_err-judge : goal.returns-in_err-judge
returns-in_err-judge c =
    let a = c.args in
    let w = whole_refused a.text.now a.rows.now a.table a.nodes.now (sym c.judge.ensures ∙ c.in_err-judge.was) in
    let p = err_from_is_err_and c.from_residual.result c.from_residual.ensures.1 in
    record { told = rw (p.1, p.2) w.0; left = w.1 }

pub returns-in-Some : goal.returns-in-Some
returns-in-Some c =
    let a = c.args in
    let w = whole_ending a.text.now a.rows.now a.table a.nodes.now (sym c.judge.ensures ∙ c.in_ok-judge.was) c.in-Some.e.why c.in-Some.e.at c.in-Some.is in
    record { told = w.0; left = w.1 }

pub returns-then-nodes-count : goal.returns-then-nodes-count
unfolding node_room
returns-then-nodes-count c =
    let a = c.args in
    let w = whole_tight a.text.now a.rows.now a.table a.nodes.now (sym c.judge.ensures ∙ c.in_ok-judge.was) c.in-None.is c.if-nodes-count.true _ c.outer.ensures in
    record { told = w.0; left = w.1 }

pub twice-requires : goal.twice-requires
unfolding node_room
twice-requires c =
    let a = c.args in
    let w = judged_fine a.text.now a.rows.now a.table (sym c.judge.ensures ∙ c.in_ok-judge.was) in
    asks_whole (fine a.rows.now a.table w.0) a.text.now w.1 c.in-None.is a.nodes.now c.if-nodes-count.false

pub returns : goal.returns
unfolding node_room
returns c =
    let a = c.args in
    let w = whole_read a.text.now a.rows.now a.table a.nodes.now (sym c.judge.ensures ∙ c.in_ok-judge.was) c.in-None.is c.if-nodes-count.false _ _ c.twice.ensures in
    record { told = w.0; left = w.1 }
