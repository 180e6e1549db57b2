-- `spoonharbor_spelling` meets its contract: where the row is judged fine, its start and end are read.
use Rattle.std.proofs.Common.{sym, ◌∙◌, arith}
use Rattle.rows.proofs.Judging.{told}
use Rattle.spoonharbor.proofs.spoonharbor_spelling.Goals as goal

pub bounds-rows-at : goal.bounds-rows-at
bounds-rows-at c =
    let h = told c.args.text.now c.args.rows.now c.table_of.result c.args.row (sym c.spelling_judge.ensures ∙ c.in-Ok.is) in
    omega (arith, h.lent)

pub bounds-rows-at-in-Ok : goal.bounds-rows-at-in-Ok
bounds-rows-at-in-Ok c =
    let h = told c.args.text.now c.args.rows.now c.table_of.result c.args.row (sym c.spelling_judge.ensures ∙ c.in-Ok.is) in
    omega (arith, h.lent)

pub returns-in-Ok : goal.returns-in-Ok
returns-in-Ok c =
    rw (← c.table_of.ensures, sym c.spelling_judge.ensures ∙ c.in-Ok.is)
    (c.put.ensures ∙ rw c.no_place.ensures)

pub returns-in-Err : goal.returns-in-Err
returns-in-Err c =
    rw (← c.table_of.ensures, sym c.spelling_judge.ensures ∙ c.in-Err.is)
    (c.put-in-Err.ensures ∙ rw c.outer_number.ensures)
