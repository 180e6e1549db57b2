-- `spelling` meets its contract: the row of a well-formed table lies in the text, and its part is handed back.
use Rattle.std.proofs.Common.{◌≡◌, ℕ, ◌-◌, ◌≤◌, List, length, take, drop, sym, ap, ◌∙◌, arith}
use Rattle.rules.specs.Rows.{Row}
use Rattle.rows.proofs.Judging.{told, part_fine, part_refused}
use Rattle.rows.proofs.spelling.Goals as goal

-- a row lies where the row lies that it is
placed : {q r : Row} {n : ℕ} → q ≡ r → r.start ≤ r.end → r.end ≤ n → (q.start ≤ q.end) × (q.end ≤ n)
placed {q} {r} e o w =
    let s = ap (λ (x : Row). x.start) e in
    let f = ap (λ (x : Row). x.end) e in
    (omega arith, omega arith)

-- the part of a text that a row says
cut : (t : List ℕ) {q r : Row} → q ≡ r → take (q.end - q.start) (drop q.start t) ≡ take (r.end - r.start) (drop r.start t)
cut t e = ap (λ (x : Row). take (x.end - x.start) (drop x.start t)) e

pub at-r-requires : goal.at-r-requires
at-r-requires c =
    let a = c.args in
    (told a.text.now a.rows.now a.table a.row (sym c.spelling_judge.ensures ∙ c.in-Ok.is)).lent

pub slice_bounds-result-count : goal.slice_bounds-result-count
slice_bounds-result-count c =
    let a = c.args in
    let f = told a.text.now a.rows.now a.table a.row (sym c.spelling_judge.ensures ∙ c.in-Ok.is) in
    (placed c.at-r.ensures f.ordered f.within).0

pub slice_bounds-result-start : goal.slice_bounds-result-start
slice_bounds-result-start c =
    let a = c.args in
    let f = told a.text.now a.rows.now a.table a.row (sym c.spelling_judge.ensures ∙ c.in-Ok.is) in
    (placed c.at-r.ensures f.ordered f.within).0

pub slice_bounds-result-end : goal.slice_bounds-result-end
slice_bounds-result-end c =
    let a = c.args in
    let f = told a.text.now a.rows.now a.table a.row (sym c.spelling_judge.ensures ∙ c.in-Ok.is) in
    (placed c.at-r.ensures f.ordered f.within).1

pub returns-in-Ok : goal.returns-in-Ok
returns-in-Ok c =
    let a = c.args in
    cut a.text.now c.at-r.ensures ∙ sym (part_fine a.text.now a.rows.now a.table a.row (sym c.spelling_judge.ensures ∙ c.in-Ok.is))

pub returns-in-Err : goal.returns-in-Err
returns-in-Err c =
    let a = c.args in
    sym (part_refused a.text.now a.rows.now a.table a.row (sym c.spelling_judge.ensures ∙ c.in-Err.is))
