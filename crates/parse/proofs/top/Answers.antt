-- The row's kind says which declaration it is.
use mathlib.Core.Path.{refl, sym, ◌∙◌}
use native.Mathlib.Omega.{arith}
use Rattle.theory_grammar.proofs.Cases.{top_map, top_unit, top_event, top_other}
use Rattle.parse_nodes.proofs.Errs.{met_err}
use Rattle.parse_nodes.proofs.Seen.{seen}
use Rattle.parse_nodes.proofs.Turn.{met_as}
use Rattle.parse.proofs.top.Goals as goal

pub returns-in-6 : goal.returns-in-6
returns-in-6 c ts h =
    let a = c.args in
    let q = seen ts a.rows.now a.count h.tells a.row _ c.kind_at.ensures in
    met_as _ _ _ _ _ _ _ (top_map ts a.row (sym q ∙ c.in-6.is)) (c.map.ensures ts h)

pub returns-in-0 : goal.returns-in-0
returns-in-0 c ts h =
    let a = c.args in
    let q = seen ts a.rows.now a.count h.tells a.row _ c.kind_at.ensures in
    met_as _ _ _ _ _ _ _ (top_unit ts a.row (sym q ∙ c.in-0.is)) (c.unit.ensures ts h)

pub returns-in-15 : goal.returns-in-15
returns-in-15 c ts h =
    let a = c.args in
    let q = seen ts a.rows.now a.count h.tells a.row _ c.kind_at.ensures in
    met_as _ _ _ _ _ _ _ (top_event ts a.row (sym q ∙ c.in-15.is)) (c.event.ensures ts h.tells)

pub returns-in_default : goal.returns-in_default
returns-in_default c ts h =
    let a = c.args in
    let q = seen ts a.rows.now a.count h.tells a.row _ c.kind_at.ensures in
    met_err _ _ _ _ _ _ _ _ _
    (top_other ts a.row (λ e. absurd (omega (arith, q, e))) (λ e. absurd (omega (arith, q, e))) (λ e. absurd (omega (arith, q, e))))
    refl c.new.ensures
