-- An expression and `;` behind `return`.
use Rattle.std.proofs.Common.{ℕ, sym, ap, ◌∙◌, arith}
use Rattle.std.proofs.lemmas.Result.{err_from_is_err_and}
use Rattle.rules.specs.Parse
use Rattle.parse_nodes.specs.declared.At.{At}
use Rattle.parse_nodes.proofs.Rows.{tells_some}
use Rattle.parse_nodes.proofs.Turn.{met_ok, met_no}
use Rattle.rules.specs.Parse.{ok}
use Rattle.rules.specs.Tree.{ret}
use Rattle.theory_grammar.proofs.Cases.{returning_is}
use Rattle.parse_stmt.proofs.Trees.{expr_came, expr_refused, expr_ends, expr_open, stands_ret}
use Rattle.parse_stmt.proofs.give.Goals as goal

pub returns-in_err-t : goal.returns-in_err-t
returns-in_err-t c = λ ts tl.
    let a = c.args in
    let p = err_from_is_err_and c.from_residual.result c.from_residual.ensures.1 in
    rw (p.1, p.2) (met_no _ _ _ c.in_err-t.field-0.0.why c.in_err-t.field-0.0.row _ _
    (returning_is ts a.left (Parse.body ts a.left) a.row ∙ expr_refused ts _ _ _ _ _ _ _ (c.add.ensures ts tl) c.in_err-t.was _))

pub returns-in_err-want_end : goal.returns-in_err-want_end
returns-in_err-want_end c = λ ts tl.
    let a = c.args in
    let v = expr_came (c.add.ensures ts tl) c.in_ok-t.was in
    let w = c.in_err-want_end.ensures.err in
    let p = err_from_is_err_and c.from_residual-in_err-want_end.result c.from_residual-in_err-want_end.ensures.1 in
    rw (p.1, p.2, w.1) (met_no _ _ _ _ _ _ _
    (returning_is ts a.left (Parse.body ts a.left) a.row
    ∙ expr_open tl _ v (λ e. ret e) w.0))

pub ended-requires : goal.ended-requires
ended-requires c =
    let l = tells_some c.args.rows.now c.args.count in
    let w = expr_came (c.add.ensures _ l) c.in_ok-t.was in
    omega (arith, w.stands, w.few, w.inside, l.long, c.requires)

pub returns : goal.returns
returns c = λ ts tl.
    let a = c.args in
    let v = expr_came (c.add.ensures ts tl) c.in_ok-t.was in
    let r = c.ended.ensures in
    met_ok _ _ _ (ret v.tree) _ _ _
    (returning_is ts a.left (Parse.body ts a.left) a.row
    ∙ expr_ends tl _ v (λ e. ret e) c.in_ok-want_end.ensures.ok
    ∙ ap (λ (y : ℕ). ok (ret v.tree) y) (sym (ap (λ (y : At). y.row) r.0)))
    (stands_ret a.row a.node a.nodes.now c.add.new.nodes c.in_ok-t.t v.tree c.ended.result c.ended.new.nodes v.stands r.0 r.1)
