-- Behind a target and its sign, a value and `;`.
use Rattle.std.proofs.Common.{ℕ, sym, ap, ◌∙◌, arith}
use Rattle.std.proofs.lemmas.Result.{err_from_is_err_and}
use Rattle.rules.specs.Parse
use Rattle.parse_nodes.specs.declared.At.{At}
use Rattle.parse_nodes.proofs.Rows.{tells_some, tells_kind}
use Rattle.parse_nodes.proofs.Turn.{met_ok, met_no}
use Rattle.rules.specs.Nodes.{assign_node}
use Rattle.rules.specs.Parse.{ok, kind_at}
use Rattle.rules.specs.Tree.{Tree, assign}
use Rattle.parse_stmt.proofs.Trees.{expr_came, expr_refused, expr_ends, expr_open, assign_is, stands_assign}
use Rattle.parse_stmt.proofs.assigned.Goals as goal

pub returns-in_err-u : goal.returns-in_err-u
returns-in_err-u c = λ ts tl i n e m₀ st.
    let a = c.args in
    let p = err_from_is_err_and c.from_residual.result c.from_residual.ensures.1 in
    rw (p.1, p.2) (met_no _ _ _ c.in_err-u.field-0.0.why c.in_err-u.field-0.0.row _ _
    (assign_is ts a.left (Parse.body ts a.left) e a.t.row ∙ expr_refused ts _ _ _ _ _ _ _ (c.add.ensures ts tl) c.in_err-u.was _))

pub returns-in_err-want_end : goal.returns-in_err-want_end
returns-in_err-want_end c = λ ts tl i n e m₀ st.
    let a = c.args in
    let v = expr_came (c.add.ensures ts tl) c.in_ok-u.was in
    let w = c.in_err-want_end.ensures.err in
    let p = err_from_is_err_and c.from_residual-in_err-want_end.result c.from_residual-in_err-want_end.ensures.1 in
    rw (p.1, p.2, w.1) (met_no _ _ _ _ _ _ _
    (assign_is ts a.left (Parse.body ts a.left) e a.t.row
    ∙ expr_open tl _ v (λ (x : Tree). assign (kind_at ts a.t.row) e x) w.0))

pub ended-requires : goal.ended-requires
ended-requires c =
    let l = tells_some c.args.rows.now c.args.count in
    let w = expr_came (c.add.ensures _ l) c.in_ok-u.was in
    omega (arith, w.stands, w.few, w.inside, l.long, c.requires)

pub returns : goal.returns
returns c = λ ts tl i n e m₀ st.
    let a = c.args in
    let v = expr_came (c.add.ensures ts tl) c.in_ok-u.was in
    let r = c.ended.ensures in
    let f : Tree → Tree = λ x. assign (kind_at ts a.t.row) e x in
    let k = c.assign_node-kind.ensures ∙ ap assign_node (c.kind_at.ensures ∙ tells_kind ts _ _ tl a.t.row) in
    met_ok _ _ _ (f v.tree) _ _ _
    (assign_is ts a.left (Parse.body ts a.left) e a.t.row
    ∙ expr_ends tl _ v f c.in_ok-want_end.ensures.ok
    ∙ ap (λ (y : ℕ). ok (f v.tree) y) (sym (ap (λ (y : At). y.row) r.0)))
    (stands_assign i n m₀ a.nodes.now a.t e c.in_ok-u.u c.add.new.nodes v.tree c.ended.result
    c.ended.new.nodes (kind_at ts a.t.row) st v.stands r.0 (rw (← k) r.1))
