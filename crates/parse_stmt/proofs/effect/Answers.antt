-- An expression, or an assignment to it, and `;`.
use Rattle.std.proofs.Common.{ℕ, Bool, sym, ap, refl, ◌∙◌, arith}
use Rattle.std.proofs.lemmas.Result.{err_from_is_err_and}
use Rattle.rules.specs.Parse
use Rattle.parse_nodes.specs.declared.At.{At}
use Rattle.parse_nodes.proofs.Rows.{tells_some, tells_kind, word_test}
use Rattle.parse_nodes.proofs.Turn.{met_ok, met_no, met_as}
use Rattle.rules.specs.Kinds.{Semicolon}
use Rattle.rules.specs.Parse.{ok, is_assign, kind_at}
use Rattle.rules.specs.Tree.{plain}
use Rattle.theory_grammar.proofs.Cases.{then_ok, assign_no, expression_is}
use Rattle.parse_nodes.proofs.Fitting.{end_met, end_unmet}
use Rattle.parse_stmt.proofs.Trees.{expr_came, expr_refused, stands_plain}
use Rattle.parse_stmt.proofs.effect.Goals as goal

pub returns-in_err-t : goal.returns-in_err-t
returns-in_err-t c = λ ts tl.
    let a = c.args in
    let p = err_from_is_err_and c.from_residual.result c.from_residual.ensures.1 in
    rw (p.1, p.2) (met_no _ _ _ c.in_err-t.field-0.0.why c.in_err-t.field-0.0.row _ _
    (expression_is ts a.left (Parse.body ts a.left) a.row ∙ expr_refused ts _ _ _ _ _ _ _ (c.add.ensures ts tl) c.in_err-t.was _))

pub assigned-requires : goal.assigned-requires
assigned-requires c =
    let a = c.args in
    let w = expr_came (c.add.ensures _ (tells_some a.rows.now a.count)) c.in_ok-t.was in
    let h = word_test a.rows.now a.count c.in_ok-t.t.row is_assign refl
    (ap is_assign (sym c.kind_at.ensures) ∙ sym c.is_assign.ensures ∙ c.if-is_assign.true) in
    omega (arith, h, w.stands, w.few, c.requires)

pub returns-then-is_assign : goal.returns-then-is_assign
returns-then-is_assign c = λ ts tl.
    let a = c.args in
    let j : ℕ = c.in_ok-t.t.row in
    let v = expr_came (c.add.ensures ts tl) c.in_ok-t.was in
    let b = ap is_assign (sym (c.kind_at.ensures ∙ tells_kind ts _ _ tl j)) ∙ sym c.is_assign.ensures ∙ c.if-is_assign.true in
    met_as _ _ _ _ _ _ _
    (expression_is ts a.left (Parse.body ts a.left) a.row ∙ then_ok _ _ v.tree j v.is
    ∙ ap (λ (x : Bool). Parse.assign_by ts a.left (Parse.body ts a.left) x v.tree j) b)
    (c.assigned.ensures ts tl a.row a.node v.tree a.nodes.now v.stands)

pub returns-in_err-want_end : goal.returns-in_err-want_end
returns-in_err-want_end c = λ ts tl.
    let a = c.args in
    let u : At = c.in_ok-t.t in
    let v = expr_came (c.add.ensures ts tl) c.in_ok-t.was in
    let b = ap is_assign (sym (c.kind_at.ensures ∙ tells_kind ts _ _ tl u.row)) ∙ sym c.is_assign.ensures ∙ c.if-is_assign.false in
    let w = c.in_err-want_end.ensures.err in
    let p = err_from_is_err_and c.from_residual-in_err-want_end.result c.from_residual-in_err-want_end.ensures.1 in
    rw (p.1, p.2, w.1) (met_no _ _ _ _ _ _ _
    (expression_is ts a.left (Parse.body ts a.left) a.row ∙ then_ok _ _ v.tree u.row v.is
    ∙ assign_no ts a.left (Parse.body ts a.left) v.tree u.row b
    ∙ end_unmet ts a.rows.now a.count tl _ Semicolon v.tree _ u.row u.summed v.stands.summed w.0))

pub ended-requires : goal.ended-requires
ended-requires c =
    let l = tells_some c.args.rows.now c.args.count in
    let w = expr_came (c.add.ensures _ l) c.in_ok-t.was in
    omega (arith, w.stands, w.few, w.inside, l.long, c.requires)

pub returns : goal.returns
returns c = λ ts tl.
    let a = c.args in
    let u : At = c.in_ok-t.t in
    let v = expr_came (c.add.ensures ts tl) c.in_ok-t.was in
    let r = c.ended.ensures in
    let b = ap is_assign (sym (c.kind_at.ensures ∙ tells_kind ts _ _ tl u.row)) ∙ sym c.is_assign.ensures ∙ c.if-is_assign.false in
    met_ok _ _ _ (plain v.tree) _ _ _
    (expression_is ts a.left (Parse.body ts a.left) a.row ∙ then_ok _ _ v.tree u.row v.is
    ∙ assign_no ts a.left (Parse.body ts a.left) v.tree u.row b
    ∙ end_met ts a.rows.now a.count tl _ Semicolon v.tree _ u.row c.in_ok-want_end.ensures.ok
    ∙ ap (λ (y : ℕ). ok (plain v.tree) y) (sym (ap (λ (y : At). y.row) r.0)))
    (stands_plain a.row a.node a.nodes.now c.add.new.nodes u v.tree c.ended.result c.ended.new.nodes v.stands r.0 r.1)
