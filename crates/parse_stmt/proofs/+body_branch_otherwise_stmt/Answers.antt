-- `stmt`, `branch`, `otherwise` and `body`, which call each other in a circle, meet their contracts.
use Rattle.std.proofs.Common.{rules, ◌+◌, ◌-◌, ℕ, sym, ap, refl, ◌∙◌, arith}
use Rattle.std.proofs.lemmas.Result.{err_from_is_err_and}
use mathlib.Core.Bool.{cond}
use Rattle.rules.specs.declared.Syntax.TheVariants.{TooDeep}
use Rattle.rules.specs.Kinds.{KeywordElse, KeywordIf, KeywordReturn, LBrace, RBrace}
use Rattle.rules.specs.Fits.{only, body_things}
use Rattle.rules.specs.Tree.{spelling_of, none, guard, then_body, else_body, count}
use Rattle.rules.specs.Nodes.{NodeThen, NodeElse, node, missing, node_words}
use Rattle.rules.specs.Parse
use Rattle.rules.specs.Parse.{ok, is_declaring, tok_at, kind_at}
use Rattle.theory_grammar.proofs.Laws.{is_wide}
use Rattle.theory_grammar.proofs.Cases.{then_ok, then_no, need_no, else_yes, else_no, body_none, body_some}
use Rattle.theory_grammar.proofs.Cases.{lead_declaring, lead_returning, lead_branching, lead_expression}
use Rattle.theory_grammar.proofs.Ends.{ends_body}
use Rattle.parse_nodes.specs.Post.{kind_word, state_at, refusal}
use Rattle.parse_nodes.specs.Fitting.{retold_at}
use Rattle.parse_nodes.specs.declared.At.{At}
use Rattle.parse_nodes.proofs.Rows.{tells_some, tells_kind, word_here, word_test}
use Rattle.parse_nodes.proofs.Turn.{Any, refused, met_ok, met_no, met_as}
use Rattle.parse_nodes.proofs.Errs.{mapped_ok, mapped_err}
use Rattle.parse_nodes.proofs.Steps.{mem_over, list_start, list_ends, list_fails, list_again}
use Rattle.parse_stmt.specs.Bodies.{body_node, else_at}
use Rattle.parse_stmt.proofs.Trees.{bodied, body_refused, body_ok, body_no, guarded, stands_guard, stands_otherwise}
use Rattle.parse_stmt.proofs.Lists.{statement, listing, statement_came, then_kind, else_kind, met_kind, opened}
use Rattle.parse_stmt.proofs.+body_branch_otherwise_stmt.Goals as goal

-- ---- `stmt`: what a statement begins with

pub stmt-declare-requires : goal.stmt-declare-requires
stmt-declare-requires t c =
    let h = word_test _ _ _ is_declaring refl (ap is_declaring (sym c.kind_at-k.ensures) ∙ sym c.is_declaring.ensures ∙ c.if-is_declaring.true) in
    omega (arith, h, c.requires)

pub stmt-returns-then-is_declaring : goal.stmt-returns-then-is_declaring
stmt-returns-then-is_declaring t c = λ ts tl.
    let a = c.args in
    let k = c.kind_at-k.ensures ∙ tells_kind ts _ _ tl a.row in
    met_as _ _ _ _ _ _ _
    (lead_declaring ts a.left (Parse.body ts a.left) a.row (ap is_declaring (sym k) ∙ sym c.is_declaring.ensures ∙ c.if-is_declaring.true))
    (c.declare.ensures ts tl)

pub stmt-give-requires : goal.stmt-give-requires
stmt-give-requires t c = let h = word_here _ _ _ KeywordReturn (sym c.kind_at-k.ensures ∙ c.in-3.is) refl in omega (arith, h, c.requires)

pub stmt-returns-in-3 : goal.stmt-returns-in-3
stmt-returns-in-3 t c = λ ts tl.
    let a = c.args in
    met_as _ _ _ _ _ _ _
    (lead_returning ts a.left (Parse.body ts a.left) a.row (sym (c.kind_at-k.ensures ∙ tells_kind ts _ _ tl a.row) ∙ c.in-3.is))
    (c.give.ensures ts tl)

pub stmt-branch-rows-requires : goal.stmt-branch-rows-requires
stmt-branch-rows-requires t c = let h = word_here _ _ _ KeywordIf (sym c.kind_at-k.ensures ∙ c.in-11.is) refl in omega (arith, h, c.requires, c.decreases)

pub stmt-returns-in-11 : goal.stmt-returns-in-11
stmt-returns-in-11 t c = λ ts tl.
    let a = c.args in
    met_as _ _ _ _ _ _ _
    (lead_branching ts a.left (Parse.body ts a.left) a.row (sym (c.kind_at-k.ensures ∙ tells_kind ts _ _ tl a.row) ∙ c.in-11.is))
    (c.branch-rows.ensures ts tl)

pub stmt-returns-in_default : goal.stmt-returns-in_default
stmt-returns-in_default t c = λ ts tl.
    let a = c.args in
    let k = c.kind_at-k.ensures ∙ tells_kind ts _ _ tl a.row in
    met_as _ _ _ _ _ _ _
    (lead_expression ts a.left (Parse.body ts a.left) a.row (ap is_declaring (sym k) ∙ sym c.is_declaring.ensures ∙ c.if-is_declaring.false)
    (λ q. let e = k ∙ q in omega (arith, e)) (λ q. let e = k ∙ q in omega (arith, e)))
    (c.effect.ensures ts tl)

-- ---- `branch`: a guard and its bodies

pub branch-returns-in_err-t : goal.branch-returns-in_err-t
branch-returns-in_err-t t c = λ ts tl.
    let a = c.args in
    let e = c.in_err-t.field-0.0 in
    let p = err_from_is_err_and c.from_residual-in_err-t.result c.from_residual-in_err-t.ensures.1 in
    rw (p.1, p.2) (met_no _ _ _ e.why e.row _ _
    (c.in_ok-brace.ensures.3 ts tl a.left (Parse.body ts a.left) ∙ then_no _ _ e.why e.row
    (body_refused _ _ c.in_ok-brace.brace (a.node + 1) c.close.new.nodes c.body.new.nodes c.body.result e (c.body.ensures ts tl) c.in_err-t.was)))

pub branch-otherwise-requires : goal.branch-otherwise-requires
branch-otherwise-requires t c =
    let a = c.args in
    let k = c.in_ok-brace.ensures in
    let b : ℕ = c.in_ok-brace.brace in
    let l = tells_some a.rows.now a.count in
    let v = bodied _ _ _ b (a.node + 1) c.close.new.nodes c.body.new.nodes c.body.result c.in_ok-t.t
    (ends_body _ a.left b (omega (arith, l.long, k.1))) (c.body.ensures _ l) c.in_ok-t.was in
    omega (arith, k.0, v.rows, v.nodes, v.few, v.inside, l.long, c.requires, c.decreases)

pub branch-returns : goal.branch-returns
branch-returns t c = λ ts tl.
    let a = c.args in
    let k = c.in_ok-brace.ensures in
    let b : ℕ = c.in_ok-brace.brace in
    let v = bodied ts (Parse.body ts a.left b) NodeThen b (a.node + 1) c.close.new.nodes c.body.new.nodes c.body.result c.in_ok-t.t
    (ends_body ts a.left b (omega (arith, tl.long, k.1)))
    (met_kind (Parse.body ts a.left b) _ _ _ _ _ _ _ (then_kind a.rows.now a.count a.row b k.0 k.2) (c.body.ensures ts tl)) c.in_ok-t.was in
    met_as _ _ _ _ _ _ _ (k.3 ts tl a.left (Parse.body ts a.left) ∙ then_ok _ _ v.list c.in_ok-t.t.row v.is)
    (c.otherwise.ensures ts tl a.row a.node (spelling_of (tok_at ts (a.row + 3))) v.list a.nodes.now refl
    (guarded ts a.row a.node a.nodes.now c.body.new.nodes c.in_ok-t.t (Parse.body ts a.left b) b c.close.new.nodes v k.0 c.close.ensures))

-- ---- `otherwise`: an else body, or none

pub otherwise-returns-then-kind_at-ne-ELSE : goal.otherwise-returns-then-kind_at-ne-ELSE
otherwise-returns-then-kind_at-ne-ELSE t c = λ ts tl i n w l m₀ g st.
    let a = c.args in
    let r = c.hanging_if.ensures in
    met_ok (else_at ts a.left (Parse.body ts a.left) w l a.t.row) i n (guard w (then_body l) none) m₀ _ _
    (else_no ts a.left (Parse.body ts a.left) w (then_body l) a.t.row
    (λ e. c.if-kind_at-ne-ELSE.true (c.kind_at.ensures ∙ tells_kind ts _ _ tl a.t.row ∙ e))
    ∙ ap (λ (y : ℕ). ok (guard w (then_body l) none) y) (sym (ap (λ (y : At). y.row) r.0)))
    (stands_guard ts i n m₀ a.nodes.now a.t l st w c.hanging_if.result c.hanging_if.new.nodes (rw (← g) r.0) (rw (← g) r.1))

pub otherwise-returns-in_err-want : goal.otherwise-returns-in_err-want
otherwise-returns-in_err-want t c = λ ts tl i n w l m₀ g st.
    let a = c.args in
    let x = c.in_err-want.ensures.err in
    let p = err_from_is_err_and c.from_residual.result c.from_residual.ensures.1 in
    let k = sym (c.kind_at.ensures ∙ tells_kind ts _ _ tl a.t.row) ∙ c.if-kind_at-ne-ELSE.false in
    rw (p.1, p.2, x.1) (met_no _ _ _ _ _ _ _
    (else_yes ts a.left (Parse.body ts a.left) w (then_body l) a.t.row k
    ∙ then_no _ _ _ _ (need_no ts LBrace (Parse.body ts a.left) (a.t.row + 1) (λ f. x.0 (tells_kind ts _ _ tl (a.t.row + 1) ∙ f)))))

pub otherwise-body-requires : goal.otherwise-body-requires
otherwise-body-requires t c = let h = word_here _ _ _ LBrace c.in_ok-want.ensures.ok refl in omega (arith, h, c.requires, c.decreases)

pub otherwise-returns-in_err-u : goal.otherwise-returns-in_err-u
otherwise-returns-in_err-u t c = λ ts tl i n w l m₀ g st.
    let a = c.args in
    let e = c.in_err-u.field-0.0 in
    let p = err_from_is_err_and c.from_residual-in_err-u.result c.from_residual-in_err-u.ensures.1 in
    let k = sym (c.kind_at.ensures ∙ tells_kind ts _ _ tl a.t.row) ∙ c.if-kind_at-ne-ELSE.false in
    rw (p.1, p.2) (met_no _ _ _ e.why e.row _ _
    (opened ts a.left w l a.t.row k (sym (tells_kind ts _ _ tl (a.t.row + 1)) ∙ c.in_ok-want.ensures.ok)
    ∙ then_no _ _ e.why e.row
    (body_refused _ _ (a.t.row + 1) a.t.node a.nodes.now c.body.new.nodes c.body.result e (c.body.ensures ts tl) c.in_err-u.was)))

pub otherwise-shut-requires : goal.otherwise-shut-requires
otherwise-shut-requires t c =
    let a = c.args in
    let h = word_here _ _ _ LBrace c.in_ok-want.ensures.ok refl in
    let l = tells_some a.rows.now a.count in
    let v = bodied _ _ _ (a.t.row + 1) a.t.node a.nodes.now c.body.new.nodes c.body.result c.in_ok-u.u
    (ends_body _ a.left (a.t.row + 1) (omega (arith, l.long, h))) (c.body.ensures _ l) c.in_ok-u.was in
    omega (arith, v.rows, v.nodes, v.few, v.inside, l.long, c.requires)

pub otherwise-returns : goal.otherwise-returns
otherwise-returns t c = λ ts tl i n w l m₀ g st.
    let a = c.args in
    let u : At = c.in_ok-u.u in
    let o : ℕ = a.t.row + 1 in
    let r = c.shut.ensures in
    let h = word_here _ _ _ LBrace c.in_ok-want.ensures.ok refl in
    let e = sym c.kind_at.ensures ∙ c.if-kind_at-ne-ELSE.false in
    let v = bodied ts (Parse.body ts a.left o) NodeElse o a.t.node a.nodes.now c.body.new.nodes c.body.result u
    (ends_body ts a.left o (omega (arith, tl.long, h)))
    (met_kind (Parse.body ts a.left o) _ _ _ _ _ _ _ (else_kind a.rows.now a.count a.t.row e) (c.body.ensures ts tl)) c.in_ok-u.was in
    met_ok (else_at ts a.left (Parse.body ts a.left) w l a.t.row) i n (guard w (then_body l) (else_body v.list)) m₀ _ _
    (opened ts a.left w l a.t.row (sym (tells_kind ts _ _ tl a.t.row) ∙ e) (sym (tells_kind ts _ _ tl o) ∙ c.in_ok-want.ensures.ok)
    ∙ then_ok _ _ v.list u.row v.is
    ∙ ap (λ (y : ℕ). ok (guard w (then_body l) (else_body v.list)) y) (sym (ap (λ (y : At). y.row) r.0)))
    (stands_otherwise ts i n m₀ a.nodes.now a.t l st w (Parse.body ts a.left o) u c.body.new.nodes
    v c.shut.result c.shut.new.nodes (rw (← g) r.0) (rw (← g) r.1))

-- ---- `body`: statements up to the brace that closes them, and the body's node

pub body-returns-then-left-eq0 : goal.body-returns-then-left-eq0
body-returns-then-left-eq0 t c = λ ts tl.
    let a = c.args in
    rw c.new.ensures (body_no _ _ a.row a.node TooDeep a.row a.nodes.now a.nodes.now (body_none ts a.row a.left c.if-left-eq0.true))

pub body-loop-s-init : goal.body-loop-s-init
body-loop-s-init t c = λ ts tl.
    let a = c.args in
    list_start Any ts RBrace body_things (statement ts a.left) _ (a.row + 1) a.node a.nodes.now _ refl
    (omega (arith, tl.long, c.requires)) c.new-s.ensures tt

pub body-stmt-requires : goal.body-stmt-requires
body-stmt-requires t c =
    let l = tells_some c.args.rows.now c.args.count in
    let w = c.loop-s.invariant _ l in
    omega (arith, w.few, w.stands, w.inside, l.long, c.requires, c.decreases, c.if-left-eq0.false)

pub body-returns-in_err-t : goal.body-returns-in_err-t
body-returns-in_err-t t c = λ ts tl.
    let a = c.args in
    let s : At = c.loop-s.s in
    let p = err_from_is_err_and c.from_residual.result c.from_residual.ensures.1 in
    let m = mapped_err _ c.stmt.result c.map_err.result
    (λ e. refusal (retold_at (body_things + cond s.hanging (only KeywordElse) 0) s.row e.why e.row) e.row)
    c.map_err.ensures.cases c.in_err-t.was (λ e y h. search rules) in
    let q = list_fails Any ts RBrace body_things (statement ts a.left) (listing ts a.left a.row) (a.row + 1) a.node a.nodes.now s c.loop-s.nodes
    (c.loop-s.invariant ts tl) (λ e. c.loop-s-test.true (c.kind_at.ensures ∙ tells_kind ts _ _ tl s.row ∙ e)) m.0.why m.0.row c.stmt.new.nodes
    (refused _ _ _ _ _ _ m.0 (c.stmt.ensures ts tl) m.1) in
    rw (p.1, p.2, m.2) (body_no _ _ a.row a.node _ _ a.nodes.now c.stmt.new.nodes
    (body_some ts a.row a.left c.if-left-eq0.false ∙ then_no _ _ _ _ (refused _ _ _ _ _ _ _ q refl)))

pub body-overflow_add-s : goal.body-overflow_add-s
body-overflow_add-s t c =
    let l = tells_some c.args.rows.now c.args.count in
    let w = c.loop-s.invariant _ l in
    omega (arith, w.inside, w.counts, w.stands, l.long, c.requires)

pub body-loop-s-smaller : goal.body-loop-s-smaller
body-loop-s-smaller t c =
    let a = c.args in
    let s : At = c.loop-s.s in
    let l = tells_some a.rows.now a.count in
    let v = statement_came _ a.left s.row s.node c.loop-s.nodes c.stmt.new.nodes c.stmt.result c.in_ok-t.t (c.stmt.ensures _ l)
    (mapped_ok _ c.stmt.result c.map_err.result c.map_err.ensures.cases c.in_ok-t.was) in
    let r = ap (λ (x : At). x.row) c.counted-s.ensures in
    omega (arith, r, v.inside, v.stands.rows, is_wide v.known.is, l.long)

pub body-loop-s-preserved : goal.body-loop-s-preserved
body-loop-s-preserved t c = λ ts tl.
    let a = c.args in
    let s : At = c.loop-s.s in
    let v = statement_came ts a.left s.row s.node c.loop-s.nodes c.stmt.new.nodes c.stmt.result c.in_ok-t.t (c.stmt.ensures ts tl)
    (mapped_ok _ c.stmt.result c.map_err.result c.map_err.ensures.cases c.in_ok-t.was) in
    list_again Any ts RBrace body_things (statement ts a.left) _ (a.row + 1) a.node a.nodes.now s c.loop-s.nodes (c.loop-s.invariant ts tl)
    (λ e. c.loop-s-test.true (c.kind_at.ensures ∙ tells_kind ts _ _ tl s.row ∙ e)) Any _ c.in_ok-t.t c.stmt.new.nodes c.counted-s.result
    v (omega (arith, v.stands.rows, is_wide v.known.is)) c.counted-s.ensures tt

pub body-ended-requires : goal.body-ended-requires
body-ended-requires t c =
    let l = tells_some c.args.rows.now c.args.count in
    let w = c.loop-s.invariant _ l in
    omega (arith, w.few, w.counts, w.stands, w.inside, l.long, c.requires)

pub body-returns : goal.body-returns
body-returns t c = λ ts tl.
    let a = c.args in
    let s : At = c.loop-s.s in
    let w = c.loop-s.invariant ts tl in
    let r = c.ended.ensures in
    let b = c.body_node-kind.ensures ∙ ap body_node c.kind_at-2.ensures in
    let e = list_ends Any ts RBrace body_things (statement ts a.left) _ (a.row + 1) a.node a.nodes.now s c.loop-s.nodes w
    (sym (c.kind_at.ensures ∙ tells_kind ts _ _ tl s.row) ∙ c.loop-s-test.false) in
    body_ok _ _ a.row a.node w.tree (s.row + 1) a.nodes.now c.ended.new.nodes c.ended.result
    (body_some ts a.row a.left c.if-left-eq0.false ∙ then_ok _ _ w.tree s.row e)
    (r.0 ∙ ap (λ (x : ℕ). state_at (s.row + 1) (x + 1) a.row) w.stands.nodes)
    (mem_over a.nodes.now (a.row + 1) a.node w.tree s c.loop-s.nodes w.stands c.ended.new.nodes
    (node_words (node (body_node (kind_word a.rows.now a.count (a.row - 1))) a.row missing (count w.tree))) (rw (← w.stands.things, ← b) r.1))
