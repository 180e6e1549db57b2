-- A name, `=`, an expression and `;`.
use Rattle.std.proofs.Common.{◌+◌, ℕ, List, sym, ap, refl, ◌∙◌, arith}
use Rattle.std.proofs.lemmas.Result.{err_from_is_err_and}
use Rattle.rules.specs.Parse
use Rattle.parse_nodes.specs.declared.At.{At}
use Rattle.parse_nodes.proofs.Rows.{tells_some, tells_kind, word_here}
use Rattle.parse_nodes.proofs.Turn.{met_ok, met_no}
use Rattle.rules.specs.Kinds.{Equals, Semicolon}
use Rattle.rules.specs.Nodes.{decl_node}
use Rattle.rules.specs.Parse.{P, ok, tok_at, kind_at}
use Rattle.rules.specs.Tree.{Tok, Tree, decl, spelling_of}
use Rattle.theory_grammar.proofs.Cases.{declaring_is}
use Rattle.parse_nodes.proofs.Seen.{want_met, want_unmet, named_met, named_unmet}
use Rattle.parse_stmt.proofs.Trees.{expr_came, expr_refused, expr_ends, expr_open, stands_decl}
use Rattle.parse_stmt.proofs.declare.Goals as goal

-- the declaration of an expression, whose first row is at i
abbrev declared : List Tok → ℕ → Tree → Tree
declared ts i e = decl (kind_at ts i) (spelling_of (tok_at ts (i + 1))) e

-- what is read behind the sign
abbrev value : List Tok → ℕ → ℕ → P
value ts d i j = Parse.then (Parse.expr ts d j) (λ e k. Parse.end ts Semicolon e (ok (declared ts i e)) k)

pub returns-in_err-want : goal.returns-in_err-want
returns-in_err-want c = λ ts tl.
    let a = c.args in
    let w = c.in_err-want.ensures.err in
    let p = err_from_is_err_and c.from_residual.result c.from_residual.ensures.1 in
    rw (p.1, p.2, w.1) (met_no _ _ _ _ _ _ _
    (declaring_is ts a.left (Parse.body ts a.left) a.row ∙ named_unmet ts a.rows.now a.count tl (a.row + 1) _ refl _ w.0))

pub returns-in_err-want-2 : goal.returns-in_err-want-2
returns-in_err-want-2 c = λ ts tl.
    let a = c.args in
    let w = c.in_err-want-2.ensures.err in
    let p = err_from_is_err_and c.from_residual-in_err-want-2.result c.from_residual-in_err-want-2.ensures.1 in
    rw (p.1, p.2, w.1) (met_no _ _ _ _ _ _ _
    (declaring_is ts a.left (Parse.body ts a.left) a.row ∙ named_met ts a.rows.now a.count tl (a.row + 1) _ refl _ c.in_ok-want.ensures.ok
    ∙ want_unmet ts a.rows.now a.count tl (a.row + 1 + 1) _ refl Equals _ w.0))

pub add-requires : goal.add-requires
add-requires c = let h = word_here _ _ _ Equals c.in_ok-want-2.ensures.ok refl in omega (arith, h, c.requires)

pub returns-in_err-t : goal.returns-in_err-t
returns-in_err-t c = λ ts tl.
    let a = c.args in
    let p = err_from_is_err_and c.from_residual-in_err-t.result c.from_residual-in_err-t.ensures.1 in
    rw (p.1, p.2) (met_no _ _ _ c.in_err-t.field-0.0.why c.in_err-t.field-0.0.row _ _
    (declaring_is ts a.left (Parse.body ts a.left) a.row ∙ named_met ts a.rows.now a.count tl (a.row + 1) _ refl _ c.in_ok-want.ensures.ok
    ∙ want_met ts a.rows.now a.count tl (a.row + 1 + 1) _ refl Equals (value ts a.left a.row) c.in_ok-want-2.ensures.ok
    ∙ expr_refused ts _ _ _ _ _ _ _ (c.add.ensures ts tl) c.in_err-t.was _))

pub returns-in_err-want_end : goal.returns-in_err-want_end
returns-in_err-want_end c = λ ts tl.
    let a = c.args in
    let v = expr_came (c.add.ensures ts tl) c.in_ok-t.was in
    let w = c.in_err-want_end.ensures.err in
    let p = err_from_is_err_and c.from_residual-in_err-want_end.result c.from_residual-in_err-want_end.ensures.1 in
    rw (p.1, p.2, w.1) (met_no _ _ _ _ _ _ _
    (declaring_is ts a.left (Parse.body ts a.left) a.row ∙ named_met ts a.rows.now a.count tl (a.row + 1) _ refl _ c.in_ok-want.ensures.ok
    ∙ want_met ts a.rows.now a.count tl (a.row + 1 + 1) _ refl Equals (value ts a.left a.row) c.in_ok-want-2.ensures.ok
    ∙ expr_open tl _ v (declared ts a.row) w.0))

pub named_end-requires : goal.named_end-requires
named_end-requires c =
    let l = tells_some c.args.rows.now c.args.count in
    let w = expr_came (c.add.ensures _ l) c.in_ok-t.was in
    omega (arith, w.stands, w.few, w.inside, l.long, c.requires)

pub returns : goal.returns
returns c = λ ts tl.
    let a = c.args in
    let v = expr_came (c.add.ensures ts tl) c.in_ok-t.was in
    let r = c.named_end.ensures in
    let k = c.decl_node-kind.ensures ∙ ap decl_node (c.kind_at.ensures ∙ tells_kind ts _ _ tl a.row) in
    met_ok _ _ _ (declared ts a.row v.tree) _ _ _
    (declaring_is ts a.left (Parse.body ts a.left) a.row ∙ named_met ts a.rows.now a.count tl (a.row + 1) _ refl _ c.in_ok-want.ensures.ok
    ∙ want_met ts a.rows.now a.count tl (a.row + 1 + 1) _ refl Equals (value ts a.left a.row) c.in_ok-want-2.ensures.ok
    ∙ expr_ends tl _ v (declared ts a.row) c.in_ok-want_end.ensures.ok
    ∙ ap (λ (y : ℕ). ok (declared ts a.row v.tree) y) (sym (ap (λ (y : At). y.row) r.0)))
    (stands_decl a.row a.node a.nodes.now c.add.new.nodes c.in_ok-t.t v.tree c.named_end.result
    c.named_end.new.nodes (kind_at ts a.row) (spelling_of (tok_at ts (a.row + 1))) v.stands r.0 (rw (← k) r.1))
