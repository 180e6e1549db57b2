-- Declaration by declaration, and the program around them.
use mathlib.Core.Path.{◌≡◌, refl, sym, ap, ◌∙◌}
use mathlib.Core.Bool.{false}
use native.Mathlib.Omega.{arith}
use borrow.Author.Rules.{rules}
use Rattle.std.proofs.lemmas.Result.{err_from_is_err_and}
use Rattle.rules.specs.Parse
use Rattle.rules.specs.Kinds.{Eof}
use Rattle.rules.specs.Fits.{tops}
use Rattle.rules.specs.Tree.{program}
use Rattle.rules.specs.Parse.{ok}
use Rattle.theory_grammar.proofs.Cases.{then_ok, then_no, parse_is}
use Rattle.parse_nodes.specs.Post.{refusal}
use Rattle.parse_nodes.specs.Fitting.{retold_at}
use Rattle.parse_nodes.specs.declared.At.{At}
use Rattle.parse_nodes.proofs.Errs.{met_err, mapped_ok, mapped_err}
use Rattle.parse_nodes.proofs.Seen.{seen}
use Rattle.parse_nodes.proofs.Told.{names_told}
use Rattle.parse_nodes.proofs.Turn.{refused, met_ok}
use Rattle.parse_nodes.proofs.Steps.{Flat, flat_none, flat_seq, list_start, list_ends, list_fails_flat, list_again}
use Rattle.parse.proofs.Whole.{word_in, top_came, top_up, stands_program}
use Rattle.parse.proofs.program.Goals as goal

pub loop-at-init : goal.loop-at-init
loop-at-init c ts h =
    list_start Flat ts Eof tops (Parse.top ts) (Parse.list_to ts Eof tops (Parse.top ts) 0) 0 0 c.args.nodes.now _ refl
    (omega arith) c.new-s.ensures flat_none

pub top-requires : goal.top-requires
top-requires c =
    let a = c.args in
    let p = c.requires in
    let w = c.loop-at.invariant _ (names_told a.text.now a.rows.now a.count) in
    let i = word_in a.rows.now a.count c.loop-at.s.row (λ e. c.loop-at-test.true (c.kind_at.ensures ∙ e)) in
    (record { lent = p.lent; inside = i; few = omega (arith, w.stands, w.few); short = p.short; nest = omega arith }, p.spans)

pub returns-in_err-t : goal.returns-in_err-t
returns-in_err-t c ts h =
    let a = c.args in
    let l = c.loop-at in
    let p = err_from_is_err_and c.from_residual.result c.from_residual.ensures.1 in
    let f = mapped_err _ c.top.result c.map_err.result
    (λ e. refusal (retold_at tops l.s.row e.why e.row) e.row) c.map_err.ensures.cases c.in_err-t.was (λ e y z. search rules) in
    let e = refused _ _ _ _ _ _ _ (c.top.ensures ts h) f.1 in
    let v = l.invariant ts h in
    let n : l.s.hanging ≡ false = v.stands.hanging ∙ v.known.known in
    let q = list_fails_flat Flat ts Eof tops (Parse.top ts) _ 0 0 a.nodes.now l.s l.nodes v
    (λ z. c.loop-at-test.true (seen ts a.rows.now a.count h.tells l.s.row _ c.kind_at.ensures ∙ z)) n f.0.why f.0.row c.top.new.nodes e in
    rw (p.1, p.2) (met_err _ _ _ _ _ _ _ _ _ (parse_is ts ∙ then_no _ _ _ _ (refused _ _ _ _ _ _ _ q refl)) refl f.2)

pub overflow_add-s : goal.overflow_add-s
overflow_add-s c =
    let a = c.args in
    let h = names_told a.text.now a.rows.now a.count in
    let w = c.loop-at.invariant _ h in
    omega (arith, w.inside, w.stands, w.counts, c.requires.short, h.tells.long)

pub loop-at-smaller : goal.loop-at-smaller
loop-at-smaller c =
    let a = c.args in
    let l = c.loop-at in
    let h = names_told a.text.now a.rows.now a.count in
    let f = mapped_ok _ c.top.result c.map_err.result c.map_err.ensures.cases c.in_ok-t.was in
    let g = top_came _ l.s.row l.s.node l.nodes c.in_ok-t.t c.top.new.nodes c.top.result (c.top.ensures _ h) f in
    let r = ap (λ (x : At). x.row) c.counted-s.ensures in
    omega (arith, r, g.inside, top_up _ _ _ _ _ _ g, h.tells.long)

pub loop-at-preserved : goal.loop-at-preserved
loop-at-preserved c ts h =
    let a = c.args in
    let l = c.loop-at in
    let f = mapped_ok _ c.top.result c.map_err.result c.map_err.ensures.cases c.in_ok-t.was in
    let g = top_came ts l.s.row l.s.node l.nodes c.in_ok-t.t c.top.new.nodes c.top.result (c.top.ensures ts h) f in
    list_again Flat ts Eof tops (Parse.top ts) _ 0 0 a.nodes.now l.s l.nodes (l.invariant ts h)
    (λ z. c.loop-at-test.true (seen ts a.rows.now a.count h.tells l.s.row _ c.kind_at.ensures ∙ z)) Flat _
    c.in_ok-t.t c.top.new.nodes c.counted-s.result g (top_up _ _ _ _ _ _ g) c.counted-s.ensures (flat_seq _ g.tree g.known.1)

pub ended-requires : goal.ended-requires
ended-requires c =
    let a = c.args in
    let h = names_told a.text.now a.rows.now a.count in
    let w = c.loop-at.invariant _ h in
    omega (arith, w.stands, w.few, w.counts, w.inside, h.tells.long, c.requires.short)

pub returns : goal.returns
returns c ts h =
    let a = c.args in
    let l = c.loop-at in
    let v = l.invariant ts h in
    let k = seen ts a.rows.now a.count h.tells l.s.row _ c.kind_at.ensures in
    let f = list_ends Flat ts Eof tops (Parse.top ts) _ 0 0 a.nodes.now l.s l.nodes v (sym k ∙ c.loop-at-test.false) in
    let r = ap (λ (x : At). x.row) c.ended.ensures.0 in
    met_ok _ _ _ (program v.tree) _ _ c.ended.result
    (parse_is ts ∙ then_ok _ _ v.tree l.s.row f ∙ ap (ok (program v.tree)) (sym r))
    (stands_program a.nodes.now l.nodes c.ended.new.nodes l.s c.ended.result v.tree v.stands c.ended.ensures.0 c.ended.ensures.1)
