-- What the loop over the fields has read, one field more, and the event around them.
use mathlib.Core.Path.{◌≡◌, refl, sym, ap, ◌∙◌}
use mathlib.Core.Bool.{false}
use Prim.Native.Nat.{◌+◌}
use native.Mathlib.Omega.{arith}
use borrow.Author.Rules.{rules}
use Rattle.std.proofs.lemmas.Result.{err_from_is_err_and}
use Rattle.rules.specs.Parse
use Rattle.rules.specs.Kinds.{RBrace}
use Rattle.rules.specs.Tree.{event}
use Rattle.rules.specs.Fits.{event_fields}
use Rattle.rules.specs.Parse.{kind_at, list_to}
use Rattle.theory_grammar.proofs.Cases.{then_ok, then_no}
use Rattle.parse_nodes.specs.Post.{refusal}
use Rattle.parse_nodes.specs.Fitting.{retold_at}
use Rattle.parse_nodes.specs.declared.At.{At}
use Rattle.parse_nodes.proofs.Errs.{met_err, mapped_ok, mapped_err}
use Rattle.parse_nodes.proofs.Rows.{tells_some}
use Rattle.parse_nodes.proofs.Seen.{seen}
use Rattle.parse_nodes.proofs.Turn.{refused, met_ok}
use Rattle.parse_nodes.proofs.Steps.{Flat, flat_none, flat_seq, list_start, list_ends, list_fails_flat, list_again}
use Rattle.parse_events.proofs.Nodes.{field_came, field_up, stands_event}
use Rattle.parse_events.proofs.fields.Goals as goal

pub loop-at-init : goal.loop-at-init
loop-at-init c ts h =
    let a = c.args in
    list_start Flat ts RBrace event_fields (Parse.event_field ts) _ (a.row + 1 + 1 + 1) a.start.node a.nodes.now _ refl
    (omega (arith, h.long, c.requires.inside)) c.requires.first flat_none

pub field-requires : goal.field-requires
field-requires c =
    let l = tells_some c.args.rows.now c.args.count in
    let w = c.loop-at.invariant _ l in
    let p = c.requires.at in
    record {
      lent = p.lent;
      inside = omega (arith, w.inside, l.long);
      few = omega (arith, w.stands, w.few);
      short = p.short;
      nest = p.nest;
    }

pub returns-in_err-t : goal.returns-in_err-t
returns-in_err-t c ts h w =
    let l = c.loop-at in
    let a = c.args in
    let p = err_from_is_err_and c.from_residual.result c.from_residual.ensures.1 in
    let f = mapped_err _ c.field.result c.map_err.result
    (λ e. refusal (retold_at event_fields l.s.row e.why e.row) e.row) c.map_err.ensures.cases c.in_err-t.was (λ e y h. search rules) in
    let e = refused _ _ _ _ _ _ _ (c.field.ensures ts h) f.1 in
    let v = l.invariant ts h in
    let n : l.s.hanging ≡ false = v.stands.hanging ∙ v.known.known in
    let q = list_fails_flat Flat ts RBrace event_fields (Parse.event_field ts) _ (a.row + 1 + 1 + 1) a.start.node a.nodes.now l.s l.nodes v
    (λ z. c.loop-at-test.true (seen ts a.rows.now a.count h l.s.row _ c.kind_at.ensures ∙ z)) n f.0.why f.0.row c.field.new.nodes e in
    rw (p.1, p.2) (met_err _ _ _ _ _ _ _ _ _ (then_no _ _ _ _ (refused _ _ _ _ _ _ _ q refl)) refl f.2)

pub overflow_add-s : goal.overflow_add-s
overflow_add-s c =
    let l = tells_some c.args.rows.now c.args.count in
    let w = c.loop-at.invariant _ l in
    omega (arith, w.inside, w.stands, w.counts, c.requires.at, l.long)

pub loop-at-smaller : goal.loop-at-smaller
loop-at-smaller c =
    let s = c.loop-at.s in
    let l = tells_some c.args.rows.now c.args.count in
    let f = mapped_ok _ c.field.result c.map_err.result c.map_err.ensures.cases c.in_ok-t.was in
    let g = field_came _ s.row s.node c.loop-at.nodes c.in_ok-t.t c.field.new.nodes c.field.result (c.field.ensures _ l) f in
    let r = ap (λ (x : At). x.row) c.counted-s.ensures in
    omega (arith, r, g.inside, field_up _ _ _ _ _ _ g, l.long)

pub loop-at-preserved : goal.loop-at-preserved
loop-at-preserved c ts h =
    let l = c.loop-at in
    let a = c.args in
    let f = mapped_ok _ c.field.result c.map_err.result c.map_err.ensures.cases c.in_ok-t.was in
    let g = field_came ts l.s.row l.s.node l.nodes c.in_ok-t.t c.field.new.nodes c.field.result (c.field.ensures ts h) f in
    list_again Flat ts RBrace event_fields (Parse.event_field ts) _ (a.row + 1 + 1 + 1) a.start.node a.nodes.now l.s l.nodes (l.invariant ts h)
    (λ z. c.loop-at-test.true (seen ts a.rows.now a.count h l.s.row _ c.kind_at.ensures ∙ z)) Flat _ c.in_ok-t.t c.field.new.nodes
    c.counted-s.result g (field_up _ _ _ _ _ _ g) c.counted-s.ensures (flat_seq _ g.tree g.known.1)

pub close-requires : goal.close-requires
close-requires c =
    let l = tells_some c.args.rows.now c.args.count in
    let w = c.loop-at.invariant _ l in
    omega (arith, w.stands, w.few, w.counts, w.inside, l.long, c.requires.at, c.requires.inside)

pub overflow_add-s-2 : goal.overflow_add-s-2
overflow_add-s-2 c =
    let l = tells_some c.args.rows.now c.args.count in
    let w = c.loop-at.invariant _ l in
    omega (arith, w.inside, c.requires.at, l.long)

pub overflow_add-s-3 : goal.overflow_add-s-3
overflow_add-s-3 c =
    let l = tells_some c.args.rows.now c.args.count in
    let w = c.loop-at.invariant _ l in
    omega (arith, w.inside, w.stands, w.few, c.requires.at, l.long)

pub returns : goal.returns
returns c ts h w =
    let s = c.loop-at.s in
    let a = c.args in
    let v = c.loop-at.invariant ts h in
    let k = seen ts a.rows.now a.count h s.row _ c.kind_at.ensures in
    let e = list_ends Flat ts RBrace event_fields (Parse.event_field ts) _ (a.row + 1 + 1 + 1) a.start.node a.nodes.now s c.loop-at.nodes v
    (sym k ∙ c.loop-at-test.false) in
    rw c.new.ensures
    (met_ok _ _ _ (event w v.tree) _ _ _ (then_ok _ _ v.tree s.row e)
    (stands_event a.row a.start.node a.nodes.now c.loop-at.nodes c.close.new.nodes s _ v.tree w v.stands refl c.close.ensures))
