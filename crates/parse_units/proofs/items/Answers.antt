-- Thing by thing.
use mathlib.Core.Path.{sym, ap, ◌∙◌}
use Prim.Native.Nat.{ℕ}
use native.Mathlib.Omega.{arith}
use Rattle.rules.specs.Parse
use Rattle.parse_nodes.specs.Fitting.{retold_at}
use Rattle.parse_nodes.proofs.Seen.{seen}
use Rattle.parse_nodes.proofs.Told.{names_told}
use Rattle.parse_units.proofs.Answers.{added, add_refused, item_up, item_inside}
use Rattle.parse_units.proofs.Answers.{items_start, items_again, items_end, items_fail}
use Rattle.parse_units.proofs.items.Goals as goal

pub loop-here-init : goal.loop-here-init
loop-here-init c ts h =
    items_start ts c.args.start c.args.nodes.now c.requires.first (omega (arith, h.tells.long, c.requires.at.inside))

pub item-requires : goal.item-requires
item-requires c =
    let a = c.args in
    let p = c.requires in
    let h = names_told a.text.now a.rows.now a.count in
    let w = c.loop-here.invariant _ h in
    let l = h.tells.long in
    record {
      at = record {
        lent = p.at.lent;
        inside = omega (arith, w.inside, l);
        few = omega (arith, w.stands, w.few, p.at.few);
        short = p.at.short;
        nest = p.at.nest;
      };
      things = omega (arith, w.counts, w.stands);
      spans = p.spans;
    }

pub returns-in-Err : goal.returns-in-Err
returns-in-Err c ts h =
    let a = c.args in
    let l = c.loop-here in
    let e = c.in-Err.e in
    let q = seen ts a.rows.now a.count h.tells l.u.at.row _ c.kind_at.ensures in
    let told = ap (λ (x : ℕ). retold_at x l.u.at.row e.why e.row) c.things.ensures in
    rw c.instead.ensures
    (items_fail ts a.start.row a.start.node a.nodes.now l.u l.nodes (l.invariant ts h) (λ z. c.loop-here-test.true (q ∙ z)) e.why e.row
    c.item.new.nodes (add_refused l.u _ _ _ _ e (c.item.ensures ts h) c.in-Err.is) _ told)

pub loop-here-smaller : goal.loop-here-smaller
loop-here-smaller c =
    let a = c.args in
    let l = c.loop-here in
    let h = names_told a.text.now a.rows.now a.count in
    let g = added l.u (Parse.item _ l.u.at.row) l.nodes c.item.new.nodes c.item.result c.in-Ok.v (c.item.ensures _ h) c.in-Ok.is in
    omega (arith, item_up _ _ _ _ _ g, item_inside _ _ _ _ _ g, h.tells.long)

pub loop-here-preserved : goal.loop-here-preserved
loop-here-preserved c ts h =
    let a = c.args in
    let l = c.loop-here in
    let q = seen ts a.rows.now a.count h.tells l.u.at.row _ c.kind_at.ensures in
    let g = added l.u (Parse.item ts l.u.at.row) l.nodes c.item.new.nodes c.item.result c.in-Ok.v (c.item.ensures ts h) c.in-Ok.is in
    items_again ts l.u l.nodes c.item.new.nodes c.in-Ok.v g a.start.row a.start.node a.nodes.now (l.invariant ts h)
    (λ z. c.loop-here-test.true (q ∙ z))

pub returns : goal.returns
returns c ts h =
    let a = c.args in
    let l = c.loop-here in
    let q = seen ts a.rows.now a.count h.tells l.u.at.row _ c.kind_at.ensures in
    items_end ts a.start.row a.start.node a.nodes.now l.u l.nodes (l.invariant ts h) (sym q ∙ c.loop-here-test.false)
