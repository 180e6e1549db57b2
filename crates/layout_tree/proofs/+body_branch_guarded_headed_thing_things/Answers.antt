-- The circle of braces: a step of the loop, and what each function has written.
use Rattle.std.proofs.Common.{◌≡◌, ◌+◌, ◌-◌, arith, refl, sym, ◌∙◌}
use Rattle.layout_tree.proofs.Braces.{no_body, body_done, lone_done, else_done, unguarded, guarded_done, headed_done, no_thing, branch_done, unit_done, event_done, line_done, listing_none, listing_on, listing_all}
use Rattle.layout_tree.proofs.+body_branch_guarded_headed_thing_things.Goals as goal

pub body-returns-then-n-eq0 : goal.body-returns-then-n-eq0
body-returns-then-n-eq0 t c = record { low = omega arith; done = λ q. absurd (no_body c.if-n-eq0.true q) }

pub body-returns : goal.body-returns
body-returns t c =
    let v = c.things-b.ensures in
    record {
      low = omega (arith, v.low);
      done = λ q. body_done c.if-n-eq0.false c.word-count.ensures c.bytes-shut.ensures v c.bytes.ensures q;
    }

pub branch-returns-then-count-ne3 : goal.branch-returns-then-count-ne3
branch-returns-then-count-ne3 t c =
    let v = c.guarded.ensures in
    record { low = v.low; done = λ k q. lone_done (λ e. c.if-count-ne3.true (c.word-count.ensures ∙ e)) k v q }

pub branch-returns : goal.branch-returns
branch-returns t c =
    let v = c.body-b.ensures in
    let w = c.guarded-2.ensures in
    record {
      low = omega (arith, v.low, w.low);
      done = λ k q. else_done (sym c.word-count.ensures ∙ c.if-count-ne3.false) k v c.bytes-to.ensures w q;
    }

pub guarded-returns-then-end-eq0 : goal.guarded-returns-then-end-eq0
guarded-returns-then-end-eq0 t c =
    let v = c.body-b.ensures in
    record { low = v.low; done = λ s q. absurd (unguarded c.if-end-eq0.true v q) }

pub guarded-returns : goal.guarded-returns
guarded-returns t c =
    let v = c.body-b.ensures in
    record {
      low = omega (arith, v.low);
      done = λ s q. guarded_done v c.word-name.ensures c.bytes-shut.ensures c.name-to.ensures c.bytes.ensures s q;
    }

pub headed-returns-then-n-eq0 : goal.headed-returns-then-n-eq0
headed-returns-then-n-eq0 t c = record { low = omega arith; done = λ e q s. absurd (omega (arith, e, c.if-n-eq0.true)) }

pub headed-returns : goal.headed-returns
headed-returns t c =
    let v = c.body-b.ensures in
    record { low = v.low; done = λ e q s. headed_done e c.word-name.ensures v c.name-to.ensures c.bytes.ensures q s }

pub thing-returns-then-n-eq0 : goal.thing-returns-then-n-eq0
thing-returns-then-n-eq0 t c = record { low = omega arith; done = λ q. absurd (no_thing c.if-n-eq0.true q) }

pub thing-returns-in-20 : goal.thing-returns-in-20
thing-returns-in-20 t c =
    let v = c.branch-source.ensures in
    record { low = omega (arith, v.low); done = λ q. branch_done c.if-n-eq0.false (sym c.word-k.ensures ∙ c.in-20.is) v q }

pub thing-returns-in-25 : goal.thing-returns-in-25
thing-returns-in-25 t c =
    let v = c.headed.ensures in
    record { low = v.low; done = λ q. unit_done c.if-n-eq0.false (sym c.word-k.ensures ∙ c.in-25.is) v q }

pub thing-returns-in-27 : goal.thing-returns-in-27
thing-returns-in-27 t c =
    let v = c.headed-in-27.ensures in
    record { low = v.low; done = λ q. event_done c.if-n-eq0.false (sym c.word-k.ensures ∙ c.in-27.is) v q }

pub thing-returns-in_default : goal.thing-returns-in_default
thing-returns-in_default t c =
    let k = c.word-k.ensures in
    let v = c.line.ensures in
    record {
      low = omega (arith, v.low);
      done = λ q. line_done c.if-n-eq0.false (λ e. omega (arith, k, e)) (λ e. omega (arith, k, e)) (λ e. omega (arith, k, e)) v q;
    }

pub things-loop-init : goal.things-loop-init
things-loop-init t c =
    let e : c.args.count - 0 ≡ c.args.count = omega arith in
    record { few = omega arith; long = refl; goes = λ q. rw e (listing_none c.args.room.now c.args.at q) }

pub things-loop-preserved : goal.things-loop-preserved
things-loop-preserved t c =
    let l = c.loop in
    let v = c.thing-b in
    let e : c.args.count - l.counter - 1 ≡ c.args.count - (l.counter + 1) = omega arith in
    record {
      few = omega (arith, l.invariant.few, v.ensures.low);
      long = v.auto.room ∙ l.invariant.long;
      goes = λ q. rw e at (listing_on (omega arith) (l.invariant.goes q) v.ensures);
    }

pub things-returns : goal.things-returns
things-returns t c =
    let l = c.loop in
    record { low = l.invariant.few; done = λ q. listing_all (omega arith) (l.invariant.goes q) }
