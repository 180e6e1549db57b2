-- The closing bytes, any others, and the end.
use Rattle.std.proofs.Common.{◌≡◌, sym, ◌∙◌, false, ◌&&◌, ◌+◌, eqb, get_or, arith}
use borrow.Author.Tests.{ne_eqb}
use Rattle.scan_runs.proofs.Bodies.{body_stop, body_on, body_end}
use Rattle.scan_runs.proofs.body_end.Goals as goal
use Rattle.scan_runs.proofs.body_end.Goals.{else-text-i-eq42-via-then-text-i-eq42+else-peek-eq47, else-text-i-eq42-via-else-text-i-eq42}

pub returns-then-peek-eq47 : goal.returns-then-peek-eq47
returns-then-peek-eq47 c =
    omega (arith, body_stop c.args.text.now c.loop-i.i c.loop-i-test.true c.if-text-i-eq42.true (sym c.peek.ensures ∙ c.if-peek-eq47.true), c.loop-i.invariant.same)

pub loop-i-preserved : goal.loop-i-preserved
loop-i-preserved c =
    let t = c.args.text.now in
    let i = c.loop-i.i in
    let e : (eqb (get_or t i 0) 42 && eqb (get_or t (i + 1) 0) 47) ≡ false =
    elim c.else-text-i-eq42.branch [
      | else-text-i-eq42-via-then-text-i-eq42+else-peek-eq47 w ↦
          rw w.if-text-i-eq42.true (ne_eqb _ 47 (λ q. w.if-peek-eq47.false (w.peek.ensures ∙ q)))
      | else-text-i-eq42-via-else-text-i-eq42 w ↦ rw (ne_eqb _ _ w.if-text-i-eq42.false)
    ] in
    record { inside = omega arith; same = omega (arith, body_on t i c.loop-i-test.true e, c.loop-i.invariant.same) }

pub returns : goal.returns
returns c = omega (arith, body_end c.args.text.now c.loop-i.i c.loop-i-test.false, c.loop-i.invariant.same)
