-- The blocks, a newline, any other byte, and the end.
use Rattle.std.proofs.Common.{arith}
use borrow.Author.Tests.{eq-eqb, ne_eqb}
use Rattle.rules.specs.Text.{not_newline}
use Rattle.laws.proofs.Fronts.{front_on, front_off, front_end}
use Rattle.scan_runs.proofs.Lines.{line_same, line_inside}
use Rattle.scan_runs.proofs.line_end.Goals as goal

pub loop-i-init : goal.loop-i-init
loop-i-init c =
    let t = c.args.text.now in
    let p = c.past_blocks-from.ensures in
    record {
      inside = line_inside t c.args.at c.past_blocks-from.result p.0 p.1 c.requires;
      line = line_same t c.args.at c.past_blocks-from.result p.0 p.1;
    }

pub returns-then-text-i-eq10 : goal.returns-then-text-i-eq10
returns-then-text-i-eq10 c =
    omega (
      arith,
      front_off not_newline c.args.text.now c.loop-i.i c.loop-i-test.true (rw (eq-eqb _ _ c.if-text-i-eq10.true)),
      c.loop-i.invariant.line,
    )

pub loop-i-preserved : goal.loop-i-preserved
loop-i-preserved c =
    let on = front_on not_newline c.args.text.now c.loop-i.i c.loop-i-test.true (rw (ne_eqb _ _ c.if-text-i-eq10.false)) in
    record { inside = omega arith; line = omega (arith, on, c.loop-i.invariant.line) }

pub returns : goal.returns
returns c =
    omega (
      arith,
      front_end not_newline c.args.text.now c.loop-i.i c.loop-i-test.false,
      c.loop-i.invariant.inside,
      c.loop-i.invariant.line,
    )
