-- Each byte, a backslash with the byte behind it, and the end.
use Rattle.std.proofs.Common.{◌≡◌, sym, ◌+◌, ◌-◌, ◌∙◌, false, get_or, arith}
use borrow.Author.Tests.{ne_eqb}
use Rattle.scan_runs.proofs.Quotes.{quoted_end, quoted_close, quoted_line, quoted_on, quoted_slash, quoted_cut, quoted_escape, quoted_bad}
use Rattle.scan_runs.proofs.read_quoted.Goals as goal

pub returns-in-34 : goal.returns-in-34
returns-in-34 c = sym (quoted_close c.args.text.now c.loop-i.i c.loop-i-test.true c.in-34.is) ∙ c.loop-i.invariant.same

pub returns-in-10 : goal.returns-in-10
returns-in-10 c = sym (quoted_line c.args.text.now c.loop-i.i c.loop-i-test.true c.in-10.is) ∙ c.loop-i.invariant.same

pub returns-then-text-next : goal.returns-then-text-next
returns-then-text-next c =
    sym (quoted_cut c.args.text.now c.loop-i.i c.loop-i-test.true c.in-92.is c.if-text-next.true) ∙ c.loop-i.invariant.same

pub returns-then-not-escapes : goal.returns-then-not-escapes
returns-then-not-escapes c =
    let t = c.args.text.now in
    let i = c.loop-i.i in
    let back : i + 1 - 1 ≡ i = omega arith in
    sym (quoted_slash t i c.loop-i-test.true c.in-92.is
    ∙ rw back at (quoted_bad t (i + 1) c.if-text-next.false (sym c.escapes.ensures ∙ c.if-not-escapes.true)))
    ∙ c.loop-i.invariant.same

pub loop-i-preserved-in-92 : goal.loop-i-preserved-in-92
loop-i-preserved-in-92 c =
    let t = c.args.text.now in
    let i = c.loop-i.i in
    record {
      inside = omega arith;
      same
          = sym (quoted_slash t i c.loop-i-test.true c.in-92.is
          ∙ quoted_escape t (i + 1) c.if-text-next.false (sym c.escapes.ensures ∙ c.if-not-escapes.false))
          ∙ c.loop-i.invariant.same;
    }

pub loop-i-preserved : goal.loop-i-preserved
loop-i-preserved c =
    let t = c.args.text.now in
    let i = c.loop-i.i in
    record {
      inside = omega arith;
      same
          = sym (rw (ne_eqb (get_or t i 0) 92 (λ e. omega arith)) at (quoted_on t i c.loop-i-test.true (λ e. omega arith) (λ e. omega arith)))
          ∙ c.loop-i.invariant.same;
    }

pub returns : goal.returns
returns c = sym (quoted_end false c.args.text.now c.loop-i.i c.loop-i-test.false) ∙ c.loop-i.invariant.same
