-- One byte more, and none left.
use Rattle.std.proofs.Common.{◌≡◌, sym, length, arith}
use borrow.Author.Tests.{le-ltb}
use Rattle.rules.specs.Text.{front, not_newline}
use Rattle.scan_runs.proofs.Lines.{line_on}
use Rattle.scan_runs.proofs.ends_line.Goals as goal

pub loop-b-init : goal.loop-b-init
loop-b-init c = sym (le-ltb (front not_newline c.args.bytes.now) 0 (omega arith))

pub loop-b-preserved : goal.loop-b-preserved
loop-b-preserved c = line_on c.args.bytes.now c.loop-b.b-index c.loop-b-test.true c.loop-b.found c.loop-b.invariant

pub returns : goal.returns
returns c =
    let e : c.loop-b.b-index ≡ length c.args.bytes.now = omega arith in
    rw e at c.loop-b.invariant
