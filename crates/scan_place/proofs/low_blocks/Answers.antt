-- A block whose bytes are below 128 is passed.
use Rattle.std.proofs.Common.{sym, ◌∙◌, arith}
use Rattle.std.specs.Slice.Iter.{chunks_exact_rest}
use Rattle.laws.proofs.Chains.{block_is}
use Rattle.scan_place.proofs.Passed.{passed_on, passed_block}
use Rattle.scan_place.proofs.low_blocks.Goals as goal

pub loop-block-preserved : goal.loop-block-preserved
loop-block-preserved c =
    let t = c.args.text.now in
    let l = c.loop-block in
    let v = l.invariant in
    let s = c.in-Some.ensures.steps in
    let x = c.in-Some.block.now in
    let n = s.1.1 ∙ v.size in
    let b = block_is t l.i 32 x (chunks_exact_rest c.next.new.self) (sym v.rest ∙ s.1.0) n in
    record {
      can = omega (arith, s.0, v.size);
      finite = tt;
      size = s.0 ∙ v.size;
      rest = b.1;
      passed
          = passed_on t v.passed
          (passed_block t l.i 32 x b.0 n v.passed.inside (λ k h. omega (arith, c.highest.ensures k h, c.if-highest-ge-FIRST_HIGH.false)));
    }
