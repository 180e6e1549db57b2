-- Eight bytes of the word, or the first mark among them.
use Rattle.std.proofs.Common.{sym, ◌∙◌, arith}
use Rattle.std.specs.Slice.Iter.{chunks_exact_rest}
use Rattle.laws.proofs.Bounds.{below_from}
use Rattle.scan_eights.proofs.Ends.{eight_told, eight_on, eight_stop}
use Rattle.scan_eights.proofs.word_end.Goals as goal

pub returns-then-m-ne0 : goal.returns-then-m-ne0
returns-then-m-ne0 c =
    let t = c.args.text.now in
    let i = c.loop-bytes.i in
    let v = c.loop-bytes.invariant in
    let s = c.in-Some.ensures.steps in
    let b
    = eight_told t i c.in-Some.bytes.now (chunks_exact_rest c.next.new.self) (sym v.rest ∙ s.1.0) (s.1.1 ∙ v.size)
    (below_from 256 t (λ k. (c.type_inv.text k).fits))
    c.eight.ensures
    c.marks-m.ensures in
    omega (arith, eight_stop t i b.inside c.marks-m.result b.marked c.if-m-ne0.true, v.ends)

pub loop-bytes-preserved : goal.loop-bytes-preserved
loop-bytes-preserved c =
    let t = c.args.text.now in
    let i = c.loop-bytes.i in
    let v = c.loop-bytes.invariant in
    let s = c.in-Some.ensures.steps in
    let b
    = eight_told t i c.in-Some.bytes.now (chunks_exact_rest c.next.new.self) (sym v.rest ∙ s.1.0) (s.1.1 ∙ v.size)
    (below_from 256 t (λ k. (c.type_inv.text k).fits))
    c.eight.ensures
    c.marks-m.ensures in
    record {
      can = omega (arith, s.0, v.size);
      finite = tt;
      size = s.0 ∙ v.size;
      rest = b.behind;
      inside = b.inside;
      ends = omega (arith, eight_on t i b.inside c.marks-m.result b.marked c.if-m-ne0.false, v.ends);
    }
