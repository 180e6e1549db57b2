-- Each turn passes four bytes, each of them a blank and no newline by a test of the number that the code holds them against.
use Rattle.std.proofs.Common.{rules, refl, sym, ◌∙◌, ◌-◌, length, arith}
use Rattle.std.specs.Slice.Iter.{chunks_exact_rest}
use Rattle.rules.specs.Text.{is_blank}
use Rattle.laws.proofs.Places.{roomy_less}
use Rattle.laws.proofs.Chains.{rest_of, block_is}
use Rattle.scan_blanks.proofs.Blanks.{blanked_start, blanked_four, four_at, four_inside}
use Rattle.scan_blanks.proofs.past_indent.Goals as goal

pub loop-bytes-init : goal.loop-bytes-init
loop-bytes-init c =
    let e = c.into_iter-bytes-iterator.ensures.into_iter_gives in
    let m = c.chunks_exact-bytes-items.ensures in
    rw e record {
      can = search rules;
      finite = tt;
      size = m.size;
      rest = m.rest ∙ rest_of c.args.text.now c.args.from.at;
      passed = blanked_start c.args.text.now c.args.from c.requires;
    }

pub onward-cursor-requires : goal.onward-cursor-requires
onward-cursor-requires c =
    let l = c.loop-bytes in
    let v = l.invariant in
    let s = c.in-Some.ensures.steps in
    let m = four_inside c.args.text.now l.here.at c.in-Some.bytes.now (chunks_exact_rest c.next.new.self) (sym v.rest ∙ s.1.0) (s.1.1 ∙ v.size) in
    roomy_less (length c.args.text.now - l.here.at) _ l.here.cursor (omega arith) v.passed.ahead.roomy

pub overflow_add-here : goal.overflow_add-here
overflow_add-here c =
    let l = c.loop-bytes in
    let v = l.invariant in
    let s = c.in-Some.ensures.steps in
    let m = four_inside c.args.text.now l.here.at c.in-Some.bytes.now (chunks_exact_rest c.next.new.self) (sym v.rest ∙ s.1.0) (s.1.1 ∙ v.size) in
    omega arith

pub loop-bytes-preserved : goal.loop-bytes-preserved
unfolding is_blank
loop-bytes-preserved c =
    let t = c.args.text.now in
    let i = c.loop-bytes.here.at in
    let v = c.loop-bytes.invariant in
    let s = c.in-Some.ensures.steps in
    let x = c.in-Some.bytes.now in
    let n = s.1.1 ∙ v.size in
    let d = sym v.rest ∙ s.1.0 in
    let f = four_at t i x (chunks_exact_rest c.next.new.self) d n (rw c.if-four-ne-FOUR_SPACES.false at c.four.ensures) in
    record {
      can = omega (arith, s.0, v.size);
      finite = tt;
      size = s.0 ∙ v.size;
      rest = (block_is t i 4 x (chunks_exact_rest c.next.new.self) d n).1;
      passed
          = blanked_four v.passed (four_inside t i x (chunks_exact_rest c.next.new.self) d n) f refl refl c.onward-cursor.ensures;
    }
