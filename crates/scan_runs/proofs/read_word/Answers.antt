-- A byte of the word, its eighth byte, a byte that is none, and the end.
use Rattle.std.proofs.Common.{◌≡◌, length, arith}
use Rattle.scan_runs.proofs.Words.{packing_on, packing_full, packing_stop, packing_end}
use Rattle.scan_runs.proofs.read_word.Goals as goal

pub returns-then-class-gt-DIGIT : goal.returns-then-class-gt-DIGIT
returns-then-class-gt-DIGIT c =
    let l = c.loop-i in
    packing_stop c.requires.0 _ _ l.packed l.i l.invariant c.loop-i-test.true (c.type_inv.text l.i).fits c.if-class-gt-DIGIT.true

pub returns-then-next-at-eq-EIGHT : goal.returns-then-next-at-eq-EIGHT
returns-then-next-at-eq-EIGHT c =
    let l = c.loop-i in
    packing_full c.requires.0 _ _ l.packed l.i l.invariant c.loop-i-test.true (c.type_inv.text l.i).fits c.if-class-gt-DIGIT.false
    (omega (arith, c.if-next-at-eq-EIGHT.true)) c.word_end.ensures

pub loop-i-preserved : goal.loop-i-preserved
loop-i-preserved c =
    let l = c.loop-i in
    packing_on c.requires.0 _ _ l.packed l.i l.invariant c.loop-i-test.true (c.type_inv.text l.i).fits c.if-class-gt-DIGIT.false
    (λ e. c.if-next-at-eq-EIGHT.false (omega arith))

pub returns : goal.returns
returns c =
    let l = c.loop-i in
    let e : l.i ≡ length c.args.text.now = omega (arith, l.invariant.inside, c.loop-i-test.false) in
    rw (← e) (packing_end c.requires.0 _ _ l.packed l.i l.invariant c.loop-i-test.false)
