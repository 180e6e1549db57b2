-- A byte of the word, and one that is none.
use Rattle.std.proofs.Common.{get_or, arith}
use Rattle.rules.specs.Lex.{is_word}
use Rattle.laws.proofs.Fronts.{front_on, front_off, front_end}
use Rattle.scan_words.proofs.Marks.{mark_word, mark_other}
use Rattle.scan_eights.proofs.end_by_one.Goals as goal

pub returns-then-class-gt-DIGIT : goal.returns-then-class-gt-DIGIT
returns-then-class-gt-DIGIT c =
    let t = c.args.text.now in
    let i = c.loop-i.i in
    let n = mark_other c.requires.0 (get_or t i 0) (c.type_inv.text i).fits c.if-class-gt-DIGIT.true in
    omega (arith, front_off is_word t i c.loop-i-test.true n, c.loop-i.invariant)

pub loop-i-preserved : goal.loop-i-preserved
loop-i-preserved c =
    let t = c.args.text.now in
    let i = c.loop-i.i in
    let y = mark_word c.requires.0 (get_or t i 0) (c.type_inv.text i).fits c.if-class-gt-DIGIT.false in
    omega (arith, front_on is_word t i c.loop-i-test.true y, c.loop-i.invariant)

pub returns : goal.returns
returns c = omega (arith, front_end is_word c.args.text.now c.loop-i.i c.loop-i-test.false, c.loop-i.invariant)
