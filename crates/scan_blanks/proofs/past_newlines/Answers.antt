-- Each turn passes one newline, which is a blank.
use Rattle.std.proofs.Common.{◌≡◌, refl, ◌-◌, length, arith}
use Rattle.rules.specs.Text.{is_blank}
use Rattle.laws.proofs.Places.{roomy_less}
use Rattle.scan_blanks.proofs.Blanks.{blanked_start, blanked_on}
use Rattle.scan_blanks.proofs.past_newlines.Goals as goal

pub loop-i-init : goal.loop-i-init
loop-i-init c = blanked_start c.args.text.now c.args.from c.requires

pub advance-cursor-requires : goal.advance-cursor-requires
advance-cursor-requires c =
    let l = c.loop-i in
    roomy_less (length c.args.text.now - l.i) 1 l.cursor (omega arith) l.invariant.ahead.roomy

pub loop-i-preserved : goal.loop-i-preserved
unfolding is_blank
loop-i-preserved c =
    let e = c.if-text-i-ne10.false in
    blanked_on c.loop-i.invariant c.loop-i-test.true (rw e refl) (rw e c.advance-cursor.ensures)

pub returns : goal.returns
returns c =
    let e : c.loop-i.i ≡ length c.args.text.now = omega (arith, c.loop-i.invariant.ahead.inside, c.loop-i-test.false) in
    rw (← e) c.loop-i.invariant
