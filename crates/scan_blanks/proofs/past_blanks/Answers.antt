-- Each turn passes at least one blank, and where the loop stops no blank is left.
use Rattle.std.proofs.Common.{sym, ◌∙◌, ◌-◌, length, arith}
use Rattle.laws.proofs.Places.{roomy_less}
use Rattle.scan_blanks.proofs.Blanks.{blanked_start, blanked_then, blanked_end, blanked_off, blanked_on}
use Rattle.scan_blanks.proofs.past_blanks.Goals as goal

pub loop-here-init : goal.loop-here-init
loop-here-init c = blanked_start c.args.text.now c.args.from c.requires

pub returns-then-not-is_blank : goal.returns-then-not-is_blank
returns-then-not-is_blank c = blanked_off c.loop-here.invariant c.loop-here-test.true (sym c.is_blank.ensures ∙ c.if-not-is_blank.true)

pub advance-cursor-requires : goal.advance-cursor-requires
advance-cursor-requires c =
    let l = c.loop-here in
    roomy_less (length c.args.text.now - l.here.at) 1 l.here.cursor (omega arith) l.invariant.ahead.roomy

pub past_margin-here-requires : goal.past_margin-here-requires
past_margin-here-requires c =
    (blanked_on c.loop-here.invariant c.loop-here-test.true (sym c.is_blank.ensures ∙ c.if-not-is_blank.false) c.advance-cursor.ensures).ahead

pub loop-here-preserved-then-b-eq10 : goal.loop-here-preserved-then-b-eq10
loop-here-preserved-then-b-eq10 c =
    blanked_then
    (blanked_on c.loop-here.invariant c.loop-here-test.true (sym c.is_blank.ensures ∙ c.if-not-is_blank.false) c.advance-cursor.ensures)
    c.past_margin-here.ensures

pub loop-here-preserved : goal.loop-here-preserved
loop-here-preserved c =
    blanked_on c.loop-here.invariant c.loop-here-test.true (sym c.is_blank.ensures ∙ c.if-not-is_blank.false) c.advance-cursor.ensures

pub returns : goal.returns
returns c = blanked_end c.loop-here.invariant c.loop-here-test.false
