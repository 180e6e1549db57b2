-- In a line the cursor is moved at once, at a line's end its last byte is looked at, and else every byte.
use Rattle.std.proofs.Common.{◌-◌, length, sym, ap, arith, length-drop}
use Rattle.laws.proofs.Lists.{lent_tail}
use Rattle.laws.proofs.Places.{roomy_less}
use Rattle.scan_reader.specs.Read.{onward}
use Rattle.scan_blanks.proofs.Passing.{over_line, over_last, roomy_last}
use Rattle.scan_walk.proofs.spots.behind.Goals as goal

pub onward-requires : goal.onward-requires
onward-requires c =
    let a = c.args in
    roomy_less (length a.text.now - a.here.at) a.told.size a.here.cursor (omega (arith, c.requires.inside)) c.requires.ahead.roomy

pub returns-then-told-lt-BLANK : goal.returns-then-told-lt-BLANK
returns-then-told-lt-BLANK c =
    let a = c.args in
    rw c.onward.ensures (sym (over_line a.text.now a.here a.told.size (c.requires.row c.if-told-lt-BLANK.true)))

pub onward-requires-then-told-le-LINE : goal.onward-requires-then-told-le-LINE
onward-requires-then-told-le-LINE c =
    let a = c.args in
    roomy_less (length a.text.now - a.here.at) (a.told.size - 1) a.here.cursor (omega (arith, c.requires.inside)) c.requires.ahead.roomy

pub advance-requires : goal.advance-requires
advance-requires c =
    let a = c.args in
    rw c.onward-then-told-le-LINE.ensures
    (roomy_last a.text.now a.here a.told.size c.requires.some c.requires.inside (c.requires.line c.if-told-le-LINE.true) c.requires.ahead)

pub returns-then-told-le-LINE : goal.returns-then-told-le-LINE
returns-then-told-le-LINE c =
    let a = c.args in
    rw (c.advance.ensures, c.onward-then-told-le-LINE.ensures)
    (sym (over_last a.text.now a.here a.told.size c.requires.some c.requires.inside (c.requires.line c.if-told-le-LINE.true)))

pub pass-requires : goal.pass-requires
pass-requires c =
    let a = c.args in (
      omega (arith, length-drop a.here.at a.text.now, c.requires.inside, ap length (lent_tail a.text.now a.here.at c.requires.ahead.inside)),
      roomy_less (length a.text.now - a.here.at) a.told.size a.here.cursor (omega (arith, c.requires.inside)) c.requires.ahead.roomy,
    )

pub returns : goal.returns
unfolding onward
returns c = rw (c.pass.ensures, lent_tail c.args.text.now c.args.here.at c.requires.ahead.inside)
