-- The pointer stops at the first old row that can meet here or later.
use Rattle.std.proofs.Common.{◌≡◌, ◌+◌, ◌-◌, ◌<◌, ◌≤◌, true, ◌&&◌, eqb, ltb, length, drop, sym, ◌∙◌, arith, length-drop, ltb-true, eqb-true}
use Rattle.laws.proofs.Tests.{both_true}
use Rattle.rows.specs.Shape.{row_no}
use Rattle.scan_meet.specs.Meeting.{Sought}
use Rattle.scan_meet.proofs.Meetings.{finds_early, finds_late, finds_gap, finds_there, finds_no_row}
use Rattle.scan_meet.proofs.find.Goals as goal
use Rattle.scan_meet.proofs.find.Goals.{then-offset-olds-via-then-offset-olds, then-offset-olds-via-else-offset-olds+then-text-here, then-gap_opens-via-then-gap_opens, then-gap_opens-via-else-gap_opens+then-not-starts}

pub returns-then-offset-olds : goal.returns-then-offset-olds
returns-then-offset-olds c =
    let a = c.args in
    elim c.then-offset-olds.branch [
      | then-offset-olds-via-then-offset-olds w ↦
          finds_early a.old.now a.olds.count a.olds.least a.olds.b a.row a.here.cursor.offset.0 (drop a.here.at a.text.now) c.requires.1.1 c.requires.0.1
          (omega (arith, w.if-offset-olds.true, c.from-offset.ensures))
      | then-offset-olds-via-else-offset-olds+then-text-here w ↦
          finds_late a.old.now a.olds.count a.olds.least a.olds.b a.row a.here.cursor.offset.0 (drop a.here.at a.text.now) c.requires.1.1 c.requires.0.1
          (omega (arith, w.if-text-here.true, length-drop a.here.at a.text.now))
    ]

pub returns-then-gap_opens : goal.returns-then-gap_opens
returns-then-gap_opens c =
    let a = c.args in
    let r = c.seek-next.result in
    let s : Sought a.old.now a.olds.count a.row (a.here.cursor.offset.0 + a.olds.b - a.olds.least) r = rw (c.from-offset.ensures, c.from.ensures) at c.seek-next.ensures in
    let late : a.olds.least ≤ a.here.cursor.offset.0 = omega (arith, c.if-offset-olds.false, c.from-offset.ensures) in
    let some : 0 < length (drop a.here.at a.text.now) = omega (arith, c.if-text-here.false, length-drop a.here.at a.text.now) in
    elim c.then-gap_opens.branch [
      | then-gap_opens-via-then-gap_opens w ↦
          finds_gap a.old.now a.olds.count a.olds.least a.olds.b a.row a.here.cursor.offset.0 (drop a.here.at a.text.now) c.requires.1.1
          late some r s (sym c.gap_opens.ensures ∙ w.if-gap_opens.true)
      | then-gap_opens-via-else-gap_opens+then-not-starts w ↦
          finds_no_row a.old.now a.olds.count a.olds.least a.olds.b a.row a.here.cursor.offset.0 (drop a.here.at a.text.now) c.requires.1.1
          late some r s (sym c.gap_opens.ensures ∙ w.if-gap_opens.false) c.requires.1.0
          (rw (c.from-offset.ensures, c.from.ensures) at (sym w.starts.ensures ∙ w.if-not-starts.true))
    ]

pub returns : goal.returns
returns c =
    let a = c.args in
    let r = c.seek-next.result in
    let s : Sought a.old.now a.olds.count a.row (a.here.cursor.offset.0 + a.olds.b - a.olds.least) r = rw (c.from-offset.ensures, c.from.ensures) at c.seek-next.ensures in
    let late : a.olds.least ≤ a.here.cursor.offset.0 = omega (arith, c.if-offset-olds.false, c.from-offset.ensures) in
    let some : 0 < length (drop a.here.at a.text.now) = omega (arith, c.if-text-here.false, length-drop a.here.at a.text.now) in
    let x = a.here.cursor.offset.0 + a.olds.b - a.olds.least in
    let e : (ltb r a.olds.count && eqb (row_no a.old.now r).start x) ≡ true = rw (c.from-offset.ensures, c.from.ensures) at (sym c.starts.ensures ∙ c.if-not-starts.false) in
    let b = both_true (ltb r a.olds.count) (eqb (row_no a.old.now r).start x) e in
    finds_there a.old.now a.olds.count a.olds.least a.olds.b a.row a.here.cursor.offset.0 (drop a.here.at a.text.now) c.requires.1.1
    late some r s (sym c.gap_opens.ensures ∙ c.if-gap_opens.false) c.requires.1.0 (ltb-true r a.olds.count b.0) (eqb-true (row_no a.old.now r).start x b.1)
