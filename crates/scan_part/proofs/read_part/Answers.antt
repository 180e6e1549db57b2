-- Each way through a turn is one of the laws of `Going`.
use Rattle.std.proofs.Common.{◌≡◌, ◌+◌, ◌-◌, ◌<◌, ◌≤◌, ℕ, length, refl, sym, ◌∙◌, arith}
use Rattle.rules.specs.Outcomes.{Ending}
use Rattle.rules.specs.Text.{is_blank}
use Rattle.rules.specs.Kinds.{signs, kind_in, same_bytes}
use Rattle.rules.specs.Lex.{is_letter, is_digit, maybe_two}
use Rattle.laws.proofs.Places.{roomy_less}
use Rattle.scan_words.specs.Class.{class_of, mark_of}
use Rattle.scan_words.proofs.Tables.{right, all_right}
use Rattle.scan_reader.specs.Brief.{End}
use Rattle.scan_stop.specs.declared.Stop.TheVariants as stop
use Rattle.scan_part.specs.declared.Next.TheVariants.{Over}
use Rattle.scan_part.proofs.Parts.{begun_ahead, going_start, blanks_more, blanks_none, going_blanks, going_full, last, going_last, going_over, passable, going_comment, going_row, going_less}
use Rattle.scan_part.proofs.read_part.Goals as goal
use Rattle.scan_part.proofs.read_part.Goals.{then-told-lt-BLANK, else-told-lt-BLANK}

pub loop-count-init : goal.loop-count-init
loop-count-init c = going_start c.args.text.now c.args.most c.args.rows.now c.args.from c.requires.0.0

pub past_blanks-spot-requires : goal.past_blanks-spot-requires
past_blanks-spot-requires c = begun_ahead c.loop-count.invariant.begun

pub brief-told-requires : goal.brief-told-requires
unfolding right mark_of class_of is_blank is_letter is_digit maybe_two signs kind_in same_bytes
brief-told-requires c =
    (all_right _ refl, (going_blanks c.loop-count.invariant c.past_blanks-spot.result c.past_blanks-spot.ensures).begun.inside)

pub finish-last-requires : goal.finish-last-requires
finish-last-requires c =
    let s = c.past_blanks-spot.result in
    let g = going_blanks c.loop-count.invariant s c.past_blanks-spot.ensures in
    let none = blanks_none c.loop-count.invariant s c.past_blanks-spot.ensures in
    let b = c.brief-told.result in
    last g none b c.brief-told.ensures c.if-told-ge-END.true

pub ending-requires : goal.ending-requires
ending-requires c =
    let s = c.past_blanks-spot.result in
    let g = going_blanks c.loop-count.invariant s c.past_blanks-spot.ensures in
    let none = blanks_none c.loop-count.invariant s c.past_blanks-spot.ensures in
    let b = c.brief-told.result in
    going_over g none b c.brief-told.ensures c.if-told-ge-END.true c.finish-last.result c.finish-last.new.rows c.finish-last.ensures

pub returns-then-told-ge-END : goal.returns-then-told-ge-END
returns-then-told-ge-END c =
    let s = c.past_blanks-spot.result in
    let g = going_blanks c.loop-count.invariant s c.past_blanks-spot.ensures in
    let none = blanks_none c.loop-count.invariant s c.past_blanks-spot.ensures in
    let b = c.brief-told.result in
    let left : c.loop-count.count < c.args.most = omega (arith, c.loop-count-test.true) in
    let over : (e : Ending) → c.finish-last.result.stop ≡ stop.Over e → Over c.ending.result ≡ Over e =
    λ e q. let o = sym c.ending.ensures ∙ q in cc in
    going_last g none b c.brief-told.ensures c.if-told-ge-END.true left c.requires.1
    c.finish-last.result c.finish-last.new.rows c.finish-last.ensures (Over c.ending.result) over

pub put_behind-requires : goal.put_behind-requires
put_behind-requires c =
    let s = c.past_blanks-spot.result in
    let g = going_blanks c.loop-count.invariant s c.past_blanks-spot.ensures in
    let none = blanks_none c.loop-count.invariant s c.past_blanks-spot.ensures in
    let b = c.brief-told.result in
    let lt : b.kind < End = omega (arith, c.if-told-ge-END.false) in
    let p = passable g none b c.brief-told.ensures lt in
    (roomy_less (length c.args.text.now - s.at) b.size s.cursor (omega (arith, p.inside)) p.ahead.roomy).offset

pub behind-here-requires : goal.behind-here-requires
behind-here-requires c =
    let s = c.past_blanks-spot.result in
    let g = going_blanks c.loop-count.invariant s c.past_blanks-spot.ensures in
    let none = blanks_none c.loop-count.invariant s c.past_blanks-spot.ensures in
    let b = c.brief-told.result in
    let lt : b.kind < End = omega (arith, c.if-told-ge-END.false) in
    passable g none b c.brief-told.ensures lt

pub loop-count-smaller : goal.loop-count-smaller
loop-count-smaller c =
    let s = c.past_blanks-spot.result in
    let g = going_blanks c.loop-count.invariant s c.past_blanks-spot.ensures in
    let none = blanks_none c.loop-count.invariant s c.past_blanks-spot.ensures in
    let b = c.brief-told.result in
    let lt : b.kind < End = omega (arith, c.if-told-ge-END.false) in
    let h = going_less g none b c.brief-told.ensures c.behind-here.result c.behind-here.ensures lt in
    omega (arith, h, blanks_more c.loop-count.invariant s c.past_blanks-spot.ensures)

pub loop-count-preserved : goal.loop-count-preserved
loop-count-preserved c =
    let s = c.past_blanks-spot.result in
    let g = going_blanks c.loop-count.invariant s c.past_blanks-spot.ensures in
    let none = blanks_none c.loop-count.invariant s c.past_blanks-spot.ensures in
    let b = c.brief-told.result in
    let lt : b.kind < End = omega (arith, c.if-told-ge-END.false) in
    let left : c.loop-count.count < c.args.most = omega (arith, c.loop-count-test.true) in
    let next = c.behind-here.result in
    elim c.if-told-lt-BLANK.branch [
      | then-told-lt-BLANK w ↦
          rw (w.rows-is ∙ w.put_behind.ensures, w.count-is, w.comments-is)
          (going_row g none b c.brief-told.ensures next c.behind-here.ensures w.if-told-lt-BLANK.true left)
      | else-told-lt-BLANK w ↦
          rw (w.rows-is, w.count-is, w.comments-is)
          (going_comment g none b c.brief-told.ensures next c.behind-here.ensures w.if-told-lt-BLANK.false lt left)
    ]

pub returns : goal.returns
returns c = going_full c.loop-count.invariant c.requires.0.1 c.requires.1 (omega (arith, c.loop-count-test.false))
