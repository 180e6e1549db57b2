-- A byte is the number's first, or not; and none is left.
use Rattle.std.proofs.Common.{◌≡◌, sym, ◌∙◌, ◌+◌, ◌-◌, drop, arith}
use Rattle.std.proofs.lemmas.List.{length-take-le, length-drop}
use Rattle.scan_words.proofs.Telling.{byte_at, compare_on, compare_off, compare_end}
use Rattle.scan_words.proofs.slots.same.Goals as goal

pub returns-then-from-left : goal.returns-then-from-left
returns-then-from-left c =
    let l = c.loop-b in
    let b = byte_at c.args.text.now c.args.at c.args.end l.b-index c.requires.1 c.loop-b-test.true in
    compare_off _ _ _ _ l.left (c.args.at + l.b-index) l.invariant b.0 (λ e. c.if-from-left.true (c.from.ensures ∙ b.1 ∙ sym e))

pub loop-b-preserved : goal.loop-b-preserved
loop-b-preserved c =
    let l = c.loop-b in
    let b = byte_at c.args.text.now c.args.at c.args.end l.b-index c.requires.1 c.loop-b-test.true in
    let n : c.args.at + (l.b-index + 1) ≡ (c.args.at + l.b-index) + 1 = omega arith in
    rw n (compare_on _ _ _ _ l.left (c.args.at + l.b-index) l.invariant b.0 (sym c.if-from-left.false ∙ c.from.ensures ∙ b.1))

pub returns : goal.returns
returns c =
    let l = c.loop-b in
    compare_end _ _ _ _ l.left (c.args.at + l.b-index) l.invariant
    (omega (
      arith,
      length-take-le (c.args.end - c.args.at) (drop c.args.at c.args.text.now)
          (omega (arith, length-drop c.args.at c.args.text.now)),
      c.loop-b-test.false,
    ))
