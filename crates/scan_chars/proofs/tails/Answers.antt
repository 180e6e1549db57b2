-- The text's end, a byte that is no tail, and a tail.
use Rattle.std.proofs.Common.{◌≡◌, sym, ◌∙◌, ◌+◌, drop, arith}
use Rattle.std.proofs.Math.Seq.{drop-drop}
use Rattle.rules.specs.Text.{front, is_tail}
use Rattle.laws.proofs.Fronts.{front_drop, front_more, front_off, front_end}
use Rattle.scan_chars.proofs.tails.Goals as goal
use Rattle.scan_chars.proofs.tails.Goals.{then-left-k-via-then-left-k, then-left-k-via-else-left-k+then-not-is_tail}

pub returns-then-left-k : goal.returns-then-left-k
returns-then-left-k c =
    let t = c.args.text.now in
    let from = c.args.from in
    let k = c.loop-k.k in
    let e : front is_tail (drop (from + k) t) ≡ 0 =
    elim c.then-left-k.branch [
      | then-left-k-via-then-left-k w ↦ front_end is_tail t (from + k) (omega (arith, w.if-left-k.true))
      | then-left-k-via-else-left-k+then-not-is_tail w ↦
          front_off is_tail t (from + k) (omega (arith, w.if-left-k.false)) (sym w.is_tail.ensures ∙ w.if-not-is_tail.true)
    ] in
    omega (arith, rw (drop-drop k from t) at (front_drop is_tail k (drop from t) c.loop-k.invariant))

pub loop-k-preserved : goal.loop-k-preserved
loop-k-preserved c =
    front_more is_tail c.args.text.now c.args.from c.loop-k.k c.loop-k.invariant (omega (arith, c.if-left-k.false))
    (sym c.is_tail.ensures ∙ c.if-not-is_tail.false)
