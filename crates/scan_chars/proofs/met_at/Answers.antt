-- The ways through a line: one byte, the text's end, a second byte out of its range, and tails behind it.
use Rattle.std.proofs.Common.{ap, ◌∙◌, ℕ, ◌+◌, get_or, arith}
use Rattle.laws.proofs.Chars.{line_four}
use Rattle.scan_chars.proofs.Lines.{met_one, met_end, met_out, met_in, below_range, above_range, in_range}
use Rattle.scan_chars.proofs.met_at.Goals as goal
use Rattle.scan_chars.proofs.met_at.Goals.{then-c-low-via-then-c-low, then-c-low-via-else-c-low+then-high-c}

pub returns-then-n-le1 : goal.returns-then-n-le1
returns-then-n-le1 c = c.requires.1 ∙ met_one c.args.text.now c.args.i c.requires.0 (omega arith)

pub returns-then-text-i-eq1 : goal.returns-then-text-i-eq1
returns-then-text-i-eq1 c = met_end c.args.text.now c.args.i c.requires.0 (omega arith) (omega arith)

pub returns-then-c-low : goal.returns-then-c-low
returns-then-c-low c =
    let out = met_out c.args.text.now c.args.i c.requires.0 (omega arith) (omega arith) in
    elim c.then-c-low.branch [
      | then-c-low-via-then-c-low w ↦ out (below_range _ _ _ (rw c.second-low.ensures.low at w.if-c-low.true))
      | then-c-low-via-else-c-low+then-high-c w ↦ out (above_range _ _ _ (rw c.second-low.ensures.high at w.if-high-c.true))
    ]

pub tails-requires : goal.tails-requires
tails-requires c = (omega arith, omega (arith, line_four (get_or c.args.text.now c.args.i 0)))

pub returns : goal.returns
returns c =
    ap (λ (k : ℕ). 2 + k) c.tails.ensures
    ∙ rw c.requires.1 (met_in c.args.text.now c.args.i c.requires.0 (omega arith) (omega arith)
    (in_range _ _ _ (rw c.second-low.ensures.low at c.if-c-low.false) (rw c.second-low.ensures.high at c.if-high-c.false)))
