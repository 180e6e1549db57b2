-- Nothing is left; a line longer than what is left, met to its end; or no longer line.
use Rattle.std.proofs.Common.{ap, ◌∙◌, ℕ, nat_eq, length, ◌-◌, arith}
use Rattle.scan_chars.proofs.Lines.{cut_end, cut_by, cut_no}
use Rattle.scan_chars.proofs.is_cut.Goals as goal

pub returns-then-left-eq0 : goal.returns-then-left-eq0
returns-then-left-eq0 c = cut_end c.args.text.now c.args.i (omega arith)

pub returns-in-Some : goal.returns-in-Some
returns-in-Some c =
    ap (λ (k : ℕ). nat_eq k (length c.args.text.now - c.args.i)) c.met_at.ensures
    ∙ cut_by c.args.text.now c.args.i (omega arith) (omega (arith, c.in-Some.ensures))

pub returns-in_default : goal.returns-in_default
returns-in_default c = cut_no c.args.text.now c.args.i (omega arith) (omega (arith, c.in-Some.ensures))

pub returns-in_default-2 : goal.returns-in_default-2
returns-in_default-2 c = cut_no c.args.text.now c.args.i (omega arith) (omega (arith, c.in_default.ensures))
