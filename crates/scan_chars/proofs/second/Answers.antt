-- Each of the first bytes with a narrower second range, and all others.
use Rattle.std.proofs.Common.{ap, sym, ◌∙◌, arith}
use Rattle.scan_chars.proofs.Lines.{low_of, high_of, low_is, high_is, low_other, high_other}
use Rattle.scan_chars.proofs.second.Goals as goal

pub returns-in-224-clause-low : goal.returns-in-224-clause-low
returns-in-224-clause-low c = sym (low_is c.args.b (omega arith) ∙ ap low_of c.in-224.is)

pub returns-in-224-clause-high : goal.returns-in-224-clause-high
returns-in-224-clause-high c = sym (high_is c.args.b (omega arith) ∙ ap high_of c.in-224.is)

pub returns-in-237-clause-low : goal.returns-in-237-clause-low
returns-in-237-clause-low c = sym (low_is c.args.b (omega arith) ∙ ap low_of c.in-237.is)

pub returns-in-237-clause-high : goal.returns-in-237-clause-high
returns-in-237-clause-high c = sym (high_is c.args.b (omega arith) ∙ ap high_of c.in-237.is)

pub returns-in-240-clause-low : goal.returns-in-240-clause-low
returns-in-240-clause-low c = sym (low_is c.args.b (omega arith) ∙ ap low_of c.in-240.is)

pub returns-in-240-clause-high : goal.returns-in-240-clause-high
returns-in-240-clause-high c = sym (high_is c.args.b (omega arith) ∙ ap high_of c.in-240.is)

pub returns-in-244-clause-low : goal.returns-in-244-clause-low
returns-in-244-clause-low c = sym (low_is c.args.b (omega arith) ∙ ap low_of c.in-244.is)

pub returns-in-244-clause-high : goal.returns-in-244-clause-high
returns-in-244-clause-high c = sym (high_is c.args.b (omega arith) ∙ ap high_of c.in-244.is)

pub returns-in_default-clause-low : goal.returns-in_default-clause-low
returns-in_default-clause-low c = low_other c.args.b (omega arith) (λ e. omega arith) (λ e. omega arith)

pub returns-in_default-clause-high : goal.returns-in_default-clause-high
returns-in_default-clause-high c = high_other c.args.b (omega arith) (λ e. omega arith) (λ e. omega arith)
