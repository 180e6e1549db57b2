-- Each range of first bytes has lines of one length.
use Rattle.std.proofs.Common.{sym, arith}
use Rattle.scan_chars.proofs.Lines.{size_one, size_none, size_two, size_three, size_four, size_above}
use Rattle.scan_chars.proofs.line_bytes.Goals as goal

pub returns-in-0-to-127 : goal.returns-in-0-to-127
returns-in-0-to-127 c = (sym (size_one c.args.b (omega arith) (omega arith)), omega arith)

pub returns-in-194-to-223 : goal.returns-in-194-to-223
returns-in-194-to-223 c = (sym (size_two c.args.b (omega arith) (omega arith) (omega arith)), omega arith)

pub returns-in-224-to-239 : goal.returns-in-224-to-239
returns-in-224-to-239 c = (sym (size_three c.args.b (omega arith) (omega arith) (omega arith)), omega arith)

pub returns-in-240-to-244 : goal.returns-in-240-to-244
returns-in-240-to-244 c = (sym (size_four c.args.b (omega arith) (omega arith) (omega arith)), omega arith)

pub returns-in_default : goal.returns-in_default
returns-in_default c = size_none c.args.b (omega arith) (omega arith) (omega arith)

pub returns-in_default-2 : goal.returns-in_default-2
returns-in_default-2 c = size_above c.args.b (omega arith) (omega arith)
