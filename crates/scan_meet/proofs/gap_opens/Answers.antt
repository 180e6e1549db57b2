-- A byte alone tells, unless it is a slash: then the next one does.
use Rattle.std.proofs.Common.{◌∙◌, arith}
use Rattle.scan_meet.proofs.Gaps.{opens_two, opens_last, opens_other}
use Rattle.scan_meet.proofs.gap_opens.Goals as goal

pub returns-then-b-ne47 : goal.returns-then-b-ne47
returns-then-b-ne47 c = c.is_blank.ensures ∙ opens_other c.args.text.now c.args.at c.requires c.if-b-ne47.true

pub returns-then-at-text : goal.returns-then-at-text
returns-then-at-text c = opens_last c.args.text.now c.args.at c.requires c.if-b-ne47.false (omega arith)

pub returns : goal.returns
returns c = opens_two c.args.text.now c.args.at c.if-b-ne47.false (omega arith)
