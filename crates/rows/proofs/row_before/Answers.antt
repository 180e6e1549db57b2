-- The first row has a row of zeros before it.
use Rattle.std.proofs.Common.{sym, ◌∙◌}
use Rattle.rows.proofs.Tables.{before_first, before_next}
use Rattle.rows.proofs.row_before.Goals as goal

pub returns-then-i-eq0 : goal.returns-then-i-eq0
returns-then-i-eq0 c = c.none.ensures ∙ sym (before_first c.args.rows.now c.args.i c.if-i-eq0.true)

pub returns-else-i-eq0 : goal.returns-else-i-eq0
returns-else-i-eq0 c = c.at.ensures ∙ sym (before_next c.args.rows.now c.args.i c.if-i-eq0.false)
