-- A window that ends the text is not short, and of another the walk tells.
use Rattle.std.proofs.Common.{sym, ◌∙◌}
use Rattle.edit.proofs.Jobs.{walkable, whole_long, walked_by, short_by}
use Rattle.edit.proofs.is_short.Goals as goal

pub returns-then-whole : goal.returns-then-whole
returns-then-whole c = sym (whole_long c.requires c.args.whole c.if-whole.true)

pub walk-walked-requires : goal.walk-walked-requires
walk-walked-requires c = walkable c.requires c.olds.result c.olds.ensures

pub returns : goal.returns
returns c =
    let w = c.walk-walked in
    let walked = walked_by c.requires c.args.whole c.olds.result c.olds.ensures w.result _ _ w.ensures in
    c.lacks.ensures ∙ sym (short_by c.requires c.args.whole w.result walked.0)
