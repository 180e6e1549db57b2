use Rattle.edit_kept.proofs.Kept.{between_none}
use Rattle.edit_kept.proofs.kept_rows.Goals as goal

pub returns : goal.returns
returns c =
    between_none c.args.a c.args.old.now c.args.count c.loop-low.low c.loop-low.high c.loop-low.invariant c.loop-low-test.false
