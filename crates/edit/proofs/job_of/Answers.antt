-- The kept rows are counted, and the place behind them is the restart place.
use Rattle.std.proofs.Common.{◌∙◌}
use Rattle.rows.proofs.Inside.{fine}
use Rattle.edit.proofs.Facts.{ends_rise}
use Rattle.edit.proofs.Calls.{restart_by, kept_lent, job_by}
use Rattle.edit.proofs.job_of.Goals as goal

pub kept_rows-kept-requires : goal.kept_rows-kept-requires
kept_rows-kept-requires c = let f = fine c.args.old.now c.args.table c.requires in (f.lent, ends_rise f)

pub place_behind-begin-requires : goal.place_behind-begin-requires
place_behind-begin-requires c =
    kept_lent c.args.old.now c.args.table c.args.a c.requires c.kept_rows-kept.result c.kept_rows-kept.ensures

pub returns : goal.returns
returns c =
    let a = c.args in
    let k = c.kept_rows-kept in
    job_by a.old.now a.table a.a a.b a.n k.result k.ensures c.place_behind-begin.result
    (c.place_behind-begin.ensures ∙ restart_by a.old.now a.table a.a k.result k.ensures)
