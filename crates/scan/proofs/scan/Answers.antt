-- `scan` meets its contract: a text that is over-long or has a bad byte is refused, and any other is walked over from its start on.
use Rattle.std.proofs.Common.{sym, ◌∙◌, arith}
use Rattle.std.proofs.lemmas.Result.{err_from_is_err_and}
use Rattle.rules.specs.Scan.{read_rows, read_ending, scan, room_of}
use Rattle.laws.proofs.Valid.{fine_text}
use Rattle.scan.proofs.Scans.{walkable, walk_rows_lem, walk_told, count_fits, refused_text, all_rows}
use Rattle.scan.proofs.scan.Goals as goal

pub returns-in_err-judge_text : goal.returns-in_err-judge_text
returns-in_err-judge_text c =
    let q = refused_text c.args.text.now c.args.rows.now (sym c.judge_text.ensures ∙ c.in_err-judge_text.was) in
    let p = err_from_is_err_and c.from_residual.result c.from_residual.ensures.1 in
    record { told = rw (p.1, p.2) q.0; left = q.1 }

pub walk-requires : goal.walk-requires
walk-requires c =
    let t = c.args.text.now in
    rw c.start.ensures (walkable _ _ t (fine_text t (sym c.judge_text.ensures ∙ c.in_ok-judge_text.was)).0)

pub told-requires : goal.told-requires
told-requires c =
    let t = c.args.text.now in
    let short = (fine_text t (sym c.judge_text.ensures ∙ c.in_ok-judge_text.was)).0 in
    (omega arith, rw (c.walk.ensures.0, c.start.ensures) (count_fits _ _ t short), rw (c.walk.ensures.0, c.start.ensures, walk_told _ _ t) tt)

pub returns : goal.returns
unfolding room_of
returns c =
    let t = c.args.text.now in
    let q = all_rows t c.args.rows.now (sym c.judge_text.ensures ∙ c.in_ok-judge_text.was) in
    let v = c.walk.ensures in
    let b = c.start.ensures in
    let l = scan t in
    record {
      told = c.told.ensures (read_rows l) (read_ending l) (rw (v.0, b) (walk_told _ _ t)) ∙ q.0;
      left = rw (v.1, b, walk_rows_lem _ _ t) q.1;
    }
