-- The rows are told where there is room for all of them.
use Rattle.std.proofs.Common.{◌≡◌, ap, sym, ◌∙◌, arith}
use Rattle.laws.proofs.Rows.{told_all, told_full}
use Rattle.scan_stop.specs.declared.Walked.{Walked}
use Rattle.scan.proofs.told.Goals as goal

pub returns-then-room-count : goal.returns-then-room-count
returns-then-room-count c rs e q =
    let n = ap (λ (w : Walked). w.count) q in
    rw (c.start.ensures, told_full c.args.bytes c.args.room rs e (omega arith))

pub returns : goal.returns
returns c rs e q =
    let n = ap (λ (w : Walked). w.count) q in
    let o = sym c.ending.ensures ∙ ap (λ (w : Walked). w.stop) q in
    let same : c.ending.result ≡ e = cc in
    rw (n, same, told_all c.args.bytes c.args.room rs e (omega arith))
