use Rattle.std.proofs.Common.{ap, lt-ltb}
use Rattle.rules.specs.Rows.{Row}
use Rattle.scan_meet.proofs.starts.Goals as goal

pub returns-then-i-count : goal.returns-then-i-count
returns-then-i-count c =
    let s = ap (λ (r : Row). r.start) c.at.ensures in
    rw (lt-ltb _ _ c.if-i-count.true, c.from.ensures, s)
