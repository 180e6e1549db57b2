-- The tail behind n rows is lent, where a row has room in it.
use Rattle.std.proofs.Common.{arith, lt-ltb, le-ltb}
use Rattle.rules.specs.Scan.{room_of}
use Rattle.scan_puts.specs.Put.{row_of, placed}
use Rattle.scan_puts.proofs.Laid.{row_back}
use Rattle.scan_puts.proofs.put_behind.Goals as goal

pub returns-then-n-rows : goal.returns-then-n-rows
unfolding room_of placed
returns-then-n-rows c =
    let a = c.args in
    rw (lt-ltb _ _ c.if-n-rows.true, c.put.ensures, c.told_row.ensures) (row_back a.n (row_of a.at a.comments a.told) a.rows.now (omega arith))

pub returns-else-n-rows : goal.returns-else-n-rows
unfolding room_of placed
returns-else-n-rows c = rw (le-ltb _ _ c.if-n-rows.false)
