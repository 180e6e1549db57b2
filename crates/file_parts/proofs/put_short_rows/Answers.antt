use Rattle.std.proofs.Common.{◌≡◌, ◌+◌, ◌-◌, ◌*◌, ◌≤◌, length, take, drop, arith}
use Rattle.laws.proofs.Lists.{lent_tail}
use Rattle.file_parts.proofs.Parts.{rows_none, rows_more}
use Rattle.file_parts.proofs.put_short_rows.Goals as goal

pub loop-i-init : goal.loop-i-init
loop-i-init c = rows_none c.args.bytes.now c.args.rows.now

pub loop-i-preserved : goal.loop-i-preserved
loop-i-preserved c =
    let r = c.args.rows.now in
    let i = c.loop-i.i in
    let inside : 4 + 24 * i + 24 ≤ length c.args.bytes.now = omega (arith, c.requires.0) in
    let tail : take (length r - i * 8) (drop (i * 8) r) ≡ drop (i * 8) r = lent_tail r (i * 8) (omega (arith, c.requires.1)) in
    let part = take (length r - i * 8) (drop (i * 8) r) in
    rw c.put_short_row.ensures (rows_more c.args.bytes.now r i c.loop-i.bytes part c.loop-i.invariant tail inside)
