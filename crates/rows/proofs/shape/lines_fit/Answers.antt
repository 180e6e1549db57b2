-- The differences around 2^64 are one just where the sums crosswise are.
use Rattle.std.proofs.Common.{◌+◌, ◌-◌, ◌%◌, ◌^◌, ◌<◌, arith}
use Rattle.rules.specs.Rows.{lines_fit}
use Rattle.rows.proofs.Shapes.{eqb_swap, over_same, wraps}
use Rattle.rows.proofs.shape.lines_fit.Goals as goal

pub returns : goal.returns
unfolding lines_fit
returns c =
    let p = c.args.p in
    let q = c.args.q in
    let hq : q.column.0 < 2 ^ 32 = omega (arith, c.well_formed) in
    let oq : q.offset.0 < 2 ^ 32 = omega (arith, c.well_formed) in
    let hp : p.column.0 < 2 ^ 32 = omega (arith, c.well_formed) in
    let op : p.offset.0 < 2 ^ 32 = omega (arith, c.well_formed) in
    let same = over_same q.column.0 q.offset.0 ((q.column.0 + (2 ^ 64 - q.offset.0)) % 2 ^ 64) p.column.0 p.offset.0 ((p.column.0 + (2 ^ 64 - p.offset.0)) % 2 ^ 64)
    hq oq hp op (omega arith) (omega arith)
    (wraps q.column.0 q.offset.0 (omega arith) (omega arith))
    (wraps p.column.0 p.offset.0 (omega arith) (omega arith)) in
    rw (c.from.ensures, c.from-2.ensures, c.from-3.ensures, c.from-4.ensures) (rw (same, eqb_swap q.line.0 p.line.0))
