-- Sums are taken in 64 bits, so that they fit for every row, and differences around 2^64.
use Rattle.std.proofs.Common.{◌+◌, ◌-◌, ◌%◌, ◌^◌, ◌<◌, get_or, arith}
use Rattle.rows.specs.Shape.{as_row}
use Rattle.rows.proofs.Shapes.{row_stands, wraps}
use Rattle.rows.proofs.shape.Row.fits_behind.Goals as goal

pub returns : goal.returns
returns c =
    let r = c.args.r in
    let q = c.args.self in
    let low = get_or c.args.least.now q.kind 0 in
    let span = get_or c.args.span.now q.kind 0 in
    let hs : q.start < 2 ^ 32 = omega (arith, c.well_formed) in
    let he : q.end < 2 ^ 32 = omega (arith, c.well_formed) in
    let hl : q.line < 2 ^ 32 = omega (arith, c.well_formed) in
    let hc : q.column < 2 ^ 32 = omega (arith, c.well_formed) in
    let lo : low < 2 ^ 32 = c.fits-least q.kind in
    let sp : span < 2 ^ 32 = c.fits-span q.kind in
    rw (c.lines_fit.ensures, c.place.ensures, c.place-2.ensures, c.from-5.ensures, c.from-4.ensures)
    (rw (c.value_fits.ensures, c.from-3.ensures, c.own_length-2.ensures, c.from-2.ensures, c.from.ensures, c.own_length.ensures, c.from-start.ensures, c.from-line.ensures, c.from-column.ensures)
    (row_stands c.requires.1 (as_row r) (as_row q)
    ((q.end + (2 ^ 64 - (q.start + low))) % 2 ^ 64) ((q.line + (2 ^ 64 - 1)) % 2 ^ 64) ((q.column + (2 ^ 64 - 1)) % 2 ^ 64)
    c.requires.0 hs he hl hc lo sp (omega arith) (omega arith) (omega arith)
    (wraps q.end (q.start + low) (omega arith) (omega arith)) (wraps q.line 1 (omega arith) (omega arith))
    (wraps q.column 1 (omega arith) (omega arith))))
