-- A law for each way out.
use Rattle.std.proofs.Common.{◌≡◌, false, ◌&&◌, ap, ◌∙◌}
use mathlib.Core.Logic.{inl, inr}
use Rattle.rules.specs.Rows.{Row, row_fits}
use Rattle.rows.specs.Shape.{as_row, fits_after, closes}
use Rattle.rows.proofs.Tables.{closes_plain, closes_apart, closes_fit}
use Rattle.rows.proofs.row_closes.Goals as goal

pub returns-then-r-size : goal.returns-then-r-size
returns-then-r-size c =
    let q = as_row c.at-r.result in
    c.fits_behind.ensures ∙ ap (λ (z : Row). row_fits q && fits_after z q) c.row_before.ensures
    ∙ closes_fit c.args.rows.now c.args.i q c.at-r.ensures c.args.size c.if-r-size.true.0 c.if-r-size.true.1

pub returns-else-r-size : goal.returns-else-r-size
returns-else-r-size c =
    let q = as_row c.at-r.result in
    let e : closes c.args.rows.now c.args.size c.args.i ≡ false =
    elim c.if-r-size.either [
      | inl f ↦ closes_apart c.args.rows.now c.args.i q c.at-r.ensures c.args.size f.0 f.1
      | inr f ↦ closes_plain c.args.rows.now c.args.i q c.at-r.ensures c.args.size f
    ] in
    cc
