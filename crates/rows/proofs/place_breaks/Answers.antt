-- A law for each way out.
use Rattle.std.proofs.Common.{◌≡◌, ◌≤◌, true, false, sym, ◌∙◌, eq-eqb, leb-true, arith}
use Rattle.rules.specs.Rows.{place_fits}
use Rattle.rows.specs.Shape.{breaks}
use Rattle.rows.proofs.Tables.{breaks_over, breaks_not, breaks_none, breaks_last}
use Rattle.rows.proofs.place_breaks.Goals as goal
use Rattle.rows.proofs.place_breaks.Goals.{then-p-size, else-p-size}

pub returns-then-count-eq0 : goal.returns-then-count-eq0
returns-then-count-eq0 c =
    let a = c.args in
    let h : (a.p.offset.0 ≤ a.size) × (place_fits a.p ≡ true) =
    elim c.if-p-size.branch [ then-p-size w ↦ (w.if-p-size.true, sym w.place_fits.ensures ∙ sym w.value-is ∙ c.if-place_fits.true) | else-p-size w ↦ absurd (omega (arith, leb-true a.p.offset.0 a.size (sym w.value-is ∙ c.if-place_fits.true), w.if-p-size.false)) ] in
    eq-eqb a.count 0 c.if-count-eq0.true ∙ sym (breaks_none a.rows.now a.size a.count a.p h.0 h.1 c.if-count-eq0.true)

pub returns-else-count-eq0 : goal.returns-else-count-eq0
returns-else-count-eq0 c =
    let a = c.args in
    let h : (a.p.offset.0 ≤ a.size) × (place_fits a.p ≡ true) =
    elim c.if-p-size.branch [ then-p-size w ↦ (w.if-p-size.true, sym w.place_fits.ensures ∙ sym w.value-is ∙ c.if-place_fits.true) | else-p-size w ↦ absurd (omega (arith, leb-true a.p.offset.0 a.size (sym w.value-is ∙ c.if-place_fits.true), w.if-p-size.false)) ] in
    rw (c.is_before.ensures, c.at.ensures) (sym (breaks_last a.rows.now a.size a.count a.p h.0 h.1 c.if-count-eq0.false))

pub returns-else-place_fits : goal.returns-else-place_fits
returns-else-place_fits c =
    let a = c.args in
    let e : breaks a.rows.now a.size a.count a.p ≡ false =
    elim c.if-p-size.branch [
      | then-p-size w ↦ breaks_not a.rows.now a.size a.count a.p w.if-p-size.true (sym w.place_fits.ensures ∙ sym w.value-is ∙ c.if-place_fits.false)
      | else-p-size w ↦ breaks_over a.rows.now a.size a.count a.p w.if-p-size.false
    ] in
    c.if-place_fits.false ∙ sym e
