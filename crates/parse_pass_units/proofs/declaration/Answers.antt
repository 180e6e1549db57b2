-- A declaration, from its name, its sign and its value.
use Rattle.std.proofs.Common.{◌≡◌, ◌+◌, arith, sym, ap, ◌∙◌}
use Rattle.rules.specs.Kinds.{Equals}
use Rattle.parse_pass_expr.specs.Seen.{kind_in}
use Rattle.parse_pass_units.proofs.Parts.{declares}
use Rattle.parse_pass_units.proofs.declaration.Goals as goal

pub returns : goal.returns
returns c =
    let a = c.args in
    let q : c.in_ok-value.value ≡ a.row + 3 = omega (arith, c.in_ok-sign.ensures.1, c.in_ok-value.ensures.1) in
    let e : kind_in a.rows.now (a.row + 1 + 1) ≡ Equals =
    ap (kind_in a.rows.now) (sym c.in_ok-sign.ensures.1) ∙ c.in_ok-value.ensures.0 in
    let s = c.in_ok-closed.ensures in
    declares _ _ c.requires.0.closed a.left a.row _ q c.requires.1 c.in_ok-sign.ensures.0 e s.0 s.1
