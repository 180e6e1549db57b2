-- One field more.
use Rattle.std.proofs.Common.{sym, ◌∙◌, refl}
use Rattle.parse_pass_expr.proofs.Passes.{looks_at, behind, on_field}
use Rattle.parse_pass_expr.proofs.fields.Goals as goal

pub loop-at-preserved : goal.loop-at-preserved
loop-at-preserved c =
    let dot = sym c.kind.ensures ∙ c.loop-at-test.true in
    let name = behind (looks_at c.requires c.loop-at.invariant.inside) _ refl dot refl in
    on_field c.loop-at.invariant dot c.in_ok-at.ensures.0 c.in_ok-at.ensures.1
    (behind name _ c.in_ok-at.ensures.1 c.in_ok-at.ensures.0 refl).inside
