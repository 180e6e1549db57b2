-- What the loop has read, and the unit around it.
use Rattle.std.proofs.Common.{◌≡◌, ◌+◌, arith, sym, ap, ◌∙◌, refl}
use Rattle.rules.specs.Kinds.{KeywordUnit, Identifier, LBrace}
use Rattle.rules.specs.Grammar.{Item, Items, i_no_items, i_items}
use Rattle.parse_pass_expr.specs.Seen.{kind_in}
use Rattle.parse_pass_units.proofs.Parts.{past, list_none, list_more, units}
use Rattle.parse_pass_units.proofs.unit.Goals as goal

pub loop-at-init : goal.loop-at-init
loop-at-init c =
    let p = c.requires.0 in
    let name = past p c.args.row KeywordUnit p.inside c.requires.1 refl refl in
    let brace = past p (c.args.row + 1) Identifier name c.in_ok-brace.ensures.0 c.in_ok-brace.ensures.1 refl in
    list_none Items 64 _ _ _ i_no_items
    (past p c.in_ok-brace.brace LBrace brace c.in_ok-at.ensures.0 c.in_ok-at.ensures.1 refl)

pub loop-at-preserved : goal.loop-at-preserved
loop-at-preserved c = list_more Items 64 _ _ Item _ _ _ (λ l s p q. i_items p q) c.loop-at.invariant c.in_ok-at-2.ensures

pub returns : goal.returns
returns c =
    let a = c.args in
    let q : c.in_ok-at.at ≡ a.row + 3 = omega (arith, c.in_ok-brace.ensures.1, c.in_ok-at.ensures.1) in
    let e : kind_in a.rows.now (a.row + 1 + 1) ≡ LBrace =
    ap (kind_in a.rows.now) (sym c.in_ok-brace.ensures.1) ∙ c.in_ok-at.ensures.0 in
    units _ _ c.requires.0.closed 64 a.row c.loop-at.at q c.requires.1 c.in_ok-brace.ensures.0 e c.loop-at.invariant
    (sym c.kind.ensures ∙ c.loop-at-test.false)
