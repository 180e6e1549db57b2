-- What each function of the circle has seen where it answers, and what its loops have seen behind an operator.
use Prim.Native.Nat.{suc}
use Rattle.std.proofs.Common.{arith, ◌≡◌, sym, ap, ◌∙◌}
use mathlib.Core.Bool.{true≢false}
use Rattle.rules.specs.Parse.{is_add, is_shift, is_mul}
use Rattle.parse_pass_expr.proofs.Passes.{with_fields, seen_number, seen_variable, seen_alone, seen_field, seen_bare, seen_call, seen_group, sees_prim, stars_look, stars_more}
use Rattle.parse_pass_expr.proofs.Ladder.{is_comma, turn_seen, turn_again, products, lists, level, level_whole, level_again}
use Rattle.parse_pass_expr.proofs.+expression.Goals as goal

-- ---- arguments

pub arguments-returns-then-kind-ne-COMMA : goal.arguments-returns-then-kind-ne-COMMA
arguments-returns-then-kind-ne-COMMA t c = turn_seen lists c.loop-end.invariant c.in_ok-end.ensures

pub arguments-loop-end-preserved : goal.arguments-loop-end-preserved
arguments-loop-end-preserved t c =
    turn_again lists c.requires (turn_seen lists c.loop-end.invariant c.in_ok-end.ensures)
    (ap is_comma (sym c.kind.ensures ∙ c.if-kind-ne-COMMA.false))

-- ---- expression

pub expression-returns-then-not-sign-shift : goal.expression-returns-then-not-sign-shift
expression-returns-then-not-sign-shift t c =
    level_whole c.loop-end.summed (turn_seen (level c.loop-end.summed) c.loop-end.invariant c.in_ok-end.ensures)

pub expression-loop-end-preserved : goal.expression-loop-end-preserved
expression-loop-end-preserved t c =
    let s = c.loop-end.summed in
    level_again s c.is_add-sign.result c.is_shift-shift.result c.requires
    (turn_seen (level s) c.loop-end.invariant c.in_ok-end.ensures)
    (ap is_add (sym c.kind-k.ensures) ∙ sym c.is_add-sign.ensures)
    (ap is_shift (sym c.kind-k.ensures) ∙ sym c.is_shift-shift.ensures)
    c.if-not-sign-shift.false (λ x y. true≢false (simp (x, y) at c.if-summed-shift.false))

-- ---- factor, group, operand

pub factor-returns-then-is_alone : goal.factor-returns-then-is_alone
factor-returns-then-is_alone t c = seen_alone c.requires (sym c.if-is_alone.ensures)

pub group-returns : goal.group-returns
group-returns t c =
    let z : suc c.in_ok-checked_sub.field-0 ≡ c.args.left = omega (arith, c.in_ok-checked_sub.ensures) in
    with_fields _
    (seen_group c.requires z c.in_ok-inner.ensures.0 c.in_ok-inner.ensures.1 c.in_ok-end.ensures c.in_ok-behind.ensures.0
    c.in_ok-behind.ensures.1)
    c.fields.ensures

pub operand-loop-rest-preserved : goal.operand-loop-rest-preserved
operand-loop-rest-preserved t c =
    let z : suc c.in_ok-rest.rest ≡ c.loop-rest.rest = omega (arith, c.in_ok-rest.ensures) in
    stars_more c.requires c.loop-rest.invariant z (sym c.kind.ensures ∙ c.loop-rest-test.true)

pub operand-returns-in-48 : goal.operand-returns-in-48
operand-returns-in-48 t c = c.loop-rest.invariant.told _ (sees_prim _ _ _ _ _ c.variable.ensures)

pub operand-returns-in-50 : goal.operand-returns-in-50
operand-returns-in-50 t c =
    c.loop-rest.invariant.told _
    (sees_prim _ _ _ _ _
    (with_fields _
    (seen_number (stars_look c.requires c.loop-rest.invariant) (sym c.kind-2.ensures ∙ c.in-50.is))
    c.fields.ensures))

pub operand-returns-in_default : goal.operand-returns-in_default
operand-returns-in_default t c = c.loop-rest.invariant.told _ (sees_prim _ _ _ _ _ c.group.ensures)

-- ---- product

pub product-returns-then-not-is_mul : goal.product-returns-then-not-is_mul
product-returns-then-not-is_mul t c = turn_seen products c.loop-end.invariant c.in_ok-end.ensures

pub product-loop-end-preserved : goal.product-loop-end-preserved
product-loop-end-preserved t c =
    turn_again products c.requires (turn_seen products c.loop-end.invariant c.in_ok-end.ensures)
    (ap is_mul (sym c.kind.ensures) ∙ sym c.if-not-is_mul.ensures)

-- ---- variable

pub variable-returns-then-kind-ne-DOT : goal.variable-returns-then-kind-ne-DOT
variable-returns-then-kind-ne-DOT t c = seen_variable c.requires.0 c.requires.1

pub variable-returns-then-kind-ne-LPAREN : goal.variable-returns-then-kind-ne-LPAREN
variable-returns-then-kind-ne-LPAREN t c =
    with_fields _
    (seen_field c.requires.0 c.requires.1 (sym c.kind.ensures ∙ c.if-kind-ne-DOT.false) c.in_ok-open.ensures.0
    c.in_ok-open.ensures.1)
    c.fields.ensures

pub variable-returns-then-kind-eq-RPAREN : goal.variable-returns-then-kind-eq-RPAREN
variable-returns-then-kind-eq-RPAREN t c =
    with_fields _
    (seen_bare c.requires.0 c.requires.1 (sym c.kind.ensures ∙ c.if-kind-ne-DOT.false) c.in_ok-open.ensures.0
    c.in_ok-open.ensures.1 (sym c.kind-2.ensures ∙ c.if-kind-ne-LPAREN.false)
    (sym c.kind-3.ensures ∙ c.if-kind-eq-RPAREN.true))
    c.fields-then-kind-eq-RPAREN.ensures

pub variable-returns : goal.variable-returns
variable-returns t c =
    let z : suc c.in_ok-checked_sub.field-0 ≡ c.args.left = omega (arith, c.in_ok-checked_sub.ensures) in
    with_fields _
    (seen_call c.requires.0 c.requires.1 (sym c.kind.ensures ∙ c.if-kind-ne-DOT.false) c.in_ok-open.ensures.0
    c.in_ok-open.ensures.1 (sym c.kind-2.ensures ∙ c.if-kind-ne-LPAREN.false) z c.in_ok-end.ensures c.in_ok-behind.ensures.0
    c.in_ok-behind.ensures.1)
    c.fields-2.ensures
