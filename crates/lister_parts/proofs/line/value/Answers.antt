-- A blank, and a signed number behind it.
use Rattle.std.proofs.Common.{ℕ, ◌++◌, sym, ap, ◌∙◌, arith}
use Rattle.rules.specs.Text.{bytes}
use Rattle.rules_decimal.specs.Decimal.{decimal}
use Rattle.theory_decimal.proofs.Decimals.{signed_low, signed_high}
use Rattle.lister_parts.proofs.Decimals.{negated}
use Rattle.lister_parts.proofs.Adding.{adds_then, adds_same}
use Rattle.lister_parts.proofs.line.value.Goals as goal

pub returns-then-bits-lt9223372036854775808 : goal.returns-then-bits-lt9223372036854775808
returns-then-bits-lt9223372036854775808 c =
    adds_then c.put-behind.ensures (adds_same (sym (signed_low _ c.if-bits-lt9223372036854775808.true)) c.number.ensures)

pub returns : goal.returns
returns c =
    let w = c.wrapping_neg in
    let e = negated w.result _ (omega (arith, w.type_inv)) c.if-bits-lt9223372036854775808.false (omega (arith, c.ranges.low, c.ranges.high)) w.ensures in
    let f = ap (λ (n : ℕ). bytes "-" ++ decimal n) e ∙ sym (signed_high _ c.if-bits-lt9223372036854775808.false) in
    adds_then c.put-behind.ensures (adds_same f (adds_then c.put-signed.ensures c.number-2.ensures))
