-- A number of 63 bits, or the rest to 64 bits and a sign in front of it.
use Rattle.std.proofs.Common.{◌≡◌, ℕ, ◌+◌, ◌-◌, ◌^◌, ◌++◌, ap, sym, ◌∙◌, arith}
use Rattle.rules.specs.Text.{bytes}
use Rattle.rules_decimal.specs.Decimal.{decimal}
use Rattle.theory_decimal.proofs.Decimals.{signed_low, signed_high}
use Rattle.layout_back.proofs.Back.{wrote_as, wrote_then}
use Rattle.layout_back.proofs.signed.Goals as goal

pub returns-then-bits-lt-SIGN : goal.returns-then-bits-lt-SIGN
returns-then-bits-lt-SIGN c = wrote_as (sym (signed_low c.args.bits (omega arith))) c.decimal.ensures

pub returns : goal.returns
returns c =
    let n = c.args.bits in
    let e : 18446744073709551615 - n + 1 ≡ 2 ^ 64 - n = omega arith in
    wrote_as (ap (λ (k : ℕ). bytes "-" ++ decimal k) e ∙ sym (signed_high n (omega arith))) (wrote_then c.decimal-to.ensures c.put.ensures)
