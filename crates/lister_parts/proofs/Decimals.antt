-- Laws of numbers in decimal: how long they are, and what `itoa` writes.
use Rattle.std.proofs.Common.{◌≡◌, ℕ, zero, suc, ◌+◌, ◌-◌, ◌/◌, ◌%◌, ◌^◌, ◌<◌, ◌≤◌, Bool, true, false, ltb, length, sym, refl, ap, ◌∙◌, pow-suc, arith, length-append, ltb-false, ltb-true}
use Rattle.std.proofs.lemmas.Fmt.{decimal_by_steps}
use Rattle.std.specs.Fmt.{decimal as std·decimal}
use Rattle.rules_decimal.specs.Decimal.{digit, decimal}
use Rattle.theory_decimal.proofs.Decimals.{decimal_one, decimal_more}

-- ---- how long

decimal_brief : (n : ℕ) → n < 10 → length (decimal n) ≡ 1
decimal_brief n h = ap length (decimal_one n h)

decimal_longer : (n : ℕ) → 10 ≤ n → length (decimal n) ≡ length (decimal (n / 10)) + 1
decimal_longer n h = ap length (decimal_more n h) ∙ length-append (decimal (n / 10)) (digit (n % 10))

pub decimal_short : (k n : ℕ) → n < 10 ^ suc k → length (decimal n) ≤ suc k
decimal_short zero n h = omega (arith, decimal_brief n h)
decimal_short (suc k) n h = by (ltb n 10) refl (decimal_short k (n / 10))
  where
    by : (b : Bool) → ltb n 10 ≡ b → (n / 10 < 10 ^ suc k → length (decimal (n / 10)) ≤ suc k) → length (decimal n) ≤ suc (suc k)
    by true e f = omega (arith, decimal_brief n (ltb-true n 10 e))
    by false e f =
        let p = pow-suc 10 (suc k) in
        let g : n / 10 < 10 ^ suc k = omega arith in
        omega (arith, decimal_longer n (ltb-false n 10 e), f g)

-- ---- what `itoa` writes

-- the library's `decimal` is ours
pub std_decimal : (n : ℕ) → n < 2 ^ 64 → std·decimal n ≡ decimal n
std_decimal = decimal_by_steps (λ n ds. ds ≡ decimal n) (λ n h. sym (decimal_one n h)) (λ n ds h e. rw (decimal_more n h, e))

-- ---- negative numbers

-- what is left of 2^64
pub negated : (n bits : ℕ) → n < 2 ^ 64 → 2 ^ 63 ≤ bits → bits < 2 ^ 64 → (n + bits) % 2 ^ 64 ≡ 0 → n ≡ 2 ^ 64 - bits
negated n bits h g k e = omega arith
