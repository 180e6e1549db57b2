-- Laws of numbers in decimal: the two equations that say what `decimal` is, and the two of `signed`.
use mathlib.Core.Path.{◌≡◌, refl, sym, ap, ◌∙◌}
use mathlib.Core.Bool.{Bool, true, false}
use mathlib.Core.List.{List, ◌++◌}
use Prim.Native.Nat.{ℕ, zero, suc, ◌-◌, ◌/◌, ◌%◌, ◌^◌, ◌≤◌, ◌<◌}
use native.Mathlib.Nat.{le_refl}
use native.Mathlib.Omega.{arith}
use lib.Dec.{ltb}
use borrow.Author.Tests.{lt-ltb, le-ltb, ltb-true, ltb-false}
use Rattle.rules.specs.Text.{bytes}
use Rattle.rules_decimal.specs.Decimal.{digit, digits, decimal, signed}

digits_one : (k n : ℕ) → n < 10 → digits k n ≡ digit n
unfolding digits
digits_one zero n h = refl
digits_one (suc k) n h = rw (digits, lt-ltb n 10 h)

digits_more : (k n : ℕ) → 10 ≤ n → digits (suc k) n ≡ digits k (n / 10) ++ digit (n % 10)
unfolding digits
digits_more k n h = rw (digits, le-ltb n 10 h)

-- the bound on the digits can't run out
digits_any : (k j n : ℕ) → n ≤ k → n ≤ j → digits k n ≡ digits j n
digits_any zero j n h g = digits_one zero n (omega arith) ∙ sym (digits_one j n (omega arith))
digits_any (suc k) zero n h g = digits_one (suc k) n (omega arith) ∙ sym (digits_one zero n (omega arith))
digits_any (suc k) (suc j) n h g = by (ltb n 10) refl (digits_any k j (n / 10))
  where
    by : (b : Bool) → ltb n 10 ≡ b → (n / 10 ≤ k → n / 10 ≤ j → digits k (n / 10) ≡ digits j (n / 10)) → digits (suc k) n ≡ digits (suc j) n
    by true e f = digits_one (suc k) n (ltb-true n 10 e) ∙ sym (digits_one (suc j) n (ltb-true n 10 e))
    by false e f =
        let m : 10 ≤ n = ltb-false n 10 e in
        digits_more k n m ∙ ap (λ (l : List ℕ). l ++ digit (n % 10)) (f (omega arith) (omega arith)) ∙ sym (digits_more j n m)

-- a number below ten is its digit
pub decimal_one : (n : ℕ) → n < 10 → decimal n ≡ digit n
unfolding decimal
decimal_one n h = digits_one n n h

-- any other is its tenth, and behind it the digit that is left
pub decimal_more : (n : ℕ) → 10 ≤ n → decimal n ≡ decimal (n / 10) ++ digit (n % 10)
unfolding decimal
decimal_more zero h = absurd (omega arith)
decimal_more (suc m) h =
    digits_more m (suc m) h ∙ ap (λ (l : List ℕ). l ++ digit (suc m % 10))
    (digits_any m (suc m / 10) (suc m / 10) (omega arith) (le_refl (suc m / 10)))

-- ---- signed numbers

pub signed_low : (bits : ℕ) → bits < 2 ^ 63 → signed bits ≡ decimal bits
unfolding signed
signed_low bits h = rw (lt-ltb bits (2 ^ 63) h)

pub signed_high : (bits : ℕ) → 2 ^ 63 ≤ bits → signed bits ≡ bytes "-" ++ decimal (2 ^ 64 - bits)
unfolding signed
signed_high bits h = rw (le-ltb bits (2 ^ 63) h)
