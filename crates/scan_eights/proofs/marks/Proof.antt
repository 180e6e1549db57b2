-- `marks` meets its contract: it works on each of the eight bytes alone, and of each the rule is the mark's.
use mathlib.Core.Path.{◌≡◌, refl}
use mathlib.Core.Bool.{true}
use Prim.Native.Nat.{ℕ, ◌+◌, ◌^◌, ◌<◌}
use native.Mathlib.Omega.{arith}
use lib.Dec.{ltb}
use lib.Bits.{bit_and, bit_or, bit_xor, and_le_r, or_lt, xor_lt}
use mir.Syntax.{w64}
use mir.Val.{Fits}
use borrow.Author.Rules.{rules}
use borrow.Author.Tests.{ltb-true}
use Rattle.rules.specs.Lex.{is_letter, is_digit, is_word}
use Rattle.scan_eights.specs.Eights.{end_mark}
use Rattle.scan_eights.proofs.Numbers.{each_self, each_all, each_and, each_or, each_xor, each_add, each_is}
use Rattle.scan_eights.proofs.marks.Statement.{statement}
use Rattle.scan_eights.proofs.marks.Tie as tie

-- The constants that the code has are named nowhere below: each is filled in from what is to be shown, and held to what it must be by a test.

-- ---- no sum is too large: both numbers are below 2^63

record Low (n : ℕ) : Type 0 where
  pub lt : n < 2 ^ 63

low : {n : ℕ} → ltb n (2 ^ 63) ≡ true → Low n
low {n} e = record { lt = ltb-true n (2 ^ 63) e }

low_and : (x : ℕ) {n : ℕ} → Low n → Low (bit_and x n)
low_and x {n} h = record { lt = omega (arith, and_le_r x n) }

low_or : {m n : ℕ} → Low m → Low n → Low (bit_or m n)
low_or {m} {n} h k = record { lt = or_lt 63 m n h.lt k.lt }

low_xor : {m n : ℕ} → Low m → Low n → Low (bit_xor m n)
low_xor {m} {n} h k = record { lt = xor_lt 63 m n h.lt k.lt }

low_sum : {m n : ℕ} → Low m → Low n → Fits w64 (m + n)
low_sum h k = omega arith

mul_low : tie.Need-overflow_mul-low
mul_low c = search rules

mul_small : tie.Need-overflow_mul-small
mul_small c = search rules

mul_letter : tie.Need-overflow_mul-letter
mul_letter c = search rules

add_letter : tie.Need-overflow_add-letter
add_letter c = low_sum (low_or (low_and c.args.x (low refl)) (low refl)) (low refl)

mul_letter_2 : tie.Need-overflow_mul-letter-2
mul_letter_2 c = search rules

add_letter_2 : tie.Need-overflow_add-letter-2
add_letter_2 c = low_sum (low_or (low_and c.args.x (low refl)) (low refl)) (low refl)

mul_digit : tie.Need-overflow_mul-digit
mul_digit c = search rules

add_digit : tie.Need-overflow_add-digit
add_digit c = low_sum (low_and c.args.x (low refl)) (low refl)

mul_digit_2 : tie.Need-overflow_mul-digit-2
mul_digit_2 c = search rules

add_digit_2 : tie.Need-overflow_add-digit-2
add_digit_2 c = low_sum (low_and c.args.x (low refl)) (low refl)

mul_other : tie.Need-overflow_mul-other
mul_other c = search rules

mul_other_2 : tie.Need-overflow_mul-other-2
mul_other_2 c = search rules

add_other : tie.Need-overflow_add-other
add_other c = low_sum (low_xor (low_and c.args.x (low refl)) (low refl)) (low refl)

mul_result : tie.Need-overflow_mul-result
mul_result c = search rules

returns : tie.Need-returns
unfolding end_mark is_word is_letter is_digit
returns c = λ s l u e.
    each_is u
    (each_and u
    (each_or u
    (each_xor u
    (each_or u
    (each_or u
    -- the letters
    (each_xor u
    (each_add (each_or u (each_and u (each_self e) (each_all l refl)) (each_all l refl)) (each_all l refl) refl)
    (each_add (each_or u (each_and u (each_self e) (each_all l refl)) (each_all l refl)) (each_all l refl) refl))
    -- the digits
    (each_xor u
    (each_add (each_and u (each_self e) (each_all l refl)) (each_all l refl) refl)
    (each_add (each_and u (each_self e) (each_all l refl)) (each_all l refl) refl)))
    -- the underscore
    (each_xor u
    (each_add (each_xor u (each_and u (each_self e) (each_all l refl)) (each_all l refl)) (each_all l refl) refl)
    (each_all l refl)))
    (each_all l refl))
    (each_self e))
    (each_all l refl))
    end_mark
    refl

pub marks_spec : {M : Type 1} → statement M
marks_spec =
    tie.close
    (tie.spec
    mul_low
    mul_small
    mul_letter
    add_letter
    mul_letter_2
    add_letter_2
    mul_digit
    add_digit
    mul_digit_2
    add_digit_2
    mul_other
    mul_other_2
    add_other
    mul_result
    returns)
