-- A number in decimal, without leading zeros, and 64 bits as a number with its sign.
use Rattle.std.specs.Prelude.{true, false, cond, List, [], ◌∷◌, ◌++◌, ℕ, zero, suc, ◌+◌, ◌-◌, ◌/◌, ◌%◌, ◌^◌, ltb}
use Rattle.rules.specs.Text.{byte, bytes}

-- a digit, 0 to 9
abbrev pub digit : ℕ → List ℕ
digit d = (byte "0" + d) ∷ []

-- A number below ten is its digit; any other is its tenth, and behind it the digit that is left. At most k + 1 digits are written, so with k = n
-- all of them are.
unfoldable pub digits : ℕ → ℕ → List ℕ
digits zero n = digit n
digits (suc k) n = elim (ltb n 10) [ true ↦ digit n | false ↦ digits k (n / 10) ++ digit (n % 10) ]

unfoldable pub decimal : ℕ → List ℕ
decimal n = digits n n

-- 64 bits as a number, two's complement: from 2^63 on it is negative
unfoldable pub signed : ℕ → List ℕ
signed bits = cond (ltb bits (2 ^ 63)) (decimal bits) (bytes "-" ++ decimal (2 ^ 64 - bits))
