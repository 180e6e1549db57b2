-- What the code asks of the part of a text that it has passed.
use Rattle.std.specs.Prelude.{List, ◌≡◌, ℕ, ◌+◌, ◌≤◌, length, drop}
use Rattle.rules.specs.Text.{valid_bytes}

-- the bytes from one index to another are characters
pub record Passed (t : List ℕ) (i j : ℕ) : Type 0 where
  pub behind : i ≤ j
  pub inside : j ≤ length t
  pub valid : i + valid_bytes (drop i t) ≡ j + valid_bytes (drop j t)
