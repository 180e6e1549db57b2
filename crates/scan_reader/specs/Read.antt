-- Spots moved over bytes.
use Rattle.std.specs.Prelude.{List, ℕ, ◌+◌, ◌-◌, ◌≤◌, length, take, drop}
use Rattle.rules.specs.Text.{over, Roomy}
use Rattle.scan_reader.specs.declared.Spot.{Spot}

-- the spot n bytes on
unfoldable pub onward : List ℕ → Spot → ℕ → Spot
onward t s n = record { at = s.at + n; cursor = over s.cursor (take n (drop s.at t)) }

-- the spot lies in the bytes, and its counters have room for what is ahead
pub record Ahead (t : List ℕ) (s : Spot) : Type 0 where
  pub inside : s.at ≤ length t
  pub roomy : Roomy (length t - s.at) s.cursor
