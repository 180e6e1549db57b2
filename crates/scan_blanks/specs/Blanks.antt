-- Blanks at a spot, and four bytes as one number.
use Rattle.std.specs.Prelude.{◌≡◌, List, ℕ, ◌+◌, ◌*◌, ◌≤◌, drop, get_or}
use Rattle.rules.specs.Text.{front, is_blank}
use Rattle.scan_reader.specs.declared.Spot.{Spot}
use Rattle.scan_reader.specs.Read.{onward, Ahead}

-- how many blanks stand at the front
unfoldable pub blanks : List ℕ → ℕ
blanks s = front is_blank s

-- a spot among blanks: the blanks from there on lead to where those from the first spot on lead
pub record Blanked (t : List ℕ) (from here : Spot) : Type 0 where
  pub ahead : Ahead t here
  pub behind : from.at ≤ here.at
  pub ends : onward t here (blanks (drop here.at t)) ≡ onward t from (blanks (drop from.at t))

-- the number of four bytes, the first of them the least
pub record Four (t : List ℕ) (at n : ℕ) : Type 0 where
  pub sum : n ≡ (get_or t at 0 + get_or t (at + 1) 0 * 256) + (get_or t (at + 2) 0 * 65536 + get_or t (at + 3) 0 * 16777216)
  pub bytes : (get_or t at 0 ≤ 255) × (get_or t (at + 1) 0 ≤ 255) × (get_or t (at + 2) 0 ≤ 255) × (get_or t (at + 3) 0 ≤ 255)
