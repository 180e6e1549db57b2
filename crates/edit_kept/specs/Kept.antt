-- When rows can be found by their ends, and when the place behind a row fits.
use Rattle.std.specs.Prelude.{List, ℕ, ◌+◌, ◌-◌, ◌^◌, ◌≤◌, ◌<◌}
use Rattle.rules.specs.Rows.{Row}
use Rattle.rows.specs.Shape.{row_no}

-- the ends of rows do not fall
pub record EndsRise (ws : List ℕ) (count : ℕ) : Type 0 where
  pub rises : (i j : ℕ) → i ≤ j → j < count → (row_no ws i).end ≤ (row_no ws j).end

-- the last of n rows ends behind its start, and the column behind it fits
pub record Ended (r : Row) : Type 0 where
  pub ordered : r.start ≤ r.end
  pub room : r.column + (r.end - r.start) < 2 ^ 32
