-- What the functions over the rows of two texts ask.
use Rattle.std.specs.Prelude.{List, ℕ, ◌+◌, ◌-◌, ◌*◌, ◌≤◌, length}

-- for the kind of a row of both: the prelude's rows are lent, and the probe's up to this one
pub record AsksKind (pws : List ℕ) (count : ℕ) (ws : List ℕ) (row : ℕ) : Type 0 where
  pub of_prelude : count * 8 ≤ length pws
  pub of_probe : (row + 1 - count) * 8 ≤ length ws
