-- The kind that the first section gives, and the last licence's row.
use Rattle.std.specs.Prelude.{cond, Option, Some, None, List, [], ◌∷◌, ℕ, ◌+◌, ◌-◌, ◌*◌, ◌≤◌, eqb, length, get_or, take, drop}
use Rattle.rules.specs.Rows.{at_end, at_start, words_per_row}
use Rattle.rules.specs.Sets.{from_section}
use Rattle.rules.specs.Tree.{section_text}
use Rattle.rules.specs.Nodes.{missing}

-- the first section's kind
unfoldable pub kind_from : List (List ℕ) → Option ℕ
kind_from [] = None
kind_from (w ∷ ws) = Some (from_section (section_text w))

-- the first of two kinds
abbrev pub first_of : Option ℕ → Option ℕ → Option ℕ
first_of None y = y
first_of (Some x) y = Some x

-- the row that a number tells
abbrev pub row_told : ℕ → Option ℕ
row_told r = cond (eqb r missing) None (Some r)

-- the last of two rows
abbrev pub last_row : Option ℕ → Option ℕ → Option ℕ
last_row x None = x
last_row x (Some y) = Some y

-- the spelling of row i
abbrev pub spelt : List ℕ → List ℕ → ℕ → List ℕ
spelt t ws i =
    take (get_or ws (i * words_per_row + at_end) 0 - get_or ws (i * words_per_row + at_start) 0) (drop (get_or ws (i * words_per_row + at_start) 0) t)

-- row i is a string's
pub record AsksString (t ws : List ℕ) (i : ℕ) : Type 0 where
  pub lent : i * 8 + 8 ≤ length ws
  pub order : get_or ws (i * words_per_row + at_start) 0 + 2 ≤ get_or ws (i * words_per_row + at_end) 0
  pub inside : get_or ws (i * words_per_row + at_end) 0 ≤ length t
