-- Words of rows and of nodes, and the spelling of a row.
use Rattle.std.specs.Prelude.{◌≡◌, List, ℕ, ◌+◌, ◌-◌, ◌*◌, ◌≤◌, length, take, drop, get_or}
use Rattle.rules.specs.Rows.{at_start, at_end}

-- word k of the i-th eight words, and 0 past the last
unfoldable pub word_of : List ℕ → ℕ → ℕ → ℕ
word_of ws i k = get_or ws (i * 8 + k) 0

-- The row r of those that stand in ws lies in the text t, and is spelled w.
pub record SpelledAs (t ws : List ℕ) (r : ℕ) (w : List ℕ) : Type 0 where
  pub order : word_of ws r at_start ≤ word_of ws r at_end
  pub inside : word_of ws r at_end ≤ length t
  pub is : w ≡ take (word_of ws r at_end - word_of ws r at_start) (drop (word_of ws r at_start) t)

-- the number of two words, low and high
abbrev pub number_of : ℕ → ℕ → ℕ
number_of low high = high * 4294967296 + low
