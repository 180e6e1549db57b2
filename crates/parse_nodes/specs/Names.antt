-- Tokens that the rows and the text tell, spellings included.
use Rattle.std.specs.Prelude.{◌≡◌, List, ℕ, ◌+◌, ◌-◌, ◌*◌, ◌≤◌, ◌<◌, length, get_or, take, drop}
use Rattle.rules.specs.Rows.{at_end, at_start, words_per_row}
use Rattle.rules.specs.Kinds.{Identifier, StringLiteral, Eof}
use Rattle.rules.specs.Tree.{Tok, sign, spelling_of}
use Rattle.parse_nodes.specs.Post.{Tells}

-- The tokens are those of n rows that stand in ws, over the text t.
pub record Names (ts : List Tok) (t ws : List ℕ) (n : ℕ) : Type 0 where
  pub tells : Tells ts ws n
  pub names : (i : ℕ) → i < n → get_or ws (i * words_per_row) 0 ≡ Identifier → spelling_of (get_or ts i (sign Eof)) ≡ take (get_or ws (i * words_per_row + at_end) 0 - get_or ws (i * words_per_row + at_start) 0) (drop (get_or ws (i * words_per_row + at_start) 0) t)
  pub strings : (i : ℕ) → i < n → get_or ws (i * words_per_row) 0 ≡ StringLiteral → spelling_of (get_or ts i (sign Eof)) ≡ take (get_or ws (i * words_per_row + at_end) 0 - get_or ws (i * words_per_row + at_start) 0) (drop (get_or ws (i * words_per_row + at_start) 0) t)

-- every row's spelling lies inside the text, and a string's has two bytes or more
pub record Spans (t ws : List ℕ) (n : ℕ) : Type 0 where
  pub order : (i : ℕ) → i < n → get_or ws (i * words_per_row + at_start) 0 ≤ get_or ws (i * words_per_row + at_end) 0
  pub inside : (i : ℕ) → i < n → get_or ws (i * words_per_row + at_end) 0 ≤ length t
  pub quotes : (i : ℕ) → i < n → get_or ws (i * words_per_row) 0 ≡ StringLiteral → get_or ws (i * words_per_row + at_start) 0 + 2 ≤ get_or ws (i * words_per_row + at_end) 0
