-- Token lists as rows give them. A name, a string and a number are never given as a bare sign; a table that is not refused has one
-- Eof, its last.
use Rattle.std.specs.Prelude.{◌≡◌, Bool, true, not, ◌||◌, List, ℕ, ◌+◌, ◌<◌, eqb, length}
use Rattle.rules.specs.Kinds.{Identifier, StringLiteral, Number, Eof}
use Rattle.rules.specs.Tree.{Tok, sign, name, string, value}
use Rattle.rules.specs.Parse.{tok_at, kind_at}

-- a kind that says all of its row
abbrev pub is_sign : ℕ → Bool
is_sign k = not ((eqb k Identifier || eqb k StringLiteral) || eqb k Number)

unfoldable pub is_proper : Tok → Bool
is_proper (sign k) = is_sign k
is_proper (name w) = true
is_proper (string w) = true
is_proper (value v) = true

pub record Proper (ts : List Tok) : Type 0 where
  pub at : (i : ℕ) → is_proper (tok_at ts i) ≡ true

pub record Whole (ts : List Tok) : Type 0 where
  pub proper : Proper ts
  pub last : ℕ
  pub long : length ts ≡ last + 1
  pub closed : kind_at ts last ≡ Eof
  pub only : (i : ℕ) → i < last → kind_at ts i ≡ Eof → ⊥
