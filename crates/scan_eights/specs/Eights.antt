-- Bytes as one number, and the mark of a byte that belongs to no word.
use Rattle.std.specs.Prelude.{cond, List, [], ◌∷◌, ℕ, ◌+◌, ◌*◌}
use Rattle.rules.specs.Lex.{is_word}

-- the first byte is the lowest
unfoldable pub number_of : List ℕ → ℕ
number_of [] = 0
number_of (b ∷ s) = number_of s * 256 + b

-- the highest bit of a byte that is no letter, no digit and no underscore
unfoldable pub end_mark : ℕ → ℕ
end_mark b = cond (is_word b) 0 128
