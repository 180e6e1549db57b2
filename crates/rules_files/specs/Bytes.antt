-- "all numbers little-endian": numbers in bytes, the lowest first, and words in four bytes each.
use Rattle.std.specs.Prelude.{List, [], ◌∷◌, ◌++◌, ℕ, zero, suc, ◌+◌, ◌*◌, ◌/◌, ◌%◌, take, drop}

-- a number in so many bytes
unfoldable pub little : ℕ → ℕ → List ℕ
little zero x = []
little (suc n) x = (x % 256) ∷ little n (x / 256)

-- the number of some bytes
unfoldable pub number : List ℕ → ℕ
number [] = 0
number (b ∷ s) = b + 256 * number s

-- the number in n bytes from byte i on
unfoldable pub number_at : ℕ → ℕ → List ℕ → ℕ
number_at n i s = number (take n (drop i s))

-- "in four bytes each"
abbrev pub word_bytes : ℕ
word_bytes = 4

unfoldable pub bytes_of : List ℕ → List ℕ
bytes_of [] = []
bytes_of (w ∷ ws) = little word_bytes w ++ bytes_of ws

-- the first n words of some bytes
unfoldable pub words_in : ℕ → List ℕ → List ℕ
words_in zero s = []
words_in (suc n) s = number (take word_bytes s) ∷ words_in n (drop word_bytes s)
