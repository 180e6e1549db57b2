-- Bytes that are written into lent memory one behind the other, as far as it goes, and how many a listing may have.
use Rattle.std.specs.Prelude.{◌≡◌, ℕ, ◌+◌, ◌≤◌, min, List, ◌++◌, length, take, drop}

-- bytes laid over memory from its start on, as far as it goes
unfoldable pub over : List ℕ → List ℕ → List ℕ
over bs old = take (length old) bs ++ drop (length bs) old

-- What was `old` is now `out`: these bytes lie over it, and `at` is where they end.
pub record Shows (old bs out : List ℕ) (at : ℕ) : Type 0 where
  pub laid : out ≡ over bs old
  pub ends : at ≡ min (length bs) (length old)

-- From `out` and `at` to `out'` and `at'` the bytes bs are written behind whatever was written before.
pub record Adds (bs out : List ℕ) (at : ℕ) (out' : List ℕ) (at' : ℕ) : Type 0 where
  pub more : (old done : List ℕ) → Shows old done out at → Shows old (done ++ bs) out' at'

-- `&xs[..n]` is in bounds and has n bytes. The second part follows from the first, and spares a caller's `&xs[..n]` a proof file.
abbrev pub IsPrefixLen : ℕ → List ℕ → Type 0
IsPrefixLen n xs = (n ≤ length xs) × (n ≡ length (take n xs))

-- ---- how many bytes there may be: of the rows with their heading, of the nodes with theirs, of a refusal, and of a whole listing

abbrev pub most_of_rows : ℕ
most_of_rows = 163000

abbrev pub most_of_nodes : ℕ
most_of_nodes = 187000

abbrev pub most_of_refusal : ℕ
most_of_refusal = 60

abbrev pub most_listing : ℕ
most_listing = most_of_rows + most_of_nodes
