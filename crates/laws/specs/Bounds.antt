-- Lists whose elements lie below a bound: bytes below 256, words below 2^32.
use Rattle.std.specs.Prelude.{List, [], ◌∷◌, ℕ, ◌^◌, ◌<◌}

pub data Below (m : ℕ) : List ℕ → Type 0 where
  none : Below m []
  some : {x : ℕ} {xs : List ℕ} → x < m → Below m xs → Below m (x ∷ xs)

abbrev pub Bytes : List ℕ → Type 0
Bytes = Below 256

abbrev pub Words : List ℕ → Type 0
Words = Below (2 ^ 32)
