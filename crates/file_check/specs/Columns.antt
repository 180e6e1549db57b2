-- The bytes of a block in strips, lists of numbers added place by place, and bounds of their numbers.
use Rattle.std.specs.Prelude.{◌≡◌, List, [], ◌∷◌, ℕ, ◌+◌, ◌≤◌, take, drop, get_or}

-- the 64 bytes from one on
abbrev pub strip : ℕ → List ℕ → List ℕ
strip at s = take 64 (drop at s)

-- a list on the front of another, place by place
unfoldable pub plus : List ℕ → List ℕ → List ℕ
plus [] ys = []
plus (x ∷ xs) [] = x ∷ xs
plus (x ∷ xs) (y ∷ ys) = (x + y) ∷ plus xs ys

-- all numbers of a list together
unfoldable pub total : List ℕ → ℕ
total [] = 0
total (x ∷ xs) = x + total xs

-- no number is larger than m
pub record Within (m : ℕ) (xs : List ℕ) : Type 0 where
  pub at : (i : ℕ) → get_or xs i 0 ≤ m

-- bytes were added to sums, and no byte is larger than 255
pub record Added (sums bytes after : List ℕ) : Type 0 where
  pub is : after ≡ plus sums bytes
  pub few : Within 255 bytes
