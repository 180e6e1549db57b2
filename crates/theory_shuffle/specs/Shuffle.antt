-- Entries of two words that are exchanged, again and again: the same entries in another order.
use Rattle.std.specs.Prelude.{ℕ, suc, ◌+◌, ◌*◌, ◌≤◌, ◌<◌, ◌≡◌, Bool, false, List, get_or, set}

-- entries i and j exchanged
unfoldable pub exchanged : (i j : ℕ) → List ℕ → List ℕ
exchanged i j ws =
    set (set (set (set ws (2 * i) (get_or ws (2 * j) 0)) (2 * i + 1) (get_or ws (2 * j + 1) 0)) (2 * j) (get_or ws (2 * i) 0)) (2 * j + 1)
    (get_or ws (2 * i + 1) 0)

-- some of the first n entries exchanged, any number of times
pub data Shuffled (n : ℕ) (ws : List ℕ) : List ℕ → Type 0 where
  s_none : Shuffled n ws ws
  s_more : {vs : List ℕ} (i j : ℕ) → i < n → j < n → Shuffled n ws vs → Shuffled n ws (exchanged i j vs)

-- the row of entry k
abbrev pub row_at : List ℕ → ℕ → ℕ
row_at ws k = get_or ws (2 * k) 0

-- Rows are ordered by a test of which comes before which.
module _ (before : ℕ → ℕ → Bool) where
  -- of the first n entries none comes before the one in front of it
  pub record Ordered (ws : List ℕ) (n : ℕ) : Type 0 where
    pub each : (k : ℕ) → suc k < n → before (row_at ws (suc k)) (row_at ws k) ≡ false

  -- Entry j is on its way down from i: in front of it and after it the entries are ordered, it does not come after the next one, and its
  -- neighbours are ordered too.
  pub record Settling (ws : List ℕ) (i j : ℕ) : Type 0 where
    pub inside : j ≤ i
    pub low : (k : ℕ) → suc k < j → before (row_at ws (suc k)) (row_at ws k) ≡ false
    pub high : (k : ℕ) → j < k → k < i → before (row_at ws (suc k)) (row_at ws k) ≡ false
    pub next : j < i → before (row_at ws (suc j)) (row_at ws j) ≡ false
    pub over : (k : ℕ) → suc k ≡ j → j < i → before (row_at ws (suc j)) (row_at ws k) ≡ false
