-- The old rows that a walk may meet: what stood at x stands at x + least - b, from least on.
use Rattle.std.specs.Prelude.{Bool, true, not, ◌&&◌, List, Result, Ok, Err, ◌≡◌, ℕ, ◌+◌, ◌-◌, ◌≤◌, ◌<◌, length, drop, leb, ltb, is_ok}
use Rattle.rules.specs.Rows.{Row, rows_in}
use Rattle.rules.specs.Edit.{from, some, opens}
use Rattle.rows.specs.Shape.{row_no}

-- the starts of rows do not fall
pub record Rising (ws : List ℕ) (count : ℕ) : Type 0 where
  pub rises : (i j : ℕ) → i ≤ j → j < count → (row_no ws i).start ≤ (row_no ws j).start

-- no row before i meets at an offset from k on
pub record Passed (ws : List ℕ) (least b i k : ℕ) : Type 0 where
  pub below : (j m : ℕ) → j < i → k ≤ m → least ≤ m → (row_no ws j).start + least < m + b

-- r is the first row from i on that starts at x or behind it
pub record Sought (ws : List ℕ) (count i x r : ℕ) : Type 0 where
  pub low : i ≤ r
  pub high : r ≤ count
  pub below : (j : ℕ) → i ≤ j → j < r → (row_no ws j).start < x
  pub stop : r < count → x ≤ (row_no ws r).start

-- an offset is a meeting place for these rows
unfoldable pub meets_at : List Row → (least b : ℕ) → ℕ → Bool
meets_at rows least b m = leb least m && some (from (m + b - least) rows)

-- a walk stops at an offset, before the bytes s
unfoldable pub stops_at : List Row → (least b : ℕ) → ℕ → List ℕ → Bool
stops_at rows least b m s = ltb 0 (length s) && (meets_at rows least b m && not (opens s))

-- how many rows are passed: those before the row that meets, or as many as are told
abbrev pub passed_by : Result ℕ ℕ → ℕ
passed_by (Ok r) = r
passed_by (Err r) = r

-- where a row is looked for at offset k, before the bytes s: so many rows are passed, and r is `Ok` where the next one meets there
pub record Finds (ws : List ℕ) (count least b row k : ℕ) (s : List ℕ) (r : Result ℕ ℕ) : Type 0 where
  pub low : row ≤ passed_by r
  pub high : passed_by r ≤ count
  pub passed : Passed ws least b (passed_by r) k
  pub tells : is_ok r ≡ stops_at (rows_in count ws) least b k s
  pub there : is_ok r ≡ true → from (k + b - least) (rows_in count ws) ≡ drop (passed_by r) (rows_in count ws)
