-- A row in code and the rules' row; tables of lengths; what stands at row i of a table, and behind its last row.
use Rattle.std.specs.Prelude.{◌≡◌, ℕ, ◌-◌, ◌^◌, ◌<◌, ◌≤◌, Bool, true, cond, not, ◌&&◌, List, [], ◌==◌, nat_le, nat_lt, slice_index}
use Rattle.rules.specs.declared.Cursor.{Cursor}
use Rattle.rules.specs.Kinds.{Eof, is_made}
use Rattle.rules.specs.Rows
pub use Rattle.rules.specs.Rows.{row_no}
use Rattle.rules.specs.Rows.{row_in, row_place, length_fits, row_fits, follows, gap_fits, lines_fit, place_fits, is_eof}
use Rattle.rows.specs.declared.shape.Row.{Row}

abbrev pub as_row : Row → Rows.Row
as_row r = record {
  kind = r.kind;
  start = r.start;
  end = r.end;
  line = r.line;
  column = r.column;
  low = r.low;
  high = r.high;
  comments = r.comments;
}

-- the entries of a kind say how long its spelling is at least and how many lengths it may have from there on, none where it is not made
pub record LengthTable (least span : List ℕ) : Type 0 where
  pub fits : (k n : ℕ) → k ≤ Eof → n < 2 ^ 32 → (nat_le (slice_index least k) n && nat_lt (n - slice_index least k) (slice_index span k)) ≡ (is_made k && length_fits k n)

-- a place stands behind a row
unfoldable pub behind : Rows.Row → Cursor → Bool
behind r p = nat_le r.end p.offset.0 && lines_fit (row_place r) p

-- the row before row i, and before the first a row of zeros
unfoldable pub row_before : List ℕ → ℕ → Rows.Row
row_before ws i = cond (i == 0) (row_in []) (row_no ws (i - 1))

-- row q follows row r, and its comments fit the gap between them
unfoldable pub fits_after : Rows.Row → Rows.Row → Bool
fits_after r q = follows r q && gap_fits r.end q

-- row q is no Eof, fits by itself and after row r
unfoldable pub stands_on : Rows.Row → Rows.Row → Bool
stands_on r q = not (is_eof q) && (row_fits q && fits_after r q)

-- row i fits after the row before it; the first row's gap starts at 0
unfoldable pub joined : List ℕ → ℕ → Bool
joined ws i = cond (i == 0) (gap_fits 0 (row_no ws i)) (fits_after (row_no ws (i - 1)) (row_no ws i))

-- row i fits where it stands, and is not Eof
unfoldable pub stands : List ℕ → ℕ → Bool
stands ws i = (not (is_eof (row_no ws i)) && row_fits (row_no ws i)) && joined ws i

-- row i fits where it stands, and is Eof at n
unfoldable pub closes : List ℕ → ℕ → ℕ → Bool
closes ws n i = ((is_eof (row_no ws i) && (row_no ws i).start == n) && row_fits (row_no ws i)) && joined ws i

-- a place fits behind so many rows, within n
unfoldable pub breaks : List ℕ → ℕ → ℕ → Cursor → Bool
breaks ws n count p = (nat_le p.offset.0 n && place_fits p) && cond (count == 0) true (behind (row_no ws (count - 1)) p)
