-- The scan of a text into rows and ending, and what a scan with so much room answers and leaves in lent memory.
use Rattle.std.specs.Prelude.{cond, List, [], ◌∷◌, ◌++◌, ℕ, zero, suc, pred, ◌+◌, ◌*◌, ◌/◌, min, length, take, drop, leb, Ok, Err, None, Some}
use Rattle.rules.specs.declared.Cursor.{Cursor}
use Rattle.rules.specs.declared.Lexical.{Lexical}
use Rattle.rules.specs.Outcomes.{Ending, halt, Told, unread}
use Rattle.rules.specs.declared.Outer.TheVariants.{NoRowRoom}
use Rattle.rules.specs.Text.{place_at, start_place, text_judged}
use Rattle.rules.specs.Rows.{Row, row_at, eof_row, words_of, words_per_row}
use Rattle.rules.specs.Lex.{blank, comment, row, refused, piece}

-- A reading: rows, and then the end, which Eof's row stands before, or a refusal with its place and the offset of its deciding byte.
pub data Reading : Type 0 where
  put : Row → Reading → Reading
  ends : Reading
  stops : (why : Lexical) (place : Cursor) (decided : ℕ) → Reading

unfoldable pub read_rows : Reading → List Row
read_rows (put r l) = r ∷ read_rows l
read_rows ends = []
read_rows (stops why p d) = []

unfoldable pub read_ending : Reading → Ending
read_ending (put r l) = read_ending l
read_ending ends = None
read_ending (stops why p d) = Some (halt why p)

-- The bytes from offset k on, of which the first n belong to the piece that was read last; c comments stand in the gap behind the last
-- row so far. `pos` gives places.
module _ (pos : ℕ → Cursor) where
  unfoldable pub read : (c n k : ℕ) → List ℕ → Reading
  read c n k [] = put (eof_row (pos k) c) ends
  read c (suc n) k (b ∷ s) = read c n (suc k) s
  read c zero k (b ∷ s) =
      elim (piece (b ∷ s)) [
        | blank ↦ read c zero (suc k) s
        | comment n d ↦ read (suc c) (pred n) (suc k) s
        | row kind n bits d ↦ put (row_at (pos k) c kind (k + n) bits) (read zero (pred n) (suc k) s)
        | refused why p d ↦ stops why (pos (k + p)) (k + d)
      ]

unfoldable pub scan : List ℕ → Reading
scan t = read (place_at t) 0 0 0 t

-- ---- the answer, and the lent words afterwards

-- Room is whole rows; a remainder is never written.
unfoldable pub room_of : List ℕ → ℕ
room_of ws = length ws / words_per_row

-- "4 standing where the row that finds no room is complete": the rows of a text of n bytes, into room for m
unfoldable pub told : ℕ → ℕ → List Row → Ending → Told
told n m rows e =
    cond (leb (length rows) m) (Ok (record { count = length rows; length = n; ending = e })) (Err (unread NoRowRoom start_place m))

-- as many rows as there is room for, and then what was there
unfoldable pub laid : List Row → List ℕ → List ℕ
laid rows ws = words_of (take (room_of ws) rows) ++ drop (words_per_row * min (room_of ws) (length rows)) ws

-- Scan order: 1, 2, then reading order.
unfoldable pub scan_told : List ℕ → ℕ → Told
scan_told t m =
    elim (text_judged t) [
      | Ok _ ↦ told (length t) m (read_rows (scan t)) (read_ending (scan t))
      | Err e ↦ Err (unread e.why e.at 0)
    ]

-- 1, 2: rows untouched
unfoldable pub scan_leaves : List ℕ → List ℕ → List ℕ
scan_leaves t ws = elim (text_judged t) [ Ok _ ↦ laid (read_rows (scan t)) ws | Err e ↦ ws ]
