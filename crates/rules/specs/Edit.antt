-- "The edit": from the old table, the places and a window of the new text, the new table.
-- Old bytes a to b (b not included) become n new bytes.
use Rattle.std.specs.Prelude.{Result, Ok, Err, Bool, true, false, cond, not, ◌&&◌, ◌||◌, List, [], ◌∷◌, ◌++◌, map, ℕ, zero, suc, pred, ◌+◌, ◌-◌, length, take, eqb, leb, ltb, None, Some}
use Rattle.rules.specs.declared.Cursor.{Cursor}
use Rattle.rules.specs.Outcomes.{Ending, halt, Told, unread}
use Rattle.rules.specs.declared.Table.{Table}
use Rattle.rules.specs.declared.Outer.{Outer}
use Rattle.rules.specs.declared.Outer.TheVariants.{TextTooLong, BadByte, NotWellFormed, EditNotSensible, WindowShort}
use Rattle.rules.specs.Text.{byte, most_bytes, valid_bytes, cut_bytes, is_blank, place, start_place, over}
use Rattle.rules.specs.Rows.{Row, row_at, eof_row, row_place, rows_in, well_formed}
use Rattle.rules.specs.Lex.{blank, comment, row, refused, known, end, unknown, item}
use Rattle.rules.specs.Scan.{told, laid}

-- ---- kept rows and the restart place

-- Kept rows are those with end below a; rows are in order, so they are the first ones.
unfoldable pub kept : ℕ → List Row → List Row
kept a [] = []
kept a (r ∷ rs) = cond (ltb r.end a) (r ∷ kept a rs) []

-- no row holds a newline, so it ends on its line
unfoldable pub end_place : Row → Cursor
end_place r = place r.end r.line (r.column + (r.end - r.start))

-- Reading restarts at the last kept row's end (0 if none), at its line and column.
unfoldable pub last_end : Cursor → List Row → Cursor
last_end p [] = p
last_end p (r ∷ rs) = last_end (end_place r) rs

unfoldable pub restart : List Row → ℕ → Cursor
restart rows a = last_end start_place (kept a rows)

-- ---- what the window shows

-- a gap goes on: a blank, or the first two bytes of a comment; a `/` last in the window opens none
unfoldable pub slash_or_star : List ℕ → Bool
slash_or_star [] = false
slash_or_star (b ∷ s) = eqb b (byte "/") || eqb b (byte "*")

unfoldable pub opens : List ℕ → Bool
opens [] = false
opens (b ∷ s) = is_blank b || (eqb b (byte "/") && slash_or_star s)

-- rows, and then: the scan is over with an ending, it meets old rows at an offset, with so many comments in the gap before it, or the
-- window is short
pub data Seen : Type 0 where
  sees : Row → Seen → Seen
  over' : Ending → Seen
  met : (offset comments : ℕ) → Seen
  short : Seen

-- The window from offset k on, of which the first n bytes belong to the piece that was read last; c comments stand in the gap behind the
-- last row so far. `pos` gives places, `meet` says
-- at which offsets an old row starts, moved; whole: the window ends the text.
module _ (pos : ℕ → Cursor) (meet : ℕ → Bool) (whole : Bool) where
  unfoldable pub look : (c n k : ℕ) → List ℕ → Seen
  look c n k [] = cond whole (sees (eof_row (pos k) c) (over' None)) short
  look c (suc n) k (b ∷ s) = look c n (suc k) s
  look c zero k (b ∷ s) =
      elim (meet k && not (opens (b ∷ s))) [
        | true ↦ met k c
        | false ↦ elim (item whole (b ∷ s)) [
          | known p ↦ elim p [
            | blank ↦ look c zero (suc k) s
            | comment n d ↦ look (suc c) (pred n) (suc k) s
            | row kind n bits d ↦ sees (row_at (pos k) c kind (k + n) bits) (look zero (pred n) (suc k) s)
            | refused why p d ↦ over' (Some (halt why (pos (k + p))))
          ]
          | end ↦ short
          | unknown ↦ short
        ]
      ]

unfoldable pub is_short : Seen → Bool
is_short (sees r s) = is_short s
is_short (over' e) = false
is_short (met m c) = false
is_short short = true

-- ---- what follows a meeting place

-- the rows from the one that starts at m on
unfoldable pub from : ℕ → List Row → List Row
from m [] = []
from m (r ∷ rs) = cond (eqb r.start m) (r ∷ rs) (from m rs)

unfoldable pub some : List Row → Bool
some [] = false
some (r ∷ rs) = true

unfoldable pub first_place : List Row → Cursor
first_place [] = start_place
first_place (r ∷ rs) = row_place r

-- Moved, where what stood at o stands at p: offset by the change, line by the difference at the meeting row, column only on that
-- row's old line.
unfoldable pub carry : Cursor → Cursor → Cursor → Cursor
carry o p q =
    place (q.offset.0 + p.offset.0 - o.offset.0) (q.line.0 + p.line.0 - o.line.0)
    (cond (eqb q.line.0 o.line.0) (q.column.0 + p.column.0 - o.column.0) q.column.0)

unfoldable pub carry_row : Cursor → Cursor → Row → Row
carry_row o p r = record {
  kind = r.kind;
  start = (carry o p (row_place r)).offset.0;
  end = r.end + p.offset.0 - o.offset.0;
  line = (carry o p (row_place r)).line.0;
  column = (carry o p (row_place r)).column.0;
  low = r.low;
  high = r.high;
  comments = r.comments;
}

-- For the meeting row the count is of the new gap.
unfoldable pub with_comments : ℕ → Row → Row
with_comments c r = record {
  kind = r.kind;
  start = r.start;
  end = r.end;
  line = r.line;
  column = r.column;
  low = r.low;
  high = r.high;
  comments = c;
}

unfoldable pub recounted : ℕ → List Row → List Row
recounted c [] = []
recounted c (r ∷ rs) = with_comments c r ∷ rs

unfoldable pub carry_ending : Cursor → Cursor → Ending → Ending
carry_ending o p None = None
carry_ending o p (Some e) = Some (halt e.why (carry o p e.at))

-- ---- the new table

module _ (rows : List Row) (e : Ending) (a b n : ℕ) (w : List ℕ) where
  -- the old offset of what stands at m, from a + n on
  abbrev pub old_offset : ℕ → ℕ
  old_offset m = m + b - (a + n)

  -- A meeting place is at least a + n and an old row's start, moved by the change in length.
  unfoldable pub meets : ℕ → Bool
  meets m = leb (a + n) m && some (from (old_offset m) rows)

  abbrev pub begins : Cursor
  begins = restart rows a

  -- the place at offset k of the window, which starts at the restart place
  unfoldable pub window_place : ℕ → Cursor
  window_place k = over begins (take (k - begins.offset.0) w)

  -- From a meeting place on old rows and a refused ending follow, moved.
  unfoldable pub seen_rows : Seen → List Row
  seen_rows (sees r s) = r ∷ seen_rows s
  seen_rows (over' x) = []
  seen_rows (met m c) =
      recounted c (map (carry_row (first_place (from (old_offset m) rows)) (window_place m)) (from (old_offset m) rows))
  seen_rows short = []

  unfoldable pub seen_ending : Seen → Ending
  seen_ending (sees r s) = seen_ending s
  seen_ending (over' x) = x
  seen_ending (met m c) = carry_ending (first_place (from (old_offset m) rows)) (window_place m) e
  seen_ending short = None

  -- whole: the window ends the text
  unfoldable pub seen : Bool → Seen
  seen whole = look window_place meets whole 0 0 begins.offset.0 w

  -- The new scan's rows stand behind the kept ones.
  unfoldable pub new_rows : Bool → List Row
  new_rows whole = kept a rows ++ seen_rows (seen whole)

  unfoldable pub new_ending : Bool → Ending
  new_ending whole = seen_ending (seen whole)

-- ---- the call

-- the new text's length
unfoldable pub new_length : ℕ → ℕ → ℕ → ℕ → ℕ
new_length len a b n = len - (b - a) + n

-- 6: a > b, b over old length, window not starting at the restart place or running past the new text
unfoldable pub sensible : List Row → (len a b n start : ℕ) → List ℕ → Bool
sensible rows len a b n start w =
    (leb a b && leb b len) && (eqb start (restart rows a).offset.0 && leb (start + length w) (new_length len a b n))

-- the window ends the new text
abbrev pub ends : List Row → (len a b n : ℕ) → List ℕ → Bool
ends rows len a b n w = eqb ((restart rows a).offset.0 + length w) (new_length len a b n)

-- so many bytes behind the new ones a window must show, that it can be judged
abbrev pub judging : ℕ
judging = 4

-- 7 before 2: the window ends before a + n + 4 and doesn't end the text
unfoldable pub unjudged : List Row → (len a b n : ℕ) → List ℕ → Bool
unjudged rows len a b n w = ltb ((restart rows a).offset.0 + length w) (a + n + judging) && not (ends rows len a b n w)

-- how far a window is valid: a character that its end cuts is not held against it, unless it ends the text
unfoldable pub window_bytes : Bool → List ℕ → ℕ
window_bytes whole w = cond whole (valid_bytes w) (cut_bytes w)

unfoldable pub window_valid : Bool → List ℕ → Bool
window_valid whole w = eqb (window_bytes whole w) (length w)

-- 7 behind 2: the window doesn't end the text and shows neither a meeting place nor a refusal with its deciding byte
unfoldable pub window_short : List Row → Ending → (len a b n : ℕ) → List ℕ → Bool
window_short rows e len a b n w = is_short (seen rows e a b n w (ends rows len a b n w))

-- Order: 3, 6, 1, 7, 2, 7, then 4 against lexical refusals as in a scan. `ws` holds the old rows, m rows may be written.
unfoldable pub edit_told : List ℕ → Table → (a b n start : ℕ) → List ℕ → ℕ → Told
edit_told ws t a b n start w m =
    let rows : List Row = rows_in t.count ws in
    cond (not (well_formed ws t)) (Err (unread NotWellFormed start_place 0))
    (cond (not (sensible rows t.length a b n start w)) (Err (unread EditNotSensible start_place 0))
    (cond (ltb most_bytes (new_length t.length a b n)) (Err (unread TextTooLong start_place 0))
    (cond (unjudged rows t.length a b n w) (Err (unread WindowShort start_place 0))
    (cond (not (window_valid (ends rows t.length a b n w) w))
    (Err (unread BadByte (over (restart rows a) (take (window_bytes (ends rows t.length a b n w) w) w)) 0))
    (cond (window_short rows t.ending t.length a b n w) (Err (unread WindowShort start_place 0))
    (told (new_length t.length a b n) m (new_rows rows t.ending a b n w (ends rows t.length a b n w))
    (new_ending rows t.ending a b n w (ends rows t.length a b n w))))))))

-- 1, 2, 3, 6 and 7 leave the new table untouched; 4 leaves it as a scan's 4 does
unfoldable pub edit_leaves : List ℕ → Table → (a b n start : ℕ) → List ℕ → List ℕ → List ℕ
edit_leaves ws t a b n start w new =
    let rows : List Row = rows_in t.count ws in
    cond (not (well_formed ws t)) new
    (cond (not (sensible rows t.length a b n start w)) new
    (cond (ltb most_bytes (new_length t.length a b n)) new
    (cond (unjudged rows t.length a b n w) new
    (cond (not (window_valid (ends rows t.length a b n w) w)) new
    (cond (window_short rows t.ending t.length a b n w) new
    (laid (new_rows rows t.ending a b n w (ends rows t.length a b n w)) new))))))

-- where the window of an edit at a must start: 3, then 6 where a is over the old length
unfoldable pub restart_told : List ℕ → Table → ℕ → Result Cursor Outer
restart_told ws t a =
    cond (not (well_formed ws t)) (Err NotWellFormed)
    (cond (ltb t.length a) (Err EditNotSensible) (Ok (restart (rows_in t.count ws) a)))
