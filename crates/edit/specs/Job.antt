-- What the parts of the edit call ask and give: an edit whose numbers are sensible, what is seen of its window, and what is written
-- behind the kept rows.
use Rattle.std.specs.Prelude.{◌≡◌, Bool, true, false, cond, not, ◌&&◌, Option, Some, None, List, map, ℕ, ◌+◌, ◌*◌, ◌^◌, ◌≤◌, ◌<◌, length, take, drop, eqb, leb, Err}
use Rattle.rules.specs.declared.Cursor.{Cursor}
use Rattle.rules.specs.Outcomes.{Ending, Told, unread}
use Rattle.rules.specs.declared.Table.{Table}
use Rattle.rules.specs.declared.Outer.TheVariants.{BadByte, WindowShort, NoRowRoom}
use Rattle.rules.specs.Outcomes.{Told}
use Rattle.rules.specs.Text.{most_bytes, start_place, over}
use Rattle.rules.specs.Rows.{Row, rows_in, row_place, well_formed}
use Rattle.rules.specs.Edit.{Seen, kept, restart, new_length, seen, is_short, seen_rows, seen_ending, carry_row, carry_ending, recounted, ends, unjudged, window_bytes, window_valid, window_short, new_rows, new_ending}
use Rattle.rules.specs.Scan.{told, laid}
use Rattle.rows.specs.Shape.{row_no}
use Rattle.edit_carry.specs.Moves.{MovesRow, MovesEnding}
use Rattle.scan_meet.specs.declared.Olds.{Olds}
use Rattle.edit.specs.declared.Job.{Job}
use Rattle.edit_parts.specs.declared.Rest.{Rest}

-- an edit's kept rows, and the place behind them
abbrev pub job_of : List ℕ → Table → (a b n : ℕ) → Job
job_of ws t a b n =
    let rows : List Row = rows_in t.count ws in
    record { table = t; a = a; b = b; n = n; kept = length (kept a rows); begin = restart rows a }

abbrev pub old_rows : List ℕ → Job → List Row
old_rows ws j = rows_in j.table.count ws

abbrev pub size_after : Job → ℕ
size_after j = new_length j.table.length j.a j.b j.n

-- 3 does not hold
pub record Tested (ws : List ℕ) (j : Job) : Type 0 where
  pub fine : well_formed ws j.table ≡ true
  pub kept : j.kept ≡ length (kept j.a (old_rows ws j))
  pub begin : j.begin ≡ restart (old_rows ws j) j.a

-- 3, 6 and 1 do not hold
pub record Ready (ws : List ℕ) (j : Job) (w : List ℕ) : Type 0 where
  pub fine : well_formed ws j.table ≡ true
  pub kept : j.kept ≡ length (kept j.a (old_rows ws j))
  pub begin : j.begin ≡ restart (old_rows ws j) j.a
  pub order : j.a ≤ j.b
  pub inside : j.b ≤ j.table.length
  pub fits : j.begin.offset.0 + length w ≤ size_after j
  pub short : size_after j ≤ most_bytes

-- ---- what is seen of the window

unfoldable pub job_seen : List ℕ → Job → List ℕ → Bool → Seen
job_seen ws j w whole = seen (old_rows ws j) j.table.ending j.a j.b j.n w whole

unfoldable pub job_rows : List ℕ → Job → List ℕ → Bool → List Row
job_rows ws j w whole = seen_rows (old_rows ws j) j.table.ending j.a j.b j.n w (job_seen ws j w whole)

unfoldable pub job_ending : List ℕ → Job → List ℕ → Bool → Ending
job_ending ws j w whole = seen_ending (old_rows ws j) j.table.ending j.a j.b j.n w (job_seen ws j w whole)

-- the old rows that the window may meet
abbrev pub olds_of : Job → Olds
olds_of j = record { count = j.table.count; first = j.kept; least = j.a + j.n; b = j.b }

-- 7 does not hold either
pub record Showing (ws : List ℕ) (j : Job) (w : List ℕ) (whole : Bool) : Type 0 where
  pub ready : Ready ws j w
  pub long : is_short (job_seen ws j w whole) ≡ false

-- ---- what is written behind the kept rows

-- rows and an ending, into room for m
unfoldable pub tail_told : ℕ → List Row → Ending → Option Rest
tail_told m rows e = cond (leb (length rows) m) (Some (record { count = length rows; ending = e })) None

-- the old rows from one on, moved: what stood at that row's start stands at p, with c comments in the gap before it
unfoldable pub rows_behind : List ℕ → Table → ℕ → Cursor → ℕ → List Row
rows_behind ws t row p c = recounted c (map (carry_row (row_place (row_no ws row)) p) (drop row (rows_in t.count ws)))

unfoldable pub ending_behind : List ℕ → Table → ℕ → Cursor → Ending
ending_behind ws t row p = carry_ending (row_place (row_no ws row)) p t.ending

-- old rows from one on can follow at a place, moved
pub record Follows (ws : List ℕ) (t : Table) (row : ℕ) (p : Cursor) : Type 0 where
  pub lent : t.count * 8 ≤ length ws
  pub there : row < t.count
  pub rows : (i : ℕ) → row ≤ i → i < t.count → MovesRow (row_place (row_no ws row)) p (row_no ws i)
  pub ending : MovesEnding (row_place (row_no ws row)) p t.ending

-- ---- what is told

-- 7, 2, 7, and then 4 against lexical refusals: the rest of the edit's order
unfoldable pub reread_told : List ℕ → Job → List ℕ → ℕ → Told
reread_told ws j w m =
    let len : ℕ = j.table.length in
    let whole : Bool = ends (old_rows ws j) len j.a j.b j.n w in
    cond (unjudged (old_rows ws j) len j.a j.b j.n w) (Err (unread WindowShort start_place 0))
    (cond (not (window_valid whole w)) (Err (unread BadByte (over (restart (old_rows ws j) j.a) (take (window_bytes whole w) w)) 0))
    (cond (window_short (old_rows ws j) j.table.ending len j.a j.b j.n w) (Err (unread WindowShort start_place 0))
    (told (size_after j) m (new_rows (old_rows ws j) j.table.ending j.a j.b j.n w whole)
    (new_ending (old_rows ws j) j.table.ending j.a j.b j.n w whole))))

unfoldable pub reread_leaves : List ℕ → Job → List ℕ → List ℕ → List ℕ
reread_leaves ws j w new =
    let len : ℕ = j.table.length in
    let whole : Bool = ends (old_rows ws j) len j.a j.b j.n w in
    cond (unjudged (old_rows ws j) len j.a j.b j.n w) new
    (cond (not (window_valid whole w)) new
    (cond (window_short (old_rows ws j) j.table.ending len j.a j.b j.n w) new
    (laid (new_rows (old_rows ws j) j.table.ending j.a j.b j.n w whole) new)))
