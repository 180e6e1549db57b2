-- A walk over bytes that begin at a place: the rows that it passes, and how it stops. It is what the rules' `look` sees.
use Rattle.std.specs.Prelude.{Bool, List, [], ◌∷◌, ℕ, ◌+◌, ◌-◌, ◌*◌, ◌≤◌, ◌<◌, length, take, drop}
use Rattle.rules.specs.declared.Cursor.{Cursor}
use Rattle.rules.specs.Text.{over, front, not_newline, Roomy, along, is_blank}
use Rattle.rules.specs.Rows.{Row, rows_in, row_at, eof_row, row_words, words_per_row}
use Rattle.rules.specs.declared.Lexical.{Lexical}
use Rattle.rules.specs.Scan.{room_of}
use Rattle.rules.specs.Edit.{Seen, sees, over', met, short, look, from}
use Rattle.scan_reader.specs.declared.Spot.{Spot}
use Rattle.scan_reader.specs.Read.{onward, Ahead}
use Rattle.scan_reader.specs.declared.Brief.{Brief}
use Rattle.scan_reader.specs.Brief.{Blank, Line}
use Rattle.scan_meet.specs.declared.Olds.{Olds}
use Rattle.scan_meet.specs.Meeting.{Rising, Passed, meets_at}
use Rattle.scan_stop.specs.declared.Stop.{Stop}
use Rattle.scan_stop.specs.declared.Stop.TheVariants.{Met, Over, Short}
use Rattle.scan_stop.specs.declared.Walked.{Walked}

abbrev pub start_of : Cursor → Spot
start_of p = record { at = 0; cursor = p }

-- the place at offset k of bytes that begin at a place
unfoldable pub place_in : Cursor → List ℕ → ℕ → Cursor
place_in p t k = over p (take (k - p.offset.0) t)

-- ---- what is seen

unfoldable pub rows_seen : Seen → List Row
rows_seen (sees r s) = r ∷ rows_seen s
rows_seen (over' e) = []
rows_seen (met m c) = []
rows_seen short = []

module _ (rows : List Row) (least b : ℕ) (t : List ℕ) (p : Cursor) where
  unfoldable pub stop_seen : Seen → Stop
  stop_seen (sees r s) = stop_seen s
  stop_seen (over' e) = Over e
  stop_seen (met m c) = Met (onward t (start_of p) (m - p.offset.0)).cursor (length rows - length (from (m + b - least) rows)) c
  stop_seen short = Short

  -- of the bytes from their first on; whole: they end the text
  unfoldable pub seen_from : Bool → Seen
  seen_from whole = look (place_in p t) (meets_at rows least b) whole 0 0 p.offset.0 t

-- ---- the call

module _ (ws : List ℕ) (o : Olds) (t : List ℕ) (p : Cursor) (whole : Bool) where
  abbrev pub walk_seen : Seen
  walk_seen = seen_from (rows_in o.count ws) o.least o.b t p whole

  unfoldable pub walk_rows : List Row
  walk_rows = rows_seen walk_seen

  unfoldable pub walk_of : Walked
  walk_of = record { count = length walk_rows; stop = stop_seen (rows_in o.count ws) o.least o.b t p walk_seen }

-- what it asks: the old rows are there and rise, those before the first meet nowhere, and the places fit
pub record Walkable (ws : List ℕ) (o : Olds) (t : List ℕ) (p : Cursor) : Type 0 where
  pub lent : o.count * 8 ≤ length ws
  pub few : o.first ≤ o.count
  pub rising : Rising ws o.count
  pub passed : Passed ws o.least o.b o.first 0
  pub roomy : Roomy (length t) p

-- ---- its parts

-- what was told at a spot can be passed
pub record Passable (t : List ℕ) (here : Spot) (r : Brief) : Type 0 where
  pub ahead : Ahead t here
  pub some : 1 ≤ r.size
  pub inside : here.at + r.size ≤ length t
  pub row : r.kind < Blank → r.size ≤ front not_newline (drop here.at t)
  pub line : r.kind ≤ Line → r.size - 1 ≤ front not_newline (drop here.at t)
