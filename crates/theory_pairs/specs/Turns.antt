-- Edits made by the calls, one and two in a row: the second is lent what the first told and left.
use Rattle.std.specs.Prelude.{ℕ, ◌*◌, ◌≤◌, ◌<◌, true, List, ◌≡◌, length, take, drop, Ok, Err}
use Rattle.rules.specs.declared.Table.{Table}
use Rattle.rules.specs.Outcomes.{Told, unread}
use Rattle.rules.specs.declared.Outer.TheVariants.{TextTooLong, NoRowRoom}
use Rattle.rules.specs.Text.{most_bytes, valid, start_place}
use Rattle.rules.specs.Scan.{read_rows, scan, room_of}
use Rattle.rules.specs.Edit.{restart}
use Rattle.rules_pairs.specs.Pairs.{Edit, after, put}
use Rattle.theory_edits.specs.Scanned.{Scanned, table_of}
use Rattle.theory_pairs.specs.Calls.{EditCall, ChangeCall}

-- Demand 3's premises of a text: it is valid and not too long, and what is lent for its rows has room for them. It may end
-- in a lexical refusal.
pub record Premises (t lent : List ℕ) : Type 0 where
  pub fits : length t ≤ most_bytes
  pub good : valid t ≡ true
  pub room : length (read_rows (scan t)) ≤ room_of lent

-- What is held of a text: rows and a table that a scan of it left and told.
pub record Held (t old : List ℕ) (table : Table) : Type 0 where
  pub scanned : Scanned t old table
  pub good : valid t ≡ true

-- the offset where reading restarts for the edit e of the text t
abbrev pub start_of : List ℕ → Edit → ℕ
start_of t e = (restart (read_rows (scan t)) e.from).offset.0

-- The edit e of the text t, made by `edit` with a whole window, which is all of the new text from the restart place on, or
-- by `change`. The call was lent the old rows and their table, and the words `lent`; it told r and left `new`.
pub data Applied (t : List ℕ) (e : Edit) (old : List ℕ) (table : Table) (lent : List ℕ) (r : Told) (new : List ℕ) : Type 0 where
  by_edit : EditCall old table e.from e.to (put e) (start_of t e) (drop (start_of t e) (after t e)) lent r new
      → Applied t e old table lent r new
  by_change : ChangeCall old table e.from e.to (put e) (after t e) lent r new → Applied t e old table lent r new

-- One edit of what is held of a text t. It was lent the words `room`, told r and left `new`.
pub record Once (t : List ℕ) (e : Edit) (room : List ℕ) (r : Told) (new : List ℕ) : Type 0 where
  pub old : List ℕ
  pub table : Table
  pub held : Held t old table
  pub call : Applied t e old table room r new

-- The edit e of what is held of a text t, and then the edit f of the text after it, lent the rows and the table that the
-- first left and told. The second was lent the words `room`, told r and left `new`.
pub record Turns (t : List ℕ) (e f : Edit) (room : List ℕ) (r : Told) (new : List ℕ) : Type 0 where
  pub lent : List ℕ
  pub rows : List ℕ
  pub table : Table
  pub first : Once t e lent (Ok table) rows
  pub second : Applied (after t e) f rows table room r new

-- ---- what is said of the last calls

-- Two calls that were lent the same words told the same and left the same words.
pub record Alike (r r' : Told) (new new' : List ℕ) : Type 0 where
  pub told : r ≡ r'
  pub left : new ≡ new'

-- Two calls in memories of their own told the same table and left the same rows, all eight words of each.
pub record AlikeRows (table table' : Table) (new new' : List ℕ) : Type 0 where
  pub told : table ≡ table'
  pub rows : take (8 * table.count) new ≡ take (8 * table.count) new'

-- The ways to answer for a last text that is valid: 1 if it is too long, its table if there is room, and else 4.
pub data Ends (t room : List ℕ) : Told → Type 0 where
  ends_1 : most_bytes < length t → Ends t room (Err (unread TextTooLong start_place 0))
  ends_4 : length t ≤ most_bytes → room_of room < length (read_rows (scan t)) → Ends t room (Err (unread NoRowRoom start_place (room_of room)))
  ends_rows : Premises t room → Ends t room (Ok (table_of t))
