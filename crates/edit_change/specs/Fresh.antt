-- The words of demand 3 for a change, what the call tells and leaves, lent the whole new text; and for a call that was
-- made.
use Rattle.std.specs.Prelude.{ℕ, List, ◌≡◌, Err}
use Rattle.rules.specs.declared.Cursor.{Cursor}
use Rattle.rules.specs.declared.Outer.TheVariants.{WindowShort}
use Rattle.rules.specs.declared.Table.{Table}
use Rattle.rules.specs.Outcomes.{Told, unread}
use Rattle.rules.specs.Text.{start_place}
use Rattle.rules.specs.Scan.{room_of, scan_told, scan_leaves}
use Rattle.theory_edits.specs.Change.{Change, new_text, a, b, n}
use Rattle.edit_change.specs.Change.{change_told, change_leaves}

-- what is told is no 7, at whatever place
pub record NotSeven (x : Told) : Type 0 where
  pub never : (p : Cursor) (k : ℕ) → x ≡ Err (unread WindowShort p k) → ⊥

-- the call, with room for m rows and with lent memory `new`
module _ (c : Change) (ws : List ℕ) (table : Table) where
  abbrev pub tells : ℕ → Told
  tells m = change_told ws table (a c) (b c) (n c) (new_text c) m

  abbrev pub leaves : List ℕ → List ℕ
  leaves new = change_leaves ws table (a c) (b c) (n c) (new_text c) new

  -- it tells and leaves what a scan of the new text does
  pub record IsFresh : Type 0 where
    pub told : (m : ℕ) → tells m ≡ scan_told (new_text c) m
    pub left : (new : List ℕ) → leaves new ≡ scan_leaves (new_text c) new

-- a call was lent the memory `new`, told r and left m
module _ (new : List ℕ) (r : Told) (m : List ℕ) where
  -- 7, and nothing touched
  pub record Says7 : Type 0 where
    pub told : r ≡ Err (unread WindowShort start_place 0)
    pub left : m ≡ new

  -- what a scan of a text tells and leaves
  pub record SaysScan (t : List ℕ) : Type 0 where
    pub told : r ≡ scan_told t (room_of new)
    pub left : m ≡ scan_leaves t new
