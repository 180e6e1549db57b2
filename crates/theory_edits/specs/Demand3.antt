-- The words of demand 3: what an edit call is given, what it tells and leaves, and when it must say 7.
use Rattle.std.specs.Prelude.{ℕ, ◌≤◌, true, List, ◌⊎◌, ◌≡◌, length, Err}
use Rattle.rules.specs.declared.Table.{Table}
use Rattle.rules.specs.Outcomes.{Told, unread}
use Rattle.rules.specs.declared.Outer.TheVariants.{WindowShort}
use Rattle.rules.specs.Text.{most_bytes, valid, start_place}
use Rattle.rules.specs.Scan.{scan_told, scan_leaves}
use Rattle.rules.specs.Edit.{edit_told, edit_leaves}
use Rattle.theory_edits.specs.Scanned.{Scanned}
use Rattle.theory_edits.specs.Change.{Change, old_text, new_text, a, b, n, starts, Window, Unjudged, Unmet}

-- The old words and table are what a scan of the old text left and told, the old text is valid, and the window is a part of the new
-- text from the restart place on.
pub record Given (c : Change) (ws : List ℕ) (table : Table) (w : List ℕ) : Type 0 where
  pub scanned : Scanned (old_text c) ws table
  pub good : valid (old_text c) ≡ true
  pub window : Window c w

-- 7 is due: 1 does not come before it, and the window shows neither four bytes past the new ones nor the new text's end; or 2 does not come
-- before it either, and the window shows neither the new text's end, nor a meeting place, nor a refusal with its deciding byte.
pub record Due (c : Change) (w : List ℕ) : Type 0 where
  pub not_1 : length (new_text c) ≤ most_bytes
  pub short : Unjudged c w ⊎ ((valid (new_text c) ≡ true) × Unmet c w)

-- the call, with room for m rows and with lent memory `new`
module _ (c : Change) (ws : List ℕ) (table : Table) (w : List ℕ) where
  abbrev pub tells : ℕ → Told
  tells m = edit_told ws table (a c) (b c) (n c) (starts c) w m

  abbrev pub leaves : List ℕ → List ℕ
  leaves new = edit_leaves ws table (a c) (b c) (n c) (starts c) w new

  -- it says 7 and touches nothing
  pub record SaysSeven : Type 0 where
    pub told : (m : ℕ) → tells m ≡ Err (unread WindowShort start_place 0)
    pub left : (new : List ℕ) → leaves new ≡ new

  -- it tells and leaves what a scan of the new text does
  pub record IsFresh : Type 0 where
    pub told : (m : ℕ) → tells m ≡ scan_told (new_text c) m
    pub left : (new : List ℕ) → leaves new ≡ scan_leaves (new_text c) new
