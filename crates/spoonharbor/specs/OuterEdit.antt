-- Demand 3 in words: what the outer face's edit tells and leaves.
use Rattle.std.specs.Prelude.{ℕ, true, List, ◌≡◌, get_or}
use Rattle.rules.specs.Text.{start_place}
use Rattle.rules.specs.Scan.{room_of, scan_told, scan_leaves}
use Rattle.rules.specs.Edit.{edit_told, edit_leaves}
use Rattle.theory_edits.specs.Change.{Change, old_text, new_text, a, b, n, starts, Window}
use Rattle.answers.specs.Layout.{words, told_words, is_ending, table_of}

-- `spoonharbor_edit` for a change, lent the old rows `ws`, the old table's words `answer` and the window w
module _ (c : Change) (ws answer w : List ℕ) where
  -- ws and answer are what `spoonharbor_scan` of the old text left and told, the answer is a table's, and the window is a part of the new text
  -- from the restart place on
  pub record OuterGiven : Type 0 where
    pub lent : List ℕ
    pub told : answer ≡ told_words (scan_told (old_text c) (room_of lent))
    pub left : ws ≡ scan_leaves (old_text c) lent
    pub table : is_ending (get_or answer 0 0) ≡ true
    pub window : Window c w

  -- the answer that its contract promises, and what it leaves of the memory `new`
  abbrev pub outer_tells : List ℕ → List ℕ
  outer_tells new = told_words (edit_told ws (table_of answer) (a c) (b c) (n c) (starts c) w (room_of new))

  abbrev pub outer_leaves : List ℕ → List ℕ
  outer_leaves new = edit_leaves ws (table_of answer) (a c) (b c) (n c) (starts c) w new

  -- it says 7 and touches nothing
  pub record OuterSeven : Type 0 where
    pub told : (new : List ℕ) → outer_tells new ≡ words 7 start_place 0 0 0 0
    pub left : (new : List ℕ) → outer_leaves new ≡ new

  -- it tells and leaves what `spoonharbor_scan` of the new text promises
  pub record OuterFresh : Type 0 where
    pub told : (new : List ℕ) → outer_tells new ≡ told_words (scan_told (new_text c) (room_of new))
    pub left : (new : List ℕ) → outer_leaves new ≡ scan_leaves (new_text c) new
