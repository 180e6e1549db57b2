-- Demand 3 in words, with the whole new text at hand: what the outer face's change tells and leaves.
use Rattle.std.specs.Prelude.{ℕ, true, List, ◌≡◌, get_or}
use Rattle.rules.specs.Scan.{room_of}
use Rattle.theory_edits.specs.Change.{Change, new_text, a, b, n}
use Rattle.edit_change.specs.Change.{change_told, change_leaves}
use Rattle.answers.specs.Layout.{told_words, is_ending, table_of}
use Rattle.spoonharbor.specs.OuterParse.{OuterLent}

-- ws and answer are what `spoonharbor_scan` of the text t left and told, and the answer is a table's
pub record OuterTable (t ws answer : List ℕ) : Type 0 where
  pub lent : List ℕ
  pub scanned : OuterLent t lent ws answer
  pub table : is_ending (get_or answer 0 0) ≡ true

-- `spoonharbor_change` for a change, lent the old rows `ws`, the old table's words `answer` and the new text
module _ (c : Change) (ws answer : List ℕ) where
  -- the answer that its contract promises, and what it leaves of the memory `new`
  abbrev pub outer_tells : List ℕ → List ℕ
  outer_tells new = told_words (change_told ws (table_of answer) (a c) (b c) (n c) (new_text c) (room_of new))

  abbrev pub outer_leaves : List ℕ → List ℕ
  outer_leaves new = change_leaves ws (table_of answer) (a c) (b c) (n c) (new_text c) new
