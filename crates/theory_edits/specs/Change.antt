-- A change of a text, a window of the new text, and the edit of what a scan of the old text gave.
use Rattle.std.specs.Prelude.{ℕ, ◌+◌, ◌<◌, Bool, List, ◌++◌, ◌⊎◌, ◌≡◌, length, drop}
use Rattle.rules.specs.Outcomes.{Ending}
use Rattle.rules.specs.Rows.{Row}
use Rattle.rules.specs.Scan.{read_rows, read_ending, scan}
use Rattle.rules.specs.Edit
use Rattle.rules.specs.Edit.{restart, new_rows, new_ending, judging, unjudged, window_short}
use Rattle.theory_edits.specs.Shows.{Shows}

-- The bytes `removed`, which stand between `before` and `behind`, become `inserted`.
pub record Change : Type 0 where
  pub before : List ℕ
  pub removed : List ℕ
  pub inserted : List ℕ
  pub behind : List ℕ

module _ (c : Change) where
  abbrev pub old_text : List ℕ
  old_text = c.before ++ (c.removed ++ c.behind)

  abbrev pub new_text : List ℕ
  new_text = c.before ++ (c.inserted ++ c.behind)

  -- old bytes a to b become n new bytes
  abbrev pub a : ℕ
  a = length c.before

  abbrev pub b : ℕ
  b = length c.before + length c.removed

  abbrev pub n : ℕ
  n = length c.inserted

  abbrev pub old_rows : List Row
  old_rows = read_rows (scan old_text)

  abbrev pub old_ending : Ending
  old_ending = read_ending (scan old_text)

  -- the offset where reading restarts, and the offset behind a window that starts there
  abbrev pub starts : ℕ
  starts = (restart old_rows a).offset.0

  abbrev pub stops : List ℕ → ℕ
  stops w = starts + length w

  -- w is a part of the new text from the restart place on, and `rest` follows it
  pub record Window (w : List ℕ) : Type 0 where
    pub rest : List ℕ
    pub text : drop starts new_text ≡ w ++ rest

  -- the rules' tests for 7, before 2 and behind it
  abbrev pub is_unjudged : List ℕ → Bool
  is_unjudged w = unjudged old_rows (length old_text) a b n w

  abbrev pub is_short : List ℕ → Bool
  is_short w = window_short old_rows old_ending (length old_text) a b n w

  -- When the first holds: the window shows neither four bytes past the new ones nor the new text's end.
  abbrev pub Unjudged : List ℕ → Type 0
  Unjudged w = (stops w < a + n + judging) × (stops w ≡ length new_text → ⊥)

  -- When the second does: it shows neither the new text's end, nor a meeting place, nor a refusal with its deciding byte.
  abbrev pub Unmet : List ℕ → Type 0
  Unmet w = (stops w ≡ length new_text → ⊥) × (Shows (scan old_text) (scan new_text) a b n (stops w) → ⊥)

  abbrev pub TooShort : List ℕ → Type 0
  TooShort w = Unjudged w ⊎ Unmet w

  abbrev pub ends_text : List ℕ → Bool
  ends_text w = Edit.ends old_rows (length old_text) a b n w

  -- the rows and the ending that the edit gives
  abbrev pub edit_rows : List ℕ → List Row
  edit_rows w = new_rows old_rows old_ending a b n w (ends_text w)

  abbrev pub edit_ending : List ℕ → Ending
  edit_ending w = new_ending old_rows old_ending a b n w (ends_text w)
