-- What is known of a file that holds a table, beside a text, and how far lines and columns are counted.
use Rattle.std.specs.Prelude.{◌≡◌, Bool, true, List, ◌++◌, ℕ, ◌*◌, ◌≤◌, length, drop, Result, Ok, Err, None, Some}
use Rattle.rules.specs.declared.Cursor.{Cursor}
use Rattle.rules.specs.Outcomes.{Ending, halt}
use Rattle.rules.specs.declared.Table.{Table}
use Rattle.rules.specs.Text.{most_bytes, place_at}
use Rattle.rules.specs.Rows.{Row, row_place, rows_in, words_per_row, every}
use Rattle.rows.specs.Shape.{row_before}
use Rattle.rules_files.specs.Files.{row_words_in}
use Rattle.rules_forms.specs.declared.Form.{Form}
use Rattle.rules_forms.specs.declared.Form.TheVariants.{Full, Short}
use Rattle.rules_forms.specs.Forms.{judged, rows_beside, is_place_in, agrees_beside}
use Rattle.rules_forms.specs.Shapes.{form_of}
use Rattle.rules_forms.specs.declared.Apart.{Apart}

-- an offset's place can be counted from a place of the text that is not behind it
pub record Counts (text : List ℕ) (here : Cursor) (offset : ℕ) : Type 0 where
  pub is : here ≡ place_at text here.offset.0
  pub on : here.offset.0 ≤ offset
  pub inside : offset ≤ length text
  pub few : length text ≤ most_bytes

-- an ending's place, if it has one
abbrev pub CountsTo : List ℕ → Cursor → Ending → Type 0
CountsTo text here None = Unit {0}
CountsTo text here (Some e) = Counts text here e.at.offset.0

-- a file of a form holds a table of a text's length
pub record Holds (form : Form) (text file : List ℕ) (t : Table) : Type 0 where
  pub holds : judged file ≡ Ok t
  pub form_is : form_of file ≡ form
  pub long : length text ≡ t.length

-- a file holds a table, and agrees with a text
pub record Agrees (text file : List ℕ) (t : Table) : Type 0 where
  pub holds : judged file ≡ Ok t
  pub agrees : agrees_beside text file t ≡ true

-- the place of the last of the first n rows, and before the first row the text's start
abbrev pub last_place : List ℕ → List ℕ → ℕ → Cursor
last_place text file n = place_at text (row_before (rows_beside text file) n).start

-- each row of a file of form 1 has the line and column of its start
abbrev pub rows_agree : List ℕ → List ℕ → Table → Bool
rows_agree text file t = every (λ r. is_place_in text (row_place r)) (rows_in t.count (row_words_in file))

-- the place of a row: as it says, or that of its start
abbrev pub placed_at : Form → List ℕ → Row → Cursor
placed_at Full text r = row_place r
placed_at Short text r = place_at text r.start

-- what stands in lent words behind a reading
abbrev pub table_leaves : List ℕ → List ℕ → Result Table Apart → List ℕ → List ℕ
table_leaves text file (Ok t) ws = rows_beside text file ++ drop (words_per_row * t.count) ws
table_leaves text file (Err why) ws = ws
