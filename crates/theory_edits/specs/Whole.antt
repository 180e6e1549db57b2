-- Edits with whole windows, told by texts: the window is all of the new text from the restart place on.
use Rattle.std.specs.Prelude.{ℕ, ◌-◌, List, ◌++◌, length, drop, take}
use Rattle.rules.specs.Outcomes.{Ending}
use Rattle.rules.specs.Rows.{Row}
use Rattle.rules.specs.Scan.{read_rows, read_ending, scan}
use Rattle.rules.specs.Edit
use Rattle.rules.specs.Edit.{restart, new_rows, new_ending}
use Rattle.theory_edits.specs.Change.{Change}

-- old bytes a to b of t become i
abbrev pub changed : List ℕ → ℕ → ℕ → List ℕ → List ℕ
changed t a b i = take a t ++ (i ++ drop b t)

abbrev pub change_of : List ℕ → ℕ → ℕ → List ℕ → Change
change_of t a b i = record { before = take a t; removed = take (b - a) (drop a t); inserted = i; behind = drop b t }

-- rows and ending
pub record Read : Type 0 where
  pub rows : List Row
  pub ending : Ending

abbrev pub read_of : List ℕ → Read
read_of t = record { rows = read_rows (scan t); ending = read_ending (scan t) }

abbrev pub whole_window : List ℕ → ℕ → List Row → List ℕ
whole_window new a rows = drop (restart rows a).offset.0 new

-- The edit of rows and ending with a whole window; `new` is there for its window, len is the old text's length.
unfoldable pub edit_whole : List ℕ → (len a b n : ℕ) → Read → Read
edit_whole new len a b n r = record {
  rows = new_rows r.rows r.ending a b n (whole_window new a r.rows) (Edit.ends r.rows len a b n (whole_window new a r.rows));
  ending = new_ending r.rows r.ending a b n (whole_window new a r.rows) (Edit.ends r.rows len a b n (whole_window new a r.rows));
}

-- two edits in a row: bytes a to b of t become i, and then bytes c to d of that become j
abbrev pub twice : List ℕ → (a b : ℕ) → List ℕ → (c d : ℕ) → List ℕ → List ℕ
twice t a b i c d j = changed (changed t a b i) c d j

abbrev pub edit_twice : List ℕ → (a b : ℕ) → List ℕ → (c d : ℕ) → List ℕ → Read
edit_twice t a b i c d j =
    edit_whole (twice t a b i c d j) (length (changed t a b i)) c d (length j) (edit_whole (changed t a b i) (length t) a b (length i) (read_of t))
