-- What a scan leaves in lent memory and tells, where its rows have room: words that begin with its rows' words, and its table.
use Rattle.std.specs.Prelude.{ℕ, ◌≤◌, List, ◌++◌, ◌≡◌, length}
use Rattle.rules.specs.declared.Table.{Table}
use Rattle.rules.specs.Text.{most_bytes}
use Rattle.rules.specs.Rows.{words_of}
use Rattle.rules.specs.Scan.{read_rows, read_ending, scan}

abbrev pub table_of : List ℕ → Table
table_of t = record { count = length (read_rows (scan t)); length = length t; ending = read_ending (scan t) }

pub record Scanned (t ws : List ℕ) (table : Table) : Type 0 where
  pub fits : length t ≤ most_bytes
  pub spare : List ℕ
  pub words : ws ≡ words_of (read_rows (scan t)) ++ spare
  pub told : table ≡ table_of t
