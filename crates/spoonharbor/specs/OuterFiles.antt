-- Stored tables in words: what the outer face's load gives back of what its store wrote, and what a load lends on.
use Rattle.std.specs.Prelude.{ℕ, ◌*◌, ◌/◌, true, List, ◌++◌, ◌≡◌, length, take, drop, get_or, Ok}
use Rattle.rules.specs.declared.Table.{Table}
use Rattle.rules.specs.Rows.{well_formed}
use Rattle.rules.specs.Scan.{room_of}
use Rattle.rules_files.specs.Blocks.{block_bytes}
use Rattle.rules_files.specs.Files.{store_told, store_leaves, load_told}
use Rattle.file_answers.specs.Layout.{stored_words}
use Rattle.answers.specs.Layout.{words, nowhere, told_words, table_of}

-- `spoonharbor_store`, lent the rows ws, their table's words `table` and the bytes `lent`, told `answer`, which is no refusal, and left m.
pub record OuterStored (ws table lent answer m : List ℕ) : Type 0 where
  pub told : answer ≡ stored_words (store_told ws (table_of table) (length lent))
  pub left : m ≡ store_leaves ws (table_of table) lent
  pub stored : get_or answer 0 0 ≡ 0

-- the file: as many of the bytes that were left as the answer's length says
abbrev pub file_of : List ℕ → List ℕ → List ℕ
file_of answer m = take (get_or answer 7 0) m

-- A call that writes a file was lent the bytes `lent`, told `answer` and left m: the file, told by its blocks and its
-- bytes, and behind it what was there.
pub record OuterFile (file lent answer m : List ℕ) : Type 0 where
  pub told : answer ≡ words 0 nowhere 0 0 (length file / block_bytes) (length file)
  pub left : m ≡ file ++ drop (length file) lent

-- `spoonharbor_load`, lent the words `new`, told `answer` and left `rows`: the table that `table` says, in the very words if a call told
-- it in them, and the words of its rows as they stand in ws, with no word behind them touched.
pub record OuterBack (ws table new answer rows : List ℕ) : Type 0 where
  pub told : table_of answer ≡ table_of table
  pub words : (t : Table) → table ≡ told_words (Ok t) → answer ≡ table
  pub left : rows ≡ take (8 * (table_of table).count) ws ++ drop (8 * (table_of table).count) new

-- `spoonharbor_load` of a file, lent the words `new`, told `answer` and left `rows`: lent on as the table, the answer's words are the
-- table that was read, and with the rows that were left it is well formed.
pub record OuterLends (file new answer rows : List ℕ) : Type 0 where
  pub told : load_told file (room_of new) ≡ Ok (table_of answer)
  pub well : well_formed rows (table_of answer) ≡ true
