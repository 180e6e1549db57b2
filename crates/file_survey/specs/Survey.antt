-- The blocks of rows that are still to be read, and what is known where they are held against a file.
use Rattle.std.specs.Prelude.{◌≡◌, List, ℕ, ◌*◌, length, drop}
use Rattle.rules.specs.Rows.{Row, words_of}
use Rattle.rules.specs.Scan.{read_rows, scan}
use Rattle.rules_files.specs.Bytes.{bytes_of}
use Rattle.rules_files.specs.Blocks.{block_bytes, per_block, blocks_for, block, blocks_from}
use Rattle.rules_forms.specs.declared.Form.{Form}
use Rattle.rules_forms.specs.Shapes.{row_bytes_of, body_of}
use Rattle.scan_part.specs.Part.{part_rows, PartOf}
use Rattle.rules_mend.specs.Mend.{fresh_table, differing}
use Rattle.file_survey.specs.declared.Seen.{Seen}
use Rattle.file_survey.specs.declared.Step.{Step}

-- the blocks of rows, from block k on
unfoldable pub blocks_of : Form → ℕ → List Row → List ℕ
blocks_of form k rs =
    blocks_from (row_bytes_of form) (blocks_for (row_bytes_of form) (length rs)) k (length rs) (bytes_of (body_of form (length rs) (words_of rs)))

-- those of them that differ in a file
unfoldable pub rows_differing : Form → ℕ → List Row → List ℕ → List ℕ
rows_differing form k rs file = differing (blocks_for (row_bytes_of form) (length rs)) k (blocks_of form k rs) (drop (block_bytes * k) file)

abbrev pub rows_of : List ℕ → List Row
rows_of text = read_rows (scan text)

-- ---- one part

-- the rows of a text from an offset on that stand in one block, and block k of so many rows
abbrev pub rows_at : Form → List ℕ → ℕ → List Row
rows_at form text at = part_rows text at (per_block (row_bytes_of form))

abbrev pub rows_block : Form → ℕ → List Row → List ℕ
rows_block form k rs = block k (length rs) (bytes_of (body_of form (length rs) (words_of rs)))

-- a part was held against a file
pub record PartHeld (form : Form) (text : List ℕ) (at k : ℕ) (file : List ℕ) (r : Step) : Type 0 where
  pub part_is : PartOf text at (per_block (row_bytes_of form)) r.part
  pub listed_is : r.listed ≡ length (rows_differing form k (rows_at form text at) file)

-- ---- all rows

-- the rows of a text were held against a file
pub record RowsHeld (form : Form) (text file : List ℕ) (r : Seen) : Type 0 where
  pub table_is : r.table ≡ fresh_table text
  pub listed_is : r.listed ≡ length (rows_differing form 1 (rows_of text) file)
