-- What is known where the blocks of a text's rows are mended, and what is left.
use Rattle.std.specs.Prelude.{◌≡◌, List, ◌++◌, ℕ, ◌+◌, ◌*◌, ◌≤◌, length, take, drop, Ok}
use Rattle.rules.specs.Text.{text_judged}
use Rattle.rules_files.specs.Blocks.{block_bytes, per_block}
use Rattle.rules_forms.specs.declared.Form.{Form}
use Rattle.rules_forms.specs.Shapes.{number_of, row_bytes_of}
use Rattle.scan_part.specs.Part.{PartOf}
use Rattle.rules_mend.specs.Mend.{fresh_file, listed}
use Rattle.file_survey.specs.declared.Step.{Step}
use Rattle.file_survey.specs.Survey.{blocks_of, rows_differing, rows_of, rows_at}

-- ---- one part

-- a part can be mended: n bytes are the file, and there is room for its block and its entry
pub record PartFits (form : Form) (text : List ℕ) (at k n : ℕ) (memory : List ℕ) (listed : ℕ) (list : List ℕ) : Type 0 where
  pub inside : n ≤ length memory
  pub room : block_bytes * k + length (blocks_of form k (rows_at form text at)) ≤ length memory
  pub list_room : listed + length (rows_differing form k (rows_at form text at) (take n memory)) ≤ length list

-- and was mended: all but its block and its entry is as before
pub record PartMended (form : Form) (text : List ℕ) (at k n listed : ℕ) (r : Step) (memory after list list_after : List ℕ) : Type 0 where
  pub part_is : PartOf text at (per_block (row_bytes_of form)) r.part
  pub listed_is : r.listed ≡ listed + length (rows_differing form k (rows_at form text at) (take n memory))
  pub file_is : after ≡ take (block_bytes * k) memory
      ++ (blocks_of form k (rows_at form text at) ++ drop (block_bytes * k + length (blocks_of form k (rows_at form text at))) memory)
  pub list_is : list_after ≡ take listed list ++ (rows_differing form k (rows_at form text at) (take n memory) ++ drop r.listed list)

-- ---- all rows

-- the blocks of a text's rows can be mended: n bytes are the file, and there is room for its blocks, and behind first
-- entries for theirs
pub record Fresh (form : Form) (text : List ℕ) (n : ℕ) (memory : List ℕ) (first : ℕ) (list : List ℕ) : Type 0 where
  pub fine : text_judged text ≡ Ok tt
  pub inside : n ≤ length memory
  pub room : length (fresh_file (number_of form) text) ≤ length memory
  pub list_room : first + length (rows_differing form 1 (rows_of text) (take n memory)) ≤ length list

-- and were mended: block 0 and what stands behind the blocks are as before, and so is the list in front of and behind
-- their entries
pub record RowsMended (form : Form) (text : List ℕ) (n first last : ℕ) (memory after list list_after : List ℕ) : Type 0 where
  pub last_is : last ≡ first + length (rows_differing form 1 (rows_of text) (take n memory))
  pub file_is : after ≡ take block_bytes memory ++ (blocks_of form 1 (rows_of text) ++ drop (length (fresh_file (number_of form) text)) memory)
  pub list_is : list_after ≡ take first list ++ (rows_differing form 1 (rows_of text) (take n memory) ++ drop last list)

-- what is left of memory and list
abbrev pub file_left : Form → List ℕ → List ℕ → List ℕ
file_left form text memory = fresh_file (number_of form) text ++ drop (length (fresh_file (number_of form) text)) memory

abbrev pub list_left : Form → List ℕ → ℕ → List ℕ → List ℕ → List ℕ
list_left form text n memory list =
    listed (fresh_file (number_of form) text) (take n memory) ++ drop (length (listed (fresh_file (number_of form) text) (take n memory))) list
