-- How long the fresh file is, and what the first reading tells of a file.
use mathlib.Core.Path.{◌≡◌, refl, sym, ap, ◌∙◌}
use mathlib.Core.List.{List, ◌++◌}
use Prim.Native.Nat.{ℕ, ◌+◌, ◌*◌, ◌≤◌, ◌<◌}
use native.Mathlib.Omega.{arith}
use lib.ListN.{length, length-append}
use Rattle.laws.proofs.Valid.{fine_text}
use Rattle.std.specs.declared.result.Result.TheVariants.{Ok}
use Rattle.rules.specs.declared.Table.{Table}
use Rattle.rules.specs.Text.{text_judged}
use Rattle.rules.specs.Scan.{read_rows}
use Rattle.rules_files.specs.Blocks.{file_length}
use Rattle.rules_forms.specs.declared.Form.{Form}
use Rattle.rules_forms.specs.Shapes.{number_of, row_bytes_of}
use Rattle.rules_mend.specs.Mend.{fresh_table, fresh_file, surplus, listed}
use Rattle.theory_mend.proofs.Listed.{surplus_most}
use Rattle.file_sizes.proofs.Sizes.{few_blocks}
use Rattle.scan_part.proofs.Readings.{from_start}
use Rattle.file_patch.specs.Block.{entry}
use Rattle.file_patch.proofs.One.{entry_most}
use Rattle.file_survey.specs.Survey.{rows_differing, rows_of}
use Rattle.file_survey.proofs.Files.{said_block, fresh_length, fresh_blocks, listed_parts, tail_entry, no_tail_lem, rows_most}
use Rattle.file_survey.proofs.Holding.{few_from}

-- ---- lengths

-- the length that is computed is the fresh file's
pub length_is : (form : Form) (text : List ℕ) (t : Table) (n : ℕ) → t ≡ fresh_table text → n ≡ file_length (row_bytes_of form) t.count
    → n ≡ length (fresh_file (number_of form) text)
length_is form text t n e f = f ∙ ap (λ (x : Table). file_length (row_bytes_of form) x.count) e ∙ sym (fresh_length form text)

pub rows_small : (text : List ℕ) → text_judged text ≡ Ok tt → length (rows_of text) ≤ 65537
rows_small text fine = omega (arith, few_from text 0, ap length (ap read_rows (from_start text)), (fine_text text fine).0)

-- it is no longer than block 0 and a block for each row
pub length_small : (form : Form) (text : List ℕ) → text_judged text ≡ Ok tt → length (fresh_file (number_of form) text) ≤ 512 * 65538
length_small form text fine = omega (arith, fresh_blocks form text, few_blocks form (length (rows_of text)), rows_small text fine)

-- ---- the first reading

module _ (form : Form) (text file : List ℕ) (t : Table) (b : List ℕ) (h m : ℕ) (te : t ≡ fresh_table text) (be : b ≡ said_block form t)
    (he : h ≡ length (rows_differing form 1 (rows_of text) file)) (me : m ≡ length (entry 0 b file)) where
  parts : length (listed (fresh_file (number_of form) text) file) ≡ m + (h + length (surplus (fresh_file (number_of form) text) file))
  parts =
      let e = entry 0 (said_block form (fresh_table text)) file in
      let d = rows_differing form 1 (rows_of text) file in
      let s = surplus (fresh_file (number_of form) text) file in
      let q : length (entry 0 b file) ≡ length e = rw (be, te) in
      ap length (listed_parts form text file) ∙ length-append e (d ++ s) ∙ omega (arith, length-append d s)

  -- The sum of both counts is small.
  pub survey_few : text_judged text ≡ Ok tt → h + m ≤ 65538
  survey_few fine = omega (arith, rows_most form 1 (rows_of text) file, rows_small text fine, entry_most b file 0)

  -- With a tail's entry it is how many are listed,
  pub survey_long : length (fresh_file (number_of form) text) < length file
      → h + m + 1 ≡ length (listed (fresh_file (number_of form) text) file)
  survey_long l = omega (arith, parts, ap length (tail_entry form text file l))

  -- and without a tail as it is.
  pub survey_all : length file ≤ length (fresh_file (number_of form) text) → h + m ≡ length (listed (fresh_file (number_of form) text) file)
  survey_all l = omega (arith, parts, ap length (no_tail_lem form text file l))

-- how many are listed at most
pub listed_small : (form : Form) (text file : List ℕ) → text_judged text ≡ Ok tt
    → length (listed (fresh_file (number_of form) text) file) ≤ 65539
listed_small form text file fine =
    let b = said_block form (fresh_table text) in
    omega (
      arith,
      parts form text file (fresh_table text) b _ _ refl refl refl refl,
      surplus_most (fresh_file (number_of form) text) file,
      rows_most form 1 (rows_of text) file,
      rows_small text fine,
      entry_most b file 0,
    )
