-- The fresh file is block 0 and the blocks of its rows, and what is listed of it is block 0's entry, those of the rows'
-- blocks, and that of a surplus tail.
use mathlib.Core.Path.{◌≡◌, refl, ◌∙◌}
use mathlib.Core.Bool.{Bool, true, false, cond}
use mathlib.Core.List.{List, [], ◌∷◌, ◌++◌}
use Prim.Native.Nat.{ℕ, zero, suc, ◌+◌, ◌*◌, ◌/◌, ◌≤◌, ◌<◌}
use native.Mathlib.Omega.{arith}
use lib.ListN.{length, take, drop}
use lib.Seq.{take_at, drop_at, take_all}
use lib.Dec.{ltb}
use borrow.Author.Tests.{lt-ltb, le-ltb}
use Rattle.laws.proofs.Rows.{words_length}
use Rattle.rules.specs.Outcomes.{Ending, halt}
use Rattle.std.specs.declared.option.Option.TheVariants.{None, Some}
use Rattle.rules.specs.declared.Table.{Table}
use Rattle.rules.specs.Kinds.{same_bytes}
use Rattle.rules.specs.Rows.{Row, words_of}
use Rattle.rules.specs.Scan.{read_rows, scan}
use Rattle.rules_files.specs.Bytes.{bytes_of}
use Rattle.rules_files.specs.Blocks.{block, blocks_for, file_length, file_of}
use Rattle.rules_files.specs.Files.{ending_said, encode}
use Rattle.rules_forms.specs.declared.Form.{Form}
use Rattle.rules_forms.specs.declared.Form.TheVariants.{Full, Short}
use Rattle.rules_forms.specs.Short.{short_ending_said, short_encode}
use Rattle.rules_forms.specs.Forms.{encode_in}
use Rattle.rules_forms.specs.Shapes.{number_of, row_bytes_of, said_in}
use Rattle.rules_mend.specs.Mend.{fresh_table, fresh_words, fresh_file, differing, surplus, listed}
use Rattle.theory_files.proofs.Numbers.{bytes_length}
use Rattle.theory_files.proofs.One.{block_length}
use Rattle.theory_forms.proofs.Moves.{encoded_length}
use Rattle.theory_mend.proofs.Listed.{listed_first, differing_most}
use Rattle.file_sizes.proofs.Sizes.{few_blocks}
use Rattle.file_patch.specs.Block.{entry}
use Rattle.file_survey.specs.Survey.{blocks_of, rows_differing, rows_of}
use Rattle.file_survey.proofs.Parts.{blocks_size}

-- ---- block 0

-- block 0 of a table
abbrev pub said_block : Form → Table → List ℕ
said_block form t = block 0 0 (bytes_of (said_in form t))

said_few : (form : Form) (t : Table) → length (bytes_of (said_in form t)) ≤ 504
said_few Full t = go t.ending
  where
    go : (e : Ending) → length (bytes_of (1 ∷ t.length ∷ t.count ∷ ending_said e)) ≤ 504
    go None = omega (arith, bytes_length (1 ∷ t.length ∷ t.count ∷ ending_said None))
    go (Some e) = omega (arith, bytes_length (1 ∷ t.length ∷ t.count ∷ ending_said (Some (halt e.why e.at))))
said_few Short t = go t.ending
  where
    go : (e : Ending) → length (bytes_of (2 ∷ t.length ∷ t.count ∷ short_ending_said e)) ≤ 504
    go None = omega (arith, bytes_length (2 ∷ t.length ∷ t.count ∷ short_ending_said None))
    go (Some e) = omega (arith, bytes_length (2 ∷ t.length ∷ t.count ∷ short_ending_said (Some (halt e.why e.at))))

-- Block 0 has 512 bytes.
pub said_length : (form : Form) (t : Table) → length (said_block form t) ≡ 512
said_length form t = block_length 0 0 (bytes_of (said_in form t)) (said_few form t)

-- ---- the file

-- The fresh file is block 0 and the blocks of the rows.
pub fresh_parts : (form : Form) (text : List ℕ)
    → fresh_file (number_of form) text ≡ said_block form (fresh_table text) ++ blocks_of form 1 (rows_of text)
unfolding fresh_file encode_in encode short_encode file_of blocks_of fresh_words fresh_table
fresh_parts Full text =
    let rs = read_rows (scan text) in
    let e : take (8 * length rs) (words_of rs) ≡ words_of rs = take_all (8 * length rs) (words_of rs) (omega (arith, words_length rs)) in
    rw e
fresh_parts Short text = refl

-- how long it is
pub fresh_length : (form : Form) (text : List ℕ)
    → length (fresh_file (number_of form) text) ≡ file_length (row_bytes_of form) (fresh_table text).count
unfolding fresh_file
fresh_length Full text = encoded_length (number_of Full) (fresh_words text) (fresh_table text)
fresh_length Short text = encoded_length (number_of Short) (fresh_words text) (fresh_table text)

module _ (form : Form) (text : List ℕ) where
  -- in blocks
  pub fresh_blocks : length (fresh_file (number_of form) text) ≡ 512 + 512 * blocks_for (row_bytes_of form) (length (rows_of text))
  unfolding file_length fresh_table
  fresh_blocks = fresh_length form text ∙ omega arith

  -- Block 0 stands in front,
  pub fresh_front : take 512 (fresh_file (number_of form) text) ≡ said_block form (fresh_table text)
  fresh_front =
      rw (fresh_parts form text)
      (take_at (said_block form (fresh_table text)) (blocks_of form 1 (rows_of text)) 512 (said_length form (fresh_table text)))

  -- and the blocks of the rows behind it.
  pub fresh_behind : drop 512 (fresh_file (number_of form) text) ≡ blocks_of form 1 (rows_of text)
  fresh_behind =
      rw (fresh_parts form text)
      (drop_at (said_block form (fresh_table text)) (blocks_of form 1 (rows_of text)) 512 (said_length form (fresh_table text)))

  -- ---- what is listed

  many : length (blocks_of form 1 (rows_of text)) / 512 ≡ blocks_for (row_bytes_of form) (length (rows_of text))
  many = rw (blocks_size form 1 (rows_of text)) (omega arith)

  module _ (file : List ℕ) where
    -- block 0's entry, those of the rows' blocks, and that of a surplus tail
    pub listed_parts : listed (fresh_file (number_of form) text) file
        ≡ entry 0 (said_block form (fresh_table text)) file
        ++ (rows_differing form 1 (rows_of text) file ++ surplus (fresh_file (number_of form) text) file)
    unfolding rows_differing
    listed_parts =
        listed_first (fresh_file (number_of form) text) file (omega (arith, fresh_blocks))
        ∙ rw (fresh_front, fresh_behind, many)

    -- A longer file has a tail, whose entry is the number of blocks.
    pub tail_entry : length (fresh_file (number_of form) text) < length file
        → surplus (fresh_file (number_of form) text) file ≡ (length (fresh_file (number_of form) text) / 512) ∷ []
    unfolding surplus
    tail_entry h = rw (lt-ltb (length (fresh_file (number_of form) text)) (length file) h)

    -- A file that is no longer has no tail.
    pub no_tail_lem : length file ≤ length (fresh_file (number_of form) text) → surplus (fresh_file (number_of form) text) file ≡ []
    unfolding surplus
    no_tail_lem h = rw (le-ltb (length (fresh_file (number_of form) text)) (length file) h)

-- ---- how many entries there are at most

-- There are no more entries than rows.
pub rows_most : (form : Form) (k : ℕ) (rs : List Row) (file : List ℕ) → length (rows_differing form k rs file) ≤ length rs
unfolding rows_differing
rows_most form k rs file =
    let m = blocks_for (row_bytes_of form) (length rs) in
    omega (arith, few_blocks form (length rs), differing_most m k (blocks_of form k rs) (drop (512 * k) file))
