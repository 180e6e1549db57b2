-- Laws of the reader's tests: the ending that is read, row i of the file, and a table that fits or does not.
use mathlib.Core.Path.{◌≡◌, refl, sym, ap, ◌∙◌}
use mathlib.Core.Bool.{true, false}
use mathlib.Core.List.{List}
use Prim.Native.Nat.{ℕ, zero, suc, ◌+◌, ◌-◌, ◌*◌, ◌/◌, ◌%◌, ◌≤◌, ◌<◌, min}
use native.Mathlib.Omega.{arith}
use lib.ListN.{length, take, drop, length-take, length-drop}
use lib.Seq.{drop-drop}
use borrow.Author.Tests.{eq-eqb, ne_eqb}
use Rattle.rules.specs.declared.Cursor.{Cursor}
use Rattle.rules.specs.declared.Lexical.{Lexical}
use Rattle.rules.specs.Outcomes.{Ending, halt}
use Rattle.std.specs.declared.option.Option.TheVariants.{None, Some}
use Rattle.rules.specs.declared.Table.{Table}
use Rattle.rules.specs.Text.{most_bytes, place}
use Rattle.rules.specs.Rows.{row_no, well_formed}
use Rattle.laws.specs.Tests.{all_below}
use Rattle.rows.specs.Shape.{stands, closes, breaks}
use Rattle.rows.proofs.Tables.{well_empty, well_none, well_refused}
use Rattle.rules_files.specs.Blocks.{blocks_for, file_length, body_from}
use Rattle.rules_files.specs.Files.{read_refused, read_ending, said_at}
use Rattle.rules_forms.specs.declared.Form.{Form}
use Rattle.rules_forms.specs.declared.Form.TheVariants.{Full, Short}
use Rattle.rules_forms.specs.Short.{on_one_line, short_ending}
use Rattle.rules_forms.specs.Shapes.{row_bytes_of, row_words_of}
use Rattle.file_blocks.specs.Standing.{row_from}
use Rattle.file_load.specs.Judged.{Framed, plain_by, stand_upto, standing}
use Rattle.file_load.proofs.Rows.{most, by_length, words_file, row_word, body_row, stand_below}
use Rattle.std.specs.Prelude as option

-- ---- the ending

module _ (n : ℕ) (p : Cursor) where
  pub ending_refused : (n ≡ 0 → ⊥) → read_ending n p ≡ read_refused n p
  unfolding read_ending
  ending_refused e = rw (ne_eqb n 0 e)

  module _ (z : n ≡ 0) where
    pub ending_offset : (p.offset.0 ≡ 0 → ⊥) → read_ending n p ≡ option.None
    unfolding read_ending
    ending_offset e = rw (eq-eqb n 0 z, ne_eqb p.offset.0 0 e)

    pub ending_line : p.offset.0 ≡ 0 → (p.line.0 ≡ 0 → ⊥) → read_ending n p ≡ option.None
    unfolding read_ending
    ending_line x e = rw (eq-eqb n 0 z, eq-eqb p.offset.0 0 x, ne_eqb p.line.0 0 e)

    pub ending_column : p.offset.0 ≡ 0 → p.line.0 ≡ 0 → (p.column.0 ≡ 0 → ⊥) → read_ending n p ≡ option.None
    unfolding read_ending
    ending_column x y e = rw (eq-eqb n 0 z, eq-eqb p.offset.0 0 x, eq-eqb p.line.0 0 y, ne_eqb p.column.0 0 e)

    pub ending_none : p.offset.0 ≡ 0 → p.line.0 ≡ 0 → p.column.0 ≡ 0 → read_ending n p ≡ option.Some None
    unfolding read_ending
    ending_none x y e = rw (eq-eqb n 0 z, eq-eqb p.offset.0 0 x, eq-eqb p.line.0 0 y, eq-eqb p.column.0 0 e)

-- the ending of form 2, from the two words of which it is read
module _ (file : List ℕ) (n k : ℕ) (word : n ≡ said_at 3 file) (offset : k ≡ said_at 4 file) where
  pub short_refused : (n ≡ 0 → ⊥) → (column : ℕ) → column ≡ 1 + min k most_bytes
      → short_ending on_one_line file ≡ read_refused n (place k 1 column)
  unfolding short_ending on_one_line
  short_refused e column c = rw (← word, ← offset, ne_eqb n 0 e, c)

  pub short_offset : n ≡ 0 → (k ≡ 0 → ⊥) → short_ending on_one_line file ≡ option.None
  unfolding short_ending
  short_offset z e = rw (← word, ← offset, eq-eqb n 0 z) (ending_offset 0 (place k 0 0) refl e)

  pub short_none : n ≡ 0 → k ≡ 0 → short_ending on_one_line file ≡ option.Some None
  unfolding short_ending
  short_none z e = rw (← word, ← offset, eq-eqb n 0 z) (ending_none 0 (place k 0 0) refl e refl refl)

-- ---- row i

-- its block is one of the file's
block_some : (form : Form) (count i : ℕ) → i < count → 1 + i / most form ≤ blocks_for (row_bytes_of form) count
unfolding blocks_for
block_some Full count i h = omega arith
block_some Short count i h = omega arith

pub rest_bytes : (form : Form) (i : ℕ) → 4 + row_bytes_of form * (i % most form) + row_bytes_of form ≤ 512
rest_bytes Full i = omega arith
rest_bytes Short i = omega arith

module _ (form : Form) (count : ℕ) (file : List ℕ) (frame : Framed form count file) where
  pub words_count : length (row_words_of form file) ≡ 8 * count
  words_count = rw (words_file form count file frame.count_is) (by_length form count _)

  module _ (i : ℕ) (h : i < count) (rows : ℕ) (full : rows ≡ most form) where
    -- where its block begins
    abbrev pub row_at : ℕ
    row_at = 512 * (1 + i / rows)

    pub row_room : row_at + 512 ≤ length file
    unfolding file_length
    row_room = rw full (omega (arith, frame.whole, block_some form count i h))

    abbrev pub row_block : List ℕ
    row_block = take (row_at + 512 - row_at) (drop row_at file)

    pub row_fits : 4 + row_bytes_of form * (i % rows) + row_bytes_of form ≤ length row_block
    row_fits =
        let l = length-take (row_at + 512 - row_at) (drop row_at file) in
        omega (arith, row_room, rw (← full) at (rest_bytes form i), length-drop row_at file)

    pub row_file : row_no (row_words_of form file) i ≡ row_from form (drop (4 + row_bytes_of form * (i % rows)) row_block)
    unfolding file_length
    row_file =
        let s : List ℕ = drop 512 file in
        let l : length s ≡ 512 * blocks_for (row_bytes_of form) count = length-drop 512 file ∙ omega (arith, frame.whole) in
        let a : row_at + 512 - row_at ≡ 512 = omega arith in
        let b : 512 + 512 * (i / rows) ≡ row_at = omega arith in
        ap (λ (ws : List ℕ). row_no ws i) (words_file form count file frame.count_is)
        ∙ row_word form i count (body_from (row_bytes_of form) (blocks_for (row_bytes_of form) count) count s) h
        ∙ body_row form (blocks_for (row_bytes_of form) count) count i s refl l h
        ∙ rw (← full, drop-drop, b, a)

-- ---- a table that fits

module _ (form : Form) (file : List ℕ) (t : Table) (frame : Framed form t.count file) where
  lent : t.count * 8 ≤ length (row_words_of form file)
  lent = omega (arith, words_count form t.count file frame)

  all_stand : (e : Ending) → standing form e file ≡ all_below (stands (row_words_of form file)) (plain_by e t.count)
  unfolding standing stand_upto
  all_stand e = rw (← frame.count_is) (stand_below (row_words_of form file) (plain_by e t.count))

  module _ (short : t.length ≤ most_bytes) where
    pub fits_empty : t.ending ≡ None → t.count ≡ 0 → well_formed (row_words_of form file) t ≡ false
    fits_empty e z = well_empty (row_words_of form file) t lent short e z

    unfit_none : t.ending ≡ None → standing form None file ≡ false → (n : ℕ) → t.count ≡ n → well_formed (row_words_of form file) t ≡ false
    unfit_none e f zero z = fits_empty e z
    unfit_none e f (suc i) z =
        let q : t.count - 1 ≡ i = omega arith in
        let g = rw q at (sym (all_stand None) ∙ f) in
        well_none (row_words_of form file) t lent short e i (sym z) ∙ rw g

    unfit_by : (e : Ending) → t.ending ≡ e → standing form e file ≡ false → well_formed (row_words_of form file) t ≡ false
    unfit_by None e f = unfit_none e f t.count refl
    unfit_by (Some refusal) e f = well_refused (row_words_of form file) t lent short refusal.why refusal.at e ∙ rw (sym (all_stand (Some (halt refusal.why refusal.at))) ∙ f)

    pub unfit : standing form t.ending file ≡ false → well_formed (row_words_of form file) t ≡ false
    unfit f = unfit_by t.ending refl f

    pub fits_none : t.ending ≡ None → standing form t.ending file ≡ true → (t.count ≡ 0 → ⊥)
        → well_formed (row_words_of form file) t ≡ closes (row_words_of form file) t.length (t.count - 1)
    fits_none e f z =
        let g = sym (all_stand None) ∙ rw e at f in
        well_none (row_words_of form file) t lent short e (t.count - 1) (omega arith) ∙ rw g

    pub fits_refused : (why : Lexical) (p : Cursor) → t.ending ≡ Some (halt why p) → standing form t.ending file ≡ true
        → well_formed (row_words_of form file) t ≡ breaks (row_words_of form file) t.length t.count p
    fits_refused why p e f =
        let g = sym (all_stand (Some (halt why p))) ∙ rw e at f in
        well_refused (row_words_of form file) t lent short why p e ∙ rw g
