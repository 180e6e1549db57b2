-- Laws of what block 0 of form 1 says: its words where they stand, the ending that they tell, and when a file is read.
use mathlib.Core.Path.{◌≡◌, refl, sym, ◌∙◌}
use mathlib.Core.Bool.{Bool, true, false, cond, not, ◌&&◌}
use mathlib.Core.List.{List, [], ◌∷◌}
use Prim.Native.Nat.{ℕ, ◌+◌, ◌≤◌, ◌<◌}
use native.Mathlib.Omega.{arith}
use lib.ListN.{length, take, get_or}
use lib.Dec.{eqb}
use borrow.Author.Tests.{eqb-true, eq-eqb, ne_eqb, lt-ltb, le-ltb, not-false}
use Rattle.laws.proofs.Tests.{both_true}
use Rattle.rules.specs.declared.Cursor.{Cursor}
use Rattle.rules.specs.declared.Lexical.{Lexical}
use Rattle.rules.specs.Outcomes.{Ending, halt}
use Rattle.std.specs.declared.option.Option.TheVariants.{None, Some}
use Rattle.rules.specs.declared.Table.{Table}
use Rattle.rules.specs.Rows.{well_formed, words_per_row}
use Rattle.rules.specs.Refusals.{lexical_number}
use Rattle.rules.specs.Back.{is_lexical, lexical_of}
use Rattle.refusals.proofs.Back.{number_back, number_lexical, reason_again}
use Rattle.rules_files.specs.declared.Fault.TheVariants.{BadBlock, WrongLength, OtherForm}
use Rattle.rules_files.specs.Bytes.{words_in}
use Rattle.rules_files.specs.Blocks.{content_of, sound, blocks_for, file_length, block_bytes}
use Rattle.rules_files.specs.Files.{most_rows, row_bytes, form_number, said_at, ending_said, read_refused, read_ending, ending_in, count_said, length_said, form_said, row_words_in, sound_in, read_told, blocks_told, said_told, load_told, said_bytes}
use Rattle.theory_files.specs.Whole.{Fits, Whole, sound_of, whole_told}
use Rattle.theory_files.proofs.Whole.{content_said, said_kept}
use Rattle.theory_files.proofs.Told.{told_whole, whole_told_lem, read_of}
use Rattle.rules_files.specs.declared.Fault.{Fault}
use Rattle.std.specs.Prelude as option
use Rattle.std.specs.Prelude.{Result, Ok, Err}
pub use Rattle.theory_files.proofs.Whole.{words_at}
pub use Rattle.theory_files.proofs.Told.{passed, Last, last_of}
pub use Rattle.theory_files.proofs.Told.{told_nothing, told_rows, told_many, told_unformed, told_full, told_table}

-- ---- the sizes of form 1, and the words of block 0

-- "form number 1, text length, row count, ending number, and the ending's offset, line and column"
abbrev pub said_words : ℕ
said_words = 7

-- a block has room for a row, and block 0 for what it says
pub long_fits : Fits words_per_row said_words
long_fits = record { some = omega arith; here = omega arith; first = omega arith }

-- the words of block 0 are those of its content
pub content_word : (file : List ℕ) (i : ℕ) → i < said_words
    → get_or (words_in said_words (content_of said_bytes (take block_bytes file))) i 0 ≡ said_at i file
content_word = content_said long_fits

-- and stand in its 512 bytes
pub said_front : (file g : List ℕ) → take block_bytes file ≡ take block_bytes g → (i : ℕ) → i < said_words → said_at i file ≡ said_at i g
said_front = said_kept long_fits

-- ---- the ending that is told

-- a refusal's number is read as that refusal
pub refused_back : (why : Lexical) (p : Cursor) → read_refused (lexical_number why) p ≡ Some (Some (halt why p))
unfolding read_refused
refused_back why p = rw (number_lexical why, number_back why)

pub refused_said : (n : ℕ) (p : Cursor) (e : Ending) → read_refused n p ≡ option.Some e
    → ending_said e ≡ n ∷ p.offset.0 ∷ p.line.0 ∷ p.column.0 ∷ []
unfolding read_refused
refused_said n p e q = go (is_lexical n) refl q
  where
    go : (b : Bool) → is_lexical n ≡ b → cond b (Some (Some (halt (lexical_of n) p))) None ≡ Some e
        → ending_said e ≡ n ∷ p.offset.0 ∷ p.line.0 ∷ p.column.0 ∷ []
    go true f q =
        let g : Some (halt (lexical_of n) p) ≡ e = cc in
        rw (← g, reason_again n f)
    go false f q = absurd (let z : ◌≡◌ {A = ℕ} 0 1 = cc in omega arith)

-- an ending that is read says the words that it was read from
pub ending_said_lem : (n : ℕ) (p : Cursor) (e : Ending) → read_ending n p ≡ option.Some e
    → ending_said e ≡ n ∷ p.offset.0 ∷ p.line.0 ∷ p.column.0 ∷ []
unfolding read_ending
ending_said_lem n p e q = go (eqb n 0) refl q
  where
    zero_place : Bool
    zero_place = eqb p.offset.0 0 && (eqb p.line.0 0 && eqb p.column.0 0)

    bare : n ≡ 0 → (b : Bool) → zero_place ≡ b → cond b (option.Some None) option.None ≡ option.Some e
        → ending_said e ≡ n ∷ p.offset.0 ∷ p.line.0 ∷ p.column.0 ∷ []
    bare z true f q =
        let x = both_true (eqb p.offset.0 0) (eqb p.line.0 0 && eqb p.column.0 0) f in
        let y = both_true (eqb p.line.0 0) (eqb p.column.0 0) x.1 in
        let g : None ≡ e = cc in
        rw (← g, z, eqb-true p.offset.0 0 x.0, eqb-true p.line.0 0 y.0, eqb-true p.column.0 0 y.1)
    bare z false f q = absurd (let z : ◌≡◌ {A = ℕ} 0 1 = cc in omega arith)

    go : (b : Bool) → eqb n 0 ≡ b → cond b (cond zero_place (option.Some None) option.None) (read_refused n p) ≡ option.Some e
        → ending_said e ≡ n ∷ p.offset.0 ∷ p.line.0 ∷ p.column.0 ∷ []
    go true f q = bare (eqb-true n 0 f) zero_place refl q
    go false f q = refused_said n p e q

-- ---- a file that is read

-- its blocks are those that block 0 says, all of them sound
pub record Framed (file : List ℕ) : Type 0 where
  pub long : block_bytes ≤ length file
  pub first : sound 0 0 said_bytes (take block_bytes file) ≡ true
  pub form : form_said file ≡ form_number
  pub whole : length file ≡ file_length row_bytes (count_said file)
  pub others : blocks_for row_bytes (count_said file) ≤ sound_in file

pub record Reads (file : List ℕ) (room : ℕ) (t : Table) : Type 0 where
  pub frame : Framed file
  pub count : t.count ≡ count_said file
  pub size : t.length ≡ length_said file
  pub ending : ending_in file ≡ option.Some t.ending
  pub few : t.count ≤ most_rows
  pub well : well_formed (row_words_in file) t ≡ true
  pub room_is : t.count ≤ room

-- what is told of the rows, and the tests in front of it, which are those of the form's sizes
abbrev rows_read : List ℕ → ℕ → Result Table Fault
rows_read file room = read_told (row_words_in file) room (count_said file) (length_said file) (ending_in file)

pub load_tests : (file : List ℕ) (room : ℕ) → load_told file room
    ≡ whole_told words_per_row said_words (count_said file) file (not (eqb (form_said file) form_number)) (rows_read file room)
unfolding load_told said_told blocks_told sound_in sound_of whole_told
load_tests file room = refl

-- as form 1 has it, a file whose blocks are those that block 0 says, all of them sound, is whole
pub framed_whole : {file : List ℕ} → Framed file → Whole words_per_row said_words (count_said file) file
unfolding sound_in sound_of
framed_whole f = record { long = f.long; first = f.first; whole = f.whole; others = f.others }

-- and a whole file that says 1 is such a file
pub whole_framed : {file : List ℕ} → Whole words_per_row said_words (count_said file) file → form_said file ≡ form_number → Framed file
unfolding sound_in sound_of
whole_framed w e = record { long = w.long; first = w.first; form = e; whole = w.whole; others = w.others }

-- what is known of a file that is read
pub reads_of : (file : List ℕ) (room : ℕ) (t : Table) → load_told file room ≡ Ok t → Reads file room t
reads_of file room t q =
    let one = eqb (form_said file) form_number in
    let i = told_whole words_per_row said_words (count_said file) file (not one) (rows_read file room) t (sym (load_tests file room) ∙ q) in
    let s = read_of (row_words_in file) room (count_said file) (length_said file) (ending_in file) t i.told in
    record {
      frame = whole_framed i.whole (eqb-true (form_said file) form_number (not-false one i.form));
      count = s.count_is;
      size = s.size_is;
      ending = s.ending;
      few = s.few;
      well = s.well;
      room_is = s.room_is;
    }

-- a file whose blocks are all sound is told by its rows
pub framed_told : (file : List ℕ) (room : ℕ) → Framed file
    → load_told file room ≡ read_told (row_words_in file) room (count_said file) (length_said file) (ending_in file)
framed_told file room f =
    load_tests file room ∙ whole_told_lem words_per_row said_words (count_said file) file _ (rows_read file room) (framed_whole f) (rw f.form)

-- ---- the way through the tests

module _ (file : List ℕ) (room : ℕ) where
  pub told_short : length file < block_bytes → load_told file room ≡ Err WrongLength
  unfolding load_told
  told_short h = rw (lt-ltb (length file) block_bytes h)

  module _ (long : block_bytes ≤ length file) where
    pub told_bad : sound 0 0 said_bytes (take block_bytes file) ≡ false → load_told file room ≡ Err (BadBlock 0)
    unfolding load_told
    told_bad e = rw (le-ltb (length file) block_bytes long, e)

    pub told_said : sound 0 0 said_bytes (take block_bytes file) ≡ true → load_told file room ≡ said_told file room
    unfolding load_told
    told_said e = rw (le-ltb (length file) block_bytes long, e)

  pub told_other : (form_said file ≡ form_number → ⊥) → said_told file room ≡ Err OtherForm
  unfolding said_told
  told_other h = rw (ne_eqb (form_said file) form_number h)

  module _ (form : form_said file ≡ form_number) where
    pub told_cut : (length file ≡ file_length row_bytes (count_said file) → ⊥) → said_told file room ≡ Err WrongLength
    unfolding said_told
    told_cut h = rw (eq-eqb (form_said file) form_number form, ne_eqb (length file) (file_length row_bytes (count_said file)) h)

    pub told_blocks : length file ≡ file_length row_bytes (count_said file) → said_told file room ≡ blocks_told file room
    unfolding said_told
    told_blocks h = rw (eq-eqb (form_said file) form_number form, eq-eqb (length file) (file_length row_bytes (count_said file)) h)

  pub told_unsound : sound_in file < blocks_for row_bytes (count_said file)
      → blocks_told file room ≡ Err (BadBlock (1 + sound_in file))
  unfolding blocks_told
  told_unsound h = rw (lt-ltb (sound_in file) (blocks_for row_bytes (count_said file)) h)

  pub told_read : blocks_for row_bytes (count_said file) ≤ sound_in file
      → blocks_told file room ≡ read_told (row_words_in file) room (count_said file) (length_said file) (ending_in file)
  unfolding blocks_told
  told_read h = rw (le-ltb (sound_in file) (blocks_for row_bytes (count_said file)) h)
