-- Laws of files of form 2: lines and columns put back and dropped again, what is known of a file that is judged to hold a table, and
-- that it is the one file of that table, wherever its places are counted.
use mathlib.Core.Path.{◌≡◌, refl, sym, ap, ◌∙◌}
use mathlib.Core.Bool.{Bool, true, false, cond}
use mathlib.Core.List.{List, [], ◌∷◌, append-nil}
use Prim.Native.Nat.{ℕ, zero, suc, ◌+◌, ◌*◌, ◌≤◌, ◌<◌}
use native.Mathlib.Omega.{arith}
use lib.ListN.{length, take, drop, get_or, length-drop}
use lib.Seq.{take_all, take-add}
use lib.Dec.{eqb}
use borrow.Author.Tests.{eqb-true}
use Rattle.rules.specs.declared.Cursor.{Cursor}
use Rattle.rules.specs.Outcomes.{Ending}
use Rattle.std.specs.declared.option.Option.TheVariants.{None, Some}
use Rattle.rules.specs.declared.Table.{Table}
use Rattle.rules.specs.Text.{place}
use Rattle.rules.specs.Rows.{row_in, well_formed, words_per_row}
use Rattle.rules_files.specs.Bytes.{words_in}
use Rattle.rules_files.specs.Blocks.{content_of, sound, blocks_for, file_length, block_bytes}
use Rattle.rules_files.specs.Files.{most_rows, ending_said, said_at, form_said, count_said, length_said, read_refused, read_ending}
use Rattle.rules_forms.specs.Short.{short_row, shortened, placed_row, placed, placed_ending, on_one_line, short_ending_said, short_said, short_encode, short_ending, short_words_in, short_sound_in, short_table, short_blocks, short_judged, short_bytes, short_said_bytes, short_words, short_number}
use Rattle.laws.specs.Bounds.{Bytes}
use Rattle.theory_files.specs.Whole.{Fits, Whole, said_from, words_of, sound_of, whole_told}
use Rattle.theory_forms.specs.Forms.{RefusedByName}
use Rattle.theory_forms.proofs.Older.{refused_by_name}
use Rattle.theory_files.proofs.Whole.{content_said, words_size, whole_file}
use Rattle.theory_files.proofs.Told.{told_whole, read_of}
use Rattle.theory_files.proofs.Said.{refused_said, ending_said_lem}
use Rattle.std.specs.Prelude as option
use Rattle.std.specs.Prelude.{Ok}

-- ---- lines and columns put back and dropped again

six_words : (ws : List ℕ) → short_words ≤ length ws
    → (get_or ws 0 0 ∷ get_or ws 1 0 ∷ get_or ws 2 0 ∷ get_or ws 3 0 ∷ get_or ws 4 0 ∷ get_or ws 5 0 ∷ []) ≡ take short_words ws
six_words (a ∷ b ∷ c ∷ d ∷ e ∷ f ∷ ws) h = refl
six_words [] h = absurd (omega arith)
six_words (a ∷ []) h = absurd (omega arith)
six_words (a ∷ b ∷ []) h = absurd (omega arith)
six_words (a ∷ b ∷ c ∷ []) h = absurd (omega arith)
six_words (a ∷ b ∷ c ∷ d ∷ []) h = absurd (omega arith)
six_words (a ∷ b ∷ c ∷ d ∷ e ∷ []) h = absurd (omega arith)

-- lines and columns that were put back are dropped again
pub shortened_placed : (at : ℕ → Cursor) (n : ℕ) (ws : List ℕ) → short_words * n ≤ length ws
    → shortened n (placed at n ws) ≡ take (short_words * n) ws
unfolding shortened placed placed_row short_row row_in
shortened_placed at zero ws h = refl
shortened_placed at (suc n) ws h =
    let e : short_words * suc n ≡ short_words + short_words * n = omega arith in
    let r = shortened_placed at n (drop short_words ws) (omega (arith, length-drop short_words ws)) in
    rw (e, take-add short_words (short_words * n) ws, ← six_words ws (omega arith), r)

-- rows with lines and columns have eight words
pub placed_length : (at : ℕ → Cursor) (n : ℕ) (ws : List ℕ) → length (placed at n ws) ≡ words_per_row * n
unfolding placed placed_row
placed_length at zero ws = refl
placed_length at (suc n) ws = let r = placed_length at n (drop short_words ws) in omega arith

-- ---- the sizes of form 2, and the words of block 0

-- block 0 "drops the ending's line and column"
abbrev pub short_said_words : ℕ
short_said_words = 5

-- a block has room for a row, and block 0 for what it says
pub short_fits : Fits short_words short_said_words
short_fits = record { some = omega arith; here = omega arith; first = omega arith }

-- a word of block 0's content is the word that it says
pub content_short : (file : List ℕ) (i : ℕ) → i < short_said_words
    → get_or (words_in short_said_words (content_of short_said_bytes (take block_bytes file))) i 0 ≡ said_at i file
content_short = content_said short_fits

-- the words that say an ending in form 2 are the first two of form 1
front_said : (e : Ending) → short_ending_said e ≡ take 2 (ending_said e)
front_said None = refl
front_said (Some e) = refl

-- an ending keeps its words wherever its place is counted
pub placed_said : (at : ℕ → Cursor) → ((k : ℕ) → (at k).offset.0 ≡ k) → (e : Ending)
    → short_ending_said (placed_ending at e) ≡ short_ending_said e
placed_said at o None = refl
placed_said at o (Some e) = rw (o e.at.offset.0)

-- an ending that is read says the words that it was read from
pub ending_short : (at : ℕ → Cursor) → ((k : ℕ) → (at k).offset.0 ≡ k) → (file : List ℕ) (e : Ending) → short_ending at file ≡ option.Some e
    → short_ending_said e ≡ said_at 3 file ∷ said_at 4 file ∷ []
unfolding short_ending
ending_short at o file e q = go (eqb (said_at 3 file) 0) refl q
  where
    go : (b : Bool) → eqb (said_at 3 file) 0 ≡ b
        → cond b (read_ending 0 (place (said_at 4 file) 0 0)) (read_refused (said_at 3 file) (at (said_at 4 file))) ≡ option.Some e
        → short_ending_said e ≡ said_at 3 file ∷ said_at 4 file ∷ []
    go true f q = front_said e ∙ ap (take 2) (ending_said_lem 0 (place (said_at 4 file) 0 0) e q) ∙ rw (eqb-true (said_at 3 file) 0 f)
    go false f q = front_said e ∙ ap (take 2) (refused_said (said_at 3 file) (at (said_at 4 file)) e q) ∙ rw (o (said_at 4 file))

-- ---- a file that is judged to hold a table

-- its blocks are those that block 0 says, all of them sound, and it says the table, whose lines and columns are those of a text of one line
pub record ReadsShort (file : List ℕ) (t : Table) : Type 0 where
  pub long : block_bytes ≤ length file
  pub first : sound 0 0 short_said_bytes (take block_bytes file) ≡ true
  pub whole : length file ≡ file_length short_bytes (count_said file)
  pub others : blocks_for short_bytes (count_said file) ≤ short_sound_in file
  pub count : t.count ≡ count_said file
  pub size : t.length ≡ length_said file
  pub ending : short_ending on_one_line file ≡ option.Some t.ending
  pub few : t.count ≤ most_rows
  pub well : well_formed (placed on_one_line (count_said file) (short_words_in file)) t ≡ true

-- all of its blocks are sound
pub short_whole : {file : List ℕ} {t : Table} → ReadsShort file t → Whole short_words short_said_words (count_said file) file
unfolding short_sound_in sound_of
short_whole r = record { long = r.long; first = r.first; whole = r.whole; others = r.others }

-- the tests in front of the table are those of the form's sizes
pub short_tests : (file : List ℕ) → short_judged file ≡ whole_told short_words short_said_words (count_said file) file false (short_table file)
unfolding short_judged short_blocks short_sound_in sound_of whole_told
short_tests file = refl

-- what is known of a file that is judged to hold a table
pub reads_short : (file : List ℕ) (t : Table) → short_judged file ≡ Ok t → ReadsShort file t
unfolding short_table short_sound_in sound_of
reads_short file t q =
    let n = count_said file in
    let ws : List ℕ = placed on_one_line n (short_words_in file) in
    let i = told_whole short_words short_said_words n file false (short_table file) t (sym (short_tests file) ∙ q) in
    let s = read_of ws n n (length_said file) (short_ending on_one_line file) t i.told in
    let w = i.whole in
    record {
      long = w.long;
      first = w.first;
      whole = w.whole;
      others = w.others;
      count = s.count_is;
      size = s.size_is;
      ending = s.ending;
      few = s.few;
      well = s.well;
    }

-- ---- such a file is the one of its table, wherever its places are counted

-- the table with its ending at the place that the offset has
abbrev pub placed_table : (ℕ → Cursor) → Table → Table
placed_table at t = record { count = t.count; length = t.length; ending = placed_ending at t.ending }

module _ (file : List ℕ) (bytes : Bytes file) (t : Table) (r : ReadsShort file t) (form : form_said file ≡ short_number)
    (at : ℕ → Cursor) (offsets : (k : ℕ) → (at k).offset.0 ≡ k) where
  one_offset : (k : ℕ) → (on_one_line k).offset.0 ≡ k
  unfolding on_one_line
  one_offset k = refl

  says : short_said (placed_table at t) ≡ said_from short_said_words 0 file
  unfolding said_from
  says =
      let e = placed_said at offsets t.ending ∙ ending_short on_one_line one_offset file t.ending r.ending in
      rw (e, r.count, r.size, form)

  kept : shortened t.count (placed at (count_said file) (short_words_in file)) ≡ short_words_in file
  unfolding short_words_in words_of
  kept =
      let n = count_said file in
      let l : length (short_words_in file) ≡ short_words * n = words_size short_fits n file in
      rw r.count (shortened_placed at n (short_words_in file) (omega arith) ∙ take_all (short_words * n) (short_words_in file) (omega arith))

  -- one encoding of form 2
  pub short_stored : short_encode (placed at (count_said file) (short_words_in file)) (placed_table at t) ≡ file
  unfolding short_encode short_words_in words_of
  short_stored = rw (says, kept, r.count) (rw append-nil at (whole_file short_fits file bytes (count_said file) (short_whole r) []))

-- ---- and a reader that knows form 1 alone refuses it by name

-- so it is with every file of form 2 that holds a table
pub older_refuses : (file : List ℕ) (t : Table) → form_said file ≡ short_number → short_judged file ≡ Ok t → RefusedByName file
older_refuses file t form held =
    let r = reads_short file t held in
    refused_by_name file (record { long = r.long; first = r.first; form = form })
