-- The theorems about files of form 1. A file that was written is read, as the table that was written and its rows, word by word.
-- A file that is read is the one that its table writes. A file that is read, with any one of its bytes changed, is refused with 41
-- and that byte's block. A refused call leaves lent memory as it was.
use mathlib.Core.Path.{◌≡◌, refl, sym, ap, ◌∙◌}
use mathlib.Core.Bool.{Bool, true, false, cond, not, ◌&&◌}
use mathlib.Core.List.{List, [], ◌∷◌, ◌++◌}
use Prim.Native.Nat.{ℕ, zero, suc, ◌+◌, ◌*◌, ◌/◌, ◌^◌, ◌≤◌, ◌<◌}
use native.Mathlib.Omega.{arith}
use lib.ListN.{length, take, drop, get_or, set, length-append, length-take}
use lib.Seq.{take-nil, take_at, take-set-le}
use lib.Dec.{eqb, leb, ltb}
use borrow.Author.Tests.{leb-true, le-leb, ltb-false, not-false}
use Rattle.laws.proofs.Tests.{both_true}
use Rattle.rules.specs.declared.Cursor.{Cursor}
use Rattle.rules.specs.Outcomes.{Ending}
use Rattle.std.specs.declared.option.Option.TheVariants.{None, Some}
use Rattle.rules.specs.declared.Table.{Table}
use Rattle.rules.specs.Text.{place, most_bytes}
use Rattle.rules.specs.Rows.{Row, rows_in, every, is_eof, place_fits, ends_behind, last_row, ending_fits, rows_fit, chained, follows, gaps_fit, row_fits, well_formed, words_per_row}
use Rattle.rules.specs.Scan.{room_of}
use Rattle.rules.specs.Refusals.{lexical_number}
use Rattle.refusals.proofs.Back.{number_some, number_most}
use Rattle.rules_files.specs.declared.Fault.{Fault}
use Rattle.rules_files.specs.declared.Fault.TheVariants.{Outer, TooManyRows, BadBlock}
use Rattle.rules.specs.declared.Outer.TheVariants.{NotWellFormed, NoRowRoom}
use Rattle.rules_files.specs.Blocks.{file_length, block_bytes}
use Rattle.rules_files.specs.Files.{most_rows, row_bytes, form_number, said_at, said, ending_said, read_ending, ending_in, count_said, length_said, form_said, row_words_in, rows_told, load_told, load_leaves, store_told, store_leaves, encode}
use Rattle.rules_files.specs.Bytes.{bytes_of}
use Rattle.laws.specs.Bounds.{none, some, Bytes, Words}
use Rattle.laws.proofs.Rows.{row_take}
use Rattle.theory_files.specs.Whole.{Holds, said_from, words_of}
use Rattle.theory_files.proofs.Whole.{words_size, held_bytes, held_said, held_whole, held_words, whole_file, file_length_lem}
use Rattle.theory_files.proofs.Told.{told_rows, told_table, told_full, changed_bad}
use Rattle.theory_files.proofs.Said.{long_fits, Framed, framed_whole, whole_framed, framed_told, load_tests, Reads, reads_of, said_words, said_front, refused_back, ending_said_lem}
use Rattle.theory_files.proofs.Numbers.{bytes_length}
use Rattle.std.specs.Prelude as option
use Rattle.std.specs.Prelude.{Result, Ok, Err}

-- ---- the rows of a table are its first words

pub drop_take : (a m : ℕ) (ws : List ℕ) → drop a (take (a + m) ws) ≡ take m (drop a ws)
drop_take zero m ws = let e : 0 + m ≡ m = omega arith in rw e
drop_take (suc a) m [] = let e : suc a + m ≡ suc (a + m) = omega arith in rw (e, take-nil m)
drop_take (suc a) m (x ∷ ws) = let e : suc a + m ≡ suc (a + m) = omega arith in rw e (drop_take a m ws)

pub rows_take : (n : ℕ) (ws : List ℕ) → rows_in n (take (words_per_row * n) ws) ≡ rows_in n ws
unfolding rows_in
rows_take zero ws = refl
rows_take (suc n) ws =
    let e : words_per_row * suc n ≡ words_per_row + words_per_row * n = omega arith in
    let d = drop_take words_per_row (words_per_row * n) ws in
    rw (e, row_take (words_per_row + words_per_row * n) ws (omega arith), d, rows_take n (drop words_per_row ws))

-- what well formed means of the count, the length and the ending's place
record Well (ws : List ℕ) (t : Table) : Type 0 where
  lent : t.count * words_per_row ≤ length ws
  short : t.length ≤ most_bytes
  fit : rows_fit t.length (rows_in t.count ws) t.ending ≡ true

well_of : (ws : List ℕ) (t : Table) → well_formed ws t ≡ true → Well ws t
unfolding well_formed
well_of ws t e =
    let a =
    both_true (leb (t.count * words_per_row) (length ws) && leb t.length most_bytes)
    (rows_fit t.length (rows_in t.count ws) t.ending) e in
    let b = both_true (leb (t.count * words_per_row) (length ws)) (leb t.length most_bytes) a.0 in
    record { lent = leb-true _ _ b.0; short = leb-true _ _ b.1; fit = a.1 }

pub well_take : (ws : List ℕ) (t : Table) → well_formed ws t ≡ true → well_formed (take (words_per_row * t.count) ws) t ≡ true
unfolding well_formed
well_take ws t e =
    let w = well_of ws t e in
    let l : length (take (words_per_row * t.count) ws) ≡ words_per_row * t.count =
    length-take (words_per_row * t.count) ws ∙ omega (arith, w.lent) in
    let f = le-leb (t.count * words_per_row) (length (take (words_per_row * t.count) ws)) (omega arith) in
    rw (rows_take t.count ws, f, le-leb t.length most_bytes w.short)
    w.fit

-- words behind its rows play no part
pub well_front : (ws more : List ℕ) (t : Table) → length ws ≡ words_per_row * t.count → well_formed ws t ≡ true
    → well_formed (ws ++ more) t ≡ true
unfolding well_formed
well_front ws more t l e =
    let w = well_of ws t e in
    let r : rows_in t.count (ws ++ more) ≡ rows_in t.count ws =
    sym (rows_take t.count (ws ++ more)) ∙ ap (rows_in t.count) (take_at ws more (words_per_row * t.count) l) in
    let f = le-leb (t.count * words_per_row) (length (ws ++ more)) (omega (arith, length-append ws more)) in
    rw (r, f, le-leb t.length most_bytes w.short) w.fit

-- ---- the words that say a table fit

ending_words : (n : ℕ) (rs : List Row) (e : Ending) → n ≤ most_bytes → ending_fits n rs e ≡ true → Words (ending_said e)
unfolding ending_fits place_fits
ending_words n rs None h f = let z : 0 < 2 ^ 32 = omega arith in some z (some z (some z (some z none)))
ending_words n rs (Some e) h f =
    let a = both_true (every (λ r. not (is_eof r)) rs) ((leb e.at.offset.0 n && place_fits e.at) && ends_behind (last_row rs) e.at) f in
    let b = both_true (leb e.at.offset.0 n && place_fits e.at) (ends_behind (last_row rs) e.at) a.1 in
    let c = both_true (leb e.at.offset.0 n) (place_fits e.at) b.0 in
    let d =
    both_true (leb 1 e.at.line.0 && leb 1 e.at.column.0) (leb e.at.line.0 (e.at.offset.0 + 1) && leb e.at.column.0 (e.at.offset.0 + 1))
    c.1 in
    let g = both_true (leb e.at.line.0 (e.at.offset.0 + 1)) (leb e.at.column.0 (e.at.offset.0 + 1)) d.1 in
    let u = leb-true e.at.offset.0 n c.0 in
    let v = leb-true e.at.line.0 (e.at.offset.0 + 1) g.0 in
    let w = leb-true e.at.column.0 (e.at.offset.0 + 1) g.1 in
    let x : e.at.offset.0 < 2 ^ 32 = omega arith in
    let y : e.at.line.0 < 2 ^ 32 = omega arith in
    let z : e.at.column.0 < 2 ^ 32 = omega arith in
    let s : lexical_number e.why < 2 ^ 32 = omega (arith, number_most e.why) in
    some s (some x (some y (some z none)))

-- an ending is said in four words
pub ending_four : (e : Ending) → length (ending_said e) ≡ 4
ending_four None = refl
ending_four (Some e) = refl

-- ---- a table and its file

pub encode_length : (ws : List ℕ) (t : Table) → length (encode ws t) ≡ file_length row_bytes t.count
unfolding encode
encode_length ws t =
    file_length_lem row_bytes (omega arith) (omega arith) (bytes_of (said t)) (omega (arith, bytes_length (said t), ending_four t.ending))
    t.count
    (bytes_of ws)

module _ (ws : List ℕ) (t : Table) (well : well_formed ws t ≡ true) (few : t.count ≤ most_rows) (words : Words ws) where
  pub said_words_lem : Words (said t)
  unfolding rows_fit
  said_words_lem =
      let w = well_of ws t well in
      let rows : List Row = rows_in t.count ws in
      let ends : Bool = ending_fits t.length rows t.ending in
      let a = both_true (every row_fits rows) (chained follows rows && (gaps_fit 0 rows && ends)) w.fit in
      let g = both_true (chained follows rows) (gaps_fit 0 rows && ends) a.1 in
      let b = both_true (gaps_fit 0 rows) ends g.1 in
      let x : form_number < 2 ^ 32 = omega arith in
      let y : t.length < 2 ^ 32 = omega (arith, w.short) in
      let z : t.count < 2 ^ 32 = omega arith in
      some x (some y (some z (ending_words t.length (rows_in t.count ws) t.ending w.short b.1)))

  -- what its file holds
  its : Holds words_per_row said_words (said t) ws t.count
  its = record {
    size = omega (arith, ending_four t.ending);
    said_fit = said_words_lem;
    few = omega (arith, few);
    all = omega (arith, (well_of ws t well).lent);
    rows_fit = words;
  }

  pub encode_bytes : Bytes (encode ws t)
  unfolding encode
  encode_bytes = held_bytes long_fits its

  said_is : (i : ℕ) → i < said_words → said_at i (encode ws t) ≡ get_or (said t) i 0
  unfolding encode
  said_is = held_said long_fits its

  pub count_is : count_said (encode ws t) ≡ t.count
  count_is = said_is 2 (omega arith)

  pub encode_framed : Framed (encode ws t)
  unfolding encode
  encode_framed = whole_framed (rw count_is (held_whole long_fits its)) (said_is 0 (omega arith))

  pub rows_are : row_words_in (encode ws t) ≡ take (words_per_row * t.count) ws
  unfolding row_words_in words_of encode
  rows_are = rw count_is (held_words long_fits its)

  -- ---- what was written is read

  module _ (e : Ending) (back : read_ending (get_or (said t) 3 0) (place (get_or (said t) 4 0) (get_or (said t) 5 0) (get_or (said t) 6 0)) ≡ option.Some e)
      (room : ℕ) where
    ending_is : ending_in (encode ws t) ≡ option.Some e
    unfolding ending_in
    ending_is = rw (said_is 3 (omega arith), said_is 4 (omega arith), said_is 5 (omega arith), said_is 6 (omega arith)) back

    pub written_told : load_told (encode ws t) room
        ≡ rows_told (take (words_per_row * t.count) ws) room (record { count = t.count; length = t.length; ending = e })
    written_told =
        let file : List ℕ = encode ws t in
        framed_told file room encode_framed
        ∙ told_rows (row_words_in file) room (count_said file) (length_said file) (ending_in file) e ending_is
        ∙ rw (rows_are, count_is, said_is 1 (omega arith))

-- the words that say an ending are read as that ending, since each reason has a number of its own
pub ending_back : (e : Ending)
    → read_ending (get_or (ending_said e) 0 0) (place (get_or (ending_said e) 1 0) (get_or (ending_said e) 2 0) (get_or (ending_said e) 3 0)) ≡ option.Some e
unfolding read_ending
ending_back None = refl
ending_back (Some e) = rw (number_some e.why) (refused_back e.why e.at)

-- Reading what was written gives back exactly the table, in room for its rows, and every row's words.
module _ (ws : List ℕ) (t : Table) (well : well_formed ws t ≡ true) (few : t.count ≤ most_rows) (words : Words ws) where
  pub stored_read : (room : ℕ) → t.count ≤ room → load_told (encode ws t) room ≡ Ok t
  stored_read room h =
      written_told ws t well few words t.ending (ending_back t.ending) room
      ∙ told_table (take (words_per_row * t.count) ws) room t few (well_take ws t well) h

  pub stored_full : (room : ℕ) → room < t.count → load_told (encode ws t) room ≡ Err (Outer NoRowRoom)
  stored_full room h =
      written_told ws t well few words t.ending (ending_back t.ending) room
      ∙ told_full (take (words_per_row * t.count) ws) room t few (well_take ws t well) h

  pub stored_words : (new : List ℕ) → t.count ≤ room_of new
      → load_leaves (encode ws t) new ≡ take (words_per_row * t.count) ws ++ drop (words_per_row * t.count) new
  unfolding load_leaves
  stored_words new h = rw (load_leaves, stored_read (room_of new) h) (rw (rows_are ws t well few words))

-- ---- what is read is what its table writes

module _ (file : List ℕ) (bytes : Bytes file) (room : ℕ) (t : Table) (told : load_told file room ≡ Ok t) where
  is_read : Reads file room t
  is_read = reads_of file room t told

  says : said t ≡ said_from said_words 0 file
  unfolding ending_in said_from
  says =
      let r = is_read in
      let e = ending_said_lem (said_at 3 file) (place (said_at 4 file) (said_at 5 file) (said_at 6 file)) t.ending r.ending in
      rw (e, r.count, r.size, r.frame.form)

  -- one encoding: whatever stands behind the rows that were read
  pub read_stored : (more : List ℕ) → encode (row_words_in file ++ more) t ≡ file
  unfolding encode row_words_in words_of
  read_stored more = rw (says, is_read.count) (whole_file long_fits file bytes (count_said file) (framed_whole is_read.frame) more)

  -- and so of the words that the reading leaves
  pub read_left : (ws : List ℕ) → room_of ws ≡ room → encode (load_leaves file ws) t ≡ file
  unfolding load_leaves
  read_left ws e = rw (load_leaves, e, told) (read_stored (drop (words_per_row * t.count) ws))

  -- and with them the table is well formed
  pub read_well : (ws : List ℕ) → room_of ws ≡ room → well_formed (load_leaves file ws) t ≡ true
  unfolding load_leaves row_words_in words_of
  read_well ws e =
      let l : length (row_words_in file) ≡ words_per_row * t.count =
      words_size long_fits (count_said file) file ∙ ap (λ (k : ℕ). words_per_row * k) (sym is_read.count) in
      rw (load_leaves, e, told) (well_front (row_words_in file) (drop (words_per_row * t.count) ws) t l is_read.well)

-- ---- one byte changed

module _ (file : List ℕ) (bytes : Bytes file) (f : Framed file) (i v : ℕ) (h : i < length file) (l : v < 256) (ne : get_or file i 0 ≡ v → ⊥)
    (room : ℕ) where
  -- behind block 0 it leaves what block 0 says
  said_same : block_bytes ≤ i → (j : ℕ) → j < said_words → said_at j (set file i v) ≡ said_at j file
  said_same g j k = said_front (set file i v) file (take-set-le block_bytes file i v g) j k

  -- any one changed byte is 41, with its block
  pub changed_told : load_told (set file i v) room ≡ Err (BadBlock (i / block_bytes))
  changed_told =
      let g : List ℕ = set file i v in
      load_tests g room
      ∙ changed_bad long_fits file bytes (count_said file) (framed_whole f) i v h l ne (count_said g) (not (eqb (form_said g) form_number)) _
      (λ k. (said_same k 2 (omega arith), rw (said_same k 0 (omega arith), f.form)))

-- of a file that was written, whatever its ending
pub stored_changed : (ws : List ℕ) (t : Table) → well_formed ws t ≡ true → t.count ≤ most_rows → Words ws
    → (i v : ℕ) → i < length (encode ws t) → v < 256 → (get_or (encode ws t) i 0 ≡ v → ⊥) → (room : ℕ)
    → load_told (set (encode ws t) i v) room ≡ Err (BadBlock (i / block_bytes))
stored_changed ws t well few words i v h l ne room =
    changed_told (encode ws t) (encode_bytes ws t well few words) (encode_framed ws t well few words) i v h l ne room

-- ---- lent memory

-- what is written is the file, and a refused call writes nothing
pub store_written : (ws : List ℕ) (t : Table) (file : List ℕ) (n : ℕ) → store_told ws t (length file) ≡ Ok n
    → store_leaves ws t file ≡ encode ws t ++ drop n file
unfolding store_leaves
store_written ws t file n e = rw (store_leaves, e)

pub store_untouched : (ws : List ℕ) (t : Table) (file : List ℕ) (why : Fault) → store_told ws t (length file) ≡ Err why
    → store_leaves ws t file ≡ file
unfolding store_leaves
store_untouched ws t file why e = rw (store_leaves, e)

pub load_written : (file ws : List ℕ) (t : Table) → load_told file (room_of ws) ≡ Ok t
    → load_leaves file ws ≡ row_words_in file ++ drop (words_per_row * t.count) ws
unfolding load_leaves
load_written file ws t e = rw (load_leaves, e)

pub load_untouched : (file ws : List ℕ) (why : Fault) → load_told file (room_of ws) ≡ Err why → load_leaves file ws ≡ ws
unfolding load_leaves
load_untouched file ws why e = rw (load_leaves, e)

-- ---- a writing and then a reading

-- what is known where a table was stored
pub record IsStored (ws : List ℕ) (t : Table) (n : ℕ) : Type 0 where
  pub well : well_formed ws t ≡ true
  pub few : t.count ≤ most_rows
  pub size : file_length row_bytes t.count ≡ n

stored_past : (b : Bool) (why : Fault) (y : Result ℕ Fault) (n : ℕ) → cond b (Err why) y ≡ Ok n
    → (b ≡ false) × (y ≡ Ok n)
stored_past true why y n e = absurd (let z : ◌≡◌ {A = ℕ} 0 1 = cc in omega arith)
stored_past false why y n e = (refl, e)

pub stored_of : (ws : List ℕ) (t : Table) (room n : ℕ) → store_told ws t room ≡ Ok n → IsStored ws t n
unfolding store_told
stored_of ws t room n e =
    let size = file_length row_bytes t.count in
    let last = cond (ltb room size) (Err (Outer NoRowRoom)) (Ok size) in
    let a =
    stored_past (not (well_formed ws t)) (Outer NotWellFormed) (cond (ltb most_rows t.count) (Err TooManyRows) last) n e in
    let b = stored_past (ltb most_rows t.count) TooManyRows last n a.1 in
    let c = stored_past (ltb room size) (Outer NoRowRoom) (Ok size) n b.1 in
    record { well = not-false (well_formed ws t) a.0; few = ltb-false most_rows t.count b.0; size = bytes_same c.1 }
  where
    bytes_same : ◌≡◌ {A = Result ℕ Fault} (Ok (file_length row_bytes t.count)) (Ok n) → file_length row_bytes t.count ≡ n
    bytes_same q = cc

-- What a writer leaves, as many bytes as it tells, is the table's file, and reads as the table that was written and its rows.
module _ (ws : List ℕ) (t : Table) (file : List ℕ) (n : ℕ) (e : store_told ws t (length file) ≡ Ok n) (words : Words ws) where
  is_stored : IsStored ws t n
  is_stored = stored_of ws t (length file) n e

  pub stored_file : take n (store_leaves ws t file) ≡ encode ws t
  stored_file =
      let l : length (encode ws t) ≡ n = encode_length ws t ∙ is_stored.size in
      rw (store_written ws t file n e, take_at (encode ws t) (drop n file) n l)

  pub stored_loaded : (room : ℕ) → t.count ≤ room → load_told (take n (store_leaves ws t file)) room ≡ Ok t
  stored_loaded room h = rw stored_file (stored_read ws t is_stored.well is_stored.few words room h)

  pub stored_left : (new : List ℕ) → t.count ≤ room_of new
      → load_leaves (take n (store_leaves ws t file)) new ≡ take (words_per_row * t.count) ws ++ drop (words_per_row * t.count) new
  stored_left new h = rw stored_file (stored_words ws t is_stored.well is_stored.few words new h)
