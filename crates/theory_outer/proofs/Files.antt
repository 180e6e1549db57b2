-- Stored tables, of the calls as they are made: one encoding, backwards; one changed byte; refused calls.
use Prim.Native.Nat.{ℕ, ◌/◌, ◌≤◌, ◌<◌}
use native.Mathlib.Omega.{arith}
use mathlib.Core.Bool.{true, false, true≢false}
use mathlib.Core.List.{List}
use mathlib.Core.Path.{◌≡◌, refl, ap, sym, ◌∙◌}
use lib.ListN.{length, get_or, set}
use borrow.Author.Tests.{le-ltb}
use Rattle.rules.specs.Outcomes.{Ending, halt}
use Rattle.std.specs.declared.option.Option.TheVariants.{None, Some}
use Rattle.rules.specs.declared.Lexical.{Lexical}
use Rattle.rules.specs.declared.Cursor.{Cursor}
use Rattle.rules.specs.declared.Lexical.TheVariants as lexical
use Rattle.rules.specs.declared.Outer.TheVariants as outer
use Rattle.rules.specs.Text.{start_place}
use Rattle.rules.specs.Scan.{room_of}
use Rattle.rules_files.specs.declared.Fault.{Fault}
use Rattle.rules_files.specs.declared.Fault.TheVariants as fault
use Rattle.rules_files.specs.declared.Fault.TheVariants.{BadBlock}
use Rattle.rules_files.specs.Blocks.{block_bytes, file_length}
use Rattle.rules_files.specs.Files.{fault_number, most_rows, row_bytes, encode, store_told, store_leaves, load_told, load_leaves}
use Rattle.laws.specs.Bounds.{Bytes, Words}
use Rattle.theory_files.proofs.Said.{reads_of}
use Rattle.theory_files.proofs.Files.{read_left, encode_length, changed_told, stored_changed, stored_of, stored_file, store_written, store_untouched, load_untouched}
use Rattle.answers.specs.Layout.{words, ending_words, is_ending, table_of}
use Rattle.file_answers.specs.Layout.{stored_words, loaded_words}
use Rattle.spoonharbor.specs.OuterFiles.{OuterStored, file_of, OuterFile, OuterLends}
use Rattle.spoonharbor.specs.OuterParse.{OuterRefused}
use Rattle.spoonharbor.proofs.OuterFiles.{is_file, outer_load_lends}
use Rattle.theory_outer.specs.Calls.{StoreCall, LoadCall}
use Rattle.theory_outer.proofs.Calls.{store_says, load_says}
use Rattle.rules.specs.declared.Table.{Table}
use Rattle.std.specs.Prelude.{Result, Ok, Err}

-- ---- a load

-- 41 with its block, and every lent word as it was
refused_block : {file lent answer rows : List ℕ} {k : ℕ} → LoadCall file lent answer rows
    → load_told file (room_of lent) ≡ Err (BadBlock k)
    → OuterRefused lent answer rows 41 start_place k 0 0
refused_block {file} {lent} {k = k} l e =
    record { told = (load_says l).0 ∙ ap loaded_words e; left = (load_says l).1 ∙ load_untouched file lent (BadBlock k) e }

-- A load told a table. The file is bytes.
module _ {file lent answer rows : List ℕ} (l : LoadCall file lent answer rows) (bytes : Bytes file)
    (h : is_ending (get_or answer 0 0) ≡ true) where
  lends : OuterLends file lent answer rows
  lends = rw ((load_says l).0, (load_says l).1) (outer_load_lends file lent bytes (rw (load_says l).0 at h))

  same_file : encode rows (table_of answer) ≡ file
  same_file = rw (load_says l).1 (read_left file bytes (room_of lent) (table_of answer) lends.told lent refl)

  same_size : file_length row_bytes (table_of answer).count ≡ length file
  same_size = sym (encode_length rows (table_of answer)) ∙ ap length same_file

  stores : (room : ℕ) → length file ≤ room → store_told rows (table_of answer) room ≡ Ok (length file)
  unfolding store_told
  stores room k =
      let few = (reads_of file (room_of lent) (table_of answer) lends.told).few in
      rw (lends.well, le-ltb most_rows (table_of answer).count few, same_size, le-ltb room (length file) k)

  -- One encoding, backwards: a store of the rows that it left and the words that it told, in room for the file, writes
  -- the same bytes.
  pub load_then_store : {room told m : List ℕ} → StoreCall rows answer room told m → length file ≤ length room → OuterFile file room told m
  load_then_store {room} s k =
      let e = stores (length room) k in
      record {
        told = (store_says s).0 ∙ ap stored_words e;
        left = (store_says s).1 ∙ store_written rows (table_of answer) room (length file) e ∙ rw same_file;
      }

  -- With any one byte changed, a load of the file says 41 with that byte's block.
  pub load_changed : {i v : ℕ} → i < length file → v < 256 → (get_or file i 0 ≡ v → ⊥) → {room told m : List ℕ}
      → LoadCall (set file i v) room told m → OuterRefused room told m 41 start_place (i / block_bytes) 0 0
  load_changed {i} {v} k b ne {room} g =
      let f = (reads_of file (room_of lent) (table_of answer) lends.told).frame in
      refused_block g (changed_told file bytes f i v k b ne (room_of room))

-- ---- a store

-- A store told a file. Its rows are words.
module _ {rows table lent answer m : List ℕ} (s : StoreCall rows table lent answer m) (z : get_or answer 0 0 ≡ 0) (fit : Words rows) where
  was_stored : OuterStored rows table lent answer m
  was_stored = record { told = (store_says s).0; left = (store_says s).1; stored = z }

  told_bytes : store_told rows (table_of table) (length lent) ≡ Ok (get_or answer 7 0)
  told_bytes = is_file _ _ _ _ _ was_stored fit

  -- what is written is the one file of its table
  pub its_file : file_of answer m ≡ encode rows (table_of table)
  its_file = rw (store_says s).1 (stored_file rows (table_of table) lent (get_or answer 7 0) told_bytes fit)

  -- With any one byte changed, a load of the file says 41 with that byte's block.
  pub store_changed : {i v : ℕ} → i < length (file_of answer m) → v < 256 → (get_or (file_of answer m) i 0 ≡ v → ⊥) → {room told back : List ℕ}
      → LoadCall (set (file_of answer m) i v) room told back → OuterRefused room told back 41 start_place (i / block_bytes) 0 0
  store_changed {i} {v} k b ne {room} g =
      let o = stored_of rows (table_of table) (length lent) (get_or answer 7 0) told_bytes in
      let e = stored_changed rows (table_of table) o.well o.few fit i v (rw its_file at k) b (rw its_file at ne) (room_of room) in
      refused_block g (rw its_file e)

-- ---- refused calls

-- A store that is refused leaves every lent byte.
pub store_refused : {rows table lent answer m : List ℕ} → StoreCall rows table lent answer m → (get_or answer 0 0 ≡ 0 → ⊥) → m ≡ lent
store_refused {rows} {table} {lent} {answer} s ne = (store_says s).1 ∙ by (store_told rows (table_of table) (length lent)) refl
  where
    by : (x : Result ℕ Fault) → store_told rows (table_of table) (length lent) ≡ x → store_leaves rows (table_of table) lent ≡ lent
    by (Ok n) e = absurd (ne (ap (λ (ws : List ℕ). get_or ws 0 0) ((store_says s).0 ∙ ap stored_words e)))
    by (Err why) e = store_untouched rows (table_of table) lent why e

-- a table's number is an ending's
pub ending_told : (k n : ℕ) (e : Ending) → is_ending (get_or (ending_words k n e) 0 0) ≡ true
unfolding is_ending
ending_told k n None = refl
ending_told k n (Some z) = case z.why z.at
  where
    case : (why : Lexical) (p : Cursor) → is_ending (get_or (ending_words k n (Some (halt why p))) 0 0) ≡ true
    case lexical.NoRowBegins p = refl
    case lexical.LoneSign p = refl
    case lexical.NoHexDigit p = refl
    case lexical.OpenComment p = refl
    case lexical.OpenString p = refl
    case lexical.BadEscape p = refl
    case lexical.NumberTooLarge p = refl

-- and no fault's is
pub no_ending : (why : Fault) → is_ending (fault_number why) ≡ false
unfolding is_ending
no_ending (fault.Outer outer.TextTooLong) = refl
no_ending (fault.Outer outer.BadByte) = refl
no_ending (fault.Outer outer.NotWellFormed) = refl
no_ending (fault.Outer outer.NoRowRoom) = refl
no_ending (fault.Outer outer.NoNodeRoom) = refl
no_ending (fault.Outer outer.EditNotSensible) = refl
no_ending (fault.Outer outer.WindowShort) = refl
no_ending fault.TooManyRows = refl
no_ending (fault.BadBlock k) = refl
no_ending fault.WrongLength = refl
no_ending fault.NoTable = refl
no_ending fault.OtherForm = refl

-- A load that is refused leaves every lent word.
pub load_refused : {file lent answer rows : List ℕ} → LoadCall file lent answer rows → is_ending (get_or answer 0 0) ≡ false → rows ≡ lent
load_refused {file} {lent} {answer} l f = (load_says l).1 ∙ by (load_told file (room_of lent)) refl
  where
    by : (x : Result Table Fault) → load_told file (room_of lent) ≡ x → load_leaves file lent ≡ lent
    by (Ok t) e =
        absurd (true≢false (sym (ending_told t.count t.length t.ending) ∙ rw ((load_says l).0, e) at f))
    by (Err why) e = load_untouched file lent why e
