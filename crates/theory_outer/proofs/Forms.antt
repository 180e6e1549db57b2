-- Moved files, of the calls as they are made: to the form a file has, to form 2 and then read as form 1, and refused
-- calls.
use Prim.Native.Nat.{ℕ, ◌/◌, ◌≤◌}
use native.Mathlib.Omega.{arith}
use mathlib.Core.Bool.{Bool, true, false, cond, not, true≢false}
use mathlib.Core.List.{List, ◌++◌}
use mathlib.Core.Path.{◌≡◌, refl, ap, sym, ◌∙◌}
use lib.Dec.{eqb, ltb}
use lib.ListN.{length, take, drop, get_or, take-append-drop}
use lib.Seq.{drop_at}
use borrow.Author.Tests.{eqb-true, eq-eqb, le-ltb, not-false}
use Rattle.rules.specs.declared.Outer.TheVariants.{NoRowRoom}
use Rattle.rules.specs.declared.Table.{Table}
use Rattle.rules.specs.Text.{start_place}
use Rattle.rules.specs.Scan.{room_of}
use Rattle.rules_files.specs.declared.Fault.TheVariants.{Outer, OtherForm}
use Rattle.rules_files.specs.Blocks.{block_bytes, file_length}
use Rattle.rules_files.specs.Files.{form_said, count_said, row_words_in, load_told}
use Rattle.rules_forms.specs.declared.Apart.{Apart}
use Rattle.rules_forms.specs.declared.Apart.TheVariants.{File, OtherText}
use Rattle.rules_forms.specs.Short.{short_number, short_encode, short_judged}
use Rattle.rules_forms.specs.Forms.{is_form, is_short, judged, rows_beside, table_beside, encode_in, beside_judged, beside_told, beside_leaves}
use Rattle.rules_forms.specs.Forms.{agrees_beside, row_bytes_in, move_judged, move_told, moved_from, move_leaves}
use Rattle.laws.specs.Bounds.{Bytes, Words}
use Rattle.theory_files.specs.Whole.{words_of}
use Rattle.theory_files.proofs.Whole.{words_fit}
use Rattle.theory_files.proofs.Said.{long_fits, reads_of}
use Rattle.theory_files.proofs.Files.{load_untouched}
use Rattle.theory_forms.specs.Forms.{RefusedByName, SaysShort, IsMoved, written}
use Rattle.theory_forms.proofs.Short.{older_refuses}
use Rattle.theory_forms.proofs.Older.{refused_by_name}
use Rattle.theory_forms.proofs.Written.{written_form, written_judged}
use Rattle.theory_forms.proofs.Moves.{move_is, written_is, written_length, own_form, move_stays, move_untouched, beside_untouched}
use Rattle.answers.specs.Layout.{words, nowhere, is_ending, table_of}
use Rattle.answers.proofs.Table.{lent_table}
use Rattle.file_answers.specs.Layout.{loaded_words, beside_words, moved_words}
use Rattle.spoonharbor.specs.OuterFiles.{file_of, OuterFile}
use Rattle.spoonharbor.specs.OuterForms.{OuterMoved}
use Rattle.spoonharbor.specs.OuterParse.{OuterRefused}
use Rattle.spoonharbor.proofs.OuterForms as outer
use Rattle.theory_outer.specs.Calls.{LoadCall, LoadBesideCall, MoveCall}
use Rattle.theory_outer.proofs.Calls.{load_says, beside_says, move_says}
use Rattle.theory_outer.proofs.Files.{ending_told, no_ending}
use Rattle.rules_files.specs.declared.Fault.{Fault}
use Rattle.std.specs.Prelude.{Result, Ok, Err}

-- ---- a reading of form 1

refused_44 : {file lent answer rows : List ℕ} → LoadCall file lent answer rows → RefusedByName file
    → OuterRefused lent answer rows 44 start_place 0 0 0
refused_44 {file} {lent} l f =
    let e = f.told (room_of lent) in
    record { told = (load_says l).0 ∙ ap loaded_words e; left = (load_says l).1 ∙ load_untouched file lent OtherForm e }

-- A load of a file that says form 2, in a block 0 that is sound, says 44, whatever stands behind that block.
pub load_by_name : {file lent answer rows : List ℕ} → LoadCall file lent answer rows → SaysShort file
    → OuterRefused lent answer rows 44 start_place 0 0 0
load_by_name {file} l s = refused_44 l (refused_by_name file s)

-- So it does of a file of form 2 that a reading beside a text takes.
short_read : (text file : List ℕ) (room : ℕ) (t : Table) → beside_told text file room ≡ Ok t → form_said file ≡ short_number
    → RefusedByName file
unfolding beside_told beside_judged judged
short_read text file room t e f = by (short_judged file) refl
  where
    by : (x : Result Table Fault) → short_judged file ≡ x → RefusedByName file
    by (Ok u) j = older_refuses file u f j
    by (Err why) j =
        let q : Err (File why) ≡ Ok t = rw (eq-eqb (form_said file) short_number f, j) at e in
        absurd (let z : ◌≡◌ {A = ℕ} 0 1 = cc in omega arith)

pub beside_by_name : {text file lent answer rows : List ℕ} → LoadBesideCall text file lent answer rows → is_ending (get_or answer 0 0) ≡ true
    → form_said file ≡ short_number → {room told m : List ℕ} → LoadCall file room told m → OuterRefused room told m 44 start_place 0 0 0
unfolding is_ending
beside_by_name {text} {file} {lent} {answer} s h f {room} {told} {m} l = by (beside_told text file (room_of lent)) refl
  where
    by : (x : Result Table Apart) → beside_told text file (room_of lent) ≡ x → OuterRefused room told m 44 start_place 0 0 0
    by (Ok t) e = refused_44 l (short_read text file (room_of lent) t e f)
    by (Err (File why)) e = absurd (true≢false (sym h ∙ rw ((beside_says s).0, e) (no_ending why)))
    by (Err OtherText) e = absurd (true≢false (sym h ∙ rw ((beside_says s).0, e) refl))

-- ---- a move

module _ {text file : List ℕ} {form : ℕ} {lent answer m : List ℕ} (s : MoveCall text file form lent answer m) (z : get_or answer 0 0 ≡ 0)
    (bytes : Bytes file) where
  was_moved : IsMoved text file form lent (get_or answer 7 0)
  was_moved = outer.is_moved text file form lent answer m (record { told = (move_says s).0; left = (move_says s).1; moved = z }) bytes

  its_file : file_of answer m ≡ written text file form lent (get_or answer 7 0)
  its_file = rw (move_says s).1

  behind : drop (get_or answer 7 0) m ≡ drop (get_or answer 7 0) lent
  unfolding move_leaves moved_from
  behind =
      let n : ℕ = get_or answer 7 0 in
      let o = move_is text file form lent n was_moved in
      let f : List ℕ = encode_in form (rows_beside text file) (table_beside text file o.table) in
      let w = written_is text file form lent n was_moved in
      let l : length f ≡ n = ap length (sym w) ∙ written_length text file form lent n was_moved in
      rw ((move_says s).1, move_leaves, was_moved.told, o.judged_is) (drop_at f (drop n lent) n l)

-- To the form that it has, a file is moved to the same bytes.
pub moved_stays : {text file lent answer m : List ℕ} → MoveCall text file (form_said file) lent answer m → get_or answer 0 0 ≡ 0 → Bytes file
    → OuterFile file lent answer m
moved_stays {text} {file} {lent} {answer} {m} s z bytes =
    let n : ℕ = get_or answer 7 0 in
    let w = was_moved s z bytes in
    let e = move_stays text file lent n bytes w in
    record {
      told = (move_says s).0 ∙ ap moved_words w.told ∙ ap (λ (k : ℕ). words 0 nowhere 0 0 (k / block_bytes) k) e.size;
      left =
          sym (take-append-drop n m)
          ∙ ap (λ (f : List ℕ). f ++ drop n m) (its_file s z bytes ∙ e.bytes)
          ∙ ap (λ (f : List ℕ). file ++ f) (behind s z bytes ∙ ap (λ (k : ℕ). drop k lent) e.size);
    }

-- Moved to form 2, a file is 44 for a load, which reads form 1.
module _ (text file : List ℕ) (bytes : Bytes file) (t : Table) (held : judged file ≡ Ok t) where
  -- a file of form 2 has that form already
  of_short : is_short file ≡ true → RefusedByName (encode_in short_number (rows_beside text file) (table_beside text file t))
  unfolding judged
  of_short e =
      let f = eqb-true (form_said file) short_number e in
      let h : short_judged file ≡ Ok t = rw e at held in
      let k : is_form (form_said file) ≡ true = rw f in
      let w : encode_in short_number (rows_beside text file) (table_beside text file t) ≡ file =
      ap (λ (x : ℕ). encode_in x (rows_beside text file) (table_beside text file t)) (sym f) ∙ own_form text file bytes t held k in
      rw w (older_refuses file t f h)

  -- a file of form 1 is encoded in form 2
  of_long : is_short file ≡ false → RefusedByName (encode_in short_number (rows_beside text file) (table_beside text file t))
  unfolding judged rows_beside table_beside encode_in row_words_in words_of
  of_long e =
      let h : load_told file (count_said file) ≡ Ok t = rw e at held in
      let r = reads_of file (count_said file) t h in
      let w : Words (row_words_in file) = words_fit long_fits (count_said file) bytes in
      let f = written_form (row_words_in file) t r.well r.few w in
      let j = written_judged (row_words_in file) t r.well r.few w in
      rw e (older_refuses (short_encode (row_words_in file) t) _ f j)

  short_refused : RefusedByName (encode_in short_number (rows_beside text file) (table_beside text file t))
  short_refused = by (is_short file) refl
    where
      by : (b : Bool) → is_short file ≡ b → RefusedByName (encode_in short_number (rows_beside text file) (table_beside text file t))
      by true e = of_short e
      by false e = of_long e

pub moved_by_name : {text file lent answer m : List ℕ} → MoveCall text file short_number lent answer m → get_or answer 0 0 ≡ 0 → Bytes file
    → {room told rows : List ℕ} → LoadCall (file_of answer m) room told rows → OuterRefused room told rows 44 start_place 0 0 0
moved_by_name {text} {file} {lent} {answer} {m} s z bytes l =
    let n : ℕ = get_or answer 7 0 in
    let w = was_moved s z bytes in
    let o = move_is text file short_number lent n w in
    let r = short_refused text file bytes o.table o.judged_is in
    refused_44 l (rw (its_file s z bytes, written_is text file short_number lent n w) r)

-- ---- what is read beside a text can be moved

-- a reading that is told
record ReadOf (text file : List ℕ) (u : Table) : Type 0 where
  table : Table
  judged_is : judged file ≡ Ok table
  agree : agrees_beside text file table ≡ true
  count : table.count ≡ u.count

past : (b : Bool) (why : Apart) (y : Result Table Apart) (u : Table) → cond b (Err why) y ≡ Ok u
    → (b ≡ false) × (y ≡ Ok u)
past true why y u e = absurd (let z : ◌≡◌ {A = ℕ} 0 1 = cc in omega arith)
past false why y u e = (refl, e)

read_of : (text file : List ℕ) (room : ℕ) (u : Table) → beside_told text file room ≡ Ok u → ReadOf text file u
unfolding beside_told beside_judged table_beside
read_of text file room u q = go (judged file) refl q
  where
    count_same : (t : Table) → ◌≡◌ {A = Result Table Apart} (Ok (table_beside text file t)) (Ok u) → table_beside text file t ≡ u
    count_same t e = cc

    go : (x : Result Table Fault) → judged file ≡ x → beside_judged text file room x ≡ Ok u → ReadOf text file u
    go (Err why) j e = absurd (let z : ◌≡◌ {A = ℕ} 0 1 = cc in omega arith)
    go (Ok t) j e =
        let last = cond (not (agrees_beside text file t)) (Err OtherText) (Ok (table_beside text file t)) in
        let f = past (ltb room t.count) (File (Outer NoRowRoom)) last u e in
        let k = past (not (agrees_beside text file t)) OtherText (Ok (table_beside text file t)) u f.1 in
        record {
          table = t;
          judged_is = j;
          agree = not-false (agrees_beside text file t) k.0;
          count = ap (λ (v : Table). v.count) (count_same t k.1);
        }

-- Beside a text that it was read with, a file is moved to either form, in as many bytes as the file of that form has
-- for the rows that were told.
pub read_then_move : {text file lent answer rows : List ℕ} → LoadBesideCall text file lent answer rows → is_ending (get_or answer 0 0) ≡ true
    → {form : ℕ} {room told m : List ℕ} → MoveCall text file form room told m → is_form form ≡ true
    → file_length (row_bytes_in form) (get_or answer 6 0) ≤ length room
    → get_or told 0 0 ≡ 0
unfolding is_ending move_told move_judged
read_then_move {text} {file} {lent} {answer} s h {form} {room} {told} c k l = by (beside_told text file (room_of lent)) refl
  where
    by : (x : Result Table Apart) → beside_told text file (room_of lent) ≡ x → get_or told 0 0 ≡ 0
    by (Ok u) e =
        let r = read_of text file (room_of lent) u e in
        let t : table_of answer ≡ u = lent_table u ((beside_says s).0 ∙ ap beside_words e) in
        let n : get_or answer 6 0 ≡ r.table.count = ap (λ (v : Table). v.count) t ∙ sym r.count in
        let f : ltb (length room) (file_length (row_bytes_in form) r.table.count) ≡ false
        = le-ltb (length room) _ (rw n at l) in
        rw ((move_says c).0, k, r.judged_is, f, r.agree)
    by (Err (File why)) e = absurd (true≢false (sym h ∙ rw ((beside_says s).0, e) (no_ending why)))
    by (Err OtherText) e = absurd (true≢false (sym h ∙ rw ((beside_says s).0, e) refl))

-- ---- refused calls

-- A move that is refused leaves every lent byte.
pub move_refused : {text file : List ℕ} {form : ℕ} {lent answer m : List ℕ} → MoveCall text file form lent answer m
    → (get_or answer 0 0 ≡ 0 → ⊥)
    → m ≡ lent
move_refused {text} {file} {form} {lent} {answer} s ne = (move_says s).1 ∙ by (move_told text file form (length lent)) refl
  where
    by : (x : Result ℕ Apart) → move_told text file form (length lent) ≡ x → move_leaves text file form lent ≡ lent
    by (Ok n) e = absurd (ne (ap (λ (ws : List ℕ). get_or ws 0 0) ((move_says s).0 ∙ ap moved_words e)))
    by (Err why) e = move_untouched text file form lent why e

-- A reading beside the text that is refused leaves every lent word.
pub beside_refused : {text file lent answer rows : List ℕ} → LoadBesideCall text file lent answer rows → is_ending (get_or answer 0 0) ≡ false
    → rows ≡ lent
beside_refused {text} {file} {lent} {answer} s f = (beside_says s).1 ∙ by (beside_told text file (room_of lent)) refl
  where
    by : (x : Result Table Apart) → beside_told text file (room_of lent) ≡ x → beside_leaves text file lent ≡ lent
    by (Ok t) e =
        absurd (true≢false (sym (ending_told t.count t.length t.ending) ∙ rw ((beside_says s).0, e) at f))
    by (Err why) e = beside_untouched text file lent why e
