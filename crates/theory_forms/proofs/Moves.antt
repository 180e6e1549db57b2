-- What is known of a move that was told, and that a move to the form a file has gives the same bytes.
use mathlib.Core.Path.{◌≡◌, refl, sym, ap, ◌∙◌}
use mathlib.Core.Bool.{Bool, true, false, cond, not, ◌||◌}
use mathlib.Core.List.{List, [], ◌++◌, append-nil}
use Prim.Native.Nat.{ℕ, ◌≤◌}
use native.Mathlib.Omega.{arith}
use lib.ListN.{length, take, drop}
use lib.Seq.{take_at}
use lib.Dec.{eqb, ltb}
use borrow.Author.Tests.{eqb-true, eq-eqb, ne_eqb, eqb-false, ltb-false, not-false}
use Rattle.rules.specs.declared.Outer.TheVariants.{NoRowRoom}
use Rattle.rules.specs.declared.Table.{Table}
use Rattle.rules.specs.Text.{place_at}
use Rattle.rules.specs.Scan.{room_of}
use Rattle.rules_files.specs.declared.Fault.TheVariants.{Outer, OtherForm}
use Rattle.rules_files.specs.Bytes.{bytes_of}
use Rattle.rules_files.specs.Blocks.{file_length}
use Rattle.rules_files.specs.Files.{form_said, count_said, load_told, encode, row_bytes, form_number}
use Rattle.rules_forms.specs.declared.Apart.{Apart}
use Rattle.rules_forms.specs.declared.Apart.TheVariants.{File, OtherText}
use Rattle.rules_forms.specs.Short.{shortened, short_said, short_encode, short_judged, short_bytes, short_number}
use Rattle.rules_forms.specs.Forms.{is_form, row_bytes_in, judged, rows_beside, table_beside, agrees_beside, beside_told, beside_leaves, encode_in}
use Rattle.rules_forms.specs.Forms.{move_judged, move_told, moved_from, move_leaves, is_short}
use Rattle.laws.specs.Bounds.{Bytes}
use Rattle.theory_files.proofs.Numbers.{bytes_length}
use Rattle.theory_files.proofs.Whole.{file_length_lem}
use Rattle.theory_files.proofs.Files.{read_stored, encode_length}
use Rattle.theory_forms.specs.Forms.{IsMoved, SameBytes, written}
use Rattle.theory_forms.proofs.Short.{reads_short, short_stored}
use Rattle.theory_forms.proofs.Written.{ending_two}
use Rattle.rules_files.specs.declared.Fault.{Fault}
use Rattle.std.specs.Prelude.{Result, Ok, Err}

-- ---- a move that was told

-- what is known of a move that was told
pub record MoveOf (text file : List ℕ) (form room n : ℕ) : Type 0 where
  pub table : Table
  pub judged_is : judged file ≡ Ok table
  pub known : is_form form ≡ true
  pub room_is : file_length (row_bytes_in form) table.count ≤ room
  pub agree : agrees_beside text file table ≡ true
  pub size : file_length (row_bytes_in form) table.count ≡ n

-- a test that refuses has failed
moved_past : (b : Bool) (why : Apart) (y : Result ℕ Apart) (n : ℕ) → cond b (Err why) y ≡ Ok n → (b ≡ false) × (y ≡ Ok n)
moved_past true why y n e = absurd (let z : ◌≡◌ {A = ℕ} 0 1 = cc in omega arith)
moved_past false why y n e = (refl, e)

-- each of its tests has been passed
pub move_of : (text file : List ℕ) (form room n : ℕ) → move_told text file form room ≡ Ok n → MoveOf text file form room n
unfolding move_told move_judged
move_of text file form room n q =
    let a = moved_past (not (is_form form)) (File OtherForm) (move_judged text file form room (judged file)) n q in
    go (judged file) refl (not-false (is_form form) a.0) a.1
  where
    go : (l : Result Table Fault) → judged file ≡ l → is_form form ≡ true → move_judged text file form room l ≡ Ok n
        → MoveOf text file form room n
    go (Err why) e k q = absurd (let z : ◌≡◌ {A = ℕ} 0 1 = cc in omega arith)
    go (Ok t) e k q =
        let size = file_length (row_bytes_in form) t.count in
        let last = cond (not (agrees_beside text file t)) (Err OtherText) (Ok size) in
        let b = moved_past (ltb room size) (File (Outer NoRowRoom)) last n q in
        let c = moved_past (not (agrees_beside text file t)) OtherText (Ok size) n b.1 in
        let s : size ≡ n = same size c.1 in
        let agree = not-false (agrees_beside text file t) c.0 in
        record { table = t; judged_is = e; known = k; room_is = ltb-false room size b.0; agree = agree; size = s }
      where
        same : (k : ℕ) → ◌≡◌ {A = Result ℕ Apart} (Ok k) (Ok n) → k ≡ n
        same k e = cc

-- ---- the one file

-- of a file that is judged to hold a table, the file of its own form
module _ (text file : List ℕ) (bytes : Bytes file) (t : Table) (held : judged file ≡ Ok t) where
  same_short : form_said file ≡ short_number → encode_in short_number (rows_beside text file) (table_beside text file t) ≡ file
  unfolding encode_in rows_beside table_beside judged place_at
  same_short f =
      let j : short_judged file ≡ Ok t = rw (eq-eqb (form_said file) short_number f) at held in
      rw (eq-eqb (form_said file) short_number f) (short_stored file bytes t (reads_short file t j) f (place_at text) (λ k. refl))

  same_long : (form_said file ≡ short_number → ⊥) → encode_in form_number (rows_beside text file) (table_beside text file t) ≡ file
  unfolding encode_in rows_beside table_beside judged
  same_long f =
      let j : load_told file (count_said file) ≡ Ok t = rw (ne_eqb (form_said file) short_number f) at held in
      rw (ne_eqb (form_said file) short_number f) (rw append-nil at (read_stored file bytes (count_said file) t j []))

-- ---- what a move writes

short_length : (ws : List ℕ) (t : Table) → length (short_encode ws t) ≡ file_length short_bytes t.count
unfolding short_encode
short_length ws t =
    file_length_lem short_bytes (omega arith) (omega arith) (bytes_of (short_said t))
    (omega (arith, bytes_length (short_said t), ending_two t.ending))
    t.count
    (bytes_of (shortened t.count ws))

-- a file of either form is as long as its rows take
pub encoded_length : (form : ℕ) (ws : List ℕ) (t : Table) → length (encode_in form ws t) ≡ file_length (row_bytes_in form) t.count
unfolding encode_in
encoded_length form ws t = go (eqb form short_number)
  where
    go : (b : Bool) → length (cond b (short_encode ws t) (encode ws t)) ≡ file_length (cond b short_bytes row_bytes) t.count
    go true = short_length ws t
    go false = encode_length ws t

module _ (text file : List ℕ) (form : ℕ) (lent : List ℕ) (n : ℕ) (m : IsMoved text file form lent n) where
  -- the file that is moved holds a table, and agrees with the text
  pub move_is : MoveOf text file form (length lent) n
  move_is = move_of text file form (length lent) n m.told

  -- the file in the form asked for
  target : List ℕ
  target = encode_in form (rows_beside text file) (table_beside text file move_is.table)

  target_length : length target ≡ n
  unfolding target table_beside
  target_length = encoded_length form (rows_beside text file) (table_beside text file move_is.table) ∙ move_is.size

  leaves_is : move_leaves text file form lent ≡ target ++ drop n lent
  unfolding move_leaves moved_from target
  leaves_is = rw (move_leaves, m.told, move_is.judged_is)

  -- what is written is that file
  pub written_is : written text file form lent n ≡ encode_in form (rows_beside text file) (table_beside text file move_is.table)
  unfolding target
  written_is = ap (take n) leaves_is ∙ take_at target (drop n lent) n target_length

  -- as many bytes as were told
  pub written_length : length (written text file form lent n) ≡ n
  unfolding target
  written_length = ap length written_is ∙ target_length

-- lent memory is untouched by each refusal
pub move_untouched : (text file : List ℕ) (form : ℕ) (lent : List ℕ) (why : Apart)
    → move_told text file form (length lent) ≡ Err why
    → move_leaves text file form lent ≡ lent
unfolding move_leaves
move_untouched text file form lent why e = rw (move_leaves, e)

-- and by each refusal of a reading
pub beside_untouched : (text file ws : List ℕ) (why : Apart) → beside_told text file (room_of ws) ≡ Err why
    → beside_leaves text file ws ≡ ws
unfolding beside_leaves
beside_untouched text file ws why e = rw (beside_leaves, e)

-- ---- to the form it has

-- what is known to be 1 or 2 and is not 2 is 1
pub only_one : (form : ℕ) → is_form form ≡ true → eqb form short_number ≡ false → form ≡ form_number
only_one form k e = go (eqb form form_number) refl k
  where
    go : (b : Bool) → eqb form form_number ≡ b → (b || eqb form short_number) ≡ true → form ≡ form_number
    go true f k = eqb-true form form_number f
    go false f k = absurd (let z : false ≡ true = sym e ∙ k in let y : ◌≡◌ {A = ℕ} 0 1 = cc in omega arith)

-- of a file that holds a table, the file of the form that it says
pub own_form : (text file : List ℕ) → Bytes file → (t : Table) → judged file ≡ Ok t → is_form (form_said file) ≡ true
    → encode_in (form_said file) (rows_beside text file) (table_beside text file t) ≡ file
own_form text file bytes t held k = go (is_short file) refl
  where
    go : (b : Bool) → is_short file ≡ b → encode_in (form_said file) (rows_beside text file) (table_beside text file t) ≡ file
    go true e =
        ap (λ (f : ℕ). encode_in f (rows_beside text file) (table_beside text file t)) (eqb-true (form_said file) short_number e)
        ∙ same_short text file bytes t held (eqb-true (form_said file) short_number e)
    go false e =
        ap (λ (f : ℕ). encode_in f (rows_beside text file) (table_beside text file t)) (only_one (form_said file) k e)
        ∙ same_long text file bytes t held (eqb-false (form_said file) short_number e)

-- a file moved to the form it has is the same bytes
pub move_stays : (text file lent : List ℕ) (n : ℕ) → Bytes file → IsMoved text file (form_said file) lent n
    → SameBytes text file (form_said file) lent n
move_stays text file lent n bytes m =
    let o = move_is text file (form_said file) lent n m in
    let w = written_is text file (form_said file) lent n m in
    let e = own_form text file bytes o.table o.judged_is o.known in
    record { size = sym (written_length text file (form_said file) lent n m) ∙ ap length (w ∙ e); bytes = w ∙ e }
