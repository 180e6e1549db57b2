-- The form that a file has, and what is told of a move and left by it.
use mathlib.Core.Path.{◌≡◌, refl, sym, ap, ◌∙◌}
use mathlib.Core.Bool.{Bool, true, false, cond}
use mathlib.Core.List.{List}
use Prim.Native.Nat.{ℕ, ◌≤◌, ◌<◌}
use native.Mathlib.Omega.{arith}
use lib.ListN.{length}
use borrow.Author.Tests.{lt-ltb, le-ltb, ne_eqb, eqb-true}
use Rattle.rules.specs.declared.Outer.TheVariants.{NoRowRoom}
use Rattle.rules.specs.declared.Table.{Table}
use Rattle.rules_files.specs.declared.Fault.{Fault}
use Rattle.rules_files.specs.declared.Fault.TheVariants.{Outer, OtherForm}
use Rattle.rules_files.specs.Files.{form_number, most_rows, form_said, count_said, load_told}
use Rattle.rules_forms.specs.declared.Apart.TheVariants.{File, OtherText}
use Rattle.rules_forms.specs.declared.Form.{Form}
use Rattle.rules_forms.specs.declared.Form.TheVariants.{Full, Short}
use Rattle.rules_forms.specs.Short.{short_number, short_judged}
use Rattle.rules_forms.specs.Forms.{is_short, judged, rows_beside, table_beside, agrees_beside, encode_in, row_bytes_in}
use Rattle.rules_forms.specs.Forms.{move_judged, move_told, moved_from, move_leaves}
use Rattle.rules_forms.specs.Shapes.{number_of, row_bytes_of, form_of}
use Rattle.laws.specs.Bounds.{Bytes}
use Rattle.theory_files.proofs.Said.{reads_of}
use Rattle.theory_forms.proofs.Short.{reads_short}
use Rattle.theory_forms.proofs.Moves.{own_form}
use Rattle.theory_forms.proofs.Alike.{long_form, says_form}
use Rattle.file_beside.proofs.Known.{known}
use Rattle.file_move.specs.Moving.{left_by}
use Rattle.file_move.proofs.Going.{size}
use Rattle.rules_forms.specs.declared.Apart.{Apart}
use Rattle.std.specs.Prelude.{Result, Ok, Err}

-- ---- the form that a file has

same_form : (f g : Form) → number_of f ≡ number_of g → f ≡ g
same_form Full Full e = refl
same_form Full Short e = absurd (omega (arith, e))
same_form Short Full e = absurd (omega (arith, e))
same_form Short Short e = refl

module _ (file : List ℕ) (t : Table) (held : judged file ≡ Ok t) where
  -- a file that holds a table has few rows
  pub few_held : t.count ≤ most_rows
  unfolding judged
  few_held = go (is_short file) held
    where
      go : (b : Bool) → cond b (short_judged file) (load_told file (count_said file)) ≡ Ok t → t.count ≤ most_rows
      go true q = (reads_short file t q).few
      go false q = (reads_of file (count_said file) t q).few

  -- and says its form
  says_number : number_of (form_of file) ≡ form_said file
  says_number = go (is_short file) refl
    where
      go : (b : Bool) → is_short file ≡ b → number_of (cond b Short Full) ≡ form_said file
      go true e = sym (eqb-true (form_said file) short_number e)
      go false e = sym (long_form file t e held)

  module _ (form : Form) (same : number_of form ≡ number_of (form_of file)) where
    -- a file of the form asked for is as long as asked for
    pub own_size : length file ≡ size form t.count
    own_size = rw (same_form form (form_of file) same) (known file t held).frame.whole

    -- and is the file that is asked for
    pub own_bytes : (text : List ℕ) → Bytes file → encode_in (number_of form) (rows_beside text file) (table_beside text file t) ≡ file
    own_bytes text bytes =
        ap (λ (n : ℕ). encode_in n (rows_beside text file) (table_beside text file t)) (same ∙ says_number)
        ∙ own_form text file bytes t held (says_form file t held)

-- ---- what is told

row_bytes : (form : Form) → row_bytes_in (number_of form) ≡ row_bytes_of form
row_bytes Full = refl
row_bytes Short = refl

module _ (form : Form) (text file : List ℕ) (t : Table) (room : ℕ) where
  pub told_full : room < size form t.count
      → move_judged text file (number_of form) room (Ok t) ≡ Err (File (Outer NoRowRoom))
  unfolding move_judged
  told_full h = rw (row_bytes form, lt-ltb room (size form t.count) h)

  module _ (h : size form t.count ≤ room) where
    pub told_other : agrees_beside text file t ≡ false → move_judged text file (number_of form) room (Ok t) ≡ Err OtherText
    unfolding move_judged
    told_other e = rw (row_bytes form, le-ltb room (size form t.count) h, e)

    pub told_bytes : agrees_beside text file t ≡ true
        → move_judged text file (number_of form) room (Ok t) ≡ Ok (size form t.count)
    unfolding move_judged
    told_bytes e = rw (row_bytes form, le-ltb room (size form t.count) h, e)

-- the answer follows what is judged
pub told_by : (form : Form) (text file : List ℕ) (room : ℕ) (l : Result Table Fault) → l ≡ judged file
    → move_told text file (number_of form) room ≡ move_judged text file (number_of form) room l
unfolding move_told
told_by Full text file room l e = ap (move_judged text file form_number room) (sym e)
told_by Short text file room l e = ap (move_judged text file short_number room) (sym e)

pub told_refused : (form : ℕ) (text file : List ℕ) (room : ℕ) (why : Fault)
    → move_judged text file form room (Err why) ≡ Err (File why)
unfolding move_judged
told_refused form text file room why = refl

-- no such form
pub told_form : (form : ℕ) (text file : List ℕ) (room : ℕ) → (form ≡ form_number → ⊥) → (form ≡ short_number → ⊥)
    → move_told text file form room ≡ Err (File OtherForm)
unfolding move_told
told_form form text file room one two = rw (ne_eqb form form_number one, ne_eqb form short_number two)

-- what stands in lent memory follows the answer
pub leaves_by : (form : ℕ) (text file lent : List ℕ) (t : Table) → judged file ≡ Ok t
    → (m : Result ℕ Apart) → move_told text file form (length lent) ≡ m
    → move_leaves text file form lent ≡ left_by m (encode_in form (rows_beside text file) (table_beside text file t)) lent
unfolding move_leaves moved_from
leaves_by form text file lent t held (Ok n) e = rw (move_leaves, e, held)
leaves_by form text file lent t held (Err why) e = rw (move_leaves, e)
