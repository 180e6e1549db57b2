-- Two files that stand for one table beside a text are read alike, and each moves to the other's bytes.
use mathlib.Core.Path.{◌≡◌, refl, sym, ap, ◌∙◌}
use mathlib.Core.Bool.{Bool, true, false, ◌||◌}
use mathlib.Core.List.{List, ◌++◌}
use Prim.Native.Nat.{ℕ, ◌*◌, ◌≤◌}
use lib.ListN.{length, drop}
use lib.Dec.{eqb}
use borrow.Author.Tests.{eq-eqb, le-ltb}
use Rattle.rules.specs.declared.Table.{Table}
use Rattle.rules.specs.Scan.{room_of}
use Rattle.rules_files.specs.Blocks.{file_length}
use Rattle.rules_files.specs.Files.{form_said, count_said, form_number}
use Rattle.rules.specs.Rows.{words_per_row}
use Rattle.rules_forms.specs.Forms.{is_form, row_bytes_in, judged, rows_beside, table_beside, agrees_beside, beside_judged, beside_told}
use Rattle.rules_forms.specs.Forms.{beside_leaves, move_judged, move_told, moved_from, move_leaves, is_short}
use Rattle.laws.specs.Bounds.{Bytes}
use Rattle.theory_files.proofs.Said.{reads_of}
use Rattle.theory_forms.proofs.Moves.{own_form, encoded_length}
use Rattle.rules_forms.specs.declared.Apart.{Apart}
use Rattle.std.specs.Prelude.{Result, Ok, Err}

-- the files f and g hold one table, beside the text
pub record Alike (text f g : List ℕ) : Type 0 where
  pub t : Table
  pub u : Table
  pub held : judged f ≡ Ok t
  pub holds : judged g ≡ Ok u
  pub count : u.count ≡ t.count
  pub table : table_beside text g u ≡ table_beside text f t
  pub rows : rows_beside text g ≡ rows_beside text f

-- a file that holds a table and does not say 2 says 1
pub long_form : (f : List ℕ) (t : Table) → is_short f ≡ false → judged f ≡ Ok t → form_said f ≡ form_number
unfolding judged
long_form f t q e = (reads_of f (count_said f) t (rw q at e)).frame.form

-- a file that holds a table says 1 or 2
pub says_form : (f : List ℕ) (t : Table) → judged f ≡ Ok t → is_form (form_said f) ≡ true
says_form f t e = go (is_short f) refl e
  where
    or_true : (b : Bool) → (b || true) ≡ true
    or_true true = refl
    or_true false = refl

    go : (b : Bool) → is_short f ≡ b → judged f ≡ Ok t → is_form (form_said f) ≡ true
    go true q e = rw q (or_true (eqb (form_said f) form_number))
    go false q e = rw (eq-eqb (form_said f) form_number (long_form f t q e))

-- what a reading leaves, by what it tells
unfoldable left : Result Table Apart → (rows ws : List ℕ) → List ℕ
left (Ok t) rows ws = rows ++ drop (words_per_row * t.count) ws
left (Err why) rows ws = ws

leaves_by : (text f ws : List ℕ) → beside_leaves text f ws ≡ left (beside_told text f (room_of ws)) (rows_beside text f) ws
unfolding beside_leaves left
leaves_by text f ws = go (beside_told text f (room_of ws)) refl
  where
    go : (x : Result Table Apart) → beside_told text f (room_of ws) ≡ x
        → beside_leaves text f ws ≡ left (beside_told text f (room_of ws)) (rows_beside text f) ws
    go (Ok t) e = rw (beside_leaves, e)
    go (Err why) e = rw (beside_leaves, e)

module _ (text f g : List ℕ) (a : Alike text f g) where
  -- a reading beside the text tells the same of both
  pub alike_told : (room : ℕ) → beside_told text g room ≡ beside_told text f room
  unfolding beside_told beside_judged
  alike_told room = rw (a.held, a.holds, a.table, a.rows, a.count)

  -- and leaves the same
  pub alike_rows : (ws : List ℕ) → beside_leaves text g ws ≡ beside_leaves text f ws
  alike_rows ws =
      leaves_by text g ws ∙ rw (alike_told (room_of ws), a.rows) (sym (leaves_by text f ws))

  module _ (bytes : Bytes f) (agree : agrees_beside text f a.t ≡ true) where
    size : file_length (row_bytes_in (form_said f)) a.u.count ≡ length f
    unfolding table_beside
    size =
        let e = own_form text f bytes a.t a.held (says_form f a.t a.held) in
        ap (file_length (row_bytes_in (form_said f))) a.count
        ∙ sym (encoded_length (form_said f) (rows_beside text f) (table_beside text f a.t)) ∙ ap length e

    -- a move of g to the form of f tells the length of f
    pub back_told : (back : List ℕ) → length f ≤ length back → move_told text g (form_said f) (length back) ≡ Ok (length f)
    unfolding move_told move_judged
    back_told back h =
        rw (says_form f a.t a.held, a.holds, a.table, a.rows, agree, size, le-ltb (length back) (length f) h)

    -- and writes f
    pub back_bytes : (back : List ℕ) → length f ≤ length back → move_leaves text g (form_said f) back ≡ f ++ drop (length f) back
    unfolding move_leaves moved_from
    back_bytes back h =
        let e = own_form text f bytes a.t a.held (says_form f a.t a.held) in
        rw (move_leaves, back_told back h, a.holds, a.table, a.rows, e)
