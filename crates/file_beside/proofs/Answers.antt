-- The table beside its text, and what is told of a file that holds a table.
use mathlib.Core.Path.{◌≡◌, refl, sym, ap, ◌∙◌}
use mathlib.Core.Bool.{true, false}
use mathlib.Core.List.{List}
use Prim.Native.Nat.{ℕ, ◌*◌, ◌≤◌, ◌<◌}
use native.Mathlib.Omega.{arith}
use lib.ListN.{length, take}
use lib.Seq.{take_all}
use borrow.Author.Tests.{lt-ltb, le-ltb}
use Rattle.rules.specs.declared.Cursor.{Cursor}
use Rattle.rules.specs.Outcomes.{Ending, halt}
use Rattle.std.specs.declared.option.Option.TheVariants.{None, Some}
use Rattle.rules.specs.declared.Lexical.{Lexical}
use Rattle.rules.specs.declared.Outer.TheVariants.{NoRowRoom}
use Rattle.rules.specs.declared.Table.{Table}
use Rattle.rules.specs.Text.{place_at}
use Rattle.rules.specs.Rows.{words_per_row}
use Rattle.rules.specs.Scan.{room_of}
use Rattle.rules_files.specs.declared.Fault.{Fault}
use Rattle.rules_files.specs.declared.Fault.TheVariants.{Outer}
use Rattle.rules_files.specs.Files.{count_said, row_words_in}
use Rattle.rules_forms.specs.declared.Apart.TheVariants.{File, OtherText}
use Rattle.rules_forms.specs.declared.Form.TheVariants.{Full, Short}
use Rattle.rules_forms.specs.Forms.{judged, rows_beside, table_beside, agrees_beside, beside_judged, beside_told, beside_leaves}
use Rattle.rules_forms.specs.Shapes.{form_of}
use Rattle.file_beside.proofs.Known.{is_short_lem, is_full}
use Rattle.file_beside.proofs.Rows.{beside_length}
use Rattle.file_beside.specs.Counting.{table_leaves}
use Rattle.rules_forms.specs.declared.Apart.{Apart}
use Rattle.std.specs.Prelude.{Result, Ok, Err}

module _ (text file : List ℕ) (t : Table) where
  -- form 1 has its lines and columns
  pub table_full : form_of file ≡ Full → table_beside text file t ≡ t
  unfolding table_beside
  table_full e = rw (is_full file e)

  pub rows_full : form_of file ≡ Full → rows_beside text file ≡ row_words_in file
  unfolding rows_beside
  rows_full e = rw (is_full file e)

  pub table_none : form_of file ≡ Short → t.ending ≡ None → table_beside text file t ≡ t
  unfolding table_beside
  table_none e q =
      let x : table_beside text file t ≡ record { count = t.count; length = t.length; ending = None } = rw (is_short_lem file e, q) in
      x ∙ ap (λ (w : Ending). record { count = t.count; length = t.length; ending = w }) (sym q)

  pub table_refused : form_of file ≡ Short → (why : Lexical) (p : Cursor) → t.ending ≡ Some (halt why p)
      → table_beside text file t ≡ record { count = t.count; length = t.length; ending = Some (halt why (place_at text p.offset.0)) }
  unfolding table_beside
  table_refused e why p q = rw (is_short_lem file e, q)

  -- the words of all rows
  pub all_rows : t.count ≡ count_said file → take (words_per_row * t.count) (rows_beside text file) ≡ rows_beside text file
  all_rows n = take_all (words_per_row * t.count) (rows_beside text file) (omega (arith, beside_length text file))

  module _ (room : ℕ) where
    pub told_full : room < t.count → beside_judged text file room (Ok t) ≡ Err (File (Outer NoRowRoom))
    unfolding beside_judged
    told_full h = rw (lt-ltb room t.count h)

    pub told_other : t.count ≤ room → agrees_beside text file t ≡ false
        → beside_judged text file room (Ok t) ≡ Err OtherText
    unfolding beside_judged
    told_other h e = rw (le-ltb room t.count h, e)

    pub told_rows : t.count ≤ room → agrees_beside text file t ≡ true
        → beside_judged text file room (Ok t) ≡ Ok (table_beside text file t)
    unfolding beside_judged
    told_rows h e = rw (le-ltb room t.count h, e)

-- the answer follows what is judged
pub told_by : (text file : List ℕ) (room : ℕ) (l : Result Table Fault) → l ≡ judged file → beside_told text file room ≡ beside_judged text file room l
unfolding beside_told
told_by text file room l e = ap (beside_judged text file room) (sym e)

pub told_refused : (text file : List ℕ) (room : ℕ) (why : Fault)
    → beside_judged text file room (Err why) ≡ Err (File why)
unfolding beside_judged
told_refused text file room why = refl

-- what stands in lent words follows the answer
pub leaves_by : (text file ws : List ℕ) (b : Result Table Apart) → beside_told text file (room_of ws) ≡ b
    → beside_leaves text file ws ≡ table_leaves text file b ws
unfolding beside_leaves
leaves_by text file ws (Ok t) e = rw (beside_leaves, e)
leaves_by text file ws (Err why) e = rw (beside_leaves, e)
