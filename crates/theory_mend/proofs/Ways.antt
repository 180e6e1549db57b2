-- The way through the tests of a mending, to each refusal.
use mathlib.Core.Path.{◌≡◌}
use mathlib.Core.Bool.{true, false}
use mathlib.Core.List.{List}
use Prim.Native.Nat.{ℕ, ◌≤◌, ◌<◌}
use borrow.Author.Tests.{lt-ltb, le-ltb}
use Rattle.rules.specs.declared.Cursor.{Cursor}
use Rattle.rules.specs.Outcomes.{unfit}
use Rattle.std.specs.Prelude.{Ok, Err}
use Rattle.rules.specs.declared.Outer.{Outer}
use Rattle.rules.specs.declared.Outer.TheVariants.{NoRowRoom}
use Rattle.rules.specs.Text.{start_place, text_judged}
use Rattle.rules_files.specs.declared.Fault.TheVariants as fault
use Rattle.rules_files.specs.Files.{most_rows}
use Rattle.rules_forms.specs.Forms.{is_form}
use Rattle.rules_mend.specs.Mend.{fresh_table, fresh_file, too_small, fresh_told, mend_told}

module _ (text : List ℕ) (form : ℕ) (memory : List ℕ) (n : ℕ) (list : List ℕ) where
  -- 44, whatever the text
  pub told_form : is_form form ≡ false → mend_told text form memory n list ≡ Err (record { why = fault.OtherForm; at = start_place })
  unfolding mend_told
  told_form e = rw e

  module _ (known : is_form form ≡ true) where
    -- 1 and 2
    pub told_text : (why : Outer) (p : Cursor) → text_judged text ≡ Err (unfit why p)
        → mend_told text form memory n list ≡ Err (record { why = fault.Outer why; at = p })
    unfolding mend_told
    told_text why p e = rw (mend_told, known, e)

    module _ (fine : text_judged text ≡ Ok tt) where
      -- 40
      pub told_many : most_rows < (fresh_table text).count → mend_told text form memory n list ≡ Err (record { why = fault.TooManyRows; at = start_place })
      unfolding mend_told fresh_told
      told_many h = rw (mend_told, known, fine, lt-ltb most_rows (fresh_table text).count h)

      -- 4
      pub told_small : (fresh_table text).count ≤ most_rows → too_small (fresh_file form text) memory n list ≡ true
          → mend_told text form memory n list ≡ Err (record { why = fault.Outer NoRowRoom; at = start_place })
      unfolding mend_told fresh_told
      told_small h e = rw (mend_told, known, fine, le-ltb most_rows (fresh_table text).count h, e)
