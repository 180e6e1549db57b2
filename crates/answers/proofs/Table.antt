-- A table lent in the words in which it was told is that table, and words that tell none are refused by every call.
use Prim.Native.Nat.{ℕ, ◌*◌}
use mathlib.Core.Bool.{Bool, true, false, ◌&&◌}
use mathlib.Core.List.{List}
use mathlib.Core.Path.{◌≡◌, refl, ap, ◌∙◌}
use lib.Dec.{leb}
use lib.ListN.{length, get_or}
use Rattle.rules.specs.Outcomes.{Ending}
use Rattle.std.specs.declared.option.Option.TheVariants.{None, Some}
use Rattle.rules.specs.declared.Table.{Table}
use Rattle.std.specs.declared.result.Result.TheVariants.{Ok}
use Rattle.rules.specs.Rows.{well_formed}
use Rattle.refusals.proofs.Back.{number_back, number_lexical, number_some}
use Rattle.answers.specs.Layout.{ending_words, told_words, is_ending, length_of, table_of}

-- The table read from a table's words is that table: each reason is read back from its number.
pub told_table : (table : Table) → table_of (told_words (Ok table)) ≡ table
unfolding is_ending length_of
told_table table = by table.count table.length table.ending
  where
    by : (k n : ℕ) (e : Ending) → table_of (ending_words k n e) ≡ record { count = k; length = n; ending = e }
    by k n None = refl
    by k n (Some e) = rw (number_some e.why, number_lexical e.why, number_back e.why)

-- So it is for words that are known to be the table's.
pub lent_table : (table : Table) {answer : List ℕ} → answer ≡ told_words (Ok table) → table_of answer ≡ table
lent_table table e = ap (λ (ws : List ℕ). table_of ws) e ∙ told_table table

-- The table read from words whose first is no ending is not well formed, whatever rows are lent: every call answers 3.
pub no_table : (ws answer : List ℕ) → is_ending (get_or answer 0 0) ≡ false → well_formed ws (table_of answer) ≡ false
unfolding well_formed length_of
no_table ws answer e = rw e (no_second (leb (get_or answer 6 0 * 8) (length ws)) _)
  where
    no_second : (x y : Bool) → ((x && false) && y) ≡ false
    no_second false y = refl
    no_second true y = refl
