-- What is judged of a file of form 2 that was written: it holds the table, with its lines and columns on one line, and the words of its
-- rows without them.
use mathlib.Core.Path.{◌≡◌, refl, ◌∙◌}
use mathlib.Core.Bool.{true, false, cond}
use mathlib.Core.List.{List, ◌∷◌}
use Prim.Native.Nat.{ℕ, zero, suc, ◌*◌, ◌^◌, ◌≤◌, ◌<◌}
use native.Mathlib.Omega.{arith}
use lib.ListN.{length, drop, get_or}
use lib.Seq.{take_all}
use lib.Dec.{eqb}
use Rattle.rules.specs.declared.Cursor.{Cursor}
use Rattle.rules.specs.declared.Lexical.{Lexical}
use Rattle.rules.specs.Outcomes.{Ending, halt}
use Rattle.std.specs.declared.option.Option.TheVariants.{None, Some}
use Rattle.rules.specs.declared.Table.{Table}
use Rattle.rules.specs.Text.{place}
use Rattle.rules.specs.Rows.{row_in, well_formed, words_per_row}
use Rattle.rules.specs.Refusals.{lexical_number}
use Rattle.refusals.proofs.Back.{number_some}
use Rattle.rules_files.specs.Files.{form_number, most_rows, ending_said, said_at, form_said, count_said, read_refused, read_ending}
use Rattle.rules_forms.specs.Short.{short_row, shortened, placed, placed_ending, on_one_line, short_ending_said, short_said, short_encode, short_ending, short_words_in, short_table, short_judged, short_words, short_number}
use Rattle.laws.specs.Bounds.{none, some, Words}
use Rattle.theory_files.specs.Whole.{Whole, Holds, words_of}
use Rattle.laws.proofs.Bounds.{below_append, below_at, below_drop}
use Rattle.theory_files.proofs.Whole.{held_said, held_whole, held_words}
use Rattle.theory_files.proofs.Told.{whole_told_lem, told_rows, told_table}
use Rattle.theory_files.proofs.Said.{refused_back}
use Rattle.theory_files.proofs.Files.{said_words_lem}
use Rattle.theory_forms.proofs.Short.{short_fits, short_tests, placed_table, short_said_words}
use Rattle.theory_forms.proofs.Lines.{one_lined, well_few, well_placed}
use Rattle.std.specs.Prelude as option
use Rattle.std.specs.Prelude.{Ok}

-- ---- words fit

-- words without lines and columns fit where the words fit
pub shortened_words : (n : ℕ) {ws : List ℕ} → Words ws → Words (shortened n ws)
unfolding shortened short_row row_in
shortened_words zero b = none
shortened_words (suc n) {ws} b =
    let z : 0 < 2 ^ 32 = omega arith in
    let g : (i : ℕ) → get_or ws i 0 < 2 ^ 32 = λ i. below_at b i z in
    below_append (some (g 0) (some (g 1) (some (g 2) (some (g 5) (some (g 6) (some (g 7) none))))))
    (shortened_words n (below_drop words_per_row b))

-- and are six to a row
pub shortened_length : (n : ℕ) (ws : List ℕ) → length (shortened n ws) ≡ short_words * n
unfolding shortened short_row
shortened_length zero ws = refl
shortened_length (suc n) ws = let r = shortened_length n (drop words_per_row ws) in omega arith

ending_words : (e : Ending) → Words (ending_said e) → Words (short_ending_said e)
ending_words None (some a (some b c)) = some a (some b none)
ending_words (Some e) (some a (some b c)) = some a (some b none)

-- an ending is said in two words
pub ending_two : (e : Ending) → length (short_ending_said e) ≡ 2
ending_two None = refl
ending_two (Some e) = refl

-- the words that say an ending are read as that ending, on one line
refused_one : (why : Lexical) (p : Cursor)
    → cond (eqb (lexical_number why) 0) (read_ending 0 p) (read_refused (lexical_number why) (on_one_line p.offset.0))
    ≡ Some (Some (halt why (on_one_line p.offset.0)))
refused_one why p = rw (number_some why) (refused_back why (on_one_line p.offset.0))

none_one : read_ending 0 (place 0 0 0) ≡ option.Some None
unfolding read_ending
none_one = refl

-- ---- the file that was written

module _ (ws : List ℕ) (t : Table) (well : well_formed ws t ≡ true) (few : t.count ≤ most_rows) (words : Words ws) where
  says_words : Words (short_said t)
  says_words = go (said_words_lem ws t well few words)
    where
      go : Words (form_number ∷ t.length ∷ t.count ∷ ending_said t.ending) → Words (short_said t)
      go (some a (some b (some c e))) = let x : short_number < 2 ^ 32 = omega arith in some x (some b (some c (ending_words t.ending e)))

  -- what the file holds
  its : Holds short_words short_said_words (short_said t) (shortened t.count ws) t.count
  its = record {
    size = omega (arith, ending_two t.ending);
    said_fit = says_words;
    few = omega (arith, few);
    all = omega (arith, shortened_length t.count ws);
    rows_fit = shortened_words t.count words;
  }

  said_is : (i : ℕ) → i < short_said_words → said_at i (short_encode ws t) ≡ get_or (short_said t) i 0
  unfolding short_encode
  said_is = held_said short_fits its

  -- the file says 2
  pub written_form : form_said (short_encode ws t) ≡ short_number
  written_form = said_is 0 (omega arith)

  -- it says the count of the rows
  pub written_count : count_said (short_encode ws t) ≡ t.count
  written_count = said_is 2 (omega arith)

  -- and has their words without lines and columns
  pub written_words : short_words_in (short_encode ws t) ≡ shortened t.count ws
  unfolding short_words_in words_of short_encode
  written_words =
      let s : List ℕ = shortened t.count ws in
      rw written_count (held_words short_fits its ∙ take_all (short_words * t.count) s (omega (arith, shortened_length t.count ws)))

  -- all of its blocks are sound
  written_whole : Whole short_words short_said_words (count_said (short_encode ws t)) (short_encode ws t)
  unfolding short_encode
  written_whole = rw written_count (held_whole short_fits its)

  -- the ending that it tells
  ending_is : short_ending on_one_line (short_encode ws t) ≡ option.Some (placed_ending on_one_line t.ending)
  unfolding short_ending
  ending_is = rw (said_is 3 (omega arith), said_is 4 (omega arith)) (go t.ending)
    where
      go : (e : Ending) → cond (eqb (get_or (short_ending_said e) 0 0) 0) (read_ending 0 (place (get_or (short_ending_said e) 1 0) 0 0))
          (read_refused (get_or (short_ending_said e) 0 0) (on_one_line (get_or (short_ending_said e) 1 0))) ≡ option.Some (placed_ending on_one_line e)
      go None = none_one
      go (Some e) = refused_one e.why (place e.at.offset.0 0 0)

  table_is : short_table (short_encode ws t) ≡ Ok (placed_table on_one_line t)
  unfolding short_table
  table_is =
      let n = t.count in
      let w : List ℕ = placed on_one_line n (shortened n ws) in
      let q : well_formed w (placed_table on_one_line t) ≡ true =
      well_placed on_one_line ws t (one_lined t.length (well_few ws t well)) well in
      let r = told_rows w n n t.length (short_ending on_one_line (short_encode ws t)) (placed_ending on_one_line t.ending) ending_is in
      rw (written_count, said_is 1 (omega arith), written_words) (r ∙ told_table w n (placed_table on_one_line t) few q (omega arith))

  -- it is judged to hold the table, its lines and columns on one line
  pub written_judged : short_judged (short_encode ws t) ≡ Ok (placed_table on_one_line t)
  written_judged =
      let f : List ℕ = short_encode ws t in
      short_tests f ∙ whole_told_lem short_words short_said_words (count_said f) f false (short_table f) written_whole refl ∙ table_is
