-- What a fresh scan stores: its file holds the scan's table and rows in either form, and agrees with the text.
use mathlib.Core.Path.{◌≡◌, refl, sym, ◌∙◌}
use mathlib.Core.Bool.{Bool, true, false, cond}
use mathlib.Core.List.{List, [], append-nil}
use Prim.Native.Nat.{ℕ, ◌*◌, ◌/◌, ◌≤◌}
use native.Mathlib.Omega.{arith}
use lib.ListN.{length, take}
use lib.Seq.{take_all}
use lib.Dec.{eqb}
use borrow.Author.Tests.{eqb-true, eq-eqb}
use Rattle.laws.proofs.Tests.{true_both}
use Rattle.laws.proofs.Valid.{fine_text}
use Rattle.laws.proofs.Rows.{words_length}
use Rattle.std.specs.declared.result.Result.TheVariants.{Ok}
use Rattle.rules.specs.declared.Table.{Table}
use Rattle.rules.specs.Text.{place_at, text_judged}
use Rattle.rules.specs.Rows.{words_per_row, rows_in, row_at, eof_row, row_place, every, well_formed}
use Rattle.rules.specs.Scan.{Reading, read_rows, read_ending, scan}
use Rattle.rules_files.specs.Blocks.{block_bytes, blocks_for, file_length}
use Rattle.rules_files.specs.Files.{most_rows, form_said, count_said, encode}
use Rattle.rules_forms.specs.Short.{short_number, on_one_line, short_encode}
use Rattle.rules_forms.specs.Forms.{is_form, is_short, row_bytes_in, judged, rows_beside, table_beside, is_place_in, ending_agrees, agrees, encode_in}
use Rattle.rules_mend.specs.Mend.{fresh_table, fresh_words, fresh_file}
use Rattle.theory_edits.specs.Scanned.{Scanned}
use Rattle.theory_edits.proofs.Well.{Well, well_row, well_eof, well_stops, scan_well}
use Rattle.theory_edits.proofs.WellFormed.{scanned_rows, scanned_well_formed}
use Rattle.laws.specs.Bounds.{Words}
use Rattle.theory_files.proofs.Files.{count_is, encode_framed, rows_are, stored_read}
use Rattle.theory_forms.proofs.Short.{placed_table}
use Rattle.theory_forms.proofs.Written.{written_form, written_words, written_count, written_judged}
use Rattle.theory_forms.proofs.Agree.{rows_placed, ending_placed, place_agrees}
use Rattle.theory_forms.proofs.Moves.{encoded_length, only_one}
use Rattle.theory_mend.proofs.Words.{scanned_words}
use Rattle.std.specs.Prelude.{Ok}

-- ---- how long the file is

-- It is whole blocks.
pub fresh_whole : (form : ℕ) (text : List ℕ) → block_bytes * (length (fresh_file form text) / block_bytes) ≡ length (fresh_file form text)
unfolding fresh_file file_length
fresh_whole form text =
    let e = encoded_length form (fresh_words text) (fresh_table text) in
    let b : ℕ = blocks_for (row_bytes_in form) (fresh_table text).count in
    rw e (omega arith)

-- ---- a scan's places are the text's

rows_agree : {T : List ℕ} {lo : ℕ} {l : Reading} → Well T lo l → every (λ r. is_place_in T (row_place r)) (read_rows l) ≡ true
unfolding every read_rows row_place row_at eof_row place_at
rows_agree {T} (well_row {t = t} c a h f w) = true_both (place_agrees T t) (rows_agree w)
rows_agree {T} (well_eof {n = n} c a h) = true_both (place_agrees T n) refl
rows_agree (well_stops a h) = refl

ending_agrees_lem : {T : List ℕ} {lo : ℕ} {l : Reading} → Well T lo l → ending_agrees T (read_ending l) ≡ true
unfolding ending_agrees read_ending
ending_agrees_lem (well_row c a h f w) = ending_agrees_lem w
ending_agrees_lem (well_eof c a h) = refl
ending_agrees_lem {T} (well_stops {m = m} a h) = place_agrees T m

-- ---- the file of a text that is judged fine

-- A file that is judged to hold the scan's table and rows, beside the text.
pub record Holds (text file : List ℕ) : Type 0 where
  pub table : Table
  pub judged_is : judged file ≡ Ok table
  pub count : table.count ≡ (fresh_table text).count
  pub beside : table_beside text file table ≡ fresh_table text
  pub rows : rows_beside text file ≡ fresh_words text

module _ (text : List ℕ) (fine : text_judged text ≡ Ok tt) where
  scanned : Scanned text (fresh_words text) (fresh_table text)
  unfolding fresh_words fresh_table
  scanned = record { fits = (fine_text text fine).0; spare = []; words = sym (append-nil _); told = refl }

  -- The scan's table is well formed with its words.
  pub fresh_well : well_formed (fresh_words text) (fresh_table text) ≡ true
  fresh_well = scanned_well_formed scanned

  -- These are words below 2^32.
  pub fresh_words_lem : Words (fresh_words text)
  unfolding fresh_words
  fresh_words_lem = scanned_words text (fine_text text fine).0

  -- There are eight to a row.
  pub fresh_size : length (fresh_words text) ≡ words_per_row * (fresh_table text).count
  unfolding fresh_words fresh_table
  fresh_size = words_length (read_rows (scan text))

  rows_stand : every (λ r. is_place_in text (row_place r)) (rows_in (fresh_table text).count (fresh_words text)) ≡ true
  rows_stand = rw (scanned_rows scanned) (rows_agree (scan_well text))

  ending_stands : ending_agrees text (fresh_table text).ending ≡ true
  unfolding fresh_table
  ending_stands = ending_agrees_lem (scan_well text)

  -- They agree with the text.
  pub fresh_agrees : agrees text (fresh_words text) (fresh_table text) ≡ true
  unfolding agrees fresh_table
  fresh_agrees = true_both (eq-eqb (length text) (length text) refl) (true_both rows_stand ending_stands)

  module _ (few : (fresh_table text).count ≤ most_rows) where
    whole : take (words_per_row * (fresh_table text).count) (fresh_words text) ≡ fresh_words text
    whole = take_all (words_per_row * (fresh_table text).count) (fresh_words text) (omega (arith, fresh_size))

    long : List ℕ
    long = encode (fresh_words text) (fresh_table text)

    not_short : is_short long ≡ false
    unfolding long
    not_short = rw (encode_framed (fresh_words text) (fresh_table text) fresh_well few fresh_words_lem).form

    holds_long : Holds text (encode (fresh_words text) (fresh_table text))
    unfolding long judged rows_beside table_beside
    holds_long = record {
      table = fresh_table text;
      judged_is =
          let n : ℕ = count_said long in
          let c = count_is (fresh_words text) (fresh_table text) fresh_well few fresh_words_lem in
          rw not_short (stored_read (fresh_words text) (fresh_table text) fresh_well few fresh_words_lem n (omega (arith, c)));
      count = refl;
      beside = rw not_short;
      rows = rw not_short (rows_are (fresh_words text) (fresh_table text) fresh_well few fresh_words_lem ∙ whole);
    }

    short : List ℕ
    short = short_encode (fresh_words text) (fresh_table text)

    is_short_lem : is_short short ≡ true
    unfolding short
    is_short_lem = eq-eqb _ short_number (written_form (fresh_words text) (fresh_table text) fresh_well few fresh_words_lem)

    holds_short : Holds text (short_encode (fresh_words text) (fresh_table text))
    unfolding short judged rows_beside table_beside
    holds_short = record {
      table = placed_table on_one_line (fresh_table text);
      judged_is = rw is_short_lem (written_judged (fresh_words text) (fresh_table text) fresh_well few fresh_words_lem);
      count = refl;
      beside = rw (is_short_lem, ending_placed text (fresh_table text).ending ending_stands);
      rows =
          let c = written_count (fresh_words text) (fresh_table text) fresh_well few fresh_words_lem in
          let w = written_words (fresh_words text) (fresh_table text) fresh_well few fresh_words_lem in
          let p = rows_placed text (fresh_table text).count (fresh_words text) (omega (arith, fresh_size)) rows_stand in
          rw (is_short_lem, c, w) (p ∙ whole);
    }

    -- The file of either form says that form.
    pub fresh_says : (form : ℕ) → is_form form ≡ true → form_said (fresh_file form text) ≡ form
    unfolding fresh_file encode_in
    fresh_says form k = go (eqb form short_number) refl
      where
        go : (b : Bool) → eqb form short_number ≡ b
            → form_said (cond b (short_encode (fresh_words text) (fresh_table text)) (encode (fresh_words text) (fresh_table text))) ≡ form
        go true e =
            written_form (fresh_words text) (fresh_table text) fresh_well few fresh_words_lem ∙ sym (eqb-true form short_number e)
        go false e =
            (encode_framed (fresh_words text) (fresh_table text) fresh_well few fresh_words_lem).form ∙ sym (only_one form k e)

    -- The file of either form holds the scan's table and rows.
    pub fresh_holds : (form : ℕ) → Holds text (fresh_file form text)
    unfolding fresh_file encode_in
    fresh_holds form = go (eqb form short_number)
      where
        go : (b : Bool)
            → Holds text (cond b (short_encode (fresh_words text) (fresh_table text)) (encode (fresh_words text) (fresh_table text)))
        go true = holds_short
        go false = holds_long
