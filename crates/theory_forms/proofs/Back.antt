-- Moved there and back a file has the same bytes, and a moved file is read as the file was.
use mathlib.Core.Path.{◌≡◌, refl, sym, ap, ◌∙◌, subst}
use mathlib.Core.Bool.{Bool, true, false, ◌&&◌}
use mathlib.Core.List.{List, reverse}
use Prim.Native.Nat.{ℕ, zero, suc, ◌+◌, ◌*◌, ◌^◌, ◌≤◌, ◌<◌}
use native.Mathlib.Omega.{arith}
use lib.ListN.{length, take, get_or, length-take, length-reverse}
use lib.Seq.{take_all}
use lib.Dec.{eqb, leb}
use borrow.Author.Tests.{eqb-true, eq-eqb, leb-true}
use Rattle.laws.proofs.Tests.{both_true}
use Rattle.laws.proofs.Fronts.{front_le}
use Rattle.laws.proofs.Places.{newlines_le}
use Rattle.rules.specs.declared.Table.{Table}
use Rattle.rules.specs.Text.{most_bytes, not_newline, line_at, column_at, place_at}
use Rattle.rules.specs.Rows.{rows_in, row_place, every, rows_fit, well_formed, words_per_row}
use Rattle.rules_files.specs.Files.{most_rows, form_said, count_said, row_words_in, load_told, encode, form_number}
use Rattle.rules_forms.specs.Short.{placed_row, placed, on_one_line, shortened, short_encode, short_words_in, short_judged, short_words, short_number}
use Rattle.rules_forms.specs.Forms.{is_form, judged, rows_beside, table_beside, is_place_in, ending_agrees, agrees, agrees_beside, encode_in}
use Rattle.rules_forms.specs.Forms.{is_short}
use Rattle.laws.specs.Bounds.{none, some, Bytes, Words}
use Rattle.laws.proofs.Bounds.{below_drop, below_at, below_append}
use Rattle.theory_files.specs.Whole.{words_of}
use Rattle.theory_files.proofs.Whole.{words_size, words_fit}
use Rattle.theory_files.proofs.Said.{long_fits, Reads, reads_of}
use Rattle.theory_files.proofs.Files.{rows_are, count_is, encode_framed, stored_read}
use Rattle.theory_forms.specs.Forms.{IsMoved, ThereAndBack, ReadAlike, written}
use Rattle.theory_forms.proofs.Short.{short_fits, placed_table, ReadsShort, reads_short, shortened_placed, placed_length}
use Rattle.theory_forms.proofs.Lines.{Lined, text_lined, well_placed}
use Rattle.theory_forms.proofs.Written.{written_form, written_words, written_count, written_judged}
use Rattle.theory_forms.proofs.Agree.{rows_placed, ending_placed}
use Rattle.theory_forms.proofs.Moves.{move_is, written_is, own_form, only_one}
use Rattle.theory_forms.proofs.Alike.{Alike, long_form, says_form, alike_told, alike_rows, back_told, back_bytes}
use Rattle.std.specs.Prelude.{Ok}

-- ---- from 1 to 2

module _ (text file : List ℕ) (bytes : Bytes file) (t : Table) (long : form_said file ≡ form_number)
    (held : load_told file (count_said file) ≡ Ok t)
    (agree : agrees text (row_words_in file) t ≡ true) where
  is_read : Reads file (count_said file) t
  is_read = reads_of file (count_said file) t held

  ws_length : length (row_words_in file) ≡ words_per_row * t.count
  unfolding row_words_in words_of
  ws_length = words_size long_fits (count_said file) file ∙ ap (λ (k : ℕ). words_per_row * k) (sym is_read.count)

  ws_words : Words (row_words_in file)
  unfolding row_words_in words_of
  ws_words = words_fit long_fits (count_said file) bytes

  short : List ℕ
  short = short_encode (row_words_in file) t

  short_form : is_short short ≡ true
  unfolding short
  short_form = eq-eqb _ short_number (written_form (row_words_in file) t is_read.well is_read.few ws_words)

  short_holds : judged short ≡ Ok (placed_table on_one_line t)
  unfolding judged short
  short_holds = rw short_form (written_judged (row_words_in file) t is_read.well is_read.few ws_words)

  parts : (every (λ r. is_place_in text (row_place r)) (rows_in t.count (row_words_in file)) ≡ true) × (ending_agrees text t.ending ≡ true)
  unfolding agrees
  parts = both_true _ _ (both_true (eqb (length text) t.length) _ agree).1

  short_rows : rows_beside text short ≡ row_words_in file
  unfolding rows_beside short
  short_rows =
      let ws : List ℕ = row_words_in file in
      let n = written_count ws t is_read.well is_read.few ws_words in
      let w = written_words ws t is_read.well is_read.few ws_words in
      rw (short_form, n, w)
      (rows_placed text t.count ws (omega (arith, ws_length)) parts.0
      ∙ take_all (words_per_row * t.count) ws (omega (arith, ws_length)))

  short_table : table_beside text short (placed_table on_one_line t) ≡ t
  unfolding table_beside short
  short_table = rw (short_form, ending_placed text t.ending parts.1)

  not_short : is_short file ≡ false
  not_short = rw long

  -- a file of form 1 and its file of form 2 hold one table beside the text
  pub to_short : Alike text file (short_encode (row_words_in file) t)
  unfolding short judged rows_beside table_beside
  to_short = record {
    t = t;
    u = placed_table on_one_line t;
    held = rw not_short held;
    holds = short_holds;
    count = refl;
    table = short_table ∙ sym (rw not_short);
    rows = short_rows ∙ sym (rw not_short);
  }

-- ---- from 2 to 1

-- lines and columns of a text are at most one more than its bytes
line_below : (text : List ℕ) (k : ℕ) → line_at text k ≤ 1 + length text
unfolding line_at
line_below text k = omega (arith, newlines_le (take k text), length-take k text)

column_below : (text : List ℕ) (k : ℕ) → column_at text k ≤ 1 + length text
unfolding column_at
column_below text k = omega (arith, front_le not_newline (reverse (take k text)), length-reverse (take k text), length-take k text)

placed_words : (text : List ℕ) → length text ≤ most_bytes → (n : ℕ) {ws : List ℕ} → Words ws → Words (placed (place_at text) n ws)
unfolding placed placed_row place_at
placed_words text h zero b = none
placed_words text h (suc n) {ws} b =
    let z : 0 < 2 ^ 32 = omega arith in
    let g : (i : ℕ) → get_or ws i 0 < 2 ^ 32 = λ i. below_at b i z in
    let l : line_at text (get_or ws 1 0) < 2 ^ 32 = omega (arith, line_below text (get_or ws 1 0)) in
    let c : column_at text (get_or ws 1 0) < 2 ^ 32 = omega (arith, column_below text (get_or ws 1 0)) in
    below_append (some (g 0) (some (g 1) (some (g 2) (some l (some c (some (g 3) (some (g 4) (some (g 5) none))))))))
    (placed_words text h n (below_drop short_words b))

module _ (text file : List ℕ) (bytes : Bytes file) (s : Table) (form : form_said file ≡ short_number)
    (held : short_judged file ≡ Ok s)
    (same : length text ≡ s.length) where
  reads : ReadsShort file s
  reads = reads_short file s held

  w_length : length (short_words_in file) ≡ short_words * count_said file
  unfolding short_words_in words_of
  w_length = words_size short_fits (count_said file) file

  w_words : Words (short_words_in file)
  unfolding short_words_in words_of
  w_words = words_fit short_fits (count_said file) bytes

  -- the rows and the table with the text's lines and columns
  ws : List ℕ
  ws = placed (place_at text) (count_said file) (short_words_in file)

  t : Table
  t = placed_table (place_at text) s

  -- the rows judged are those without lines and columns
  judged_rows : List ℕ
  judged_rows = placed on_one_line (count_said file) (short_words_in file)

  kept : shortened (count_said file) judged_rows ≡ short_words_in file
  unfolding judged_rows
  kept =
      shortened_placed on_one_line (count_said file) (short_words_in file) (omega (arith, w_length))
      ∙ take_all (short_words * count_said file) (short_words_in file) (omega (arith, w_length))

  text_well : well_formed ws t ≡ true
  unfolding ws t judged_rows
  text_well =
      let l : Lined s.length (place_at text) = subst (λ k. Lined k (place_at text)) same (text_lined text) in
      let p = well_placed (place_at text) judged_rows s l reads.well in
      let e : placed (place_at text) s.count (shortened s.count judged_rows)
      ≡ placed (place_at text) (count_said file) (short_words_in file) =
      ap (λ (k : ℕ). placed (place_at text) k (shortened k judged_rows)) reads.count
      ∙ ap (placed (place_at text) (count_said file)) kept in
      subst (λ (x : List ℕ). well_formed x (placed_table (place_at text) s) ≡ true) e p

  few : t.count ≤ most_rows
  unfolding t
  few = reads.few

  short_text : length text ≤ most_bytes
  unfolding well_formed judged_rows
  short_text =
      let lent = leb (s.count * words_per_row) (length judged_rows) in
      let a =
      both_true (lent && leb s.length most_bytes) (rows_fit s.length (rows_in s.count judged_rows) s.ending) reads.well in
      omega (arith, leb-true s.length most_bytes (both_true lent (leb s.length most_bytes) a.0).1, same)

  t_words : Words ws
  unfolding ws
  t_words = placed_words text short_text (count_said file) w_words

  long_file : List ℕ
  long_file = encode ws t

  long_form_is : is_short long_file ≡ false
  unfolding long_file
  long_form_is = rw (encode_framed ws t text_well few t_words).form

  ws_all : take (words_per_row * t.count) ws ≡ ws
  unfolding t ws
  ws_all =
      let l = placed_length (place_at text) (count_said file) (short_words_in file) in
      let c = reads.count in
      take_all (words_per_row * s.count) (placed (place_at text) (count_said file) (short_words_in file)) (omega (arith, l, c))

  long_holds : judged long_file ≡ Ok t
  unfolding judged long_file
  long_holds =
      let c : t.count ≤ count_said (encode ws t) = omega (arith, count_is ws t text_well few t_words) in
      rw long_form_is (stored_read ws t text_well few t_words (count_said (encode ws t)) c)

  long_rows : rows_beside text long_file ≡ ws
  unfolding rows_beside long_file
  long_rows = rw long_form_is (rows_are ws t text_well few t_words ∙ ws_all)

  short_says : is_short file ≡ true
  short_says = rw form

  -- a file of form 2 and its file of form 1 hold one table beside the text
  pub to_long : Alike text file (encode (placed (place_at text) (count_said file) (short_words_in file)) (placed_table (place_at text) s))
  unfolding long_file ws t judged rows_beside table_beside
  to_long = record {
    t = s;
    u = t;
    held = rw short_says held;
    holds = long_holds;
    count = refl;
    table = rw (long_form_is, short_says);
    rows = long_rows ∙ sym (rw short_says);
  }

-- ---- there and back, and read

record Agreed (text file g : List ℕ) : Type 0 where
  alike : Alike text file g
  agree : agrees_beside text file alike.t ≡ true

module _ (text file : List ℕ) (bytes : Bytes file) (t : Table) (held : judged file ≡ Ok t)
    (agree : agrees_beside text file t ≡ true) where
  -- to the form it has
  stays : (form : ℕ) → form ≡ form_said file → Agreed text file (encode_in form (rows_beside text file) (table_beside text file t))
  stays form e =
      let same =
      ap (λ (k : ℕ). encode_in k (rows_beside text file) (table_beside text file t)) e
      ∙ own_form text file bytes t held (says_form file t held) in
      let a : Alike text file file = record { t = t; u = t; held = held; holds = held; count = refl; table = refl; rows = refl } in
      let b : Agreed text file file = record { alike = a; agree = agree } in
      subst (λ (g : List ℕ). Agreed text file g) (sym same) b

  shortens : is_short file ≡ false → Agreed text file (encode_in short_number (rows_beside text file) (table_beside text file t))
  unfolding judged rows_beside table_beside encode_in to_short
  shortens q =
      let h : load_told file (count_said file) ≡ Ok t = rw q at held in
      let a : agrees text (row_words_in file) t ≡ true = rw q at agree in
      let r : Agreed text file (short_encode (row_words_in file) t) =
      record { alike = to_short text file bytes t (long_form file t q held) h a; agree = agree } in
      rw q r

  lengthens : is_short file ≡ true → Agreed text file (encode_in form_number (rows_beside text file) (table_beside text file t))
  unfolding judged rows_beside table_beside encode_in agrees to_long
  lengthens q =
      let h : short_judged file ≡ Ok t = rw q at held in
      let l : length text ≡ t.length = eqb-true (length text) t.length (both_true (eqb (length text) t.length) _ agree).0 in
      let r : Agreed text file (encode (placed (place_at text) (count_said file) (short_words_in file)) (placed_table (place_at text) t)) =
      record { alike = to_long text file bytes t (eqb-true (form_said file) short_number q) h l; agree = agree } in
      rw q r

  moves : (form : ℕ) → is_form form ≡ true → Agreed text file (encode_in form (rows_beside text file) (table_beside text file t))
  moves form k = go (is_short file) (eqb form short_number) refl refl
    where
      go : (b c : Bool) → is_short file ≡ b → eqb form short_number ≡ c
          → Agreed text file (encode_in form (rows_beside text file) (table_beside text file t))
      go true true p q = stays form (eqb-true form short_number q ∙ sym (eqb-true (form_said file) short_number p))
      go false false p q = stays form (only_one form k q ∙ sym (long_form file t p held))
      go false true p q =
          subst (λ (x : ℕ). Agreed text file (encode_in x (rows_beside text file) (table_beside text file t)))
          (sym (eqb-true form short_number q))
          (shortens p)
      go true false p q =
          subst (λ (x : ℕ). Agreed text file (encode_in x (rows_beside text file) (table_beside text file t))) (sym (only_one form k q))
          (lengthens p)

module _ (text file : List ℕ) (form : ℕ) (lent : List ℕ) (n : ℕ) (bytes : Bytes file) (m : IsMoved text file form lent n) where
  agreed : Agreed text file (written text file form lent n)
  agreed =
      let o = move_is text file form lent n m in
      subst (λ (g : List ℕ). Agreed text file g) (sym (written_is text file form lent n m))
      (moves text file bytes o.table o.judged_is o.agree form o.known)

  -- 1 to 2 and back, 2 to 1 and back: the same bytes
  pub there_and_back : ThereAndBack text file form lent n
  there_and_back = record {
    told = back_told text file (written text file form lent n) agreed.alike bytes agreed.agree;
    bytes = back_bytes text file (written text file form lent n) agreed.alike bytes agreed.agree;
  }

  -- a reading beside the text tells and leaves the same of both
  pub read_alike : ReadAlike text file form lent n
  read_alike = record {
    told = alike_told text file (written text file form lent n) agreed.alike;
    rows = alike_rows text file (written text file form lent n) agreed.alike;
  }
