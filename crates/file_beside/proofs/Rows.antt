-- The rows of a file beside its text, one by one: each is the row that is judged, at the place of its start.
use mathlib.Core.Path.{◌≡◌, refl, sym, ap, subst, ◌∙◌}
use mathlib.Core.Bool.{Bool, true, false, cond}
use mathlib.Core.List.{List, []}
use Prim.Native.Nat.{ℕ, zero, suc, ◌+◌, ◌*◌, ◌≤◌, ◌<◌}
use native.Mathlib.Numerals.{add-one}
use native.Mathlib.Omega.{arith}
use lib.ListN.{length, drop}
use lib.Seq.{drop-drop}
use borrow.Author.Tests.{leb-true}
use Rattle.laws.proofs.Tests.{both_true}
use Rattle.laws.proofs.Places.{over_start}
use Rattle.rules.specs.declared.Cursor.{Cursor}
use Rattle.rules.specs.Outcomes.{Ending, halt}
use Rattle.std.specs.declared.option.Option.TheVariants.{None, Some}
use Rattle.rules.specs.declared.Lexical.{Lexical}
use Rattle.rules.specs.declared.Table.{Table}
use Rattle.rules.specs.Text.{most_bytes, start_place, place_at, over}
use Rattle.rules.specs.Rows.{Row, words_per_row, row_in, row_no, row_place, follows}
use Rattle.rows.specs.Shape.{row_before}
use Rattle.rows.proofs.Inside.{Fine, fine, behind_ends, row_sound, within, few_rows, broken_of}
use Rattle.rows.proofs.Tables.{before_first, before_on}
use Rattle.rules_files.specs.Files.{count_said, row_words_in}
use Rattle.rules_forms.specs.declared.Form.{Form}
use Rattle.rules_forms.specs.declared.Form.TheVariants.{Full, Short}
use Rattle.rules_forms.specs.Short.{short_words, placed_row, placed, on_one_line, short_words_in}
use Rattle.rules_forms.specs.Forms.{is_short, judged, rows_beside}
use Rattle.rules_forms.specs.Shapes.{form_of, row_words_of}
use Rattle.theory_files.proofs.Numbers.{words_length}
use Rattle.theory_forms.proofs.Short.{placed_length}
use Rattle.file_beside.proofs.Known.{known}
use Rattle.file_beside.specs.Counting.{Counts, CountsTo, last_place, placed_at}
use Rattle.std.specs.Prelude.{Ok}

-- a row with the line and column of a place
abbrev pub seated : Row → Cursor → Row
seated r p = record {
  kind = r.kind;
  start = r.start;
  end = r.end;
  line = p.line.0;
  column = p.column.0;
  low = r.low;
  high = r.high;
  comments = r.comments;
}

-- row i of rows that are placed, from where it stands in rows that are placed elsewhere
placed_row_lem : (at bt : ℕ → Cursor) (n : ℕ) (ws : List ℕ) (i : ℕ) → i < n
    → row_no (placed at n ws) i ≡ seated (row_no (placed bt n ws) i) (at (row_no (placed bt n ws) i).start)
unfolding placed placed_row row_in
placed_row_lem at bt zero ws i h = absurd (omega arith)
placed_row_lem at bt (suc n) ws zero h = refl
placed_row_lem at bt (suc n) ws (suc i) h =
    let k : words_per_row * suc i ≡ words_per_row + words_per_row * i = omega arith in
    let a : (l : List ℕ) → drop (words_per_row * suc i) l ≡ drop (words_per_row * i) (drop words_per_row l) =
    λ l. ap (λ (j : ℕ). drop j l) k ∙ sym (drop-drop (words_per_row * i) words_per_row l) in
    let x = a (placed at (suc n) ws) in
    let y = a (placed bt (suc n) ws) in
    rw (x, y) (placed_row_lem at bt n (drop short_words ws) i (omega arith))

-- the words of all rows, by the form
abbrev seated_in : Form → List ℕ → List ℕ → List ℕ
seated_in Full text file = row_words_in file
seated_in Short text file = placed (place_at text) (count_said file) (short_words_in file)

beside_is : (text file : List ℕ) → rows_beside text file ≡ seated_in (form_of file) text file
unfolding rows_beside
beside_is text file = go (is_short file)
  where
    go : (b : Bool) → cond b (seated_in Short text file) (seated_in Full text file) ≡ seated_in (cond b Short Full) text file
    go true = refl
    go false = refl

seated_length : (form : Form) (text file : List ℕ) → length (seated_in form text file) ≡ words_per_row * count_said file
unfolding row_words_in
seated_length Full text file = words_length (words_per_row * count_said file) _
seated_length Short text file = placed_length (place_at text) (count_said file) (short_words_in file)

pub beside_length : (text file : List ℕ) → length (rows_beside text file) ≡ words_per_row * count_said file
beside_length text file = ap length (beside_is text file) ∙ seated_length (form_of file) text file

-- the row that is judged
abbrev pub judged_row : List ℕ → ℕ → Row
judged_row file i = row_no (row_words_of (form_of file) file) i

row_seated : (form : Form) (text file : List ℕ) (i : ℕ) → i < count_said file
    → row_no (seated_in form text file) i ≡ seated (row_no (row_words_of form file) i) (placed_at form text (row_no (row_words_of form file) i))
unfolding row_place
row_seated Full text file i h = refl
row_seated Short text file i h = placed_row_lem (place_at text) on_one_line (count_said file) (short_words_in file) i h

pub row_beside : (text file : List ℕ) (i : ℕ) → i < count_said file
    → row_no (rows_beside text file) i ≡ seated (judged_row file i) (placed_at (form_of file) text (judged_row file i))
row_beside text file i h = ap (λ (ws : List ℕ). row_no ws i) (beside_is text file) ∙ row_seated (form_of file) text file i h

start_beside : (text file : List ℕ) (i : ℕ) → i < count_said file → (row_no (rows_beside text file) i).start ≡ (judged_row file i).start
start_beside text file i h = ap (λ (r : Row). r.start) (row_beside text file i h)

-- the text's start is counted from, before the first row
pub last_first : (text file : List ℕ) → last_place text file 0 ≡ start_place
unfolding row_in over
last_first text file =
    let e = before_first (rows_beside text file) 0 refl in
    ap (λ (r : Row). place_at text r.start) e ∙ sym (over_start text 0 (omega arith))

-- the place of row i is the last of the first i + 1
pub last_next : (text file : List ℕ) (i : ℕ) → i < count_said file → last_place text file (i + 1) ≡ place_at text (judged_row file i).start
last_next text file i h = rw (before_on (rows_beside text file) i, start_beside text file i h)

-- ---- how far is counted, of a file that holds a table of a text's length

module _ (text file : List ℕ) (t : Table) (held : judged file ≡ Ok t) (long : length text ≡ t.length) where
  are_fine : Fine (row_words_of (form_of file) file) t
  are_fine = fine (row_words_of (form_of file) file) t (known file t held).well

  pub count_is : t.count ≡ count_said file
  count_is = (known file t held).frame.count_is

  few_bytes : length text ≤ most_bytes
  few_bytes = omega (arith, are_fine.short)

  pub few_count : t.count ≤ most_bytes + 1
  few_count = omega (arith, few_rows are_fine, are_fine.short)

  -- a row lies in the text
  row_inside : (i : ℕ) → i < t.count → (judged_row file i).start ≤ length text
  row_inside i h = omega (arith, (row_sound are_fine i h).ordered, within are_fine i h)

  -- the row before row i ends where it starts at most
  before_below : (i k : ℕ) → i ≤ t.count → ((j : ℕ) → suc j ≡ i → (judged_row file j).end ≤ k)
      → (row_before (rows_beside text file) i).start ≤ k
  unfolding row_in
  before_below zero k h b = let e = before_first (rows_beside text file) 0 refl in rw e (omega arith)
  before_below (suc j) k h b =
      let e : row_before (rows_beside text file) (suc j) ≡ row_no (rows_beside text file) j =
      rw (← add-one j) (before_on (rows_beside text file) j) in
      let s = start_beside text file j (omega (arith, count_is)) in
      let o = (row_sound are_fine j (omega arith)).ordered in
      rw (e, s) (omega (arith, b j refl))

  follows_start : (i j : ℕ) → suc j ≡ i → i < t.count → (judged_row file j).end ≤ (judged_row file i).start
  unfolding follows
  follows_start i j e h =
      let f : follows (judged_row file j) (judged_row file (suc j)) ≡ true = are_fine.chain j (omega arith) in
      let l = leb-true (judged_row file j).end (judged_row file (suc j)).start (both_true _ _ f).0 in
      rw (← e) l

  counts_from : (i k : ℕ) → (row_before (rows_beside text file) i).start ≤ k → k ≤ length text → Counts text (last_place text file i) k
  unfolding place_at
  counts_from i k b h = record { is = refl; on = b; inside = h; few = few_bytes }

  pub counts_row : (i : ℕ) → i < t.count → Counts text (last_place text file i) (judged_row file i).start
  counts_row i h =
      let k : ℕ = (judged_row file i).start in
      counts_from i k (before_below i k (omega arith) (λ j e. follows_start i j e h)) (row_inside i h)

  pub counts_ending : CountsTo text (last_place text file t.count) t.ending
  counts_ending = go t.ending refl
    where
      go : (e : Ending) → t.ending ≡ e → CountsTo text (last_place text file t.count) e
      go None q = tt
      go (Some refusal) q =
          let b = broken_of are_fine {why = refusal.why} {p = refusal.at} q in
          let f = before_below t.count refusal.at.offset.0 (omega arith) (λ j e. behind_ends (judged_row file j) refusal.at (b.last j e)) in
          counts_from t.count refusal.at.offset.0 f (omega (arith, b.within))

  -- the same, of a refused ending
  pub counts_refused : (here : Cursor) → here ≡ last_place text file t.count → (why : Lexical) (p : Cursor) → t.ending ≡ Some (halt why p)
      → Counts text here p.offset.0
  counts_refused here e why p q = rw e (subst (λ (w : Ending). CountsTo text (last_place text file t.count) w) q counts_ending)
