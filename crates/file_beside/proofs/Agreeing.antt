-- Whether a file agrees with a text, row by row; in form 2 the length says it alone.
use mathlib.Core.Path.{◌≡◌, refl, sym, ap, subst, ◌∙◌}
use mathlib.Core.Bool.{Bool, true, false, cond, ◌&&◌}
use mathlib.Core.List.{List, []}
use Prim.Native.Nat.{ℕ, ◌+◌, ◌≤◌, ◌<◌}
use native.Mathlib.Omega.{arith}
use lib.ListN.{length, get_or}
use lib.Dec.{eqb}
use borrow.Author.Tests.{eqb-true, eq-eqb, ne_eqb}
use Rattle.laws.specs.Tests.{all_below}
use Rattle.laws.proofs.Tests.{false_by, both_true, true_both, below, below_by, below_one}
use Rattle.laws.proofs.Rows.{rows_at, rows_length}
use Rattle.rules.specs.declared.Cursor.{Cursor}
use Rattle.rules.specs.Outcomes.{Ending, halt}
use Rattle.std.specs.declared.option.Option.TheVariants.{None, Some}
use Rattle.rules.specs.declared.Lexical.{Lexical}
use Rattle.rules.specs.declared.Table.{Table}
use Rattle.rules.specs.Text.{start_place, place_at}
use Rattle.rules.specs.Rows.{Row, row_in, row_no, rows_in, row_place, every}
use Rattle.rows.proofs.Lists.{every_at, every_by}
use Rattle.rules_files.specs.Files.{count_said, row_words_in}
use Rattle.rules_forms.specs.declared.Form.{Form}
use Rattle.rules_forms.specs.declared.Form.TheVariants.{Full, Short}
use Rattle.rules_forms.specs.Short.{placed_ending}
use Rattle.rules_forms.specs.Forms.{is_short, rows_beside, table_beside, is_place_in, ending_agrees, agrees, agrees_beside}
use Rattle.rules_forms.specs.Shapes.{form_of, row_words_of}
use Rattle.file_load.specs.Judged.{Framed}
use Rattle.theory_forms.proofs.Agree.{place_of, place_agrees}
use Rattle.file_beside.proofs.Known.{known, is_short_lem, is_full}
use Rattle.file_beside.proofs.Rows.{seated, judged_row, row_beside, last_first, last_next, count_is, counts_row}
use Rattle.file_beside.specs.Counting.{Counts, Holds, Agrees, last_place, rows_agree, placed_at}

-- a row's line and column are those of its start in the text
abbrev pub in_place : List ℕ → Row → Bool
in_place text r = is_place_in text (row_place r)

row_agrees : (text : List ℕ) (r : Row) → in_place text (seated r (place_at text r.start)) ≡ true
unfolding row_place place_at
row_agrees text r = place_agrees text r.start

seated_place : (form : Form) (text : List ℕ) (r : Row) → in_place text (seated r (placed_at form text r)) ≡ true
    → placed_at form text r ≡ place_at text r.start
unfolding row_place
seated_place Full text r e = sym (place_of text (row_place r) e)
seated_place Short text r e = refl

-- ---- a file that agrees

module _ {text file : List ℕ} {t : Table} (a : Agrees text file t) where
  parts : (length text ≡ t.length) × (every (in_place text) (rows_in t.count (rows_beside text file)) ≡ true)
  unfolding agrees table_beside
  parts =
      let p = both_true _ _ a.agrees in
      (eqb-true (length text) t.length p.0, (both_true _ _ p.1).0)

  pub agrees_long : length text ≡ t.length
  agrees_long = parts.0

  -- the place of a row is that of its start
  pub placed_is : (i : ℕ) → i < t.count → placed_at (form_of file) text (judged_row file i) ≡ place_at text (judged_row file i).start
  placed_is i h =
      let n = count_is text file t a.holds agrees_long in
      let rs = rows_in t.count (rows_beside text file) in
      let e = every_at (in_place text) (row_in []) rs parts.1 i (omega (arith, rows_length t.count (rows_beside text file))) in
      let f = rows_at t.count (rows_beside text file) (row_in []) i h ∙ row_beside text file i (omega arith) in
      seated_place (form_of file) text (judged_row file i) (rw f at e)

-- ---- the loop over rows of form 1

-- the rows in front agree, and the place of the last of them is known
pub record Agreeing (text file : List ℕ) (count : ℕ) (here : Cursor) (i : ℕ) : Type 0 where
  pub within : i ≤ count
  pub place : here ≡ last_place text file i
  pub agree : all_below (λ k. in_place text (row_no (row_words_in file) k)) i ≡ true

pub agreeing_start : (text file : List ℕ) (count : ℕ) (here : Cursor) → here ≡ start_place → Agreeing text file count here 0
agreeing_start text file count here e = record {
  within = omega arith;
  place = e ∙ sym (last_first text file);
  agree = below_by (λ k. in_place text (row_no (row_words_in file) k)) 0 (λ k h. absurd (omega arith));
}

module _ {text file : List ℕ} {t : Table} (h : Holds Full text file t) where
  judged_full : (i : ℕ) → judged_row file i ≡ row_no (row_words_in file) i
  judged_full i = ap (λ (f : Form). row_no (row_words_of f file) i) h.form_is

  pub full_frame : Framed Full t.count file
  full_frame = subst (λ (f : Form). Framed f t.count file) h.form_is (known file t h.holds).frame

  module _ {here : Cursor} {i : ℕ} (g : Agreeing text file t.count here i) where
    -- no row is left
    pub agreeing_all : t.count ≤ i → (rows_agree text file t ≡ true) × (here ≡ last_place text file t.count)
    agreeing_all l =
        let n : i ≡ t.count = omega (arith, g.within) in
        let rs = rows_in t.count (row_words_in file) in
        let f : (k : ℕ) → k < length rs → in_place text (get_or rs k (row_in [])) ≡ true = λ k b.
        let c : k < t.count = omega (arith, rows_length t.count (row_words_in file)) in
        let d = below (λ j. in_place text (row_no (row_words_in file) j)) i g.agree k (omega arith) in
        rw (rows_at t.count (row_words_in file) (row_in []) k c) d in
        (every_by (in_place text) (row_in []) rs f, g.place ∙ ap (last_place text file) n)

    module _ (some : i < t.count) (r : Row) (e : r ≡ row_no (row_words_in file) i) where
      pub agreeing_counts : Counts text here r.start
      agreeing_counts = rw (g.place, e, ← judged_full i) (counts_row text file t h.holds h.long i some)

      pub agreeing_next : (there : Cursor) → there ≡ place_at text r.start → in_place text r ≡ true
          → Agreeing text file t.count there (i + 1)
      agreeing_next there p q =
          let n = count_is text file t h.holds h.long in
          record {
            within = omega arith;
            place =
                p ∙ ap (λ (s : Row). place_at text s.start) (e ∙ sym (judged_full i))
                ∙ sym (last_next text file i (omega arith));
            agree = below_one (λ k. in_place text (row_no (row_words_in file) k)) i g.agree (rw e at q);
          }

      pub agreeing_not : in_place text r ≡ false → rows_agree text file t ≡ false
      agreeing_not q = false_by (rows_agree text file t) no
        where
          no : rows_agree text file t ≡ true → ⊥
          no all =
              let rs = rows_in t.count (row_words_in file) in
              let l = rows_length t.count (row_words_in file) in
              let a = every_at (in_place text) (row_in []) rs all i (omega arith) in
              let f = rows_at t.count (row_words_in file) (row_in []) i some in
              let b : in_place text r ≡ true = rw e (rw f at a) in
              let z : ◌≡◌ {A = ℕ} 0 1 = cc in
              omega arith

-- ---- the answer

-- in form 1, of a text as long as the file says: its rows, and its ending
pub full_agreement : {text file : List ℕ} {t : Table} → Holds Full text file t
    → agrees_beside text file t ≡ (rows_agree text file t && ending_agrees text t.ending)
unfolding agrees table_beside rows_beside
full_agreement {text} {file} {t} h = rw (is_full file h.form_is, eq-eqb (length text) t.length h.long)

pub other_length : (text file : List ℕ) (t : Table) → (length text ≡ t.length → ⊥) → agrees_beside text file t ≡ false
unfolding agrees table_beside
other_length text file t h = rw (ne_eqb (length text) t.length h)

ending_placed : (text : List ℕ) (e : Ending) → ending_agrees text (placed_ending (place_at text) e) ≡ true
unfolding ending_agrees
ending_placed text None = refl
ending_placed text (Some e) = place_agrees text e.at.offset.0

rows_placed : (text file : List ℕ) (t : Table) → t.count ≡ count_said file → form_of file ≡ Short
    → every (in_place text) (rows_in t.count (rows_beside text file)) ≡ true
rows_placed text file t n s = every_by (in_place text) (row_in []) (rows_in t.count (rows_beside text file)) at
  where
    at : (k : ℕ) → k < length (rows_in t.count (rows_beside text file))
        → in_place text (get_or (rows_in t.count (rows_beside text file)) k (row_in [])) ≡ true
    at k b =
        let c : k < t.count = omega (arith, rows_length t.count (rows_beside text file)) in
        let f = rows_at t.count (rows_beside text file) (row_in []) k c ∙ row_beside text file k (omega arith) in
        let g : placed_at (form_of file) text (judged_row file k) ≡ place_at text (judged_row file k).start =
        ap (λ (x : Form). placed_at x text (judged_row file k)) s in
        rw (f, g) (row_agrees text (judged_row file k))

-- form 2 has no line and column to disagree
pub short_agreement : {text file : List ℕ} {t : Table} → Holds Short text file t → agrees_beside text file t ≡ true
unfolding agrees table_beside
short_agreement {text} {file} {t} h =
    let n = count_is text file t h.holds h.long in
    let x : ending_agrees text (cond (is_short file) (placed_ending (place_at text) t.ending) t.ending) ≡ true =
    rw (is_short_lem file h.form_is) (ending_placed text t.ending) in
    true_both (eq-eqb (length text) t.length h.long) (true_both (rows_placed text file t n h.form_is) x)

-- ---- lines and columns held against each other

pub line_same : (text : List ℕ) (p q : Cursor) → q ≡ place_at text p.offset.0
    → (eqb p.line.0 q.line.0 && eqb p.column.0 q.column.0) ≡ is_place_in text p
unfolding is_place_in place_at
line_same text p q e = rw e

pub row_same : (text : List ℕ) (r : Row) (p q : Cursor) → p ≡ row_place r → q ≡ place_at text r.start
    → (eqb p.line.0 q.line.0 && eqb p.column.0 q.column.0) ≡ in_place text r
unfolding row_place
row_same text r p q e f =
    ap (λ (x : Cursor). eqb x.line.0 q.line.0 && eqb x.column.0 q.column.0) e ∙ line_same text (row_place r) q f

pub ending_none : (text : List ℕ) (e : Ending) → e ≡ None → ending_agrees text e ≡ true
unfolding ending_agrees
ending_none text e q = rw q

pub ending_refused : (text : List ℕ) (e : Ending) (why : Lexical) (p : Cursor) → e ≡ Some (halt why p) → ending_agrees text e ≡ is_place_in text p
unfolding ending_agrees
ending_refused text e why p q = rw q
