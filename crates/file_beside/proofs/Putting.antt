-- Laws of the loop that puts rows beside the text: the words of the rows in front are put, and the place of the last of them is known.
use mathlib.Core.Path.{◌≡◌, refl, sym, ap, ◌∙◌}
use mathlib.Core.List.{List, ◌++◌, append_assoc}
use Prim.Native.Nat.{ℕ, ◌+◌, ◌-◌, ◌*◌, ◌≤◌, ◌<◌}
use native.Mathlib.Omega.{arith}
use lib.ListN.{length, take, drop, length-append, length-take, length-drop}
use lib.Seq.{take_at, drop_at, take-add, drop-drop}
use borrow.Rule.Slice.PartMut.{put_mid}
use Rattle.laws.proofs.Lists.{lent_tail, back_tail}
use Rattle.laws.proofs.Rows.{front_words}
use Rattle.rules.specs.declared.Cursor.{Cursor}
use Rattle.rules.specs.declared.Table.{Table}
use Rattle.rules.specs.Text.{place_at}
use Rattle.rules.specs.Rows.{Row, words_per_row, row_no, row_words}
use Rattle.rules_files.specs.Files.{count_said}
use Rattle.rules_forms.specs.Forms.{rows_beside}
use Rattle.rules_forms.specs.Shapes.{form_of}
use Rattle.file_beside.proofs.Rows.{seated, judged_row, beside_length, row_beside, last_next, count_is, counts_row}
use Rattle.file_beside.proofs.Agreeing.{agrees_long, placed_is}
use Rattle.file_beside.specs.Counting.{Counts, Agrees, last_place, placed_at}

-- the words of i rows behind the first ones
abbrev pub part : List ℕ → List ℕ → ℕ → ℕ → List ℕ
part text file from i = take (words_per_row * i) (drop (words_per_row * from) (rows_beside text file))

pub record Putting (text file : List ℕ) (from n : ℕ) (words₀ words : List ℕ) (here : Cursor) (i : ℕ) : Type 0 where
  pub within : i ≤ n
  pub same_length : length words ≡ length words₀
  pub place : here ≡ last_place text file (from + i)
  pub put : words ≡ part text file from i ++ drop (words_per_row * i) words₀

pub putting_start : (text file : List ℕ) (from n : ℕ) (words₀ : List ℕ) (here : Cursor) → here ≡ last_place text file from
    → Putting text file from n words₀ words₀ here 0
putting_start text file from n words₀ here e =
    let z : from + 0 ≡ from = omega arith in
    record { within = omega arith; same_length = refl; place = rw z e; put = refl }

-- what `put_rows` asks for
pub record Asked (text file : List ℕ) (t : Table) (from n : ℕ) (words₀ : List ℕ) : Type 0 where
  pub agree : Agrees text file t
  pub rows : from + n ≤ t.count
  pub room : words_per_row * n ≤ length words₀

module _ {text file : List ℕ} {t : Table} {from n : ℕ} {words₀ : List ℕ} (asked : Asked text file t from n words₀) where
  all_length : length (rows_beside text file) ≡ words_per_row * t.count
  all_length =
      beside_length text file
      ∙ ap (λ (k : ℕ). words_per_row * k) (sym (count_is text file t asked.agree.holds (agrees_long asked.agree)))

  module _ {words : List ℕ} {here : Cursor} {i : ℕ} (g : Putting text file from n words₀ words here i) where
    -- no row is left
    pub putting_end : n ≤ i → (words ≡ part text file from n ++ drop (words_per_row * n) words₀) × (here ≡ last_place text file (from + n))
    putting_end l =
        let e : i ≡ n = omega (arith, g.within) in
        (rw (← e) g.put, rw (← e) g.place)

    module _ (some : i < n) (r : Row) (e : r ≡ judged_row file (from + i)) where
      -- the row is one of the table
      inside : from + i < t.count
      inside = omega (arith, asked.rows)

      said : from + i < count_said file
      said = omega (arith, inside, count_is text file t asked.agree.holds (agrees_long asked.agree))

      pub putting_counts : Counts text here r.start
      putting_counts =
          rw (g.place, e) (counts_row text file t asked.agree.holds (agrees_long asked.agree) (from + i) inside)

      pub tail_starts : i * words_per_row ≤ length words
      tail_starts = omega (arith, g.same_length, asked.room)

      -- what is lent of the words
      abbrev pub tail : List ℕ
      tail = take (length words - i * words_per_row) (drop (i * words_per_row) words)

      tail_is : tail ≡ drop (i * words_per_row) words
      tail_is = lent_tail words (i * words_per_row) tail_starts

      pub tail_fits : words_per_row ≤ length tail
      tail_fits = omega (arith, ap length tail_is, length-drop (i * words_per_row) words, g.same_length, asked.room)

      module _ (there : Cursor) (p : there ≡ placed_at (form_of file) text r) where
        -- the words of this row
        row_words_lem : row_words (seated r there) ≡ take words_per_row (drop (words_per_row * (from + i)) (rows_beside text file))
        row_words_lem =
            let b : seated r there ≡ row_no (rows_beside text file) (from + i) = rw (p, e) (sym (row_beside text file (from + i) said)) in
            let l = length-drop (words_per_row * (from + i)) (rows_beside text file) in
            ap row_words b ∙ front_words (drop (words_per_row * (from + i)) (rows_beside text file)) (omega (arith, all_length, inside))

        part_next : part text file from (i + 1) ≡ part text file from i ++ row_words (seated r there)
        part_next =
            let k : words_per_row * (i + 1) ≡ words_per_row * i + words_per_row = omega arith in
            let m : words_per_row * (from + i) ≡ words_per_row * from + words_per_row * i = omega arith in
            let x = take-add (words_per_row * i) words_per_row (drop (words_per_row * from) (rows_beside text file)) in
            rw (row_words_lem, m, k, x, drop-drop (words_per_row * i) (words_per_row * from) (rows_beside text file))

        part_length : (j : ℕ) → from + j ≤ t.count → length (part text file from j) ≡ words_per_row * j
        part_length j h =
            length-take (words_per_row * j) (drop (words_per_row * from) (rows_beside text file))
            ∙ omega (arith, length-drop (words_per_row * from) (rows_beside text file), all_length)

        front_length : length (part text file from i) ≡ i * words_per_row
        front_length = omega (arith, part_length i (omega (arith, inside)))

        words_then : (ys : List ℕ) → ys ≡ row_words (seated r there) ++ drop words_per_row tail
            → put_mid (i * words_per_row) (length words - i * words_per_row) words ys
            ≡ part text file from (i + 1) ++ drop (words_per_row * (i + 1)) words₀
        words_then ys q =
            let put : List ℕ = part text file from i in
            let rest : List ℕ = drop (words_per_row * i) words₀ in
            let at : ℕ = i * words_per_row in
            let x : take at words ≡ put = ap (take at) g.put ∙ take_at put rest at front_length in
            let y : drop at words ≡ rest = ap (drop at) g.put ∙ drop_at put rest at front_length in
            let k : words_per_row * i + words_per_row ≡ words_per_row * (i + 1) = omega arith in
            back_tail words (i * words_per_row) tail_starts ys
            ∙ rw (x, q, tail_is, y, drop-drop words_per_row (words_per_row * i) words₀, k, part_next)
            (sym (append_assoc put (row_words (seated r there)) (drop (words_per_row * (i + 1)) words₀)))

        pub putting_next : (ys : List ℕ) → ys ≡ row_words (seated r there) ++ drop words_per_row tail
            → Putting text file from n words₀ (put_mid (i * words_per_row) (length words - i * words_per_row) words ys) there (i + 1)
        putting_next ys q =
            let k : from + (i + 1) ≡ from + i + 1 = omega arith in
            let s : placed_at (form_of file) text r ≡ place_at text (judged_row file (from + i)).start =
            rw e (placed_is asked.agree (from + i) inside) in
            let l = length-append (part text file from (i + 1)) (drop (words_per_row * (i + 1)) words₀) in
            let m = part_length (i + 1) (omega (arith, inside)) in
            record {
              within = omega arith;
              same_length = ap length (words_then ys q) ∙ l ∙ omega (arith, length-drop (words_per_row * (i + 1)) words₀, asked.room);
              place = p ∙ s ∙ sym (last_next text file (from + i) said) ∙ ap (last_place text file) (sym k);
              put = words_then ys q;
            }
