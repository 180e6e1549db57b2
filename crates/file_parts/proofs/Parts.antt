-- Laws of parts that are written one behind the other from a byte on, of a block that is written over, and of the words of one row more.
use mathlib.Core.Path.{◌≡◌, refl, sym, ap, ◌∙◌}
use mathlib.Core.List.{List, [], ◌∷◌, ◌++◌, append_assoc, append-nil}
use Prim.Native.Nat.{ℕ, zero, suc, ◌+◌, ◌-◌, ◌*◌, ◌≤◌}
use native.Mathlib.Numerals.{add-one}
use native.Mathlib.Omega.{arith}
use lib.ListN.{length, take, drop, get_or, length-append, length-take, take-append-drop}
use lib.Seq.{take_at, drop-drop, drop-append-add, length-take-le}
use borrow.Rule.Slice.PartMut.{put_mid}
use Rattle.rules.specs.Rows.{Row, row_in, words_per_row, at_start, at_end, at_low, at_high, at_comments}
use Rattle.rules_files.specs.Bytes.{little, bytes_of, word_bytes}
use Rattle.rules_files.specs.Blocks.{block_bytes, at_content, per_block}
use Rattle.rules_files.specs.Files.{row_bytes}
use Rattle.rules_forms.specs.declared.Form.{Form}
use Rattle.rules_forms.specs.declared.Form.TheVariants.{Full, Short}
use Rattle.rules_forms.specs.Short.{short_words, short_bytes, short_row, shortened}
use Rattle.rules_forms.specs.Shapes.{row_bytes_of}
use Rattle.theory_files.proofs.Numbers.{little_length, bytes_length, bytes_append}
use Rattle.file_blocks.proofs.Laws.{onto, put_length}

-- ---- parts, one behind the other

-- c, so many bytes long, was written into b₀ from a byte on, which gives b
pub record Put (b₀ : List ℕ) (at size : ℕ) (c b : List ℕ) : Type 0 where
  pub size_is : length c ≡ size
  pub is : b ≡ (take at b₀ ++ c) ++ drop (at + size) b₀

module _ (b₀ : List ℕ) (at : ℕ) where
  pub put_none : Put b₀ at 0 [] b₀
  put_none =
      let e : at + 0 ≡ at = omega arith in
      record { size_is = refl; is = rw (e, append-nil) (sym (take-append-drop at b₀)) }

  -- one part more
  pub put_more : (size more : ℕ) (c v b : List ℕ) → Put b₀ at size c b → length v ≡ more → at + size + more ≤ length b₀
      → Put b₀ at (size + more) (c ++ v) ((take (at + size) b ++ v) ++ drop (at + size + more) b)
  put_more size more c v b p l h =
      let xs : List ℕ = take at b₀ ++ c in
      let f : length xs ≡ at + size = length-append (take at b₀) c ∙ omega (arith, p.size_is, length-take-le at b₀ (omega arith)) in
      let e : at + size + more ≡ at + (size + more) = omega arith in
      let w : (take (at + size) b ++ v) ++ drop (at + size + more) b ≡ (xs ++ v) ++ drop (length v) (drop (at + size) b₀)
      = rw p.is (onto xs (drop (at + size) b₀) v (at + size) (at + size + more) f (omega arith)) in
      record {
        size_is = length-append c v ∙ omega (arith, p.size_is);
        is = w ∙ rw (l, drop-drop, e) (ap (λ (x : List ℕ). x ++ drop (at + (size + more)) b₀) (append_assoc (take at b₀) c v));
      }

-- ---- a block of a file, written over

pub mid : (xs ys : List ℕ) (a : ℕ) → put_mid a ((a + block_bytes) - a) xs ys ≡ (take a xs ++ ys) ++ drop (a + block_bytes) xs
mid xs ys a = let e : (a + block_bytes) - a ≡ block_bytes = omega arith in rw (e, drop-drop, append_assoc)

module _ (xs ys : List ℕ) (a : ℕ) (h : a + block_bytes ≤ length xs) (l : length ys ≡ block_bytes) where
  front_length : length (take a xs ++ ys) ≡ a + block_bytes
  front_length = rw (length-append, length-take) (omega arith)

  pub mid_length : length ((take a xs ++ ys) ++ drop (a + block_bytes) xs) ≡ length xs
  mid_length = put_length xs ys a (a + block_bytes) (omega arith) h

  pub mid_take : take (a + block_bytes) ((take a xs ++ ys) ++ drop (a + block_bytes) xs) ≡ take a xs ++ ys
  mid_take = take_at (take a xs ++ ys) (drop (a + block_bytes) xs) (a + block_bytes) front_length

  pub mid_drop : (d : ℕ) → a + block_bytes ≤ d → drop d ((take a xs ++ ys) ++ drop (a + block_bytes) xs) ≡ drop d xs
  mid_drop d g =
      let e : d ≡ length (take a xs ++ ys) + (d - (a + block_bytes)) = omega (arith, front_length) in
      let f : (a + block_bytes) + (d - (a + block_bytes)) ≡ d = omega arith in
      ap (λ (x : ℕ). drop x ((take a xs ++ ys) ++ drop (a + block_bytes) xs)) e
      ∙ drop-append-add (take a xs ++ ys) (drop (a + block_bytes) xs) (d - (a + block_bytes))
      ∙ drop-drop (d - (a + block_bytes)) (a + block_bytes) xs
      ∙ ap (λ (x : ℕ). drop x xs) f

-- ---- a row but its line and column

-- the six words that are written of a row, one after the other
module _ (b₀ : List ℕ) (at : ℕ) (ws b₁ b₂ b₃ b₄ b₅ b₆ : List ℕ) (h : at + short_bytes ≤ length b₀) where
  -- word i of the row in bytes, and where word j of those that are written stands
  abbrev word : ℕ → List ℕ
  word i = little word_bytes (get_or ws i 0)

  abbrev place : ℕ → ℕ
  place j = at + word_bytes * j

  pub row_put : b₁ ≡ (take at b₀ ++ word 0) ++ drop (at + word_bytes) b₀
      → b₂ ≡ (take (place 1) b₁ ++ word at_start) ++ drop (place 1 + word_bytes) b₁
      → b₃ ≡ (take (place 2) b₂ ++ word at_end) ++ drop (place 2 + word_bytes) b₂
      → b₄ ≡ (take (place 3) b₃ ++ word at_low) ++ drop (place 3 + word_bytes) b₃
      → b₅ ≡ (take (place 4) b₄ ++ word at_high) ++ drop (place 4 + word_bytes) b₄
      → b₆ ≡ (take (place 5) b₅ ++ word at_comments) ++ drop (place 5 + word_bytes) b₅
      → b₆ ≡ (take at b₀ ++ bytes_of (short_row (row_in ws))) ++ drop (at + short_bytes) b₀
  unfolding bytes_of short_row row_in
  row_put e₁ e₂ e₃ e₄ e₅ e₆ =
      let w = word_bytes in
      let n : (i : ℕ) → length (word i) ≡ w = λ i. little_length w (get_or ws i 0) in
      let c₂ : List ℕ = word 0 ++ word at_start in
      let c₃ : List ℕ = c₂ ++ word at_end in
      let c₄ : List ℕ = c₃ ++ word at_low in
      let c₅ : List ℕ = c₄ ++ word at_high in
      let p₁ : Put b₀ at w (word 0) b₁ = record { size_is = n 0; is = e₁ } in
      let p₂ : Put b₀ at (w * 2) c₂ b₂ = rw e₂ (put_more b₀ at w w (word 0) (word at_start) b₁ p₁ (n at_start) (omega arith)) in
      let p₃ : Put b₀ at (w * 3) c₃ b₃ = rw e₃ (put_more b₀ at (w * 2) w c₂ (word at_end) b₂ p₂ (n at_end) (omega arith)) in
      let p₄ : Put b₀ at (w * 4) c₄ b₄ = rw e₄ (put_more b₀ at (w * 3) w c₃ (word at_low) b₃ p₃ (n at_low) (omega arith)) in
      let p₅ : Put b₀ at (w * 5) c₅ b₅ = rw e₅ (put_more b₀ at (w * 4) w c₄ (word at_high) b₄ p₄ (n at_high) (omega arith)) in
      let p₆ : Put b₀ at (w * 6) (c₅ ++ word at_comments) b₆
      = rw e₆ (put_more b₀ at (w * 5) w c₅ (word at_comments) b₅ p₅ (n at_comments) (omega arith)) in
      p₆.is ∙ simp (append_assoc, append-nil)

pub row_size : (r : Row) → length (bytes_of (short_row r)) ≡ short_bytes
unfolding short_row
row_size r = bytes_length (short_row r)

-- ---- how many rows a block has at most

pub full_few : (form : Form) → form ≡ Full → (n : ℕ) → n ≤ per_block (row_bytes_of form) → n ≤ per_block row_bytes
full_few form e n h = rw e at h

pub short_few : (form : Form) → form ≡ Short → (n : ℕ) → n ≤ per_block (row_bytes_of form) → n ≤ per_block short_bytes
short_few form e n h = rw e at h

-- ---- rows but their lines and columns

-- one row more
short_more : (i : ℕ) (ws : List ℕ) → shortened (suc i) ws ≡ shortened i ws ++ short_row (row_in (drop (words_per_row * i) ws))
unfolding shortened
short_more zero ws = append-nil (short_row (row_in ws))
short_more (suc i) ws =
    let e : words_per_row * suc i ≡ words_per_row + words_per_row * i = omega arith in
    rw (e, ← drop-drop (words_per_row * i) words_per_row ws, append_assoc) (ap (λ (l : List ℕ). short_row (row_in ws) ++ l) (short_more i (drop words_per_row ws)))

short_length : (n : ℕ) (ws : List ℕ) → length (shortened n ws) ≡ short_words * n
unfolding shortened short_row
short_length zero ws = refl
short_length (suc n) ws = omega (arith, short_length n (drop words_per_row ws))

pub rows_size : (n : ℕ) (ws : List ℕ) → length (bytes_of (shortened n ws)) ≡ short_bytes * n
rows_size n ws = bytes_length (shortened n ws) ∙ omega (arith, short_length n ws)

module _ (b₀ ws : List ℕ) where
  pub rows_none : Put b₀ at_content (short_bytes * 0) (bytes_of (shortened 0 ws)) b₀
  unfolding bytes_of shortened
  rows_none = put_none b₀ at_content

  -- row i, whose words stand in front of part, written behind the rows before it
  pub rows_more : (i : ℕ) (b part : List ℕ) → Put b₀ at_content (short_bytes * i) (bytes_of (shortened i ws)) b → part ≡ drop (i * words_per_row) ws
      → at_content + short_bytes * i + short_bytes ≤ length b₀
      → Put b₀ at_content (short_bytes * (i + 1)) (bytes_of (shortened (i + 1) ws))
      ((take (at_content + short_bytes * i) b ++ bytes_of (short_row (row_in part))) ++ drop (at_content + short_bytes * i + short_bytes) b)
  rows_more i b part p f h =
      let e : short_bytes * (i + 1) ≡ short_bytes * i + short_bytes = omega arith in
      let g : words_per_row * i ≡ i * words_per_row = omega arith in
      let v : List ℕ = bytes_of (short_row (row_in part)) in
      rw (e, add-one i, short_more i ws, g, ← f, bytes_append)
      (put_more b₀ at_content (short_bytes * i) short_bytes (bytes_of (shortened i ws)) v b p (row_size (row_in part)) h)
