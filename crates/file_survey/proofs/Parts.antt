-- Rows in the blocks of either form: their bytes, and the blocks and the entries of a part and of the rows behind it.
use mathlib.Core.Path.{◌≡◌, sym, ap, ◌∙◌}
use mathlib.Core.Bool.{cond}
use mathlib.Core.List.{List, [], ◌∷◌, ◌++◌, append-nil}
use Prim.Native.Nat.{ℕ, suc, ◌+◌, ◌-◌, ◌*◌, ◌≤◌, ◌<◌, min}
use native.Mathlib.Omega.{arith}
use lib.ListN.{length, take, drop, length-append}
use lib.Seq.{take_at, drop_at, take_all, take-append-le, drop-drop}
use Rattle.laws.proofs.Rows.{words_length, words_append}
use Rattle.rules.specs.Kinds.{same_bytes}
use Rattle.rules.specs.Rows.{Row, row_words, row_in, words_of}
use Rattle.rules_files.specs.Bytes.{bytes_of}
use Rattle.rules_files.specs.Blocks.{block, per_block, blocks_for, blocks_from}
use Rattle.rules_forms.specs.declared.Form.{Form}
use Rattle.rules_forms.specs.declared.Form.TheVariants.{Full, Short}
use Rattle.rules_forms.specs.Short.{short_row, shortened}
use Rattle.rules_forms.specs.Shapes.{row_bytes_of, body_of}
use Rattle.rules_mend.specs.Mend.{differing}
use Rattle.theory_files.proofs.Numbers.{bytes_length, bytes_append}
use Rattle.theory_files.proofs.One.{block_length}
use Rattle.theory_files.proofs.Many.{blocks_none, blocks_more, blocks_length}
use Rattle.file_parts.proofs.Parts.{rows_size}
use Rattle.file_sizes.proofs.Sizes.{some_bytes, few_bytes, some_rows}
use Rattle.file_patch.specs.Block.{entry}
use Rattle.file_patch.proofs.One.{entry_most}
use Rattle.file_survey.specs.Survey.{blocks_of, rows_differing, rows_block}

-- ---- the words of rows in a form

short_append : (xs : List Row) (n : ℕ) (ws : List ℕ)
    → shortened (length xs + n) (words_of xs ++ ws) ≡ shortened (length xs) (words_of xs) ++ shortened n ws
unfolding shortened words_of row_words row_in short_row
short_append [] n ws = let e : 0 + n ≡ n = omega arith in rw e
short_append (x ∷ xs) n ws =
    let e : suc (length xs) + n ≡ suc (length xs + n) = omega arith in
    rw e (ap (λ (l : List ℕ). short_row x ++ l) (short_append xs n ws))

all_words : (rs : List Row) → take (8 * length rs) (words_of rs) ≡ words_of rs
all_words rs = take_all (8 * length rs) (words_of rs) (omega (arith, words_length rs))

-- of rows behind rows
body_append : (form : Form) (xs ys : List Row)
    → body_of form (length (xs ++ ys)) (words_of (xs ++ ys)) ≡ body_of form (length xs) (words_of xs) ++ body_of form (length ys) (words_of ys)
body_append Full xs ys = rw (all_words (xs ++ ys), all_words xs, all_words ys) (words_append xs ys)
body_append Short xs ys = rw (length-append xs ys, words_append xs ys) (short_append xs (length ys) (words_of ys))

-- of rows in front of other words
pub body_front : (form : Form) (xs : List Row) (ws : List ℕ)
    → body_of form (length xs) (words_of xs ++ ws) ≡ body_of form (length xs) (words_of xs)
unfolding shortened
body_front Full xs ws = take-append-le (8 * length xs) (words_of xs) ws (omega (arith, words_length xs))
body_front Short xs ws =
    let e : length xs + 0 ≡ length xs = omega arith in
    (rw e at (short_append xs 0 ws)) ∙ append-nil (shortened (length xs) (words_of xs))

-- in bytes
body_size : (form : Form) (rs : List Row) → length (bytes_of (body_of form (length rs) (words_of rs))) ≡ row_bytes_of form * length rs
body_size Full rs = rw (all_words rs) (bytes_length (words_of rs) ∙ omega (arith, words_length rs))
body_size Short rs = rows_size (length rs) (words_of rs)

-- ---- so many rows in a block

block_fits : (form : Form) (n : ℕ) → n ≤ per_block (row_bytes_of form) → row_bytes_of form * n ≤ 504
block_fits Full n h = omega arith
block_fits Short n h = omega arith

-- a block of rows has 512 bytes
pub rows_length : (form : Form) (k : ℕ) (rs : List Row) → length rs ≤ per_block (row_bytes_of form) → length (rows_block form k rs) ≡ 512
rows_length form k rs h =
    block_length k (length rs) (bytes_of (body_of form (length rs) (words_of rs)))
    (omega (arith, body_size form rs, block_fits form (length rs) h))

-- ---- blocks one further

-- a block of `a` rows, and then those of b rows
split_blocks : (size : ℕ) → 0 < size → size ≤ 504 → (a b k : ℕ) (x y : List ℕ) → 0 < a → min (per_block size) (a + b) ≡ a
    → (a + b) - per_block size ≡ b → length x ≡ size * a
    → blocks_from size (blocks_for size (a + b)) k (a + b) (x ++ y) ≡ block k a x ++ blocks_from size (blocks_for size b) (suc k) b y
unfolding blocks_from
split_blocks size small large a b k x y some here rest l =
    rw (blocks_more size small large (a + b) (omega arith), here, rest, take_at x y (size * a) l, drop_at x y (size * a) l)

module _ (form : Form) (k : ℕ) where
  -- no rows have none
  pub blocks_of_none : blocks_of form k [] ≡ []
  unfolding blocks_of blocks_from
  blocks_of_none = rw (blocks_none (row_bytes_of form) (some_bytes form) (few_bytes form))

  -- Each block has 512 bytes.
  pub blocks_size : (rs : List Row) → length (blocks_of form k rs) ≡ 512 * blocks_for (row_bytes_of form) (length rs)
  unfolding blocks_of
  blocks_size rs =
      blocks_length (row_bytes_of form) (some_bytes form) (few_bytes form) (blocks_for (row_bytes_of form) (length rs)) k (length rs) _

  -- rows of one block have that one
  pub blocks_of_one : (rs : List Row) → 0 < length rs → length rs ≤ per_block (row_bytes_of form) → blocks_of form k rs ≡ rows_block form k rs
  unfolding blocks_of blocks_from
  blocks_of_one rs some few =
      let a = length rs in
      let x : List ℕ = bytes_of (body_of form (length rs) (words_of rs)) in
      let z : length rs + 0 ≡ length rs = omega arith in
      let n = blocks_none (row_bytes_of form) (some_bytes form) (few_bytes form) in
      let s = split_blocks (row_bytes_of form) (some_bytes form) (few_bytes form) (length rs) 0 k x [] some
      (omega arith) (omega arith) (body_size form rs) in
      (rw (z, append-nil x, n) at s) ∙ append-nil (rows_block form k rs)

  module _ (xs ys : List Row) (full : length xs ≡ per_block (row_bytes_of form)) where
    -- Behind a full block stand those of the rows behind it.
    pub blocks_then : blocks_for (row_bytes_of form) (length (xs ++ ys)) ≡ suc (blocks_for (row_bytes_of form) (length ys))
    blocks_then =
        let p = some_rows form in
        let e : length (xs ++ ys) - per_block (row_bytes_of form) ≡ length ys = omega (arith, length-append xs ys) in
        let m = blocks_more (row_bytes_of form) (some_bytes form) (few_bytes form) (length (xs ++ ys)) (omega (arith, length-append xs ys)) in
        rw e at m

    -- a full block, and those of the rows behind it
    blocks_of_more : blocks_of form k (xs ++ ys) ≡ rows_block form k xs ++ blocks_of form (suc k) ys
    unfolding blocks_of
    blocks_of_more =
        let p = some_rows form in
        let x : List ℕ = bytes_of (body_of form (length xs) (words_of xs)) in
        let y : List ℕ = bytes_of (body_of form (length ys) (words_of ys)) in
        rw (body_append form xs ys, bytes_append, length-append xs ys)
        (split_blocks (row_bytes_of form) (some_bytes form) (few_bytes form) (length xs) (length ys) k x y
        (omega arith) (omega arith) (omega arith) (body_size form xs))

    -- The blocks of a full part stand in front of those of the rows behind it.
    pub blocks_part : blocks_of form k (xs ++ ys) ≡ blocks_of form k xs ++ blocks_of form (suc k) ys
    blocks_part =
        let p = some_rows form in
        blocks_of_more ∙ ap (λ (b : List ℕ). b ++ blocks_of form (suc k) ys) (sym (blocks_of_one xs (omega arith) (omega arith)))

-- ---- entries one further

-- the entry of a block, and then those behind it
differing_block : (m k : ℕ) (b rest file : List ℕ) → length b ≡ 512
    → differing (suc m) k (b ++ rest) file ≡ cond (same_bytes b (take 512 file)) [] (k ∷ []) ++ differing m (suc k) rest (drop 512 file)
unfolding differing
differing_block m k b rest file l = rw (take_at b rest 512 l, drop_at b rest 512 l)

next_drop : (k : ℕ) (file : List ℕ) → drop 512 (drop (512 * k) file) ≡ drop (512 * suc k) file
next_drop k file = let e : 512 * k + 512 ≡ 512 * suc k = omega arith in drop-drop 512 (512 * k) file ∙ rw e

module _ (form : Form) (k : ℕ) (file : List ℕ) where
  -- No rows have no entries.
  pub rows_none : rows_differing form k [] file ≡ []
  unfolding rows_differing differing
  rows_none = rw (blocks_none (row_bytes_of form) (some_bytes form) (few_bytes form))

  -- Rows of one block have its entry.
  pub rows_one : (rs : List Row) → 0 < length rs → length rs ≤ per_block (row_bytes_of form)
      → rows_differing form k rs file ≡ entry k (rows_block form k rs) file
  unfolding rows_differing differing
  rows_one rs some few =
      let n = blocks_none (row_bytes_of form) (some_bytes form) (few_bytes form) in
      let e : length rs - per_block (row_bytes_of form) ≡ 0 = omega arith in
      let m = blocks_more (row_bytes_of form) (some_bytes form) (few_bytes form) (length rs) some in
      let c : blocks_for (row_bytes_of form) (length rs) ≡ 1 = (rw (e, n) at m) in
      let b = rows_block form k rs in
      rw (c, blocks_of_one form k rs some few)
      (ap (λ (l : List ℕ). differing 1 k l (drop (512 * k) file)) (sym (append-nil b))
      ∙ differing_block 0 k b [] (drop (512 * k) file) (rows_length form k rs few) ∙ append-nil (entry k b file))

  rows_more : (xs ys : List Row) → length xs ≡ per_block (row_bytes_of form)
      → rows_differing form k (xs ++ ys) file ≡ entry k (rows_block form k xs) file ++ rows_differing form (suc k) ys file
  unfolding rows_differing
  rows_more xs ys full =
      let b = rows_block form k xs in
      let m = blocks_for (row_bytes_of form) (length ys) in
      rw (blocks_then form k xs ys full, blocks_of_more form k xs ys full)
      (differing_block m k b (blocks_of form (suc k) ys) (drop (512 * k) file) (rows_length form k xs (omega arith)) ∙ rw next_drop)

  -- The entries of a full part stand in front of those of the rows behind it.
  pub rows_part : (xs ys : List Row) → length xs ≡ per_block (row_bytes_of form)
      → rows_differing form k (xs ++ ys) file ≡ rows_differing form k xs file ++ rows_differing form (suc k) ys file
  rows_part xs ys full =
      let p = some_rows form in
      rows_more xs ys full
      ∙ ap (λ (l : List ℕ). l ++ rows_differing form (suc k) ys file) (sym (rows_one xs (omega arith) (omega arith)))

  -- one entry at most
  pub rows_few : (rs : List Row) → length rs ≤ per_block (row_bytes_of form) → length (rows_differing form k rs file) ≤ 1
  rows_few [] h = rw rows_none (omega arith)
  rows_few (r ∷ rs) h = rw (rows_one (r ∷ rs) (omega arith) h) (entry_most (rows_block form k (r ∷ rs)) file k)
