-- Laws of numbers where they stand in bytes, of one more word or row, and of bytes written one behind the other.
use mathlib.Core.Path.{◌≡◌, refl, sym, ap, ◌∙◌}
use mathlib.Core.Bool.{true, false}
use mathlib.Core.List.{List, [], ◌∷◌, ◌++◌, append_assoc, append-nil}
use Prim.Native.Nat.{ℕ, zero, suc, ◌+◌, ◌-◌, ◌*◌, ◌/◌, ◌≤◌, ◌<◌, min}
use native.Mathlib.Numerals.{add-one}
use native.Mathlib.Omega.{arith}
use lib.ListN.{length, take, drop, get_or, set, replicate, length-append, length-take, length-drop, length-replicate, take-append-drop, drop_of_length-le}
use lib.Seq.{take-suc, take_all, drop-cons, drop-drop, set_at, take_at, drop_at, length-take-le, drop-append-add, paste}
use lib.Dec.{eqb}
use borrow.Rule.Slice.PartMut.{put_mid}
use borrow.Author.Tests.{eq-eqb}
use Rattle.std.specs.Int.{w32, to_le_bytes}
use Rattle.rules.specs.Text.{most_bytes}
use Rattle.rules.specs.Rows.{Row, row_in}
use Rattle.rows.specs.Shape.{stands_on}
use Rattle.rules_files.specs.Bytes.{little, number, number_at, bytes_of, words_in}
use Rattle.rules_files.specs.Blocks.{check, checked, block, content_of, zeros, sound}
use Rattle.rules_forms.specs.declared.Form.{Form}
use Rattle.rules_forms.specs.declared.Form.TheVariants.{Full, Short}
use Rattle.rules_forms.specs.Short.{placed_row, on_one_line}
use Rattle.rules_forms.specs.Shapes.{row_bytes_of}
use Rattle.file_blocks.specs.Standing.{row_from, rows_from, stand}
use Rattle.theory_files.proofs.Said.{words_at}
use Rattle.theory_files.proofs.Numbers.{words_length, little_length, bytes_length, bytes_append}

-- ---- numbers where they stand

number_moved : (n a j : ℕ) (s : List ℕ) → number_at n j (drop a s) ≡ number_at n (a + j) s
unfolding number_at
number_moved n a j s = rw drop-drop

module _ (s : List ℕ) (at : ℕ) where
  pub half_is : at + 2 ≤ length s → number_at 2 at s ≡ get_or s at 0 + 256 * get_or s (at + 1) 0
  unfolding number_at number
  half_is h =
      let e : at + 1 ≡ suc at = omega arith in
      rw (e, drop-cons s at 0 (omega arith), drop-cons s (suc at) 0 (omega arith)) (omega arith)

  pub word_is : at + 4 ≤ length s
      → number_at 4 at s ≡ get_or s at 0 + 256 * (get_or s (at + 1) 0 + 256 * (get_or s (at + 2) 0 + 256 * get_or s (at + 3) 0))
  unfolding number_at number
  word_is h =
      let e : at + 1 ≡ suc at = omega arith in
      let f : at + 2 ≡ suc (suc at) = omega arith in
      let g : at + 3 ≡ suc (suc (suc at)) = omega arith in
      rw (
        e,
        f,
        g,
        drop-cons s at 0 (omega arith),
        drop-cons s (suc at) 0 (omega arith),
        drop-cons s (suc (suc at)) 0 (omega arith),
        drop-cons s (suc (suc (suc at))) 0 (omega arith),
      )
      (omega arith)

-- a word's bytes, as the library has them
pub word_bytes_are : (x : ℕ) → to_le_bytes w32 x ≡ little 4 x
unfolding little
word_bytes_are x =
    let e : x / 65536 ≡ x / 256 / 256 = omega arith in
    let f : x / 16777216 ≡ x / 256 / 256 / 256 = omega arith in
    rw (e, f)

pub half_bytes_are : (x : ℕ) → take 2 (to_le_bytes w32 x) ≡ little 2 x
unfolding little
half_bytes_are x = refl

-- a number's bytes, when all of them are stored
pub stored : (s v : List ℕ) (at n x : ℕ) → v ≡ little n x → paste s at v n ≡ (take at s ++ little n x) ++ drop (at + n) s
stored s v at n x e = rw (e, take_all n (little n x) (omega (arith, little_length n x)))

-- a part of a list that was written
pub part_put : (s v : List ℕ) (a b : ℕ) → a ≤ b → put_mid a (b - a) s v ≡ (take a s ++ v) ++ drop b s
part_put s v a b h = let e : a + (b - a) ≡ b = omega arith in rw (drop-drop, e) (sym (append_assoc (take a s) v (drop b s)))

-- ---- whether a block is sound

pub sound_last : (k n size : ℕ) (b : List ℕ) → number_at 2 0 b ≡ k → number_at 2 2 b ≡ n
    → zeros (take (504 - size) (drop (4 + size) b)) ≡ true
    → sound k n size b ≡ eqb (number_at 4 508 b) (check (take 508 b))
unfolding sound
sound_last k n size b e f g = rw (eq-eqb _ k e, eq-eqb _ n f, g)

-- ---- one row more

module _ (s : List ℕ) (at : ℕ) where
  none_on : at + 0 ≡ at
  none_on = omega arith

  -- word i of n words from a byte on
  word_of : (n i : ℕ) → i < n → get_or (words_in n (drop at s)) i 0 ≡ number_at 4 (at + 4 * i) s
  word_of n i h = words_at n (drop at s) i h ∙ number_moved 4 at (4 * i) s

  pub row_words : row_from Full (drop at s) ≡ record {
    kind = number_at 4 at s;
    start = number_at 4 (at + 4) s;
    end = number_at 4 (at + 8) s;
    line = number_at 4 (at + 12) s;
    column = number_at 4 (at + 16) s;
    low = number_at 4 (at + 20) s;
    high = number_at 4 (at + 24) s;
    comments = number_at 4 (at + 28) s;
  }
  unfolding row_from row_in
  row_words =
      let w : (i : ℕ) → i < 8 → get_or (words_in 8 (drop at s)) i 0 ≡ number_at 4 (at + 4 * i) s = word_of 8 in
      rw (
        w 0 (omega arith),
        w 1 (omega arith),
        w 2 (omega arith),
        w 3 (omega arith),
        w 4 (omega arith),
        w 5 (omega arith),
        w 6 (omega arith),
        w 7 (omega arith),
        none_on,
      )

  -- a row without line and column stands in line 1
  pub short_words : row_from Short (drop at s) ≡ record {
    kind = number_at 4 at s;
    start = number_at 4 (at + 4) s;
    end = number_at 4 (at + 8) s;
    line = 1;
    column = 1 + min (number_at 4 (at + 4) s) most_bytes;
    low = number_at 4 (at + 12) s;
    high = number_at 4 (at + 16) s;
    comments = number_at 4 (at + 20) s;
  }
  unfolding row_from row_in placed_row on_one_line
  short_words =
      let w : (i : ℕ) → i < 6 → get_or (words_in 6 (drop at s)) i 0 ≡ number_at 4 (at + 4 * i) s = word_of 6 in
      rw (w 0 (omega arith), w 1 (omega arith), w 2 (omega arith), w 3 (omega arith), w 4 (omega arith), w 5 (omega arith), none_on)

-- where the next row starts, and that it lies inside
pub row_next : (form : Form) (i : ℕ) → 4 + row_bytes_of form * i + row_bytes_of form ≡ 4 + row_bytes_of form * (i + 1)
row_next Full i = omega arith
row_next Short i = omega arith

pub row_inside : (form : Form) (i n l : ℕ) → i < n → 4 + row_bytes_of form * n ≤ l → 4 + row_bytes_of form * i + row_bytes_of form ≤ l
row_inside Full i n l h g = omega arith
row_inside Short i n l h g = omega arith

pub rows_none : (form : Form) (s : List ℕ) → drop (4 + row_bytes_of form * 0) s ≡ drop 4 s
rows_none Full s = refl
rows_none Short s = refl

rows_more : (form : Form) (n i : ℕ) (s : List ℕ) → i < n
    → rows_from form (n - i) (drop (4 + row_bytes_of form * i) s)
    ≡ row_from form (drop (4 + row_bytes_of form * i) s) ∷ rows_from form (n - (i + 1)) (drop (4 + row_bytes_of form * (i + 1)) s)
unfolding rows_from
rows_more form n i s h =
    let e : n - i ≡ suc (n - (i + 1)) = omega arith in
    rw (e, drop-drop, row_next form i)

-- ---- a row behind another

-- row i, read as q, behind the last: the rows from there on stand just where it does, and those behind it
module _ (form : Form) (n i : ℕ) (s : List ℕ) (last q : Row) (h : i < n) (e : q ≡ row_from form (drop (4 + row_bytes_of form * i) s)) where
  pub stand_not : stands_on last q ≡ false → stand last (rows_from form (n - i) (drop (4 + row_bytes_of form * i) s)) ≡ false
  unfolding stand
  stand_not f = rw (rows_more form n i s h, ← e, f)

  pub stand_more : stands_on last q ≡ true
      → stand q (rows_from form (n - (i + 1)) (drop (4 + row_bytes_of form * (i + 1)) s))
      ≡ stand last (rows_from form (n - i) (drop (4 + row_bytes_of form * i) s))
  unfolding stand
  stand_more f = rw (rows_more form n i s h, ← e, f)

-- ---- one word more

pub words_snoc : (i : ℕ) (s : List ℕ) → words_in (suc i) s ≡ words_in i s ++ (number_at 4 (4 * i) s ∷ [])
unfolding words_in number_at
words_snoc zero s = refl
words_snoc (suc i) s =
    let e : 4 * suc i ≡ 4 + 4 * i = omega arith in
    rw (e, ← drop-drop (4 * i) 4 s) (ap (λ (l : List ℕ). number (take 4 s) ∷ l) (words_snoc i (drop 4 s)))

pub taken_more : (i : ℕ) (s ws : List ℕ) (v : ℕ) → i < length ws → v ≡ number_at 4 (4 + 4 * i) s
    → set (words_in i (drop 4 s) ++ drop i ws) i v ≡ words_in (i + 1) (drop 4 s) ++ drop (i + 1) ws
taken_more i s ws v h e =
    let xs : List ℕ = words_in i (drop 4 s) in
    let n : length xs ≡ i = words_length i (drop 4 s) in
    rw (drop-cons ws i 0 h, set_at xs (get_or ws i 0) (drop (suc i) ws) v i n, add-one i, words_snoc i (drop 4 s), append_assoc, e)
    (ap (λ (x : ℕ). words_in i (drop 4 s) ++ (x ∷ drop (suc i) ws)) (sym (number_moved 4 4 (4 * i) s)))

-- ---- written one behind the other

-- v over what stands behind xs
pub onto : (xs ys v : List ℕ) (a b : ℕ) → length xs ≡ a → a + length v ≡ b
    → (take a (xs ++ ys) ++ v) ++ drop b (xs ++ ys) ≡ (xs ++ v) ++ drop (length v) ys
onto xs ys v a b e f = rw (take_at xs ys a e, ← f, ← e) (ap (λ (l : List ℕ). (xs ++ v) ++ l) (drop-append-add xs ys (length v)))

-- ---- what is written, one part behind the other

pub put_length : (s v : List ℕ) (at b : ℕ) → at + length v ≡ b → b ≤ length s → length ((take at s ++ v) ++ drop b s) ≡ length s
put_length s v at b e h = rw (length-append, length-append, length-take, length-drop) (omega arith)

bytes_one : (w : ℕ) → bytes_of (w ∷ []) ≡ little 4 w
unfolding bytes_of
bytes_one w = append-nil (little 4 w)

-- no word yet
pub words_none : (b₀ ws : List ℕ) → (take 4 b₀ ++ bytes_of (take 0 ws)) ++ drop (4 + 4 * 0) b₀ ≡ b₀
unfolding bytes_of
words_none b₀ ws = rw append-nil (take-append-drop 4 b₀)

-- one word more of a content
module _ (b₀ ws b : List ℕ) (i : ℕ) (h : i < length ws) (l : 4 + 4 * length ws ≤ length b₀) where
  pub words_more : b ≡ (take 4 b₀ ++ bytes_of (take i ws)) ++ drop (4 + 4 * i) b₀
      → (take (4 + 4 * i) b ++ little 4 (get_or ws i 0)) ++ drop (4 + 4 * i + 4) b
      ≡ (take 4 b₀ ++ bytes_of (take (i + 1) ws)) ++ drop (4 + 4 * (i + 1)) b₀
  words_more e =
      let xs : List ℕ = take 4 b₀ ++ bytes_of (take i ws) in
      let w : List ℕ = little 4 (get_or ws i 0) in
      let n : length w ≡ 4 = little_length 4 (get_or ws i 0) in
      let m : length xs ≡ 4 + 4 * i = rw (length-append, bytes_length, length-take) (omega (arith, length-take i ws)) in
      let f : 4 + 4 * i + 4 ≡ 4 + 4 * (i + 1) = omega arith in
      let g : bytes_of (take (i + 1) ws) ≡ bytes_of (take i ws) ++ w
      = rw (add-one i, take-suc ws i 0 h, bytes_append (take i ws) (get_or ws i 0 ∷ [])) one_word in
      rw e (onto xs (drop (4 + 4 * i) b₀) w (4 + 4 * i) (4 + 4 * i + 4) m (omega arith) ∙ rw (n, drop-drop, f, g) (simp append_assoc))
    where
      one_word : bytes_of (take i ws) ++ bytes_of (get_or ws i 0 ∷ []) ≡ bytes_of (take i ws) ++ little 4 (get_or ws i 0)
      one_word = ap (λ (z : List ℕ). bytes_of (take i ws) ++ z) (bytes_one (get_or ws i 0))

-- a content that was written is the block's content
pub content_put : (b c : List ℕ) (size : ℕ) → length c ≡ size → 4 + size ≤ length b
    → content_of size ((take 4 b ++ c) ++ drop (4 + size) b) ≡ c
unfolding content_of
content_put b c size e h =
    let l : length (take 4 b) ≡ 4 = length-take-le 4 b (omega arith) in
    rw (append_assoc, drop_at (take 4 b) (c ++ drop (4 + size) b) 4 l, take_at c (drop (4 + size) b) size e)

-- the parts of a block around its content, each over what stood there
module _ (k n size : ℕ) (b₀ b₁ b₂ b₃ b₄ : List ℕ) (whole : length b₀ ≡ 512) (few : size ≤ 504) where
  pub seal_put : b₁ ≡ (take 0 b₀ ++ little 2 k) ++ drop 2 b₀
      → b₂ ≡ (take 2 b₁ ++ little 2 n) ++ drop 4 b₁
      → b₃ ≡ (take (4 + size) b₂ ++ replicate (508 - (4 + size)) 0) ++ drop 508 b₂
      → (sum : ℕ) → sum ≡ check (take 508 b₃) → b₄ ≡ (take 508 b₃ ++ little 4 sum) ++ drop 512 b₃
      → b₄ ≡ block k n (content_of size b₀)
  unfolding block checked content_of
  seal_put e₁ e₂ e₃ sum e e₄ =
      let x : List ℕ = little 2 k in
      let y : List ℕ = little 2 n in
      let c : List ℕ = take size (drop 4 b₀) in
      let z : List ℕ = replicate (508 - (4 + size)) 0 in
      let lx : length x ≡ 2 = little_length 2 k in
      let ly : length y ≡ 2 = little_length 2 n in
      let lc : length c ≡ size = length-take-le size (drop 4 b₀) (omega (arith, length-drop 4 b₀)) in
      let lz : length z ≡ 508 - (4 + size) = length-replicate (508 - (4 + size)) 0 in
      let r₂ : List ℕ = drop size (drop 4 b₀) in
      let r₃ : List ℕ = drop (length z) r₂ in
      let l₁ : length (x ++ y) ≡ 4 = length-append x y ∙ omega arith in
      let l₂ : length ((x ++ y) ++ c) ≡ 4 + size = length-append (x ++ y) c ∙ omega arith in
      let l₃ : length (((x ++ y) ++ c) ++ z) ≡ 508 = length-append ((x ++ y) ++ c) z ∙ omega arith in
      let o₂ : b₂ ≡ (x ++ y) ++ drop (length y) (drop 2 b₀) = e₂ ∙ rw e₁ (onto x (drop 2 b₀) y 2 4 lx (omega arith)) in
      let o₃ : drop (length y) (drop 2 b₀) ≡ c ++ r₂ = rw (ly, drop-drop 2 2 b₀) (sym (take-append-drop size (drop 4 b₀))) in
      let f₂ : b₂ ≡ ((x ++ y) ++ c) ++ r₂ = o₂ ∙ rw o₃ (sym (append_assoc (x ++ y) c r₂)) in
      let f₃ : b₃ ≡ (((x ++ y) ++ c) ++ z) ++ r₃ = e₃ ∙ rw f₂ (onto ((x ++ y) ++ c) r₂ z (4 + size) 508 l₂ (omega arith)) in
      let t₃ : take 508 b₃ ≡ (x ++ y) ++ (c ++ z)
      = ap (take 508) f₃ ∙ take_at (((x ++ y) ++ c) ++ z) r₃ 508 l₃ ∙ append_assoc (x ++ y) c z in
      let lr : length r₃ ≡ 4 = rw (length-drop, length-drop, length-drop) (omega arith) in
      let d₃ : drop 512 b₃ ≡ [] = drop_of_length-le b₃ {i = 512} (omega (arith, ap length f₃, length-append (((x ++ y) ++ c) ++ z) r₃)) in
      let g : 508 - (4 + size) ≡ 504 - length c = omega arith in
      e₄ ∙ rw (e, d₃, t₃, append-nil, g)
