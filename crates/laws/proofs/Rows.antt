-- Laws of rows in words: the words of a row, the rows from a number on, the words of rows, rows laid over lent words, and a scan's answer.
use mathlib.Core.Path.{◌≡◌, refl, sym, ap, ◌∙◌}
use mathlib.Core.List.{List, [], ◌∷◌, ◌++◌, append_assoc}
use Prim.Native.Nat.{ℕ, zero, suc, pred, ◌+◌, ◌-◌, ◌*◌, ◌≤◌, ◌<◌, min}
use native.Mathlib.Nat.{not-suc-le-zero, le_of_suc-le-suc}
use native.Mathlib.Omega.{arith}
use lib.ListN.{length, take, drop, get_or, length-append, length-take, length-drop}
use lib.Seq.{take-add, take_all, take-append-le, take-append-add, get_or-take, get_or-drop, drop-drop}
use borrow.Author.Tests.{le-leb, lt-leb}
use Rattle.rules.specs.declared.Cursor.{Cursor}
use Rattle.rules.specs.Outcomes.{Ending, unfit, unread}
use Rattle.rules.specs.declared.Outer.{Outer}
use Rattle.rules.specs.declared.Outer.TheVariants.{NoRowRoom}
use Rattle.rules.specs.declared.Unfit.{Unfit}
use Rattle.std.specs.declared.result.Result.TheVariants.{Ok, Err}
use Rattle.rules.specs.Text.{start_place, text_judged}
use Rattle.rules.specs.Rows.{Row, row_words, row_in, row_at, row_no, rows_in, words_of}
use Rattle.rules.specs.Lex.{Piece, blank, comment, row, refused, piece}
use Rattle.rules.specs.Scan.{Reading, put, stops, read_rows, read_ending, read, scan, room_of, told, laid, scan_told, scan_leaves}

-- ---- the words of row i

word_of : (ws : List ℕ) (i k : ℕ) → get_or (drop (8 * i) ws) k 0 ≡ get_or ws (i * 8 + k) 0
word_of ws i k = let e : 8 * i + k ≡ i * 8 + k = omega arith in get_or-drop (8 * i) ws k 0 ∙ rw e

module _ (ws : List ℕ) (i : ℕ) where
  pub kind_word : (row_no ws i).kind ≡ get_or ws (i * 8) 0
  unfolding row_in
  kind_word = let e : i * 8 + 0 ≡ i * 8 = omega arith in word_of ws i 0 ∙ rw e

  pub start_word : (row_no ws i).start ≡ get_or ws (i * 8 + 1) 0
  unfolding row_in
  start_word = word_of ws i 1

  pub end_word : (row_no ws i).end ≡ get_or ws (i * 8 + 2) 0
  unfolding row_in
  end_word = word_of ws i 2

-- a front of eight words or more has the row that stands first
pub row_take : (m : ℕ) (ws : List ℕ) → 8 ≤ m → row_in (take m ws) ≡ row_in ws
unfolding row_in
row_take m ws h =
    let g : (i : ℕ) → i < 8 → get_or (take m ws) i 0 ≡ get_or ws i 0 = λ i l. get_or-take m ws i 0 (omega arith) in
    rw (g 0 (omega arith), g 1 (omega arith), g 2 (omega arith), g 3 (omega arith))
    (rw (g 4 (omega arith), g 5 (omega arith), g 6 (omega arith), g 7 (omega arith)))

-- row i of the words from row a on
pub row_from : (ws : List ℕ) (a i : ℕ) → row_no (drop (8 * a) ws) i ≡ row_no ws (a + i)
row_from ws a i = let e : 8 * a + 8 * i ≡ 8 * (a + i) = omega arith in rw (drop-drop, e)

-- ---- the rows of a list of words

pub rows_length : (n : ℕ) (ws : List ℕ) → length (rows_in n ws) ≡ n
unfolding rows_in
rows_length zero ws = refl
rows_length (suc n) ws = ap suc (rows_length n (drop 8 ws))

pub rows_at : (n : ℕ) (ws : List ℕ) (d : Row) (i : ℕ) → i < n → get_or (rows_in n ws) i d ≡ row_no ws i
unfolding rows_in
rows_at zero ws d i h = absurd (not-suc-le-zero h)
rows_at (suc n) ws d zero h = refl
rows_at (suc n) ws d (suc i) h =
    let e : 8 + 8 * i ≡ 8 * suc i = omega arith in
    rows_at n (drop 8 ws) d i (le_of_suc-le-suc h) ∙ rw (drop-drop, e)

-- one row more
pub rows_snoc : (n : ℕ) (ws : List ℕ) → rows_in (suc n) ws ≡ rows_in n ws ++ (row_no ws n ∷ [])
unfolding rows_in
rows_snoc zero ws = refl
rows_snoc (suc n) ws =
    let f : 8 + 8 * n ≡ 8 * suc n = omega arith in
    ap (◌∷◌ (row_in ws)) (rows_snoc n (drop 8 ws) ∙ rw (drop-drop, f))

pub take_rows : (n : ℕ) (ws : List ℕ) (i : ℕ) → i ≤ n → take i (rows_in n ws) ≡ rows_in i ws
unfolding rows_in
take_rows n ws zero h = refl
take_rows zero ws (suc i) h = absurd (not-suc-le-zero h)
take_rows (suc n) ws (suc i) h = ap (◌∷◌ (row_in ws)) (take_rows n (drop 8 ws) i (le_of_suc-le-suc h))

-- the rows from row i on, of count
abbrev pub rest : List ℕ → ℕ → ℕ → List Row
rest ws count i = rows_in (count - i) (drop (8 * i) ws)

module _ (ws : List ℕ) (count i : ℕ) where
  pub rest_cons : i < count → rest ws count i ≡ row_no ws i ∷ rest ws count (i + 1)
  unfolding rows_in
  rest_cons h =
      let e : count - i ≡ suc (count - (i + 1)) = omega arith in
      let f : 8 * i + 8 ≡ 8 * (i + 1) = omega arith in
      rw (e, drop-drop, f)

  pub rest_none : count ≤ i → rest ws count i ≡ []
  unfolding rows_in
  rest_none h = let e : count - i ≡ 0 = omega arith in rw e

pub drop_rows : (n : ℕ) (ws : List ℕ) (i : ℕ) → drop i (rows_in n ws) ≡ rest ws n i
unfolding rows_in
drop_rows n ws zero = let e : n - 0 ≡ n = omega arith in rw e
drop_rows zero ws (suc i) = let e : 0 - suc i ≡ 0 = omega arith in rw e
drop_rows (suc n) ws (suc i) =
    let e : suc n - suc i ≡ n - i = omega arith in
    let f : 8 + 8 * i ≡ 8 * suc i = omega arith in
    drop_rows n (drop 8 ws) i ∙ rw (e, drop-drop, f)

-- ---- the words of rows

pub words_length : (rs : List Row) → length (words_of rs) ≡ 8 * length rs
unfolding words_of row_words
words_length [] = refl
words_length (r ∷ rs) = omega (arith, words_length rs)

pub words_append : (xs ys : List Row) → words_of (xs ++ ys) ≡ words_of xs ++ words_of ys
unfolding words_of
words_append [] ys = refl
words_append (r ∷ xs) ys = rw (words_append xs ys, append_assoc)

-- the elements at the first numbers
unfoldable elements : ℕ → (ℕ → ℕ) → List ℕ
elements zero f = []
elements (suc n) f = f 0 ∷ elements n (λ i. f (suc i))

take_elements : (n : ℕ) (ws : List ℕ) → n ≤ length ws → take n ws ≡ elements n (λ i. get_or ws i 0)
unfolding elements
take_elements zero ws h = refl
take_elements (suc n) [] h = absurd (not-suc-le-zero h)
take_elements (suc n) (x ∷ ws) h = ap (◌∷◌ x) (take_elements n ws (le_of_suc-le-suc h))

pub front_words : (ws : List ℕ) → 8 ≤ length ws → row_words (row_in ws) ≡ take 8 ws
unfolding elements row_words row_in
front_words ws h = sym (take_elements 8 ws h)

-- the first n rows are the first 8 n words
pub rows_words : (n : ℕ) (ws : List ℕ) → 8 * n ≤ length ws → words_of (rows_in n ws) ≡ take (8 * n) ws
unfolding words_of rows_in
rows_words zero ws h = refl
rows_words (suc n) ws h =
    let e : 8 * suc n ≡ 8 + 8 * n = omega arith in
    rw (front_words ws (omega arith), rows_words n (drop 8 ws) (omega (arith, length-drop 8 ws)), e) (sym (take-add 8 (8 * n) ws))

-- ---- rows laid over lent words, as far as there is room

pub room_behind : (k : ℕ) (ws : List ℕ) → room_of (drop (8 * k) ws) ≡ room_of ws - k
unfolding room_of
room_behind k ws = omega (arith, length-drop (8 * k) ws)

pub laid_length : (rs : List Row) (ws : List ℕ) → length (laid rs ws) ≡ length ws
unfolding laid room_of
laid_length rs ws = rw (length-append, words_length, length-take, length-drop) (omega arith)

module _ (xs : List Row) (ws : List ℕ) where
  -- all find room
  pub laid_all : length xs ≤ room_of ws → laid xs ws ≡ words_of xs ++ drop (8 * length xs) ws
  unfolding laid
  laid_all h =
      let f : min (room_of ws) (length xs) ≡ length xs = omega arith in
      rw (take_all (room_of ws) xs h, f)

  -- no more than there is room for
  pub laid_part : room_of ws ≤ length xs → laid xs ws ≡ words_of (take (room_of ws) xs) ++ drop (8 * room_of ws) ws
  unfolding laid
  laid_part h = let f : min (room_of ws) (length xs) ≡ room_of ws = omega arith in rw f

pub laid_none : (ws : List ℕ) → laid [] ws ≡ ws
unfolding words_of
laid_none ws = laid_all [] ws (omega arith)

module _ (xs ys : List Row) (ws : List ℕ) where
  -- the rows in front find room
  pub laid_append : length xs ≤ room_of ws → laid (xs ++ ys) ws ≡ words_of xs ++ laid ys (drop (8 * length xs) ws)
  unfolding laid
  laid_append h =
      let m = room_of ws in
      let k = length xs in
      let e : m ≡ k + (m - k) = omega arith in
      let f : 8 * min m (k + length ys) ≡ 8 * k + 8 * min (m - k) (length ys) = omega arith in
      ap (λ (z : ℕ). words_of (take z (xs ++ ys)) ++ drop (8 * min m (length (xs ++ ys))) ws) e
      ∙ rw (take-append-add xs ys (m - k), words_append, append_assoc, length-append, f, room_behind k ws, drop-drop)

  -- they do not: the others are not laid
  pub laid_front : room_of ws ≤ length xs → laid (xs ++ ys) ws ≡ words_of (take (room_of ws) xs) ++ drop (8 * room_of ws) ws
  unfolding laid
  laid_front h =
      let f : min (room_of ws) (length xs + length ys) ≡ room_of ws = omega arith in
      rw (take-append-le (room_of ws) xs ys h, length-append, f)

  -- they take all the room
  pub laid_just : length xs ≡ room_of ws → laid (xs ++ ys) ws ≡ words_of xs ++ drop (8 * length xs) ws
  laid_just h = laid_front (omega arith) ∙ rw (take_all (room_of ws) xs (omega arith), h)

-- ---- what a scan tells and leaves

-- a reading has as many rows as bytes and one more, at most
pub few_rows : (pos : ℕ → Cursor) (c n k : ℕ) (s : List ℕ) → length (read_rows (read pos c n k s)) ≤ length s + 1
unfolding read read_rows
few_rows pos c n k [] = omega arith
few_rows pos c (suc n) k (b ∷ s) = omega (arith, few_rows pos c n (suc k) s)
few_rows pos c zero k (b ∷ s) = pick (piece (b ∷ s)) (λ d m. few_rows pos d m (suc k) s)
  where
    pick : (x : Piece) → ((d m : ℕ) → length (read_rows (read pos d m (suc k) s)) ≤ length s + 1) →
        length (read_rows (elim x as (λ _. Reading) [
          | blank ↦ read pos c zero (suc k) s
          | comment n d ↦ read pos (suc c) (pred n) (suc k) s
          | row kind n bits d ↦ put (row_at (pos k) c kind (k + n) bits) (read pos zero (pred n) (suc k) s)
          | refused why p d ↦ stops why (pos (k + p)) (k + d)
        ])) ≤ suc (length s) + 1
    pick blank h = omega (arith, h c 0)
    pick (comment n d) h = omega (arith, h (suc c) (pred n))
    pick (row kind n bits d) h = omega (arith, h 0 (pred n))
    pick (refused why p d) h = omega arith

module _ (t : List ℕ) where
  pub scan_told_refused : {e : Unfit} → text_judged t ≡ Err e → (m : ℕ) → scan_told t m ≡ Err (unread e.why e.at 0)
  unfolding scan_told
  scan_told_refused e m = rw (scan_told, e)

  pub scan_leaves_refused : {e : Unfit} → text_judged t ≡ Err e → (ws : List ℕ) → scan_leaves t ws ≡ ws
  unfolding scan_leaves
  scan_leaves_refused e ws = rw (scan_leaves, e)

  pub scan_told_lem : text_judged t ≡ Ok tt → (m : ℕ) → scan_told t m ≡ told (length t) m (read_rows (scan t)) (read_ending (scan t))
  unfolding scan_told
  scan_told_lem e m = rw (scan_told, e)

  pub scan_leaves_lem : text_judged t ≡ Ok tt → (ws : List ℕ) → scan_leaves t ws ≡ laid (read_rows (scan t)) ws
  unfolding scan_leaves
  scan_leaves_lem e ws = rw (scan_leaves, e)

module _ (n m : ℕ) (rows : List Row) (e : Ending) where
  pub told_all : length rows ≤ m → told n m rows e ≡ Ok (record { count = length rows; length = n; ending = e })
  unfolding told
  told_all h = rw (le-leb (length rows) m h)

  pub told_full : m < length rows → told n m rows e ≡ Err (unread NoRowRoom start_place m)
  unfolding told
  told_full h = rw (lt-leb (length rows) m h)
