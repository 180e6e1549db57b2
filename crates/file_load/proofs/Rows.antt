-- Laws of rows in the bytes of a file, in either form: where each stands, those of a block in front of the others, and whether they stand.
use mathlib.Core.Path.{◌≡◌, refl, sym, ap, ◌∙◌}
use mathlib.Core.Bool.{Bool, true, false, ◌&&◌, and-true, and_comm, and_assoc}
use mathlib.Core.List.{List, [], ◌∷◌, ◌++◌}
use Prim.Native.Nat.{ℕ, zero, suc, ◌+◌, ◌-◌, ◌*◌, ◌/◌, ◌%◌, ◌≤◌, ◌<◌, min}
use native.Mathlib.Nat.{not-suc-le-zero, le_of_suc-le-suc, mul-suc, mul-add, mul-le-mul_left}
use native.Mathlib.Numerals.{add-one}
use native.Mathlib.Omega.{arith}
use lib.ListN.{length, take, drop, get_or, length-take, length-drop, take-append-drop, get_or-append}
use lib.Seq.{drop_at, drop-drop, drop-append-le, drop-append-add}
use lib.Dec.{ltb}
use borrow.Author.Tests.{ltb-true, ltb-false}
use Rattle.rules.specs.declared.Cursor.{Cursor}
use Rattle.rules.specs.Rows.{Row, row_in, row_no, rows_in}
use Rattle.laws.specs.Tests.{all_below}
use Rattle.laws.proofs.Rows.{rows_snoc}
use Rattle.laws.proofs.Lists.{part_front}
use Rattle.rows.specs.Shape.{row_before, stands_on, stands}
use Rattle.rows.proofs.Tables.{before_first, before_on, stands_next}
use Rattle.rules_files.specs.Bytes.{number, words_in}
use Rattle.rules_files.specs.Blocks.{content_of, per_block, blocks_for, body_from}
use Rattle.rules_files.specs.Files.{count_said, row_words_in}
use Rattle.rules_forms.specs.declared.Form.{Form}
use Rattle.rules_forms.specs.declared.Form.TheVariants.{Full, Short}
use Rattle.rules_forms.specs.Short.{placed_row, placed, on_one_line, short_words_in}
use Rattle.rules_forms.specs.Shapes.{row_bytes_of, row_words_of}
use Rattle.file_blocks.specs.Standing.{row_from, rows_from, stand}
use Rattle.theory_files.proofs.Numbers.{words_length, words_front, words_drop}
use Rattle.theory_files.proofs.Many.{here_few, blocks_next, blocks_zero}
use Rattle.file_sizes.proofs.Sizes.{some_bytes, few_bytes}
use Rattle.file_load.specs.Judged.{last_of}

-- ---- the sizes of a form

-- how many rows stand in a full block
abbrev pub most : Form → ℕ
most form = per_block (row_bytes_of form)

-- the bytes of the rows of a block
pub here_bytes : (form : Form) (n left : ℕ) → n ≡ min (most form) left → row_bytes_of form * n ≤ 504
here_bytes form n left e = rw e (here_few (row_bytes_of form) (some_bytes form) (few_bytes form) left)

one_more : (form : Form) (n : ℕ) → row_bytes_of form * suc n ≡ row_bytes_of form + row_bytes_of form * n
one_more form n = mul-suc (row_bytes_of form) n ∙ omega arith

-- where row i stands: in the first block, or further on
first_rest : (form : Form) (i : ℕ) → i < most form → i % most form ≡ i
first_rest Full i h = omega arith
first_rest Short i h = omega arith

first_block : (form : Form) (i : ℕ) → i < most form → 512 * (i / most form) ≡ 0
first_block Full i h = omega arith
first_block Short i h = omega arith

next_rest : (form : Form) (i : ℕ) → most form ≤ i → (i - most form) % most form ≡ i % most form
next_rest Full i h = omega arith
next_rest Short i h = omega arith

next_block : (form : Form) (i : ℕ) → most form ≤ i → 512 + 512 * ((i - most form) / most form) ≡ 512 * (i / most form)
next_block Full i h = omega arith
next_block Short i h = omega arith

-- ---- a row in bytes

words_part : (n a c : ℕ) (l : List ℕ) → a + 4 * n ≤ c → words_in n (drop a (take c l)) ≡ words_in n (drop a l)
unfolding words_in
words_part zero a c l h = refl
words_part (suc n) a c l h =
    rw (part_front 4 a c l (omega arith), drop-drop 4 a (take c l), drop-drop 4 a l, words_part n (a + 4) c l (omega arith))

row_front : (form : Form) (s t : List ℕ) → row_bytes_of form ≤ length s → row_from form (s ++ t) ≡ row_from form s
unfolding row_from
row_front Full s t h = rw (words_front 8 s t (omega arith))
row_front Short s t h = rw (words_front 6 s t (omega arith))

row_part : (form : Form) (a c : ℕ) (l : List ℕ) → a + row_bytes_of form ≤ c → row_from form (drop a (take c l)) ≡ row_from form (drop a l)
unfolding row_from
row_part Full a c l h = ap row_in (words_part 8 a c l (omega arith))
row_part Short a c l h = ap (λ (ws : List ℕ). row_in (placed_row on_one_line ws)) (words_part 6 a c l (omega arith))

-- ---- rows in bytes

module _ (form : Form) where
  abbrev size : ℕ
  size = row_bytes_of form

  rows_front : (n : ℕ) (s t : List ℕ) → size * n ≤ length s → rows_from form n (s ++ t) ≡ rows_from form n s
  unfolding rows_from
  rows_front zero s t h = refl
  rows_front (suc n) s t h =
      let m = one_more form n in
      let r = rows_front n (drop size s) t (omega (arith, length-drop size s)) in
      rw (row_front form s t (omega arith), drop-append-le size s t (omega arith), r)

  rows_append : (a n : ℕ) (s : List ℕ) → rows_from form (a + n) s ≡ rows_from form a s ++ rows_from form n (drop (size * a) s)
  unfolding rows_from
  rows_append zero n s =
      let e : 0 + n ≡ n = omega arith in
      let f : size * 0 ≡ 0 = omega arith in
      rw (e, f)
  rows_append (suc a) n s =
      let e : suc a + n ≡ suc (a + n) = omega arith in
      rw (e, one_more form a, ← drop-drop (size * a) size s) (ap (λ (l : List Row). row_from form s ∷ l) (rows_append a n (drop size s)))

  rows_part_at : (n a c : ℕ) (l : List ℕ) → a + size * n ≤ c → rows_from form n (drop a (take c l)) ≡ rows_from form n (drop a l)
  unfolding rows_from
  rows_part_at zero a c l h = refl
  rows_part_at (suc n) a c l h =
      let m = one_more form n in
      rw (row_part form a c l (omega arith), drop-drop size a (take c l), drop-drop size a l, rows_part_at n (a + size) c l (omega arith))

  rows_part : (n : ℕ) (b : List ℕ) (c : ℕ) → size * n ≤ c → rows_from form n (take c (drop 4 b)) ≡ rows_from form n (drop 4 b)
  rows_part n b c h = rows_part_at n 0 c (drop 4 b) (omega arith)

-- ---- the rows of words are those of their bytes

-- the eight words of n rows
abbrev pub words_by : Form → ℕ → List ℕ → List ℕ
words_by Full n s = words_in (8 * n) s
words_by Short n s = placed on_one_line n (words_in (6 * n) s)

pub words_split : (a n : ℕ) (s : List ℕ) → words_in (a + n) s ≡ words_in a s ++ words_in n (drop (4 * a) s)
unfolding words_in
words_split zero n s = let e : 0 + n ≡ n = omega arith in rw e
words_split (suc a) n s =
    let e : suc a + n ≡ suc (a + n) = omega arith in
    let f : 4 * suc a ≡ 4 + 4 * a = omega arith in
    rw (e, f, ← drop-drop (4 * a) 4 s) (ap (λ (l : List ℕ). number (take 4 s) ∷ l) (words_split a n (drop 4 s)))

row_eight : (xs ys : List ℕ) → length xs ≡ 8 → row_in (xs ++ ys) ≡ row_in xs
unfolding row_in
row_eight xs ys e =
    let g : (i : ℕ) → i < 8 → get_or (xs ++ ys) i 0 ≡ get_or xs i 0 = λ i h. get_or-append xs ys 0 i (omega arith) in
    rw (g 0 (omega arith), g 1 (omega arith), g 2 (omega arith), g 3 (omega arith))
    (rw (g 4 (omega arith), g 5 (omega arith), g 6 (omega arith), g 7 (omega arith)))

row_six : (at : ℕ → Cursor) (xs ys : List ℕ) → length xs ≡ 6 → placed_row at (xs ++ ys) ≡ placed_row at xs
unfolding placed_row
row_six at xs ys e =
    let g : (i : ℕ) → i < 6 → get_or (xs ++ ys) i 0 ≡ get_or xs i 0 = λ i h. get_or-append xs ys 0 i (omega arith) in
    rw (g 0 (omega arith), g 1 (omega arith), g 2 (omega arith), g 3 (omega arith), g 4 (omega arith), g 5 (omega arith))

placed_eight : (at : ℕ → Cursor) (ws : List ℕ) → length (placed_row at ws) ≡ 8
unfolding placed_row
placed_eight at ws = refl

placed_length : (at : ℕ → Cursor) (n : ℕ) (ws : List ℕ) → length (placed at n ws) ≡ 8 * n
unfolding placed placed_row
placed_length at zero ws = refl
placed_length at (suc n) ws = let r = placed_length at n (drop 6 ws) in omega arith

pub by_length : (form : Form) (n : ℕ) (s : List ℕ) → length (words_by form n s) ≡ 8 * n
by_length Full n s = words_length (8 * n) s
by_length Short n s = placed_length on_one_line n (words_in (6 * n) s)

-- the first row, and the words behind it
by_first : (form : Form) (n : ℕ) (s : List ℕ) → row_in (words_by form (suc n) s) ≡ row_from form s
unfolding row_from placed
by_first Full n s =
    let e : 8 * suc n ≡ 8 + 8 * n = omega arith in
    rw (e, words_split 8 (8 * n) s) (row_eight (words_in 8 s) (words_in (8 * n) (drop 32 s)) (words_length 8 s))
by_first Short n s =
    let e : 6 * suc n ≡ 6 + 6 * n = omega arith in
    let ws : List ℕ = words_in (6 * suc n) s in
    row_eight (placed_row on_one_line ws) (placed on_one_line n (drop 6 ws)) (placed_eight on_one_line ws)
    ∙ rw (e, words_split 6 (6 * n) s) (ap row_in (row_six on_one_line (words_in 6 s) (words_in (6 * n) (drop 24 s)) (words_length 6 s)))

by_behind : (form : Form) (n : ℕ) (s : List ℕ) → drop 8 (words_by form (suc n) s) ≡ words_by form n (drop (row_bytes_of form) s)
unfolding placed placed_row
by_behind Full n s = let e : 8 * suc n ≡ 8 + 8 * n = omega arith in rw (e, words_drop 8 (8 * n) s)
by_behind Short n s = let e : 6 * suc n ≡ 6 + 6 * n = omega arith in rw (e, words_drop 6 (6 * n) s)

module _ (form : Form) where
  pub rows_words : (n m : ℕ) (s : List ℕ) → n ≤ m → rows_in n (words_by form m s) ≡ rows_from form n s
  unfolding rows_in rows_from
  rows_words zero m s h = refl
  rows_words (suc n) zero s h = absurd (not-suc-le-zero h)
  rows_words (suc n) (suc m) s h =
      rw (by_first form m s, by_behind form m s)
      (ap (λ (l : List Row). row_from form s ∷ l) (rows_words n m (drop (size form) s) (le_of_suc-le-suc h)))

  pub row_word : (i n : ℕ) (s : List ℕ) → i < n → row_no (words_by form n s) i ≡ row_from form (drop (size form * i) s)
  row_word i zero s h = absurd (not-suc-le-zero h)
  row_word zero (suc n) s h = let e : size form * 0 ≡ 0 = omega arith in rw e (by_first form n s)
  row_word (suc i) (suc n) s h =
      let e : 8 * suc i ≡ 8 + 8 * i = omega arith in
      rw (e, one_more form i, ← drop-drop (8 * i) 8 (words_by form (suc n) s), ← drop-drop (size form * i) (size form) s, by_behind form n s)
      (row_word i n (drop (size form) s) (le_of_suc-le-suc h))

  -- ---- the last row

  pub last_none : (r : Row) (s : List ℕ) → last_of r (rows_from form 0 s) ≡ r
  unfolding last_of rows_from
  last_none r s = refl

  last_more : (n : ℕ) (r : Row) (s : List ℕ) → last_of r (rows_from form (suc n) s) ≡ row_from form (drop (size form * n) s)
  unfolding last_of rows_from
  last_more zero r s = let e : size form * 0 ≡ 0 = omega arith in rw e
  last_more (suc n) r s = last_more n (row_from form s) (drop (size form) s) ∙ rw (drop-drop, one_more form n)

  pub last_fits : (n room : ℕ) → (n ≡ 0 → ⊥) → 4 + size form * n ≤ room → 4 + size form * (n - 1) + size form ≤ room
  last_fits zero room h f = absurd (h refl)
  last_fits (suc n) room h f = let e : suc n - 1 ≡ n = omega arith in rw e (omega (arith, one_more form n))

  pub last_row : (n : ℕ) (r : Row) (b : List ℕ) → (n ≡ 0 → ⊥)
      → last_of r (rows_from form n (drop 4 b)) ≡ row_from form (drop (4 + size form * (n - 1)) b)
  last_row zero r b h = absurd (h refl)
  last_row (suc n) r b h = let e : suc n - 1 ≡ n = omega arith in last_more n r (drop 4 b) ∙ rw (drop-drop, e)

-- the words of all rows of a file
pub words_file : (form : Form) (count : ℕ) (file : List ℕ) → count ≡ count_said file
    → row_words_of form file ≡ words_by form count (body_from (row_bytes_of form) (blocks_for (row_bytes_of form) count) count (drop 512 file))
unfolding row_words_in short_words_in
words_file Full count file e = rw e
words_file Short count file e = rw e

-- ---- what stands, row by row

pub stand_append : (r : Row) (xs ys : List Row) → stand r (xs ++ ys) ≡ (stand r xs && stand (last_of r xs) ys)
unfolding stand last_of
stand_append r [] ys = refl
stand_append r (q ∷ xs) ys = rw (stand_append q xs ys) (sym (and_assoc (stands_on r q) (stand q xs) (stand (last_of q xs) ys)))

last_snoc : (r q : Row) (xs : List Row) → last_of r (xs ++ (q ∷ [])) ≡ q
unfolding last_of
last_snoc r q [] = refl
last_snoc r q (x ∷ xs) = last_snoc x q xs

last_before : (ws : List ℕ) (n : ℕ) → last_of (row_in []) (rows_in n ws) ≡ row_before ws n
unfolding last_of rows_in
last_before ws zero = sym (before_first ws 0 refl)
last_before ws (suc n) =
    rw (rows_snoc n ws, last_snoc (row_in []) (row_no ws n) (rows_in n ws)) (sym (rw add-one at (before_on ws n)))

-- a row on the rows before it stands where it is
stands_last : (ws : List ℕ) (n : ℕ) → stands_on (last_of (row_in []) (rows_in n ws)) (row_no ws n) ≡ stands ws n
stands_last ws n = stands_next ws n (row_no ws n) refl (last_of (row_in []) (rows_in n ws)) (last_before ws n)

pub stand_below : (ws : List ℕ) (n : ℕ) → stand (row_in []) (rows_in n ws) ≡ all_below (stands ws) n
unfolding stand rows_in
stand_below ws zero = refl
stand_below ws (suc n) =
    let e = stands_last ws n in
    ap (stand (row_in [])) (rows_snoc n ws) ∙ stand_append (row_in []) (rows_in n ws) (row_no ws n ∷ [])
    ∙ rw (stand_below ws n, e, and-true (stands ws n)) (and_comm (all_below (stands ws) n) (stands ws n))

-- ---- a block in front of the others

module _ (form : Form) (m n : ℕ) (s : List ℕ) (e : blocks_for (row_bytes_of form) n ≡ suc m) (l : length s ≡ 512 * suc m) where
  abbrev here : ℕ
  here = min (most form) n

  content : List ℕ
  content = content_of (size form * here) (take 512 s)

  content_length : length content ≡ size form * here
  unfolding content content_of
  content_length =
      let few = here_few (size form) (some_bytes form) (few_bytes form) n in
      length-take (size form * here) (drop 4 (take 512 s)) ∙ omega (arith, length-drop 4 (take 512 s), length-take 512 s)

  others : List ℕ
  others = body_from (size form) m (n - most form) (drop 512 s)

  body_is : body_from (size form) (suc m) n s ≡ content ++ others
  unfolding body_from content others
  body_is = refl

  front_rows : (a : ℕ) → a ≤ here → rows_from form a content ≡ rows_from form a (drop 4 (take 512 s))
  unfolding content content_of
  front_rows a h = rows_part form a (take 512 s) (size form * here) (mul-le-mul_left (size form) h)

  -- rows behind a full block
  behind_rows : (a d : ℕ) → a ≡ here → rows_from form d (drop (size form * a) (content ++ others)) ≡ rows_from form d others
  behind_rows a d e = rw e (ap (rows_from form d) (drop_at content others (size form * here) content_length))

  behind : (a d : ℕ) → ((d ≡ 0 → ⊥) → a ≡ here) → rows_from form d (drop (size form * a) (content ++ others)) ≡ rows_from form d others
  unfolding rows_from
  behind a zero f = refl
  behind a (suc d) f = behind_rows a (suc d) (f (λ e. omega arith))

  -- the rows in front that stand in this block, and those behind it
  pub rows_here_more : (more : ℕ) → more ≤ n
      → rows_from form more (body_from (size form) (suc m) n s)
      ≡ rows_from form (min (most form) more) (drop 4 (take 512 s))
      ++ rows_from form (more - min (most form) more) (body_from (size form) m (n - most form) (drop 512 s))
  unfolding others
  rows_here_more more h =
      let a : min (most form) more + (more - min (most form) more) ≡ more = omega arith in
      let i : min (most form) more ≤ here = omega arith in
      let w = mul-le-mul_left (size form) i in
      ap (λ (x : ℕ). rows_from form x (body_from (size form) (suc m) n s)) (sym a)
      ∙ rows_append form (min (most form) more) (more - min (most form) more) (body_from (size form) (suc m) n s)
      ∙ rw (body_is, rows_front form (min (most form) more) content others (omega (arith, content_length)))
      (rw (front_rows (min (most form) more) i)
      (ap (λ (l : List Row). rows_from form (min (most form) more) (drop 4 (take 512 s)) ++ l)
      (behind (min (most form) more) (more - min (most form) more) (λ z. omega arith))))

  pub body_behind : drop (size form * here) (body_from (size form) (suc m) n s) ≡ body_from (size form) m (n - most form) (drop 512 s)
  unfolding others
  body_behind = ap (drop (size form * here)) body_is ∙ drop_at content others (size form * here) content_length

  -- the words of this block
  pub words_here : (k : ℕ) → 4 * k ≡ size form * here → words_in k (body_from (size form) (suc m) n s) ≡ words_in k (drop 4 (take 512 s))
  unfolding content content_of
  words_here k f =
      let b : List ℕ = drop 4 (take 512 s) in
      let c : List ℕ = take (size form * here) b in
      let w = content_length in
      ap (words_in k) body_is ∙ words_front k c others (omega arith)
      ∙ sym (ap (words_in k) (sym (take-append-drop (size form * here) b)) ∙ words_front k c (drop (size form * here) b) (omega arith))

  -- row i, in this block or behind it
  pub row_here : (i : ℕ) → i < n → i < most form
      → row_from form (drop (size form * i) (body_from (size form) (suc m) n s)) ≡ row_from form (drop (4 + size form * i) (take 512 s))
  unfolding content content_of
  row_here i h l =
      let c : List ℕ = take (size form * here) (drop 4 (take 512 s)) in
      let w = content_length in
      let a : suc i ≤ here = omega arith in
      let b = mul-le-mul_left (size form) a in
      let d = one_more form i in
      let f = row_front form (drop (size form * i) c) others (omega (arith, length-drop (size form * i) c)) in
      let p = row_part form (size form * i) (size form * here) (drop 4 (take 512 s)) (omega arith) in
      rw (body_is, drop-append-le (size form * i) c others (omega arith), f, p, drop-drop)

  pub row_later : (i : ℕ) → i < n → most form ≤ i
      → row_from form (drop (size form * i) (body_from (size form) (suc m) n s))
      ≡ row_from form (drop (size form * (i - most form)) (body_from (size form) m (n - most form) (drop 512 s)))
  unfolding others
  row_later i h l =
      let b : here + (i - most form) ≡ i = omega arith in
      let a : size form * i ≡ length content + size form * (i - most form) =
      ap (λ (x : ℕ). size form * x) (sym b) ∙ mul-add (size form) here (i - most form) ∙ omega (arith, content_length)
      in
      rw (body_is, a) (ap (row_from form) (drop-append-add content others (size form * (i - most form))))

-- ---- row i of a file

module _ (form : Form) where
  pub body_row : (m n i : ℕ) (s : List ℕ) → blocks_for (size form) n ≡ m → length s ≡ 512 * m → i < n
      → row_from form (drop (size form * i) (body_from (size form) m n s))
      ≡ row_from form (drop (4 + size form * (i % most form)) (take 512 (drop (512 * (i / most form)) s)))
  body_row zero n i s e l h = absurd (let z = blocks_zero (size form) (some_bytes form) (few_bytes form) n e in omega arith)
  body_row (suc m) n i s e l h =
      go
      (λ f. body_row m (n - most form) (i - most form) (drop 512 s) (blocks_next (size form) (some_bytes form) (few_bytes form) n m e)
      (length-drop 512 s ∙ omega arith) f)
      (ltb i (most form)) refl
    where
      Rest : Type 0
      Rest = i - most form < n - most form
          → row_from form (drop (size form * (i - most form)) (body_from (size form) m (n - most form) (drop 512 s)))
          ≡ row_from form (drop (4 + size form * ((i - most form) % most form))
          (take 512 (drop (512 * ((i - most form) / most form)) (drop 512 s))))

      go : Rest → (t : Bool) → ltb i (most form) ≡ t
          → row_from form (drop (size form * i) (body_from (size form) (suc m) n s))
          ≡ row_from form (drop (4 + size form * (i % most form)) (take 512 (drop (512 * (i / most form)) s)))
      go rest true t =
          let f = ltb-true i (most form) t in
          row_here form m n s e l i h f ∙ rw (first_rest form i f, first_block form i f)
      go rest false t =
          let f = ltb-false i (most form) t in
          row_later form m n s e l i h f ∙ rest (omega arith) ∙ rw (next_rest form i f, drop-drop, next_block form i f)
