-- The words of a text's rows are words: each lies below 2^32.
use mathlib.Core.Path.{◌≡◌, refl}
use mathlib.Core.Bool.{Bool, true, false, cond, ◌&&◌}
use mathlib.Core.List.{List, [], ◌∷◌}
use Prim.Native.Nat.{ℕ, zero, suc, pred, ◌+◌, ◌-◌, ◌*◌, ◌/◌, ◌%◌, ◌^◌, ◌≤◌, ◌<◌}
use native.Mathlib.Omega.{arith}
use lib.ListN.{length, drop, get_or}
use lib.Dec.{eqb, leb, ltb}
use borrow.Author.Tests.{leb-true}
use Rattle.laws.proofs.Tests.{both_true}
use Rattle.rules.specs.declared.Cursor.{Cursor}
use Rattle.rules.specs.declared.Lexical.{Lexical}
use Rattle.rules.specs.declared.Lexical.TheVariants.{NumberTooLarge}
use Rattle.rules.specs.Text.{byte, most_bytes, front, is_blank, not_newline, line_at, column_at, place_at}
use Rattle.rules.specs.Kinds
use Rattle.rules.specs.Kinds.{Number, is_made, signs, kind_in}
use Rattle.rules.specs.Rows.{Row, row_words, words_of, bits_of, row_at, eof_row, place_fits}
use Rattle.rules.specs.Lex.{Piece, blank, comment, row, refused}
use Rattle.rules.specs.Lex.{line_comment, before_close, block_comment, is_digit, is_letter, word, is_hex_digit, largest, number_of, decimal, hex}
use Rattle.rules.specs.Lex.{number, is_escape, string, is_lone, maybe_two, single, front_two, sign, slashed, dashed, beginning, piece}
use Rattle.rules.specs.Scan.{Reading, put, ends, stops, read_rows, read, scan}
use Rattle.theory_edits.proofs.Lines.{place_fits_lem}
use Rattle.theory_edits.proofs.Well.{Well, well_row, well_eof, well_stops, scan_well}
use Rattle.laws.specs.Bounds.{none, some, Words}
use Rattle.laws.proofs.Bounds.{below_append}

-- ---- a value has 64 bits at most

data Valued : Piece → Type 0 where
  nothing : Valued blank
  remark : {n d : ℕ} → Valued (comment n d)
  value : {k n v d : ℕ} → v < 2 ^ 64 → Valued (row k n v d)
  refusal : {why : Lexical} {p d : ℕ} → Valued (refused why p d)

either : (b : Bool) {x y : Piece} → Valued x → Valued y → Valued (cond b x y)
either true a c = a
either false a c = c

plain : {k n d : ℕ} → Valued (row k n 0 d)
plain = let z : 0 < 2 ^ 64 = omega arith in value z

bits_below : (negative : Bool) (v : ℕ) → v ≤ largest → bits_of negative v < 2 ^ 64
unfolding bits_of
bits_below true v h = omega arith
bits_below false v h = omega arith

number_of_lem : (negative : Bool) (n v : ℕ) → Valued (number_of negative n v)
unfolding number_of
number_of_lem negative n v = go (leb v largest) refl
  where
    go : (b : Bool) → leb v largest ≡ b → Valued (cond b (row Number n (bits_of negative v) n) (refused NumberTooLarge 0 n))
    go true e = value (bits_below negative v (leb-true v largest e))
    go false e = refusal

hex_number : (negative : Bool) (m : ℕ) (s : List ℕ) → Valued (hex negative m s)
unfolding hex
hex_number negative m s = either (eqb (front is_hex_digit s) 0) refusal (number_of_lem negative (m + front is_hex_digit s) _)

decimal_number : (negative : Bool) (m : ℕ) (s : List ℕ) → Valued (decimal negative m s)
unfolding decimal
decimal_number negative m s = number_of_lem negative (m + front is_digit s) _

a_number : (negative : Bool) (m : ℕ) (s : List ℕ) → Valued (number negative m s)
unfolding number
a_number negative m s =
    either (eqb (get_or s 0 0) (byte "0") && eqb (get_or s 1 0) (byte "x")) (hex_number negative (m + 2) (drop 2 s))
    (decimal_number negative m s)

-- ---- other pieces have none

a_string : (escaped : Bool) (n : ℕ) (s : List ℕ) → Valued (string escaped n s)
unfolding string
a_string escaped n [] = refusal
a_string false n (b ∷ s) =
    go (eqb b (byte "\"")) refl (eqb b (byte "\n")) refl (eqb b (byte "\\")) refl (a_string true (suc n) s) (a_string false (suc n) s)
  where
    go : (x : Bool) → eqb b (byte "\"") ≡ x → (y : Bool) → eqb b (byte "\n") ≡ y → (z : Bool) → eqb b (byte "\\") ≡ z
        → Valued (string true (suc n) s) → Valued (string false (suc n) s) → Valued (string false n (b ∷ s))
    go true e y f z g p q = rw (string, e) plain
    go false e true f z g p q = rw (string, e, f) refusal
    go false e false f true g p q = rw (string, e, f, g) p
    go false e false f false g p q = rw (string, e, f, g) q
a_string true n (b ∷ s) = go (is_escape b) refl (a_string false (suc n) s)
  where
    go : (x : Bool) → is_escape b ≡ x → Valued (string false (suc n) s) → Valued (string true n (b ∷ s))
    go true e p = rw (string, e) p
    go false e p = rw (string, e) refusal

one_sign : (b d : ℕ) → Valued (single b d)
unfolding single
one_sign b d = either (is_lone b) refusal (either (eqb (kind_in signs Kinds.Eof (b ∷ [])) Kinds.Eof) refusal plain)

a_sign : (s : List ℕ) → Valued (sign s)
unfolding sign
a_sign s =
    either (maybe_two (get_or s 0 0))
    (either (eqb (kind_in signs Kinds.Eof (front_two s)) Kinds.Eof) (one_sign (get_or s 0 0) 1) plain)
    (one_sign (get_or s 0 0) 0)

a_slash : (s : List ℕ) → Valued (slashed s)
unfolding slashed line_comment block_comment
a_slash s =
    either (eqb (get_or s 1 0) (byte "/")) (either (ltb (front not_newline s) (length s)) remark remark)
    (either (eqb (get_or s 1 0) (byte "*")) (either (ltb (before_close (drop 2 s)) (length (drop 2 s))) remark refusal) (a_sign s))

a_word : (s : List ℕ) → Valued (word s)
unfolding word
a_word s = plain

a_dash : (s : List ℕ) → Valued (dashed s)
unfolding dashed
a_dash s = either (is_digit (get_or s 1 0)) (a_number true 1 (drop 1 s)) (a_sign s)

a_piece : (s : List ℕ) → Valued (piece s)
unfolding piece beginning
a_piece s =
    let b : ℕ = get_or s 0 0 in
    either (is_blank b) nothing
    (either (eqb b (byte "/")) (a_slash s)
    (either (is_letter b) (a_word s)
    (either (is_digit b) (a_number false 0 s)
    (either (eqb b (byte "-")) (a_dash s)
    (either (eqb b (byte "\"")) (a_string false 1 (drop 1 s)) (a_sign s))))))

-- ---- the rows of a reading

-- the upper half of each row's value is a word
data Highs : Reading → Type 0 where
  high : {r : Row} {l : Reading} → r.high < 2 ^ 32 → Highs l → Highs (put r l)
  high_ends : Highs ends
  high_stops : {why : Lexical} {p : Cursor} {d : ℕ} → Highs (stops why p d)

read_highs : (pos : ℕ → Cursor) (c n k : ℕ) (s : List ℕ) → Highs (read pos c n k s)
unfolding read eof_row row_at
read_highs pos c n k [] = let z : 0 / 2 ^ 32 < 2 ^ 32 = omega arith in high z high_ends
read_highs pos c (suc n) k (b ∷ s) = read_highs pos c n (suc k) s
read_highs pos c zero k (b ∷ s) = go (piece (b ∷ s)) refl (a_piece (b ∷ s)) (λ c' n. read_highs pos c' n (suc k) s)
  where
    go : (x : Piece) → piece (b ∷ s) ≡ x → Valued x → ((c' n : ℕ) → Highs (read pos c' n (suc k) s)) → Highs (read pos c zero k (b ∷ s))
    go blank e v r = rw (read, e) (r c zero)
    go (comment n d) e v r = rw (read, e) (r (suc c) (pred n))
    go (row kind n bits d) e (value v) r = let z : bits / 2 ^ 32 < 2 ^ 32 = omega arith in rw (read, e) (high z (r zero (pred n)))
    go (refused why p d) e v r = rw (read, e) high_stops

-- the words of a row
row_below : (T : List ℕ) (c t kind e bits : ℕ) → length T ≤ most_bytes → 2 * c ≤ t → t ≤ length T → e ≤ length T → kind ≤ Kinds.Eof
    → bits / 2 ^ 32 < 2 ^ 32 → Words (row_words (row_at (place_at T t) c kind e bits))
unfolding row_words row_at place_at place_fits
row_below T c t kind e bits few a h g k v =
    let x : ℕ = line_at T t in
    let y : ℕ = column_at T t in
    let p = (both_true (leb 1 x && leb 1 y) (leb x (t + 1) && leb y (t + 1)) (place_fits_lem T t)).1 in
    let q = both_true (leb x (t + 1)) (leb y (t + 1)) p in
    let lx : line_at T t < 2 ^ 32 = omega (arith, leb-true x (t + 1) q.0) in
    let ly : column_at T t < 2 ^ 32 = omega (arith, leb-true y (t + 1) q.1) in
    let low : bits % 2 ^ 32 < 2 ^ 32 = omega arith in
    let lk : kind < 2 ^ 32 = omega arith in
    let lt : t < 2 ^ 32 = omega arith in
    let le : e < 2 ^ 32 = omega arith in
    let lc : c < 2 ^ 32 = omega arith in
    some lk (some lt (some le (some lx (some ly (some low (some v (some lc none)))))))

-- all words of a reading's rows
words_below : {T : List ℕ} {lo : ℕ} {l : Reading} → length T ≤ most_bytes → Well T lo l → Highs l → Words (words_of (read_rows l))
unfolding read_rows words_of eof_row row_at place_at is_made
words_below {T} {lo} few (well_row {t = t} {k = k} {x = x} c a h f w) (high v hs) =
    let z : x.kind ≤ Kinds.Eof = leb-true x.kind Kinds.Eof (both_true _ _ f.made).0 in
    below_append (row_below T c t x.kind (t + k) x.bits few (omega arith) (omega arith) h z v) (words_below few w hs)
words_below {T} {lo} few (well_eof {n = n} c a h) (high v hs) =
    below_append (row_below T c n Kinds.Eof n 0 few (omega arith) (omega arith) (omega arith) (omega arith) (omega arith)) none
words_below few (well_stops a h) hs = none

-- The words of the rows of a text that is not too long.
pub scanned_words : (text : List ℕ) → length text ≤ most_bytes → Words (words_of (read_rows (scan text)))
unfolding scan
scanned_words text few = words_below few (scan_well text) (read_highs (place_at text) 0 0 0 text)
