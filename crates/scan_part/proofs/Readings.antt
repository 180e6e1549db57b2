-- What is read from an index on, piece by piece, and behind blanks; rows in front of a reading.
use mathlib.Core.Path.{◌≡◌, refl, ap, ◌∙◌}
use mathlib.Core.Bool.{Bool, true, false}
use mathlib.Core.List.{List, [], ◌∷◌, ◌++◌}
use Prim.Native.Nat.{ℕ, zero, suc, ◌+◌, ◌≤◌}
use native.Mathlib.Nat.{not-suc-le-zero, le_of_suc-le-suc, add-zero}
use native.Mathlib.Numerals.{add-one}
use native.Mathlib.Omega.{arith}
use lib.ListN.{length, drop}
use Rattle.rules.specs.declared.Cursor.{Cursor}
use Rattle.rules.specs.Text.{most_bytes, front, is_blank, newlines, line_at, column_at, place_at, start_place}
use Rattle.rules.specs.Rows.{Row, row_at, eof_row}
use Rattle.rules.specs.Lex.{blank, comment, row, refused, Item, known, end, unknown, item, piece, beginning}
use Rattle.rules.specs.Scan.{Reading, put, ends, stops, read_rows, read_ending, read, scan}
use Rattle.theory_machine.proofs.Spans.{Spans, blank_spans, comment_spans, row_spans, refused_spans, end_spans, unknown_spans}
use Rattle.theory_machine.proofs.Same.{piece_spans}
use Rattle.scan_part.specs.Part.{read_from, put_all, Begun}

-- ---- rows in front of a reading

-- its rows are those rows and then the reading's
pub put_rows : (rs : List Row) (l : Reading) → read_rows (put_all rs l) ≡ rs ++ read_rows l
unfolding put_all read_rows
put_rows [] l = refl
put_rows (r ∷ rs) l = ap (◌∷◌ r) (put_rows rs l)

-- and its ending is the reading's
pub put_ending : (rs : List Row) (l : Reading) → read_ending (put_all rs l) ≡ read_ending l
unfolding put_all read_ending
put_ending [] l = refl
put_ending (r ∷ rs) l = put_ending rs l

-- rows behind rows
pub put_append : (xs ys : List Row) (l : Reading) → put_all (xs ++ ys) l ≡ put_all xs (put_all ys l)
unfolding put_all
put_append [] ys l = refl
put_append (r ∷ xs) ys l = ap (put r) (put_append xs ys l)

-- one row behind rows
pub put_one : (xs : List Row) (r : Row) (l : Reading) → put_all (xs ++ (r ∷ [])) l ≡ put_all xs (put r l)
unfolding put_all
put_one xs r l = put_append xs (r ∷ []) l

-- ---- from the start on

-- the reading from the start on is the scan
pub from_start : (t : List ℕ) → read_from t 0 ≡ scan t
unfolding read_from scan
from_start t = refl

-- and it can begin there
pub begun_start : (t : List ℕ) → length t ≤ most_bytes → Begun t (record { at = 0; cursor = start_place })
unfolding place_at line_at column_at newlines front
begun_start t h = record { inside = omega arith; cursor = refl; few = h }

-- ---- piece by piece

module _ (pos : ℕ → Cursor) where
  -- the bytes of a piece are passed over
  read_skip : (c n k : ℕ) (s : List ℕ) → n ≤ length s → read pos c n k s ≡ read pos c 0 (k + n) (drop n s)
  unfolding read
  read_skip c zero k s h = rw add-zero
  read_skip c (suc n) k [] h = absurd (not-suc-le-zero h)
  read_skip c (suc n) k (b ∷ s) h =
      let e : suc k + n ≡ k + suc n = omega arith in
      read_skip c n (suc k) s (le_of_suc-le-suc h) ∙ rw e

  -- behind the first byte n bytes are left of a piece
  behind : (c n k b : ℕ) (s : List ℕ) → suc n ≤ suc (length s) →
      read pos c n (suc k) s ≡ read pos c 0 (k + suc n) (drop (suc n) (b ∷ s))
  behind c n k b s h =
      let e : suc k + n ≡ k + suc n = omega arith in
      read_skip c n (suc k) s (le_of_suc-le-suc h) ∙ rw e

  -- what is read at the front, behind c comments, by the item there; no item of a text that ends is unknown
  unfoldable pub read_by : Item → (c k : ℕ) → List ℕ → Reading
  read_by (known blank) c k s = read pos c 0 (k + 1) (drop 1 s)
  read_by (known (comment n d)) c k s = read pos (c + 1) 0 (k + n) (drop n s)
  read_by (known (row kind n bits d)) c k s = put (row_at (pos k) c kind (k + n) bits) (read pos 0 0 (k + n) (drop n s))
  read_by (known (refused why p d)) c k s = stops why (pos (k + p)) (k + d)
  read_by end c k s = put (eof_row (pos k) c) ends
  read_by unknown c k s = ends

  read_piece : (b : ℕ) (s : List ℕ) (c k : ℕ) (x : Item) → known (piece (b ∷ s)) ≡ x → Spans 1 0 (suc (length s)) x →
      read pos c 0 k (b ∷ s) ≡ read_by x c k (b ∷ s)
  unfolding read read_by
  read_piece b s c k x f (blank_spans r) = let e : piece (b ∷ s) ≡ blank = cc in rw (read, e) (rw add-one)
  read_piece b s c k x f (comment_spans zero d r) = absurd (not-suc-le-zero r.long)
  read_piece b s c k x f (comment_spans (suc n) d r) =
      let e : piece (b ∷ s) ≡ comment (suc n) d = cc in
      rw (read, e) (rw (add-one c) (behind (suc c) n k b s r.inside))
  read_piece b s c k x f (row_spans kind zero bits d r) = absurd (not-suc-le-zero r.long)
  read_piece b s c k x f (row_spans kind (suc n) bits d r) =
      let e : piece (b ∷ s) ≡ row kind (suc n) bits d = cc in
      rw (read, e) (ap (put (row_at (pos k) c kind (k + suc n) bits)) (behind 0 n k b s r.inside))
  read_piece b s c k x f (refused_spans why q d p l m) = let e : piece (b ∷ s) ≡ refused why q d = cc in rw (read, e)
  read_piece b s c k x f end_spans = absurd (let z : ◌≡◌ {A = ℕ} 0 1 = cc in omega arith)
  read_piece b s c k x f unknown_spans = absurd (let z : ◌≡◌ {A = ℕ} 0 1 = cc in omega arith)

  -- what is read of a text that ends is what the item at the front says
  pub read_by_lem : (s : List ℕ) (c k : ℕ) → read pos c 0 k s ≡ read_by (item true s) c k s
  unfolding read read_by item
  read_by_lem [] c k = refl
  read_by_lem (b ∷ s) c k = read_piece b s c k (known (piece (b ∷ s))) refl (piece_spans b s)

  -- ---- behind blanks

  blank_piece : (b : ℕ) (s : List ℕ) → is_blank b ≡ true → piece (b ∷ s) ≡ blank
  unfolding piece beginning
  blank_piece b s e = rw e

  -- blanks are passed over, and no comment is counted
  pub read_blanks : (c n k : ℕ) (s : List ℕ) → n ≤ front is_blank s → read pos c 0 k s ≡ read pos c 0 (k + n) (drop n s)
  unfolding read front
  read_blanks c zero k s h = rw add-zero
  read_blanks c (suc n) k [] h = absurd (not-suc-le-zero h)
  read_blanks c (suc n) k (b ∷ s) h = pick (is_blank b) refl (read_blanks c n (suc k) s)
    where
      pick : (q : Bool) → is_blank b ≡ q →
          (n ≤ front is_blank s → read pos c 0 (suc k) s ≡ read pos c 0 (suc k + n) (drop n s)) →
          read pos c 0 k (b ∷ s) ≡ read pos c 0 (k + suc n) (drop n s)
      pick true e r =
          let m : suc k + n ≡ k + suc n = omega arith in
          rw (read, blank_piece b s e) (r (le_of_suc-le-suc (rw (front, e) at h)) ∙ rw m)
      pick false e r = absurd (not-suc-le-zero (rw (front, e) at h))
