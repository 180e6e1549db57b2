-- No row starts where a gap goes on; and where a row starts, the comments that stand before it are told in that row alone.
use Prim.Native.Nat.{ℕ, zero, suc, pred, ◌+◌, ◌<◌}
use native.Mathlib.Omega.{arith}
use mathlib.Core.Bool.{Bool, true, false, cond, ◌&&◌, ◌||◌, true≢false}
use mathlib.Core.List.{List, [], ◌∷◌, ◌++◌}
use mathlib.Core.Path.{◌≡◌, refl, ap, sym, ◌∙◌}
use lib.Dec.{eqb, ltb}
use lib.ListN.{length, drop}
use borrow.Author.Tests.{ne_eqb}
use Rattle.rules.specs.declared.Cursor.{Cursor}
use Rattle.rules.specs.declared.Lexical.{Lexical}
use Rattle.rules.specs.Text.{front, not_newline, is_blank, place_at}
use Rattle.rules.specs.Rows.{Row, row_at, eof_row}
use Rattle.rules.specs.Lex.{Piece, blank, comment, row, refused, line_comment, before_close, block_comment, slashed, beginning, piece}
use Rattle.rules.specs.Scan.{Reading, put, ends, stops, read_rows, read_ending, read}
use Rattle.rules.specs.Edit.{from, some, opens, slash_or_star, with_comments, recounted}
use Rattle.theory_machine.proofs.Same.{same_read}
use Rattle.theory_edits.specs.Shows.{Starts, first, later}
use Rattle.theory_edits.proofs.Stand.{At, rest}
use Rattle.theory_edits.proofs.From.{starts_some}

-- ---- a reading from behind m has no row that starts there

module _ (X : List ℕ) (m : ℕ) where
  record None (l : Reading) : Type 0 where
    none : from m (read_rows l) ≡ []

  row_none : (n c kind e bits : ℕ) (l : Reading) → m < n → None l → None (put (row_at (place_at X n) c kind e bits) l)
  unfolding from read_rows row_at place_at
  row_none n c kind e bits l h i = record { none = rw (ne_eqb n m (λ x. omega arith)) i.none }

  ends_none : None ends
  unfolding from read_rows
  ends_none = record { none = refl }

  stops_none : (why : Lexical) (p : Cursor) (d : ℕ) → None (stops why p d)
  unfolding from read_rows
  stops_none why p d = record { none = refl }

  piece_none : (b : ℕ) (s : List ℕ) (c k : ℕ) → m < k → ((c n : ℕ) → None (read (place_at X) c n (suc k) s))
      → (p : Piece) → piece (b ∷ s) ≡ p → None (read (place_at X) c 0 k (b ∷ s))
  unfolding read
  piece_none b s c k h ih blank e = rw (read, e) (ih c 0)
  piece_none b s c k h ih (comment n d) e = rw (read, e) (ih (suc c) (pred n))
  piece_none b s c k h ih (row kind n bits d) e = rw (read, e) (row_none k c kind (k + n) bits _ h (ih 0 (pred n)))
  piece_none b s c k h ih (refused why p d) e = rw (read, e) (stops_none why _ _)

  read_none : (s : List ℕ) (c n k : ℕ) → m < k → None (read (place_at X) c n k s)
  unfolding read eof_row
  read_none [] c n k h = row_none k c _ _ 0 ends h ends_none
  read_none (b ∷ s) c (suc n) k h = read_none s c n (suc k) (omega arith)
  read_none (b ∷ s) c zero k h = piece_none b s c k h (λ c n. read_none s c n (suc k) (omega arith)) (piece (b ∷ s)) refl

-- ---- where a gap goes on

-- it goes on in every text that begins so
pub opens_more : (b : ℕ) (w z : List ℕ) → opens (b ∷ w) ≡ true → opens (b ∷ (w ++ z)) ≡ true
unfolding opens slash_or_star
opens_more b [] z h = by (is_blank b) (eqb b 47) (slash_or_star z) h
  where
    by : (x y t : Bool) → (x || (y && false)) ≡ true → (x || (y && t)) ≡ true
    by true y t h = refl
    by false true t h = absurd (true≢false (sym h))
    by false false t h = h
opens_more b (x ∷ w) z h = h

-- a piece that is no row
data NoRow : Piece → Type 0 where
  no_blank : NoRow blank
  no_comment : {n d : ℕ} → NoRow (comment n d)
  no_refused : {why : Lexical} {p d : ℕ} → NoRow (refused why p d)

if_no_row : (t : Bool) {p q : Piece} → NoRow p → NoRow q → NoRow (cond t p q)
if_no_row true h i = h
if_no_row false h i = i

line_no_row : (s : List ℕ) → NoRow (line_comment s)
unfolding line_comment
line_no_row s = if_no_row (ltb (front not_newline s) (length s)) no_comment no_comment

block_no_row : (s : List ℕ) → NoRow (block_comment s)
unfolding block_comment
block_no_row s = if_no_row (ltb (before_close (drop 2 s)) (length (drop 2 s))) no_comment no_refused

slashed_no_row : (b x : ℕ) (s : List ℕ) (p q : Bool) → eqb x 47 ≡ p → eqb x 42 ≡ q → (p || q) ≡ true → NoRow (slashed (b ∷ x ∷ s))
unfolding slashed
slashed_no_row b x s true q e f h = rw e (line_no_row (b ∷ x ∷ s))
slashed_no_row b x s false true e f h = rw (e, f) (block_no_row (b ∷ x ∷ s))
slashed_no_row b x s false false e f h = absurd (true≢false (sym h))

opens_no_row : (b : ℕ) (s : List ℕ) → opens (b ∷ s) ≡ true → NoRow (piece (b ∷ s))
unfolding opens slash_or_star piece beginning
opens_no_row b s h = by s (is_blank b) refl (eqb b 47) refl h
  where
    by : (s : List ℕ) (p : Bool) → is_blank b ≡ p → (q : Bool) → eqb b 47 ≡ q → (p || (q && slash_or_star s)) ≡ true → NoRow (piece (b ∷ s))
    by s true e q f i = rw e no_blank
    by [] false e true f i = absurd (true≢false (sym i))
    by (x ∷ s) false e true f i = rw (e, f) (slashed_no_row b x s (eqb x 47) (eqb x 42) refl refl i)
    by s false e false f i = absurd (true≢false (sym i))

-- the scan from a place on, as the rules read it
rest_read : {T s : List ℕ} {m : ℕ} (c : ℕ) → At T s m → rest T c m ≡ read (place_at T) c 0 m s
unfolding rest
rest_read {T} {s} {m} c d = same_read (place_at T) (drop m T) c m ∙ ap (read (place_at T) c 0 m) d.text

pub opens_none : (T s : List ℕ) (m b c : ℕ) → At T (b ∷ s) m → opens (b ∷ s) ≡ true → from m (read_rows (rest T c m)) ≡ []
unfolding read
opens_none T s m b c d h = rw (rest_read c d) (by refl (opens_no_row b s h)).none
  where
    by : {p : Piece} → piece (b ∷ s) ≡ p → NoRow p → None T m (read (place_at T) c 0 m (b ∷ s))
    by e no_blank = rw (read, e) (read_none T m s c 0 (suc m) (omega arith))
    by e (no_comment {n} {d}) = rw (read, e) (read_none T m s (suc c) (pred n) (suc m) (omega arith))
    by e (no_refused {why} {p} {d}) = rw (read, e) (stops_none T m why _ _)

-- ---- where a row starts

-- a reading whose first row tells of c comments
unfoldable pub recount : ℕ → Reading → Reading
recount c (put r l) = put (with_comments c r) l
recount c ends = ends
recount c (stops why p d) = stops why p d

pub recount_rows : (c : ℕ) (l : Reading) → read_rows (recount c l) ≡ recounted c (read_rows l)
unfolding recount read_rows recounted
recount_rows c (put r l) = refl
recount_rows c ends = refl
recount_rows c (stops why p d) = refl

pub recount_ending : (c : ℕ) (l : Reading) → read_ending (recount c l) ≡ read_ending l
unfolding recount read_ending
recount_ending c (put r l) = refl
recount_ending c ends = refl
recount_ending c (stops why p d) = refl

pub starts_recounted : {m : ℕ} (c : ℕ) {rs : List Row} → Starts m rs → Starts m (recounted c rs)
unfolding recounted with_comments
starts_recounted c (first e) = first e
starts_recounted c (later s) = later s

module _ (X : List ℕ) (m : ℕ) where
  none_starts : {l : Reading} → None X m l → Starts m (read_rows l) → ⊥
  unfolding some
  none_starts n s = true≢false (sym (starts_some s) ∙ ap some n.none)

  recounts : (s : List ℕ) (c c' : ℕ) → Starts m (read_rows (read (place_at X) c 0 m s))
      → read (place_at X) c' 0 m s ≡ recount c' (read (place_at X) c 0 m s)
  unfolding read recount with_comments eof_row row_at
  recounts [] c c' h = refl
  recounts (b ∷ s) c c' h = by (piece (b ∷ s)) refl h
    where
      by : (p : Piece) → piece (b ∷ s) ≡ p → Starts m (read_rows (read (place_at X) c 0 m (b ∷ s)))
          → read (place_at X) c' 0 m (b ∷ s) ≡ recount c' (read (place_at X) c 0 m (b ∷ s))
      by blank e h = absurd (none_starts (read_none X m s c 0 (suc m) (omega arith)) (rw (read, e) at h))
      by (comment n d) e h = absurd (none_starts (read_none X m s (suc c) (pred n) (suc m) (omega arith)) (rw (read, e) at h))
      by (row kind n bits d) e h = rw (read, e)
      by (refused why p d) e h = rw (read, e)

-- Where a row starts at m, a scan from there behind other comments differs in that row's count alone.
pub rest_recount : (T : List ℕ) (m c c' : ℕ) → Starts m (read_rows (rest T c m)) → rest T c' m ≡ recount c' (rest T c m)
rest_recount T m c c' h =
    let d : At T (drop m T) m = record { text = refl } in
    rest_read c' d ∙ recounts T m (drop m T) c c' (rw (rest_read c d) at h) ∙ ap (recount c') (sym (rest_read c d))
