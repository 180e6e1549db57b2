-- A scan of laid-out rows gives these rows back, if each of them is read as itself where a blank or a newline stands behind it.
use mathlib.Core.Path.{◌≡◌, refl, sym, ap, ◌∙◌, subst}
use mathlib.Core.Bool.{Bool, true, false, cond, ◌||◌}
use mathlib.Core.List.{List, [], ◌∷◌, ◌++◌, map, append_assoc, append-nil}
use Prim.Native.Nat.{ℕ, zero, suc, pred, ◌+◌, ◌-◌, ◌*◌, ◌/◌, ◌%◌, ◌^◌, ◌≤◌, ◌<◌}
use native.Mathlib.Nat.{add-zero}
use native.Mathlib.Omega.{arith}
use lib.Dec.{eqb}
use lib.ListN.{length, take, drop, length-append}
use lib.Seq.{take-append_seam, drop-append_seam}
use borrow.Author.Tests.{ne_eqb}
use Rattle.rules.specs.declared.Cursor.{Cursor}
use Rattle.rules.specs.Outcomes.{Ending}
use Rattle.std.specs.declared.option.Option.TheVariants.{None}
use Rattle.rules.specs.Text.{byte, is_blank, place_at, valid}
use Rattle.rules.specs.Kinds.{Identifier, StringLiteral, Number, Eof}
use Rattle.rules.specs.Rows.{Row, row_at, eof_row, spelling, value_bits}
use Rattle.rules.specs.Lex.{Piece, blank, comment, row, refused, piece, beginning}
use Rattle.rules.specs.Scan.{Reading, put, ends, stops, read, scan, read_rows, read_ending}
use Rattle.rules.specs.Tree.{Tok, sign, name, string, value, kind_of, spelling_of, bits_in, tok_of}
use Rattle.rules.specs.Calls.{tokens}
use Rattle.laws.proofs.Valid.{valid_both, valid_nil, valid_one}
use Rattle.rules_layout.specs.Bytes.{spelled, ends_line, behind, row_bytes, rows_bytes}
use Rattle.theory_layout.specs.Back.{tokens_of}

-- a row's byte behind
gap_blank : (k : ℕ) → is_blank (behind k) ≡ true
unfolding behind is_blank
gap_blank k = go (ends_line k)
  where
    go : (b : Bool) → is_blank (cond b 10 32) ≡ true
    go true = refl
    go false = refl

-- a token that is read as itself in front of a blank, and is no Eof
pub record Good (x : Tok) : Type 0 where
  pub some : 0 < length (spelled x)
  pub decided : ℕ
  pub reads : (b : ℕ) (s : List ℕ) → is_blank b ≡ true → piece (spelled x ++ (b ∷ s)) ≡ row (kind_of x) (length (spelled x)) (bits_in x) decided
  pub more : eqb (kind_of x) Eof ≡ false
  -- what the row says is what the token is
  pub named : (t : List ℕ) (r : Row) → r.kind ≡ kind_of x → spelling t r ≡ spelled x → value_bits r ≡ bits_in x → tok_of t r ≡ x
  pub valid : valid (spelled x) ≡ true

pub data Goods : List Tok → Type 0 where
  no_more : Goods []
  and : {x : Tok} {xs : List Tok} → Good x → Goods xs → Goods (x ∷ xs)

blank_piece : (b : ℕ) (s : List ℕ) → is_blank b ≡ true → piece (b ∷ s) ≡ blank
unfolding piece beginning
blank_piece b s e = rw e

laid_row : (x : Tok) → Good x → row_bytes x ≡ spelled x ++ (behind (kind_of x) ∷ [])
unfolding row_bytes
laid_row x g = rw g.more

laid_length : (x : Tok) → Good x → length (row_bytes x) ≡ length (spelled x) + 1
laid_length x g = ap length (laid_row x g) ∙ length-append (spelled x) (behind (kind_of x) ∷ [])

module _ (pos : ℕ → Cursor) where
  -- bytes of the piece that was read last
  skip : (u s : List ℕ) (c k : ℕ) → read pos c (length u) k (u ++ s) ≡ read pos c 0 (k + length u) s
  unfolding read
  skip [] s c k = ap (λ (n : ℕ). read pos c 0 n s) (sym (add-zero k))
  skip (b ∷ u) s c k = skip u s c (suc k) ∙ ap (λ (n : ℕ). read pos c 0 n s) (omega arith)

  -- by the piece at the front
  by_piece : (b : ℕ) (s : List ℕ) (c k : ℕ) (l : Reading) (p : Piece) → piece (b ∷ s) ≡ p
      → elim p [
        | blank ↦ read pos c zero (suc k) s
        | comment n d ↦ read pos (suc c) (pred n) (suc k) s
        | row kind n bits d ↦ put (row_at (pos k) c kind (k + n) bits) (read pos zero (pred n) (suc k) s)
        | refused why q d ↦ stops why (pos (k + q)) (k + d)
      ] ≡ l → read pos c 0 k (b ∷ s) ≡ l
  unfolding read
  by_piece b s c k l p e h =
      subst
      (λ (q : Piece). elim q [
        | blank ↦ read pos c zero (suc k) s
        | comment n d ↦ read pos (suc c) (pred n) (suc k) s
        | row kind n bits d ↦ put (row_at (pos k) c kind (k + n) bits) (read pos zero (pred n) (suc k) s)
        | refused why p d ↦ stops why (pos (k + p)) (k + d)
      ] ≡ l)
      (sym e) h

  over_blank : (b : ℕ) (s : List ℕ) (c k : ℕ) → is_blank b ≡ true → read pos c 0 k (b ∷ s) ≡ read pos c 0 (suc k) s
  over_blank b s c k e = by_piece b s c k (read pos c 0 (suc k) s) blank (blank_piece b s e) refl

  -- a row at the front
  over_row : (u s : List ℕ) (c k kind bits d : ℕ) → 0 < length u → piece (u ++ s) ≡ row kind (length u) bits d
      → read pos c 0 k (u ++ s) ≡ put (row_at (pos k) c kind (k + length u) bits) (read pos 0 0 (k + length u) s)
  over_row [] s c k kind bits d h e = absurd (omega arith)
  over_row (b ∷ u) s c k kind bits d h e =
      by_piece b (u ++ s) c k _ (row kind (suc (length u)) bits d) e
      (ap (put (row_at (pos k) c kind (k + suc (length u)) bits)) (skip u s 0 (suc k) ∙ ap (λ (n : ℕ). read pos 0 0 n s) (omega arith)))

  -- a laid-out row at the front
  over_laid : (x : Tok) (s : List ℕ) (c k : ℕ) → Good x
      → read pos c 0 k (row_bytes x ++ s)
      ≡ put (row_at (pos k) c (kind_of x) (k + length (spelled x)) (bits_in x)) (read pos 0 0 (k + length (row_bytes x)) s)
  over_laid x s c k g =
      let u : List ℕ = spelled x in
      let b : ℕ = behind (kind_of x) in
      ap (λ (l : List ℕ). read pos c 0 k (l ++ s)) (laid_row x g)
      ∙ ap (read pos c 0 k) (append_assoc u (b ∷ []) s)
      ∙ over_row u (b ∷ s) c k (kind_of x) (bits_in x) g.decided g.some (g.reads b s (gap_blank (kind_of x)))
      ∙ ap (put (row_at (pos k) c (kind_of x) (k + length u) (bits_in x)))
      (over_blank b s 0 (k + length u) (gap_blank (kind_of x)) ∙ ap (λ (n : ℕ). read pos 0 0 n s) (omega (arith, laid_length x g)))

-- ---- what is read

module _ (t : List ℕ) where
  -- the row that is read of a token says that token
  row_says : (u v : List ℕ) (x : Tok) (c : ℕ) → t ≡ u ++ (row_bytes x ++ v) → Good x
      → tok_of t (row_at (place_at t (length u)) c (kind_of x) (length u + length (spelled x)) (bits_in x)) ≡ x
  unfolding row_at place_at spelling value_bits
  row_says u v x c e g = g.named t _ refl part (omega arith)
    where
      w : List ℕ
      w = spelled x

      part : take (length u + length w - length u) (drop (length u) t) ≡ w
      part =
          let n : length u + length w - length u ≡ length w = omega arith in
          rw (n, e, drop-append_seam u (row_bytes x ++ v), laid_row x g, append_assoc w (behind (kind_of x) ∷ []) v, take-append_seam w (behind (kind_of x) ∷ v))

  last_says : (u : List ℕ) (c : ℕ)
      → (read_ending (read (place_at t) c 0 (length u) []) ≡ None) × (map (tok_of t) (read_rows (read (place_at t) c 0 (length u) [])) ≡ sign Eof ∷ [])
  unfolding read read_rows read_ending eof_row row_at tok_of
  last_says u c = (refl, refl)

  -- one token in front of what is read
  step : (u : List ℕ) (x : Tok) (xs : List Tok) (c : ℕ) → Good x → t ≡ u ++ (row_bytes x ++ rows_bytes xs)
      → (read_ending (read (place_at t) 0 0 (length u + length (row_bytes x)) (rows_bytes xs)) ≡ None)
      × (map (tok_of t) (read_rows (read (place_at t) 0 0 (length u + length (row_bytes x)) (rows_bytes xs))) ≡ xs ++ (sign Eof ∷ []))
      → (read_ending (read (place_at t) c 0 (length u) (row_bytes x ++ rows_bytes xs)) ≡ None)
      × (map (tok_of t) (read_rows (read (place_at t) c 0 (length u) (row_bytes x ++ rows_bytes xs))) ≡ x ∷ (xs ++ (sign Eof ∷ [])))
  unfolding read_rows read_ending
  step u x xs c g e h =
      rw (over_laid (place_at t) x (rows_bytes xs) c (length u) g)
      (h.0, rw (row_says u (rows_bytes xs) x c e g, h.1))

  -- from any token on
  says : (u : List ℕ) (xs : List Tok) (c : ℕ) → t ≡ u ++ rows_bytes xs → Goods xs
      → (read_ending (read (place_at t) c 0 (length u) (rows_bytes xs)) ≡ None)
      × (map (tok_of t) (read_rows (read (place_at t) c 0 (length u) (rows_bytes xs))) ≡ xs ++ (sign Eof ∷ []))
  unfolding rows_bytes
  says u [] c e no_more = last_says u c
  says u (x ∷ xs) c e (and g gs) =
      let a : t ≡ (u ++ row_bytes x) ++ rows_bytes xs = e ∙ sym (append_assoc u (row_bytes x) (rows_bytes xs)) in
      let h : (read_ending (read (place_at t) 0 0 (length (u ++ row_bytes x)) (rows_bytes xs)) ≡ None)
      × (map (tok_of t) (read_rows (read (place_at t) 0 0 (length (u ++ row_bytes x)) (rows_bytes xs))) ≡ xs ++ (sign Eof ∷ [])) =
      says (u ++ row_bytes x) xs 0 a gs in
      step u x xs c g e (rw (length-append u (row_bytes x)) at h)

-- ---- a whole layout

behind_low : (k : ℕ) → behind k < 128
unfolding behind
behind_low k = go (ends_line k)
  where
    go : (b : Bool) → cond b 10 32 < 128
    go true = omega arith
    go false = omega arith

valid_rows : (xs : List Tok) → Goods xs → valid (rows_bytes xs) ≡ true
unfolding rows_bytes
valid_rows [] no_more = valid_nil
valid_rows (x ∷ xs) (and g gs) =
    valid_both (row_bytes x) (rows_bytes xs)
    (rw (laid_row x g) (valid_both (spelled x) (behind (kind_of x) ∷ []) g.valid (valid_one (behind (kind_of x)) (behind_low (kind_of x)))))
    (valid_rows xs gs)

-- Rows that are read as themselves are laid out as a text that scans to its end, and gives them back.
pub scans_back : (xs : List Tok) → Goods xs
    → (valid (rows_bytes xs) ≡ true) × (read_ending (scan (rows_bytes xs)) ≡ None) × (tokens_of (rows_bytes xs) ≡ xs ++ (sign Eof ∷ []))
unfolding scan tokens_of tokens
scans_back xs g =
    let h : (read_ending (read (place_at (rows_bytes xs)) 0 0 0 (rows_bytes xs)) ≡ None)
    × (map (tok_of (rows_bytes xs)) (read_rows (read (place_at (rows_bytes xs)) 0 0 0 (rows_bytes xs))) ≡ xs ++ (sign Eof ∷ [])) =
    says (rows_bytes xs) [] xs 0 refl g in
    (valid_rows xs g, h.0, h.1)
