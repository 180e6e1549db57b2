-- The rows of a text that is scanned to its end are read as themselves, each in front of a blank: what they spell is what they are.
use mathlib.Core.Path.{◌≡◌, refl, sym, ap, ◌∙◌, subst}
use mathlib.Core.Bool.{Bool, true, false, cond, ◌||◌, true≢false}
use mathlib.Core.List.{List, [], ◌∷◌, ◌++◌, map}
use Prim.Native.Nat.{ℕ, zero, suc, pred, ◌+◌, ◌-◌, ◌*◌, ◌/◌, ◌%◌, ◌^◌, ◌≤◌, ◌<◌}
use native.Mathlib.Numerals.{add-one}
use native.Mathlib.Omega.{arith}
use lib.Dec.{eqb}
use lib.ListN.{length, take, drop, get_or, length-drop, take-append-drop}
use lib.Seq.{drop-drop, take-add, length-take-le, get_or-take}
use borrow.Author.Tests.{eqb-true}
use Rattle.rules.specs.declared.Cursor.{Cursor}
use Rattle.rules.specs.Outcomes.{halt}
use Rattle.std.specs.declared.option.Option.TheVariants.{None, Some}
use Rattle.rules.specs.declared.Lexical.{Lexical}
use Rattle.rules.specs.Text.{front, place_at, valid}
use Rattle.rules.specs.Kinds.{Identifier, StringLiteral, Number, Eof, reserved, kind_in}
use Rattle.rules.specs.Rows.{Row, row_at, eof_row, bits_of, spelling, value_bits}
use Rattle.rules.specs.Lex.{Piece, blank, comment, row, refused, piece, is_letter, is_word, decided_at, known, item}
use Rattle.rules.specs.Scan.{Reading, put, ends, stops, read, scan, read_rows, read_ending}
use Rattle.rules.specs.Tree.{Tok, sign, name, string, value, tok_of}
use Rattle.laws.proofs.Tests.{either}
use Rattle.laws.proofs.Fronts.{front_in, front_out, front_le}
use Rattle.laws.proofs.Valid.{valid_behind}
use Rattle.theory_machine.proofs.Spans.{Spans, row_spans}
use Rattle.theory_machine.proofs.Same.{enough_item, piece_spans}
use Rattle.theory_edits.proofs.Low.{Between, Parts, part, parts_end, parts_stop, rows_between}
use Rattle.theory_layout.specs.Back.{tokens_of}
use Rattle.theory_layout.proofs.Scanned.{Good, Goods, no_more, and}
use Rattle.theory_layout.proofs.Shape.{is_fixed, Shape, a_word, a_number, a_string, a_sign, no_row, shape, word_fixed}
use Rattle.theory_layout.proofs.Goods.{IsName, IsString, good_name, good_string, good_value, good_sign, fixed_apart}

-- ---- rows and the pieces that they are

module _ (t : List ℕ) where
  pub data Rowed : Reading → Type 0 where
    rowed : (c k kind n bits d : ℕ) {l : Reading} → piece (drop k t) ≡ row kind n bits d → k < length t → Rowed l
        → Rowed (put (row_at (place_at t k) c kind (k + n) bits) l)
    rowed_end : (k c : ℕ) → Rowed (put (eof_row (place_at t k) c) ends)
    rowed_stop : {why : Lexical} {p : Cursor} {d : ℕ} → Rowed (stops why p d)

  inside : (k b : ℕ) (s : List ℕ) → drop k t ≡ b ∷ s → k < length t
  inside k b s e = omega (arith, sym (length-drop k t), ap length e)

  next : (k b : ℕ) (s : List ℕ) → drop k t ≡ b ∷ s → drop (suc k) t ≡ s
  next k b s e = ap (λ (n : ℕ). drop n t) (sym (add-one k)) ∙ sym (drop-drop 1 k t) ∙ ap (drop 1) e

  rowed_read : (s : List ℕ) (c n k : ℕ) → drop k t ≡ s → Rowed (read (place_at t) c n k s)
  unfolding read
  rowed_read [] c n k e = rowed_end k c
  rowed_read (b ∷ s) c (suc n) k e = rowed_read s c n (suc k) (next k b s e)
  rowed_read (b ∷ s) c zero k e = go (piece (b ∷ s)) refl (λ c n. rowed_read s c n (suc k) (next k b s e))
    where
      go : (p : Piece) → piece (b ∷ s) ≡ p → ((c n : ℕ) → Rowed (read (place_at t) c n (suc k) s)) → Rowed (elim p [
        | blank ↦ read (place_at t) c zero (suc k) s
        | comment n d ↦ read (place_at t) (suc c) (pred n) (suc k) s
        | row kind n bits d ↦ put (row_at (place_at t k) c kind (k + n) bits) (read (place_at t) zero (pred n) (suc k) s)
        | refused why q d ↦ stops why (place_at t (k + q)) (k + d)
      ])
      go blank f ih = ih c zero
      go (comment n d) f ih = ih (suc c) (pred n)
      go (row kind n bits d) f ih = rowed c k kind n bits d (ap piece e ∙ f) (inside k b s e) (ih zero (pred n))
      go (refused why q d) f ih = rowed_stop

-- ---- one row

front_take : (p : ℕ → Bool) (s : List ℕ) → front p (take (front p s) s) ≡ length (take (front p s) s)
unfolding front
front_take p [] = refl
front_take p (b ∷ s) = go (p b) refl (front_take p s)
  where
    go : (q : Bool) → p b ≡ q → front p (take (front p s) s) ≡ length (take (front p s) s)
        → front p (take (front p (b ∷ s)) (b ∷ s)) ≡ length (take (front p (b ∷ s)) (b ∷ s))
    go true e ih = rw (front_in p b s e, front_in p b (take (front p s) s) e) (ap suc ih)
    go false e ih = rw (front_out p b s e)

module _ (t : List ℕ) (k n : ℕ) where
  spells : (c kind bits : ℕ) → spelling t (row_at (place_at t k) c kind (k + n) bits) ≡ take n (drop k t)
  unfolding spelling row_at place_at
  spells c kind bits =
      let e : k + n - k ≡ n = omega arith in
      ap (λ (m : ℕ). take m (drop k t)) e

  -- its bytes are valid, where it starts and ends between characters
  part_valid : Between t k → Between t (k + n) → valid (take n (drop k t)) ≡ true
  part_valid a b = valid_behind (take k t) (take n (drop k t)) a (rw (← take-add k n t) b)

-- a row's length lies in the bytes
reach : (s : List ℕ) (kind n bits d : ℕ) → 0 < length s → piece s ≡ row kind n bits d → (0 < n) × (n ≤ length s)
reach [] kind n bits d h e = absurd (omega arith)
reach (b ∷ s) kind n bits d h e = go (subst (λ (p : Piece). Spans 1 0 (suc (length s)) (known p)) e (piece_spans b s))
  where
    go : Spans 1 0 (suc (length s)) (known (row kind n bits d)) → (0 < n) × (n ≤ suc (length s))
    go (row_spans _ _ _ _ r) = (r.long, r.inside)

-- a word's bytes are a name, unless they are reserved
word_name : (s : List ℕ) → 0 < front is_word s → is_letter (get_or s 0 0) ≡ true
    → kind_in reserved Identifier (take (front is_word s) s) ≡ Identifier → IsName (take (front is_word s) s)
word_name s h l f = record {
  letter = rw (get_or-take (front is_word s) s 0 0 h) l;
  letters = front_take is_word s;
  free = f;
}

whole_item : (s : List ℕ) (p : Piece) → 0 < length s → piece s ≡ p → item true s ≡ known p
unfolding item
whole_item [] p h e = absurd (omega arith)
whole_item (b ∷ s) p h e = ap known e

-- a string's bytes show it by themselves
string_shown : (s : List ℕ) (n : ℕ) → 0 < length s → piece s ≡ row StringLiteral (n + 1) 0 n → valid (take (n + 1) s) ≡ true
    → IsString (take (n + 1) s)
unfolding decided_at
string_shown s n h e v = record {
  some = omega (arith, long);
  decided = n;
  shown = rw long (enough_item true w (drop (n + 1) s) p (omega (arith, long)) (rw (take-append-drop (n + 1) s) (whole_item s p h e)));
  valid = v;
}
  where
    w : List ℕ
    w = take (n + 1) s

    p : Piece
    p = row StringLiteral (n + 1) 0 n

    long : length w ≡ n + 1
    long = length-take-le (n + 1) s (reach s StringLiteral (n + 1) 0 n h e).1

-- what a row is, by its kind
module _ (t : List ℕ) (r : Row) where
  tok_name : r.kind ≡ Identifier → tok_of t r ≡ name (spelling t r)
  unfolding tok_of spelling
  tok_name e = rw e

  tok_string : r.kind ≡ StringLiteral → tok_of t r ≡ string (spelling t r)
  unfolding tok_of spelling
  tok_string e = rw e

  tok_value : r.kind ≡ Number → tok_of t r ≡ value (value_bits r)
  unfolding tok_of value_bits
  tok_value e = rw e

  tok_sign : is_fixed r.kind ≡ true → tok_of t r ≡ sign r.kind
  unfolding tok_of
  tok_sign e = rw ((fixed_apart r.kind e).name, (fixed_apart r.kind e).string, (fixed_apart r.kind e).number)

module _ (t s : List ℕ) (h : 0 < length s) where
  -- a row that stands for the piece at the front of s is read as itself
  row_good : (kind n bits d : ℕ) (r : Row) → Shape s (row kind n bits d) → piece s ≡ row kind n bits d → valid (take n s) ≡ true
      → r.kind ≡ kind → spelling t r ≡ take n s → value_bits r ≡ bits → Good (tok_of t r)
  row_good kind n bits d r (a_word l) e v a b c =
      either (is_fixed (kind_in reserved Identifier (take (front is_word s) s))) (eqb (kind_in reserved Identifier (take (front is_word s) s)) Identifier)
      (word_fixed (take (front is_word s) s))
      (λ f. subst Good (sym (tok_sign t r (rw a f))) (good_sign r.kind (rw a f)))
      (λ f.
      let i : kind_in reserved Identifier (take (front is_word s) s) ≡ Identifier = eqb-true _ Identifier f in
      subst Good (sym (tok_name t r (a ∙ i) ∙ ap name b)) (good_name _ (word_name s (reach s _ (front is_word s) 0 (front is_word s) h e).0 l i)))
  row_good kind n bits d r (a_number {v = v} negative l) e w a b c = subst Good (sym (tok_value t r a ∙ ap value c)) (good_value negative v l)
  row_good kind n bits d r (a_string {n = m}) e v a b c = subst Good (sym (tok_string t r a ∙ ap string b)) (good_string _ (string_shown s m h e v))
  row_good kind n bits d r (a_sign f) e v a b c = subst Good (sym (tok_sign t r (rw a f))) (good_sign r.kind (rw a f))
  row_good kind n bits d r (no_row f) e v a b c = absurd (f kind n bits d refl)

-- ---- all rows

-- the tokens of a reading that comes to the text's end
pub record Ready (t : List ℕ) (l : Reading) : Type 0 where
  pub toks : List Tok
  pub same : map (tok_of t) (read_rows l) ≡ toks ++ (sign Eof ∷ [])
  pub good : Goods toks

value_row : (p : Cursor) (c kind e bits : ℕ) → value_bits (row_at p c kind e bits) ≡ bits
unfolding value_bits row_at
value_row p c kind e bits = omega arith

kind_row : (p : Cursor) (c kind e bits : ℕ) → (row_at p c kind e bits).kind ≡ kind
unfolding row_at
kind_row p c kind e bits = refl

start_row : (t : List ℕ) (k c kind e bits : ℕ) → ((row_at (place_at t k) c kind e bits).start ≡ k) × ((row_at (place_at t k) c kind e bits).end ≡ e)
unfolding row_at place_at
start_row t k c kind e bits = (refl, refl)

eof_token : (t : List ℕ) (p : Cursor) (c : ℕ) → tok_of t (eof_row p c) ≡ sign Eof
unfolding tok_of eof_row row_at
eof_token t p c = refl

not_none : {why : Lexical} {p : Cursor} → Some (halt why p) ≡ None → ⊥
not_none e = let z : ◌≡◌ {A = ℕ} 0 1 = cc in absurd (omega arith)

module _ (t : List ℕ) (v : valid t ≡ true) where
  ready : {l : Reading} → Rowed t l → Parts t v l → read_ending l ≡ None → Ready t l
  unfolding read_rows read_ending
  ready (rowed c k kind n bits d {l = l} e h w) (part f g p) x =
      let i : Ready t l = ready w p x in
      let r : Row = row_at (place_at t k) c kind (k + n) bits in
      record {
        toks = tok_of t r ∷ i.toks;
        same = ap (λ (z : List Tok). tok_of t r ∷ z) i.same;
        good = and
            (row_good t (drop k t) (omega (arith, length-drop k t)) kind n bits d r (subst (Shape (drop k t)) e (shape (drop k t))) e
            (part_valid t k n (rw (start_row t k c kind (k + n) bits).0 at f) (rw (start_row t k c kind (k + n) bits).1 at g))
            (kind_row (place_at t k) c kind (k + n) bits) (spells t k n c kind bits) (value_row (place_at t k) c kind (k + n) bits))
            i.good;
      }
  ready (rowed_end k c) p x = record { toks = []; same = ap (λ (z : Tok). z ∷ []) (eof_token t (place_at t k) c); good = no_more }
  ready rowed_stop p x = absurd (not_none x)

  -- The tokens of a text that is scanned to its end are read as themselves, and then comes Eof.
  pub scanned_good : read_ending (scan t) ≡ None → Ready t (scan t)
  unfolding scan
  scanned_good x = ready (rowed_read t t 0 0 0 refl) (rows_between t v) x
