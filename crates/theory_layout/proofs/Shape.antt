-- What a row at the front of bytes can be: a word, a number, a string or a sign.
use mathlib.Core.Path.{◌≡◌, refl, sym, ap, ◌∙◌, subst}
use mathlib.Core.Bool.{Bool, true, false, cond, not, ◌&&◌, ◌||◌, true≢false}
use mathlib.Core.List.{List, [], ◌∷◌, ◌++◌}
use Prim.Native.Nat.{ℕ, zero, suc, ◌+◌, ◌-◌, ◌≤◌, ◌<◌}
use native.Mathlib.Omega.{arith}
use lib.Dec.{eqb, leb, ltb}
use lib.ListN.{length, take, drop, get_or}
use borrow.Author.Tests.{leb-true, eq-eqb}
use Rattle.rules.specs.declared.Lexical.{Lexical}
use Rattle.rules.specs.declared.Lexical.TheVariants.{OpenString, BadEscape}
use Rattle.laws.proofs.Tests.{both_true, either}
use Rattle.rules.specs.Text.{front, not_newline, is_blank}
use Rattle.rules.specs.Kinds
use Rattle.rules.specs.Kinds.{Spelt, Identifier, StringLiteral, Number, Eof, reserved, signs, same_bytes, kind_in, is_made}
use Rattle.rules.specs.Rows.{bits_of}
use Rattle.rules.specs.Lex
use Rattle.rules.specs.Lex.{Piece, blank, comment, row, refused, piece, beginning, line_comment, before_close, block_comment, is_digit, is_letter, is_word, word, is_hex_digit, spelt, largest, number_of, decimal, hex, number, is_escape, string, is_lone, maybe_two, single, front_two, sign, slashed, dashed}

-- the kinds that have one spelling: reserved words and signs
unfoldable pub is_fixed : ℕ → Bool
is_fixed k = is_made k && not ((eqb k Identifier || eqb k StringLiteral) || (eqb k Number || eqb k Eof))

pub data Shape (s : List ℕ) : Piece → Type 0 where
  a_word : is_letter (get_or s 0 0) ≡ true
      → Shape s (row (kind_in reserved Identifier (take (front is_word s) s)) (front is_word s) 0 (front is_word s))
  a_number : {n v d : ℕ} (negative : Bool) → v ≤ largest → Shape s (row Number n (bits_of negative v) d)
  a_string : {n : ℕ} → Shape s (row StringLiteral (n + 1) 0 n)
  a_sign : {k n d : ℕ} → is_fixed k ≡ true → Shape s (row k n 0 d)
  no_row : {p : Piece} → ((k n v d : ℕ) → p ≡ row k n v d → ⊥) → Shape s p

not_blank : (k n v d : ℕ) → blank ≡ row k n v d → ⊥
not_blank k n v d e = let z : ◌≡◌ {A = ℕ} 0 1 = cc in absurd (omega arith)

not_comment : (m x k n v d : ℕ) → comment m x ≡ row k n v d → ⊥
not_comment m x k n v d e = let z : ◌≡◌ {A = ℕ} 0 1 = cc in absurd (omega arith)

not_refused : (why : Lexical) (q x k n v d : ℕ) → refused why q x ≡ row k n v d → ⊥
not_refused why q x k n v d e = let z : ◌≡◌ {A = ℕ} 0 1 = cc in absurd (omega arith)

-- ---- tables

-- a kind of a table that has a property, or the one that stands for none
in_table : (C : ℕ → Type 0) (e : Spelt) (es : List Spelt) (d : ℕ) (w : List ℕ) → C e.kind → C (kind_in es d w) → C (kind_in (e ∷ es) d w)
unfolding kind_in
in_table C e es d w x y = go (same_bytes e.spelling w)
  where
    go : (b : Bool) → C (elim b [ true ↦ e.kind | false ↦ kind_in es d w ])
    go true = x
    go false = y

nothing_in : (C : ℕ → Type 0) (d : ℕ) (w : List ℕ) → C d → C (kind_in [] d w)
unfolding kind_in
nothing_in C d w x = x

-- a property that every kind of a table has, computed
unfoldable all_in : (ℕ → Bool) → List Spelt → Bool
all_in p [] = true
all_in p (e ∷ es) = p e.kind && all_in p es

all_in_lem : (p : ℕ → Bool) (es : List Spelt) (d : ℕ) (w : List ℕ) → all_in p es ≡ true → p d ≡ true → p (kind_in es d w) ≡ true
unfolding all_in
all_in_lem p [] d w h x = nothing_in (λ k. p k ≡ true) d w x
all_in_lem p (e ∷ es) d w h x =
    in_table (λ k. p k ≡ true) e es d w (both_true (p e.kind) (all_in p es) h).0 (all_in_lem p es d w (both_true (p e.kind) (all_in p es) h).1 x)

-- a sign's kind is fixed, or none
sign_fixed : (w : List ℕ) → eqb (kind_in signs Eof w) Eof ≡ false → is_fixed (kind_in signs Eof w) ≡ true
unfolding all_in signs is_fixed is_made
sign_fixed w e =
    either (is_fixed (kind_in signs Eof w)) (eqb (kind_in signs Eof w) Eof) (all_in_lem (λ k. is_fixed k || eqb k Eof) signs Eof w refl refl) (λ x. x)
    (λ x. absurd (true≢false (sym x ∙ e)))

-- a word's kind is fixed, or it is an identifier
pub word_fixed : (w : List ℕ) → is_fixed (kind_in reserved Identifier w) || eqb (kind_in reserved Identifier w) Identifier ≡ true
unfolding all_in reserved is_fixed is_made
word_fixed w = all_in_lem (λ k. is_fixed k || eqb k Identifier) reserved Identifier w refl refl

-- ---- pieces

module _ {s : List ℕ} where
  if_shape : (b : Bool) {p q : Piece} → (b ≡ true → Shape s p) → (b ≡ false → Shape s q) → Shape s (cond b p q)
  if_shape true x y = x refl
  if_shape false x y = y refl

  single_shape : (b d : ℕ) → Shape s (single b d)
  unfolding single
  single_shape b d =
      if_shape (is_lone b) (λ e. no_row (not_refused _ 0 d)) (λ e.
      if_shape (eqb (kind_in signs Kinds.Eof (b ∷ [])) Kinds.Eof) (λ f. no_row (not_refused _ 0 d)) (λ f. a_sign (sign_fixed (b ∷ []) f)))

  sign_shape : (u : List ℕ) → Shape s (sign u)
  unfolding sign
  sign_shape u =
      if_shape (maybe_two (get_or u 0 0))
      (λ e. if_shape (eqb (kind_in signs Kinds.Eof (front_two u)) Kinds.Eof) (λ f. single_shape (get_or u 0 0) 1) (λ f. a_sign (sign_fixed (front_two u) f)))
      (λ e. single_shape (get_or u 0 0) 0)

  number_of_shape : (negative : Bool) (n v : ℕ) → Shape s (number_of negative n v)
  unfolding number_of
  number_of_shape negative n v = if_shape (leb v largest) (λ e. a_number negative (leb-true v largest e)) (λ e. no_row (not_refused _ 0 n))

  number_shape : (negative : Bool) (m : ℕ) (u : List ℕ) → Shape s (number negative m u)
  unfolding number hex decimal
  number_shape negative m u =
      if_shape (eqb (get_or u 0 0) 48 && eqb (get_or u 1 0) 120)
      (λ e. if_shape (eqb (front is_hex_digit (drop 2 u)) 0) (λ f. no_row (not_refused _ (m + 2) (m + 2)))
      (λ f. number_of_shape negative (m + 2 + front is_hex_digit (drop 2 u)) (spelt 16 0 (take (front is_hex_digit (drop 2 u)) (drop 2 u)))))
      (λ e. number_of_shape negative (m + front is_digit u) (spelt 10 0 (take (front is_digit u) u)))

  string_shape : (escaped : Bool) (n : ℕ) (u : List ℕ) → Shape s (string escaped n u)
  unfolding string
  string_shape escaped n [] = no_row (not_refused _ n n)
  string_shape false n (b ∷ u) = by (eqb b 34) (eqb b 10) (eqb b 92) (string_shape true (suc n) u) (string_shape false (suc n) u)
    where
      by : (x y z : Bool) → Shape s (string true (suc n) u) → Shape s (string false (suc n) u) → Shape s (elim x [
        | true ↦ row StringLiteral (n + 1) 0 n
        | false ↦ elim y [
          | true ↦ refused OpenString n n
          | false ↦ elim z [ true ↦ string true (suc n) u | false ↦ string false (suc n) u ]
        ]
      ])
      by true y z f g = a_string
      by false true z f g = no_row (not_refused _ n n)
      by false false true f g = f
      by false false false f g = g
  string_shape true n (b ∷ u) = by (is_escape b) (string_shape false (suc n) u)
    where
      by : (x : Bool) → Shape s (string false (suc n) u) → Shape s (elim x [ true ↦ string false (suc n) u | false ↦ refused BadEscape (n - 1) n ])
      by true f = f
      by false f = no_row (not_refused _ (n - 1) n)

  line_shape : (u : List ℕ) → Shape s (line_comment u)
  unfolding line_comment
  line_shape u =
      if_shape (ltb (front not_newline u) (length u)) (λ f. no_row (not_comment (front not_newline u + 1) (front not_newline u)))
      (λ f. no_row (not_comment (length u) (length u)))

  block_shape : (u : List ℕ) → Shape s (block_comment u)
  unfolding block_comment
  block_shape u =
      let n : ℕ = before_close (drop 2 u) in
      if_shape (ltb n (length (drop 2 u))) (λ f. no_row (not_comment (n + 4) (n + 3))) (λ f. no_row (not_refused _ 2 (length u)))

  slashed_shape : (u : List ℕ) → Shape s (slashed u)
  unfolding slashed
  slashed_shape u =
      if_shape (eqb (get_or u 1 0) 47) (λ e. line_shape u) (λ e. if_shape (eqb (get_or u 1 0) 42) (λ f. block_shape u) (λ f. sign_shape u))

  dashed_shape : (u : List ℕ) → Shape s (dashed u)
  unfolding dashed
  dashed_shape u = if_shape (is_digit (get_or u 1 0)) (λ e. number_shape true 1 (drop 1 u)) (λ e. sign_shape u)

-- The piece at the front is one of these.
pub shape : (s : List ℕ) → Shape s (piece s)
unfolding piece beginning word
shape s =
    if_shape (is_blank (get_or s 0 0)) (λ e. no_row not_blank) (λ e.
    if_shape (eqb (get_or s 0 0) 47) (λ e. slashed_shape s) (λ e.
    if_shape (is_letter (get_or s 0 0)) (λ e. a_word e) (λ e.
    if_shape (is_digit (get_or s 0 0)) (λ e. number_shape false 0 s) (λ e.
    if_shape (eqb (get_or s 0 0) 45) (λ e. dashed_shape s) (λ e.
    if_shape (eqb (get_or s 0 0) 34) (λ e. string_shape false 1 (drop 1 s)) (λ e. sign_shape s))))))
