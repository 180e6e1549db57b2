-- Laws of strings: how one goes on at an index of the text, that it is the rules' string, and that it stays in its line.
use mathlib.Core.Path.{◌≡◌, refl, ◌∙◌}
use mathlib.Core.Bool.{Bool, true, false, cond, not}
use mathlib.Core.List.{List, [], ◌∷◌}
use Prim.Native.Nat.{ℕ, suc, ◌+◌, ◌-◌, ◌≤◌, ◌<◌}
use native.Mathlib.Nat.{add-suc}
use native.Mathlib.Numerals.{add-one}
use native.Mathlib.Omega.{arith}
use lib.ListN.{length, drop, get_or, drop_of_length-le}
use lib.Seq.{drop-cons}
use lib.Dec.{eqb}
use borrow.Author.Tests.{ne_eqb}
use Rattle.rules.specs.Text.{front, not_newline}
use Rattle.rules.specs.Kinds.{StringLiteral}
use Rattle.rules.specs.Lex.{Piece, row, refused, is_escape, string}
use Rattle.rules.specs.declared.Lexical.TheVariants.{OpenString, BadEscape}
use Rattle.laws.proofs.Fronts.{met_in_line}
use Rattle.scan_runs.specs.Leaf.{Quoted, quoted_from}
use Rattle.std.proofs.Common.{Ok, Err}
use Rattle.scan_runs.specs.declared.Unclosed.TheVariants.{Open, Escape}

-- ---- at an index of the text

pub quoted_end : (q : Bool) (t : List ℕ) (i : ℕ) → length t ≤ i → quoted_from q i (drop i t) ≡ Err (Open i)
unfolding quoted_from
quoted_end true t i h = rw (drop_of_length-le t h)
quoted_end false t i h = rw (drop_of_length-le t h)

module _ (t : List ℕ) (i : ℕ) (h : i < length t) where
  pub quoted_close : get_or t i 0 ≡ 34 → quoted_from false i (drop i t) ≡ Ok i
  unfolding quoted_from
  quoted_close e = rw (drop-cons t i 0 h, e)

  pub quoted_line : get_or t i 0 ≡ 10 → quoted_from false i (drop i t) ≡ Err (Open i)
  unfolding quoted_from
  quoted_line e = rw (drop-cons t i 0 h, e)

  -- any other byte, which may be a backslash
  pub quoted_on : (get_or t i 0 ≡ 34 → ⊥) → (get_or t i 0 ≡ 10 → ⊥)
      → quoted_from false i (drop i t) ≡ quoted_from (eqb (get_or t i 0) 92) (i + 1) (drop (i + 1) t)
  unfolding quoted_from
  quoted_on a b = rw (drop-cons t i 0 h, add-one i) (rw (quoted_from, ne_eqb _ _ a, ne_eqb _ _ b) (by (eqb (get_or t i 0) 92)))
    where
      by : (q : Bool)
          → elim q as (λ _. Quoted) [ true ↦ quoted_from true (suc i) (drop (suc i) t) | false ↦ quoted_from false (suc i) (drop (suc i) t) ]
          ≡ quoted_from q (suc i) (drop (suc i) t)
      by true = refl
      by false = refl

  pub quoted_slash : get_or t i 0 ≡ 92 → quoted_from false i (drop i t) ≡ quoted_from true (i + 1) (drop (i + 1) t)
  unfolding quoted_from
  quoted_slash e = rw (drop-cons t i 0 h, add-one i, e)

  -- a backslash behind which the text ends
  pub quoted_cut : get_or t i 0 ≡ 92 → length t ≤ i + 1 → quoted_from false i (drop i t) ≡ Err (Open (i + 1))
  quoted_cut e k = quoted_slash e ∙ quoted_end true t (i + 1) k

  -- the byte behind a backslash
  pub quoted_escape : is_escape (get_or t i 0) ≡ true → quoted_from true i (drop i t) ≡ quoted_from false (i + 1) (drop (i + 1) t)
  unfolding quoted_from
  quoted_escape p = rw (drop-cons t i 0 h, add-one i) (rw (quoted_from, p))

  pub quoted_bad : is_escape (get_or t i 0) ≡ false → quoted_from true i (drop i t) ≡ Err (Escape (i - 1))
  unfolding quoted_from
  quoted_bad p = rw (drop-cons t i 0 h) (rw (quoted_from, p))

-- ---- the rules' string: a counts the bytes before the opening quote

unfoldable pub string_piece : ℕ → Quoted → Piece
string_piece a (Ok e) = row StringLiteral (e + 1 - a) 0 (e - a)
string_piece a (Err (Open e)) = refused OpenString (e - a) (e - a)
string_piece a (Err (Escape e)) = refused BadEscape (e - a) (e + 1 - a)

module _ (a : ℕ) where
  same : (n : ℕ) → n ≡ a + n - a
  same n = omega arith

  next : (n : ℕ) → n + 1 ≡ a + n + 1 - a
  next n = omega arith

  -- what is the same from the next byte on is the same from this byte on
  Same : Bool → ℕ → List ℕ → Type 0
  Same e n s = string e n s ≡ string_piece a (quoted_from e (a + n) s)

  pub string_quoted : (e : Bool) (n : ℕ) (s : List ℕ) → (e ≡ true → 0 < n) → string e n s ≡ string_piece a (quoted_from e (a + n) s)
  unfolding string quoted_from string_piece
  string_quoted e n [] h = rw (← same n)
  string_quoted false n (b ∷ s) h = pick (eqb b 34) (eqb b 10) (eqb b 92) (string_quoted true (suc n) s (λ _. omega arith)) (string_quoted false (suc n) s (λ _. omega arith))
    where
      pick : (p q r : Bool) →
          string true (suc n) s ≡ string_piece a (quoted_from true (a + suc n) s) →
          string false (suc n) s ≡ string_piece a (quoted_from false (a + suc n) s) →
          elim p as (λ _. Piece) [
            | true ↦ row StringLiteral (n + 1) 0 n
            | false ↦ elim q as (λ _. Piece) [
              | true ↦ refused OpenString n n
              | false ↦ elim r as (λ _. Piece) [ true ↦ string true (suc n) s | false ↦ string false (suc n) s ]
            ]
          ] ≡ string_piece a (elim p as (λ _. Quoted) [
            | true ↦ Ok (a + n)
            | false ↦ elim q as (λ _. Quoted) [
              | true ↦ Err (Open (a + n))
              | false ↦ elim r as (λ _. Quoted) [ true ↦ quoted_from true (suc (a + n)) s | false ↦ quoted_from false (suc (a + n)) s ]
            ]
          ])
      pick true q r u v = rw (← next n, ← same n)
      pick false true r u v = rw (← same n)
      pick false false true u v = u ∙ rw add-suc
      pick false false false u v = v ∙ rw add-suc
  string_quoted true n (b ∷ s) h = pick (is_escape b) (string_quoted false (suc n) s (λ _. omega arith))
    where
      pick : (p : Bool) →
          string false (suc n) s ≡ string_piece a (quoted_from false (a + suc n) s) →
          elim p as (λ _. Piece) [ true ↦ string false (suc n) s | false ↦ refused BadEscape (n - 1) n ]
          ≡ string_piece a (elim p as (λ _. Quoted) [ true ↦ quoted_from false (suc (a + n)) s | false ↦ Err (Escape (a + n - 1)) ])
      pick true u = u ∙ rw add-suc
      pick false u =
          let k : 0 < n = h refl in
          let p : n - 1 ≡ a + n - 1 - a = omega arith in
          let q : n ≡ a + n - 1 + 1 - a = omega arith in
          rw (← p, ← q)

-- ---- how far it reaches

-- the index behind the bytes that belong to it
unfoldable pub reach_of : Quoted → ℕ
reach_of (Ok e) = e + 1
reach_of (Err (Open e)) = e
reach_of (Err (Escape e)) = e

-- a byte that escapes or closes is no newline
escape_line : (b : ℕ) → is_escape b ≡ true → not_newline b ≡ true
unfolding is_escape
escape_line b e = met_in_line is_escape refl b e

quote_line : (b : ℕ) → eqb b 34 ≡ true → not_newline b ≡ true
quote_line b e = met_in_line (λ (x : ℕ). eqb x 34) refl b e

pub quoted_in_line : (e : Bool) (i : ℕ) (s : List ℕ) → reach_of (quoted_from e i s) ≤ i + front not_newline s
unfolding quoted_from front reach_of
quoted_in_line e i [] = omega arith
quoted_in_line false i (b ∷ s) = pick (eqb b 34) (eqb b 10) (eqb b 92) (quote_line b) (quoted_in_line true (suc i) s) (quoted_in_line false (suc i) s)
  where
    pick : (p q r : Bool) → (p ≡ true → not q ≡ true) →
        reach_of (quoted_from true (suc i) s) ≤ suc i + front not_newline s →
        reach_of (quoted_from false (suc i) s) ≤ suc i + front not_newline s →
        reach_of (elim p as (λ _. Quoted) [
          | true ↦ Ok i
          | false ↦ elim q as (λ _. Quoted) [
            | true ↦ Err (Open i)
            | false ↦ elim r as (λ _. Quoted) [ true ↦ quoted_from true (suc i) s | false ↦ quoted_from false (suc i) s ]
          ]
        ]) ≤ i + elim (not q) as (λ _. ℕ) [ true ↦ suc (front not_newline s) | false ↦ 0 ]
    pick true q r h u v = rw (h refl) (omega arith)
    pick false true r h u v = omega arith
    pick false false true h u v = omega arith
    pick false false false h u v = omega arith
quoted_in_line true i (b ∷ s) = pick (is_escape b) (escape_line b) (quoted_in_line false (suc i) s)
  where
    pick : (p : Bool) → (p ≡ true → not_newline b ≡ true) → reach_of (quoted_from false (suc i) s) ≤ suc i + front not_newline s →
        reach_of (elim p as (λ _. Quoted) [ true ↦ quoted_from false (suc i) s | false ↦ Err (Escape (i - 1)) ])
        ≤ i + elim (not_newline b) as (λ _. ℕ) [ true ↦ suc (front not_newline s) | false ↦ 0 ]
    pick true h u = rw (h refl) (omega arith)
    pick false h u = omega arith

-- it does not reach back behind its opening quote, or behind the backslash before it
pub quoted_from_lem : (e : Bool) (i : ℕ) (s : List ℕ) → i ≤ reach_of (quoted_from e i s) + cond e 1 0
unfolding quoted_from reach_of
quoted_from_lem false i [] = omega arith
quoted_from_lem true i [] = omega arith
quoted_from_lem false i (b ∷ s) = pick (eqb b 34) (eqb b 10) (eqb b 92) (quoted_from_lem true (suc i) s) (quoted_from_lem false (suc i) s)
  where
    pick : (p q r : Bool) →
        suc i ≤ reach_of (quoted_from true (suc i) s) + 1 →
        suc i ≤ reach_of (quoted_from false (suc i) s) + 0 →
        i ≤ reach_of (elim p as (λ _. Quoted) [
          | true ↦ Ok i
          | false ↦ elim q as (λ _. Quoted) [
            | true ↦ Err (Open i)
            | false ↦ elim r as (λ _. Quoted) [ true ↦ quoted_from true (suc i) s | false ↦ quoted_from false (suc i) s ]
          ]
        ]) + 0
    pick true q r u v = omega arith
    pick false true r u v = omega arith
    pick false false true u v = omega arith
    pick false false false u v = omega arith
quoted_from_lem true i (b ∷ s) = pick (is_escape b) (quoted_from_lem false (suc i) s)
  where
    pick : (p : Bool) → suc i ≤ reach_of (quoted_from false (suc i) s) + 0 →
        i ≤ reach_of (elim p as (λ _. Quoted) [ true ↦ quoted_from false (suc i) s | false ↦ Err (Escape (i - 1)) ]) + 1
    pick true u = omega arith
    pick false u = omega arith

-- the index behind the bytes that were looked at
unfoldable pub seen_of : Quoted → ℕ
seen_of (Ok e) = e + 1
seen_of (Err (Open e)) = e
seen_of (Err (Escape e)) = e + 2

pub quoted_seen : (e : Bool) (i : ℕ) (s : List ℕ) → (e ≡ true → 0 < i) → seen_of (quoted_from e i s) ≤ i + length s
unfolding quoted_from seen_of
quoted_seen e i [] h = omega arith
quoted_seen false i (b ∷ s) h = pick (eqb b 34) (eqb b 10) (eqb b 92) (quoted_seen true (suc i) s (λ _. omega arith)) (quoted_seen false (suc i) s (λ _. omega arith))
  where
    pick : (p q r : Bool) →
        seen_of (quoted_from true (suc i) s) ≤ suc i + length s →
        seen_of (quoted_from false (suc i) s) ≤ suc i + length s →
        seen_of (elim p as (λ _. Quoted) [
          | true ↦ Ok i
          | false ↦ elim q as (λ _. Quoted) [
            | true ↦ Err (Open i)
            | false ↦ elim r as (λ _. Quoted) [ true ↦ quoted_from true (suc i) s | false ↦ quoted_from false (suc i) s ]
          ]
        ]) ≤ i + suc (length s)
    pick true q r u v = omega arith
    pick false true r u v = omega arith
    pick false false true u v = omega arith
    pick false false false u v = omega arith
quoted_seen true i (b ∷ s) h = pick (is_escape b) (quoted_seen false (suc i) s (λ _. omega arith))
  where
    pick : (p : Bool) → seen_of (quoted_from false (suc i) s) ≤ suc i + length s →
        seen_of (elim p as (λ _. Quoted) [ true ↦ quoted_from false (suc i) s | false ↦ Err (Escape (i - 1)) ]) ≤ i + suc (length s)
    pick true u = omega arith
    pick false u = omega (arith, h refl)
