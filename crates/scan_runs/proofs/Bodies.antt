-- Laws of a comment's body: where it ends, from an index on, and that its closing bytes are bytes of a line.
use mathlib.Core.Path.{◌≡◌, refl}
use mathlib.Core.Bool.{Bool, true, false, ◌&&◌}
use mathlib.Core.List.{List, [], ◌∷◌}
use Prim.Native.Nat.{ℕ, suc, ◌+◌, ◌≤◌, ◌<◌}
use native.Mathlib.Nat.{add-zero}
use native.Mathlib.Numerals.{add-one}
use native.Mathlib.Omega.{arith}
use lib.ListN.{length, drop, get_or, drop_of_length-le}
use lib.Seq.{drop-cons, get_or-drop}
use lib.Dec.{eqb}
use borrow.Author.Tests.{eqb-true}
use Rattle.rules.specs.Text.{front, not_newline}
use Rattle.rules.specs.Lex.{before_close}

-- ---- the body of a comment, at an index

next_at : (t : List ℕ) (i : ℕ) → get_or (drop (suc i) t) 0 0 ≡ get_or t (i + 1) 0
next_at t i = rw (get_or-drop, add-zero, add-one)

module _ (t : List ℕ) (i : ℕ) where
  pub body_stop : i < length t → get_or t i 0 ≡ 42 → get_or t (i + 1) 0 ≡ 47 → before_close (drop i t) ≡ 0
  unfolding before_close
  body_stop h p q = rw (drop-cons t i 0 h) (rw (before_close, next_at t i, p, q))

  pub body_on : i < length t → (eqb (get_or t i 0) 42 && eqb (get_or t (i + 1) 0) 47) ≡ false → before_close (drop i t)
      ≡ 1 + before_close (drop (i + 1) t)
  unfolding before_close
  body_on h e = rw (drop-cons t i 0 h, add-one i) (rw (before_close, next_at t i, e) (omega arith))

  pub body_end : length t ≤ i → before_close (drop i t) ≡ 0
  unfolding before_close
  body_end h = rw (drop_of_length-le t h)

-- a body that stops inside stops at two bytes of a line
pub body_line : (s : List ℕ) → before_close s < length s → 2 ≤ front not_newline (drop (before_close s) s)
unfolding before_close front
body_line [] h = absurd (none h)
  where
    none : 0 < 0 → ⊥
    none h = omega arith
body_line (b ∷ s) h = pick (eqb b 42) (eqb (get_or s 0 0) 47) (eqb-true b 42) (eqb-true (get_or s 0 0) 47) h (body_line s)
  where
    two : (s : List ℕ) → b ≡ 42 → get_or s 0 0 ≡ 47 → 2 ≤ front not_newline (b ∷ s)
    two [] e f = absurd (none f)
      where
        none : ◌≡◌ {A = ℕ} 0 47 → ⊥
        none f = omega arith
    two (x ∷ s) e f = rw (e, f) (omega arith)

    pick : (p q : Bool) → (p ≡ true → b ≡ 42) → (q ≡ true → get_or s 0 0 ≡ 47) →
        elim (p && q) as (λ _. ℕ) [ true ↦ 0 | false ↦ suc (before_close s) ] < suc (length s) →
        (before_close s < length s → 2 ≤ front not_newline (drop (before_close s) s)) →
        2 ≤ front not_newline (drop (elim (p && q) as (λ _. ℕ) [ true ↦ 0 | false ↦ suc (before_close s) ]) (b ∷ s))
    pick true true e f h r = two s (e refl) (f refl)
    pick true false e f h r = r (omega arith)
    pick false true e f h r = r (omega arith)
    pick false false e f h r = r (omega arith)
