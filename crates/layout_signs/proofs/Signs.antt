-- Laws of parentheses and of bytes that are repeated.
use mathlib.Core.Path.{◌≡◌, refl, sym, ap, ◌∙◌}
use mathlib.Core.Bool.{Bool, true, false, cond}
use mathlib.Core.List.{List, [], ◌++◌, append_assoc, append-nil}
use Prim.Native.Nat.{ℕ, zero, suc, ◌+◌, ◌≤◌, ◌<◌, zero-le}
use native.Mathlib.Nat.{zero-add, suc-add}
use native.Mathlib.Numerals.{add-one}
use lib.Dec.{ltb}
use borrow.Author.Tests.{le-ltb, le-leb, lt-leb}
use Rattle.rules.specs.Text.{bytes}
use Rattle.layout_back.specs.Back.{Wrote}
use Rattle.layout_back.proofs.Back.{wrote_none, wrote_then, wrote_as}
use Rattle.layout_signs.specs.Levels.{put, pairs, repeated, comma}

-- so many times, and then more
pub repeated_add : (n k : ℕ) (bs : List ℕ) → repeated (n + k) bs ≡ repeated n bs ++ repeated k bs
unfolding repeated
repeated_add zero k bs = ap (λ (i : ℕ). repeated i bs) (zero-add k)
repeated_add (suc n) k bs =
    ap (λ (i : ℕ). repeated i bs) (suc-add n k) ∙ ap (λ (l : List ℕ). bs ++ l) (repeated_add n k bs) ∙ sym
    (append_assoc bs (repeated n bs) (repeated k bs))

-- an expression at a place, between as many parentheses as it has there
pub put_is : (p l : ℕ) (bs : List ℕ) → put p l bs ≡ repeated (pairs p l) (bytes "( ") ++ (bs ++ repeated (pairs p l) (bytes ") "))
unfolding put pairs repeated
put_is p l bs = go (ltb l p)
  where
    go : (b : Bool) → cond b (bytes "( " ++ (bs ++ bytes ") ")) bs ≡ repeated (cond b 1 0) (bytes "( ") ++
        (bs ++ repeated (cond b 1 0) (bytes ") "))
    go true = refl
    go false = sym (append-nil bs)

-- a place that takes everything
pub put_any : (l : ℕ) (bs : List ℕ) → put 0 l bs ≡ bs
unfolding put
put_any l bs = rw (le-ltb l 0 zero-le)

-- bytes so many times, and then once more
pub repeated_none : (bs room : List ℕ) (at : ℕ) → Wrote (repeated 0 bs) room at room at
unfolding repeated
repeated_none bs room at = wrote_none room at

pub repeated_on : (n : ℕ) {bs room room' room'' : List ℕ} {at to r : ℕ} → Wrote (repeated n bs) room at room' to → Wrote bs room' to room'' r
    → Wrote (repeated (n + 1) bs) room at room'' r
unfolding repeated
repeated_on n v w = rw (add-one n) (wrote_then v w)

-- nothing in front of the first argument, a comma in front of any other
pub comma_none : (n : ℕ) → n ≤ 1 → comma n ≡ []
unfolding comma
comma_none n h = rw (le-leb n 1 h)

pub comma_nothing : (n : ℕ) (room : List ℕ) (at : ℕ) → n ≤ 1 → Wrote (comma n) room at room at
comma_nothing n room at h = wrote_as (sym (comma_none n h)) (wrote_none room at)

pub comma_one : (n : ℕ) → 1 < n → comma n ≡ bytes ", "
unfolding comma
comma_one n h = rw (lt-leb n 1 h)
