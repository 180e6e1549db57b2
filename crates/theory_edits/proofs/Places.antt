-- What becomes of a place where the bytes before it change.
use Prim.Native.Nat.{ℕ, ◌+◌, ◌-◌, ◌≤◌}
use native.Mathlib.Omega.{arith}
use mathlib.Core.Bool.{Bool, true, false}
use mathlib.Core.List.{List, [], ◌∷◌, ◌++◌}
use mathlib.Core.Path.{◌≡◌, refl, ap, sym, ◌∙◌}
use lib.Dec.{eqb}
use lib.ListN.{length, drop, take}
use lib.Seq.{take-append-le, length-take-le}
use borrow.Author.Tests.{eqb-true, eq-eqb, ne_eqb}
use Rattle.rules.specs.declared.Cursor.{Cursor}
use Rattle.rules.specs.Text.{place_at, moved, over}
use Rattle.rules.specs.Edit.{carry}
use Rattle.laws.proofs.Places.{place_eq, at, over_offset, place_add}

-- ---- where what stood at o stands at p

-- x stands at o or behind it
record Behind (o x : Cursor) : Type 0 where
  past : o.offset.0 ≤ x.offset.0
  down : o.line.0 ≤ x.line.0
  along : x.line.0 ≡ o.line.0 → o.column.0 ≤ x.column.0

carry_self : (o p : Cursor) → carry o p o ≡ p
unfolding carry
carry_self o p = place_eq _ _ (omega arith) (omega arith) (rw (eq-eqb o.line.0 o.line.0 refl) (omega arith))

moved_behind : (b : ℕ) (o x : Cursor) → Behind o x → Behind o (moved x b)
unfolding moved
moved_behind b o x h = by (eqb b 10) refl
  where
    by : (q : Bool) → eqb b 10 ≡ q → Behind o (moved x b)
    by true q = rw (moved, q) (record { past = omega arith; down = omega arith; along = λ e. absurd (let z : ⊥ = omega arith in z) })
    by false q =
        rw (moved, q) (record { past = omega arith; down = h.down; along = λ e. let l : o.column.0 ≤ x.column.0 = h.along e in omega arith })

moved_carry : (b : ℕ) (o p x : Cursor) → Behind o x → moved (carry o p x) b ≡ carry o p (moved x b)
unfolding moved carry
moved_carry b o p x h = by (eqb b 10) refl (eqb x.line.0 o.line.0) refl
  where
    by : (q : Bool) → eqb b 10 ≡ q → (r : Bool) → eqb x.line.0 o.line.0 ≡ r → moved (carry o p x) b ≡ carry o p (moved x b)
    by true q r e = rw (moved, q) (place_eq _ _ (omega arith) (omega arith) (rw (ne_eqb (x.line.0 + 1) o.line.0 (λ z. omega arith))))
    by false q true e =
        let l : o.column.0 ≤ x.column.0 = h.along (eqb-true _ _ e) in rw (moved, q) (place_eq _ _ (omega arith) refl (rw e (omega arith)))
    by false q false e = rw (moved, q) (place_eq _ _ (omega arith) refl (rw e))

over_carry : (s : List ℕ) (o p x : Cursor) → Behind o x → over (carry o p x) s ≡ carry o p (over x s)
unfolding over
over_carry [] o p x h = refl
over_carry (b ∷ s) o p x h = rw (moved_carry b o p x h) (over_carry s o p (moved x b) (moved_behind b o x h))

pub over_carried : (s : List ℕ) (o p : Cursor) → over p s ≡ carry o p (over o s)
over_carried s o p = rw (carry_self o p) at (over_carry s o p o (record { past = omega arith; down = omega arith; along = λ e. omega arith }))

-- two texts that are the same from m' and from m on
pub place_carried : (t t' : List ℕ) (m m' j : ℕ) → drop m' t ≡ drop m t'
    → place_at t' (m + j) ≡ carry (place_at t m') (place_at t' m) (place_at t (m' + j))
unfolding carry place_at
place_carried t t' m m' j h =
    let o : Cursor = place_at t m' in
    let p : Cursor = place_at t' m in
    let s : List ℕ = take j (drop m t') in
    let e : at (m + j) (carry o p (over o s)) ≡ carry o p (at (m' + j) (over o s)) = place_eq _ _ (omega arith) refl refl in
    place_add t' m j ∙ ap (at (m + j)) (over_carried s o p) ∙ e ∙ ap (carry o p) (sym (place_add t m' j ∙ rw h))

-- a window's places from the place where it starts
pub place_window : (t w z : List ℕ) (e : ℕ) → drop e t ≡ w ++ z → (c : Cursor) → c ≡ place_at t e → (n : ℕ) → e ≤ n → n ≤ e + length w
    → place_at t n ≡ over c (take (n - e) w)
unfolding place_at
place_window t w z e d c f n l h =
    let q : n ≡ e + (n - e) = omega arith in
    let k : n - e ≤ length w = omega arith in
    let o : (over (place_at t e) (take (n - e) w)).offset.0 ≡ e + length (take (n - e) w) = over_offset (place_at t e) (take (n - e) w) in
    let j : length (take (n - e) w) ≡ n - e = length-take-le (n - e) w k in
    ap (place_at t) q ∙ place_add t e (n - e) ∙ rw (d, take-append-le (n - e) w z k, f) (place_eq _ _ (omega arith) refl refl)
