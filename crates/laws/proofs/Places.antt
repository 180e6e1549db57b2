-- Laws of places: the cursor over bytes composes, stands where counting says, moves by one addition in a line, and keeps its room.
use mathlib.Core.Path.{◌≡◌, refl, sym, ap, ◌∙◌}
use mathlib.Core.Bool.{Bool, true, false, cond, not}
use mathlib.Core.List.{List, [], ◌∷◌, ◌++◌, reverse, reverse_aux, append_assoc, append-nil}
use Prim.Native.Nat.{ℕ, zero, suc, ◌+◌, ◌≤◌}
use native.Mathlib.Nat.{add-zero}
use native.Mathlib.Omega.{arith}
use lib.ListN.{length, take, drop, length-append}
use lib.Seq.{take-add, length-take-le}
use lib.Dec.{eqb}
use Rattle.rules.specs.declared.Cursor.{Cursor}
use Rattle.rules.specs.Text.{front, newlines, not_newline, line_at, column_at, place, place_at, start_place, moved, over, along, Roomy}
use Rattle.laws.proofs.Fronts.{front_in, front_out}

pub place_eq : (p q : Cursor) → p.offset.0 ≡ q.offset.0 → p.line.0 ≡ q.line.0 → p.column.0 ≡ q.column.0 → p ≡ q
place_eq p q o l c = λ i. place (o i) (l i) (c i)

-- ---- the cursor over bytes

pub over_append : (c : Cursor) (s t : List ℕ) → over c (s ++ t) ≡ over (over c s) t
unfolding over
over_append c [] t = refl
over_append c (b ∷ s) t = over_append (moved c b) s t

pub over_one : (c : Cursor) (b : ℕ) → over c (b ∷ []) ≡ moved c b
unfolding over
over_one c b = refl

-- n bytes of a suffix and then m more
pub over_take : (c : Cursor) (m n : ℕ) (s : List ℕ) → over c (take (m + n) s) ≡ over (over c (take m s)) (take n (drop m s))
over_take c m n s = rw (take-add m n s) (over_append c (take m s) (take n (drop m s)))

pub over_offset : (c : Cursor) (s : List ℕ) → (over c s).offset.0 ≡ c.offset.0 + length s
unfolding over moved
over_offset c [] = rw add-zero
over_offset c (b ∷ s) = over_offset (moved c b) s ∙ (omega arith)

-- ---- in a line

along_none : (c : Cursor) → along c 0 ≡ c
unfolding along
along_none c = simp add-zero

along_suc : (c : Cursor) (n : ℕ) → along (along c 1) n ≡ along c (suc n)
unfolding along
along_suc c n = place_eq _ _ (omega arith) refl (omega arith)

moved_along : (c : Cursor) (b : ℕ) → not_newline b ≡ true → moved c b ≡ along c 1
unfolding moved along
moved_along c b e = pick (eqb b 10) e
  where
    pick : (q : Bool) → not q ≡ true →
        place (c.offset.0 + 1) (cond q (c.line.0 + 1) c.line.0) (cond q 1 (c.column.0 + 1)) ≡ place (c.offset.0 + 1) c.line.0 (c.column.0 + 1)
    pick true z = cc
    pick false z = refl

-- the bytes before the first newline are one addition
pub over_front : (c : Cursor) (s : List ℕ) (n : ℕ) → n ≤ front not_newline s → over c (take n s) ≡ along c n
unfolding over front
over_front c s zero h = sym (along_none c)
over_front c [] (suc n) h = absurd (let z : ⊥ = omega arith in z)
over_front c (b ∷ s) (suc n) h = by (not_newline b) refl (over_front (moved c b) s n)
  where
    by : (q : Bool) → not_newline b ≡ q → (n ≤ front not_newline s → over (moved c b) (take n s) ≡ along (moved c b) n) → over (moved c b) (take n s) ≡ along c (suc n)
    by true e r =
        let y : front not_newline (b ∷ s) ≡ suc (front not_newline s) = front_in not_newline b s e in
        r (omega arith) ∙ rw (moved_along c b e) (along_suc c n)
    by false e r = let y : front not_newline (b ∷ s) ≡ 0 = front_out not_newline b s e in absurd (let z : ⊥ = omega arith in z)

-- ---- counting is walking

pub newlines_le : (s : List ℕ) → newlines s ≤ length s
unfolding newlines
newlines_le [] = omega arith
newlines_le (b ∷ s) = pick (eqb b 10) (newlines_le s)
  where
    pick : (p : Bool) → newlines s ≤ length s → cond p (suc (newlines s)) (newlines s) ≤ suc (length s)
    pick true h = omega arith
    pick false h = omega arith

newlines_snoc : (s : List ℕ) (b : ℕ) → newlines (s ++ (b ∷ [])) ≡ cond (eqb b 10) (suc (newlines s)) (newlines s)
unfolding newlines
newlines_snoc [] b = refl
newlines_snoc (x ∷ s) b = rw (newlines_snoc s b) (swap (eqb x 10) (eqb b 10) (newlines s))
  where
    swap : (p q : Bool) (n : ℕ) → cond p (suc (cond q (suc n) n)) (cond q (suc n) n) ≡ cond q (suc (cond p (suc n) n)) (cond p (suc n) n)
    swap true true n = refl
    swap true false n = refl
    swap false true n = refl
    swap false false n = refl

-- the place behind the bytes u, counted
abbrev behind : List ℕ → Cursor
behind u = place (length u) (1 + newlines u) (1 + front not_newline (reverse u))

reverse_snoc : (u r : List ℕ) (b : ℕ) → reverse_aux (u ++ b ∷ []) r ≡ b ∷ reverse_aux u r
reverse_snoc [] r b = refl
reverse_snoc (x ∷ u) r b = reverse_snoc u (x ∷ r) b

behind_snoc : (u : List ℕ) (b : ℕ) → moved (behind u) b ≡ behind (u ++ b ∷ [])
unfolding moved front
behind_snoc u b = by (eqb b 10) refl
  where
    by : (q : Bool) → eqb b 10 ≡ q → moved (behind u) b ≡ behind (u ++ b ∷ [])
    by true q = place_eq _ _ (simp length-append) (rw (newlines_snoc u b, q) (omega arith)) (rw (reverse_snoc u [] b, front, q))
    by false q = place_eq _ _ (simp length-append) (rw (newlines_snoc u b, q)) (rw (reverse_snoc u [] b, front, q) (omega arith))

over_behind : (u s : List ℕ) → over (behind u) s ≡ behind (u ++ s)
unfolding over
over_behind u [] = rw append-nil
over_behind u (b ∷ s) = rw (behind_snoc u b, over_behind (u ++ b ∷ []) s, append_assoc)

-- the place at offset k with the line and column of another
abbrev pub at : ℕ → Cursor → Cursor
at k c = place k c.line.0 c.column.0

-- The place before byte k is that of a cursor that walked from the start, whatever k is.
place_walked : (t : List ℕ) (k : ℕ) → place_at t k ≡ at k (over start_place (take k t))
unfolding place_at line_at column_at newlines front
place_walked t k = ap (at k) (sym (over_behind [] (take k t)))

pub over_start : (t : List ℕ) (k : ℕ) → k ≤ length t → over start_place (take k t) ≡ place_at t k
over_start t k h =
    let o : (over start_place (take k t)).offset.0 ≡ 0 + length (take k t) = over_offset start_place (take k t) in
    let n : length (take k t) ≡ k = length-take-le k t h in
    place_eq _ _ (omega arith) refl refl ∙ sym (place_walked t k)

-- a cursor's line and column do not hang on its offset
over_at : (j k : ℕ) (c : Cursor) (s : List ℕ) → at j (over (at k c) s) ≡ at j (over c s)
unfolding over moved
over_at j k c [] = refl
over_at j k c (b ∷ s) = over_at j (k + 1) (moved c b) s

-- the place j bytes further on
pub place_add : (t : List ℕ) (n j : ℕ) → place_at t (n + j) ≡ at (n + j) (over (place_at t n) (take j (drop n t)))
place_add t n j =
    place_walked t (n + j)
    ∙ rw (take-add n j t, over_append start_place (take n t) (take j (drop n t)), place_walked t n) (sym (over_at (n + j) n (over start_place (take n t)) (take j (drop n t))))

-- ---- room

pub roomy_less : (n m : ℕ) (c : Cursor) → m ≤ n → Roomy n c → Roomy m c
roomy_less n m c h r = record { offset = omega (arith, r.offset); line = omega (arith, r.line); column = omega (arith, r.column) }

-- one byte less of room
pub roomy_step : (n b : ℕ) (c : Cursor) → Roomy (suc n) c → Roomy n (moved c b)
unfolding moved
roomy_step n b c r = pick (eqb b 10)
  where
    pick : (p : Bool) → Roomy n (place (c.offset.0 + 1) (cond p (c.line.0 + 1) c.line.0) (cond p 1 (c.column.0 + 1)))
    pick true = record { offset = omega (arith, r.offset); line = omega (arith, r.line); column = omega (arith, r.column) }
    pick false = record { offset = omega (arith, r.offset); line = omega (arith, r.line); column = omega (arith, r.column) }

pub roomy_over : (n : ℕ) (c : Cursor) (s : List ℕ) → Roomy (n + length s) c → Roomy n (over c s)
unfolding over
roomy_over n c [] r = rw add-zero at r
roomy_over n c (b ∷ s) r = let e : n + suc (length s) ≡ suc (n + length s) = omega arith in roomy_over n (moved c b) s (roomy_step (n + length s) b c (rw e at r))
