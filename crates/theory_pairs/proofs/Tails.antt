-- Valid texts with a part in common: two of them may change their ends. `ends_change` is the theorem. A character's second
-- byte is judged by its first alone, and later bytes only by their number, so one byte in common suffices.
use Prim.Native.Nat.{ℕ, zero, suc, ◌+◌, ◌-◌, ◌≤◌, ◌<◌}
use native.Mathlib.Omega.{arith}
use mathlib.Core.Bool.{Bool, true, false, cond, ◌&&◌, true≢false}
use mathlib.Core.List.{List, [], ◌∷◌, ◌++◌, append_assoc}
use mathlib.Core.Path.{◌≡◌, refl, ap, sym, subst, ◌∙◌}
use lib.Dec.{leb}
use lib.ListN.{length, drop, length-append, length-drop}
use lib.Seq.{drop-append-add}
use borrow.Author.Tests.{leb-true, le-leb}
use Rattle.rules.specs.Text.{front, within, Range, is_tail, utf8, met, line_of, char_at, valid_bytes, valid}
use Rattle.laws.proofs.Tests.{both_true, true_both}
use Rattle.laws.proofs.Fronts.{front_in, front_out, front_le, front_drop}
use Rattle.laws.proofs.Chars.{each, line_each, front_char, char_nil, char_lead, char_tails, Whole, char_whole}
use Rattle.laws.proofs.Valid.{valid_none, valid_some, valid_all, is_valid, valid_le, valid_both, valid_sides}

-- ---- bytes that are tails

data Tails : List ℕ → Type 0 where
  none : Tails []
  more : {b : ℕ} {s : List ℕ} → is_tail b ≡ true → Tails s → Tails (b ∷ s)

tails_both : {s r : List ℕ} → Tails s → Tails r → Tails (s ++ r)
tails_both none u = u
tails_both (more e h) u = more e (tails_both h u)

tails_front : {s : List ℕ} → Tails s → (r : List ℕ) → front is_tail (s ++ r) ≡ length s + front is_tail r
tails_front none r = omega arith
tails_front (more {b} {s} e h) r = omega (arith, front_in is_tail b (s ++ r) e, tails_front h r)

-- a list is tails, or one of its bytes is none: the first such, and the last
data First : List ℕ → Type 0 where
  all : {s : List ℕ} → Tails s → First s
  lead : (x : List ℕ) (b : ℕ) (y : List ℕ) → is_tail b ≡ false → First (x ++ (b ∷ y))

data Last : List ℕ → Type 0 where
  all : {s : List ℕ} → Tails s → Last s
  lead : (x : List ℕ) (b : ℕ) {y : List ℕ} → is_tail b ≡ false → Tails y → Last (x ++ (b ∷ y))

first : (s : List ℕ) → First s
first [] = all none
first (b ∷ s) = by (is_tail b) refl (first s)
  where
    on : {r : List ℕ} → is_tail b ≡ true → First r → First (b ∷ r)
    on e (all h) = all (more e h)
    on e (lead x c y f) = lead (b ∷ x) c y f

    by : (q : Bool) → is_tail b ≡ q → First s → First (b ∷ s)
    by true e h = on e h
    by false e h = lead [] b s e

last : (s : List ℕ) → Last s
last [] = all none
last (b ∷ s) = on (last s)
  where
    by : {r : List ℕ} (q : Bool) → is_tail b ≡ q → Tails r → Last (b ∷ r)
    by true e h = all (more e h)
    by false e h = lead [] b e h

    on : {r : List ℕ} → Last r → Last (b ∷ r)
    on (all h) = by (is_tail b) refl h
    on (lead x c f h) = lead (b ∷ x) c f h

-- no text begins with a tail
no_lead : (b : ℕ) (s : List ℕ) → is_tail b ≡ true → valid (b ∷ s) ≡ true → ⊥
no_lead b s e v = by (char_at (b ∷ s)) refl
  where
    by : (n : ℕ) → char_at (b ∷ s) ≡ n → ⊥
    by zero f = omega (arith, valid_none (b ∷ s) f, valid_all (b ∷ s) v)
    by (suc n) f = true≢false (sym e ∙ char_lead b s (omega arith))

tails_invalid : {s : List ℕ} → Tails s → 0 < length s → (r : List ℕ) → valid (s ++ r) ≡ true → ⊥
tails_invalid none h r v = omega arith
tails_invalid (more {b} {s} e u) h r v = no_lead b (s ++ r) e v

front_valid : (s : List ℕ) → valid s ≡ true → front is_tail s ≡ 0
unfolding front
front_valid [] v = refl
front_valid (b ∷ s) v = by (is_tail b) refl
  where
    by : (q : Bool) → is_tail b ≡ q → front is_tail (b ∷ s) ≡ 0
    by true e = absurd (no_lead b s e v)
    by false e = front_out is_tail b s e

-- ---- a text that begins with a character: its tails are all that stand there, and the text behind them is valid

record Begins (b : ℕ) (s : List ℕ) : Type 0 where
  line : length (line_of b) ≡ suc (front is_tail s)
  met : met (line_of b) (b ∷ s) ≡ length (line_of b)
  behind : valid (drop (front is_tail s) s) ≡ true

begins : (b : ℕ) (s : List ℕ) → valid (b ∷ s) ≡ true → Begins b s
begins b s v = by (char_at (b ∷ s)) refl
  where
    by : (n : ℕ) → char_at (b ∷ s) ≡ n → Begins b s
    by zero e = absurd (let y : ⊥ = omega (arith, valid_none (b ∷ s) e, valid_all (b ∷ s) v) in y)
    by (suc n) e =
        let w : Whole b s = char_whole b s (omega arith) in
        let l : n ≤ front is_tail s = char_tails b s n e in
        let d : length (drop n s) ≡ length s - n = length-drop n s in
        let k : valid (drop n s) ≡ true
        = is_valid (drop n s) (omega (arith, valid_some (b ∷ s) n e, valid_all (b ∷ s) v, front_le is_tail s)) in
        let f : front is_tail s ≡ n = omega (arith, front_drop is_tail n s l, front_valid (drop n s) k) in
        record { line = sym w.size ∙ e ∙ ap suc (sym f); met = w.all; behind = rw f k }

is_begun : (b : ℕ) (s : List ℕ) → Begins b s → valid (b ∷ s) ≡ true
is_begun b s h =
    let e : char_at (b ∷ s) ≡ suc (front is_tail s) = front_char b s h.met ∙ h.line in
    let d : length (drop (front is_tail s) s) ≡ length s - front is_tail s = length-drop (front is_tail s) s in
    let v : valid_bytes (drop (front is_tail s) s) ≡ length (drop (front is_tail s) s) = valid_all (drop (front is_tail s) s) h.behind in
    is_valid (b ∷ s) (omega (arith, valid_some (b ∷ s) (front is_tail s) e, front_le is_tail s))

-- ---- behind a character's second byte any tails may stand

wide : List Range → Bool
wide [] = true
wide (r ∷ rs) = (leb r.lo 0x80 && leb 0xBF r.hi) && wide rs

wide_third : List Range → Bool
wide_third [] = true
wide_third (r ∷ []) = true
wide_third (r ∷ q ∷ rs) = wide rs

line_wide : (b : ℕ) → wide_third (line_of b) ≡ true
unfolding each utf8 wide wide_third
line_wide b = line_each wide_third refl utf8 refl b

met_wide : (rs : List Range) (s : List ℕ) → wide rs ≡ true → length rs ≤ front is_tail s → met rs s ≡ length rs
unfolding met wide front
met_wide [] s h l = refl
met_wide (r ∷ rs) [] h l = absurd (let y : ⊥ = omega arith in y)
met_wide (r ∷ rs) (b ∷ s) h l = by (is_tail b) refl (met_wide rs s i.1)
  where
    i : ((leb r.lo 0x80 && leb 0xBF r.hi) ≡ true) × (wide rs ≡ true)
    i = both_true (leb r.lo 0x80 && leb 0xBF r.hi) (wide rs) h

    j : (leb r.lo 0x80 ≡ true) × (leb 0xBF r.hi ≡ true)
    j = both_true (leb r.lo 0x80) (leb 0xBF r.hi) i.0

    by : (q : Bool) → is_tail b ≡ q → (length rs ≤ front is_tail s → met rs s ≡ length rs) → met (r ∷ rs) (b ∷ s) ≡ suc (length rs)
    by true e ih =
        let k = both_true (leb 0x80 b) (leb b 0xBF) e in
        let lo : r.lo ≤ b = omega (arith, leb-true r.lo 0x80 j.0, leb-true 0x80 b k.0) in
        let hi : b ≤ r.hi = omega (arith, leb-true 0xBF r.hi j.1, leb-true b 0xBF k.1) in
        rw (le-leb r.lo b lo, le-leb b r.hi hi) (ap suc (ih (omega (arith, front_in is_tail b s e))))
    by false e ih = absurd (let y : ⊥ = omega (arith, front_out is_tail b s e) in y)

-- all of a line is met by the first two bytes and any tails, as many as there are ranges left
met_third : (rs : List Range) (b c : ℕ) (y z : List ℕ) → wide_third rs ≡ true → 1 < length rs → met rs (b ∷ c ∷ y) ≡ length rs
    → length rs ≤ suc (suc (front is_tail z)) → met rs (b ∷ c ∷ z) ≡ length rs
unfolding met wide_third
met_third [] b c y z h l e k = absurd (let x : ⊥ = omega arith in x)
met_third (r ∷ []) b c y z h l e k = absurd (let x : ⊥ = omega arith in x)
met_third (r ∷ q ∷ rs) b c y z h l e k = by (within r.lo r.hi b) refl (within q.lo q.hi c) refl e
  where
    by : (m : Bool) → within r.lo r.hi b ≡ m → (n : Bool) → within q.lo q.hi c ≡ n
        → cond m (suc (cond n (suc (met rs y)) 0)) 0 ≡ suc (suc (length rs))
        → met (r ∷ q ∷ rs) (b ∷ c ∷ z) ≡ suc (suc (length rs))
    by true f true g e = rw (f, g) (ap suc (ap suc (met_wide rs z h (omega arith))))
    by true f false g e = absurd (let x : ⊥ = omega arith in x)
    by false f n g e = absurd (let x : ⊥ = omega arith in x)

-- ---- one byte in common

-- u and w are what stands behind the last byte that is no tail, in front of the common part
change_tail : (b : ℕ) {u : List ℕ} → Tails u → 0 < length u → (c : ℕ) {w : List ℕ} → Tails w → (y z : List ℕ)
    → valid (b ∷ (u ++ y)) ≡ true → valid (c ∷ (w ++ y)) ≡ true → valid (c ∷ (w ++ z)) ≡ true → valid (b ∷ (u ++ z)) ≡ true
change_tail b none k c h y z p q r = absurd (let x : ⊥ = omega arith in x)
change_tail b (more {b = d} {s = s} e g) k c {w} h y z p q r =
    let u : Tails (d ∷ s) = more e g in
    let i : Begins b (d ∷ (s ++ y)) = begins b (d ∷ (s ++ y)) p in
    let j : Begins c (w ++ y) = begins c (w ++ y) q in
    let l : Begins c (w ++ z) = begins c (w ++ z) r in
    let fy : front is_tail (d ∷ (s ++ y)) ≡ suc (length s) + front is_tail y = tails_front u y in
    let fz : front is_tail (d ∷ (s ++ z)) ≡ suc (length s) + front is_tail z = tails_front u z in
    let gy : front is_tail (w ++ y) ≡ length w + front is_tail y = tails_front h y in
    let gz : front is_tail (w ++ z) ≡ length w + front is_tail z = tails_front h z in
    let same : front is_tail y ≡ front is_tail z = omega (arith, j.line, l.line) in
    let sz : front is_tail (s ++ z) ≡ length s + front is_tail z = tails_front g z in
    let v : valid (drop (front is_tail z) z) ≡ true = rw (gz, drop-append-add w z (front is_tail z)) at l.behind in
    is_begun b (d ∷ (s ++ z)) (
    record {
      line = i.line ∙ ap suc (fy ∙ ap (λ (n : ℕ). suc (length s) + n) same ∙ sym fz);
      met = met_third (line_of b) b d (s ++ y) (s ++ z) (line_wide b) (omega (arith, i.line)) i.met (omega (arith, i.line));
      behind = rw (fz, drop-append-add (d ∷ s) z (front is_tail z)) v;
    }
    )

-- x and p stand in front of m, y and z behind it.
pub ends_change : (x p m y z : List ℕ) → 0 < length m
    → valid (x ++ (m ++ y)) ≡ true → valid (p ++ (m ++ y)) ≡ true → valid (x ++ (m ++ z)) ≡ true
    → valid (p ++ (m ++ z)) ≡ true
ends_change x p m y z l f g h = by (first m) l f g h
  where
    in_tails : {m : List ℕ} → Tails m → 0 < length m → {x p : List ℕ} → Last x → Last p
        → valid (x ++ (m ++ y)) ≡ true → valid (p ++ (m ++ y)) ≡ true → valid (x ++ (m ++ z)) ≡ true
        → valid (p ++ (m ++ z)) ≡ true
    in_tails {m} t l {x} {p} (all s) q f g h =
        absurd (tails_invalid (tails_both s t) (omega (arith, length-append x m)) y (rw (append_assoc x m y) f))
    in_tails {m} t l {x} {p} (lead u b e s) (all r) f g h =
        absurd (tails_invalid (tails_both r t) (omega (arith, length-append p m)) y (rw (append_assoc p m y) g))
    in_tails {m} t l (lead u b {y = s} e i) (lead v c {y = r} k j) f g h =
        let at : (o : List ℕ) (d : ℕ) (n w : List ℕ) → (o ++ (d ∷ n)) ++ (m ++ w) ≡ o ++ (d ∷ ((n ++ m) ++ w))
        = λ o d n w. simp append_assoc in
        let f₁ = valid_sides u b ((s ++ m) ++ y) e (rw (at u b s y) at f) in
        let g₁ = valid_sides v c ((r ++ m) ++ y) k (rw (at v c r y) at g) in
        let h₁ = valid_sides u b ((s ++ m) ++ z) e (rw (at u b s z) at h) in
        rw (at v c r z) (valid_both v (c ∷ ((r ++ m) ++ z)) g₁.0
        (change_tail c (tails_both j t) (omega (arith, length-append r m)) b (tails_both i t) y z g₁.1 f₁.1 h₁.1))

    by : {m : List ℕ} → First m → 0 < length m
        → valid (x ++ (m ++ y)) ≡ true → valid (p ++ (m ++ y)) ≡ true → valid (x ++ (m ++ z)) ≡ true
        → valid (p ++ (m ++ z)) ≡ true
    by (all t) l f g h = in_tails t l (last x) (last p) f g h
    by (lead u b v e) l f g h =
        let at : (o w : List ℕ) → o ++ ((u ++ (b ∷ v)) ++ w) ≡ (o ++ u) ++ (b ∷ (v ++ w)) = λ o w. simp append_assoc in
        let g₁ = valid_sides (p ++ u) b (v ++ y) e (rw (at p y) at g) in
        let h₁ = valid_sides (x ++ u) b (v ++ z) e (rw (at x z) at h) in
        rw (at p z) (valid_both (p ++ u) (b ∷ (v ++ z)) g₁.0 h₁.1)
