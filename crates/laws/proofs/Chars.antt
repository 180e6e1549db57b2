-- Characters, as the table of RFC 3629 has them: how long one is and what it is made of, and what a longer or a shorter list of bytes
-- has at its front. But for what the code asks of a line, nothing else opens the table, `char_at` and `is_cut`.
use mathlib.Core.Path.{◌≡◌, refl, ap, sym, ◌∙◌}
use mathlib.Core.Bool.{Bool, true, false, cond, ◌&&◌, ◌||◌, true≢false}
use mathlib.Core.List.{List, [], ◌∷◌, ◌++◌}
use Prim.Native.Nat.{ℕ, suc, ◌≤◌, ◌<◌}
use native.Mathlib.Omega.{arith}
use lib.Dec.{eqb, leb, ltb}
use lib.ListN.{length}
use borrow.Author.Tests.{eqb-true, eqb-false, eq-eqb, ne_eqb, lt-ltb, ltb-true, ltb-false, leb-true, le-leb}
use Rattle.rules.specs.Text.{front, within, Range, range, is_tail, utf8, met, line_in, line_of, char_at, is_cut}
use Rattle.laws.proofs.Tests.{both_true, true_both, false_by}
use Rattle.laws.proofs.Fronts.{front_in}

-- ---- bytes in ranges

pub met_le : (rs : List Range) (s : List ℕ) → met rs s ≤ length s
unfolding met
met_le [] s = omega arith
met_le (r ∷ rs) [] = omega arith
met_le (r ∷ rs) (b ∷ s) = by (within r.lo r.hi b) (met_le rs s)
  where
    by : (q : Bool) → met rs s ≤ length s → cond q (suc (met rs s)) 0 ≤ suc (length s)
    by true h = omega arith
    by false h = omega arith

-- what stands behind as many bytes as there are ranges plays no part
met_back : (rs : List Range) (s z : List ℕ) → length rs ≤ length s → met rs (s ++ z) ≡ met rs s
unfolding met
met_back [] s z h = refl
met_back (r ∷ rs) [] z h = absurd (let y : ⊥ = omega arith in y)
met_back (r ∷ rs) (b ∷ s) z h = ap (λ (n : ℕ). cond (within r.lo r.hi b) (suc n) 0) (met_back rs s z (omega arith))

-- nor what stands behind a byte that does not lie in its range
pub met_stop : (rs : List Range) (s z : List ℕ) → met rs s < length s → met rs (s ++ z) ≡ met rs s
unfolding met
met_stop [] s z h = refl
met_stop (r ∷ rs) [] z h = absurd (let y : ⊥ = omega arith in y)
met_stop (r ∷ rs) (b ∷ s) z h = by (within r.lo r.hi b) h (met_stop rs s z)
  where
    by : (q : Bool) → cond q (suc (met rs s)) 0 < suc (length s) → (met rs s < length s → met rs (s ++ z) ≡ met rs s)
        → cond q (suc (met rs (s ++ z))) 0 ≡ cond q (suc (met rs s)) 0
    by true h ih = ap suc (ih (omega arith))
    by false h ih = refl

-- ---- the table's lines

-- each meets a test
unfoldable pub each : (List Range → Bool) → List (List Range) → Bool
each p [] = true
each p (rs ∷ lines) = p rs && each p lines

pub line_each : (p : List Range → Bool) → p [] ≡ true → (lines : List (List Range)) → each p lines ≡ true → (b : ℕ)
    → p (line_in lines b) ≡ true
unfolding each line_in
line_each p e [] h b = e
line_each p e (rs ∷ lines) h b =
    by (eqb (met rs (b ∷ [])) 1) (line_each p e lines (both_true (p rs) (each p lines) h).1 b)
  where
    by : (q : Bool) → p (line_in lines b) ≡ true → p (cond q rs (line_in lines b)) ≡ true
    by true ih = (both_true (p rs) (each p lines) h).0
    by false ih = ih

-- four bytes at most
pub line_four : (b : ℕ) → length (line_of b) ≤ 4
unfolding each utf8
line_four b = leb-true _ 4 (line_each (λ rs. leb (length rs) 4) refl utf8 refl b)

-- behind the first byte only tails
all_tails : List Range → Bool
all_tails [] = true
all_tails (r ∷ rs) = (leb 0x80 r.lo && leb r.hi 0xBF) && all_tails rs

rest_tails : List Range → Bool
rest_tails [] = true
rest_tails (r ∷ rs) = all_tails rs

line_tails : (b : ℕ) → rest_tails (line_of b) ≡ true
unfolding each utf8 all_tails rest_tails
line_tails b = line_each rest_tails refl utf8 refl b

-- which is none
no_tail : List Range → Bool
no_tail [] = true
no_tail (r ∷ rs) = ltb r.hi 0x80 || ltb 0xBF r.lo

no_tail_lem : (rs : List Range) (b : ℕ) → no_tail rs ≡ true → is_tail b ≡ true → eqb (met rs (b ∷ [])) 1 ≡ false
unfolding met no_tail
no_tail_lem [] b h t = refl
no_tail_lem (r ∷ rs) b h t = by (within r.lo r.hi b) refl
  where
    far : (p q : Bool) → ltb r.hi 0x80 ≡ p → ltb 0xBF r.lo ≡ q → (p || q) ≡ true → r.lo ≤ b → b ≤ r.hi → ⊥
    far true q e f h lo hi = omega (arith, ltb-true r.hi 0x80 e, leb-true 0x80 b (both_true (leb 0x80 b) (leb b 0xBF) t).0)
    far false true e f h lo hi = omega (arith, ltb-true 0xBF r.lo f, leb-true b 0xBF (both_true (leb 0x80 b) (leb b 0xBF) t).1)
    far false false e f h lo hi = true≢false (sym h)

    by : (q : Bool) → within r.lo r.hi b ≡ q → eqb (cond q (suc (met rs [])) 0) 1 ≡ false
    by true e =
        let i = both_true (leb r.lo b) (leb b r.hi) e in
        absurd (far _ _ refl refl h (leb-true _ _ i.0) (leb-true _ _ i.1))
    by false e = refl

lines_no_tail : (lines : List (List Range)) (b : ℕ) → each no_tail lines ≡ true → is_tail b ≡ true → line_in lines b ≡ []
unfolding each line_in
lines_no_tail [] b h t = refl
lines_no_tail (rs ∷ lines) b h t =
    let i = both_true (no_tail rs) (each no_tail lines) h in
    rw (no_tail_lem rs b i.0 t) (lines_no_tail lines b i.1 t)

line_no_tail : (b : ℕ) → is_tail b ≡ true → line_of b ≡ []
unfolding each no_tail utf8
line_no_tail b t = lines_no_tail utf8 b refl t

line_lead : (b : ℕ) → 0 < length (line_of b) → is_tail b ≡ false
line_lead b h = false_by (is_tail b) (λ t. omega (arith, ap length (line_no_tail b t)))

-- ---- a character at the front: all of its line is met

data Front (b : ℕ) (s : List ℕ) : ℕ → Type 0 where
  whole : met (line_of b) (b ∷ s) ≡ length (line_of b) → Front b s (length (line_of b))
  none : (met (line_of b) (b ∷ s) ≡ length (line_of b) → ⊥) → Front b s 0

char_front : (b : ℕ) (s : List ℕ) → Front b s (char_at (b ∷ s))
unfolding char_at
char_front b s = by (eqb (met (line_of b) (b ∷ s)) (length (line_of b))) refl
  where
    by : (q : Bool) → eqb (met (line_of b) (b ∷ s)) (length (line_of b)) ≡ q → Front b s (cond q (length (line_of b)) 0)
    by true e = whole (eqb-true _ _ e)
    by false e = none (eqb-false _ _ e)

pub front_char : (b : ℕ) (s : List ℕ) → met (line_of b) (b ∷ s) ≡ length (line_of b) → char_at (b ∷ s) ≡ length (line_of b)
unfolding char_at
front_char b s e = rw (eq-eqb (met (line_of b) (b ∷ s)) (length (line_of b)) e)

pub front_none : (b : ℕ) (s : List ℕ) → (met (line_of b) (b ∷ s) ≡ length (line_of b) → ⊥) → char_at (b ∷ s) ≡ 0
unfolding char_at
front_none b s e = rw (ne_eqb (met (line_of b) (b ∷ s)) (length (line_of b)) e)

-- where one stands, all of its line is met
pub record Whole (b : ℕ) (s : List ℕ) : Type 0 where
  pub all : met (line_of b) (b ∷ s) ≡ length (line_of b)
  pub size : char_at (b ∷ s) ≡ length (line_of b)

pub char_whole : (b : ℕ) (s : List ℕ) → 0 < char_at (b ∷ s) → Whole b s
char_whole b s h = by (char_front b s) h
  where
    by : {n : ℕ} → Front b s n → 0 < n → Whole b s
    by (whole e) h = record { all = e; size = front_char b s e }
    by (none k) h = absurd (let y : ⊥ = omega arith in y)

pub char_nil : char_at [] ≡ 0
unfolding char_at
char_nil = refl

-- it lies in the list and has four bytes at most
pub char_le : (s : List ℕ) → char_at s ≤ length s
char_le [] = omega (arith, char_nil)
char_le (b ∷ s) = by (char_front b s)
  where
    by : {n : ℕ} → Front b s n → n ≤ suc (length s)
    by (whole e) = omega (arith, met_le (line_of b) (b ∷ s))
    by (none h) = omega arith

pub char_four : (s : List ℕ) → char_at s ≤ 4
char_four [] = omega (arith, char_nil)
char_four (b ∷ s) = by (char_front b s)
  where
    by : {n : ℕ} → Front b s n → n ≤ 4
    by (whole e) = line_four b
    by (none h) = omega arith

-- a byte below 128 is one
low_met : (b : ℕ) (s : List ℕ) → b < 128 → met (range 0x00 0x7F ∷ []) (b ∷ s) ≡ 1
unfolding met
low_met b s h = rw (le-leb 0x00 b (omega arith), le-leb b 0x7F (omega arith))

low_line : (b : ℕ) → b < 128 → line_of b ≡ range 0x00 0x7F ∷ []
unfolding utf8 line_in
low_line b h = rw (low_met b [] h)

pub char_low : (b : ℕ) (s : List ℕ) → b < 128 → char_at (b ∷ s) ≡ 1
char_low b s h = front_char b s (rw (low_line b h) (low_met b s h)) ∙ ap length (low_line b h)

-- its first byte is no tail, and the others are
pub char_lead : (b : ℕ) (s : List ℕ) → 0 < char_at (b ∷ s) → is_tail b ≡ false
char_lead b s h = by (char_front b s) h
  where
    by : {n : ℕ} → Front b s n → 0 < n → is_tail b ≡ false
    by (whole e) h = line_lead b h
    by (none k) h = absurd (let y : ⊥ = omega arith in y)

met_tails : (rs : List Range) (s : List ℕ) → all_tails rs ≡ true → met rs s ≡ length rs → length rs ≤ front is_tail s
unfolding met all_tails
met_tails [] s h e = omega arith
met_tails (r ∷ rs) [] h e = absurd (let y : ⊥ = omega arith in y)
met_tails (r ∷ rs) (b ∷ s) h e =
    by (within r.lo r.hi b) refl e (met_tails rs s (both_true (leb 0x80 r.lo && leb r.hi 0xBF) (all_tails rs) h).1)
  where
    i : ((leb 0x80 r.lo && leb r.hi 0xBF) ≡ true) × (all_tails rs ≡ true)
    i = both_true (leb 0x80 r.lo && leb r.hi 0xBF) (all_tails rs) h

    j : (leb 0x80 r.lo ≡ true) × (leb r.hi 0xBF ≡ true)
    j = both_true (leb 0x80 r.lo) (leb r.hi 0xBF) i.0

    by : (q : Bool) → within r.lo r.hi b ≡ q → cond q (suc (met rs s)) 0 ≡ suc (length rs)
        → (met rs s ≡ length rs → length rs ≤ front is_tail s) → suc (length rs) ≤ front is_tail (b ∷ s)
    by true w e ih =
        let k = both_true (leb r.lo b) (leb b r.hi) w in
        let lo : 0x80 ≤ b = omega (arith, leb-true 0x80 r.lo j.0, leb-true r.lo b k.0) in
        let hi : b ≤ 0xBF = omega (arith, leb-true r.hi 0xBF j.1, leb-true b r.hi k.1) in
        omega (arith, front_in is_tail b s (true_both (le-leb 0x80 b lo) (le-leb b 0xBF hi)), ih (omega arith))
    by false w e ih = absurd (let y : ⊥ = omega arith in y)

met_rest : (r : Range) (rs : List Range) (b : ℕ) (s : List ℕ) → met (r ∷ rs) (b ∷ s) ≡ suc (length rs) → met rs s ≡ length rs
unfolding met
met_rest r rs b s = by (within r.lo r.hi b)
  where
    by : (q : Bool) → cond q (suc (met rs s)) 0 ≡ suc (length rs) → met rs s ≡ length rs
    by true e = omega arith
    by false e = absurd (let y : ⊥ = omega arith in y)

pub char_tails : (b : ℕ) (s : List ℕ) (n : ℕ) → char_at (b ∷ s) ≡ suc n → n ≤ front is_tail s
unfolding rest_tails
char_tails b s n e = by (char_front b s) e
  where
    in_line : (rs : List Range) → rest_tails rs ≡ true → met rs (b ∷ s) ≡ length rs → length rs ≡ suc n → n ≤ front is_tail s
    in_line [] h m e = absurd (let y : ⊥ = omega arith in y)
    in_line (r ∷ rs) h m e = omega (arith, met_tails rs s h (met_rest r rs b s m))

    by : {m : ℕ} → Front b s m → m ≡ suc n → n ≤ front is_tail s
    by (whole w) e = in_line (line_of b) (line_tails b) w e
    by (none k) e = absurd (let y : ⊥ = omega arith in y)

-- ---- behind it and in front of its end whatever may stand

pub char_join : (s z : List ℕ) → 0 < char_at s → char_at (s ++ z) ≡ char_at s
char_join [] z h = absurd (let y : ⊥ = omega (arith, char_nil) in y)
char_join (b ∷ s) z h = by (char_front b s) h
  where
    by : {n : ℕ} → Front b s n → 0 < n → char_at (b ∷ (s ++ z)) ≡ n
    by (whole e) h = front_char b (s ++ z) (met_back (line_of b) (b ∷ s) z (omega (arith, met_le (line_of b) (b ∷ s))) ∙ e)
    by (none k) h = absurd (let y : ⊥ = omega arith in y)

pub char_back : (s z : List ℕ) → char_at (s ++ z) ≤ length s → char_at s ≡ char_at (s ++ z)
char_back [] z h = omega (arith, char_nil)
char_back (b ∷ s) z h = by (char_front b (s ++ z)) h
  where
    by : {n : ℕ} → Front b (s ++ z) n → n ≤ suc (length s) → char_at (b ∷ s) ≡ n
    by (whole e) h = front_char b s (sym (met_back (line_of b) (b ∷ s) z h) ∙ e)
    by (none k) h = front_none b s (λ e. k (met_back (line_of b) (b ∷ s) z (omega (arith, met_le (line_of b) (b ∷ s))) ∙ e))

-- ---- a character that the end cuts

pub cut_nil : is_cut [] ≡ true
unfolding is_cut
cut_nil = refl

pub record Cut (b : ℕ) (s : List ℕ) : Type 0 where
  pub all : met (line_of b) (b ∷ s) ≡ suc (length s)
  pub short : suc (length s) < length (line_of b)

pub is_cut_lem : (b : ℕ) (s : List ℕ) → Cut b s → is_cut (b ∷ s) ≡ true
unfolding is_cut
is_cut_lem b s c = true_both (eq-eqb _ _ c.all) (lt-ltb _ _ c.short)

pub cut_is : (b : ℕ) (s : List ℕ) → is_cut (b ∷ s) ≡ true → Cut b s
unfolding is_cut
cut_is b s h =
    let i = both_true (eqb (met (line_of b) (b ∷ s)) (suc (length s))) (ltb (suc (length s)) (length (line_of b))) h in
    record { all = eqb-true _ _ i.0; short = ltb-true _ _ i.1 }

-- three bytes at most, of which the first is no tail
pub cut_three : (b : ℕ) (s : List ℕ) → is_cut (b ∷ s) ≡ true → suc (length s) ≤ 3
cut_three b s h = omega (arith, (cut_is b s h).short, line_four b)

pub cut_lead : (b : ℕ) (s : List ℕ) → is_cut (b ∷ s) ≡ true → is_tail b ≡ false
cut_lead b s h = line_lead b (omega (arith, (cut_is b s h).short))

-- where neither a character nor a cut one stands, none does, whatever follows
pub bad_stays : (b : ℕ) (s z : List ℕ) → char_at (b ∷ s) ≡ 0 → is_cut (b ∷ s) ≡ false → char_at (b ∷ (s ++ z)) ≡ 0
unfolding is_cut
bad_stays b s z e h =
    by (char_front b s) e (eqb (met (line_of b) (b ∷ s)) (suc (length s))) refl (ltb (suc (length s)) (length (line_of b))) refl h
  where
    same : met (line_of b) (b ∷ (s ++ z)) ≡ met (line_of b) (b ∷ s) → (met (line_of b) (b ∷ s) ≡ length (line_of b) → ⊥)
        → char_at (b ∷ (s ++ z)) ≡ 0
    same f k = front_none b (s ++ z) (λ g. k (sym f ∙ g))

    by : {n : ℕ} → Front b s n → n ≡ 0 → (x : Bool) → eqb (met (line_of b) (b ∷ s)) (suc (length s)) ≡ x → (y : Bool)
        → ltb (suc (length s)) (length (line_of b)) ≡ y → (x && y) ≡ false → char_at (b ∷ (s ++ z)) ≡ 0
    by (whole w) e x f y g h = front_char b (s ++ z) (met_back (line_of b) (b ∷ s) z (omega arith) ∙ w) ∙ e
    by (none k) e false f y g h =
        let l : met (line_of b) (b ∷ s) ≡ suc (length s) → ⊥ = eqb-false _ _ f in
        same (met_stop (line_of b) (b ∷ s) z (omega (arith, met_le (line_of b) (b ∷ s)))) k
    by (none k) e true f false g h = same (met_back (line_of b) (b ∷ s) z (ltb-false (suc (length s)) (length (line_of b)) g)) k
    by (none k) e true f true g h = absurd (true≢false h)
