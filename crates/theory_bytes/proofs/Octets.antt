-- The rules' functions and the grammar say the same of all bytes: a text is valid exactly if it is UTF8-octets, `valid_bytes` is the length
-- of its longest beginning that is, and a list is cut exactly if it is a proper beginning of some character. The theorems are
-- `valid_exactly`, `longest`, `cut_exactly`; and no first byte lies in two lines, `one_line`.
use mathlib.Core.Path.{◌≡◌, refl, ap, sym, ◌∙◌, subst}
use mathlib.Core.Bool.{Bool, true, false, cond, ◌&&◌, ◌||◌, true≢false}
use mathlib.Core.List.{List, [], ◌∷◌, ◌++◌, Memᴰ}
use mathlib.Core.Logic.{◌↔◌}
use Prim.Native.Nat.{ℕ, zero, suc, ◌+◌, ◌-◌, ◌≤◌, ◌<◌}
use native.Mathlib.Decide.{dec_lt}
use native.Mathlib.Omega.{arith}
use lib.Dec.{eqb, leb, ltb}
use lib.ListN.{length, take, drop, length-append, length-drop, take-append-drop}
use borrow.Author.Tests.{leb-true, le-leb, ltb-true}
use Rattle.rules.specs.Text.{within, Range, range, utf8, met, line_in, line_of, char_at, is_cut, valid_bytes, valid}
use Rattle.laws.proofs.Tests.{both_true, false_by, either}
use Rattle.laws.proofs.Chars.{each, line_each, met_le, met_stop, front_char, char_nil, Whole, char_whole, cut_nil, Cut, is_cut_lem, cut_is}
use Rattle.laws.proofs.Valid.{valid_none, valid_some, valid_all, is_valid, valid_both, valid_beginning, valid_longest}
use Rattle.theory_bytes.specs.Octets.{Each, end, next, Char, char, Octets, none, more, Begins}

-- ---- lines

mem_each : (p : List Range → Bool) (lines : List (List Range)) → each p lines ≡ true → {rs : List Range} → Memᴰ rs lines → p rs ≡ true
unfolding each
mem_each p (q ∷ lines) h (Memᴰ.head e) = rw e (both_true (p q) (each p lines) h).0
mem_each p (q ∷ lines) h (Memᴰ.tail m) = mem_each p lines (both_true (p q) (each p lines) h).1 m
mem_each p [] h {rs} m = elim m [ ]

-- the first ranges of two lines are apart
apart : List Range → List Range → Bool
apart [] qs = true
apart (r ∷ rs) [] = true
apart (r ∷ rs) (q ∷ qs) = ltb r.hi q.lo || ltb q.hi r.lo

all_apart : List (List Range) → Bool
all_apart [] = true
all_apart (rs ∷ lines) = each (apart rs) lines && all_apart lines

utf8_apart : all_apart utf8 ≡ true
unfolding all_apart apart each utf8
utf8_apart = refl

leads_in : (r : Range) (rs : List Range) (b : ℕ) → eqb (met (r ∷ rs) (b ∷ [])) 1 ≡ true → within r.lo r.hi b ≡ true
unfolding met
leads_in r rs b h = by (within r.lo r.hi b) h
  where
    by : (q : Bool) → eqb (cond q (suc (met rs [])) 0) 1 ≡ true → q ≡ true
    by true h = refl
    by false h = absurd (true≢false (sym h))

in_both : (r q : Range) (b : ℕ) → within r.lo r.hi b ≡ true → within q.lo q.hi b ≡ true
    → (ltb r.hi q.lo || ltb q.hi r.lo) ≡ true → ⊥
in_both r q b e f h =
    let i = both_true (leb r.lo b) (leb b r.hi) e in
    let j = both_true (leb q.lo b) (leb b q.hi) f in
    let i₀ : r.lo ≤ b = leb-true r.lo b i.0 in
    let i₁ : b ≤ r.hi = leb-true b r.hi i.1 in
    let j₀ : q.lo ≤ b = leb-true q.lo b j.0 in
    let j₁ : b ≤ q.hi = leb-true b q.hi j.1 in
    either (ltb r.hi q.lo) (ltb q.hi r.lo) h
    (λ l. omega (arith, ltb-true r.hi q.lo l)) (λ l. omega (arith, ltb-true q.hi r.lo l))

apart_out : (rs qs : List Range) (b : ℕ) → apart rs qs ≡ true → eqb (met rs (b ∷ [])) 1 ≡ true → eqb (met qs (b ∷ [])) 1 ≡ true → ⊥
unfolding apart met
apart_out [] qs b h e f = true≢false (sym e)
apart_out (r ∷ rs) [] b h e f = true≢false (sym f)
apart_out (r ∷ rs) (q ∷ qs) b h e f = in_both r q b (leads_in r rs b e) (leads_in q qs b f) h

mem_line : (lines : List (List Range)) → all_apart lines ≡ true → {rs : List Range} → Memᴰ rs lines → (b : ℕ)
    → eqb (met rs (b ∷ [])) 1 ≡ true → line_in lines b ≡ rs
unfolding all_apart line_in
mem_line (q ∷ lines) h {rs} (Memᴰ.head e) b l =
    let m : eqb (met q (b ∷ [])) 1 ≡ true = rw e at l in
    rw m (sym e)
mem_line (q ∷ lines) h {rs} (Memᴰ.tail m) b l =
    let i = both_true (each (apart q) lines) (all_apart lines) h in
    let n : eqb (met q (b ∷ [])) 1 ≡ false
    = false_by (eqb (met q (b ∷ [])) 1) (λ e. apart_out q rs b (mem_each (apart q) lines i.0 m) e l) in
    rw n (mem_line lines i.1 m b l)
mem_line [] h {rs} m b l = elim m [ ]

-- A first byte lies in one line alone: the one that the rules take.
pub one_line : {rs : List Range} → Memᴰ rs utf8 → (b : ℕ) → eqb (met rs (b ∷ [])) 1 ≡ true → line_of b ≡ rs
one_line m b l = mem_line utf8 utf8_apart m b l

line_mem : (lines : List (List Range)) (b : ℕ) → 0 < length (line_in lines b) → Memᴰ (line_in lines b) lines
unfolding line_in
line_mem [] b h = absurd (let y : ⊥ = omega arith in y)
line_mem (q ∷ lines) b h = by (eqb (met q (b ∷ [])) 1) h (line_mem lines b)
  where
    by : (t : Bool) → 0 < length (cond t q (line_in lines b)) → (0 < length (line_in lines b) → Memᴰ (line_in lines b) lines)
        → Memᴰ (cond t q (line_in lines b)) (q ∷ lines)
    by true h ih = Memᴰ.head refl
    by false h ih = Memᴰ.tail (ih h)

-- none is empty, and no range is
full : List Range → Bool
full [] = true
full (r ∷ rs) = leb r.lo r.hi && full rs

some : List Range → Bool
some [] = false
some (r ∷ rs) = true

utf8_some : each some utf8 ≡ true
unfolding each some utf8
utf8_some = refl

line_full : (b : ℕ) → full (line_of b) ≡ true
unfolding each full utf8
line_full b = line_each full refl utf8 refl b

-- ---- a byte in each range

each_met : {rs : List Range} {c : List ℕ} → Each rs c → met rs c ≡ length rs
unfolding met
each_met end = refl
each_met (next {r} {rs} {b} {s} lo hi e) = rw (le-leb r.lo b lo, le-leb b r.hi hi) (ap suc (each_met e))

each_length : {rs : List Range} {c : List ℕ} → Each rs c → length c ≡ length rs
each_length end = refl
each_length (next lo hi e) = ap suc (each_length e)

in_next : (r : Range) (rs : List Range) (b : ℕ) (s : List ℕ) → within r.lo r.hi b ≡ true → Each rs s → Each (r ∷ rs) (b ∷ s)
in_next r rs b s w e =
    let i = both_true (leb r.lo b) (leb b r.hi) w in
    next (leb-true r.lo b i.0) (leb-true b r.hi i.1) e

-- what lies in ranges, and the least bytes of those that are left
lows : List Range → List ℕ
lows [] = []
lows (r ∷ rs) = r.lo ∷ lows rs

lows_each : (rs : List Range) → full rs ≡ true → Each rs (lows rs)
unfolding full lows
lows_each [] h = end
lows_each (r ∷ rs) h =
    let i = both_true (leb r.lo r.hi) (full rs) h in
    let l : r.lo ≤ r.lo = omega arith in
    next l (leb-true r.lo r.hi i.0) (lows_each rs i.1)

lows_length : (rs : List Range) → length (lows rs) ≡ length rs
unfolding lows
lows_length [] = refl
lows_length (r ∷ rs) = ap suc (lows_length rs)

filled : (rs : List Range) (s : List ℕ) → full rs ≡ true → met rs s ≡ length s → Each rs (s ++ lows (drop (length s) rs))
unfolding met full lows
filled rs [] h e = lows_each rs h
filled [] (b ∷ s) h e = absurd (let y : ⊥ = omega arith in y)
filled (r ∷ rs) (b ∷ s) h e = by (within r.lo r.hi b) refl e (filled rs s (both_true (leb r.lo r.hi) (full rs) h).1)
  where
    by : (q : Bool) → within r.lo r.hi b ≡ q → cond q (suc (met rs s)) 0 ≡ suc (length s)
        → (met rs s ≡ length s → Each rs (s ++ lows (drop (length s) rs))) → Each (r ∷ rs) (b ∷ (s ++ lows (drop (length s) rs)))
    by true w e ih = in_next r rs b _ w (ih (omega arith))
    by false w e ih = absurd (let y : ⊥ = omega arith in y)

met_each : (rs : List Range) (s : List ℕ) → met rs s ≡ length rs → Each rs (take (length rs) s)
unfolding met
met_each [] s e = end
met_each (r ∷ rs) [] e = absurd (let y : ⊥ = omega arith in y)
met_each (r ∷ rs) (b ∷ s) e = by (within r.lo r.hi b) refl e (met_each rs s)
  where
    by : (q : Bool) → within r.lo r.hi b ≡ q → cond q (suc (met rs s)) 0 ≡ suc (length rs)
        → (met rs s ≡ length rs → Each rs (take (length rs) s)) → Each (r ∷ rs) (b ∷ take (length rs) s)
    by true w e ih = in_next r rs b _ w (ih (omega arith))
    by false w e ih = absurd (let y : ⊥ = omega arith in y)

-- ---- characters

-- a character, as the rules find it
record Found (c : List ℕ) : Type 0 where
  lead : ℕ
  rest : List ℕ
  parts : c ≡ lead ∷ rest
  size : char_at c ≡ length c
  line : length (line_of lead) ≡ length c

each_found : {rs : List Range} {c : List ℕ} → Memᴰ rs utf8 → Each rs c → Found c
unfolding some met
each_found m end = absurd (true≢false (sym (mem_each some utf8 utf8_some m)))
each_found m (next {r} {rs} {b} {s} lo hi e) =
    let l : eqb (met (r ∷ rs) (b ∷ [])) 1 ≡ true = rw (le-leb r.lo b lo, le-leb b r.hi hi) (met_nil rs) in
    let f : line_of b ≡ r ∷ rs = one_line m b l in
    let g : met (line_of b) (b ∷ s) ≡ length (line_of b) = rw f (each_met (next {r = r} {rs = rs} {b = b} {s = s} lo hi e)) in
    let n : length (line_of b) ≡ suc (length s) = ap length f ∙ ap suc (sym (each_length e)) in
    record { lead = b; rest = s; parts = refl; size = front_char b s g ∙ n; line = n }
  where
    met_nil : (rs : List Range) → eqb (suc (met rs [])) 1 ≡ true
    met_nil [] = refl
    met_nil (q ∷ rs) = refl

char_found : {c : List ℕ} → Char c → Found c
char_found (char m e) = each_found m e

found_char : (s : List ℕ) (n : ℕ) → char_at s ≡ suc n → Char (take (suc n) s)
found_char [] n e = absurd (let y : ⊥ = omega (arith, char_nil) in y)
found_char (b ∷ s) n e =
    let w = char_whole b s (omega arith) in
    let k : length (line_of b) ≡ suc n = sym w.size ∙ e in
    char (line_mem utf8 b (omega arith)) (subst (λ (j : ℕ). Each (line_of b) (take j (b ∷ s))) k (met_each (line_of b) (b ∷ s) w.all))

-- ---- the theorems

found_valid : (c : List ℕ) → char_at c ≡ length c → valid c ≡ true
found_valid [] e = is_valid [] (omega arith)
found_valid (b ∷ s) e = is_valid (b ∷ s) (omega (arith, valid_some (b ∷ s) (length s) e))

octets_valid : {t : List ℕ} → Octets t → valid t ≡ true
octets_valid none = is_valid [] (omega arith)
octets_valid (more {c} {s} f o) = valid_both c s (found_valid c (char_found f).size) (octets_valid o)

valid_octets : (k : ℕ) (t : List ℕ) → length t ≤ k → valid t ≡ true → Octets t
valid_octets zero [] h v = none
valid_octets zero (b ∷ s) h v = absurd (let y : ⊥ = omega arith in y)
valid_octets (suc k) [] h v = none
valid_octets (suc k) (b ∷ s) h v = by (char_at (b ∷ s)) refl (λ t. valid_octets k t)
  where
    by : (n : ℕ) → char_at (b ∷ s) ≡ n → ((t : List ℕ) → length t ≤ k → valid t ≡ true → Octets t) → Octets (b ∷ s)
    by zero e ih = absurd (let y : ⊥ = omega (arith, valid_none (b ∷ s) e, valid_all (b ∷ s) v) in y)
    by (suc n) e ih =
        let l : length (drop (suc n) (b ∷ s)) ≡ length (b ∷ s) - suc n = length-drop (suc n) (b ∷ s) in
        let g : valid (drop (suc n) (b ∷ s)) ≡ true
        = is_valid (drop (suc n) (b ∷ s)) (omega (arith, valid_some (b ∷ s) n e, valid_all (b ∷ s) v)) in
        subst (λ (t : List ℕ). Octets t) (take-append-drop (suc n) (b ∷ s))
        (more {c = take (suc n) (b ∷ s)} {s = drop (suc n) (b ∷ s)} (found_char (b ∷ s) n e) (ih (drop (suc n) (b ∷ s)) (omega arith) g))

-- A text is valid exactly if it is UTF8-octets.
pub valid_exactly : (t : List ℕ) → (valid t ≡ true) ↔ Octets t
valid_exactly t = (valid_octets (length t) t (omega arith), octets_valid)

-- Its longest beginning that is has `valid_bytes` bytes.
pub longest : (t : List ℕ) → Octets (take (valid_bytes t) t) × ((n : ℕ) → n ≤ length t → Octets (take n t) → n ≤ valid_bytes t)
longest t = ((valid_exactly (take (valid_bytes t) t)).0 (valid_beginning t), λ n h o. valid_longest t n h (octets_valid o))

-- A list is cut exactly if it is a proper beginning of some character.
zero_char : Char (0 ∷ [])
unfolding utf8
zero_char = char (Memᴰ.head refl) (next {r = range 0x00 0x7F} {b = 0} (omega arith) (omega arith) end)

cut_begins : (s : List ℕ) → is_cut s ≡ true → Begins s
cut_begins [] h = record { missing = 0 ∷ []; some = omega arith; whole = zero_char }
cut_begins (b ∷ s) h =
    let c : Cut b s = cut_is b s h in
    record {
      missing = lows (drop (suc (length s)) (line_of b));
      some = omega (arith, c.short, lows_length (drop (suc (length s)) (line_of b)), length-drop (suc (length s)) (line_of b));
      whole = char (line_mem utf8 b (omega (arith, c.short))) (filled (line_of b) (b ∷ s) (line_full b) c.all);
    }

begins_cut : (s : List ℕ) → Begins s → is_cut s ≡ true
begins_cut [] h = cut_nil
begins_cut (b ∷ s) h =
    let f : Found (b ∷ (s ++ h.missing)) = char_found h.whole in
    let e : char_at (b ∷ (s ++ h.missing)) ≡ suc (length (s ++ h.missing)) = f.size in
    let w = char_whole b (s ++ h.missing) (omega arith) in
    let l : length (s ++ h.missing) ≡ length s + length h.missing = length-append s h.missing in
    is_cut_lem b s (record { all = by (dec_lt (met (line_of b) (b ∷ s)) (suc (length s))) w; short = omega (arith, w.size, h.some) })
  where
    by : Dec (met (line_of b) (b ∷ s) < suc (length s)) → Whole b (s ++ h.missing) → met (line_of b) (b ∷ s) ≡ suc (length s)
    by (yes l) w =
        let f : Found (b ∷ (s ++ h.missing)) = char_found h.whole in
        let e = met_stop (line_of b) (b ∷ s) h.missing l in
        absurd (let y : ⊥ = omega (arith, w.all, w.size, f.size, e, length-append s h.missing) in y)
    by (no l) w = omega (arith, met_le (line_of b) (b ∷ s))

pub cut_exactly : (s : List ℕ) → (is_cut s ≡ true) ↔ Begins s
cut_exactly s = (cut_begins s, begins_cut s)
