-- What is known of the bytes that a text may hold. Nothing else opens `valid_bytes`, `valid` and `cut_bytes`.
use mathlib.Core.Path.{◌≡◌, refl, ap, sym, ◌∙◌}
use mathlib.Core.Bool.{Bool, true, false, cond, true≢false}
use mathlib.Core.List.{List, [], ◌∷◌, ◌++◌}
use Prim.Native.Nat.{ℕ, zero, suc, ◌+◌, ◌≤◌, ◌<◌}
use native.Mathlib.Nat.{zero-add}
use native.Mathlib.Decide.{dec_lt}
use native.Mathlib.Omega.{arith}
use lib.Dec.{ltb}
use lib.ListN.{length, drop, take, get_or, length-append, take-append-drop, drop_of_length-le}
use lib.Seq.{drop-cons, drop-drop, length-take-le}
use borrow.Author.Tests.{eqb-true, eqb-false, eq-eqb, ne_eqb, lt-ltb, le-ltb, ltb-true, ltb-false}
use Rattle.rules.specs.declared.Outer.TheVariants.{TextTooLong, BadByte}
use Rattle.rules.specs.Outcomes.{Judged, unfit}
use Rattle.std.specs.declared.result.Result.TheVariants.{Ok, Err}
use Rattle.rules.specs.Text.{most_bytes, front, is_tail, char_at, is_cut, valid_from, valid_bytes, valid, cut_bytes, place_at, start_place, text_judged}
use Rattle.rules.specs.Edit.{window_bytes, window_valid}
use Rattle.laws.proofs.Fronts.{front_out, front_rest}
use Rattle.laws.proofs.Chars.{char_nil, char_le, char_four, char_low, char_lead, char_tails, char_join, char_back, cut_nil, cut_three, cut_lead, bad_stays}

-- ---- character by character: the first n bytes belong to the character that was read last

from_none : (b : ℕ) (s : List ℕ) → char_at (b ∷ s) ≡ 0 → valid_from 0 (b ∷ s) ≡ 0
unfolding valid_from
from_none b s e = rw (valid_from, e)

from_some : (b : ℕ) (s : List ℕ) (n : ℕ) → char_at (b ∷ s) ≡ suc n → valid_from 0 (b ∷ s) ≡ suc (valid_from n s)
unfolding valid_from
from_some b s n e = rw (valid_from, e)

-- a character's bytes but the first stand behind it
some_le : (b : ℕ) (s : List ℕ) (n : ℕ) → char_at (b ∷ s) ≡ suc n → n ≤ length s
some_le b s n e = omega (arith, char_le (b ∷ s))

from_le : (n : ℕ) (s : List ℕ) → valid_from n s ≤ length s
unfolding valid_from
from_le n [] = omega arith
from_le (suc n) (b ∷ s) = omega (arith, from_le n s)
from_le zero (b ∷ s) = by (char_at (b ∷ s)) refl (λ n. from_le n s)
  where
    by : (m : ℕ) → char_at (b ∷ s) ≡ m → ((n : ℕ) → valid_from n s ≤ length s) → valid_from 0 (b ∷ s) ≤ suc (length s)
    by zero e ih = omega (arith, from_none b s e)
    by (suc n) e ih = omega (arith, from_some b s n e, ih n)

from_skip : (n : ℕ) (s : List ℕ) → n ≤ length s → valid_from n s ≡ n + valid_from 0 (drop n s)
unfolding valid_from
from_skip zero s h = sym (zero-add _)
from_skip (suc n) [] h = absurd (let y : ⊥ = omega arith in y)
from_skip (suc n) (b ∷ s) h = omega (arith, from_skip n s (omega arith))

pub valid_none : (s : List ℕ) → char_at s ≡ 0 → valid_bytes s ≡ 0
unfolding valid_bytes valid_from
valid_none [] e = refl
valid_none (b ∷ s) e = from_none b s e

pub valid_some : (s : List ℕ) (n : ℕ) → char_at s ≡ suc n → valid_bytes s ≡ suc n + valid_bytes (drop (suc n) s)
unfolding valid_bytes
valid_some [] n e = absurd (let y : ⊥ = omega (arith, char_nil) in y)
valid_some (b ∷ s) n e = omega (arith, from_some b s n e, from_skip n s (some_le b s n e))

-- ---- a text is valid exactly if all of it is its longest valid beginning

pub valid_le : (t : List ℕ) → valid_bytes t ≤ length t
unfolding valid_bytes
valid_le t = from_le 0 t

pub valid_all : (t : List ℕ) → valid t ≡ true → valid_bytes t ≡ length t
unfolding valid
valid_all t h = eqb-true (valid_bytes t) (length t) h

pub valid_less : (t : List ℕ) → valid t ≡ false → valid_bytes t < length t
unfolding valid
valid_less t h =
    let l : valid_bytes t ≤ length t = valid_le t in
    let k : valid_bytes t ≡ length t → ⊥ = eqb-false _ _ h in
    omega arith

pub is_valid : (t : List ℕ) → length t ≤ valid_bytes t → valid t ≡ true
unfolding valid
is_valid t h = eq-eqb (valid_bytes t) (length t) (omega (arith, valid_le t))

pub is_bad : (t : List ℕ) → valid_bytes t < length t → valid t ≡ false
unfolding valid
is_bad t h = ne_eqb (valid_bytes t) (length t) (λ e. omega arith)

-- ---- 1 and 2

module _ (t : List ℕ) where
  pub text_long : most_bytes < length t → text_judged t ≡ Err (unfit TextTooLong start_place)
  unfolding text_judged
  text_long h = rw (lt-ltb most_bytes (length t) h)

  pub text_bad : length t ≤ most_bytes → valid t ≡ false → text_judged t ≡ Err (unfit BadByte (place_at t (valid_bytes t)))
  unfolding text_judged
  text_bad h v = rw (le-ltb most_bytes (length t) h, v)

  pub text_fine : length t ≤ most_bytes → valid t ≡ true → text_judged t ≡ Ok tt
  unfolding text_judged
  text_fine h v = rw (le-ltb most_bytes (length t) h, v)

  -- the only ways to judge a text
  pub data TextJudged : Judged → Type 0 where
    long : most_bytes < length t → TextJudged (Err (unfit TextTooLong start_place))
    bad : length t ≤ most_bytes → valid t ≡ false → TextJudged (Err (unfit BadByte (place_at t (valid_bytes t))))
    fine : length t ≤ most_bytes → valid t ≡ true → TextJudged (Ok tt)

  pub text_judged_lem : TextJudged (text_judged t)
  text_judged_lem = by (ltb most_bytes (length t)) refl (valid t) refl
    where
      by : (x : Bool) → ltb most_bytes (length t) ≡ x → (y : Bool) → valid t ≡ y → TextJudged (text_judged t)
      by true x y v = let l : most_bytes < length t = ltb-true _ _ x in rw (text_long l) (long l)
      by false x false v = let l : length t ≤ most_bytes = ltb-false _ _ x in rw (text_bad l v) (bad l v)
      by false x true v = let l : length t ≤ most_bytes = ltb-false _ _ x in rw (text_fine l v) (fine l v)

  pub fine_text : text_judged t ≡ Ok tt → (length t ≤ most_bytes) × (valid t ≡ true)
  fine_text e = by text_judged_lem e
    where
      by : {x : Judged} → TextJudged x → x ≡ Ok tt → (length t ≤ most_bytes) × (valid t ≡ true)
      by (long h) e = absurd (let z : ◌≡◌ {A = ℕ} 0 1 = cc in let y : ⊥ = omega arith in y)
      by (bad h v) e = absurd (let z : ◌≡◌ {A = ℕ} 0 1 = cc in let y : ⊥ = omega arith in y)
      by (fine h v) e = (h, v)

-- ---- at an index of a text

pub valid_end : (t : List ℕ) (i : ℕ) → length t ≤ i → valid_bytes (drop i t) ≡ 0
unfolding valid_bytes valid_from
valid_end t i h = rw (drop_of_length-le t h)

pub valid_low : (t : List ℕ) (i : ℕ) → i < length t → get_or t i 0 < 128 → valid_bytes (drop i t) ≡ 1 + valid_bytes (drop (i + 1) t)
valid_low t i h l =
    let e : char_at (drop i t) ≡ 1 = rw (drop-cons t i 0 h) (char_low (get_or t i 0) (drop (suc i) t) l) in
    valid_some (drop i t) 0 e ∙ rw (drop-drop 1 i t)

pub valid_char : (t : List ℕ) (i n : ℕ) → char_at (drop i t) ≡ n → 0 < n → valid_bytes (drop i t) ≡ n + valid_bytes (drop (i + n) t)
valid_char t i zero e h = absurd (let y : ⊥ = omega arith in y)
valid_char t i (suc n) e h = valid_some (drop i t) n e ∙ rw (drop-drop (suc n) i t)

-- bytes below 128 are valid
pub all_low : (t : List ℕ) → ((k : ℕ) → k < length t → get_or t k 0 < 128) → valid_bytes t ≡ length t
unfolding valid_bytes valid_from
all_low [] h = refl
all_low (b ∷ s) h = from_some b s 0 (char_low b s (h 0 (omega arith))) ∙ ap suc (all_low s (λ k l. h (suc k) (omega arith)))

pub valid_nil : valid [] ≡ true
valid_nil = is_valid [] (omega arith)

pub valid_one : (b : ℕ) → b < 128 → valid (b ∷ []) ≡ true
unfolding valid_bytes valid_from
valid_one b h = is_valid (b ∷ []) (omega (arith, from_some b [] 0 (char_low b [] h)))

-- ---- behind a valid text

from_join : (u : List ℕ) (n : ℕ) (v : List ℕ) → n ≤ length u → valid_from n u ≡ length u
    → valid_from n (u ++ v) ≡ length u + valid_from 0 v
unfolding valid_from
from_join [] zero v h e = sym (zero-add _)
from_join [] (suc n) v h e = absurd (let y : ⊥ = omega arith in y)
from_join (b ∷ u) (suc n) v h e = omega (arith, from_join u n v (omega arith) (omega arith))
from_join (b ∷ u) zero v h e = by (char_at (b ∷ u)) refl (λ n. from_join u n v)
  where
    by : (m : ℕ) → char_at (b ∷ u) ≡ m
        → ((n : ℕ) → n ≤ length u → valid_from n u ≡ length u → valid_from n (u ++ v) ≡ length u + valid_from 0 v)
        → valid_from 0 (b ∷ (u ++ v)) ≡ suc (length u) + valid_from 0 v
    by zero f ih = absurd (let y : ⊥ = omega (arith, from_none b u f) in y)
    by (suc n) f ih =
        let g : valid_from 0 (b ∷ (u ++ v)) ≡ suc (valid_from n (u ++ v)) = from_some b (u ++ v) n (char_join (b ∷ u) v (omega arith) ∙ f) in
        omega (arith, ih n (some_le b u n f) (omega (arith, from_some b u n f)))

pub valid_join : (u v : List ℕ) → valid u ≡ true → valid_bytes (u ++ v) ≡ length u + valid_bytes v
unfolding valid_bytes
valid_join u v h = from_join u 0 v (omega arith) (valid_all u h)

pub valid_both : (u v : List ℕ) → valid u ≡ true → valid v ≡ true → valid (u ++ v) ≡ true
valid_both u v h k = is_valid (u ++ v) (omega (arith, valid_join u v h, valid_all v k, length-append u v))

pub valid_behind : (u v : List ℕ) → valid u ≡ true → valid (u ++ v) ≡ true → valid v ≡ true
valid_behind u v h k = is_valid v (omega (arith, valid_join u v h, valid_all (u ++ v) k, length-append u v))

-- ---- the longest valid beginning: it is one, and none is longer

from_take : (t : List ℕ) (n : ℕ) → n ≤ length t → valid_from n (take (valid_from n t) t) ≡ valid_from n t
unfolding valid_from
from_take [] zero h = refl
from_take [] (suc n) h = absurd (let y : ⊥ = omega arith in y)
from_take (b ∷ s) (suc n) h = ap suc (from_take s n (omega arith))
from_take (b ∷ s) zero h = by (char_at (b ∷ s)) refl (λ n. from_take s n)
  where
    by : (m : ℕ) → char_at (b ∷ s) ≡ m → ((n : ℕ) → n ≤ length s → valid_from n (take (valid_from n s) s) ≡ valid_from n s)
        → valid_from 0 (take (valid_from 0 (b ∷ s)) (b ∷ s)) ≡ valid_from 0 (b ∷ s)
    by zero e ih = rw (from_none b s e)
    by (suc n) e ih =
        let f : valid_from n s ≡ n + valid_from 0 (drop n s) = from_skip n s (some_le b s n e) in
        let k : length (take (valid_from n s) s) ≡ valid_from n s = length-take-le (valid_from n s) s (from_le n s) in
        let j : (b ∷ take (valid_from n s) s) ++ drop (valid_from n s) s ≡ b ∷ s = ap (◌∷◌ b) (take-append-drop (valid_from n s) s) in
        let g : char_at (b ∷ take (valid_from n s) s) ≡ suc n
        = char_back (b ∷ take (valid_from n s) s) (drop (valid_from n s) s) (rw (j, e) (omega arith)) ∙ rw (j, e) in
        rw (from_some b s n e) (from_some b (take (valid_from n s) s) n g ∙ ap suc (ih n (some_le b s n e)))

pub valid_beginning : (t : List ℕ) → valid (take (valid_bytes t) t) ≡ true
unfolding valid_bytes
valid_beginning t =
    is_valid (take (valid_from 0 t) t) (omega (arith, from_take t 0 (omega arith), length-take-le (valid_from 0 t) t (from_le 0 t)))

pub valid_longest : (t : List ℕ) (n : ℕ) → n ≤ length t → valid (take n t) ≡ true → n ≤ valid_bytes t
valid_longest t n h v =
    let e : valid_bytes t ≡ length (take n t) + valid_bytes (drop n t)
    = ap valid_bytes (sym (take-append-drop n t)) ∙ valid_join (take n t) (drop n t) v in
    omega (arith, length-take-le n t h)

-- ---- a byte that is no tail starts a character of a valid text, so that both sides of its place are valid

record Sides (n : ℕ) (x y : List ℕ) : Type 0 where
  inside : n ≤ length x
  left : valid_from n x ≡ length x
  right : valid_from 0 y ≡ length y

from_sides : (x : List ℕ) (n : ℕ) (b : ℕ) (y : List ℕ) → is_tail b ≡ false → n ≤ front is_tail (x ++ (b ∷ y))
    → valid_from n (x ++ (b ∷ y)) ≡ length (x ++ (b ∷ y)) → Sides n x (b ∷ y)
unfolding valid_from
from_sides [] zero b y h f e = record { inside = omega arith; left = refl; right = e }
from_sides [] (suc n) b y h f e = absurd (let z : ⊥ = omega (arith, front_out is_tail b y h) in z)
from_sides (c ∷ x) (suc n) b y h f e = on (from_sides x n b y h (front_rest is_tail c (x ++ (b ∷ y)) n f) (omega arith))
  where
    on : Sides n x (b ∷ y) → Sides (suc n) (c ∷ x) (b ∷ y)
    on s = record { inside = omega arith; left = ap suc s.left; right = s.right }
from_sides (c ∷ x) zero b y h f e = by (char_at (c ∷ (x ++ (b ∷ y)))) refl (λ n. from_sides x n b y h)
  where
    on : (n : ℕ) → char_at (c ∷ (x ++ (b ∷ y))) ≡ suc n → Sides n x (b ∷ y) → Sides 0 (c ∷ x) (b ∷ y)
    on n g s =
        let k : n ≤ length x = s.inside in
        record {
          inside = omega arith;
          left = from_some c x n (char_back (c ∷ x) (b ∷ y) (rw g (omega arith)) ∙ g) ∙ ap suc s.left;
          right = s.right;
        }

    by : (m : ℕ) → char_at (c ∷ (x ++ (b ∷ y))) ≡ m
        → ((n : ℕ) → n ≤ front is_tail (x ++ (b ∷ y)) → valid_from n (x ++ (b ∷ y)) ≡ length (x ++ (b ∷ y)) → Sides n x (b ∷ y))
        → Sides 0 (c ∷ x) (b ∷ y)
    by zero g ih = absurd (let z : ⊥ = omega (arith, from_none c (x ++ (b ∷ y)) g) in z)
    by (suc n) g ih =
        on n g (ih n (char_tails c (x ++ (b ∷ y)) n g) (omega (arith, from_some c (x ++ (b ∷ y)) n g)))

pub valid_sides : (x : List ℕ) (b : ℕ) (y : List ℕ) → is_tail b ≡ false → valid (x ++ (b ∷ y)) ≡ true
    → (valid x ≡ true) × (valid (b ∷ y) ≡ true)
unfolding valid_bytes
valid_sides x b y h v =
    let s : Sides 0 x (b ∷ y) = from_sides x 0 b y h (omega arith) (valid_all (x ++ (b ∷ y)) v) in
    (is_valid x (omega (arith, s.left)), is_valid (b ∷ y) (omega (arith, s.right)))

-- ---- where the end may cut a character

pub cut_le : (t : List ℕ) → cut_bytes t ≤ length t
unfolding cut_bytes
cut_le t = by (is_cut (drop (valid_bytes t) t))
  where
    by : (q : Bool) → cond q (length t) (valid_bytes t) ≤ length t
    by true = omega arith
    by false = valid_le t

-- a valid text is valid so too
pub valid_cut : (t : List ℕ) → valid t ≡ true → cut_bytes t ≡ length t
unfolding cut_bytes
valid_cut t h = rw (valid_all t h, drop_of_length-le t {i = length t} (omega arith), cut_nil)

-- what breaks a part of a text breaks the text, at the same place
from_stop : (n : ℕ) (u v : List ℕ) → n ≤ length u → is_cut (drop (valid_from n u) u) ≡ false → valid_from n (u ++ v) ≡ valid_from n u
unfolding valid_from
from_stop n [] v h e = absurd (true≢false (sym cut_nil ∙ e))
from_stop (suc n) (b ∷ u) v h e = ap suc (from_stop n u v (omega arith) e)
from_stop zero (b ∷ u) v h e = by (char_at (b ∷ u)) refl (λ n. from_stop n u v)
  where
    by : (m : ℕ) → char_at (b ∷ u) ≡ m
        → ((n : ℕ) → n ≤ length u → is_cut (drop (valid_from n u) u) ≡ false → valid_from n (u ++ v) ≡ valid_from n u)
        → valid_from 0 (b ∷ (u ++ v)) ≡ valid_from 0 (b ∷ u)
    by zero f ih = from_none b (u ++ v) (bad_stays b u v f (rw (from_none b u f) at e)) ∙ sym (from_none b u f)
    by (suc n) f ih =
        from_some b (u ++ v) n (char_join (b ∷ u) v (omega arith) ∙ f)
        ∙ ap suc (ih n (some_le b u n f) (rw (from_some b u n f) at e)) ∙ sym (from_some b u n f)

-- the two ways for a part of a text
pub data Parted (t : List ℕ) : ℕ → Type 0 where
  cut : is_cut (drop (valid_bytes t) t) ≡ true → Parted t (length t)
  broken : is_cut (drop (valid_bytes t) t) ≡ false → Parted t (valid_bytes t)

pub parted : (t : List ℕ) → Parted t (cut_bytes t)
unfolding cut_bytes
parted t = by (is_cut (drop (valid_bytes t) t)) refl
  where
    by : (q : Bool) → is_cut (drop (valid_bytes t) t) ≡ q → Parted t (cond q (length t) (valid_bytes t))
    by true e = cut e
    by false e = broken e

pub cut_stays : (u v : List ℕ) → cut_bytes u < length u → valid_bytes (u ++ v) ≡ cut_bytes u
unfolding valid_bytes
cut_stays u v h = by (parted u) h
  where
    by : {n : ℕ} → Parted u n → n < length u → valid_from 0 (u ++ v) ≡ n
    by (cut e) h = absurd (let y : ⊥ = omega arith in y)
    by (broken e) h = from_stop 0 u v (omega arith) e

-- The last character of a part of a text, which its end may cut: it has four bytes at most, the first of them is no tail, and what stands
-- before it is valid.
pub record Ends (n : ℕ) (t : List ℕ) : Type 0 where
  pub before : List ℕ
  pub lead : ℕ
  pub more : List ℕ
  pub parts : t ≡ before ++ (lead ∷ more)
  pub proper : is_tail lead ≡ false
  pub four : length (lead ∷ more) ≤ 4
  pub inside : n ≤ length before
  pub valid : valid_from n before ≡ length before

from_last : (n : ℕ) (t : List ℕ) → n < length t → is_cut (drop (valid_from n t) t) ≡ true → Ends n t
unfolding valid_from
from_last n [] h e = absurd (let y : ⊥ = omega arith in y)
from_last (suc n) (b ∷ s) h e = on (from_last n s (omega arith) e)
  where
    on : Ends n s → Ends (suc n) (b ∷ s)
    on l = record {
      before = b ∷ l.before;
      lead = l.lead;
      more = l.more;
      parts = ap (◌∷◌ b) l.parts;
      proper = l.proper;
      four = l.four;
      inside = omega (arith, l.inside);
      valid = ap suc l.valid;
    }
from_last zero (b ∷ s) h e = by (char_at (b ∷ s)) refl (λ n. from_last n s)
  where
    alone : is_tail b ≡ false → suc (length s) ≤ 4 → Ends 0 (b ∷ s)
    alone p f =
        record { before = []; lead = b; more = s; parts = refl; proper = p; four = f; inside = omega arith; valid = refl }

    on : (n : ℕ) → char_at (b ∷ s) ≡ suc n → Ends n s → Ends 0 (b ∷ s)
    on n f l =
        let k : n ≤ length l.before = l.inside in
        let p : b ∷ s ≡ (b ∷ l.before) ++ (l.lead ∷ l.more) = ap (◌∷◌ b) l.parts in
        let g : char_at ((b ∷ l.before) ++ (l.lead ∷ l.more)) ≡ suc n = ap char_at (sym p) ∙ f in
        record {
          before = b ∷ l.before;
          lead = l.lead;
          more = l.more;
          parts = p;
          proper = l.proper;
          four = l.four;
          inside = omega arith;
          valid = from_some b l.before n (char_back (b ∷ l.before) (l.lead ∷ l.more) (rw g (omega arith)) ∙ g) ∙ ap suc l.valid;
        }

    more : (n : ℕ) → char_at (b ∷ s) ≡ suc n → (n < length s → Ends n s) → Dec (n < length s) → Ends 0 (b ∷ s)
    more n f ih (yes l) = on n f (ih l)
    more n f ih (no l) = alone (char_lead b s (omega arith)) (omega (arith, char_four (b ∷ s)))

    by : (m : ℕ) → char_at (b ∷ s) ≡ m → ((n : ℕ) → n < length s → is_cut (drop (valid_from n s) s) ≡ true → Ends n s) → Ends 0 (b ∷ s)
    by zero f ih =
        let c : is_cut (b ∷ s) ≡ true = rw (from_none b s f) at e in
        alone (cut_lead b s c) (omega (arith, cut_three b s c))
    by (suc n) f ih = more n f (λ l. ih n l (rw (from_some b s n f) at e)) (dec_lt n (length s))

pub last_char : (t : List ℕ) → 0 < length t → cut_bytes t ≡ length t → Ends 0 t
unfolding valid_bytes
last_char t h e = by (parted t) e
  where
    by : {n : ℕ} → Parted t n → n ≡ length t → Ends 0 t
    by (cut c) e = from_last 0 t h c
    by (broken c) e =
        absurd (true≢false (sym cut_nil ∙ ap is_cut (sym (drop_of_length-le t {i = valid_bytes t} (omega arith))) ∙ c))

pub before_valid : {t : List ℕ} (l : Ends 0 t) → valid l.before ≡ true
unfolding valid_bytes
before_valid l = is_valid l.before (omega (arith, l.valid))

-- ---- a window, which may end the text or not

pub window_whole : (w : List ℕ) → window_bytes true w ≡ valid_bytes w
unfolding window_bytes
window_whole w = refl

pub window_cut : (w : List ℕ) → is_cut (drop (valid_bytes w) w) ≡ true → window_bytes false w ≡ length w
unfolding window_bytes cut_bytes
window_cut w e = rw e

pub window_broken : (w : List ℕ) → is_cut (drop (valid_bytes w) w) ≡ false → window_bytes false w ≡ valid_bytes w
unfolding window_bytes cut_bytes
window_broken w e = rw e

pub window_le : (whole : Bool) (w : List ℕ) → window_bytes whole w ≤ length w
unfolding window_bytes
window_le true w = valid_le w
window_le false w = cut_le w

pub is_window_valid : (whole : Bool) (w : List ℕ) → length w ≤ window_bytes whole w → window_valid whole w ≡ true
unfolding window_valid
is_window_valid whole w h = eq-eqb (window_bytes whole w) (length w) (omega (arith, window_le whole w))

pub is_window_bad : (whole : Bool) (w : List ℕ) → window_bytes whole w < length w → window_valid whole w ≡ false
unfolding window_valid
is_window_bad whole w h = ne_eqb (window_bytes whole w) (length w) (λ e. omega arith)
