-- Laws of lists added place by place: one more place, bounds, sums, and the check of bytes that stand in strips.
use mathlib.Core.Path.{◌≡◌, refl, sym, ap, ◌∙◌}
use mathlib.Core.List.{List, [], ◌∷◌, ◌++◌}
use Prim.Native.Nat.{ℕ, zero, suc, ◌+◌, ◌-◌, ◌*◌, ◌≤◌, ◌<◌}
use native.Mathlib.Nat.{not-suc-le-zero, le_of_suc-le-suc}
use native.Mathlib.Numerals.{add-one}
use native.Mathlib.Omega.{arith}
use lib.ListN.{length, take, drop, get_or, set, replicate, length-drop, take-append-drop, drop_of_length-le}
use lib.Seq.{take-suc, drop-drop, length-take-le, take_all}
use Rattle.rules_files.specs.Blocks.{sum_from, check}
use Rattle.file_check.specs.Columns.{plus, strip, total, Within}
use Rattle.file_check.proofs.Laws.{check_more}

-- ---- one place more

plus_nil : (xs : List ℕ) → plus xs [] ≡ xs
unfolding plus
plus_nil [] = refl
plus_nil (x ∷ xs) = refl

pub plus_length : (xs ys : List ℕ) → length (plus xs ys) ≡ length xs
unfolding plus
plus_length [] ys = refl
plus_length (x ∷ xs) [] = refl
plus_length (x ∷ xs) (y ∷ ys) = ap suc (plus_length xs ys)

-- behind the places that were added nothing has changed
pub plus_front : (xs ys : List ℕ) (i : ℕ) → get_or (plus xs (take i ys)) i 0 ≡ get_or xs i 0
unfolding plus
plus_front [] ys i = refl
plus_front (x ∷ xs) ys zero = refl
plus_front (x ∷ xs) [] (suc i) = refl
plus_front (x ∷ xs) (y ∷ ys) (suc i) = plus_front xs ys i

pub plus_none : (xs ys : List ℕ) → plus xs (take 0 ys) ≡ xs
plus_none xs ys = plus_nil xs

pub plus_more : (xs ys : List ℕ) (i : ℕ) → i < length xs → i < length ys
    → set (plus xs (take i ys)) i (get_or xs i 0 + get_or ys i 0) ≡ plus xs (take (suc i) ys)
unfolding plus
plus_more [] ys i h k = absurd (not-suc-le-zero h)
plus_more (x ∷ xs) [] i h k = absurd (not-suc-le-zero k)
plus_more (x ∷ xs) (y ∷ ys) zero h k = ap (λ (r : List ℕ). (x + y) ∷ r) (sym (plus_nil xs))
plus_more (x ∷ xs) (y ∷ ys) (suc i) h k = ap (λ (r : List ℕ). (x + y) ∷ r) (plus_more xs ys i (le_of_suc-le-suc h) (le_of_suc-le-suc k))

-- the store that a loop makes, whose list so far is zs
module _ (xs ys zs : List ℕ) (i : ℕ) (e : zs ≡ plus xs (take i ys)) where
  pub plus_stored : (v : ℕ) → v ≡ get_or ys i 0 → i < length xs → i < length ys → set zs i (get_or zs i 0 + v) ≡ plus xs (take (i + 1) ys)
  plus_stored v w h k = rw (e, w, plus_front xs ys i, add-one i) (plus_more xs ys i h k)

  pub stored_within : (m : ℕ) → Within m xs → get_or zs i 0 ≤ m
  stored_within m h = rw (e, plus_front xs ys i) (h.at i)

-- ---- bounds

plus_bound : (xs ys : List ℕ) (i : ℕ) → get_or (plus xs ys) i 0 ≤ get_or xs i 0 + get_or ys i 0
unfolding plus
plus_bound [] ys i = omega arith
plus_bound (x ∷ xs) [] i = omega arith
plus_bound (x ∷ xs) (y ∷ ys) zero = omega arith
plus_bound (x ∷ xs) (y ∷ ys) (suc i) = plus_bound xs ys i

pub within_plus : (m n : ℕ) (xs ys : List ℕ) → Within m xs → Within n ys → Within (m + n) (plus xs ys)
within_plus m n xs ys h k = record { at = λ i. omega (arith, plus_bound xs ys i, h.at i, k.at i) }

pub within_less : (m n : ℕ) (xs : List ℕ) → m ≤ n → Within m xs → Within n xs
within_less m n xs l h = record { at = λ i. omega (arith, h.at i) }

get_d_zeros : (n i : ℕ) → get_or {A = ℕ} (replicate n 0) i 0 ≡ 0
get_d_zeros zero i = refl
get_d_zeros (suc n) zero = refl
get_d_zeros (suc n) (suc i) = get_d_zeros n i

pub within_zeros : (m n : ℕ) → Within m (replicate n 0)
within_zeros m n = record { at = λ i. omega (arith, get_d_zeros n i) }

-- ---- sums

pub total_plus : (xs ys : List ℕ) → length ys ≤ length xs → total (plus xs ys) ≡ total xs + total ys
unfolding plus total
total_plus [] [] h = refl
total_plus [] (y ∷ ys) h = absurd (not-suc-le-zero h)
total_plus (x ∷ xs) [] h = omega arith
total_plus (x ∷ xs) (y ∷ ys) h = omega (arith, total_plus xs ys (le_of_suc-le-suc h))

pub sum_plus : (p : ℕ) (xs ys : List ℕ) → length ys ≤ length xs → sum_from p (plus xs ys) ≡ sum_from p xs + sum_from p ys
unfolding plus sum_from
sum_plus p [] [] h = refl
sum_plus p [] (y ∷ ys) h = absurd (not-suc-le-zero h)
sum_plus p (x ∷ xs) [] h = omega arith
sum_plus p (x ∷ xs) (y ∷ ys) h = omega (arith, sum_plus (suc p) xs ys (le_of_suc-le-suc h))

pub sum_zeros : (p n : ℕ) → sum_from p (replicate n 0) ≡ 0
unfolding sum_from
sum_zeros p zero = refl
sum_zeros p (suc n) = omega (arith, sum_zeros (suc p) n)

pub total_zeros : (n : ℕ) → total (replicate n 0) ≡ 0
unfolding total
total_zeros zero = refl
total_zeros (suc n) = omega (arith, total_zeros n)

total_append : (xs ys : List ℕ) → total (xs ++ ys) ≡ total xs + total ys
unfolding total
total_append [] ys = omega arith
total_append (x ∷ xs) ys = omega (arith, total_append xs ys)

pub total_more : (s : List ℕ) (i : ℕ) → i < length s → total (take (i + 1) s) ≡ total (take i s) + get_or s i 0
unfolding total
total_more s i h = rw (add-one i, take-suc s i 0 h, total_append (take i s) (get_or s i 0 ∷ [])) (omega arith)

sum_append : (p : ℕ) (xs ys : List ℕ) → sum_from p (xs ++ ys) ≡ sum_from p xs + sum_from (p + length xs) ys
unfolding sum_from
sum_append p [] ys = let e : p + 0 ≡ p = omega arith in rw e (omega arith)
sum_append p (x ∷ xs) ys = let e : p + suc (length xs) ≡ suc p + length xs = omega arith in rw e (omega (arith, sum_append (suc p) xs ys))

-- places that are counted from further on
sum_later : (d p : ℕ) (ys : List ℕ) → sum_from (p + d) ys ≡ sum_from p ys + d * total ys
unfolding sum_from total
sum_later d p [] = omega arith
sum_later d p (y ∷ ys) = let e : suc (p + d) ≡ suc p + d = omega arith in rw e (omega (arith, sum_later d (suc p) ys))

-- ---- the check of bytes that stand in strips

-- a strip in front of bytes
module _ (s : List ℕ) (at : ℕ) (h : at + 64 ≤ length s) where
  strip_first : drop at s ≡ strip at s ++ drop (at + 64) s
  strip_first = sym (take-append-drop 64 (drop at s)) ∙ rw drop-drop

  strip_length : length (strip at s) ≡ 64
  strip_length = length-take-le 64 (drop at s) (omega (arith, length-drop at s))

  total_strip : total (drop at s) ≡ total (strip at s) + total (drop (at + 64) s)
  total_strip = ap total strip_first ∙ total_append (strip at s) (drop (at + 64) s)

  check_strip : check (drop at s) ≡ check (strip at s) + (check (drop (at + 64) s) + 64 * total (drop (at + 64) s))
  unfolding check
  check_strip =
      let rest : List ℕ = drop (at + 64) s in
      let top : List ℕ = strip at s in
      ap (sum_from 1) strip_first ∙ sum_append 1 top rest ∙ rw strip_length (ap (λ (z : ℕ). sum_from 1 top + z) (sum_later 64 1 rest))

  -- the strip on the sums of those below it, and these on the sums of what stands below each of them
  module _ (sums below : List ℕ) (l : length sums ≡ 64) (m : length below ≡ 64) where
    pub total_on : total (drop (at + 64) s) ≡ total sums → total (drop at s) ≡ total (plus sums (strip at s))
    total_on e = omega (arith, total_strip, e, total_plus sums (strip at s) (omega (arith, strip_length)))

    pub check_on : total (drop (at + 64) s) ≡ total sums → check (drop (at + 64) s) ≡ check sums + 64 * total below
        → check (drop at s) ≡ check (plus sums (strip at s)) + 64 * total (plus below sums)
    unfolding check
    check_on e f =
        let top : List ℕ = strip at s in
        omega (arith, check_strip, e, f, sum_plus 1 sums top (omega (arith, strip_length)), total_plus below sums (omega arith))

-- what sums of columns say of strip r and those below it: each column's sum, and the sums of what stands below each of
-- these strips
pub record Summed (s : List ℕ) (r : ℕ) (sums below : List ℕ) : Type 0 where
  pub wide : length sums ≡ 64
  pub wide_below : length below ≡ 64
  pub few : Within (255 * (8 - r)) sums
  pub few_below : Within (2040 * (8 - r)) below
  pub totals : total (drop (64 * r) s) ≡ total sums
  pub checks : check (drop (64 * r) s) ≡ check sums + 64 * total below

pub summed_none : (s : List ℕ) → length s ≡ 512 → Summed s 8 (replicate 64 0) (replicate 64 0)
unfolding check sum_from total
summed_none s h =
    let e : drop 512 s ≡ [] = drop_of_length-le s {i = 512} (omega arith) in
    record {
      wide = refl;
      wide_below = refl;
      few = within_zeros 0 64;
      few_below = within_zeros 0 64;
      totals = ap total e;
      checks = ap check e;
    }

module _ (s : List ℕ) (r k : ℕ) (sums below : List ℕ) (h : length s ≡ 512) (e : r ≡ k + 1) (l : r ≤ 8) (z : Summed s r sums below) where
  next : 64 * r ≡ 64 * k + 64
  next = omega arith

  inside : 64 * k + 64 ≤ length s
  inside = omega arith

  pub summed_more : Within 255 (strip (64 * k) s) → Summed s k (plus sums (strip (64 * k) s)) (plus below sums)
  summed_more b =
      let top : List ℕ = strip (64 * k) s in
      let t : total (drop (64 * k + 64) s) ≡ total sums = rw next at z.totals in
      let u : check (drop (64 * k + 64) s) ≡ check sums + 64 * total below = rw next at z.checks in
      record {
        wide = plus_length sums top ∙ z.wide;
        wide_below = plus_length below sums ∙ z.wide_below;
        few = within_less _ (255 * (8 - k)) _ (omega arith) (within_plus (255 * (8 - r)) 255 sums top z.few b);
        few_below = within_less _ (2040 * (8 - k)) _ (omega arith) (within_plus _ (255 * (8 - r)) below sums z.few_below z.few);
        totals = total_on s (64 * k) inside sums below z.wide z.wide_below t;
        checks = check_on s (64 * k) inside sums below z.wide z.wide_below t u;
      }

-- no strip is left in front
pub summed_all : (s : List ℕ) (r : ℕ) (sums below : List ℕ) → r ≡ 0 → Summed s r sums below → check s ≡ check sums + 64 * total below
summed_all s r sums below e z = rw e at z.checks

-- the last four bytes of a block
pub check_own : (s : List ℕ) → length s ≡ 512
    → check s ≡ check (take 508 s) + (get_or s 508 0 * 509 + get_or s 509 0 * 510 + get_or s 510 0 * 511 + get_or s 511 0 * 512)
check_own s h =
    let e : take 512 s ≡ s = take_all 512 s (omega arith) in
    let a = check_more s 508 (omega arith) in
    let b = check_more s 509 (omega arith) in
    ap check (sym e) ∙ omega (arith, a, b, check_more s 510 (omega arith), check_more s 511 (omega arith))
