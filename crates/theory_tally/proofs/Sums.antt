-- Joining: where the sum of all fits, both groupings and both orders are answered, and are the same; the tally of nothing changes nothing.
use Prim.Native.Nat.{ℕ, suc, ◌+◌, ◌^◌, ◌<◌}
use mathlib.Core.Bool.{Bool, true, false, ◌&&◌}
use mathlib.Core.List.{List, [], ◌∷◌, ◌++◌}
use Rattle.std.specs.Prelude.{Result, Ok, Err}
use mathlib.Core.Path.{◌≡◌, refl, ap, sym, subst, ◌∙◌}
use native.Mathlib.Omega.{arith}
use native.Mathlib.Nat.{add_comm, add_assoc, add-zero}
use lib.Dec.{ltb}
use lib.ListN.{length, replicate, length-append}
use borrow.Author.Tests.{ltb-true, lt-ltb}
use Rattle.laws.proofs.Tests.{both_true, true_both}
use Rattle.rules_tally.specs.declared.Tally.{Tally}
use Rattle.rules_tally.specs.declared.CountTooLarge.{CountTooLarge}
use Rattle.rules_tally.specs.Tally.{tally_by, empty}
use Rattle.rules_tally.specs.Calls.{add_each, sum, counts_of, all_fit, fits, joined}

-- a tally as code has it: eleven units and five maps
pub record Shaped (t : Tally) : Type 0 where
  pub units : length t.units ≡ 11
  pub maps : length t.maps ≡ 5

-- ---- lists

each_comm : (xs ys : List ℕ) → add_each xs ys ≡ add_each ys xs
unfolding add_each
each_comm [] [] = refl
each_comm [] (y ∷ ys) = refl
each_comm (x ∷ xs) [] = refl
each_comm (x ∷ xs) (y ∷ ys) = rw (add_comm x y, each_comm xs ys)

each_assoc : (xs ys zs : List ℕ) → add_each (add_each xs ys) zs ≡ add_each xs (add_each ys zs)
unfolding add_each
each_assoc [] ys zs = refl
each_assoc (x ∷ xs) [] zs = refl
each_assoc (x ∷ xs) (y ∷ ys) [] = refl
each_assoc (x ∷ xs) (y ∷ ys) (z ∷ zs) = rw (add_assoc x y z, each_assoc xs ys zs)

pub each_length : (xs ys : List ℕ) → length xs ≡ length ys → length (add_each xs ys) ≡ length xs
unfolding add_each
each_length [] [] e = refl
each_length [] (y ∷ ys) e = refl
each_length (x ∷ xs) [] e = absurd (omega arith)
each_length (x ∷ xs) (y ∷ ys) e = ap suc (each_length xs ys (omega arith))

each_zeros : (xs : List ℕ) → add_each xs (replicate (length xs) 0) ≡ xs
unfolding add_each
each_zeros [] = refl
each_zeros (x ∷ xs) = rw (add-zero x, each_zeros xs)

zeros_each : (n : ℕ) (xs : List ℕ) → length xs ≡ n → add_each xs (replicate n 0) ≡ xs
zeros_each n xs e = subst (λ (k : ℕ). add_each xs (replicate k 0) ≡ xs) e (each_zeros xs)

pub fit_append : (xs ys : List ℕ) → all_fit (xs ++ ys) ≡ (all_fit xs && all_fit ys)
unfolding all_fit
fit_append [] ys = refl
fit_append (x ∷ xs) ys = by (ltb x (2 ^ 64)) (fit_append xs ys)
  where
    by : (b : Bool) → all_fit (xs ++ ys) ≡ (all_fit xs && all_fit ys) → (b && all_fit (xs ++ ys)) ≡ ((b && all_fit xs) && all_fit ys)
    by true e = e
    by false e = refl

-- a part of what fits
fit_part : (xs ys : List ℕ) → length xs ≡ length ys → all_fit (add_each xs ys) ≡ true → all_fit xs ≡ true
unfolding add_each all_fit
fit_part [] ys e h = refl
fit_part (x ∷ xs) [] e h = absurd (omega arith)
fit_part (x ∷ xs) (y ∷ ys) e h =
    let b = both_true (ltb (x + y) (2 ^ 64)) (all_fit (add_each xs ys)) h in
    let l : x + y < 2 ^ 64 = ltb-true _ _ b.0 in
    true_both (lt-ltb x (2 ^ 64) (omega arith)) (fit_part xs ys (omega arith) b.1)

-- ---- sums of tallies

pub sum_comm : (a b : Tally) → sum a b ≡ sum b a
unfolding sum
sum_comm a b =
    rw (each_comm a.units b.units, each_comm a.maps b.maps, add_comm a.events b.events, add_comm a.statements b.statements, add_comm a.max b.max, add_comm a.methods b.methods)

pub sum_assoc : (a b c : Tally) → sum (sum a b) c ≡ sum a (sum b c)
unfolding sum
sum_assoc a b c =
    rw (
      each_assoc a.units b.units c.units,
      each_assoc a.maps b.maps c.maps,
      add_assoc a.events b.events c.events,
      add_assoc a.statements b.statements c.statements,
      add_assoc a.max b.max c.max,
      add_assoc a.methods b.methods c.methods,
    )

pub sum_empty : (a : Tally) → Shaped a → sum a empty ≡ a
unfolding sum tally_by
sum_empty a h =
    let u : add_each a.units (replicate 11 0) ≡ a.units = zeros_each 11 a.units h.units in
    let m : add_each a.maps (replicate 5 0) ≡ a.maps = zeros_each 5 a.maps h.maps in
    rw (u, m, add-zero a.events, add-zero a.statements, add-zero a.max, add-zero a.methods)

pub sum_shaped : (a b : Tally) → Shaped a → Shaped b → Shaped (sum a b)
unfolding sum
sum_shaped a b h l = record {
  units = each_length a.units b.units (h.units ∙ sym l.units) ∙ h.units;
  maps = each_length a.maps b.maps (h.maps ∙ sym l.maps) ∙ h.maps;
}

-- the counts of a sum are the sums of the counts
each_append : (xs ys us vs : List ℕ) → length xs ≡ length us → add_each (xs ++ ys) (us ++ vs) ≡ add_each xs us ++ add_each ys vs
unfolding add_each
each_append [] ys [] vs e = refl
each_append [] ys (u ∷ us) vs e = absurd (omega arith)
each_append (x ∷ xs) ys [] vs e = absurd (omega arith)
each_append (x ∷ xs) ys (u ∷ us) vs e = ap (λ (l : List ℕ). (x + u) ∷ l) (each_append xs ys us vs (omega arith))

counts_sum : (a b : Tally) → Shaped a → Shaped b → counts_of (sum a b) ≡ add_each (counts_of a) (counts_of b)
unfolding sum counts_of add_each
counts_sum a b h l =
    sym (each_append a.units _ b.units _ (h.units ∙ sym l.units)
    ∙ ap (λ (x : List ℕ). add_each a.units b.units ++ x) (each_append a.maps _ b.maps _ (h.maps ∙ sym l.maps)))

counts_length : (a : Tally) → Shaped a → length (counts_of a) ≡ 20
unfolding counts_of
counts_length a h = simp length-append (omega (arith, h.units, h.maps))

-- the first part of a sum that fits
pub fits_part : (a b : Tally) → Shaped a → Shaped b → fits (sum a b) ≡ true → fits a ≡ true
fits_part a b h l e =
    fit_part (counts_of a) (counts_of b) (counts_length a h ∙ sym (counts_length b l)) (rw (counts_sum a b h l) at e)

-- ---- joining

-- all is added
abbrev pub whole : Tally → Result Tally CountTooLarge
whole t = Ok t

pub join_whole : (a b : Tally) → fits (sum a b) ≡ true → joined a b ≡ whole (sum a b)
unfolding joined
join_whole a b e = rw e

-- 70, and the first tally
pub join_refused : (a b : Tally) → fits (sum a b) ≡ false → joined a b ≡ Err (record { first = a })
unfolding joined
join_refused a b e = rw e

-- Where the sum of two fits, order does not matter.
pub join_order : (a b : Tally) → fits (sum a b) ≡ true → (joined a b ≡ whole (sum a b)) × (joined b a ≡ whole (sum a b))
join_order a b e = (join_whole a b e, join_whole b a (rw (sum_comm b a) e) ∙ ap whole (sum_comm b a))

-- Both groupings of three are answered.
pub record Grouped (a b c : Tally) : Type 0 where
  pub first_two : joined a b ≡ whole (sum a b)
  pub then_third : joined (sum a b) c ≡ whole (sum (sum a b) c)
  pub last_two : joined b c ≡ whole (sum b c)
  pub before_first : joined a (sum b c) ≡ whole (sum (sum a b) c)

-- Where the sum of three fits, both groupings are answered, with the same tally.
pub join_groups : (a b c : Tally) → Shaped a → Shaped b → Shaped c → fits (sum (sum a b) c) ≡ true → Grouped a b c
join_groups a b c h k l e =
    let r : fits (sum a (sum b c)) ≡ true = rw (← sum_assoc a b c) e in
    let q : fits (sum (sum b c) a) ≡ true = rw (sum_comm (sum b c) a) r in
    record {
      first_two = join_whole a b (fits_part (sum a b) c (sum_shaped a b h k) l e);
      then_third = join_whole (sum a b) c e;
      last_two = join_whole b c (fits_part (sum b c) a (sum_shaped b c k l) h q);
      before_first = join_whole a (sum b c) r ∙ ap whole (sym (sum_assoc a b c));
    }

-- The tally of nothing changes nothing, on either side.
pub join_empty : (a : Tally) → Shaped a → fits a ≡ true → (joined a empty ≡ whole a) × (joined empty a ≡ whole a)
join_empty a h e =
    let r : fits (sum a empty) ≡ true = rw (sum_empty a h) e in
    let o = join_order a empty r in
    (o.0 ∙ ap whole (sum_empty a h), o.1 ∙ ap whole (sum_empty a h))
