-- Counts side by side: each sum, whether all fit, and a loop that adds one after the other.
use Prim.Native.Nat.{ℕ, zero, suc, ◌+◌, ◌-◌, ◌^◌, ◌≤◌, ◌<◌}
use mathlib.Core.Bool.{Bool, true, false, ◌&&◌}
use mathlib.Core.List.{List, [], ◌∷◌, ◌++◌}
use mathlib.Core.Path.{◌≡◌, refl, ap, sym, ◌∙◌}
use native.Mathlib.Omega.{arith}
use lib.Dec.{leb, ltb}
use lib.ListN.{length, get_or, set, length-set}
use lib.Seq.{get_or-set_same, get_or-set_other, ext_get_or}
use borrow.Author.Tests.{ltb-true, ltb-false, lt-ltb, le-ltb, le-leb, lt-leb}
use Rattle.laws.proofs.Tests.{both_true, true_both}
use Rattle.rules_tally.specs.declared.Tally.{Tally}
use Rattle.rules_tally.specs.Calls.{add_each, sum, counts_of, all_fit, fits}
use Rattle.theory_tally.proofs.Sums.{each_length, fit_append}

-- ---- two counts

pub room_left : (a b : ℕ) → a < 2 ^ 64 → leb b (18446744073709551615 - a) ≡ ltb (a + b) (2 ^ 64)
room_left a b h = by (ltb (a + b) (2 ^ 64)) refl
  where
    by : (x : Bool) → ltb (a + b) (2 ^ 64) ≡ x → leb b (18446744073709551615 - a) ≡ x
    by true e = le-leb b (18446744073709551615 - a) (omega (arith, ltb-true (a + b) (2 ^ 64) e))
    by false e = lt-leb b (18446744073709551615 - a) (omega (arith, ltb-false (a + b) (2 ^ 64) e))

-- ---- at an index

pub each_at : (a b : List ℕ) → length a ≡ length b → (i : ℕ) → i < length a → get_or (add_each a b) i 0 ≡ get_or a i 0 + get_or b i 0
unfolding add_each
each_at [] b e i l = absurd (omega arith)
each_at (x ∷ a) [] e i l = absurd (omega arith)
each_at (x ∷ a) (y ∷ b) e zero l = refl
each_at (x ∷ a) (y ∷ b) e (suc i) l = each_at a b (omega arith) i (omega arith)

pub fit_at : (xs : List ℕ) → all_fit xs ≡ true → (i : ℕ) → i < length xs → get_or xs i 0 < 2 ^ 64
unfolding all_fit
fit_at [] h i l = absurd (omega arith)
fit_at (x ∷ xs) h zero l = ltb-true x (2 ^ 64) (both_true (ltb x (2 ^ 64)) (all_fit xs) h).0
fit_at (x ∷ xs) h (suc i) l = fit_at xs (both_true (ltb x (2 ^ 64)) (all_fit xs) h).1 i (omega arith)

pub all_fitting : (xs : List ℕ) → ((i : ℕ) → i < length xs → get_or xs i 0 < 2 ^ 64) → all_fit xs ≡ true
unfolding all_fit
all_fitting [] h = refl
all_fitting (x ∷ xs) h = true_both (lt-ltb x (2 ^ 64) (h 0 (omega arith))) (all_fitting xs (λ i l. h (suc i) (omega arith)))

pub unfit_at : (xs : List ℕ) (i : ℕ) → i < length xs → 2 ^ 64 ≤ get_or xs i 0 → all_fit xs ≡ false
unfolding all_fit
unfit_at [] i l h = absurd (omega arith)
unfit_at (x ∷ xs) zero l h = rw (le-ltb x (2 ^ 64) h)
unfit_at (x ∷ xs) (suc i) l h = and_false (ltb x (2 ^ 64)) (unfit_at xs i (omega arith) h)
  where
    and_false : (b : Bool) {c : Bool} → c ≡ false → (b && c) ≡ false
    and_false true p = p
    and_false false p = refl

-- ---- the loop that tries

pub record Tried (a b : List ℕ) (i : ℕ) : Type 0 where
  pub within : i ≤ length a
  pub fit : (j : ℕ) → j < i → get_or (add_each a b) j 0 < 2 ^ 64

pub tried_start : (a b : List ℕ) → Tried a b 0
tried_start a b = record { within = omega arith; fit = λ j l. absurd (omega arith) }

module _ (a b : List ℕ) (e : length a ≡ length b) (i : ℕ) (t : Tried a b i) where
  pub tried_next : i < length a → get_or a i 0 + get_or b i 0 < 2 ^ 64 → Tried a b (i + 1)
  tried_next l h = record { within = omega arith; fit = λ j m. by (ltb j i) refl m }
    where
      by : {j : ℕ} (x : Bool) → ltb j i ≡ x → j < i + 1 → get_or (add_each a b) j 0 < 2 ^ 64
      by {j} true p m = t.fit j (ltb-true j i p)
      by {j} false p m =
          let s : j ≡ i = omega (arith, ltb-false j i p) in
          rw (s, each_at a b e i l) h

  pub tried_all : length a ≤ i → all_fit (add_each a b) ≡ true
  tried_all l = all_fitting (add_each a b) (λ j m. t.fit j (omega (arith, each_length a b e)))

  pub tried_none : i < length a → 2 ^ 64 ≤ get_or a i 0 + get_or b i 0 → all_fit (add_each a b) ≡ false
  tried_none l h =
      let k : i < length (add_each a b) = omega (arith, each_length a b e) in
      unfit_at (add_each a b) i k (rw (each_at a b e i l) h)

-- ---- the loop that adds

pub record Adding (a₀ b a : List ℕ) (i : ℕ) : Type 0 where
  pub within : i ≤ length b
  pub same : length a ≡ length a₀
  pub done : (j : ℕ) → j < i → get_or a j 0 ≡ get_or (add_each a₀ b) j 0
  pub rest : (j : ℕ) → i ≤ j → get_or a j 0 ≡ get_or a₀ j 0

pub adding_start : (a b : List ℕ) → Adding a b a 0
adding_start a b = record { within = omega arith; same = refl; done = λ j l. absurd (omega arith); rest = λ j l. refl }

module _ (a₀ b a : List ℕ) (e : length a₀ ≡ length b) (i : ℕ) (t : Adding a₀ b a i) where
  pub adding_fits : i < length b → all_fit (add_each a₀ b) ≡ true → get_or a i 0 + get_or b i 0 < 2 ^ 64
  adding_fits l h =
      let k : i < length (add_each a₀ b) = omega (arith, each_length a₀ b e) in
      let m : i < length a₀ = omega arith in
      omega (arith, fit_at (add_each a₀ b) h i k, each_at a₀ b e i m, t.rest i (omega arith))

  pub adding_next : i < length b → Adding a₀ b (set a i (get_or a i 0 + get_or b i 0)) (i + 1)
  adding_next l = record {
    within = omega arith;
    same = length-set a i _ ∙ t.same;
    done = λ j m. by (ltb j i) refl m;
    rest = λ j m. get_or-set_other a i j _ 0 (λ s. omega (arith, s)) ∙ t.rest j (omega arith);
  }
    where
      by : {j : ℕ} (x : Bool) → ltb j i ≡ x → j < i + 1 → get_or (set a i (get_or a i 0 + get_or b i 0)) j 0 ≡ get_or (add_each a₀ b) j 0
      by {j} true p m =
          let n : j < i = ltb-true j i p in
          get_or-set_other a i j _ 0 (λ s. omega (arith, s)) ∙ t.done j n
      by {j} false p m =
          let s : j ≡ i = omega (arith, ltb-false j i p) in
          let k : i < length a = omega (arith, t.same) in
          rw s
          (get_or-set_same a i _ 0 k ∙ ap (λ (x : ℕ). x + get_or b i 0) (t.rest i (omega arith))
          ∙ sym (each_at a₀ b e i (omega arith)))

  pub adding_end : length b ≤ i → a ≡ add_each a₀ b
  adding_end l = ext_get_or 0 a (add_each a₀ b) (t.same ∙ sym (each_length a₀ b e)) (λ j m. t.done j (omega (arith, t.same)))

-- ---- the twenty sums

pub parts_fit : (a b : Tally)
    → fits (sum a b)
    ≡ (all_fit (add_each a.units b.units)
    && (all_fit (add_each a.maps b.maps)
    && (ltb (a.events + b.events) (2 ^ 64)
    && (ltb (a.statements + b.statements) (2 ^ 64) && (ltb (a.max + b.max) (2 ^ 64) && (ltb (a.methods + b.methods) (2 ^ 64) && true))))))
unfolding sum counts_of all_fit
parts_fit a b =
    let u : List ℕ = add_each a.units b.units in
    let m : List ℕ = add_each a.maps b.maps in
    let l : List ℕ = (a.events + b.events) ∷ (a.statements + b.statements) ∷ (a.max + b.max) ∷ (a.methods + b.methods) ∷ [] in
    fit_append u (m ++ l) ∙ ap (λ (x : Bool). all_fit u && x) (fit_append m l)

-- what it says of each part that all fit
pub record Fitting (a b : Tally) : Type 0 where
  pub units : all_fit (add_each a.units b.units) ≡ true
  pub maps : all_fit (add_each a.maps b.maps) ≡ true
  pub events : a.events + b.events < 2 ^ 64
  pub statements : a.statements + b.statements < 2 ^ 64
  pub max : a.max + b.max < 2 ^ 64
  pub methods : a.methods + b.methods < 2 ^ 64

pub fitting : (a b : Tally) → fits (sum a b) ≡ true → Fitting a b
fitting a b h =
    let u = both_true _ _ (sym (parts_fit a b) ∙ h) in
    let m = both_true _ _ u.1 in
    let e = both_true _ _ m.1 in
    let s = both_true _ _ e.1 in
    let x = both_true _ _ s.1 in
    let t = both_true _ _ x.1 in
    record {
      units = u.0;
      maps = m.0;
      events = ltb-true _ _ e.0;
      statements = ltb-true _ _ s.0;
      max = ltb-true _ _ x.0;
      methods = ltb-true _ _ t.0;
    }
