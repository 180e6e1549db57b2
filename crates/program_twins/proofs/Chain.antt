-- Names given out in order: if as many came as there are heads, each head came, and two heads with one name stand side by side.
use mathlib.Core.Path.{◌≡◌, refl, sym, ap, ◌∙◌}
use mathlib.Core.Bool.{Bool, true, false, ◌||◌, true≢false}
use mathlib.Core.List.{List, [], ◌∷◌}
use mathlib.Core.Logic.{◌⊎◌, inl, inr}
use Prim.Native.Nat.{ℕ, ◌+◌, ◌<◌}
use native.Mathlib.Omega.{arith}
use lib.ListN.{length}
use lib.Dec.{eqb}
use borrow.Author.Tests.{eqb-true, eq-eqb}
use Rattle.laws.proofs.Tests.{either}
use Rattle.rules_program.specs.Names.{comes_before}
use Rattle.program_names.specs.Heads.{rows_where}
use Rattle.std.specs.Prelude.{Option, None, Some, MatchOption}
use Rattle.program_twins.specs.Given.{Twin, AtMost, First, After, higher, again, Rising, one, more, Listed}
use Rattle.program_twins.proofs.Strict.{before_irrefl, before_trans, before_not_same}
use Rattle.program_twins.proofs.Pigeon.{without, without_other, Apart, few}
use Rattle.program_twins.proofs.Answer.{or_left, or_right}

-- whether a row is one of some
is_in : ℕ → List ℕ → Bool
is_in x [] = false
is_in x (k ∷ g) = eqb x k || is_in x g

-- row k's name comes after row l's, or is the same and stands later
data Less (spelled : ℕ → List ℕ) (l k : ℕ) : Type 0 where
  lower : comes_before (spelled (l + 1)) (spelled (k + 1)) ≡ true → Less spelled l k
  equal : spelled (l + 1) ≡ spelled (k + 1) → l < k → Less spelled l k

module _ (spelled : ℕ → List ℕ) where
  after_less : {least : Option ℕ} {l k : ℕ} → After spelled least l k → Less spelled l k
  after_less (higher h) = lower h
  after_less (again e l m) = equal e l

  less_irrefl : (k : ℕ) → Less spelled k k → ⊥
  less_irrefl k (lower h) = before_irrefl (spelled (k + 1)) h
  less_irrefl k (equal e l) = omega arith

  less_trans : (x l k : ℕ) → Less spelled x l → Less spelled l k → Less spelled x k
  less_trans x l k (lower h) (lower g) = lower (before_trans (spelled (x + 1)) (spelled (l + 1)) (spelled (k + 1)) h g)
  less_trans x l k (lower h) (equal e m) = lower (rw e at h)
  less_trans x l k (equal e m) (lower g) = lower (rw e g)
  less_trans x l k (equal e m) (equal f n) = equal (e ∙ f) (omega arith)

module _ (head : ℕ → Bool) (spelled : ℕ → List ℕ) (n : ℕ) (least : Option ℕ) where
  -- what came stands before the last, or is it
  up_to : (x : ℕ) {k : ℕ} {g : List ℕ} → Rising head spelled n least k g → is_in x g ≡ true → (x ≡ k) ⊎ Less spelled x k
  unfolding is_in
  up_to x (one {k = k} h) e = either (eqb x k) false e (λ d. inl (eqb-true x k d)) (λ d. absurd (true≢false (sym d)))
  up_to x (more {k = k} {l = l} {g = g} h a r) e =
      either (eqb x k) (is_in x g) e (λ d. inl (eqb-true x k d)) (λ d. inr (on (up_to x r d)))
    where
      on : (x ≡ l) ⊎ Less spelled x l → Less spelled x k
      on (inl d) = rw d (after_less spelled a)
      on (inr m) = less_trans spelled x l k m (after_less spelled a)

  -- what came is a head
  is_head : (x : ℕ) {k : ℕ} {g : List ℕ} → Rising head spelled n least k g → is_in x g ≡ true → head x ≡ true
  unfolding is_in
  is_head x (one {k = k} h) e =
      either (eqb x k) false e (λ d. ap head (eqb-true x k d) ∙ h.is) (λ d. absurd (true≢false (sym d)))
  is_head x (more {k = k} {g = g} h a r) e =
      either (eqb x k) (is_in x g) e (λ d. ap head (eqb-true x k d) ∙ h.is) (λ d. is_head x r d)

  -- each came once
  other_row : (x k l : ℕ) → After spelled least l k → (x ≡ l) ⊎ Less spelled x l → x ≡ k → ⊥
  other_row x k l a (inl c) d = less_irrefl spelled k (rw (sym c ∙ d) at (after_less spelled a))
  other_row x k l a (inr m) d = less_irrefl spelled k (rw d at (less_trans spelled x l k m (after_less spelled a)))

  apart_from : (p : ℕ → Bool) {k : ℕ} {g : List ℕ} → Rising head spelled n least k g → ((x : ℕ) → is_in x g ≡ true → p x ≡ true) → Apart n p g
  unfolding is_in
  apart_from p (one {k = k} h) f =
      let b = h.below in
      Apart.more {k = k} (f k (or_left (eqb k k) false (eq-eqb k k refl))) (omega arith) Apart.none
  apart_from p (more {k = k} {l = l} {g = g} h a r) f =
      let b = h.below in
      Apart.more {k = k} (f k (or_left (eqb k k) (is_in k g) (eq-eqb k k refl))) (omega arith)
      (apart_from (without k p) r
      (λ x e. without_other k p x (other_row x k l a (up_to x r e)) ∙ f x (or_right (eqb x k) (is_in x g) e)))

  -- two heads with one name that came: the later one came right after its twin, or after another of that name
  at_top : (i j k m : ℕ) → After spelled least m k → (i ≡ m) ⊎ Less spelled i m → j ≡ k → spelled (i + 1) ≡ spelled (j + 1) → AtMost least (j + 1)
  at_top i j k m (again f w le) u d e = rw d le
  at_top i j k m (higher f) u d e = absurd (go u)
    where
      same : spelled (i + 1) ≡ spelled (k + 1)
      same = e ∙ ap (λ (x : ℕ). spelled (x + 1)) d

      go : (i ≡ m) ⊎ Less spelled i m → ⊥
      go (inl c) = before_not_same (spelled (m + 1)) (spelled (k + 1)) (ap (λ (x : ℕ). spelled (x + 1)) (sym c) ∙ same) f
      go (inr (lower g)) =
          before_not_same (spelled (i + 1)) (spelled (k + 1)) same (before_trans (spelled (i + 1)) (spelled (m + 1)) (spelled (k + 1)) g f)
      go (inr (equal g w)) = before_not_same (spelled (m + 1)) (spelled (k + 1)) (sym g ∙ same) f

  at_low : (i j k m : ℕ) → After spelled least m k → (j ≡ m) ⊎ Less spelled j m → i ≡ k → spelled (i + 1) ≡ spelled (j + 1) → i < j → ⊥
  at_low i j k m a u c e l = clash (go u)
    where
      go : (j ≡ m) ⊎ Less spelled j m → Less spelled j k
      go (inl d) = rw d (after_less spelled a)
      go (inr d) = less_trans spelled j m k d (after_less spelled a)

      clash : Less spelled j k → ⊥
      clash (lower f) = before_not_same (spelled (j + 1)) (spelled (k + 1)) (sym e ∙ ap (λ (x : ℕ). spelled (x + 1)) c) f
      clash (equal f w) = omega arith

  side_by_side : (i j : ℕ) {k : ℕ} {g : List ℕ} → Rising head spelled n least k g → is_in i g ≡ true → is_in j g ≡ true →
      spelled (i + 1) ≡ spelled (j + 1) → i < j → AtMost least (j + 1)
  unfolding is_in
  side_by_side i j (one {k = k} h) p q e l =
      either (eqb i k) false p
      (λ c. either (eqb j k) false q (λ d. absurd (omega (arith, eqb-true i k c, eqb-true j k d))) (λ d. absurd (true≢false (sym d))))
      (λ c. absurd (true≢false (sym c)))
  side_by_side i j (more {k = k} {l = m} {g = g} h a r) p q e l =
      either (eqb j k) (is_in j g) q
      (λ d. either (eqb i k) (is_in i g) p
      (λ c. absurd (omega (arith, eqb-true i k c, eqb-true j k d)))
      (λ c. at_top i j k m a (up_to i r c) (eqb-true j k d) e))
      (λ d. either (eqb i k) (is_in i g) p
      (λ c. absurd (at_low i j k m a (up_to j r d) (eqb-true i k c) e l))
      (λ c. side_by_side i j r c d e l))

  -- where as many came as there are heads, each head came
  came : {k : ℕ} {g : List ℕ} → Rising head spelled n least k g → length g ≡ length (rows_where head 0 n) →
      (x : ℕ) → head x ≡ true → x < n → is_in x g ≡ true
  came {g = g} r f x d l = go (is_in x g) refl
    where
      go : (t : Bool) → is_in x g ≡ t → t ≡ true
      go true e = refl
      go false e =
          let b = few (Apart.more {k = x} d l
          (apart_from (without x head) r
          (λ y c. without_other x head y (λ z. true≢false (sym c ∙ (ap (λ (w : ℕ). is_in w g) z ∙ e))) ∙ is_head y r c))) in
          absurd (omega (arith, b))

-- The certificate: as many names came, in order, as there are heads. Then `least` is the first that was declared before.
pub settled : (head : ℕ → Bool) (spelled : ℕ → List ℕ) (n : ℕ) (last : Option ℕ) (count : ℕ) (least : Option ℕ) →
    Listed head spelled n last count least → count ≡ length (rows_where head 0 n) → First head spelled n least
settled head spelled n last count least s e = record { lower = go last s.order; is = s.is }
  where
    go : (o : Option ℕ) → MatchOption o (s.given ≡ []) (λ k. Rising head spelled n least k s.given) →
        (j : ℕ) → j < n → Twin head spelled j → AtMost least (j + 1)
    go None z j l t = let b = few {p = head} (Apart.more {k = j} t.is l Apart.none) in absurd (omega (arith, b, ap length z, s.long))
    go (Some k) r j l t =
        let b = t.before in
        let m = b.earlier in
        side_by_side head spelled n least b.row j r
        (came head spelled n least r (s.long ∙ e) b.row b.is (omega arith))
        (came head spelled n least r (s.long ∙ e) j t.is l)
        b.spells m
