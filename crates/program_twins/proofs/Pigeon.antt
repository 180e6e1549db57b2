-- Rows that are taken one by one, each once, out of those that meet a test are no more than there are.
use mathlib.Core.Path.{◌≡◌, refl, sym, ap, ◌∙◌}
use mathlib.Core.Bool.{Bool, true, false, cond}
use mathlib.Core.List.{List, [], ◌∷◌}
use Prim.Native.Nat.{ℕ, zero, suc, ◌+◌, ◌≤◌, ◌<◌}
use native.Mathlib.Decide.{ℕ_discrete}
use native.Mathlib.Omega.{arith}
use lib.ListN.{length}
use lib.Dec.{eqb}
use borrow.Author.Tests.{eq-eqb, ne_eqb}
use Rattle.program_names.specs.Heads.{kept_if, rows_where}
use Rattle.program_names.proofs.Heads.{kept_length}

-- a test that one row no longer meets
unfoldable pub without : ℕ → (ℕ → Bool) → ℕ → Bool
without x p k = cond (eqb k x) false (p k)

pub without_same : (x : ℕ) (p : ℕ → Bool) (k : ℕ) → k ≡ x → without x p k ≡ false
unfolding without
without_same x p k e = rw (eq-eqb k x e)

pub without_other : (x : ℕ) (p : ℕ → Bool) (k : ℕ) → (k ≡ x → ⊥) → without x p k ≡ p k
unfolding without
without_other x p k h = rw (ne_eqb k x h)

-- two tests that agree
where_same : (p q : ℕ → Bool) (i n : ℕ) → ((k : ℕ) → i ≤ k → p k ≡ q k) → rows_where p i n ≡ rows_where q i n
unfolding rows_where
where_same p q i zero h = refl
where_same p q i (suc n) h =
    ap (λ (t : Bool). kept_if t i (rows_where p (i + 1) n)) (h i (omega arith))
    ∙ ap (kept_if (q i) i) (where_same p q (i + 1) n (λ k l. h k (omega arith)))

-- one row less
module _ (p : ℕ → Bool) (x i n : ℕ) where
  here : p x ≡ true → i ≡ x →
      length (kept_if (p i) i (rows_where p (i + 1) n)) ≡ suc (length (kept_if (without x p i) i (rows_where (without x p) (i + 1) n)))
  here e d =
      let a : ◌≡◌ {A = ℕ} (cond (p i) 1 0) 1 = rw (ap p d ∙ e) in
      let b : ◌≡◌ {A = ℕ} (cond (without x p i) 1 0) 0 = rw (without_same x p i d) in
      let r = where_same p (without x p) (i + 1) n (λ k l. sym (without_other x p k (λ f. omega arith))) in
      omega
      (arith, ap length r, kept_length (p i) i (rows_where p (i + 1) n), kept_length (without x p i) i (rows_where (without x p) (i + 1) n))

  there : (i ≡ x → ⊥) → length (rows_where p (i + 1) n) ≡ suc (length (rows_where (without x p) (i + 1) n)) →
      length (kept_if (p i) i (rows_where p (i + 1) n)) ≡ suc (length (kept_if (without x p i) i (rows_where (without x p) (i + 1) n)))
  there d e =
      let b : ◌≡◌ {A = ℕ} (cond (without x p i) 1 0) (cond (p i) 1 0) = rw (without_other x p i d) in
      omega (arith, kept_length (p i) i (rows_where p (i + 1) n), kept_length (without x p i) i (rows_where (without x p) (i + 1) n))

  either : p x ≡ true → Dec (i ≡ x) → ((i ≡ x → ⊥) → length (rows_where p (i + 1) n) ≡ suc (length (rows_where (without x p) (i + 1) n))) →
      length (kept_if (p i) i (rows_where p (i + 1) n)) ≡ suc (length (kept_if (without x p i) i (rows_where (without x p) (i + 1) n)))
  either e (yes d) f = here e d
  either e (no d) f = there d (f d)

pub one_less : (p : ℕ → Bool) (x i n : ℕ) → p x ≡ true → i ≤ x → x < i + n →
    length (rows_where p i n) ≡ suc (length (rows_where (without x p) i n))
unfolding rows_where
one_less p x i zero e l m = absurd (omega arith)
one_less p x i (suc n) e l m =
    either p x i n e (ℕ_discrete i x) (λ d. one_less p x (i + 1) n e (omega arith) (omega arith))

-- rows below n, each taken out of those that are left
pub data Apart (n : ℕ) : (ℕ → Bool) → List ℕ → Type 0 where
  none : {p : ℕ → Bool} → Apart n p []
  more : {p : ℕ → Bool} {k : ℕ} {g : List ℕ} → p k ≡ true → k < n → Apart n (without k p) g → Apart n p (k ∷ g)

pub few : {n : ℕ} {p : ℕ → Bool} {g : List ℕ} → Apart n p g → length g ≤ length (rows_where p 0 n)
few none = omega arith
few {n} (more {p = p} {k = k} e l a) = omega (arith, few a, one_less p k 0 n e (omega arith) (omega arith))
