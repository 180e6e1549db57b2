-- An entry that is exchanged with the one in front of it as long as it comes before that one finds its place.
use mathlib.Core.Path.{◌≡◌, refl, sym, ap, ◌∙◌, subst}
use mathlib.Core.Bool.{Bool, true, false, true≢false}
use mathlib.Core.List.{List}
use Prim.Native.Nat.{ℕ, zero, suc, ◌+◌, ◌*◌, ◌≤◌, ◌<◌}
use native.Mathlib.Omega.{arith}
use lib.Dec.{eqb, ltb}
use lib.ListN.{length, get_or, set, length-set}
use lib.Seq.{get_or-set_same, get_or-set_other}
use borrow.Author.Tests.{eqb-true, eqb-false, ltb-true, ltb-false}
use Rattle.theory_shuffle.specs.Shuffle.{exchanged, row_at, Ordered, Settling}

-- ---- numbers

-- not beyond, and another number
less : (a b : ℕ) → a ≤ b → (b ≡ a → ⊥) → a < b
less a b h n = go (ltb a b) refl
  where
    go : (t : Bool) → ltb a b ≡ t → a < b
    go true e = ltb-true a b e
    go false e = absurd (n (omega (arith, ltb-false a b e)))

less_suc : (j k : ℕ) → j ≤ suc k → (suc k ≡ j → ⊥) → j ≤ k
less_suc j k h n = let b : j < suc k = less j (suc k) h n in omega arith

-- ---- rows after an exchange

module _ (ws : List ℕ) (i j : ℕ) where
  abbrev once : List ℕ
  once = set ws (2 * i) (get_or ws (2 * j) 0)

  abbrev two : List ℕ
  two = set once (2 * i + 1) (get_or ws (2 * j + 1) 0)

  abbrev three : List ℕ
  three = set two (2 * j) (get_or ws (2 * i) 0)

  long_two : length two ≡ length ws
  long_two = length-set once (2 * i + 1) (get_or ws (2 * j + 1) 0) ∙ length-set ws (2 * i) (get_or ws (2 * j) 0)

  pub row_second : 2 * j < length ws → row_at (exchanged i j ws) j ≡ row_at ws i
  unfolding exchanged
  row_second h =
      get_or-set_other three (2 * j + 1) (2 * j) (get_or ws (2 * i + 1) 0) 0 (λ (e : 2 * j ≡ 2 * j + 1). absurd (omega arith))
      ∙ get_or-set_same two (2 * j) (get_or ws (2 * i) 0) 0 (omega (arith, long_two))

  pub row_first : 2 * i < length ws → (i ≡ j → ⊥) → row_at (exchanged i j ws) i ≡ row_at ws j
  unfolding exchanged
  row_first h n =
      get_or-set_other three (2 * j + 1) (2 * i) (get_or ws (2 * i + 1) 0) 0 (λ (e : 2 * i ≡ 2 * j + 1). absurd (omega arith))
      ∙ (get_or-set_other two (2 * j) (2 * i) (get_or ws (2 * i) 0) 0 (λ (e : 2 * i ≡ 2 * j). n (omega arith))
      ∙ (get_or-set_other once (2 * i + 1) (2 * i) (get_or ws (2 * j + 1) 0) 0 (λ (e : 2 * i ≡ 2 * i + 1). absurd (omega arith))
      ∙ get_or-set_same ws (2 * i) (get_or ws (2 * j) 0) 0 h))

  pub row_other : (k : ℕ) → (k ≡ i → ⊥) → (k ≡ j → ⊥) → row_at (exchanged i j ws) k ≡ row_at ws k
  unfolding exchanged
  row_other k n m =
      get_or-set_other three (2 * j + 1) (2 * k) (get_or ws (2 * i + 1) 0) 0 (λ (e : 2 * k ≡ 2 * j + 1). absurd (omega arith))
      ∙ (get_or-set_other two (2 * j) (2 * k) (get_or ws (2 * i) 0) 0 (λ (e : 2 * k ≡ 2 * j). m (omega arith))
      ∙ (get_or-set_other once (2 * i + 1) (2 * k) (get_or ws (2 * j + 1) 0) 0 (λ (e : 2 * k ≡ 2 * i + 1). absurd (omega arith))
      ∙ get_or-set_other ws (2 * i) (2 * k) (get_or ws (2 * j) 0) 0 (λ (e : 2 * k ≡ 2 * i). n (omega arith))))

-- ---- on its way

module _ (before : ℕ → ℕ → Bool) where
  pub settling_begins : (ws : List ℕ) (i : ℕ) → Ordered before ws i → Settling before ws i i
  settling_begins ws i o =
      record {
        inside = omega arith;
        low = o.each;
        high = λ (k : ℕ). λ (a : i < k). λ (b : k < i). absurd (omega arith);
        next = λ (a : i < i). absurd (omega arith);
        over = λ (k : ℕ). λ (e : suc k ≡ i). λ (a : i < i). absurd (omega arith);
      }

  -- it is in front of all, or does not come before the one in front of it
  pub settling_ends : (ws : List ℕ) (i j : ℕ) → Settling before ws i j
      → ((k : ℕ) → suc k ≡ j → before (row_at ws j) (row_at ws k) ≡ false)
      → Ordered before ws (suc i)
  settling_ends ws i j s f = record { each = λ (k : ℕ). λ (h : suc k < suc i). by_place k h (ltb (suc k) j) refl (eqb (suc k) j) refl (eqb k j) refl }
    where
      by_place : (k : ℕ) → suc k < suc i → (a : Bool) → ltb (suc k) j ≡ a → (b : Bool) → eqb (suc k) j ≡ b → (c : Bool) → eqb k j ≡ c
          → before (row_at ws (suc k)) (row_at ws k) ≡ false
      by_place k h true p b q c r = s.low k (ltb-true (suc k) j p)
      by_place k h false p true q c r =
          let e : suc k ≡ j = eqb-true (suc k) j q in ap (λ (n : ℕ). before (row_at ws n) (row_at ws k)) e ∙ f k e
      by_place k h false p false q true r =
          let e : k ≡ j = eqb-true k j r in
          ap (λ (n : ℕ). before (row_at ws (suc n)) (row_at ws n)) e ∙ s.next (omega arith)
      by_place k h false p false q false r =
          s.high k (beyond k j (ltb-false (suc k) j p) (eqb-false (suc k) j q) (eqb-false k j r)) (omega arith)
        where
          beyond : (k j : ℕ) → j ≤ suc k → (suc k ≡ j → ⊥) → (k ≡ j → ⊥) → j < k
          beyond k j a b c = less j k (less_suc j k a b) c

  -- one exchange with the entry in front of it, before which it comes
  pub settling_goes : (ws : List ℕ) (i j : ℕ) → 2 * suc i ≤ length ws → Settling before ws i (suc j)
      → before (row_at ws j) (row_at ws (suc j)) ≡ false
      → Settling before (exchanged (suc j) j ws) i j
  settling_goes ws i j b s back =
      let x : row_at (exchanged (suc j) j ws) j ≡ row_at ws (suc j) = row_second ws (suc j) j (omega (arith, s.inside)) in
      let y : row_at (exchanged (suc j) j ws) (suc j) ≡ row_at ws j =
      row_first ws (suc j) j (omega (arith, s.inside)) (λ (e : suc j ≡ j). absurd (omega arith)) in
      let same : (k : ℕ) → (k ≡ suc j → ⊥) → (k ≡ j → ⊥) → row_at (exchanged (suc j) j ws) k ≡ row_at ws k = row_other ws (suc j) j in
      record {
        inside = omega (arith, s.inside);
        low = λ (k : ℕ). λ (h : suc k < j).
            ap (λ (n : ℕ). before n (row_at (exchanged (suc j) j ws) k)) (same (suc k) (λ (e : suc k ≡ suc j). absurd (omega arith)) (λ (e : suc k ≡ j). absurd (omega arith)))
            ∙ (ap (λ (n : ℕ). before (row_at ws (suc k)) n) (same k (λ (e : k ≡ suc j). absurd (omega arith)) (λ (e : k ≡ j). absurd (omega arith)))
            ∙ s.low k (omega arith));
        high = λ (k : ℕ). λ (h : j < k). λ (g : k < i). after k h g (eqb k (suc j)) refl;
        next = λ (h : j < i). ap (λ (n : ℕ). before n (row_at (exchanged (suc j) j ws) j)) y ∙ (ap (λ (n : ℕ). before (row_at ws j) n) x ∙ back);
        over = λ (k : ℕ). λ (e : suc k ≡ j). λ (h : j < i).
            ap (λ (n : ℕ). before n (row_at (exchanged (suc j) j ws) k)) y
            ∙ (ap (λ (n : ℕ). before (row_at ws j) n) (same k (λ (q : k ≡ suc j). absurd (omega arith)) (λ (q : k ≡ j). absurd (omega arith)))
            ∙ (ap (λ (n : ℕ). before (row_at ws n) (row_at ws k)) (sym e) ∙ s.low k (omega arith)));
      }
    where
      after : (k : ℕ) → j < k → k < i → (c : Bool) → eqb k (suc j) ≡ c
          → before (row_at (exchanged (suc j) j ws) (suc k)) (row_at (exchanged (suc j) j ws) k) ≡ false
      after k h g true q =
          let e : k ≡ suc j = eqb-true k (suc j) q in
          let far : row_at (exchanged (suc j) j ws) (suc k) ≡ row_at ws (suc k) =
          row_other ws (suc j) j (suc k) (λ (p : suc k ≡ suc j). absurd (omega arith)) (λ (p : suc k ≡ j). absurd (omega arith)) in
          let near : row_at (exchanged (suc j) j ws) k ≡ row_at ws j =
          ap (λ (n : ℕ). row_at (exchanged (suc j) j ws) n) e
          ∙ row_first ws (suc j) j (omega (arith, s.inside)) (λ (p : suc j ≡ j). absurd (omega arith)) in
          ap (λ (n : ℕ). before n (row_at (exchanged (suc j) j ws) k)) far
          ∙ (ap (λ (n : ℕ). before (row_at ws (suc k)) n) near
          ∙ (ap (λ (n : ℕ). before (row_at ws (suc n)) (row_at ws j)) e ∙ s.over j refl (omega arith)))
      after k h g false q =
          let n : k ≡ suc j → ⊥ = eqb-false k (suc j) q in
          ap (λ (m : ℕ). before m (row_at (exchanged (suc j) j ws) k))
          (row_other ws (suc j) j (suc k) (λ (p : suc k ≡ suc j). absurd (omega arith)) (λ (p : suc k ≡ j). absurd (omega arith)))
          ∙ (ap (λ (m : ℕ). before (row_at ws (suc k)) m) (row_other ws (suc j) j k n (λ (p : k ≡ j). absurd (omega arith)))
          ∙ s.high k (less (suc j) k h (λ (p : k ≡ suc j). n p)) g)
