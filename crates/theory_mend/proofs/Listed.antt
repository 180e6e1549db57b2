-- Which blocks are listed: exactly those that differ, are cut or missing, and the first of a surplus tail, in ascending order; and how
-- many at most.
use mathlib.Core.Path.{◌≡◌, refl, sym, ap, ◌∙◌}
use mathlib.Core.Bool.{Bool, true, false, cond, true≢false}
use mathlib.Core.List.{List, [], ◌∷◌, ◌++◌, append_assoc}
use Prim.Native.Nat.{ℕ, zero, suc, ◌+◌, ◌*◌, ◌/◌, ◌≤◌, ◌<◌}
use native.Mathlib.Nat.{le_refl, le_trans}
use native.Mathlib.Omega.{arith}
use lib.ListN.{length, take, drop, length-append, length-take, length-drop}
use lib.Seq.{take-add, take_all, drop-drop}
use lib.Dec.{ltb}
use borrow.Author.Tests.{ltb-true, ltb-false, lt-ltb, le-ltb}
use Rattle.laws.proofs.Tests.{false_by}
use Rattle.laws.proofs.Spelled.{same_eq, same_self}
use Rattle.rules.specs.Kinds.{same_bytes}
use Rattle.rules_files.specs.Blocks.{block_bytes}
use Rattle.rules_mend.specs.Mend.{differing, surplus, listed}
use Rattle.theory_mend.specs.Mended.{block_at, Member, here, there, BeginsTail, ListedExactly, Ascending, none, one, more}

-- ---- members of two lists

member_front : {k : ℕ} {xs : List ℕ} (ys : List ℕ) → Member k xs → Member k (xs ++ ys)
member_front ys here = here
member_front ys (there m) = there (member_front ys m)

member_behind : {k : ℕ} (xs : List ℕ) {ys : List ℕ} → Member k ys → Member k (xs ++ ys)
member_behind [] m = m
member_behind (x ∷ xs) m = there (member_behind xs m)

member_either : {C : Type 0} {k : ℕ} (xs : List ℕ) {ys : List ℕ} → Member k (xs ++ ys) → (Member k xs → C) → (Member k ys → C) → C
member_either [] m f g = g m
member_either (x ∷ xs) here f g = f here
member_either (x ∷ xs) (there m) f g = member_either xs m (λ n. f (there n)) g

member_none : {k : ℕ} → Member k [] → ⊥
member_none = elim [ ]

member_one : {k j : ℕ} → Member k (j ∷ []) → k ≡ j
member_one here = refl
member_one (there m) = elim m [ ]

-- ---- blocks

differs_by : (s t : List ℕ) → same_bytes s t ≡ false → s ≡ t → ⊥
differs_by s t e d = true≢false (sym (same_self t) ∙ ap (λ (x : List ℕ). same_bytes x t) (sym d) ∙ e)

next_block : (i : ℕ) (s : List ℕ) → block_at (suc i) s ≡ block_at i (drop block_bytes s)
next_block i s =
    let e : block_bytes * suc i ≡ block_bytes + block_bytes * i = omega arith in
    rw (e, ← drop-drop (block_bytes * i) block_bytes s)

-- a block that differs is listed
found : (m k i : ℕ) (fresh file : List ℕ) → i < m → (block_at i fresh ≡ block_at i file → ⊥) → Member (k + i) (differing m k fresh file)
unfolding differing
found zero k i fresh file h ne = absurd (let z : ⊥ = omega arith in z)
found (suc m) k zero fresh file h ne =
    let e : same_bytes (take block_bytes fresh) (take block_bytes file) ≡ false = false_by _ (λ q. ne (same_eq _ _ q)) in
    let z : k + 0 ≡ k = omega arith in
    rw (e, z) here
found (suc m) k (suc i) fresh file h ne =
    let z : k + suc i ≡ suc k + i = omega arith in
    let r = found m (suc k) i (drop block_bytes fresh) (drop block_bytes file) (omega arith)
    (λ q. ne (next_block i fresh ∙ q ∙ sym (next_block i file))) in
    rw z (member_behind (cond (same_bytes (take block_bytes fresh) (take block_bytes file)) [] (k ∷ [])) r)

-- and only such blocks are
record Found (m k j : ℕ) (fresh file : List ℕ) : Type 0 where
  at : ℕ
  is : j ≡ k + at
  inside : at < m
  differs : block_at at fresh ≡ block_at at file → ⊥

found_later : (m k j : ℕ) (fresh file : List ℕ) → Found m (suc k) j (drop block_bytes fresh) (drop block_bytes file)
    → Found (suc m) k j fresh file
found_later m k j fresh file f = record {
  at = suc f.at;
  is = omega (arith, f.is);
  inside = omega (arith, f.inside);
  differs = λ e. f.differs (sym (next_block f.at fresh) ∙ e ∙ next_block f.at file);
}

found_only : (m k j : ℕ) (fresh file : List ℕ) → Member j (differing m k fresh file) → Found m k j fresh file
unfolding differing
found_only zero k j fresh file q = absurd (member_none q)
found_only (suc m) k j fresh file q =
    let rest = differing m (suc k) (drop block_bytes fresh) (drop block_bytes file) in
    let later = found_only m (suc k) j (drop block_bytes fresh) (drop block_bytes file) in
    go (same_bytes (take block_bytes fresh) (take block_bytes file)) refl rest q (λ n. found_later m k j fresh file (later n))
  where
    go : (b : Bool) → same_bytes (take block_bytes fresh) (take block_bytes file) ≡ b → (rest : List ℕ) → Member j (cond b [] (k ∷ []) ++ rest)
        → (Member j rest → Found (suc m) k j fresh file) → Found (suc m) k j fresh file
    go true e rest q f = f q
    go false e rest q f =
        member_either (k ∷ []) q
        (λ n. record {
          at = 0;
          is = omega (arith, member_one n);
          inside = omega arith;
          differs = differs_by (take block_bytes fresh) (take block_bytes file) e;
        })
        f

-- ---- the surplus tail

tail_listed : (fresh file : List ℕ) → length fresh < length file → surplus fresh file ≡ (length fresh / block_bytes) ∷ []
unfolding surplus
tail_listed fresh file h = rw (lt-ltb (length fresh) (length file) h)

tail_only : (fresh file : List ℕ) (k : ℕ) → Member k (surplus fresh file) → BeginsTail fresh file k
unfolding surplus
tail_only fresh file k q = go (ltb (length fresh) (length file)) refl q
  where
    go : (b : Bool) → ltb (length fresh) (length file) ≡ b → Member k (cond b ((length fresh / block_bytes) ∷ []) [])
        → BeginsTail fresh file k
    go true e q = (member_one q, omega (arith, ltb-true (length fresh) (length file) e))
    go false e q = absurd (member_none q)

-- A block is listed exactly if it differs, is cut or missing, or begins a surplus tail.
pub listed_exactly : (fresh file : List ℕ) → ListedExactly fresh file
unfolding listed
listed_exactly fresh file = record {
  differs = λ k d. member_front (surplus fresh file) (rw (zero_add k) at (found m 0 k fresh file d.0 d.1));
  tail = λ k b. member_behind (differing m 0 fresh file) (rw (tail_listed fresh file (omega (arith, b.1)), b.0) here);
  only = λ k q h e. member_either (differing m 0 fresh file) q
      (λ n. let f = found_only m 0 k fresh file n in let i : f.at ≡ k = omega (arith, f.is) in f.differs (rw i e))
      (λ n. let b = tail_only fresh file k n in omega (arith, b.0));
  last = λ k q h. member_either (differing m 0 fresh file) q
      (λ n. let f = found_only m 0 k fresh file n in absurd (let z : ⊥ = omega (arith, f.is, f.inside) in z))
      (λ n. tail_only fresh file k n);
}
  where
    m : ℕ
    m = length fresh / block_bytes

    zero_add : (k : ℕ) → 0 + k ≡ k
    zero_add k = omega arith

-- A block that is cut or missing is listed.
pub cut_listed : (fresh file : List ℕ) (k : ℕ) → k < length fresh / block_bytes → length file < block_bytes * k + block_bytes
    → Member k (listed fresh file)
cut_listed fresh file k h l = (listed_exactly fresh file).differs k (h, shorter)
  where
    shorter : block_at k fresh ≡ block_at k file → ⊥
    shorter e =
        let b : ℕ = block_bytes * k in
        omega (
          arith,
          ap length e,
          length-take block_bytes (drop b fresh),
          length-drop b fresh,
          length-take block_bytes (drop b file),
          length-drop b file,
        )

-- ---- in ascending order

-- ascending, from a number on
data From : ℕ → List ℕ → Type 0 where
  nothing : {a : ℕ} → From a []
  next : {a k : ℕ} {s : List ℕ} → a ≤ k → From (suc k) s → From a (k ∷ s)

from_less : {a b : ℕ} {s : List ℕ} → a ≤ b → From b s → From a s
from_less h nothing = nothing
from_less h (next l f) = next (le_trans h l) f

ascends : {a : ℕ} {s : List ℕ} → From a s → Ascending s
ascends nothing = none
ascends (next l nothing) = one
ascends (next l (next h f)) = more h (ascends (next h f))

differing_from : (m k : ℕ) (fresh file : List ℕ) {s : List ℕ} → From (k + m) s → From k (differing m k fresh file ++ s)
unfolding differing
differing_from zero k fresh file f = from_less (omega arith) f
differing_from (suc m) k fresh file {s} f =
    go (same_bytes (take block_bytes fresh) (take block_bytes file))
    (differing_from m (suc k) (drop block_bytes fresh) (drop block_bytes file) (from_less (omega arith) f))
  where
    go : (b : Bool) → From (suc k) (differing m (suc k) (drop block_bytes fresh) (drop block_bytes file) ++ s)
        → From k ((cond b [] (k ∷ []) ++ differing m (suc k) (drop block_bytes fresh) (drop block_bytes file)) ++ s)
    go true r = from_less (omega arith) r
    go false r = next (le_refl k) r

surplus_from : (fresh file : List ℕ) → From (length fresh / block_bytes) (surplus fresh file)
unfolding surplus
surplus_from fresh file = go (ltb (length fresh) (length file))
  where
    go : (b : Bool) → From (length fresh / block_bytes) (cond b ((length fresh / block_bytes) ∷ []) [])
    go true = next (le_refl (length fresh / block_bytes)) nothing
    go false = nothing

-- What is listed ascends.
pub listed_ascending : (fresh file : List ℕ) → Ascending (listed fresh file)
unfolding listed
listed_ascending fresh file =
    let z : 0 + length fresh / block_bytes ≡ length fresh / block_bytes = omega arith in
    ascends (differing_from (length fresh / block_bytes) 0 fresh file (rw z (surplus_from fresh file)))

-- ---- nothing is listed

differing_none : (m k : ℕ) (s : List ℕ) → differing m k s s ≡ []
unfolding differing
differing_none zero k s = refl
differing_none (suc m) k s = rw (same_self (take block_bytes s)) (differing_none m (suc k) (drop block_bytes s))

-- Nothing is listed of what is as it should be.
pub listed_none : (s : List ℕ) → listed s s ≡ []
unfolding listed surplus
listed_none s = rw (differing_none (length s / block_bytes) 0 s, le-ltb (length s) (length s) (omega arith))

-- blocks of which none is listed are alike
front_same : (m k : ℕ) (fresh file : List ℕ) → differing m k fresh file ≡ [] → take (block_bytes * m) fresh ≡ take (block_bytes * m) file
unfolding differing
front_same zero k fresh file e = refl
front_same (suc m) k fresh file e =
    let rest = differing m (suc k) (drop block_bytes fresh) (drop block_bytes file) in
    go (same_bytes (take block_bytes fresh) (take block_bytes file)) refl rest e
    (front_same m (suc k) (drop block_bytes fresh) (drop block_bytes file))
  where
    go : (b : Bool) → same_bytes (take block_bytes fresh) (take block_bytes file) ≡ b → (rest : List ℕ) → (cond b [] (k ∷ []) ++ rest) ≡ []
        → (rest ≡ [] → take (block_bytes * m) (drop block_bytes fresh) ≡ take (block_bytes * m) (drop block_bytes file))
        → take (block_bytes * suc m) fresh ≡ take (block_bytes * suc m) file
    go true s rest e r =
        let w : block_bytes * suc m ≡ block_bytes + block_bytes * m = omega arith in
        rw (w, take-add block_bytes (block_bytes * m) fresh, take-add block_bytes (block_bytes * m) file, same_eq _ _ s, r e)
    go false s rest e r = absurd (let z : ◌≡◌ {A = ℕ} 0 1 = cc in omega arith)

-- Where nothing is listed, the file is what it should be.
pub none_right : (fresh file : List ℕ) → block_bytes * (length fresh / block_bytes) ≡ length fresh → listed fresh file ≡ [] → file ≡ fresh
unfolding listed
none_right fresh file w e =
    let m : ℕ = length fresh / block_bytes in
    let f = front_same m 0 fresh file (front_empty (differing m 0 fresh file) (surplus fresh file) e) in
    let few : length file ≤ length fresh = no_tail_lem (ltb (length fresh) (length file)) refl in
    sym (take_all (block_bytes * m) file (omega arith)) ∙ sym f ∙ take_all (block_bytes * m) fresh (omega arith)
  where
    front_empty : (xs ys : List ℕ) → (xs ++ ys) ≡ [] → xs ≡ []
    front_empty [] ys e = refl
    front_empty (x ∷ xs) ys e = absurd (let z : ◌≡◌ {A = ℕ} 0 1 = cc in omega arith)

    no_tail_lem : (b : Bool) → ltb (length fresh) (length file) ≡ b → length file ≤ length fresh
    no_tail_lem true q = absurd (member_none (rw e at ((listed_exactly fresh file).tail _ (refl, ltb-true _ _ q))))
    no_tail_lem false q = ltb-false (length fresh) (length file) q

-- Block 0's entry stands in front of the others'.
pub listed_first : (fresh file : List ℕ) → block_bytes ≤ length fresh
    → listed fresh file ≡ cond (same_bytes (take block_bytes fresh) (take block_bytes file)) [] (0 ∷ [])
    ++ (differing (length (drop block_bytes fresh) / block_bytes) 1 (drop block_bytes fresh) (drop block_bytes file) ++ surplus fresh file)
unfolding listed differing
listed_first fresh file h =
    let m : ℕ = length (drop block_bytes fresh) / block_bytes in
    let e : length fresh / block_bytes ≡ suc m = omega (arith, length-drop block_bytes fresh) in
    let first : List ℕ = cond (same_bytes (take block_bytes fresh) (take block_bytes file)) [] (0 ∷ []) in
    let others : List ℕ = differing m 1 (drop block_bytes fresh) (drop block_bytes file) in
    ap (λ (x : ℕ). differing x 0 fresh file ++ surplus fresh file) e ∙ append_assoc first others (surplus fresh file)

-- A block that is not listed is as it should be.
pub unlisted : (fresh file : List ℕ) (k : ℕ) → k < length fresh / block_bytes → (Member k (listed fresh file) → ⊥)
    → block_at k fresh ≡ block_at k file
unlisted fresh file k h out = go (same_bytes (block_at k fresh) (block_at k file)) refl
  where
    go : (b : Bool) → same_bytes (block_at k fresh) (block_at k file) ≡ b → block_at k fresh ≡ block_at k file
    go true e = same_eq (block_at k fresh) (block_at k file) e
    go false e = absurd (out ((listed_exactly fresh file).differs k (h, differs_by (block_at k fresh) (block_at k file) e)))

-- ---- how many are listed

pub differing_most : (m k : ℕ) (fresh file : List ℕ) → length (differing m k fresh file) ≤ m
unfolding differing
differing_most zero k fresh file = omega arith
differing_most (suc m) k fresh file =
    go (same_bytes (take 512 fresh) (take 512 file)) (differing_most m (suc k) (drop 512 fresh) (drop 512 file))
  where
    go : (b : Bool) → length (differing m (suc k) (drop 512 fresh) (drop 512 file)) ≤ m
        → length (cond b [] (k ∷ []) ++ differing m (suc k) (drop 512 fresh) (drop 512 file)) ≤ suc m
    go true h = omega arith
    go false h = omega arith

-- a tail has one entry
pub surplus_most : (fresh file : List ℕ) → length (surplus fresh file) ≤ 1
unfolding surplus
surplus_most fresh file = go (ltb (length fresh) (length file))
  where
    go : (b : Bool) → length (cond b ((length fresh / block_bytes) ∷ []) []) ≤ 1
    go true = omega arith
    go false = omega arith

-- At most all blocks are listed, and a tail.
pub listed_most : (fresh file : List ℕ) → length (listed fresh file) ≤ length fresh / block_bytes + 1
unfolding listed
listed_most fresh file =
    let m = length fresh / block_bytes in
    let d = differing m 0 fresh file in
    omega (arith, length-append d (surplus fresh file), differing_most m 0 fresh file, surplus_most fresh file)
