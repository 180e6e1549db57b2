-- One block: what is known of it where it is held against a file, and what memory and list are where it is written and
-- listed.
use mathlib.Core.Path.{◌≡◌, refl, sym, ap, ◌∙◌}
use mathlib.Core.Bool.{Bool, true, false, cond}
use mathlib.Core.List.{List, [], ◌∷◌, ◌++◌, append_assoc}
use Prim.Native.Nat.{ℕ, zero, suc, ◌+◌, ◌-◌, ◌*◌, ◌≤◌, ◌<◌}
use native.Mathlib.Numerals.{add-one}
use native.Mathlib.Omega.{arith}
use lib.ListN.{length, take, drop, set, length-take, length-drop, take-append-drop}
use lib.Seq.{take_all, take-nil, drop-drop, set_split, paste}
use Rattle.laws.proofs.Spelled.{same_eq, differs}
use Rattle.laws.proofs.Lists.{part_front}
use Rattle.rules.specs.Kinds.{same_bytes}
use Rattle.file_patch.specs.Block.{block_of, entry}

-- ---- parts of parts

-- what stands behind so many of the first n
pub drop_front : (a n : ℕ) (s : List ℕ) → drop a (take n s) ≡ take (n - a) (drop a s)
drop_front zero n s = let e : n - 0 ≡ n = omega arith in rw e
drop_front (suc a) zero s = let e : 0 - suc a ≡ 0 = omega arith in rw e
drop_front (suc a) (suc n) [] = sym (take-nil (suc n - suc a))
drop_front (suc a) (suc n) (x ∷ s) = let e : suc n - suc a ≡ n - a = omega arith in rw e (drop_front a n s)

-- ---- a block held

module _ (fresh file : List ℕ) (k : ℕ) where
  -- a block that is cut or missing differs
  pub cut_differs : length fresh ≡ 512 → length file < 512 * k + 512 → same_bytes fresh (block_of k file) ≡ false
  cut_differs l h =
      differs fresh (block_of k file)
      (λ e. omega (arith, ap length e, length-take 512 (drop (512 * k) file), length-drop (512 * k) file))

  -- A block that is right has no entry.
  pub entry_right : same_bytes fresh (block_of k file) ≡ true → entry k fresh file ≡ []
  entry_right e = rw e

  -- A block that differs has its number.
  pub entry_wrong : same_bytes fresh (block_of k file) ≡ false → entry k fresh file ≡ k ∷ []
  entry_wrong e = rw e

  -- A block has one entry at most.
  pub entry_most : length (entry k fresh file) ≤ 1
  entry_most = go (same_bytes fresh (block_of k file))
    where
      go : (b : Bool) → length (cond b [] (k ∷ [])) ≤ 1
      go true = omega arith
      go false = omega arith

  -- A block that has no entry is right,
  pub none_right : length (entry k fresh file) ≡ 0 → same_bytes fresh (block_of k file) ≡ true
  none_right = go (same_bytes fresh (block_of k file))
    where
      go : (b : Bool) → length (cond b [] (k ∷ [])) ≡ 0 → b ≡ true
      go true e = refl
      go false e = absurd (let z : ⊥ = omega arith in z)

  -- and one that has an entry differs.
  pub some_wrong : 0 < length (entry k fresh file) → same_bytes fresh (block_of k file) ≡ false
  some_wrong = go (same_bytes fresh (block_of k file))
    where
      go : (b : Bool) → 0 < length (cond b [] (k ∷ [])) → b ≡ false
      go true h = absurd (let z : ⊥ = omega arith in z)
      go false h = refl

-- ---- a block written

-- all 512 bytes were copied
pub copied : (memory fresh : List ℕ) (at : ℕ) → length fresh ≡ 512
    → paste memory at fresh 512 ≡ take at memory ++ (fresh ++ drop (at + 512) memory)
copied memory fresh at l = rw (take_all 512 fresh (omega arith)) (append_assoc (take at memory) fresh (drop (at + 512) memory))

-- a part over itself
over_itself : (a b : ℕ) (s : List ℕ) → s ≡ take b s ++ (take a (drop b s) ++ drop (b + a) s)
over_itself a b s =
    sym (take-append-drop b s) ∙ ap (λ (l : List ℕ). take b s ++ l) (sym (take-append-drop a (drop b s)) ∙ rw drop-drop)

module _ (fresh memory : List ℕ) (k : ℕ) where
  -- memory is as if a block that is right were written
  pub right_stays : same_bytes fresh (block_of k memory) ≡ true
      → memory ≡ take (512 * k) memory ++ (fresh ++ drop (512 * k + 512) memory)
  right_stays e =
      over_itself 512 (512 * k) memory
      ∙ ap (λ (x : List ℕ). take (512 * k) memory ++ (x ++ drop (512 * k + 512) memory)) (sym (same_eq fresh (block_of k memory) e))

  -- A block that is right in the first n bytes is right in memory.
  pub right_inside : (n : ℕ) → length fresh ≡ 512 → same_bytes fresh (block_of k (take n memory)) ≡ true
      → same_bytes fresh (block_of k memory) ≡ true
  right_inside n l e =
      let b = 512 * k in
      let f = same_eq fresh (block_of k (take n memory)) e in
      let h : b + 512 ≤ n =
      omega (arith, ap length f, length-take 512 (drop b (take n memory)), length-drop b (take n memory), length-take n memory) in
      ap (same_bytes fresh) (sym (part_front 512 b n memory h)) ∙ e

-- ---- a list written

-- nothing more is listed
pub list_stays : (list : List ℕ) (listed : ℕ) (found : List ℕ) → found ≡ [] → list ≡ take listed list ++ (found ++ drop listed list)
list_stays list listed found e = rw e (sym (take-append-drop listed list))

-- one entry more
pub list_more : (list : List ℕ) (listed k : ℕ) (found : List ℕ) → found ≡ k ∷ [] → listed < length list
    → set list listed k ≡ take listed list ++ (found ++ drop (listed + 1) list)
list_more list listed k found e h = rw (e, add-one listed) (set_split list listed k h)
