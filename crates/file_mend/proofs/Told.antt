-- What the call tells and leaves.
use mathlib.Core.Path.{◌≡◌, refl, sym, ap, ◌∙◌}
use mathlib.Core.Bool.{Bool, true, false, ◌||◌}
use mathlib.Core.List.{List, [], ◌∷◌, ◌++◌}
use Prim.Native.Nat.{ℕ, ◌≤◌, ◌<◌}
use native.Mathlib.Omega.{arith}
use lib.ListN.{length, take, drop, take-append-drop}
use lib.Seq.{take_all, take-length, length-take-le}
use lib.Dec.{ltb}
use borrow.Author.Tests.{ltb-false, ne_eqb}
use Rattle.laws.proofs.Tests.{neither}
use Rattle.rules.specs.declared.Cursor.{Cursor}
use Rattle.rules_files.specs.declared.Fault.{Fault}
use Rattle.rules_forms.specs.declared.Form.{Form}
use Rattle.rules_forms.specs.declared.Form.TheVariants.{Full, Short}
use Rattle.rules_forms.specs.Forms.{is_form}
use Rattle.rules_forms.specs.Shapes.{number_of}
use Rattle.rules_mend.specs.Mend.{fresh_file, listed, too_small, mend_told, mend_leaves, list_leaves}
use Rattle.theory_mend.proofs.Fresh.{fresh_whole}
use Rattle.theory_mend.proofs.Listed.{none_right}
use Rattle.theory_mend.proofs.Mended.{MendOf, told_of}
use Rattle.rules_mend.specs.declared.Mended.{Mended}
use Rattle.rules_mend.specs.declared.NotMended.{NotMended}
use Rattle.std.specs.Prelude.{Result, Ok, Err}

-- what is shown of the file is all of it that is there
pub shown_all : (m : List ℕ) (n : ℕ) → length m < n → take (length m) m ≡ take n m
shown_all m n h = take-length m ∙ sym (take_all n m (omega arith))

-- the test of room
module _ (form : Form) (text memory : List ℕ) (n : ℕ) (list : List ℕ) (size count : ℕ) (se : size ≡ length (fresh_file (number_of form) text))
    (ce : count ≡ length (listed (fresh_file (number_of form) text) (take n memory))) where
  -- If it refuses, something has too little room.
  pub small_says : ((ltb (length memory) size || ltb (length memory) n) || ltb (length list) count) ≡ true
      → too_small (fresh_file (number_of form) text) memory n list ≡ true
  unfolding too_small
  small_says e = rw (← se, ← ce) (go (ltb (length memory) size) (ltb (length memory) n) (ltb (length list) count) e)
    where
      go : (a b c : Bool) → ((a || b) || c) ≡ true → (a || (b || c)) ≡ true
      go true b c e = refl
      go false b c e = e

  -- it holds of all three
  pub room_says : ((ltb (length memory) size || ltb (length memory) n) || ltb (length list) count) ≡ false
      → ((length (fresh_file (number_of form) text) ≤ length memory) × (n ≤ length memory))
      × (length (listed (fresh_file (number_of form) text) (take n memory)) ≤ length list)
  room_says e =
      let a = neither (ltb (length memory) size || ltb (length memory) n) (ltb (length list) count) e in
      let b = neither (ltb (length memory) size) (ltb (length memory) n) a.0 in
      rw (← se, ← ce) ((ltb-false (length memory) size b.0, ltb-false (length memory) n b.1), ltb-false (length list) count a.1)

-- Any other number is no form.
pub other_form : (number : ℕ) → (number ≡ 1 → ⊥) → (number ≡ 2 → ⊥) → is_form number ≡ false
other_form number a b = rw (ne_eqb number 1 a, ne_eqb number 2 b)

-- The number of each form is one.
pub known : (form : Form) → is_form (number_of form) ≡ true
known Full = refl
known Short = refl

module _ (text : List ℕ) (form : ℕ) (memory : List ℕ) (n : ℕ) (list : List ℕ) where
  -- what is told, and what is left of memory and list
  abbrev pub Answer : Result Mended NotMended → List ℕ → List ℕ → Type 0
  Answer r after list_after =
      (r ≡ mend_told text form memory n list)
      × ((after ≡ mend_leaves text form memory n list) × (list_after ≡ list_leaves text form memory n list))

  -- refused, and nothing is done
  pub refused : (why : Fault) (p : Cursor) → mend_told text form memory n list ≡ Err (record { why = why; at = p })
      → Answer (Err (record { why = why; at = p })) memory list
  unfolding mend_leaves list_leaves
  refused why p e = (sym e, (rw (mend_leaves, e), rw (list_leaves, e)))

  -- mended
  pub blocks : (size count : ℕ) (after list_after : List ℕ) → MendOf text form memory n list size count
      → after ≡ fresh_file form text ++ drop size memory → list_after ≡ listed (fresh_file form text) (take n memory) ++ drop count list
      → Answer (Ok (record { bytes = size; listed = count })) after list_after
  unfolding mend_leaves list_leaves
  blocks size count after list_after m f g =
      let e = told_of text form memory n list size count m in
      (sym e, (rw (mend_leaves, e) f, rw (list_leaves, e) g))

  -- nothing is listed, so the file is right
  pub nothing : (size count : ℕ) → count ≡ 0 → MendOf text form memory n list size count → Answer (Ok (record { bytes = size; listed = 0 })) memory list
  nothing size count none m = by (listed (fresh_file form text) (take n memory)) refl (rw none at m)
    where
      by : (found : List ℕ) → listed (fresh_file form text) (take n memory) ≡ found → MendOf text form memory n list size 0
          → Answer (Ok (record { bytes = size; listed = 0 })) memory list
      by (x ∷ xs) e m = absurd (let z : ⊥ = omega (arith, m.count_is, ap length e) in z)
      by [] e m =
          let q : take n memory ≡ fresh_file form text = none_right (fresh_file form text) (take n memory) (fresh_whole form text) e in
          let z : n ≡ size = omega (arith, m.size_is, m.held, length-take-le n memory m.held, ap length q) in
          blocks size 0 memory list m (rw (← q, ← z) (sym (take-append-drop n memory))) (rw e)

-- by a number that is the form's
pub by_number : (text : List ℕ) (number k : ℕ) (memory : List ℕ) (n : ℕ) (list : List ℕ) (r : Result Mended NotMended) (after list_after : List ℕ)
    → number ≡ k → Answer text k memory n list r after list_after → Answer text number memory n list r after list_after
by_number text number k memory n list r after list_after e a = rw e a
