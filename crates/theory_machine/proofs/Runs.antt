-- Two tests taken alike, and the law of a run: a state that takes each byte of a class gathers what the page counts and takes at once.
use Prim.Native.Nat.{ℕ, suc, ◌+◌}
use native.Mathlib.Nat.{add-zero}
use native.Mathlib.Omega.{arith}
use mathlib.Core.Bool.{Bool, true, false, cond}
use mathlib.Core.List.{List, [], ◌∷◌}
use mathlib.Core.Path.{◌≡◌, refl}
use lib.ListN.{length, take}
use lib.Dec.{ltb, leb-suc-suc}
use borrow.Author.Tests.{lt-ltb}
use Rattle.rules.specs.Text.{front}
use Rattle.rules.specs.Lex.{Item}
use Rattle.laws.proofs.Fronts.{front_in, front_out}
use Rattle.theory_machine.specs.Machine.{St, on, go, step, finish}
use Rattle.theory_machine.specs.Items.{item_first, item_move, item_last, first_bytes}

-- what holds of both branches of two tests holds of the tests
pub branch : {A B : Type 0} (P : A → B → Type 0) (t : Bool) {x y : A} {x' y' : B} → (t ≡ true → P x x') → (t ≡ false → P y y') →
    P (cond t x y) (cond t x' y')
branch P true f g = f refl
branch P false f g = g refl

unfoldable pub gathered : {A : Type 0} → (A → ℕ → A) → A → List ℕ → A
gathered next a [] = a
gathered next a (b ∷ s) = gathered next (next a b) s

-- `more`: bytes are left behind the run
module _ {A : Type 0} (p : ℕ → Bool) (state : A → St) (next : A → ℕ → A) (out : (more : Bool) → A → ℕ → Item)
    (stays : (a : A) (k b : ℕ) → p b ≡ true → step (state a) k b ≡ on (go (state (next a b))))
    (stops : (r : ℕ → St → Item) (a : A) (k b : ℕ) → p b ≡ false → item_move r b k (step (state a) k b) ≡ out true a k)
    (ends : (a : A) (k : ℕ) → item_last k (finish (state a) k) ≡ out false a k) where
  abbrev pub Ran : List ℕ → ℕ → A → Type 0
  Ran s k a = first_bytes true s k (state a) ≡ out (ltb (front p s) (length s)) (gathered next a (take (front p s) s)) (k + front p s)

  run_byte : (b : ℕ) (s : List ℕ) (k : ℕ) (a : A) → Ran s (suc k) (next a b) → (t : Bool) → p b ≡ t → Ran (b ∷ s) k a
  unfolding first_bytes item_move item_first gathered
  run_byte b s k a ih true e =
      let m : suc k + front p s ≡ k + suc (front p s) = omega arith in
      rw (front_in p b s e, stays a k b e, leb-suc-suc (suc (front p s)) (length s), ← m) ih
  run_byte b s k a ih false e = rw (front_out p b s e, add-zero, lt-ltb 0 (suc (length s)) (omega arith)) (stops (first_bytes true s) a k b e)

  pub run_class : (s : List ℕ) (k : ℕ) (a : A) → Ran s k a
  unfolding first_bytes gathered front
  run_class [] k a = rw add-zero (ends a k)
  run_class (b ∷ s) k a = run_byte b s k a (run_class s (suc k) (next a b)) (p b) refl
