-- Laws of lists: an empty one, a part of a front, and the tail of lent words that is lent on, `&mut xs[a..]`.
use mathlib.Core.Path.{◌≡◌, refl}
use mathlib.Core.List.{List, [], ◌∷◌, ◌++◌, append-nil}
use Prim.Native.Nat.{ℕ, zero, suc, ◌+◌, ◌-◌, ◌≤◌}
use native.Mathlib.Omega.{arith}
use lib.ListN.{length, take, drop, length-drop, drop_of_length-le}
use lib.Seq.{take_all, take-take, drop-drop}
use borrow.Rule.Slice.PartMut.{put_mid}

pub empty : (s : List ℕ) → length s ≡ 0 → s ≡ []
empty [] e = refl
empty (x ∷ s) e = absurd (let y : ⊥ = omega arith in y)

-- a part that lies in the first c is one of them
pub part_front : (a b c : ℕ) (s : List ℕ) → b + a ≤ c → take a (drop b (take c s)) ≡ take a (drop b s)
part_front a zero c s h = take-take a c s (omega arith)
part_front a (suc b) zero s h = absurd (omega arith)
part_front a (suc b) (suc c) [] h = refl
part_front a (suc b) (suc c) (x ∷ s) h = part_front a b c s (omega arith)

-- what the callee gets of a tail, and the whole after it came back as ys
module _ (xs : List ℕ) (a : ℕ) (h : a ≤ length xs) where
  pub lent_tail : take (length xs - a) (drop a xs) ≡ drop a xs
  lent_tail = take_all (length xs - a) (drop a xs) (omega (arith, length-drop a xs))

  pub back_tail : (ys : List ℕ) → put_mid a (length xs - a) xs ys ≡ take a xs ++ ys
  back_tail ys = rw (drop-drop, drop_of_length-le xs {i = a + (length xs - a)} (omega arith), append-nil)
