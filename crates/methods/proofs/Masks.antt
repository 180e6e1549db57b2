-- Laws of the method sets: each mask's bits are the methods that its kind allows, and its ones are as many as they are.
use mathlib.Core.Path.{◌≡◌, refl, ap, ◌∙◌}
use mathlib.Core.Bool.{Bool, true, cond, ◌&&◌}
use mathlib.Core.List.{List, [], ◌∷◌}
use Prim.Native.Nat.{ℕ, zero, suc, ◌+◌, ◌/◌, ◌%◌, ◌^◌, ◌<◌}
use native.Mathlib.Nat.{pow-zero, pow-suc, div-lt_iff_lt-mul, div-le_self}
use native.Mathlib.Omega.{arith}
use lib.ListN.{get_or}
use lib.Dec.{eqb, ltb}
use lib.Count.{ones, ones_in, ones_step}
use borrow.Author.Tests.{eqb-true, ltb-true}
use Rattle.rules.specs.Sets.{allowed, member, allows, set_size}
use Rattle.laws.specs.Tests.{all_below}
use Rattle.laws.proofs.Tests.{both_true, below}

abbrev pub masks : List ℕ
masks =
    0x00FF ∷ 0x000F ∷ 0x0007 ∷ 0x000C ∷ 0xC608 ∷ 0xFFFF ∷ 0xC008 ∷ 0x0008 ∷ 0x0008 ∷ 0x0008 ∷ 0x0000 ∷ []

empty : ones 0 ≡ 0
unfolding ones ones_in
empty = refl

-- ones are counted in the digits that there are
digits : (k n : ℕ) → n < 2 ^ k → ones n ≡ ones_in k n
unfolding ones_in
digits zero n h = rw (none n (rw pow-zero at h)) empty
  where
    none : (m : ℕ) → m < 1 → m ≡ 0
    none m l = omega arith
digits (suc k) n h = ones_step n ∙ ap (λ (x : ℕ). n % 2 + x) (digits k (n / 2) ((div-lt_iff_lt-mul (omega arith)).1 (rw pow-suc at h)))

bit : ℕ → ℕ → Bool
bit kind method = eqb (get_or masks kind 0 / 2 ^ method % 2) (cond (allows kind method) 1 0)

mask_holds : ℕ → Bool
mask_holds kind = all_below (bit kind) 16 && (ltb (get_or masks kind 0) (2 ^ 16) && eqb (ones_in 16 (get_or masks kind 0)) (set_size kind))

masks_hold : all_below mask_holds 11 ≡ true
unfolding mask_holds bit allows set_size allowed member ones_in
masks_hold = refl

-- a kind's mask: its bits, its range and its ones
record Right (kind : ℕ) : Type 0 where
  bits : all_below (bit kind) 16 ≡ true
  small : get_or masks kind 0 < 2 ^ 16
  size : ones_in 16 (get_or masks kind 0) ≡ set_size kind

right : (kind : ℕ) → kind < 11 → Right kind
unfolding mask_holds
right kind h =
    let a = both_true (all_below (bit kind) 16) (ltb (get_or masks kind 0) (2 ^ 16) && eqb (ones_in 16 (get_or masks kind 0)) (set_size kind)) (below mask_holds 11 masks_hold kind h) in
    let b = both_true (ltb (get_or masks kind 0) (2 ^ 16)) (eqb (ones_in 16 (get_or masks kind 0)) (set_size kind)) a.1 in
    record { bits = a.0; small = ltb-true _ _ b.0; size = eqb-true _ _ b.1 }

module _ (kind : ℕ) (h : kind < 11) where
  pub mask_bit : (method : ℕ) → method < 16 → get_or masks kind 0 / 2 ^ method % 2 ≡ cond (allows kind method) 1 0
  unfolding bit
  mask_bit method l = eqb-true _ _ (below (bit kind) 16 (right kind h).bits method l)

  pub mask_part : (d : ℕ) → get_or masks kind 0 / d < 2 ^ 16
  mask_part d = omega (arith, (right kind h).small, div-le_self (get_or masks kind 0) d)

  pub mask_ones : ones (get_or masks kind 0) ≡ set_size kind
  mask_ones = digits 16 (get_or masks kind 0) (right kind h).small ∙ (right kind h).size
