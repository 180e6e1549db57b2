-- Laws of lists whose elements lie below a bound: parts of them, lists of them, and what is at an index.
use mathlib.Core.List.{List, [], ◌∷◌, ◌++◌}
use Prim.Native.Nat.{ℕ, zero, suc, ◌<◌}
use lib.ListN.{take, drop, get_or, set, replicate}
use Rattle.laws.specs.Bounds.{Below, none, some}

module _ {m : ℕ} where
  pub below_take : (n : ℕ) {s : List ℕ} → Below m s → Below m (take n s)
  below_take zero b = none
  below_take (suc n) none = none
  below_take (suc n) (some h b) = some h (below_take n b)

  pub below_drop : (n : ℕ) {s : List ℕ} → Below m s → Below m (drop n s)
  below_drop zero b = b
  below_drop (suc n) none = none
  below_drop (suc n) (some h b) = below_drop n b

  pub below_append : {s t : List ℕ} → Below m s → Below m t → Below m (s ++ t)
  below_append none c = c
  below_append (some h b) c = some h (below_append b c)

  pub below_set : {s : List ℕ} (i v : ℕ) → v < m → Below m s → Below m (set s i v)
  below_set i v l none = none
  below_set zero v l (some h b) = some l b
  below_set (suc i) v l (some h b) = some h (below_set i v l b)

  pub below_zeros : (n : ℕ) → 0 < m → Below m (replicate n 0)
  below_zeros zero l = none
  below_zeros (suc n) l = some l (below_zeros n l)

  pub below_at : {s : List ℕ} → Below m s → (i : ℕ) → 0 < m → get_or s i 0 < m
  below_at none i l = l
  below_at (some h b) zero l = h
  below_at (some h b) (suc i) l = below_at b i l

-- from what is known of each index
pub below_from : (m : ℕ) (s : List ℕ) → ((i : ℕ) → get_or s i 0 < m) → Below m s
below_from m [] f = none
below_from m (x ∷ s) f = some (f 0) (below_from m s (λ i. f (suc i)))
