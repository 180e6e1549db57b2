-- Laws of spots: moves compose, and what is ahead shrinks by them.
use mathlib.Core.Path.{◌≡◌, refl}
use mathlib.Core.List.{List}
use Prim.Native.Nat.{ℕ, ◌+◌, ◌-◌, ◌≤◌, ◌<◌}
use native.Mathlib.Nat.{add-zero, add_assoc}
use native.Mathlib.Omega.{arith}
use lib.ListN.{length, take, drop, get_or, length-drop, length-take}
use lib.Seq.{drop-cons, take-add, drop-drop}
use Rattle.rules.specs.Text.{moved, over}
use Rattle.laws.proofs.Places.{over_append, roomy_over}
use Rattle.scan_reader.specs.declared.Spot.{Spot}
use Rattle.scan_reader.specs.Read.{onward, Ahead}

pub onward_at : (t : List ℕ) (s : Spot) (n : ℕ) → (onward t s n).at ≡ s.at + n
unfolding onward
onward_at t s n = refl

pub onward_none : (t : List ℕ) (s : Spot) → onward t s 0 ≡ s
unfolding onward over
onward_none t s = rw add-zero

pub onward_more : (t : List ℕ) (s : Spot) (m n : ℕ) → onward t (onward t s m) n ≡ onward t s (m + n)
unfolding onward
onward_more t s m n = rw (take-add, over_append, drop-drop, add_assoc)

pub onward_one : (t : List ℕ) (s : Spot) → s.at < length t → onward t s 1
    ≡ record { at = s.at + 1; cursor = moved s.cursor (get_or t s.at 0) }
unfolding onward over
onward_one t s h = rw (drop-cons t s.at 0 h)

pub ahead_more : (t : List ℕ) (s : Spot) (n : ℕ) → s.at + n ≤ length t → Ahead t s → Ahead t (onward t s n)
unfolding onward
ahead_more t s n h a =
    let u = take n (drop s.at t) in
    let e : length t - (s.at + n) + length u ≡ length t - s.at =
    omega (arith, length-take n (drop s.at t), length-drop s.at t, a.inside) in
    record { inside = h; roomy = roomy_over (length t - (s.at + n)) s.cursor u (rw e a.roomy) }
