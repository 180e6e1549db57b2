-- A text that is shorter than a spelling does not begin with it.
use mathlib.Core.Path.{◌≡◌, ap}
use mathlib.Core.Bool.{false}
use mathlib.Core.List.{List}
use Prim.Native.Nat.{ℕ, ◌<◌}
use native.Mathlib.Omega.{arith}
use lib.ListN.{length, take}
use lib.Seq.{take_all}
use Rattle.rules.specs.Kinds.{same_bytes}
use Rattle.laws.proofs.Spelled.{differs}

pub too_short : (s w : List ℕ) → length w < length s → same_bytes s (take (length s) w) ≡ false
too_short s w l = differs s _ (λ e. omega (arith, ap length e, ap length (take_all (length s) w (omega arith))))
