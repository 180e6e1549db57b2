-- The contract of `tally` asks nothing, and determines the result. The nodes are lent as `&`, and shared memory cannot change.
use mathlib.Core.Path.{refl}
use Rattle.laws.specs.Tight.{Tight}
use Rattle.laws.proofs.Tight.{alike}
use Rattle.tally.proofs.tally

pub tally_tight : Tight tally.Kinds.ps tally.Kinds.r tally.Reads.Asked tally.Reads.Learnt
tally_tight κs a = (tt, λ r₁ r₂ m₁ m₂ p q. (alike p q, refl))
