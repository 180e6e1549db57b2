-- The contract of `join` asks nothing, and determines the result. Both tallies are passed by value.
use mathlib.Core.Path.{refl}
use Rattle.laws.specs.Tight.{Tight}
use Rattle.laws.proofs.Tight.{alike}
use Rattle.tally_join.proofs.join

pub join_tight : Tight join.Kinds.ps join.Kinds.r join.Reads.Asked join.Reads.Learnt
join_tight κs a = (tt, λ r₁ r₂ m₁ m₂ p q. (alike p q, refl))
