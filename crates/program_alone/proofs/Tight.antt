-- The contract of `read` asks nothing, and determines its result. The text and the rows are lent as `&`, and shared
-- memory cannot change.
use mathlib.Core.Path.{refl}
use Rattle.laws.specs.Tight.{Tight}
use Rattle.laws.proofs.Tight.{alike, ◌▸◌}
use Rattle.program_alone.proofs.read

pub read_tight : Tight read.Kinds.ps read.Kinds.r read.Reads.Asked read.Reads.Learnt
read_tight κs a = (tt, λ r₁ r₂ m₁ m₂ p q. (alike p q, refl ▸ refl ▸ refl))
