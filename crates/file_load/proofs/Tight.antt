-- The contract of `load` asks nothing, and determines its result and every word of the lent rows. The file is lent as `&`, and shared
-- memory cannot change.
use mathlib.Core.Path.{refl}
use Rattle.laws.specs.Tight.{Tight}
use Rattle.laws.proofs.Tight.{alike, ◌▸◌}
use Rattle.file_load.proofs.load

pub load_tight : Tight load.Kinds.ps load.Kinds.r load.Reads.Asked load.Reads.Learnt
load_tight κs a = (tt, λ r₁ r₂ m₁ m₂ p q. (alike p.0 q.0, refl ▸ alike p.1 q.1 ▸ refl))
