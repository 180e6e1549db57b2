-- The contract of `load_beside` asks nothing, and determines its result and every word of the lent rows. The text and the file are lent
-- as `&`, and shared memory cannot change.
use mathlib.Core.Path.{refl}
use Rattle.laws.specs.Tight.{Tight}
use Rattle.laws.proofs.Tight.{alike, ◌▸◌}
use Rattle.file_beside.proofs.load_beside

pub load_beside_tight : Tight load_beside.Kinds.ps load_beside.Kinds.r load_beside.Reads.Asked load_beside.Reads.Learnt
load_beside_tight κs a = (tt, λ r₁ r₂ m₁ m₂ p q. (alike p.0 q.0, refl ▸ refl ▸ alike p.1 q.1 ▸ refl))
