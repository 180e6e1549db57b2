-- The contract of `change` asks nothing, and determines its result and every word of the lent new rows. The old rows and the
-- text are lent as `&`, and shared memory cannot change.
use mathlib.Core.Path.{refl}
use Rattle.laws.specs.Tight.{Tight}
use Rattle.laws.proofs.Tight.{alike, ◌▸◌}
use Rattle.edit_change.proofs.change

pub change_tight : Tight change.Kinds.ps change.Kinds.r change.Reads.Asked change.Reads.Learnt
change_tight κs a = (tt, λ r₁ r₂ m₁ m₂ p q. (alike p.0 q.0, refl ▸ refl ▸ refl ▸ refl ▸ refl ▸ refl ▸ alike p.1 q.1 ▸ refl))
