-- The contract of `mend` asks nothing, and determines its result, every byte of the lent memory and every word of the
-- lent list. The text is lent as `&`, and shared memory cannot change.
use mathlib.Core.Path.{refl}
use Rattle.laws.specs.Tight.{Tight}
use Rattle.laws.proofs.Tight.{alike, ◌▸◌}
use Rattle.file_mend.proofs.mend

-- No two ends of the call that its contract allows differ.
pub mend_tight : Tight mend.Kinds.ps mend.Kinds.r mend.Reads.Asked mend.Reads.Learnt
mend_tight κs a = (
  tt,
  λ r₁ r₂ m₁ m₂ p q. (alike p.0 q.0, refl ▸ refl ▸ alike p.1.0 q.1.0 ▸ refl ▸ alike p.1.1 q.1.1 ▸ refl),
)
