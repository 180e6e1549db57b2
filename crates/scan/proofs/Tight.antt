-- The contract of `scan` asks nothing, and determines its result and every word of the lent rows. The text is lent as `&`, and
-- shared memory cannot change.
use mathlib.Core.Path.{refl}
use Rattle.laws.specs.Tight.{Tight}
use Rattle.laws.proofs.Tight.{alike, ◌▸◌}
use Rattle.scan.proofs.scan

pub scan_tight : Tight scan.Kinds.ps scan.Kinds.r scan.Reads.Asked scan.Reads.Learnt
scan_tight κs a = (tt, λ r₁ r₂ m₁ m₂ p q. (alike p.0 q.0, refl ▸ alike p.1 q.1 ▸ refl))
