-- The contract of `parse` asks nothing, and determines its result and every word of the lent nodes. The text and the rows are lent
-- as `&`, and shared memory cannot change.
use mathlib.Core.Path.{refl}
use Rattle.laws.specs.Tight.{Tight}
use Rattle.laws.proofs.Tight.{alike, ◌▸◌}
use Rattle.parse.proofs.parse

pub parse_tight : Tight parse.Kinds.ps parse.Kinds.r parse.Reads.Asked parse.Reads.Learnt
parse_tight κs a = (tt, λ r₁ r₂ m₁ m₂ p q. (alike p.0 q.0, refl ▸ refl ▸ refl ▸ alike p.1 q.1 ▸ refl))
