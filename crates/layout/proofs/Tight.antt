-- The contract of `lay_out` asks nothing, and determines its result, every word of the scratch and every byte of the room. Text, rows and
-- nodes are lent as `&`, and shared memory cannot change.
use mathlib.Core.Path.{refl}
use Rattle.laws.specs.Tight.{Tight}
use Rattle.laws.proofs.Tight.{alike, ◌▸◌}
use Rattle.layout.proofs.lay_out

pub lay_out_tight : Tight lay_out.Kinds.ps lay_out.Kinds.r lay_out.Reads.Asked lay_out.Reads.Learnt
lay_out_tight κs a =
    (tt, λ r₁ r₂ m₁ m₂ p q. (alike p.0 q.0, refl ▸ refl ▸ refl ▸ refl ▸ refl ▸ alike p.1.1 q.1.1 ▸ alike p.1.0 q.1.0 ▸ refl))
