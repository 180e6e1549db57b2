-- The contract of `store` asks nothing, and determines its result and every byte of the lent file.
-- The rows are lent as `&`, and shared memory cannot change.
use mathlib.Core.Path.{refl}
use Rattle.laws.specs.Tight.{Tight}
use Rattle.laws.proofs.Tight.{alike, ◌▸◌}
use Rattle.file_store.proofs.store

pub store_tight : Tight store.Kinds.ps store.Kinds.r store.Reads.Asked store.Reads.Learnt
store_tight κs a = (tt, λ r₁ r₂ m₁ m₂ p q. (alike p.0 q.0, refl ▸ refl ▸ alike p.1 q.1 ▸ refl))
