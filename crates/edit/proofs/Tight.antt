-- The contracts of `edit` and `restart` ask nothing, and determine their results, that of the edit every word of the lent new rows too. The
-- old rows and the window are lent as `&`, and shared memory cannot change.
use mathlib.Core.Path.{refl}
use Rattle.laws.specs.Tight.{Tight}
use Rattle.laws.proofs.Tight.{alike, ◌▸◌}
use Rattle.edit.proofs.edit
use Rattle.edit.proofs.restart

pub edit_tight : Tight edit.Kinds.ps edit.Kinds.r edit.Reads.Asked edit.Reads.Learnt
edit_tight κs a = (tt, λ r₁ r₂ m₁ m₂ p q. (alike p.0 q.0, refl ▸ refl ▸ refl ▸ refl ▸ refl ▸ refl ▸ refl ▸ alike p.1 q.1 ▸ refl))

pub restart_tight : Tight restart.Kinds.ps restart.Kinds.r restart.Reads.Asked restart.Reads.Learnt
restart_tight κs a = (tt, λ r₁ r₂ m₁ m₂ p q. (alike p q, refl))
