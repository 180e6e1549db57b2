-- The contract of `move_file` asks nothing, and determines its result and every byte of the lent memory. The text and the file are lent
-- as `&`, and shared memory cannot change.
use mathlib.Core.Path.{refl}
use Rattle.laws.specs.Tight.{Tight}
use Rattle.laws.proofs.Tight.{alike, ◌▸◌}
use Rattle.file_move.proofs.move_file

pub move_file_tight : Tight move_file.Kinds.ps move_file.Kinds.r move_file.Reads.Asked move_file.Reads.Learnt
move_file_tight κs a = (tt, λ r₁ r₂ m₁ m₂ p q. (alike p.0 q.0, refl ▸ refl ▸ refl ▸ alike p.1 q.1 ▸ refl))
