-- The contracts of `allows`, `set_size` and `section_kind` ask nothing, and determine their results. The text of a section is lent as `&`, and shared
-- memory cannot change.
use mathlib.Core.Path.{refl}
use Rattle.laws.specs.Tight.{Tight}
use Rattle.laws.proofs.Tight.{alike}
use Rattle.methods.proofs.allows
use Rattle.methods.proofs.set_size
use Rattle.methods.proofs.section_kind

pub allows_tight : Tight allows.Kinds.ps allows.Kinds.r allows.Reads.Asked allows.Reads.Learnt
allows_tight κs a = (tt, λ r₁ r₂ m₁ m₂ p q. (alike p q, refl))

pub set_size_tight : Tight set_size.Kinds.ps set_size.Kinds.r set_size.Reads.Asked set_size.Reads.Learnt
set_size_tight κs a = (tt, λ r₁ r₂ m₁ m₂ p q. (alike p q, refl))

pub section_kind_tight : Tight section_kind.Kinds.ps section_kind.Kinds.r section_kind.Reads.Asked section_kind.Reads.Learnt
section_kind_tight κs a = (tt, λ r₁ r₂ m₁ m₂ p q. (alike p q, refl))
