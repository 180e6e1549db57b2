-- The contracts of `well_formed`, `judge`, `spelling_judge` and `spelling` ask nothing, and determine their results. All that is lent to them is lent as
-- `&`, and shared memory cannot change. What `spelling` gives is a part of the lent text, and what is seen of it is its bytes.
use Rattle.std.proofs.Common.{refl}
use Rattle.laws.specs.Tight.{Tight, TightIn}
use Rattle.laws.proofs.Tight.{alike}
use Rattle.rows.proofs.well_formed
use Rattle.rows.proofs.judge
use Rattle.rows.proofs.spelling_judge
use Rattle.rows.proofs.spelling

pub well_formed_tight : Tight well_formed.Kinds.ps well_formed.Kinds.r well_formed.Reads.Asked well_formed.Reads.Learnt
well_formed_tight κs a = (tt, λ r₁ r₂ m₁ m₂ p q. (alike p q, refl))

pub judge_tight : Tight judge.Kinds.ps judge.Kinds.r judge.Reads.Asked judge.Reads.Learnt
judge_tight κs a = (tt, λ r₁ r₂ m₁ m₂ p q. (alike p q, refl))

pub spelling_judge_tight : Tight spelling_judge.Kinds.ps spelling_judge.Kinds.r spelling_judge.Reads.Asked spelling_judge.Reads.Learnt
spelling_judge_tight κs a = (tt, λ r₁ r₂ m₁ m₂ p q. (alike p q, refl))

pub spelling_tight : TightIn spelling.Kinds.ps spelling.Kinds.r spelling.Reads.Asked spelling.Reads.Learnt (λ κs x. x.now)
spelling_tight κs a = (tt, λ r₁ r₂ m₁ m₂ p q. (alike p q, refl))
