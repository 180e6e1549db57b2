-- How tight a call's contract is, stated over what the checker generates of a function: `Kinds.ps` and `Kinds.r` are the kinds of its parameters and of its
-- result, `Reads.Asked` is what its contract asks of a caller, and `Reads.Learnt` what a caller learns by it, of the arguments, the result and the
-- parameters at exit.
use Rattle.std.specs.Prelude.{ℕ, List, ◌≡◌}
use contract.Lifetimes.{Lfts}
use denote.Triple.Clauses.{Lasts, at_exit}
use borrow.Fn.Kinds.{ParamKind, ResultKind, In, Out, Dens, res_t, ended_of}

module _ {n : ℕ} (ps : List (ParamKind n)) (r : ResultKind n) (Asked : In n ps) (Learnt : Out n ps r) where
  -- Whatever the arguments, the call may be made, and any two ends of it that the contract allows are alike: what is seen of the results is equal, and so
  -- is the last value of each thing lent as `&mut`. These are what `Lasts` has; what is lent as `&` has none there, since shared memory cannot change.
  abbrev pub TightIn : {S : Lfts n → Type 0} → ((κs : Lfts n) → (res_t r κs).Denot → S κs) → Type 0
  TightIn seen =
      (κs : Lfts n) (a : Dens κs ps)
      → Asked κs a
      × ((r₁ r₂ : (res_t r κs).Denot) (m₁ m₂ : Lasts (ended_of n ps r) κs a)
      → Learnt κs a r₁ (at_exit (ended_of n ps r) κs a m₁) → Learnt κs a r₂ (at_exit (ended_of n ps r) κs a m₂)
      → (seen κs r₁ ≡ seen κs r₂) × (m₁ ≡ m₂))

  -- All of the result is seen.
  abbrev pub Tight : Type 0
  Tight = TightIn (λ κs x. x)
