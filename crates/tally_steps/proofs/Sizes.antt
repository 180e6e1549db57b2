-- The size of a kind's set, by what is told of it: a kind that has none allows nothing.
use Prim.Native.Nat.{ℕ, ◌<◌}
use mathlib.Core.Bool.{Bool, true, false, cond}
use mathlib.Core.List.{[]}
use mathlib.Core.Path.{◌≡◌, refl}
use native.Mathlib.Omega.{arith}
use lib.Dec.{leb}
use lib.ListN.{get_or-eq_default}
use borrow.Author.Tests.{leb-false}
use Rattle.rules.specs.declared.Outer.{Outer}
use Rattle.rules.specs.declared.Outer.TheVariants.{NotWellFormed}
use Rattle.std.specs.declared.result.Result.TheVariants.{Ok, Err}
use Rattle.rules.specs.Sets.{Unknown, allowed, set_size}
use Rattle.rules.specs.Calls.{size_asked}

pub none_allowed : (kind : ℕ) → Unknown < kind → 0 ≡ set_size kind
unfolding set_size allowed
none_allowed kind h = rw (get_or-eq_default allowed [] {n = kind} (omega arith))

pub size_told : (kind n : ℕ) → size_asked kind ≡ Ok n → n ≡ set_size kind
unfolding size_asked
size_told kind n e = by (leb kind Unknown) e
  where
    by : (b : Bool) → cond b (Ok (set_size kind)) (Err NotWellFormed) ≡ Ok n → n ≡ set_size kind
    by true f = cc
    by false f = cc

pub size_untold : (kind : ℕ) (why : Outer) → size_asked kind ≡ Err why → 0 ≡ set_size kind
unfolding size_asked
size_untold kind why e = by (leb kind Unknown) refl e
  where
    by : (b : Bool) → leb kind Unknown ≡ b → cond b (Ok (set_size kind)) (Err NotWellFormed) ≡ Err why → 0 ≡ set_size kind
    by true f g = cc
    by false f g = none_allowed kind (leb-false kind Unknown f)
