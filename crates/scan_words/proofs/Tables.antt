-- The table of classes, as the code lists it, has the class of each byte: a test at each.
use mathlib.Core.Path.{◌≡◌}
use mathlib.Core.Bool.{Bool, true}
use mathlib.Core.List.{List}
use Prim.Native.Nat.{ℕ}
use lib.ListN.{get_or}
use lib.Dec.{eqb}
use borrow.Author.Tests.{eqb-true}
use Rattle.scan_words.specs.Class.{mark_of, Classes}
use Rattle.laws.specs.Tests.{all_below}
use Rattle.laws.proofs.Tests.{below}

unfoldable pub right : List ℕ → ℕ → Bool
right t b = eqb (get_or t b 0) (mark_of b)

pub all_right : (t : List ℕ) → all_below (right t) 256 ≡ true → Classes t
unfolding right
all_right t e = record { mark = λ b h. eqb-true _ _ (below (right t) 256 e b h) }
