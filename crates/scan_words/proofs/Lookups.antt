-- A table that has no entry for a word gives it the kind of the rest.
use mathlib.Core.Path.{◌≡◌, refl}
use mathlib.Core.Bool.{Bool, true, not, ◌&&◌}
use mathlib.Core.List.{List, [], ◌∷◌}
use Prim.Native.Nat.{ℕ}
use borrow.Author.Tests.{not-true}
use Rattle.rules.specs.Kinds.{Spelt, same_bytes, kind_in}
use Rattle.laws.proofs.Tests.{both_true}

-- ---- a table that has no entry for a word

unfoldable pub all_fail : List Spelt → List ℕ → Bool
all_fail [] w = true
all_fail (e ∷ es) w = not (same_bytes e.spelling w) && all_fail es w

pub no_entry : (es : List Spelt) (d : ℕ) (w : List ℕ) → all_fail es w ≡ true → kind_in es d w ≡ d
unfolding all_fail kind_in
no_entry [] d w h = refl
no_entry (e ∷ es) d w h =
    let b = both_true (not (same_bytes e.spelling w)) (all_fail es w) h in
    rw (kind_in, not-true (same_bytes e.spelling w) b.0) (no_entry es d w b.1)
