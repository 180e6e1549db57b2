-- Whether a gap goes on at an index.
use mathlib.Core.Path.{◌≡◌, refl, sym, ◌∙◌}
use mathlib.Core.Bool.{Bool, true, false, ◌||◌}
use mathlib.Core.List.{List}
use Prim.Native.Nat.{ℕ, ◌+◌, ◌≤◌, ◌<◌}
use native.Mathlib.Numerals.{add-one}
use native.Mathlib.Omega.{arith}
use lib.ListN.{length, drop, get_or, drop_of_length-le}
use lib.Seq.{drop-cons}
use lib.Dec.{eqb}
use borrow.Author.Tests.{ne_eqb}
use Rattle.rules.specs.Text.{is_blank}
use Rattle.rules.specs.Edit.{opens, slash_or_star}

module _ (w : List ℕ) (i : ℕ) where
  slash : i < length w → get_or w i 0 ≡ 47 → opens (drop i w) ≡ slash_or_star (drop (i + 1) w)
  unfolding opens is_blank
  slash h e = rw (drop-cons w i 0 h, add-one i) (rw (opens, e))

  pub opens_two : get_or w i 0 ≡ 47 → i + 1 < length w → (eqb (get_or w (i + 1) 0) 47 || eqb (get_or w (i + 1) 0) 42) ≡ opens (drop i w)
  unfolding slash_or_star
  opens_two e h = sym (slash (omega arith) e ∙ rw (drop-cons w (i + 1) 0 h))

  pub opens_last : i < length w → get_or w i 0 ≡ 47 → length w ≤ i + 1 → false ≡ opens (drop i w)
  unfolding slash_or_star
  opens_last l e h = sym (slash l e ∙ rw (drop_of_length-le w h))

  pub opens_other : i < length w → (get_or w i 0 ≡ 47 → ⊥) → is_blank (get_or w i 0) ≡ opens (drop i w)
  unfolding opens is_blank
  opens_other l e = rw (drop-cons w i 0 l) (rw (opens, ne_eqb (get_or w i 0) 47 e) (sym (or_false (is_blank (get_or w i 0)))))
    where
      or_false : (p : Bool) → (p || false) ≡ p
      or_false true = refl
      or_false false = refl
