-- Laws of the sections, one after the other.
use mathlib.Core.Path.{◌≡◌, refl, ◌∙◌}
use mathlib.Core.Bool.{Bool, true, false, cond}
use mathlib.Core.List.{List, [], ◌∷◌}
use Prim.Native.Nat.{ℕ, suc}
use lib.ListN.{get_or, drop}
use Rattle.rules.specs.Sets.{Section, Unknown, sections, fits, kind_of_section}

unfoldable pub section_at : ℕ → Section
section_at k = get_or sections k (record { whole = true; spelling = []; kind = Unknown })

-- the kind by section k and those behind it
pub kind_by : (k : ℕ) (w : List ℕ) {r o : ℕ} → r ≡ cond (fits (section_at k) w) (section_at k).kind o →
    o ≡ kind_of_section (drop (suc k) sections) w → r ≡ kind_of_section (section_at k ∷ drop (suc k) sections) w
unfolding kind_of_section
kind_by k w {r} {o} e h = e ∙ pick (fits (section_at k) w)
  where
    pick : (p : Bool) →
        cond p (section_at k).kind o ≡ elim p as (λ _. ℕ) [ true ↦ (section_at k).kind | false ↦ kind_of_section (drop (suc k) sections) w ]
    pick true = refl
    pick false = h
