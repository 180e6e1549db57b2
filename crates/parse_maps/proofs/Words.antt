-- What the number of a map type tells, spelling by spelling.
use mathlib.Core.Path.{◌≡◌, sym, ◌∙◌}
use mathlib.Core.Bool.{Bool, true, false, cond}
use mathlib.Core.List.{List, [], ◌∷◌}
use Rattle.std.specs.Prelude.{Option, Some}
use Prim.Native.Nat.{ℕ, suc}
use lib.ListN.{get_or, drop}
use Rattle.rules.specs.Kinds.{Spelt, same_bytes, kind_in}
use Rattle.rules.specs.Tree.{map_types}
use Rattle.parse_maps.specs.Steps.{told}

unfoldable pub type_at : ℕ → Spelt
type_at k = get_or map_types k (record { spelling = []; kind = 0 })

-- what is told by spelling k, whose number tells itself, and those behind it
pub told_by : (k : ℕ) (w : List ℕ) {r o : Option ℕ} → told (type_at k).kind ≡ Some (type_at k).kind
    → r ≡ cond (same_bytes (type_at k).spelling w) (Some (type_at k).kind) o
    → o ≡ told (kind_in (drop (suc k) map_types) 0 w) → r ≡ told (kind_in (type_at k ∷ drop (suc k) map_types) 0 w)
unfolding kind_in
told_by k w {r} {o} s e h = e ∙ pick (same_bytes (type_at k).spelling w)
  where
    pick : (p : Bool) → cond p (Some (type_at k).kind) o
        ≡ told (elim p as (λ _. ℕ) [ true ↦ (type_at k).kind | false ↦ kind_in (drop (suc k) map_types) 0 w ])
    pick true = sym s
    pick false = h
