-- What an index is: it rises strictly by the names' bytes, and has each declaration of a list, and nothing else.
use Rattle.std.specs.Prelude.{◌≡◌, true, false, List, [], ◌∷◌, ◌++◌, ℕ}
use Rattle.rules.specs.Kinds.{same_bytes}
use Rattle.rules_program.specs.Both.{Declared, name_row}
use Rattle.rules_program.specs.Names.{comes_before}

pub data Among (d : Declared) : List Declared → Type 0 where
  here : {ds : List Declared} → Among d (d ∷ ds)
  later : {e : Declared} {ds : List Declared} → Among d ds → Among d (e ∷ ds)

-- each name comes before the next one
pub data Rises : List Declared → Type 0 where
  r_none : Rises []
  r_one : {d : Declared} → Rises (d ∷ [])
  r_more : {d e : Declared} {es : List Declared} → comes_before d.name e.name ≡ true → Rises (e ∷ es) → Rises (d ∷ e ∷ es)

pub record IsIndex (ds es : List Declared) : Type 0 where
  pub rises : Rises es
  pub each : (d : Declared) → Among d ds → Among d es
  pub only : (d : Declared) → Among d es → Among d ds

-- no two have the same name
pub data Differ : List Declared → Type 0 where
  d_none : Differ []
  d_more : {d : Declared} {ds : List Declared} → ((e : Declared) → Among e ds → same_bytes e.name d.name ≡ false) → Differ ds
      → Differ (d ∷ ds)

-- the first whose name was declared before: those before it differ, and one of them has its name
pub record FirstTwin (ds : List Declared) (row : ℕ) : Type 0 where
  pub before : List Declared
  pub twin : Declared
  pub after : List Declared
  pub stands : ds ≡ before ++ (twin ∷ after)
  pub place : row ≡ name_row twin
  pub differ : Differ before
  pub first : Declared
  pub earlier : Among first before
  pub same : twin.name ≡ first.name
