-- "A site prelude", names: units belong in the probe, "a name that was declared before" is refused, and "an index of all maps and events,
-- sorted by the name's bytes".
use Rattle.std.specs.Prelude.{ℕ, Bool, true, false, cond, ◌||◌, List, [], ◌∷◌, eqb, ltb}
use Rattle.rules.specs.Kinds.{same_bytes}
use Rattle.rules.specs.Nodes.{NodeUnit}
use Rattle.rules_program.specs.Both.{Declared, name_row}

-- ---- units

abbrev pub is_unit : Declared → Bool
is_unit d = eqb d.kind NodeUnit

-- the rows at which units begin, in order
unfoldable pub unit_rows : List Declared → List ℕ
unit_rows [] = []
unit_rows (d ∷ ds) = cond (is_unit d) (d.row ∷ unit_rows ds) (unit_rows ds)

-- ---- names of maps and events, which share one set; units have none

unfoldable pub named : List Declared → List Declared
named [] = []
named (d ∷ ds) = cond (is_unit d) (named ds) (d ∷ named ds)

-- a name, and the row in which it stands
pub record Name : Type 0 where
  pub name : List ℕ
  pub row : ℕ

unfoldable pub names_of : List Declared → List Name
names_of [] = []
names_of (d ∷ ds) = record { name = d.name; row = name_row d } ∷ names_of ds

-- whether one of them is spelled so
unfoldable pub has_name : List ℕ → List Name → Bool
has_name w [] = false
has_name w (n ∷ ns) = same_bytes w n.name || has_name w ns

-- the rows of those names that were declared before: by one of `seen`, or by one that stands earlier
unfoldable pub twin_rows : List Name → List Name → List ℕ
twin_rows seen [] = []
twin_rows seen (n ∷ ns) = cond (has_name n.name seen) (n.row ∷ twin_rows (n ∷ seen) ns) (twin_rows (n ∷ seen) ns)

-- ---- the index

-- whether a name comes before another: by its first byte that differs, and a shorter one before a longer that it begins
unfoldable pub comes_before : List ℕ → List ℕ → Bool
comes_before [] [] = false
comes_before [] (y ∷ ys) = true
comes_before (x ∷ xs) [] = false
comes_before (x ∷ xs) (y ∷ ys) = cond (eqb x y) (comes_before xs ys) (ltb x y)

-- a declaration put in its place among others that rise
unfoldable pub placed_in : Declared → List Declared → List Declared
placed_in d [] = d ∷ []
placed_in d (e ∷ es) = cond (comes_before d.name e.name) (d ∷ e ∷ es) (e ∷ placed_in d es)

unfoldable pub rising : List Declared → List Declared
rising [] = []
rising (d ∷ ds) = placed_in d (rising ds)

-- an entry is two words: the name's row and the node
unfoldable pub entry_words : List Declared → List ℕ
entry_words [] = []
entry_words (d ∷ ds) = name_row d ∷ d.node ∷ entry_words ds

abbrev pub words_per_entry : ℕ
words_per_entry = 2
