-- The entries of an index as nodes have them, in their order: of each map's and event's node its name row and number.
use Rattle.std.specs.Prelude.{ℕ, suc, Bool, cond, ◌||◌, List, [], ◌∷◌, eqb}
use Rattle.rules.specs.Nodes.{Node, NodeMap, NodeEvent}

abbrev pub has_name : ℕ → Bool
has_name kind = eqb kind NodeMap || eqb kind NodeEvent

-- the first of the nodes is node n
unfoldable pub entries_in : ℕ → List Node → List ℕ
entries_in n [] = []
entries_in n (x ∷ xs) = cond (has_name x.kind) (x.name ∷ n ∷ entries_in (suc n) xs) (entries_in (suc n) xs)
