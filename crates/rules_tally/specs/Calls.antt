-- "Fleet figures", the calls: what a tallying of lent nodes and a joining of two tallies give, and a tally in C's words.
use Rattle.std.specs.Prelude.{Result, Ok, Err, ℕ, ◌+◌, ◌*◌, ◌^◌, Bool, true, cond, ◌&&◌, List, [], ◌∷◌, ◌++◌, map, eqb, leb, ltb, length, get_or}
use Rattle.rules.specs.Text.{most_bytes}
use Rattle.rules.specs.Sets.{Unknown}
use Rattle.rules.specs.Tree.{MapHash, MapProgArray}
use Rattle.rules.specs.Nodes.{Node, words_per_node, NodeVariable, NodeUnit, NodeMap, NodeProgram}
use Rattle.rules_tally.specs.declared.Tally.{Tally}
use Rattle.rules_tally.specs.declared.NotNodes.{NotNodes}
use Rattle.rules_tally.specs.declared.CountTooLarge.{CountTooLarge}
use Rattle.rules_tally.specs.Tally.{nodes_in, nodes_tally, empty}

-- ---- numbers: 3 and 70

abbrev pub counting_number : Result Tally NotNodes → ℕ
counting_number (Ok t) = 0
counting_number (Err e) = 3

abbrev pub joining_number : Result Tally CountTooLarge → ℕ
joining_number (Ok t) = 0
joining_number (Err e) = 70

-- ---- the tally that is told beside the number: that of nothing beside 3, the first beside 70

abbrev pub counted : Result Tally NotNodes → Tally
counted (Ok t) = t
counted (Err e) = empty

abbrev pub joined_counts : Result Tally CountTooLarge → Tally
joined_counts (Ok t) = t
joined_counts (Err e) = e.first

-- ---- tallying: "3 for over 131,074 nodes or a kind or type out of range, with an empty tally"

-- as many as two texts have rows
abbrev pub most_nodes : ℕ
most_nodes = 2 * (most_bytes + 1)

abbrev pub within : ℕ → ℕ → ℕ → Bool
within low high x = leb low x && leb x high

-- A node's kind is 1 to 29, a unit's kind 0 to 10, a map's type 1 to 5. Nothing else of a node is looked at.
unfoldable pub is_countable : (kind fact : ℕ) → Bool
is_countable kind fact =
    within NodeVariable NodeProgram kind
    && cond (eqb kind NodeUnit) (leb fact Unknown) (cond (eqb kind NodeMap) (within MapHash MapProgArray fact) true)

unfoldable pub are_countable : List Node → Bool
are_countable [] = true
are_countable (n ∷ ns) = is_countable n.kind n.fact0 && are_countable ns

-- the words of so many nodes are lent
abbrev pub are_lent : List ℕ → ℕ → Bool
are_lent ws n = leb (words_per_node * n) (length ws)

-- 3
abbrev pub untallied : Result Tally NotNodes
untallied = Err (record {})

unfoldable pub tallied : List ℕ → ℕ → Result Tally NotNodes
tallied ws n =
    cond (leb n most_nodes && (are_lent ws n && are_countable (nodes_in n ws))) (Ok (nodes_tally (nodes_in n ws))) untallied

-- ---- joining: "adds them", "70 if a joined count passes 64 bits, and then the first tally is returned"

unfoldable pub add_each : List ℕ → List ℕ → List ℕ
add_each [] ys = []
add_each (x ∷ xs) [] = []
add_each (x ∷ xs) (y ∷ ys) = (x + y) ∷ add_each xs ys

-- count by count
unfoldable pub sum : Tally → Tally → Tally
sum a b = record {
  units = add_each a.units b.units;
  maps = add_each a.maps b.maps;
  events = a.events + b.events;
  statements = a.statements + b.statements;
  max = a.max + b.max;
  methods = a.methods + b.methods;
}

-- the twenty counts
unfoldable pub counts_of : Tally → List ℕ
counts_of t = t.units ++ (t.maps ++ (t.events ∷ t.statements ∷ t.max ∷ t.methods ∷ []))

unfoldable pub all_fit : List ℕ → Bool
all_fit [] = true
all_fit (x ∷ xs) = ltb x (2 ^ 64) && all_fit xs

-- no count passes 64 bits
abbrev pub fits : Tally → Bool
fits t = all_fit (counts_of t)

unfoldable pub joined : Tally → Tally → Result Tally CountTooLarge
joined a b = cond (fits (sum a b)) (Ok (sum a b)) (Err (record { first = a }))

-- ---- in C's words: twenty of 64 bits, units by their kind, maps by their type from 1 on, events, statements, max, methods

abbrev pub each : List ℕ → List ℕ → List ℕ
each counts is = map (λ i. get_or counts i 0) is

unfoldable pub tally_words : Tally → List ℕ
tally_words t =
    each t.units (0 ∷ 1 ∷ 2 ∷ 3 ∷ 4 ∷ 5 ∷ 6 ∷ 7 ∷ 8 ∷ 9 ∷ 10 ∷ [])
    ++ (each t.maps (0 ∷ 1 ∷ 2 ∷ 3 ∷ 4 ∷ []) ++ (t.events ∷ t.statements ∷ t.max ∷ t.methods ∷ []))

-- the tally that such words tell
unfoldable pub tally_in : List ℕ → Tally
tally_in ws = record {
  units = each ws (0 ∷ 1 ∷ 2 ∷ 3 ∷ 4 ∷ 5 ∷ 6 ∷ 7 ∷ 8 ∷ 9 ∷ 10 ∷ []);
  maps = each ws (11 ∷ 12 ∷ 13 ∷ 14 ∷ 15 ∷ []);
  events = get_or ws 16 0;
  statements = get_or ws 17 0;
  max = get_or ws 18 0;
  methods = get_or ws 19 0;
}
