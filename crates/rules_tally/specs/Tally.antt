-- "Fleet figures": the twenty counts, over the tree and over nodes.
use Rattle.std.specs.Prelude.{ℕ, zero, suc, pred, ◌+◌, Bool, cond, ◌&&◌, List, [], ◌∷◌, map, eqb, leb, drop, get_or}
use Rattle.rules.specs.Sets.{program_kinds, set_size}
use Rattle.rules.specs.Tree.{Tree, none, num, var, star, group, field, call, bin, one, more, decl, ret, plain, assign, guard, then_body, else_body, seq, text, unit, map_type, typed, limit, first, shifted, map_decl, plain_field, bytes_field, array_field, event, program, unit_kind, type_of, limit_of, map_type_numbers}
use Rattle.rules.specs.Nodes.{Node, words_per_node, NodeExpression, NodeIf, NodeUnit, NodeEvent, NodeMap}
use Rattle.rules_tally.specs.declared.Tally.{Tally}

-- ---- what is counted

-- a unit with its kind, a map with its type and max, an event, a statement
pub data Thing : Type 0 where
  a_unit : (kind : ℕ) → Thing
  a_map : (type max : ℕ) → Thing
  an_event a_statement : Thing

-- "units of each of the eleven kinds"
unfoldable pub unit_of : ℕ → Thing → ℕ
unit_of k (a_unit kind) = cond (eqb kind k) 1 0
unit_of k (a_map type max) = 0
unit_of k an_event = 0
unit_of k a_statement = 0

-- "maps of each of the five types"
unfoldable pub map_of : ℕ → Thing → ℕ
map_of k (a_unit kind) = 0
map_of k (a_map type max) = cond (eqb type k) 1 0
map_of k an_event = 0
map_of k a_statement = 0

-- "events"
unfoldable pub event_of : Thing → ℕ
event_of (a_unit kind) = 0
event_of (a_map type max) = 0
event_of an_event = 1
event_of a_statement = 0

-- "statements (13 to 20)"
unfoldable pub statement_of : Thing → ℕ
statement_of (a_unit kind) = 0
statement_of (a_map type max) = 0
statement_of an_event = 0
statement_of a_statement = 1

-- "the exact sum of all max values"
unfoldable pub max_of : Thing → ℕ
max_of (a_unit kind) = 0
max_of (a_map type max) = max
max_of an_event = 0
max_of a_statement = 0

-- "the number of context methods that each unit's kind allows, added up"
unfoldable pub methods_of : Thing → ℕ
methods_of (a_unit kind) = set_size kind
methods_of (a_map type max) = 0
methods_of an_event = 0
methods_of a_statement = 0

-- The twenty counts, by whatever adds up what is said of each thing.
unfoldable pub tally_by : ((Thing → ℕ) → ℕ) → Tally
tally_by added = record {
  units = map (λ k. added (unit_of k)) program_kinds;
  maps = map (λ k. added (map_of k)) map_type_numbers;
  events = added event_of;
  statements = added statement_of;
  max = added max_of;
  methods = added methods_of;
}

-- the tally of nothing
abbrev pub empty : Tally
empty = tally_by (λ f. 0)

-- ---- over the tree

-- What f says of each thing of a tree, added up. Statements in bodies are things of the tree; an `if` is one, and its bodies, sections and
-- licences are none.
unfoldable pub total : (Thing → ℕ) → Tree → ℕ
total f none = 0
total f (num v) = 0
total f (var w) = 0
total f (star t) = total f t
total f (group t) = total f t
total f (field t w) = total f t
total f (call t w a) = total f t + total f a
total f (bin k l r) = total f l + total f r
total f (one t) = total f t
total f (more a t) = total f a + total f t
total f (decl k w e) = total f e + f a_statement
total f (ret e) = total f e + f a_statement
total f (plain e) = total f e + f a_statement
total f (assign k l r) = total f l + total f r + f a_statement
total f (guard w b e) = total f b + total f e + f a_statement
total f (then_body s) = total f s
total f (else_body s) = total f s
total f (seq l t) = total f l + total f t
total f (text k w) = 0
total f (unit w l) = total f l + f (a_unit (unit_kind l))
total f (map_type w) = 0
total f (typed k t) = 0
total f (limit c) = 0
total f (first v) = 0
total f (shifted k c v) = 0
total f (map_decl w l) = f (a_map (type_of l) (pred (limit_of l)))
total f (plain_field w t) = 0
total f (bytes_field w v) = 0
total f (array_field w t v) = 0
total f (event w l) = total f l + f an_event
total f (program l) = total f l

-- "Every count is defined over the tree."
unfoldable pub tally_of : Tree → Tally
tally_of t = tally_by (λ f. total f t)

-- ---- over nodes

-- the node whose words stand first, and the first n nodes
unfoldable pub node_in : List ℕ → Node
node_in ws = record {
  kind = get_or ws 0 0;
  place = get_or ws 1 0;
  name = get_or ws 2 0;
  children = get_or ws 3 0;
  fact0 = get_or ws 4 0;
  fact1 = get_or ws 5 0;
  fact2 = get_or ws 6 0;
  fact3 = get_or ws 7 0;
}

unfoldable pub nodes_in : ℕ → List ℕ → List Node
nodes_in zero ws = []
nodes_in (suc n) ws = node_in ws ∷ nodes_in n (drop words_per_node ws)

-- 13 to 20
abbrev pub is_statement : ℕ → Bool
is_statement k = leb NodeExpression k && leb k NodeIf

-- what f says of a node
unfoldable pub node_total : (Thing → ℕ) → Node → ℕ
node_total f n =
    cond (eqb n.kind NodeUnit) (f (a_unit n.fact0))
    (cond (eqb n.kind NodeMap) (f (a_map n.fact0 n.fact3))
    (cond (eqb n.kind NodeEvent) (f an_event) (cond (is_statement n.kind) (f a_statement) 0)))

unfoldable pub nodes_total : (Thing → ℕ) → List Node → ℕ
nodes_total f [] = 0
nodes_total f (n ∷ ns) = node_total f n + nodes_total f ns

unfoldable pub nodes_tally : List Node → Tally
nodes_tally ns = tally_by (λ f. nodes_total f ns)
