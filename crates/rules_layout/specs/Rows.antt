-- "Lay out a probe", the rows that are written: the tree once more, with "map fields in the order type, key, value, max" and "parentheses
-- only where the grammar needs them". Its rows are its `yield`.
use Rattle.std.specs.Prelude.{ℕ, pred, ◌+◌, true, false, cond, List, [], ◌∷◌, eqb, ltb}
use Rattle.rules.specs.Kinds.{Spelt, last_unmade, KeywordKey, KeywordValue}
use Rattle.rules.specs.Tree.{Tree, none, num, var, star, group, field, call, bin, one, more, decl, ret, plain, assign, guard, then_body, else_body, seq, text, unit, map_type, typed, limit, first, shifted, map_decl, plain_field, bytes_field, array_field, event, program, map_types, type_of, typed_by, limit_of}
use Rattle.rules.specs.Parse.{is_add, is_shift}

-- the spelling that a table has for a kind, or d
unfoldable pub spelling_in : List Spelt → List ℕ → ℕ → List ℕ
spelling_in [] d k = d
spelling_in (e ∷ es) d k = elim (eqb e.kind k) [ true ↦ e.spelling | false ↦ spelling_in es d k ]

-- ---- map fields: each once, "type, key, value, max", the last of each

-- the kind of the type of a number
abbrev pub type_kind : ℕ → ℕ
type_kind n = last_unmade + n

-- behind the fields l: key or value, where the map has one
unfoldable pub with_typed : ℕ → ℕ → Tree → Tree
with_typed f n l = cond (eqb n 0) l (seq l (typed f (type_kind n)))

unfoldable pub type_field : Tree → Tree
type_field l = seq none (map_type (spelling_in map_types [] (type_of l)))

unfoldable pub fields_of : Tree → Tree
fields_of l =
    seq (with_typed KeywordValue (typed_by KeywordValue l) (with_typed KeywordKey (typed_by KeywordKey l) (type_field l))) (limit (first (pred (limit_of l))))

-- ---- parentheses: round an expression whose level is below what its place takes

-- levels: 0 sums, 1 shifts, 2 products, 3 dereferences, 4 all other operands
abbrev pub sum_level : ℕ
sum_level = 0

abbrev pub shift_level : ℕ
shift_level = 1

abbrev pub product_level : ℕ
product_level = 2

abbrev pub dereference_level : ℕ
dereference_level = 3

abbrev pub operand_level : ℕ
operand_level = 4

-- the level of what a sign joins, which is what stands on its left; and what its right takes
unfoldable pub level_by : ℕ → ℕ
level_by k = cond (is_add k) sum_level (cond (is_shift k) shift_level product_level)

abbrev pub left_of : ℕ → ℕ
left_of k = level_by k

unfoldable pub right_of : ℕ → ℕ
right_of k = cond (is_add k) product_level (cond (is_shift k) product_level dereference_level)

-- parentheses that were written count for nothing
unfoldable pub level : Tree → ℕ
level none = operand_level
level (num v) = operand_level
level (var w) = operand_level
level (star t) = dereference_level
level (group t) = level t
level (field t w) = operand_level
level (call t w a) = operand_level
level (bin k l r) = level_by k
level (one t) = operand_level
level (more a t) = operand_level
level (decl k w e) = operand_level
level (ret e) = operand_level
level (plain e) = operand_level
level (assign k l r) = operand_level
level (guard w b e) = operand_level
level (then_body s) = operand_level
level (else_body s) = operand_level
level (seq l t) = operand_level
level (text k w) = operand_level
level (unit w l) = operand_level
level (map_type w) = operand_level
level (typed k t) = operand_level
level (limit c) = operand_level
level (first v) = operand_level
level (shifted k c v) = operand_level
level (map_decl w l) = operand_level
level (plain_field w t) = operand_level
level (bytes_field w v) = operand_level
level (array_field w t v) = operand_level
level (event w l) = operand_level
level (program l) = operand_level

-- t, written as u, at a place that takes level p
abbrev pub placed : ℕ → Tree → Tree → Tree
placed p t u = cond (ltb (level t) p) (group u) u

-- the tree that is written
unfoldable pub laid : Tree → Tree
laid none = none
laid (num v) = num v
laid (var w) = var w
laid (star t) = star (placed dereference_level t (laid t))
laid (group t) = laid t
laid (field t w) = field (placed operand_level t (laid t)) w
laid (call t w a) = call (placed operand_level t (laid t)) w (laid a)
laid (bin k l r) = bin k (placed (left_of k) l (laid l)) (placed (right_of k) r (laid r))
laid (one t) = one (laid t)
laid (more a t) = more (laid a) (laid t)
laid (decl k w e) = decl k w (laid e)
laid (ret e) = ret (laid e)
laid (plain e) = plain (laid e)
laid (assign k l r) = assign k (laid l) (laid r)
laid (guard w b e) = guard w (laid b) (laid e)
laid (then_body s) = then_body (laid s)
laid (else_body s) = else_body (laid s)
laid (seq l t) = seq (laid l) (laid t)
laid (text k w) = text k w
laid (unit w l) = unit w (laid l)
laid (map_type w) = map_type w
laid (typed k t) = typed k t
laid (limit c) = limit c
laid (first v) = first v
laid (shifted k c v) = shifted k c v
laid (map_decl w l) = map_decl w (fields_of l)
laid (plain_field w t) = plain_field w t
laid (bytes_field w v) = bytes_field w v
laid (array_field w t v) = array_field w t v
laid (event w l) = event w (laid l)
laid (program l) = program (laid l)
