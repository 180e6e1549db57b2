-- "The kernel's own map rules": what each asks of a map's facts, and the first map of a program that breaks one.
use Rattle.std.specs.Prelude.{ℕ, zero, suc, pred, ◌+◌, ◌/◌, ◌%◌, Bool, cond, not, ◌&&◌, ◌||◌, List, [], ◌∷◌, ◌++◌, eqb}
use Rattle.rules.specs.Kinds.{KeywordKey, KeywordValue, TypeU32, TypeI32}
use Rattle.rules.specs.Tree.{Tree, none, num, var, star, group, field, call, bin, one, more, decl, ret, plain, assign, guard, then_body, else_body, seq, text, unit, map_type, typed, limit, first, shifted, map_decl, plain_field, bytes_field, array_field, event, program, MapArray, MapRingbuf, MapProgArray, type_number, type_of, typed_by, limit_of}
use Rattle.rules.specs.Nodes.{width}
use Rattle.rules_kernel.specs.declared.Breach.{Breach}
use Rattle.rules_kernel.specs.declared.Breach.TheVariants.{MaxZero, RingbufTyped, RingbufSize, KeySize, ValueSize}

-- ---- the rules of one map

-- A map: the row of its name, and its facts. A key or a value that is not given is 0.
pub record Map : Type 0 where
  pub row : ℕ
  pub type : ℕ
  pub key : ℕ
  pub value : ℕ
  pub max : ℕ

-- u32 and i32 have four bytes, u64 and i64 eight
abbrev pub has_four_bytes : ℕ → Bool
has_four_bytes t = eqb t (type_number TypeU32) || eqb t (type_number TypeI32)

-- how many of the n lowest bits are set
unfoldable pub ones : (n m : ℕ) → ℕ
ones zero m = 0
ones (suc n) m = m % 2 + ones n (m / 2)

abbrev pub page_size : ℕ
page_size = 4096

-- "exactly one bit set and is a multiple of 4,096"
unfoldable pub is_ring_size : ℕ → Bool
is_ring_size m = eqb (ones 32 m) 1 && eqb (m % page_size) 0

-- a rule that is broken is told
abbrev pub broken : Bool → Breach → List Breach
broken b why = cond b (why ∷ []) []

-- "every max is at least 1; ringbuf has neither key nor value, and its max has exactly one bit set and is a multiple of 4,096; array keys have
-- four bytes; prog_array keys and values have four bytes": the rules that a map breaks, in their order
unfoldable pub breaches : Map → List Breach
breaches m =
    broken (eqb m.max 0) MaxZero
    ++ (broken (eqb m.type MapRingbuf && not (eqb m.key 0 && eqb m.value 0)) RingbufTyped
    ++ (broken (eqb m.type MapRingbuf && not (is_ring_size m.max)) RingbufSize
    ++ (broken ((eqb m.type MapArray || eqb m.type MapProgArray) && not (has_four_bytes m.key)) KeySize
    ++ broken (eqb m.type MapProgArray && not (has_four_bytes m.value)) ValueSize)))

-- ---- the maps of a program, in the text's order

-- the map that a declaration at row i is
unfoldable pub map_as : ℕ → Tree → List Map
map_as i none = []
map_as i (num v) = []
map_as i (var w) = []
map_as i (star t) = []
map_as i (group t) = []
map_as i (field t w) = []
map_as i (call t w a) = []
map_as i (bin k l r) = []
map_as i (one t) = []
map_as i (more a t) = []
map_as i (decl k w e) = []
map_as i (ret e) = []
map_as i (plain e) = []
map_as i (assign k l r) = []
map_as i (guard w b e) = []
map_as i (then_body s) = []
map_as i (else_body s) = []
map_as i (seq l t) = []
map_as i (text k w) = []
map_as i (unit w l) = []
map_as i (map_type w) = []
map_as i (typed k t) = []
map_as i (limit c) = []
map_as i (first v) = []
map_as i (shifted k c v) = []
map_as i (map_decl w l) = record { row = i + 1; type = type_of l; key = typed_by KeywordKey l; value = typed_by KeywordValue l; max = pred (limit_of l) } ∷ []
map_as i (plain_field w t) = []
map_as i (bytes_field w v) = []
map_as i (array_field w t v) = []
map_as i (event w l) = []
map_as i (program l) = []

unfoldable pub maps_in : ℕ → List Tree → List Map
maps_in i [] = []
maps_in i (d ∷ ds) = map_as i d ++ maps_in (i + width d) ds

-- ---- the first that breaks a rule, of it the first rule

-- a rule that is broken, and the row at which it is told
pub record Broken : Type 0 where
  pub row : ℕ
  pub why : Breach

-- of the first map, if it breaks any, and else of those after it
unfoldable pub first_of : ℕ → List Breach → List Broken → List Broken
first_of row [] rest = rest
first_of row (why ∷ whys) rest = record { row = row; why = why } ∷ rest

-- the maps that break a rule, in order, each with the first that it breaks
unfoldable pub broken_in : List Map → List Broken
broken_in [] = []
broken_in (m ∷ ms) = first_of m.row (breaches m) (broken_in ms)
