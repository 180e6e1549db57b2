-- "Nodes": the nodes of a tree whose first row is row i, children before their parent, in text order.
use Rattle.std.specs.Prelude.{ℕ, pred, ◌+◌, ◌/◌, ◌%◌, ◌^◌, cond, List, [], ◌∷◌, ◌++◌, eqb}
use Rattle.rules.specs.Kinds.{KeywordSection, KeywordLicense, KeywordReg, KeywordImm, KeywordKey, KeywordValue, Equals, Plus, Minus, Star, Slash, Percent, Shl}
use Rattle.rules.specs.Tree.{Tree, none, num, var, star, group, field, call, bin, one, more, decl, ret, plain, assign, guard, then_body, else_body, seq, text, unit, map_type, typed, limit, first, shifted, map_decl, plain_field, bytes_field, array_field, event, program, count, unit_kind, type_number, type_of, typed_by, limit_of}

-- Eight u32 words: kind, place row, name row, children, four facts.
pub record Node : Type 0 where
  pub kind : ℕ
  pub place : ℕ
  pub name : ℕ
  pub children : ℕ
  pub fact0 : ℕ
  pub fact1 : ℕ
  pub fact2 : ℕ
  pub fact3 : ℕ

abbrev pub words_per_node : ℕ
words_per_node = 8

abbrev pub missing : ℕ
missing = 4294967295

-- 1 variable, 2 number, 3 dereference, 4 to 10 add sub mul div mod shl shr, 11 call, 12 field, 13 expression, 14 assign, 15 add-assign, 16 reg,
-- 17 imm, 18 heap, 19 return, 20 if, 21 then, 22 else, 23 section, 24 license, 25 unit, 26 event field, 27 event, 28 map, 29 program.
abbrev pub NodeVariable : ℕ
NodeVariable = 1

abbrev pub NodeNumber : ℕ
NodeNumber = 2

abbrev pub NodeDereference : ℕ
NodeDereference = 3

abbrev pub NodeAdd : ℕ
NodeAdd = 4

abbrev pub NodeSub : ℕ
NodeSub = 5

abbrev pub NodeMul : ℕ
NodeMul = 6

abbrev pub NodeDiv : ℕ
NodeDiv = 7

abbrev pub NodeMod : ℕ
NodeMod = 8

abbrev pub NodeShl : ℕ
NodeShl = 9

abbrev pub NodeShr : ℕ
NodeShr = 10

abbrev pub NodeCall : ℕ
NodeCall = 11

abbrev pub NodeField : ℕ
NodeField = 12

abbrev pub NodeExpression : ℕ
NodeExpression = 13

abbrev pub NodeAssign : ℕ
NodeAssign = 14

abbrev pub NodeAddAssign : ℕ
NodeAddAssign = 15

abbrev pub NodeReg : ℕ
NodeReg = 16

abbrev pub NodeImm : ℕ
NodeImm = 17

abbrev pub NodeHeap : ℕ
NodeHeap = 18

abbrev pub NodeReturn : ℕ
NodeReturn = 19

abbrev pub NodeIf : ℕ
NodeIf = 20

abbrev pub NodeThen : ℕ
NodeThen = 21

abbrev pub NodeElse : ℕ
NodeElse = 22

abbrev pub NodeSection : ℕ
NodeSection = 23

abbrev pub NodeLicense : ℕ
NodeLicense = 24

abbrev pub NodeUnit : ℕ
NodeUnit = 25

abbrev pub NodeEventField : ℕ
NodeEventField = 26

abbrev pub NodeEvent : ℕ
NodeEvent = 27

abbrev pub NodeMap : ℕ
NodeMap = 28

abbrev pub NodeProgram : ℕ
NodeProgram = 29

abbrev pub node_kinds : List ℕ
node_kinds =
    NodeVariable ∷ NodeNumber ∷ NodeDereference ∷ NodeAdd ∷ NodeSub ∷ NodeMul ∷ NodeDiv ∷ NodeMod ∷ NodeShl ∷ NodeShr ∷ NodeCall ∷ NodeField ∷
    NodeExpression ∷ NodeAssign ∷ NodeAddAssign ∷ NodeReg ∷ NodeImm ∷ NodeHeap ∷ NodeReturn ∷ NodeIf ∷ NodeThen ∷ NodeElse ∷ NodeSection ∷
    NodeLicense ∷ NodeUnit ∷ NodeEventField ∷ NodeEvent ∷ NodeMap ∷ NodeProgram ∷ []

-- an event field's form: 1 plain, 2 bytes, 3 array
abbrev pub FormPlain : ℕ
FormPlain = 1

abbrev pub FormBytes : ℕ
FormBytes = 2

abbrev pub FormArray : ℕ
FormArray = 3

abbrev pub event_forms : List ℕ
event_forms =
    FormPlain ∷ FormBytes ∷ FormArray ∷ []

-- Unused facts are zero.
abbrev pub node : ℕ → ℕ → ℕ → ℕ → Node
node kind place name children = record { kind = kind; place = place; name = name; children = children; fact0 = 0; fact1 = 0; fact2 = 0; fact3 = 0 }

abbrev pub fact_node : ℕ → ℕ → ℕ → ℕ → ℕ → ℕ → ℕ → ℕ → Node
fact_node kind place name children a b c d =
    record { kind = kind; place = place; name = name; children = children; fact0 = a; fact1 = b; fact2 = c; fact3 = d }

-- ---- rows, places

-- how many rows a tree is read from
unfoldable pub width : Tree → ℕ
width none = 0
width (num v) = 1
width (var w) = 1
width (star t) = 1 + width t
width (group t) = 1 + width t + 1
width (field t w) = width t + 2
width (call t w a) = width t + 3 + width a + 1
width (bin k l r) = width l + 1 + width r
width (one t) = width t
width (more a t) = width a + 1 + width t
width (decl k w e) = 3 + width e + 1
width (ret e) = 1 + width e + 1
width (plain e) = width e + 1
width (assign k l r) = width l + 1 + width r + 1
width (guard w b e) = 5 + width b + width e
width (then_body s) = 1 + width s + 1
width (else_body s) = 2 + width s + 1
width (seq l t) = width l + width t
width (text k w) = 3
width (unit w l) = 3 + width l + 1
width (map_type w) = 5
width (typed k t) = 4
width (limit c) = 2 + width c + 1
width (first v) = 1
width (shifted k c v) = width c + 2
width (map_decl w l) = 3 + width l + 1
width (plain_field w t) = 4
width (bytes_field w v) = 7
width (array_field w t v) = 7
width (event w l) = 3 + width l + 1
width (program l) = width l + 1

-- the row that is a tree's place: the source's `loc`
unfoldable pub place_of : ℕ → Tree → ℕ
place_of i none = i
place_of i (num v) = i
place_of i (var w) = i
place_of i (star t) = place_of (i + 1) t
place_of i (group t) = place_of (i + 1) t
place_of i (field t w) = i + width t + 1
place_of i (call t w a) = place_of i t
place_of i (bin k l r) = place_of i l
place_of i (one t) = place_of i t
place_of i (more a t) = place_of i a
place_of i (decl k w e) = i + 1
place_of i (ret e) = i + 1
place_of i (plain e) = place_of i e
place_of i (assign k l r) = place_of i l
place_of i (guard w b e) = i + 1
place_of i (then_body s) = i
place_of i (else_body s) = i + 1
place_of i (seq l t) = i
place_of i (text k w) = i + 1
place_of i (unit w l) = i
place_of i (map_type w) = i
place_of i (typed k t) = i
place_of i (limit c) = i
place_of i (first v) = i
place_of i (shifted k c v) = i
place_of i (map_decl w l) = i + 1
place_of i (plain_field w t) = i
place_of i (bytes_field w v) = i
place_of i (array_field w t v) = i
place_of i (event w l) = i + 1
place_of i (program l) = i + width l

-- The last licence holds: its string's row, or missing.
unfoldable pub licence_row : ℕ → Tree → ℕ
licence_row i none = missing
licence_row i (num v) = missing
licence_row i (var w) = missing
licence_row i (star t) = missing
licence_row i (group t) = missing
licence_row i (field t w) = missing
licence_row i (call t w a) = missing
licence_row i (bin k l r) = missing
licence_row i (one t) = missing
licence_row i (more a t) = missing
licence_row i (decl k w e) = missing
licence_row i (ret e) = missing
licence_row i (plain e) = missing
licence_row i (assign k l r) = missing
licence_row i (guard w b e) = missing
licence_row i (then_body s) = missing
licence_row i (else_body s) = missing
licence_row i (seq l t) = cond (eqb (licence_row (i + width l) t) missing) (licence_row i l) (licence_row (i + width l) t)
licence_row i (text k w) = cond (eqb k KeywordLicense) (i + 1) missing
licence_row i (unit w l) = missing
licence_row i (map_type w) = missing
licence_row i (typed k t) = missing
licence_row i (limit c) = missing
licence_row i (first v) = missing
licence_row i (shifted k c v) = missing
licence_row i (map_decl w l) = missing
licence_row i (plain_field w t) = missing
licence_row i (bytes_field w v) = missing
licence_row i (array_field w t v) = missing
licence_row i (event w l) = missing
licence_row i (program l) = missing

-- ---- nodes

-- the node of an operator, of a declaration's word, of an assignment's sign, of a text's word
unfoldable pub binary_node : ℕ → ℕ
binary_node k =
    cond (eqb k Plus) NodeAdd
    (cond (eqb k Minus) NodeSub
    (cond (eqb k Star) NodeMul
    (cond (eqb k Slash) NodeDiv (cond (eqb k Percent) NodeMod (cond (eqb k Shl) NodeShl NodeShr)))))

unfoldable pub decl_node : ℕ → ℕ
decl_node k = cond (eqb k KeywordReg) NodeReg (cond (eqb k KeywordImm) NodeImm NodeHeap)

unfoldable pub assign_node : ℕ → ℕ
assign_node k = cond (eqb k Equals) NodeAssign NodeAddAssign

unfoldable pub text_node : ℕ → ℕ
text_node k = cond (eqb k KeywordSection) NodeSection NodeLicense

unfoldable pub nodes_of : ℕ → Tree → List Node
nodes_of i none = []
nodes_of i (num v) = fact_node NodeNumber i missing 0 (v % 2 ^ 32) (v / 2 ^ 32) 0 0 ∷ []
nodes_of i (var w) = node NodeVariable i i 0 ∷ []
nodes_of i (star t) = nodes_of (i + 1) t ++ (node NodeDereference (place_of (i + 1) t) missing 1 ∷ [])
nodes_of i (group t) = nodes_of (i + 1) t
nodes_of i (field t w) = nodes_of i t ++ (node NodeField (i + width t + 1) (i + width t + 1) 1 ∷ [])
nodes_of i (call t w a) = nodes_of i t ++ (nodes_of (i + width t + 3) a ++ (node NodeCall (place_of i t) (i + width t + 1) (count a + 1) ∷ []))
nodes_of i (bin k l r) = nodes_of i l ++ (nodes_of (i + width l + 1) r ++ (node (binary_node k) (place_of i l) missing 2 ∷ []))
nodes_of i (one t) = nodes_of i t
nodes_of i (more a t) = nodes_of i a ++ nodes_of (i + width a + 1) t
nodes_of i (decl k w e) = nodes_of (i + 3) e ++ (node (decl_node k) (i + 1) (i + 1) 1 ∷ [])
nodes_of i (ret e) = nodes_of (i + 1) e ++ (node NodeReturn (i + 1) missing 1 ∷ [])
nodes_of i (plain e) = nodes_of i e ++ (node NodeExpression (place_of i e) missing 1 ∷ [])
nodes_of i (assign k l r) = nodes_of i l ++ (nodes_of (i + width l + 1) r ++ (node (assign_node k) (place_of i l) missing 2 ∷ []))
nodes_of i (guard w b e) = node NodeVariable (i + 3) (i + 3) 0 ∷ (nodes_of (i + 5) b ++ (nodes_of (i + 5 + width b) e ++ (node NodeIf (i + 1) missing (2 + count e) ∷ [])))
nodes_of i (then_body s) = nodes_of (i + 1) s ++ (node NodeThen i missing (count s) ∷ [])
nodes_of i (else_body s) = nodes_of (i + 2) s ++ (node NodeElse (i + 1) missing (count s) ∷ [])
nodes_of i (seq l t) = nodes_of i l ++ nodes_of (i + width l) t
nodes_of i (text k w) = node (text_node k) (i + 1) (i + 1) 0 ∷ []
nodes_of i (unit w l) = nodes_of (i + 3) l ++ (fact_node NodeUnit i (i + 1) (count l) (unit_kind l) (licence_row (i + 3) l) 0 0 ∷ [])
nodes_of i (map_type w) = []
nodes_of i (typed k t) = []
nodes_of i (limit c) = []
nodes_of i (first v) = []
nodes_of i (shifted k c v) = []
nodes_of i (map_decl w l) = fact_node NodeMap (i + 1) (i + 1) 0 (type_of l) (typed_by KeywordKey l) (typed_by KeywordValue l) (pred (limit_of l)) ∷ []
nodes_of i (plain_field w t) = fact_node NodeEventField i i 0 FormPlain (type_number t) 0 0 ∷ []
nodes_of i (bytes_field w v) = fact_node NodeEventField i i 0 FormBytes 0 v 0 ∷ []
nodes_of i (array_field w t v) = fact_node NodeEventField i i 0 FormArray (type_number t) v 0 ∷ []
nodes_of i (event w l) = nodes_of (i + 3) l ++ (node NodeEvent (i + 1) (i + 1) (count l) ∷ [])
nodes_of i (program l) = nodes_of i l ++ (node NodeProgram (i + width l) missing (count l) ∷ [])

-- how many nodes
unfoldable pub size : Tree → ℕ
size none = 0
size (num v) = 1
size (var w) = 1
size (star t) = size t + 1
size (group t) = size t
size (field t w) = size t + 1
size (call t w a) = size t + size a + 1
size (bin k l r) = size l + size r + 1
size (one t) = size t
size (more a t) = size a + size t
size (decl k w e) = size e + 1
size (ret e) = size e + 1
size (plain e) = size e + 1
size (assign k l r) = size l + size r + 1
size (guard w b e) = 1 + size b + size e + 1
size (then_body s) = size s + 1
size (else_body s) = size s + 1
size (seq l t) = size l + size t
size (text k w) = 1
size (unit w l) = size l + 1
size (map_type w) = 0
size (typed k t) = 0
size (limit c) = 0
size (first v) = 0
size (shifted k c v) = 0
size (map_decl w l) = 1
size (plain_field w t) = 1
size (bytes_field w v) = 1
size (array_field w t v) = 1
size (event w l) = size l + 1
size (program l) = size l + 1

unfoldable pub node_words : Node → List ℕ
node_words n =
    n.kind ∷ n.place ∷ n.name ∷ n.children ∷ n.fact0 ∷ n.fact1 ∷ n.fact2 ∷ n.fact3 ∷ []

unfoldable pub words_of_nodes : List Node → List ℕ
words_of_nodes [] = []
words_of_nodes (n ∷ ns) = node_words n ++ words_of_nodes ns

-- the words of a tree's nodes
unfoldable pub tree_words : ℕ → Tree → List ℕ
tree_words i t = words_of_nodes (nodes_of i t)
