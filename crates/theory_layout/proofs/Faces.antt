-- What the nodes of a tree say, rows aside, is said by the tree alone, and writing the tree leaves it.
use mathlib.Core.Path.{◌≡◌, refl, sym, ap, ◌∙◌}
use mathlib.Core.Bool.{Bool, true, false, cond}
use mathlib.Core.List.{List, [], ◌∷◌, ◌++◌, map, map-append, append_assoc}
use Prim.Native.Nat.{ℕ, pred, ◌+◌, ◌/◌, ◌%◌, ◌^◌, ◌≤◌, ◌<◌}
use native.Mathlib.Omega.{arith}
use lib.Dec.{eqb, ltb}
use lib.ListN.{get_or, length, drop, length-drop}
use lib.Seq.{drop-drop, drop-append_seam, get_or-drop}
use native.Mathlib.Nat.{add-zero}
use borrow.Author.Tests.{ne_eqb}
use Rattle.rules.specs.Kinds.{KeywordKey, KeywordValue, KeywordLicense, KeywordSection, KeywordReg, KeywordImm, Equals, Plus, Minus, Star, Slash, Percent, Shl, Eof}
use Rattle.rules.specs.Tree.{Tok, sign, name, string, spelling_of, yield, Tree, none, num, var, star, group, field, call, bin, one, more, decl, ret, plain, assign, guard, then_body, else_body, seq, text, unit, map_type, typed, limit, first, shifted, map_decl, plain_field, bytes_field, array_field, event, program, count, sections_of, kind_of_first, unit_kind, type_of, typed_by, limit_of, type_number}
use Rattle.rules.specs.Nodes.{Node, node, fact_node, missing, width, place_of, licence_row, nodes_of, binary_node, decl_node, assign_node, text_node, NodeVariable, NodeNumber, NodeDereference, NodeAdd, NodeSub, NodeMul, NodeDiv, NodeMod, NodeShl, NodeShr, NodeCall, NodeField, NodeExpression, NodeAssign, NodeAddAssign, NodeReg, NodeImm, NodeHeap, NodeReturn, NodeIf, NodeThen, NodeElse, NodeSection, NodeLicense, NodeUnit, NodeEventField, NodeEvent, NodeMap, NodeProgram, FormPlain, FormBytes, FormArray}
use Rattle.rules.specs.Grammar.{Nt, Add, Shift, Mul, Unary, Basic, Args, Stmt, Stmts, Item, Items, Chain, MapField, MapFields, EventField, EventFields, Decl, Decls, Program, Is, i_num, i_var, i_group, i_field, i_bare, i_call, i_one, i_more, i_prim, i_star, i_unary, i_mul, i_lone, i_shift, i_up, i_add, i_decl, i_ret, i_plain, i_assign, i_if, i_if_else, i_no_stmts, i_stmts, i_stmt, i_text, i_no_items, i_items, i_first, i_shifted, i_type, i_typed, i_limit, i_no_fields, i_fields, i_plain_field, i_bytes_field, i_array_field, i_no_event_fields, i_event_fields, i_unit, i_map, i_event, i_no_decls, i_decls, i_program}
use Rattle.theory_grammar.proofs.Laws.{yield_width}
use Rattle.rules_layout.specs.Rows.{level, left_of, right_of, placed, laid, fields_of}
use Rattle.theory_layout.specs.Back.{Face}
use Rattle.theory_layout.proofs.Fields.{fields_type, fields_key, fields_value, fields_most}
use Rattle.theory_layout.proofs.Twice.{types_below}

-- ---- the faces of a tree

abbrev pub face : (kind children : ℕ) → List (List ℕ) → ℕ → ℕ → ℕ → ℕ → Face
face k c n a b d e = record { kind = k; children = c; name = n; licence = []; facts = a ∷ b ∷ d ∷ e ∷ [] }

abbrev pub plain_face : (kind children : ℕ) → List (List ℕ) → Face
plain_face k c n = face k c n 0 0 0 0

abbrev pub unit_face : (children : ℕ) → List (List ℕ) → ℕ → List (List ℕ) → Face
unit_face c n kind licence = record { kind = NodeUnit; children = c; name = n; licence = licence; facts = kind ∷ 0 ∷ 0 ∷ [] }

-- the last of two, where the empty list is none
abbrev pub last_some : List (List ℕ) → List (List ℕ) → List (List ℕ)
last_some x [] = x
last_some x (w ∷ ws) = w ∷ ws

-- the last licence's string
unfoldable pub licence_of : Tree → List (List ℕ)
licence_of none = []
licence_of (num v) = []
licence_of (var w) = []
licence_of (star t) = []
licence_of (group t) = []
licence_of (field t w) = []
licence_of (call t w a) = []
licence_of (bin k l r) = []
licence_of (one t) = []
licence_of (more a t) = []
licence_of (decl k w e) = []
licence_of (ret e) = []
licence_of (plain e) = []
licence_of (assign k l r) = []
licence_of (guard w b e) = []
licence_of (then_body s) = []
licence_of (else_body s) = []
licence_of (seq l t) = last_some (licence_of l) (licence_of t)
licence_of (text k w) = cond (eqb k KeywordLicense) (w ∷ []) []
licence_of (unit w l) = []
licence_of (map_type w) = []
licence_of (typed k t) = []
licence_of (limit c) = []
licence_of (first v) = []
licence_of (shifted k c v) = []
licence_of (map_decl w l) = []
licence_of (plain_field w t) = []
licence_of (bytes_field w v) = []
licence_of (array_field w t v) = []
licence_of (event w l) = []
licence_of (program l) = []

unfoldable pub shown : Tree → List Face
shown none = []
shown (num v) = face NodeNumber 0 [] (v % 2 ^ 32) (v / 2 ^ 32) 0 0 ∷ []
shown (var w) = plain_face NodeVariable 0 (w ∷ []) ∷ []
shown (star t) = shown t ++ (plain_face NodeDereference 1 [] ∷ [])
shown (group t) = shown t
shown (field t w) = shown t ++ (plain_face NodeField 1 (w ∷ []) ∷ [])
shown (call t w a) = shown t ++ (shown a ++ (plain_face NodeCall (count a + 1) (w ∷ []) ∷ []))
shown (bin k l r) = shown l ++ (shown r ++ (plain_face (binary_node k) 2 [] ∷ []))
shown (one t) = shown t
shown (more a t) = shown a ++ shown t
shown (decl k w e) = shown e ++ (plain_face (decl_node k) 1 (w ∷ []) ∷ [])
shown (ret e) = shown e ++ (plain_face NodeReturn 1 [] ∷ [])
shown (plain e) = shown e ++ (plain_face NodeExpression 1 [] ∷ [])
shown (assign k l r) = shown l ++ (shown r ++ (plain_face (assign_node k) 2 [] ∷ []))
shown (guard w b e) = plain_face NodeVariable 0 (w ∷ []) ∷ (shown b ++ (shown e ++ (plain_face NodeIf (2 + count e) [] ∷ [])))
shown (then_body s) = shown s ++ (plain_face NodeThen (count s) [] ∷ [])
shown (else_body s) = shown s ++ (plain_face NodeElse (count s) [] ∷ [])
shown (seq l t) = shown l ++ shown t
shown (text k w) = plain_face (text_node k) 0 (w ∷ []) ∷ []
shown (unit w l) = shown l ++ (unit_face (count l) (w ∷ []) (unit_kind l) (licence_of l) ∷ [])
shown (map_type w) = []
shown (typed k t) = []
shown (limit c) = []
shown (first v) = []
shown (shifted k c v) = []
shown (map_decl w l) = face NodeMap 0 (w ∷ []) (type_of l) (typed_by KeywordKey l) (typed_by KeywordValue l) (pred (limit_of l)) ∷ []
shown (plain_field w t) = face NodeEventField 0 (w ∷ []) FormPlain (type_number t) 0 0 ∷ []
shown (bytes_field w v) = face NodeEventField 0 (w ∷ []) FormBytes 0 v 0 ∷ []
shown (array_field w t v) = face NodeEventField 0 (w ∷ []) FormArray (type_number t) v 0 ∷ []
shown (event w l) = shown l ++ (plain_face NodeEvent (count l) (w ∷ []) ∷ [])
shown (program l) = shown l ++ (plain_face NodeProgram (count l) [] ∷ [])

-- ---- writing leaves them

placed_shown : (p : ℕ) (t : Tree) → shown (placed p t (laid t)) ≡ shown (laid t)
unfolding shown
placed_shown p t = go (ltb (level t) p)
  where
    go : (b : Bool) → shown (cond b (group (laid t)) (laid t)) ≡ shown (laid t)
    go true = refl
    go false = refl

-- u says what t says: its nodes, and of a list how many things it has, its sections and its licence
pub record Alike (u t : Tree) : Type 0 where
  pub nodes : shown u ≡ shown t
  pub many : count u ≡ count t
  pub sections : sections_of u ≡ sections_of t
  pub licence : licence_of u ≡ licence_of t

itself : (t : Tree) → Alike t t
itself t = record { nodes = refl; many = refl; sections = refl; licence = refl }

-- a list and one thing more
longer : (l s : Tree) → Alike (laid l) l → Alike (laid s) s → Alike (seq (laid l) (laid s)) (seq l s)
unfolding shown count sections_of licence_of
longer l s x y = record {
  nodes = rw (x.nodes, y.nodes);
  many = rw x.many;
  sections = rw (x.sections, y.sections);
  licence = rw (x.licence, y.licence);
}

abbrev Keeps : Nt → Tree → Type 0
Keeps Add t = shown (laid t) ≡ shown t
Keeps Shift t = shown (laid t) ≡ shown t
Keeps Mul t = shown (laid t) ≡ shown t
Keeps Unary t = shown (laid t) ≡ shown t
Keeps Basic t = shown (laid t) ≡ shown t
Keeps Args t = Alike (laid t) t
Keeps Stmt t = Alike (laid t) t
Keeps Stmts t = Alike (laid t) t
Keeps Item t = Alike (laid t) t
Keeps Items t = Alike (laid t) t
Keeps EventField t = Alike (laid t) t
Keeps EventFields t = Alike (laid t) t
Keeps Decl t = Alike (laid t) t
Keeps Decls t = Alike (laid t) t
Keeps Program t = Alike (laid t) t
Keeps Chain t = t ≡ t
Keeps MapField t = t ≡ t
Keeps MapFields t = t ≡ t

module _ {strict : Bool} where
  pub keeps : {N : Nt} {d : ℕ} {t : Tree} → Is strict N d t → Keeps N t
  unfolding laid shown count sections_of licence_of unit_kind
  keeps i_num = refl
  keeps i_var = refl
  keeps (i_group h) = keeps h
  keeps (i_field {t = t} h) = rw (placed_shown 4 t, keeps h)
  keeps (i_bare {t = t} h q) = rw (placed_shown 4 t, keeps h)
  keeps (i_call {t = t} h q v) = rw (placed_shown 4 t, keeps h, (keeps v).nodes, (keeps v).many)
  keeps (i_one h) = record { nodes = keeps h; many = refl; sections = refl; licence = refl }
  keeps (i_more h v) = record { nodes = rw ((keeps h).nodes, keeps v); many = rw (keeps h).many; sections = refl; licence = refl }
  keeps (i_prim h) = keeps h
  keeps (i_star {t = t} h) = rw (placed_shown 3 t, keeps h)
  keeps (i_unary h) = keeps h
  keeps (i_mul {k = k} {l = l} {r = r} h b v) = rw (placed_shown (left_of k) l, placed_shown (right_of k) r, keeps h, keeps v)
  keeps (i_lone h) = keeps h
  keeps (i_shift {k = k} {l = l} {r = r} h b v) = rw (placed_shown (left_of k) l, placed_shown (right_of k) r, keeps h, keeps v)
  keeps (i_up h) = keeps h
  keeps (i_add {k = k} {l = l} {r = r} h b v) = rw (placed_shown (left_of k) l, placed_shown (right_of k) r, keeps h, keeps v)
  keeps (i_decl b h) = record { nodes = rw (keeps h); many = refl; sections = refl; licence = refl }
  keeps (i_ret h) = record { nodes = rw (keeps h); many = refl; sections = refl; licence = refl }
  keeps (i_plain h) = record { nodes = rw (keeps h); many = refl; sections = refl; licence = refl }
  keeps (i_assign b h v) = record { nodes = rw (keeps h, keeps v); many = refl; sections = refl; licence = refl }
  keeps (i_if h) = record { nodes = rw ((keeps h).nodes, (keeps h).many); many = refl; sections = refl; licence = refl }
  keeps (i_if_else h v) =
      record { nodes = rw ((keeps h).nodes, (keeps h).many, (keeps v).nodes, (keeps v).many); many = refl; sections = refl; licence = refl }
  keeps i_no_stmts = itself none
  keeps (i_stmts {l = l} {s = s} h v) = longer l s (keeps h) (keeps v)
  keeps (i_stmt h) = keeps h
  keeps (i_text {k = k} {w = w} b) = itself (text k w)
  keeps i_no_items = itself none
  keeps (i_items {l = l} {s = s} h v) = longer l s (keeps h) (keeps v)
  keeps i_first = refl
  keeps (i_shifted h b q) = refl
  keeps (i_type q) = refl
  keeps (i_typed b c) = refl
  keeps (i_limit h q) = refl
  keeps i_no_fields = refl
  keeps (i_fields h v) = refl
  keeps {t = t} (i_plain_field b) = itself t
  keeps {t = t} (i_bytes_field q) = itself t
  keeps {t = t} (i_array_field b q) = itself t
  keeps i_no_event_fields = itself none
  keeps (i_event_fields {l = l} {s = s} h v) = longer l s (keeps h) (keeps v)
  keeps (i_unit h) =
      record { nodes = rw ((keeps h).nodes, (keeps h).many, (keeps h).sections, (keeps h).licence); many = refl; sections = refl; licence = refl }
  keeps (i_map {l = l} h q) =
      record { nodes = rw (fields_type l (types_below l), fields_key l, fields_value l, fields_most l); many = refl; sections = refl; licence = refl }
  keeps (i_event h) = record { nodes = rw ((keeps h).nodes, (keeps h).many); many = refl; sections = refl; licence = refl }
  keeps i_no_decls = itself none
  keeps (i_decls {l = l} {s = s} h v) = longer l s (keeps h) (keeps v)
  keeps (i_program h) = record { nodes = rw ((keeps h).nodes, (keeps h).many); many = refl; sections = refl; licence = refl }
