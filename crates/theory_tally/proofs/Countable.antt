-- The nodes of a program can all be counted: their kinds are kinds, a unit's kind is one of eleven and a map's type one of five.
use Prim.Native.Nat.{ℕ, ◌+◌, ◌≤◌}
use mathlib.Core.Bool.{Bool, true, false, cond, ◌&&◌}
use mathlib.Core.List.{List, [], ◌∷◌, ◌++◌}
use mathlib.Core.Path.{◌≡◌, refl}
use native.Mathlib.Omega.{arith}
use lib.Dec.{eqb, leb}
use borrow.Author.Tests.{leb-true, le-leb, eqb-true}
use Rattle.laws.proofs.Tests.{both_true, true_both}
use Rattle.rules.specs.Kinds.{Spelt, same_bytes, kind_in, KeywordReg, KeywordImm, KeywordKey, KeywordValue, KeywordSection, Equals, Plus, Minus, Star, Slash, Percent, Shl}
use Rattle.rules.specs.Sets.{Section, Unknown, sections, kind_of_section, from_section}
use Rattle.rules.specs.Sets as Sets
use Rattle.rules.specs.Tree.{Tree, sections_of, section_text, kind_of_first, unit_kind, map_types, map_type_number, last_of, type_of, typed_by, limit_of, lacking}
use Rattle.rules.specs.Nodes.{Node, width, binary_node, decl_node, assign_node, text_node, nodes_of}
use Rattle.rules.specs.Grammar.{Is, MapField, MapFields, Nt, i_num, i_var, i_group, i_field, i_bare, i_call, i_one, i_more, i_prim, i_star, i_unary, i_mul, i_lone, i_shift, i_up, i_add, i_decl, i_ret, i_plain, i_assign, i_if, i_if_else, i_no_stmts, i_stmts, i_stmt, i_text, i_no_items, i_items, i_first, i_shifted, i_type, i_typed, i_limit, i_no_fields, i_fields, i_plain_field, i_bytes_field, i_array_field, i_no_event_fields, i_event_fields, i_unit, i_map, i_event, i_no_decls, i_decls, i_program}
use Rattle.rules_tally.specs.Calls.{is_countable, are_countable}

-- ---- a unit's kind

kinds_most : List Section → Bool
kinds_most [] = true
kinds_most (e ∷ es) = leb e.kind Unknown && kinds_most es

kind_most : (es : List Section) → kinds_most es ≡ true → (w : List ℕ) → kind_of_section es w ≤ Unknown
unfolding kind_of_section kinds_most
kind_most [] h w = omega arith
kind_most (e ∷ es) h w =
    let b = both_true (leb e.kind Unknown) (kinds_most es) h in
    go (Sets.fits e w) (leb-true e.kind Unknown b.0) (kind_most es b.1 w)
  where
    go : (b : Bool) → e.kind ≤ Unknown → kind_of_section es w ≤ Unknown → elim b [ true ↦ e.kind | false ↦ kind_of_section es w ] ≤ Unknown
    go true p q = p
    go false p q = q

section_most : (w : List ℕ) → from_section w ≤ Unknown
unfolding from_section sections kinds_most
section_most w = kind_most sections refl w

first_most : (ws : List (List ℕ)) → kind_of_first ws ≤ Unknown
unfolding kind_of_first
first_most [] = omega arith
first_most (w ∷ ws) = section_most (section_text w)

pub unit_most : (l : Tree) → unit_kind l ≤ Unknown
unfolding unit_kind
unit_most l = first_most (sections_of l)

-- ---- a map's type

type_in : (es : List Spelt) (e : Spelt) (w : List ℕ) → e.kind ≤ 5 → kind_in es 0 w ≤ 5 → kind_in (e ∷ es) 0 w ≤ 5
unfolding kind_in
type_in es e w x y = go (same_bytes e.spelling w)
  where
    go : (b : Bool) → elim b [ true ↦ e.kind | false ↦ kind_in es 0 w ] ≤ 5
    go true = x
    go false = y

no_type : (w : List ℕ) → kind_in [] 0 w ≤ 5
unfolding kind_in
no_type w = omega arith

number_most : (w : List ℕ) → map_type_number w ≤ 5
unfolding map_type_number map_types
number_most w =
    type_in _ _ w (omega arith)
    (type_in _ _ w (omega arith)
    (type_in _ _ w (omega arith) (type_in _ _ w (omega arith) (type_in _ _ w (omega arith) (no_type w)))))

last_most : (x y : ℕ) → x ≤ 5 → y ≤ 5 → last_of x y ≤ 5
last_most x y p q = go (eqb y 0)
  where
    go : (b : Bool) → cond b x y ≤ 5
    go true = p
    go false = q

field_most : {d : ℕ} {s : Tree} → Is true MapField d s → type_of s ≤ 5
unfolding type_of
field_most (i_type {w = w} q) = number_most w
field_most (i_typed b c) = omega arith
field_most (i_limit h q) = omega arith

type_most : {d : ℕ} {l : Tree} → Is true MapFields d l → type_of l ≤ 5
unfolding type_of
type_most i_no_fields = omega arith
type_most (i_fields {l = l} {s = s} h v) = last_most (type_of l) (type_of s) (type_most h) (field_most v)

-- a map that lacks nothing has a type
type_given : (type key val lim : ℕ) → eqb (lacking type key val lim) 0 ≡ true → type ≡ 0 → ⊥
unfolding lacking
type_given type key val lim e z = go (rw z at e)
  where
    go : eqb (lacking 0 key val lim) 0 ≡ true → ⊥
    go f = let y : ◌≡◌ {A = ℕ} 1 0 = eqb-true 1 0 f in omega (arith, y)

-- ---- one node

unit_countable : (k : ℕ) → k ≤ Unknown → is_countable 25 k ≡ true
unfolding is_countable
unit_countable k h = le-leb k Unknown h

map_countable : (t : ℕ) → 1 ≤ t → t ≤ 5 → is_countable 28 t ≡ true
unfolding is_countable
map_countable t l h = true_both (le-leb 1 t l) (le-leb t 5 h)

module _ (x : ℕ) where
  binary_countable : (k : ℕ) → is_countable (binary_node k) x ≡ true
  unfolding is_countable binary_node
  binary_countable k = by (eqb k Plus) (eqb k Minus) (eqb k Star) (eqb k Slash) (eqb k Percent) (eqb k Shl)
    where
      by : (x₁ x₂ x₃ x₄ x₅ x₆ : Bool) → is_countable (cond x₁ 4 (cond x₂ 5 (cond x₃ 6 (cond x₄ 7 (cond x₅ 8 (cond x₆ 9 10)))))) x ≡ true
      by true x₂ x₃ x₄ x₅ x₆ = refl
      by false true x₃ x₄ x₅ x₆ = refl
      by false false true x₄ x₅ x₆ = refl
      by false false false true x₅ x₆ = refl
      by false false false false true x₆ = refl
      by false false false false false true = refl
      by false false false false false false = refl

  decl_countable : (k : ℕ) → is_countable (decl_node k) x ≡ true
  unfolding is_countable decl_node
  decl_countable k = by (eqb k KeywordReg) (eqb k KeywordImm)
    where
      by : (x₁ x₂ : Bool) → is_countable (cond x₁ 16 (cond x₂ 17 18)) x ≡ true
      by true x₂ = refl
      by false true = refl
      by false false = refl

  assign_countable : (k : ℕ) → is_countable (assign_node k) x ≡ true
  unfolding is_countable assign_node
  assign_countable k = by (eqb k Equals)
    where
      by : (b : Bool) → is_countable (cond b 14 15) x ≡ true
      by true = refl
      by false = refl

  text_countable : (k : ℕ) → is_countable (text_node k) x ≡ true
  unfolding is_countable text_node
  text_countable k = by (eqb k KeywordSection)
    where
      by : (b : Bool) → is_countable (cond b 23 24) x ≡ true
      by true = refl
      by false = refl

-- ---- nodes one after the other

two : (a b : List Node) → are_countable a ≡ true → are_countable b ≡ true → are_countable (a ++ b) ≡ true
unfolding are_countable
two [] b p q = q
two (n ∷ a) b p q = let h = both_true (is_countable n.kind n.fact0) (are_countable a) p in true_both h.0 (two a b h.1 q)

alone : (n : Node) → is_countable n.kind n.fact0 ≡ true → are_countable (n ∷ []) ≡ true
unfolding are_countable
alone n p = true_both p refl

behind : (a : List Node) (n : Node) → are_countable a ≡ true → is_countable n.kind n.fact0 ≡ true → are_countable (a ++ (n ∷ [])) ≡ true
behind a n p q = two a (n ∷ []) p (alone n q)

three : (a b : List Node) (n : Node) → are_countable a ≡ true → are_countable b ≡ true → is_countable n.kind n.fact0 ≡ true
    → are_countable (a ++ (b ++ (n ∷ []))) ≡ true
three a b n p q r = two a (b ++ (n ∷ [])) p (behind b n q r)

before : (n : Node) (a : List Node) → is_countable n.kind n.fact0 ≡ true → are_countable a ≡ true → are_countable (n ∷ a) ≡ true
unfolding are_countable
before n a p q = true_both p q

no_nodes : are_countable [] ≡ true
unfolding are_countable
no_nodes = refl

-- ---- the nodes of a tree of the grammar

pub nodes_countable : {n : Nt} {d : ℕ} {t : Tree} (i : ℕ) → Is true n d t → are_countable (nodes_of i t) ≡ true
unfolding is_countable nodes_of
nodes_countable i i_num = alone _ refl
nodes_countable i i_var = alone _ refl
nodes_countable i (i_group h) = nodes_countable (i + 1) h
nodes_countable i (i_field h) = behind _ _ (nodes_countable i h) refl
nodes_countable i (i_bare h q) = three _ _ _ (nodes_countable i h) no_nodes refl
nodes_countable i (i_call {t = t} h q v) = three _ _ _ (nodes_countable i h) (nodes_countable (i + width t + 3) v) refl
nodes_countable i (i_one h) = nodes_countable i h
nodes_countable i (i_more {a = a} h v) = two _ _ (nodes_countable i h) (nodes_countable (i + width a + 1) v)
nodes_countable i (i_prim h) = nodes_countable i h
nodes_countable i (i_star h) = behind _ _ (nodes_countable (i + 1) h) refl
nodes_countable i (i_unary h) = nodes_countable i h
nodes_countable i (i_mul {k = k} {l = l} h e v) = three _ _ _ (nodes_countable i h) (nodes_countable (i + width l + 1) v) (binary_countable 0 k)
nodes_countable i (i_lone h) = nodes_countable i h
nodes_countable i (i_shift {k = k} {l = l} h e v) = three _ _ _ (nodes_countable i h) (nodes_countable (i + width l + 1) v) (binary_countable 0 k)
nodes_countable i (i_up h) = nodes_countable i h
nodes_countable i (i_add {k = k} {l = l} h e v) = three _ _ _ (nodes_countable i h) (nodes_countable (i + width l + 1) v) (binary_countable 0 k)
nodes_countable i (i_decl {k = k} e h) = behind _ _ (nodes_countable (i + 3) h) (decl_countable 0 k)
nodes_countable i (i_ret h) = behind _ _ (nodes_countable (i + 1) h) refl
nodes_countable i (i_plain h) = behind _ _ (nodes_countable i h) refl
nodes_countable i (i_assign {k = k} {l = l} e h v) = three _ _ _ (nodes_countable i h) (nodes_countable (i + width l + 1) v) (assign_countable 0 k)
nodes_countable i (i_if {b = b} h) =
    before _ _ refl (three _ _ _ (behind _ _ (nodes_countable (i + 5 + 1) h) refl) no_nodes refl)
nodes_countable i (i_if_else {b = b} h v) =
    before _ _ refl (three _ _ _ (behind _ _ (nodes_countable (i + 5 + 1) h) refl) (behind _ _ (nodes_countable _ v) refl) refl)
nodes_countable i i_no_stmts = no_nodes
nodes_countable i (i_stmts {l = l} h v) = two _ _ (nodes_countable i h) (nodes_countable (i + width l) v)
nodes_countable i (i_stmt h) = nodes_countable i h
nodes_countable i (i_text {k = k} e) = alone _ (text_countable 0 k)
nodes_countable i i_no_items = no_nodes
nodes_countable i (i_items {l = l} h v) = two _ _ (nodes_countable i h) (nodes_countable (i + width l) v)
nodes_countable i i_first = no_nodes
nodes_countable i (i_shifted h e q) = no_nodes
nodes_countable i (i_type q) = no_nodes
nodes_countable i (i_typed b c) = no_nodes
nodes_countable i (i_limit h q) = no_nodes
nodes_countable i i_no_fields = no_nodes
nodes_countable i (i_fields {l = l} h v) = two _ _ (nodes_countable i h) (nodes_countable (i + width l) v)
nodes_countable i (i_plain_field e) = alone _ refl
nodes_countable i (i_bytes_field q) = alone _ refl
nodes_countable i (i_array_field e q) = alone _ refl
nodes_countable i i_no_event_fields = no_nodes
nodes_countable i (i_event_fields {l = l} h v) = two _ _ (nodes_countable i h) (nodes_countable (i + width l) v)
nodes_countable i (i_unit {l = l} h) = behind _ _ (nodes_countable (i + 3) h) (unit_countable (unit_kind l) (unit_most l))
nodes_countable i (i_map {l = l} h q) =
    let given : 1 ≤ type_of l = omega (arith, type_given (type_of l) (typed_by KeywordKey l) (typed_by KeywordValue l) (limit_of l) (q refl)) in
    alone _ (map_countable (type_of l) given (type_most h))
nodes_countable i (i_event h) = behind _ _ (nodes_countable (i + 3) h) refl
nodes_countable i i_no_decls = no_nodes
nodes_countable i (i_decls {l = l} h v) = two _ _ (nodes_countable i h) (nodes_countable (i + width l) v)
nodes_countable i (i_program h) = behind _ _ (nodes_countable i h) refl
