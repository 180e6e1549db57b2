-- Children precede parents, and the counts in the nodes are the tree's: first for lists of nodes alone, then for the nodes of the grammar's trees.
use mathlib.Core.Path.{◌≡◌, refl, sym, ap, ◌∙◌, subst}
use mathlib.Core.Bool.{Bool, true, false, cond}
use mathlib.Core.List.{List, [], ◌∷◌, ◌++◌, append_assoc, append-nil, map}
use Prim.Native.Nat.{ℕ, zero, suc, ◌+◌, ◌-◌}
use native.Mathlib.Nat.{add_assoc, add-zero}
use native.Mathlib.Numerals.{add-one}
use native.Mathlib.Omega.{arith}
use lib.Dec.{leb}
use borrow.Author.Tests.{le-leb, leb-true}
use Rattle.rules.specs.Kinds.{Equals}
use Rattle.rules.specs.Tree.{Tok, Tree, none, num, var, assign, seq, unit, program, count}
use Rattle.rules.specs.Nodes.{Node, node, missing, nodes_of}
use Rattle.rules.specs.Parse
use Rattle.rules.specs.Parse.{ok}
use Rattle.rules.specs.Grammar.{Nt, Program, Is, i_num, i_var, i_group, i_field, i_bare, i_call, i_one, i_more, i_prim, i_star, i_unary, i_mul, i_lone, i_shift, i_up, i_add, i_decl, i_ret, i_plain, i_assign, i_if, i_if_else, i_no_stmts, i_stmts, i_stmt, i_text, i_no_items, i_items, i_first, i_shifted, i_type, i_typed, i_limit, i_no_fields, i_fields, i_plain_field, i_bytes_field, i_array_field, i_no_event_fields, i_event_fields, i_unit, i_map, i_event, i_no_decls, i_decls, i_program}
use Rattle.theory_grammar.specs.Order.{Standing, trees, short, stands, Parts, roots}
use Rattle.theory_grammar.proofs.Runs.{all_ok}
use Rattle.theory_grammar.proofs.Sound.{accepted_is}

-- ---- lists of nodes

-- goes on from what stands, unless a node lacked children
onward : Standing → (ℕ → Standing) → Standing
onward (trees k) f = f k
onward short f = short

-- What stands after some nodes and then more is what the second leave of what the first left.
append_is : (ns ms : List Node) (h : ℕ) → stands (ns ++ ms) h ≡ onward (stands ns h) (stands ms)
unfolding stands onward
append_is [] ms h = refl
append_is (n ∷ ns) ms h = go (leb n.children h) _ _ (append_is ns ms (h - n.children + 1))
  where
    go : (b : Bool) (x y : Standing) → y ≡ onward x (stands ms) → cond b y short ≡ onward (cond b x short) (stands ms)
    go true x y e = e
    go false x y e = refl

-- the same, where the first leave k trees
pub stands_append : (ns ms : List Node) (h k : ℕ) → stands ns h ≡ trees k → stands (ns ++ ms) h ≡ stands ms k
unfolding onward
stands_append ns ms h k e = append_is ns ms h ∙ rw e

-- A node takes the last trees as its children, and is one.
stands_last : (n : Node) (h k : ℕ) → k ≡ h + n.children → stands (n ∷ []) k ≡ trees (h + 1)
unfolding stands
stands_last n h k e =
    let f : k - n.children ≡ h = omega (arith, e) in
    rw (le-leb n.children k (omega (arith, e)), f)

-- In front of a node stood m trees and its children; with it m + 1 stand.
record Front (ns : List Node) (n : Node) (ms : List Node) (h k : ℕ) : Type 0 where
  m : ℕ
  before : stands ns h ≡ trees (m + n.children)
  after : stands ms (m + 1) ≡ trees k

-- A list that is not short has its nodes' children in front of each.
front : (ns : List Node) (n : Node) (ms : List Node) (h k : ℕ) → stands (ns ++ (n ∷ ms)) h ≡ trees k → Front ns n ms h k
unfolding stands onward
front ns n ms h k e = go (stands ns h) refl (sym (append_is ns (n ∷ ms) h) ∙ e)
  where
    take : (j : ℕ) (b : Bool) → stands ns h ≡ trees j → leb n.children j ≡ b
        → cond b (stands ms (j - n.children + 1)) short ≡ trees k → Front ns n ms h k
    take j true f l e =
        let z : j ≡ j - n.children + n.children = omega (arith, leb-true n.children j l) in
        record { m = j - n.children; before = f ∙ ap trees z; after = e }
    take j false f l e = let z : ◌≡◌ {A = ℕ} 0 1 = cc in absurd (omega (arith, z))

    go : (x : Standing) → stands ns h ≡ x → onward x (stands (n ∷ ms)) ≡ trees k → Front ns n ms h k
    go (trees j) f e = take j (leb n.children j) f refl e
    go short f e = let z : ◌≡◌ {A = ℕ} 0 1 = cc in absurd (omega (arith, z))

-- A count is forced: where k trees stand in front of a node and one stands behind it, it has k children.
pub count_forced : (ns : List Node) (n : Node) (h k : ℕ) → stands ns h ≡ trees (h + k) → stands (ns ++ (n ∷ [])) h ≡ trees (h + 1) → n.children ≡ k
unfolding stands
count_forced ns n h k e f =
    let a : Front ns n [] h (h + 1) = front ns n [] h (h + 1) f in
    let x : trees (h + k) ≡ trees (a.m + n.children) = sym e ∙ a.before in
    let y : h + k ≡ a.m + n.children = cc in
    let u : trees (a.m + 1) ≡ trees (h + 1) = a.after in
    let v : a.m + 1 ≡ h + 1 = cc in
    omega (arith, y, v)

-- ---- the children of a node

-- nodes that can be parted behind any number of their trees
record Parted (ns : List Node) : Type 0 where
  at : (k c : ℕ) → stands ns 0 ≡ trees (k + c) → Parts k c ns

-- Where nothing stands there is nothing to part.
parted_none : Parted []
unfolding stands
parted_none = record { at = go }
  where
    go : (k c : ℕ) → trees 0 ≡ trees (k + c) → Parts k c []
    go k c e =
        let z : 0 ≡ k + c = cc in
        record { others = []; own = []; all = refl; before = ap trees (omega (arith, z)); whole = ap trees (omega (arith, z)) }

-- A node goes with its children: they are parted off with it, or all nodes stay in front.
parted_one : (ns : List Node) (n : Node) → Parted ns → Parted (ns ++ (n ∷ []))
unfolding stands
parted_one ns n p = record { at = go }
  where
    go : (k c : ℕ) → stands (ns ++ (n ∷ [])) 0 ≡ trees (k + c) → Parts k c (ns ++ (n ∷ []))
    go k zero e = record { others = ns ++ (n ∷ []); own = []; all = sym (append-nil (ns ++ (n ∷ []))); before = e ∙ rw add-zero; whole = refl }
    go k (suc c) e =
        let a : Front ns n [] 0 (k + suc c) = front ns n [] 0 (k + suc c) e in
        let u : trees (a.m + 1) ≡ trees (k + suc c) = a.after in
        let v : a.m + 1 ≡ k + suc c = cc in
        let s : Parts k (c + n.children) ns = p.at k (c + n.children) (a.before ∙ ap trees (omega (arith, v))) in
        record {
          others = s.others;
          own = s.own ++ (n ∷ []);
          all = ap (λ (l : List Node). l ++ (n ∷ [])) s.all ∙ append_assoc s.others s.own (n ∷ []);
          before = s.before;
          whole = stands_append s.own (n ∷ []) 0 _ s.whole ∙ stands_last n c _ refl ∙ rw add-one;
        }

-- node by node, every list
parted : (ns ms : List Node) → Parted ns → Parted (ns ++ ms)
parted ns [] p = subst Parted (sym (append-nil ns)) p
parted ns (m ∷ ms) p = subst Parted (append_assoc ns (m ∷ []) ms) (parted (ns ++ (m ∷ [])) ms (parted_one ns m p))

-- Where no node of a list asks for too many, each stands directly behind its children: the nodes in front of it are some trees, and then as many as it
-- has children.
pub each_node : (ns : List Node) (n : Node) (ms : List Node) (k : ℕ) → stands (ns ++ (n ∷ ms)) 0 ≡ trees k → (m : ℕ) × Parts m n.children ns
each_node ns n ms k e =
    let a : Front ns n ms 0 k = front ns n ms 0 k e in
    (a.m, (parted [] ns parted_none).at a.m n.children a.before)

-- ---- nodes that make trees

-- nodes that make k trees: whatever stood before them, they take nothing of it
record Make (ns : List Node) (k : ℕ) : Type 0 where
  above : (h : ℕ) → stands ns h ≡ trees (h + k)

-- no nodes, no trees
make_none : Make [] 0
unfolding stands
make_none = record { above = λ h. rw add-zero }

-- trees and then trees
make_both : {ns ms : List Node} {a b : ℕ} → Make ns a → Make ms b → Make (ns ++ ms) (a + b)
make_both {ns} {ms} {a} {b} x y = record { above = λ h. stands_append ns ms h (h + a) (x.above h) ∙ y.above (h + a) ∙ rw (add_assoc h a b) }

-- a node behind its children
make_one : (n : Node) {ns : List Node} {k : ℕ} → Make ns k → n.children ≡ k → Make (ns ++ (n ∷ [])) 1
make_one n {ns} {k} x e =
    record { above = λ h. stands_append ns (n ∷ []) h (h + k) (x.above h) ∙ stands_last n h (h + k) (omega (arith, e)) }

-- a node behind its children, told in two parts
make_two : (n : Node) {ns ms : List Node} {a b : ℕ} → Make ns a → Make ms b → n.children ≡ a + b → Make (ns ++ (ms ++ (n ∷ []))) 1
make_two n {ns} {ms} {a} {b} x y e = subst (λ (l : List Node). Make l 1) (append_assoc ns ms (n ∷ [])) (make_one n (make_both x y) e)

-- a node with no children
make_leaf : (n : Node) → n.children ≡ 0 → Make (n ∷ []) 1
make_leaf n e = make_one n make_none e

-- ---- trees

module _ {strict : Bool} where
  -- The nodes of a tree make its roots: each node closes what its parts made.
  tree_makes : {N : Nt} {d : ℕ} {t : Tree} (i : ℕ) → Is strict N d t → Make (nodes_of i t) (roots N t)
  unfolding nodes_of count
  tree_makes i i_num = make_leaf _ refl
  tree_makes i i_var = make_leaf _ refl
  tree_makes i (i_group v) = tree_makes (i + 1) v
  tree_makes i (i_field v) = make_one _ (tree_makes i v) refl
  tree_makes i (i_bare v q) = make_one _ (tree_makes i v) refl
  tree_makes i (i_call v q w) = make_two _ (tree_makes i v) (tree_makes _ w) (omega arith)
  tree_makes i (i_one v) = tree_makes i v
  tree_makes i (i_more v w) = make_both (tree_makes i v) (tree_makes _ w)
  tree_makes i (i_prim v) = tree_makes i v
  tree_makes i (i_star v) = make_one _ (tree_makes (i + 1) v) refl
  tree_makes i (i_unary v) = tree_makes i v
  tree_makes i (i_mul v b w) = make_two _ (tree_makes i v) (tree_makes _ w) refl
  tree_makes i (i_lone v) = tree_makes i v
  tree_makes i (i_shift v b w) = make_two _ (tree_makes i v) (tree_makes _ w) refl
  tree_makes i (i_up v) = tree_makes i v
  tree_makes i (i_add v b w) = make_two _ (tree_makes i v) (tree_makes _ w) refl
  tree_makes i (i_decl b v) = make_one _ (tree_makes (i + 3) v) refl
  tree_makes i (i_ret v) = make_one _ (tree_makes (i + 1) v) refl
  tree_makes i (i_plain v) = make_one _ (tree_makes i v) refl
  tree_makes i (i_assign b v w) = make_two _ (tree_makes i v) (tree_makes _ w) refl
  tree_makes i (i_if v) = make_one _ (make_both (make_leaf _ refl) (make_one _ (tree_makes _ v) refl)) refl
  tree_makes i (i_if_else v w) =
      make_two _ (make_both (make_leaf _ refl) (make_one _ (tree_makes _ v) refl)) (make_one _ (tree_makes _ w) refl) refl
  tree_makes i i_no_stmts = make_none
  tree_makes i (i_stmts v w) = make_both (tree_makes i v) (tree_makes _ w)
  tree_makes i (i_stmt v) = tree_makes i v
  tree_makes i (i_text b) = make_leaf _ refl
  tree_makes i i_no_items = make_none
  tree_makes i (i_items v w) = make_both (tree_makes i v) (tree_makes _ w)
  tree_makes i i_first = make_none
  tree_makes i (i_shifted v b q) = make_none
  tree_makes i (i_type q) = make_none
  tree_makes i (i_typed b c) = make_none
  tree_makes i (i_limit v q) = make_none
  tree_makes i i_no_fields = make_none
  tree_makes i (i_fields v w) = make_both (tree_makes i v) (tree_makes _ w)
  tree_makes i (i_plain_field b) = make_leaf _ refl
  tree_makes i (i_bytes_field q) = make_leaf _ refl
  tree_makes i (i_array_field b q) = make_leaf _ refl
  tree_makes i i_no_event_fields = make_none
  tree_makes i (i_event_fields v w) = make_both (tree_makes i v) (tree_makes _ w)
  tree_makes i (i_unit v) = make_one _ (tree_makes (i + 3) v) refl
  tree_makes i (i_map v q) = make_leaf _ refl
  tree_makes i (i_event v) = make_one _ (tree_makes (i + 3) v) refl
  tree_makes i i_no_decls = make_none
  tree_makes i (i_decls v w) = make_both (tree_makes i v) (tree_makes _ w)
  tree_makes i (i_program v) = make_one _ (tree_makes i v) refl

  -- The theorem: whatever stood before them, the nodes of a tree take nothing of it and make as many trees as the tree has roots. As this holds of
  -- each of its parts too, a node's count is the number of its tree's children, by `count_forced`: `nodes_of` could write no other.
  pub children_first : {N : Nt} {d : ℕ} {t : Tree} (i h : ℕ) → Is strict N d t → stands (nodes_of i t) h ≡ trees (h + roots N t)
  children_first i h v = (tree_makes i v).above h

  -- the nodes of a program are one tree
  pub program_first : {d : ℕ} {t : Tree} (i : ℕ) → Is strict Program d t → stands (nodes_of i t) 0 ≡ trees 1
  program_first i v = children_first i 0 v

  -- and each of them stands directly behind its children
  pub program_node : {d : ℕ} {t : Tree} (i : ℕ) (ns : List Node) (n : Node) (ms : List Node) → Is strict Program d t → nodes_of i t ≡ ns ++ (n ∷ ms)
      → (m : ℕ) × Parts m n.children ns
  program_node i ns n ms v e = each_node ns n ms 1 (ap (λ (l : List Node). stands l 0) (sym e) ∙ program_first i v)

-- all that the parser accepts is such a program
pub accepted_first : (ts : List Tok) (t : Tree) (j : ℕ) → Parse.parse ts ≡ ok t j → stands (nodes_of 0 t) 0 ≡ trees 1
accepted_first ts t j e = program_first 0 (all_ok (λ t j. Is true Program 64 t) (Parse.parse ts) t j (accepted_is ts) e)

-- ---- examples

-- unit u { a = 1; }: the variable and the number, and then the assignment of two, the unit of one and the program of one
abbrev small : Tree
small = program (seq none (unit (117 ∷ []) (seq none (assign Equals (var (97 ∷ [])) (num 1)))))

small_counts : map (λ (n : Node). n.children) (nodes_of 0 small) ≡ 0 ∷ 0 ∷ 2 ∷ 1 ∷ 1 ∷ []
unfolding nodes_of count
small_counts = refl

small_first : stands (nodes_of 0 small) 0 ≡ trees 1
unfolding stands nodes_of count
small_first = refl

-- a parent before its child asks for one that does not stand
parent_first : stands (node 3 1 missing 1 ∷ node 1 1 1 0 ∷ []) 0 ≡ short
unfolding stands
parent_first = refl
