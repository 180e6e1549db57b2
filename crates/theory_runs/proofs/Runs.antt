-- Declarations whose rows have the same kinds, values and spellings have the same nodes, moved from the first row of the one to that of the
-- other.
use Prim.Native.Nat.{ℕ, zero, suc, pred, ◌+◌, ◌-◌, ◌≤◌, ◌<◌}
use native.Mathlib.Omega.{arith}
use native.Mathlib.Nat.{add-zero}
use mathlib.Core.Bool.{true}
use mathlib.Core.List.{List, [], ◌∷◌, ◌++◌, map, append_assoc, append-nil}
use mathlib.Core.Path.{◌≡◌, refl, sym, ap, ◌∙◌, subst}
use lib.ListN.{length, take, drop, length-append}
use lib.Seq.{take-append_seam, drop-append_seam, drop-drop}
use Rattle.rules.specs.Kinds.{Eof}
use Rattle.rules.specs.Tree.{Tok, sign, Tree, none, seq, unit, map_decl, event, program, yield}
use Rattle.rules.specs.Nodes.{Node, NodeUnit, NodeEvent, NodeMap, NodeProgram, missing, node, width, size, nodes_of}
use Rattle.rules.specs.Grammar.{Decl, Decls, Program, Is, i_unit, i_map, i_event, i_no_decls, i_decls, i_program}
use Rattle.theory_grammar.proofs.Laws.{yield_width, nodes_size}
use Rattle.theory_grammar.proofs.Same.{unambiguous}
use Rattle.rules_program.specs.Both.{Declared, declarations, rows_of_all, size_of_all, nodes_of_all, nodes_of_both, declared_as, declared_in, declared_both}
use Rattle.theory_moved.specs.Moved.{moved}
use Rattle.theory_moved.proofs.Moved.{nodes_moved}
use Rattle.theory_program.specs.Lists.{Listed, AllDecls, no_more, and_more}
use Rattle.theory_program.specs.Index.{Among, here, later}
use Rattle.theory_program.proofs.Lists.{decls_rows, program_listed, program_all}
use Rattle.theory_program.proofs.Nodes.{all_size}
use Rattle.theory_runs.specs.Runs.{rows_of_run, nodes_of_run, SameNodes}

-- ---- equal rows, equal declarations

same_tree : {x y : Tree} → Is true Decl 64 x → Is true Decl 64 y → yield x ≡ yield y → x ≡ y
unfolding yield declarations
same_tree {x = x} {y = y} h k e =
    let f : yield (program (seq none x)) ≡ yield (program (seq none y)) = ap (λ (ts : List Tok). ts ++ (sign Eof ∷ [])) e in
    let p : program (seq none x) ≡ program (seq none y) =
    unambiguous (program (seq none x)) (program (seq none y)) (i_program (i_decls i_no_decls h)) (i_program (i_decls i_no_decls k)) f in
    let q : x ∷ [] ≡ y ∷ [] = ap declarations p in
    cc

-- ---- where a declaration stands

-- the rows of declarations one after another
unfoldable yield_all : List Tree → List Tok
yield_all [] = []
yield_all (d ∷ ds) = yield d ++ yield_all ds

-- The declaration d stands among rows that begin at row i, and among nodes that begin at node n.
pub record Stands (i n : ℕ) (ts : List Tok) (ns : List Node) (d : Declared) : Type 0 where
  pub tree : Tree
  pub is : Is true Decl 64 tree
  pub before : List Tok
  pub after : List Tok
  pub splits : ts ≡ before ++ (yield tree ++ after)
  pub at : d.row ≡ i + length before
  pub front : List Node
  pub back : List Node
  pub parts : ns ≡ front ++ (nodes_of d.row tree ++ back)
  pub from : d.first ≡ n + length front
  pub declares : d ∷ [] ≡ declared_as d.row d.first tree

-- more before them, and more after them
stands_after : {i n j m : ℕ} {d : Declared} (xs ts : List Tok) (zs ns : List Node) → i ≡ j + length xs → n ≡ m + length zs
    → Stands i n ts ns d
    → Stands j m (xs ++ ts) (zs ++ ns) d
stands_after {d = d} xs ts zs ns e f s =
    record {
      tree = s.tree;
      is = s.is;
      before = xs ++ s.before;
      after = s.after;
      splits = ap (λ (l : List Tok). xs ++ l) s.splits ∙ sym (append_assoc xs s.before (yield s.tree ++ s.after));
      at = omega (arith, s.at, length-append xs s.before);
      front = zs ++ s.front;
      back = s.back;
      parts = ap (λ (l : List Node). zs ++ l) s.parts ∙ sym (append_assoc zs s.front (nodes_of d.row s.tree ++ s.back));
      from = omega (arith, s.from, length-append zs s.front);
      declares = s.declares;
    }

stands_before : {i n : ℕ} {d : Declared} (ts ys : List Tok) (ns ws : List Node) → Stands i n ts ns d → Stands i n (ts ++ ys) (ns ++ ws) d
stands_before {d = d} ts ys ns ws s =
    record {
      tree = s.tree;
      is = s.is;
      before = s.before;
      after = s.after ++ ys;
      splits = ap (λ (l : List Tok). l ++ ys) s.splits
          ∙ (append_assoc s.before (yield s.tree ++ s.after) ys
          ∙ ap (λ (l : List Tok). s.before ++ l) (append_assoc (yield s.tree) s.after ys));
      at = s.at;
      front = s.front;
      back = s.back ++ ws;
      parts = ap (λ (l : List Node). l ++ ws) s.parts
          ∙ (append_assoc s.front (nodes_of d.row s.tree ++ s.back) ws
          ∙ ap (λ (l : List Node). s.front ++ l) (append_assoc (nodes_of d.row s.tree) s.back ws));
      from = s.from;
      declares = s.declares;
    }

-- the first of declarations
stands_first : (i n : ℕ) (x : Tree) (d : Declared) (ts : List Tok) (ns : List Node) → Is true Decl 64 x → d ∷ [] ≡ declared_as i n x → d.row ≡ i
    → d.first ≡ n
    → Stands i n (yield x ++ ts) (nodes_of i x ++ ns) d
stands_first i n x d ts ns h e r f =
    record {
      tree = x;
      is = h;
      before = [];
      after = ts;
      splits = refl;
      at = r ∙ sym (add-zero i);
      front = [];
      back = ns;
      parts = ap (λ (m : ℕ). nodes_of m x ++ ns) (sym r);
      from = f ∙ sym (add-zero n);
      declares = e ∙ (ap (λ (m : ℕ). declared_as m n x) (sym r) ∙ ap (λ (m : ℕ). declared_as d.row m x) (sym f));
    }

-- a declaration of the grammar declares one thing: its kind and its name do not depend on where it stands
record Single (i n : ℕ) (x : Tree) : Type 0 where
  one : Declared
  only : declared_as i n x ≡ one ∷ []
  row : one.row ≡ i
  first : one.first ≡ n
  rows : one.rows ≡ width x
  nodes : suc one.node - one.first ≡ size x

single : (i n : ℕ) {x : Tree} → Is true Decl 64 x → Single i n x
unfolding declared_as size
single i n (i_unit {w = w} {l = l} h) =
    record {
      one = record { kind = NodeUnit; name = w; row = i; rows = width (unit w l); first = n; node = n + size l };
      only = refl;
      row = refl;
      first = refl;
      rows = refl;
      nodes = omega arith;
    }
single i n (i_map {w = w} {l = l} h q) =
    record {
      one = record { kind = NodeMap; name = w; row = i; rows = width (map_decl w l); first = n; node = n };
      only = refl;
      row = refl;
      first = refl;
      rows = refl;
      nodes = omega arith;
    }
single i n (i_event {w = w} {l = l} h) =
    record {
      one = record { kind = NodeEvent; name = w; row = i; rows = width (event w l); first = n; node = n + size l };
      only = refl;
      row = refl;
      first = refl;
      rows = refl;
      nodes = omega arith;
    }

-- the kind and the name that a list of one declares
head_kind : List Declared → ℕ
head_kind [] = 0
head_kind (d ∷ ds) = d.kind

head_name : List Declared → List ℕ
head_name [] = []
head_name (d ∷ ds) = d.name

kind_anywhere : (i n : ℕ) {x : Tree} → Is true Decl 64 x → head_kind (declared_as i n x) ≡ head_kind (declared_as 0 0 x)
unfolding head_kind declared_as
kind_anywhere i n (i_unit h) = refl
kind_anywhere i n (i_map h q) = refl
kind_anywhere i n (i_event h) = refl

name_anywhere : (i n : ℕ) {x : Tree} → Is true Decl 64 x → head_name (declared_as i n x) ≡ head_name (declared_as 0 0 x)
unfolding head_name declared_as
name_anywhere i n (i_unit h) = refl
name_anywhere i n (i_map h q) = refl
name_anywhere i n (i_event h) = refl

among_case : (B : Type 0) (x e : Declared) (es : List Declared) → (x ≡ e → B) → (Among x es → B) → Among x (e ∷ es) → B
among_case B x e es f g here = f refl
among_case B x e es f g (later m) = g m

stands_all : (i n : ℕ) (ds : List Tree) → AllDecls true 64 ds → (d : Declared) → Among d (declared_in i n ds)
    → Stands i n (yield_all ds) (nodes_of_all i ds) d
unfolding declared_in yield_all nodes_of_all
stands_all i n [] no_more d m = elim m [ ]
stands_all i n (x ∷ ds) (and_more h a) d m =
    let s : Single i n x = single i n h in
    let rest : List Declared = declared_in (i + width x) (n + size x) ds in
    let m' : Among d (s.one ∷ rest) = subst (λ (l : List Declared). Among d (l ++ rest)) s.only m in
    among_case (Stands i n (yield x ++ yield_all ds) (nodes_of i x ++ nodes_of_all (i + width x) ds) d) d s.one rest
    (λ (e : d ≡ s.one). stands_first i n x d (yield_all ds) (nodes_of_all (i + width x) ds) h (ap (λ (y : Declared). y ∷ []) e ∙ sym s.only)
    (ap (λ (y : Declared). y.row) e ∙ s.row) (ap (λ (y : Declared). y.first) e ∙ s.first))
    (λ (k : Among d rest). stands_after (yield x) (yield_all ds) (nodes_of i x) (nodes_of_all (i + width x) ds) (omega (arith, yield_width x))
    (omega (arith, nodes_size i x)) (stands_all (i + width x) (n + size x) ds a d k))
    m'

-- ---- in a program, and in the program of two texts

yield_append : (ds es : List Tree) → yield_all (ds ++ es) ≡ yield_all ds ++ yield_all es
unfolding yield_all
yield_append [] es = refl
yield_append (d ∷ ds) es = ap (λ (l : List Tok). yield d ++ l) (yield_append ds es) ∙ sym (append_assoc (yield d) (yield_all ds) (yield_all es))

yield_decls : {l : Tree} → Is true Decls 64 l → yield l ≡ yield_all (declarations l)
unfolding yield declarations yield_all
yield_decls i_no_decls = refl
yield_decls (i_decls {l = l} {s = s} h x) =
    ap (λ (ts : List Tok). ts ++ yield s) (yield_decls h)
    ∙ (ap (λ (ts : List Tok). yield_all (declarations l) ++ ts) (sym (append-nil (yield s))) ∙ sym (yield_append (declarations l) (s ∷ [])))

yield_program : {p : Tree} → Is true Program 64 p → yield p ≡ yield_all (declarations p) ++ (sign Eof ∷ [])
unfolding yield declarations
yield_program (i_program h) = ap (λ (ts : List Tok). ts ++ (sign Eof ∷ [])) (yield_decls h)

-- a declaration of a text's own program
pub one_stands : {p : Tree} → Is true Program 64 p → (d : Declared) → Among d (declared_in 0 0 (declarations p))
    → Stands 0 0 (yield p) (nodes_of 0 p) d
one_stands {p = p} h d m =
    let ds : List Tree = declarations p in
    subst (λ (ts : List Tok). Stands 0 0 ts (nodes_of 0 p) d) (sym (yield_program h))
    (subst (λ (ns : List Node). Stands 0 0 (yield_all ds ++ (sign Eof ∷ [])) ns d) (sym ((program_listed h).words 0))
    (stands_before (yield_all ds) (sign Eof ∷ []) (nodes_of_all 0 ds) (node NodeProgram (0 + rows_of_all ds) missing (length ds) ∷ [])
    (stands_all 0 0 ds (program_all h) d m)))

among_either : (B : Type 0) (d : Declared) (xs ys : List Declared) → (Among d xs → B) → (Among d ys → B) → Among d (xs ++ ys) → B
among_either B d [] ys f g m = g m
among_either B d (x ∷ xs) ys f g here = f here
among_either B d (x ∷ xs) ys f g (later m) = among_either B d xs ys (λ (k : Among d xs). f (later k)) g m

-- a declaration of the program of both, in either text
pub two_stand : {p q : Tree} → Is true Program 64 p → Is true Program 64 q → (d : Declared) → Among d (declared_both p q)
    → Stands 0 0 (yield p ++ yield q) (nodes_of_both p q) d
unfolding declared_both nodes_of_both
two_stand {p = p} {q = q} h k d m =
    let ds : List Tree = declarations p in
    let es : List Tree = declarations q in
    let end : List Node = node NodeProgram (pred (width p + width q)) missing (length ds + length es) ∷ [] in
    let one : Among d (declared_in 0 0 ds) → Stands 0 0 (yield p ++ yield q) (nodes_of_all 0 ds ++ (nodes_of_all (width p) es ++ end)) d =
    λ (a : Among d (declared_in 0 0 ds)).
    stands_before (yield p) (yield q) (nodes_of_all 0 ds) (nodes_of_all (width p) es ++ end)
    (subst (λ (ts : List Tok). Stands 0 0 ts (nodes_of_all 0 ds) d) (sym (yield_program h))
    (subst (λ (ns : List Node). Stands 0 0 (yield_all ds ++ (sign Eof ∷ [])) ns d) (append-nil (nodes_of_all 0 ds))
    (stands_before (yield_all ds) (sign Eof ∷ []) (nodes_of_all 0 ds) [] (stands_all 0 0 ds (program_all h) d a)))) in
    let other : Among d (declared_in (width p) (size_of_all ds) es) → Stands 0 0 (yield p ++ yield q) (nodes_of_all 0 ds ++ (nodes_of_all (width p) es ++ end)) d =
    λ (a : Among d (declared_in (width p) (size_of_all ds) es)).
    stands_after (yield p) (yield q) (nodes_of_all 0 ds) (nodes_of_all (width p) es ++ end) (omega (arith, yield_width p)) (omega (arith, all_size 0 ds))
    (subst (λ (ts : List Tok). Stands (width p) (size_of_all ds) ts (nodes_of_all (width p) es ++ end) d) (sym (yield_program k))
    (stands_before (yield_all es) (sign Eof ∷ []) (nodes_of_all (width p) es) end (stands_all (width p) (size_of_all ds) es (program_all k) d a))) in
    among_either (Stands 0 0 (yield p ++ yield q) (nodes_of_all 0 ds ++ (nodes_of_all (width p) es ++ end)) d) d (declared_in 0 0 ds)
    (declared_in (width p) (size_of_all ds) es) one other m

-- ---- the theorem

-- a part of a list
middle : {A : Type 0} (k m : ℕ) (xs ys zs : List A) → k ≡ length xs → m ≡ length ys → take m (drop k (xs ++ (ys ++ zs))) ≡ ys
middle k m xs ys zs e f =
    ap (λ (n : ℕ). take m (drop n (xs ++ (ys ++ zs)))) e
    ∙ (ap (λ (l : List _). take m l) (drop-append_seam xs (ys ++ zs)) ∙ (ap (λ (n : ℕ). take n (ys ++ zs)) f ∙ take-append_seam ys zs))

-- a declaration is what its tree declares where it stands
module _ {ts : List Tok} {ns : List Node} {d : Declared} (s : Stands 0 0 ts ns d) where
  own : Single d.row d.first s.tree
  own = single d.row d.first s.is

  is_own : d ≡ own.one
  is_own = let e : d ∷ [] ≡ own.one ∷ [] = s.declares ∙ own.only in cc

  own_rows : d.rows ≡ width s.tree
  own_rows = ap (λ (x : Declared). x.rows) is_own ∙ own.rows

  own_nodes : suc d.node - d.first ≡ size s.tree
  own_nodes = ap (λ (x : Declared). suc x.node - x.first) is_own ∙ own.nodes

  run_rows : rows_of_run d ts ≡ yield s.tree
  run_rows =
      ap (λ (l : List Tok). rows_of_run d l) s.splits
      ∙ middle d.row d.rows s.before (yield s.tree) s.after (omega (arith, s.at)) (own_rows ∙ sym (yield_width s.tree))

  run_nodes : nodes_of_run d ns ≡ nodes_of d.row s.tree
  run_nodes =
      ap (λ (l : List Node). nodes_of_run d l) s.parts
      ∙ middle d.first (suc d.node - d.first) s.front (nodes_of d.row s.tree) s.back (omega (arith, s.from))
      (own_nodes ∙ sym (nodes_size d.row s.tree))

  -- rows have numbers, so the nodes are those of row 0 moved to its first row
  run_moved : length ts ≤ missing → nodes_of_run d ns ≡ map (moved d.row) (nodes_of 0 s.tree)
  run_moved b =
      let long : length ts ≡ length s.before + (width s.tree + length s.after) =
      ap length s.splits
      ∙ (length-append s.before (yield s.tree ++ s.after)
      ∙ ap (λ (n : ℕ). length s.before + n) (length-append (yield s.tree) s.after ∙ ap (λ (n : ℕ). n + length s.after) (yield_width s.tree))) in
      let zero_on : 0 + d.row ≡ d.row = omega arith in
      run_nodes
      ∙ (ap (λ (n : ℕ). nodes_of n s.tree) (sym zero_on) ∙ nodes_moved d.row 0 s.tree (omega (arith, long, s.at)))

  own_kind : d.kind ≡ head_kind (declared_as 0 0 s.tree)
  unfolding head_kind
  own_kind = ap head_kind s.declares ∙ kind_anywhere d.row d.first s.is

  own_name : d.name ≡ head_name (declared_as 0 0 s.tree)
  unfolding head_name
  own_name = ap head_name s.declares ∙ name_anywhere d.row d.first s.is

-- Two declarations, each in its own program (of one text or of two), whose rows have the same kinds, values and spellings, have the same
-- nodes: those of the one moved from its first row to the first row of the other.
pub same_run : {ts us : List Tok} {ns ms : List Node} {d e : Declared} → Stands 0 0 ts ns d → Stands 0 0 us ms e → length ts ≤ missing
    → length us ≤ missing → rows_of_run d ts ≡ rows_of_run e us
    → SameNodes d e ns ms
same_run {d = d} {e = e} s r b c same =
    let x : s.tree ≡ r.tree = same_tree s.is r.is (sym (run_rows s) ∙ (same ∙ run_rows r)) in
    record {
      base = nodes_of 0 s.tree;
      one = run_moved s b;
      other = run_moved r c ∙ ap (λ (t : Tree). map (moved e.row) (nodes_of 0 t)) (sym x);
      kind = own_kind s ∙ (ap (λ (t : Tree). head_kind (declared_as 0 0 t)) x ∙ sym (own_kind r));
      name = own_name s ∙ (ap (λ (t : Tree). head_name (declared_as 0 0 t)) x ∙ sym (own_name r));
      rows = own_rows s ∙ (ap width x ∙ sym (own_rows r));
      nodes = own_nodes s ∙ (ap size x ∙ sym (own_nodes r));
    }
