-- Nodes with the same faces say the same, word by word.
use Prim.Native.Nat.{ℕ, zero, suc, ◌+◌, ◌*◌, ◌<◌}
use native.Mathlib.Omega.{arith}
use mathlib.Core.Bool.{Bool, true, false}
use mathlib.Core.List.{List, [], ◌∷◌, map}
use mathlib.Core.Path.{◌≡◌, refl, sym, ap, ◌∙◌}
use lib.Dec.{eqb}
use lib.ListN.{length, drop, get_or, length-map}
use lib.Seq.{drop-drop}
use borrow.Author.Tests.{eqb-true, eqb-false}
use Rattle.rules.specs.Nodes.{Node, NodeUnit}
use Rattle.theory_layout.specs.Back.{Face, spelled_by, face_by, node_in, nodes_in, faces_in}
use Rattle.theory_laid.specs.Nodes.{node_no, row_spells, SameNode}

-- ---- a node's face

abbrev unit_face : (ℕ → List ℕ) → Node → Face
unit_face spells n = record {
  kind = n.kind;
  children = n.children;
  name = spelled_by spells n.name;
  licence = spelled_by spells n.fact1;
  facts = n.fact0 ∷ n.fact2 ∷ n.fact3 ∷ [];
}

abbrev plain_face : (ℕ → List ℕ) → Node → Face
plain_face spells n = record {
  kind = n.kind;
  children = n.children;
  name = spelled_by spells n.name;
  licence = [];
  facts = n.fact0 ∷ n.fact1 ∷ n.fact2 ∷ n.fact3 ∷ [];
}

unit_is : (spells : ℕ → List ℕ) (n : Node) → eqb n.kind NodeUnit ≡ true → face_by spells n ≡ unit_face spells n
unfolding face_by
unit_is spells n e = rw e

plain_is : (spells : ℕ → List ℕ) (n : Node) → eqb n.kind NodeUnit ≡ false → face_by spells n ≡ plain_face spells n
unfolding face_by
plain_is spells n e = rw e

kind_of_lem : (spells : ℕ → List ℕ) (n : Node) → (face_by spells n).kind ≡ n.kind
kind_of_lem spells n = by (eqb n.kind NodeUnit) refl
  where
    by : (b : Bool) → eqb n.kind NodeUnit ≡ b → (face_by spells n).kind ≡ n.kind
    by true e = ap (λ (f : Face). f.kind) (unit_is spells n e)
    by false e = ap (λ (f : Face). f.kind) (plain_is spells n e)

-- a fact of a face, by its place
fact_at : ℕ → Face → ℕ
fact_at i f = get_or f.facts i 0

-- ---- two nodes

module _ (spells' : ℕ → List ℕ) (n' : Node) (spells : ℕ → List ℕ) (n : Node) (e : face_by spells' n' ≡ face_by spells n) where
  kinds : n'.kind ≡ n.kind
  kinds = sym (kind_of_lem spells' n') ∙ ap (λ (f : Face). f.kind) e ∙ kind_of_lem spells n

  by : (b : Bool) → eqb n.kind NodeUnit ≡ b → SameNode spells' n' spells n
  unfolding fact_at
  by true q =
      let f : unit_face spells' n' ≡ unit_face spells n =
      sym (unit_is spells' n' (ap (λ (k : ℕ). eqb k NodeUnit) kinds ∙ q)) ∙ e ∙ unit_is spells n q in
      record {
        kind = kinds;
        name = ap (λ (x : Face). x.name) f;
        children = ap (λ (x : Face). x.children) f;
        fact0 = ap (fact_at 0) f;
        fact1 = λ h. absurd (h (eqb-true n.kind NodeUnit q));
        licence = λ h. ap (λ (x : Face). x.licence) f;
        fact2 = ap (fact_at 1) f;
        fact3 = ap (fact_at 2) f;
      }
  by false q =
      let f : plain_face spells' n' ≡ plain_face spells n =
      sym (plain_is spells' n' (ap (λ (k : ℕ). eqb k NodeUnit) kinds ∙ q)) ∙ e ∙ plain_is spells n q in
      record {
        kind = kinds;
        name = ap (λ (x : Face). x.name) f;
        children = ap (λ (x : Face). x.children) f;
        fact0 = ap (fact_at 0) f;
        fact1 = λ h. ap (fact_at 1) f;
        licence = λ h. absurd (eqb-false n.kind NodeUnit q h);
        fact2 = ap (fact_at 2) f;
        fact3 = ap (fact_at 3) f;
      }

  same_node : SameNode spells' n' spells n
  same_node = by (eqb n.kind NodeUnit) refl

-- ---- lists of nodes

nodes_many : (n : ℕ) (ws : List ℕ) → length (nodes_in n ws) ≡ n
unfolding nodes_in
nodes_many zero ws = refl
nodes_many (suc n) ws = ap suc (nodes_many n (drop 8 ws))

face_at : (f : Node → Face) (d : Face) (n : ℕ) (ws : List ℕ) (k : ℕ) → k < n → get_or (map f (nodes_in n ws)) k d ≡ f (node_no ws k)
unfolding nodes_in
face_at f d zero ws k h = absurd (omega arith)
face_at f d (suc n) ws zero h = refl
face_at f d (suc n) ws (suc k) h =
    let e : 8 + 8 * k ≡ 8 * suc k = omega arith in
    face_at f d n (drop 8 ws) k (omega arith) ∙ ap (λ (l : List ℕ). f (node_in l)) (drop-drop (8 * k) 8 ws ∙ ap (λ (j : ℕ). drop j ws) e)

-- Nodes with the same faces are as many, and each says the same.
module _ (t ws : List ℕ) (n : ℕ) (nodes t' ws' : List ℕ) (n' : ℕ) (nodes' : List ℕ) (e : faces_in t' ws' n' nodes' ≡ faces_in t ws n nodes) where
  many : (t ws : List ℕ) (n : ℕ) (nodes : List ℕ) → length (faces_in t ws n nodes) ≡ n
  unfolding faces_in
  many t ws n nodes = length-map (nodes_in n nodes) (face_by (row_spells t ws)) ∙ nodes_many n nodes

  pub same_many : n' ≡ n
  same_many = sym (many t' ws' n' nodes') ∙ ap length e ∙ many t ws n nodes

  pub same_nodes : (k : ℕ) → k < n → SameNode (row_spells t' ws') (node_no nodes' k) (row_spells t ws) (node_no nodes k)
  unfolding faces_in
  same_nodes k h =
      let d : Face = face_by (row_spells t ws) (node_no nodes k) in
      same_node (row_spells t' ws') (node_no nodes' k) (row_spells t ws) (node_no nodes k)
      (sym (face_at (face_by (row_spells t' ws')) d n' nodes' k (omega (arith, h, same_many)))
      ∙ ap (λ (l : List Face). get_or l k d) e
      ∙ face_at (face_by (row_spells t ws)) d n nodes k h)
