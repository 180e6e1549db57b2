-- What those that write expressions promise, whatever the nodes are and of those that are an expression.
use Rattle.std.specs.Prelude.{◌≡◌, List, ◌++◌, ℕ, suc, ◌≤◌}
use Rattle.rules.specs.Nodes.{NodeDereference, NodeAdd, NodeCall}
use Rattle.layout_back.specs.Back.{Wrote}
use Rattle.layout_signs.specs.Levels.{node_level, put}
use Rattle.layout_expr.specs.declared.Back.{Back}
use Rattle.layout_expr.specs.Parts.{kind_of, Expr, Args, Part}

-- bytes of the nodes from m on are written: r says where the nodes and where the bytes begin
pub record Done (m : ℕ) (bs room : List ℕ) (at : ℕ) (room' : List ℕ) (r : Back) : Type 0 where
  pub node : r.node ≡ m
  pub wrote : Wrote bs room at room' r.at

module _ (t rows nodes : List ℕ) where
  -- the expression that ends in front of node n, at a place
  pub record WroteExpr (n p : ℕ) (room : List ℕ) (at : ℕ) (room' : List ℕ) (r : Back) : Type 0 where
    pub low : r.node ≤ n
    pub done : {m l : ℕ} {bs : List ℕ} → Part t rows nodes Expr m n l bs → Done m (put p l bs) room at room' r

  -- the arguments that end in front of node n, c with the receiver
  pub record WroteArgs (n c : ℕ) (room : List ℕ) (at : ℕ) (room' : List ℕ) (r : Back) : Type 0 where
    pub low : r.node ≤ n
    pub done : {m : ℕ} {bs : List ℕ} → Part t rows nodes Args m n c bs → Done m bs room at room' r

  -- the expression of node j that has no left part, without parentheses
  pub record WroteLeaf (j : ℕ) (room : List ℕ) (at : ℕ) (room' : List ℕ) (r : Back) : Type 0 where
    pub low : r.node ≤ j
    pub done : {m l : ℕ} {bs : List ℕ} → kind_of nodes j ≤ NodeDereference → Part t rows nodes Expr m (suc j) l bs
        → Done m bs room at room' r

  -- what stands behind the left part of the expression bs, at a node of kind k, is written: the left part ends where r says
  pub record Stepped (m k : ℕ) (bs room : List ℕ) (at : ℕ) (room' : List ℕ) (r : Back) : Type 0 where
    pub level : ℕ
    pub left : List ℕ
    pub rest : List ℕ
    pub part : Part t rows nodes Expr m r.node level left
    pub all : bs ≡ put (node_level k) level left ++ rest
    pub wrote : Wrote rest room at room' r.at

  -- what stands behind the left part of the expression of node j
  pub record WroteStep (j : ℕ) (room : List ℕ) (at : ℕ) (room' : List ℕ) (r : Back) : Type 0 where
    pub low : r.node ≤ j
    pub done : {m l : ℕ} {bs : List ℕ} → NodeAdd ≤ kind_of nodes j → Part t rows nodes Expr m (suc j) l bs
        → Stepped m (kind_of nodes j) bs room at room' r

  -- the same of a call
  pub record WroteCall (j : ℕ) (room : List ℕ) (at : ℕ) (room' : List ℕ) (r : Back) : Type 0 where
    pub low : r.node ≤ j
    pub done : {m l : ℕ} {bs : List ℕ} → kind_of nodes j ≡ NodeCall → Part t rows nodes Expr m (suc j) l bs
        → Stepped m (kind_of nodes j) bs room at room' r
