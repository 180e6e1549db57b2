-- The bytes that nodes have in the layout, read off their words: which bytes an expression has whose nodes are those from one number up to
-- another, and at which level it stands. A node's parts stand in front of it.
use Rattle.std.specs.Prelude.{◌≡◌, List, [], ◌++◌, ℕ, suc, ◌≤◌}
use Rattle.rules.specs.Text.{bytes}
use Rattle.rules.specs.Nodes.{NodeVariable, NodeNumber, NodeDereference, NodeAdd, NodeShr, NodeCall, NodeField}
use Rattle.rules_decimal.specs.Decimal.{signed}
use Rattle.rules_layout.specs.Rows.{dereference_level, operand_level}
use Rattle.layout_back.specs.Words.{word_of, number_of, SpelledAs}
use Rattle.layout_signs.specs.Levels.{node_level, right_place, operator_of, put, comma}

-- a node's words, by their index
abbrev pub at_name : ℕ
at_name = 2

abbrev pub at_children : ℕ
at_children = 3

abbrev pub at_fact0 : ℕ
at_fact0 = 4

abbrev pub at_fact1 : ℕ
at_fact1 = 5

abbrev pub at_fact2 : ℕ
at_fact2 = 6

abbrev pub at_fact3 : ℕ
at_fact3 = 7

-- the kind of a node
abbrev pub kind_of : List ℕ → ℕ → ℕ
kind_of nodes j = word_of nodes j 0

pub data Sort : Type 0 where
  Expr Args : Sort

-- In a text with rows and nodes: the nodes from m up to n are an expression at a level, or are a call's arguments which with its receiver
-- are so many, and have these bytes.
module _ (t rows nodes : List ℕ) where
  pub data Part : Sort → (m n x : ℕ) → List ℕ → Type 0 where
    p_var : {j : ℕ} {w : List ℕ} → kind_of nodes j ≡ NodeVariable → SpelledAs t rows (word_of nodes j at_name) w
        → Part Expr j (suc j) operand_level (w ++ bytes " ")
    p_num : {j : ℕ} → kind_of nodes j ≡ NodeNumber
        → Part Expr j (suc j) operand_level (signed (number_of (word_of nodes j at_fact0) (word_of nodes j at_fact1)) ++ bytes " ")
    p_star : {m j l : ℕ} {bs : List ℕ} → kind_of nodes j ≡ NodeDereference → Part Expr m j l bs
        → Part Expr m (suc j) dereference_level (bytes "* " ++ put dereference_level l bs)
    p_field : {m j l : ℕ} {bs w : List ℕ} → kind_of nodes j ≡ NodeField → Part Expr m j l bs → SpelledAs t rows (word_of nodes j at_name) w
        → Part Expr m (suc j) operand_level (put operand_level l bs ++ (bytes ". " ++ (w ++ bytes " ")))
    p_call : {m q j l c : ℕ} {bs us w : List ℕ} → kind_of nodes j ≡ NodeCall → Part Expr m q l bs → Part Args q j c us
        → word_of nodes j at_children ≡ c → SpelledAs t rows (word_of nodes j at_name) w
        → Part Expr m (suc j) operand_level (put operand_level l bs ++
        (bytes ". " ++ ((w ++ bytes " ") ++ (bytes "( " ++ (us ++ bytes ") ")))))
    p_bin : {m q j l r : ℕ} {bs cs : List ℕ} → NodeAdd ≤ kind_of nodes j → kind_of nodes j ≤ NodeShr → Part Expr m q l bs → Part Expr q j r cs
        → Part Expr m (suc j) (node_level (kind_of nodes j))
        (put (node_level (kind_of nodes j)) l bs ++ (operator_of (kind_of nodes j) ++ put (right_place (kind_of nodes j)) r cs))
    p_none : {m : ℕ} → Part Args m m 1 []
    p_arg : {m q n c l : ℕ} {us bs : List ℕ} → Part Args m q c us → Part Expr q n l bs → Part Args m n (suc c) (us ++ (comma c ++ bs))
