-- What the layout says of operators and of parentheses, by the kinds of nodes.
use Rattle.std.specs.Prelude.{cond, ◌||◌, List, [], ◌++◌, ℕ, zero, suc, eqb, leb, ltb}
use Rattle.rules.specs.Text.{bytes}
use Rattle.rules.specs.Nodes.{NodeDereference, NodeAdd, NodeSub, NodeMul, NodeDiv, NodeMod, NodeShl, NodeShr}
use Rattle.layout_signs.specs.declared.Binding.{Binding}
use Rattle.layout_signs.specs.declared.Binding.TheVariants.{Sum, Shift, Product, Starred, Operand}
use Rattle.rules_layout.specs.Rows.{sum_level, shift_level, product_level, dereference_level, operand_level}

-- the number of a level
abbrev pub number : Binding → ℕ
number Sum = sum_level
number Shift = shift_level
number Product = product_level
number Starred = dereference_level
number Operand = operand_level

-- the level of an expression, and so what the left of an operator takes
unfoldable pub node_level : ℕ → ℕ
node_level k =
    cond (eqb k NodeAdd || eqb k NodeSub) sum_level
    (cond (eqb k NodeShl || eqb k NodeShr) shift_level
    (cond ((eqb k NodeMul || eqb k NodeDiv) || eqb k NodeMod) product_level (cond (eqb k NodeDereference) dereference_level operand_level)))

-- what the right of an operator takes
unfoldable pub right_place : ℕ → ℕ
right_place k = cond ((eqb k NodeMul || eqb k NodeDiv) || eqb k NodeMod) dereference_level product_level

-- an operator's sign
unfoldable pub operator_of : ℕ → List ℕ
operator_of k =
    cond (eqb k NodeAdd) (bytes "+ ")
    (cond (eqb k NodeSub) (bytes "- ")
    (cond (eqb k NodeMul) (bytes "* ")
    (cond (eqb k NodeDiv) (bytes "/ ") (cond (eqb k NodeMod) (bytes "% ") (cond (eqb k NodeShl) (bytes "<< ") (bytes ">> "))))))

-- an expression of a level at a place
unfoldable pub put : ℕ → ℕ → List ℕ → List ℕ
put place level bs = cond (ltb level place) (bytes "( " ++ (bs ++ bytes ") ")) bs

-- how many pairs of parentheses that are
unfoldable pub pairs : ℕ → ℕ → ℕ
pairs place level = cond (ltb level place) 1 0

-- bytes so many times
unfoldable pub repeated : ℕ → List ℕ → List ℕ
repeated zero bs = []
repeated (suc n) bs = bs ++ repeated n bs

-- what stands behind a call's receiver and arguments, n of them, and in front of the next
unfoldable pub comma : ℕ → List ℕ
comma n = cond (leb n 1) [] (bytes ", ")
