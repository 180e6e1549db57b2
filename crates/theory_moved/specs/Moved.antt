-- A node of rows that stand k rows further on. Of its words the place, the name and a unit's second fact are rows; a row that is missing
-- stays missing, and every other word stays what it was.
use Rattle.std.specs.Prelude.{ℕ, ◌+◌, cond, eqb}
use Rattle.rules.specs.Nodes.{Node, NodeUnit, missing}

unfoldable pub moved_row : ℕ → ℕ → ℕ
moved_row k r = cond (eqb r missing) missing (r + k)

unfoldable pub moved : ℕ → Node → Node
moved k n =
    record {
      kind = n.kind;
      place = n.place + k;
      name = moved_row k n.name;
      children = n.children;
      fact0 = n.fact0;
      fact1 = cond (eqb n.kind NodeUnit) (moved_row k n.fact1) n.fact1;
      fact2 = n.fact2;
      fact3 = n.fact3;
    }
