-- At the loop's head the facts are those of the fields so far, and the rest gives the list.
use mathlib.Core.Bool.{not}
use mathlib.Core.List.{List}
use Prim.Native.Nat.{ℕ, ◌-◌}
use lib.Dec.{eqb}
use Rattle.rules.specs.Parse
use Rattle.rules.specs.Kinds.{RBrace}
use Rattle.rules.specs.Fits.{map_fields}
use Rattle.rules.specs.Tree.{Tok}
use Rattle.rules.specs.Parse.{kind_at}
use Rattle.parse_nodes.specs.Names.{Names}
use Rattle.parse_maps.specs.Steps.{listed}
use Rattle.parse_maps.specs.declared.Facts.{Facts}
use Rattle.parse_maps.proofs.Loops.{Loop}
use Rattle.parse_maps.proofs.Listed.{Holds}
use Rattle.parse_maps.proofs.fields.Given as goal

-- the fields that are read from row i on, up to the brace, and what they give
abbrev pub Reading : List Tok → ℕ → Facts → Type 0
Reading ts i f =
    Loop (Holds f) ts (λ r. not (eqb (kind_at ts r) RBrace)) (Parse.list_step ts map_fields (Parse.map_field ts)) (listed ts i) f.row

abbrev pub invariant-loop-at : goal.invariant-loop-at
invariant-loop-at l = (ts : List Tok) → Names ts l.text l.rows l.count → Reading ts l.row l.f

abbrev pub decreases-loop-at : goal.decreases-loop-at
decreases-loop-at l = l.count - l.f.row
