-- At the loop's head the declarations so far are read, and the rest gives the program.
use mathlib.Core.List.{List}
use Prim.Native.Nat.{ℕ, ◌-◌}
use Rattle.rules.specs.Parse
use Rattle.rules.specs.Kinds.{Eof}
use Rattle.rules.specs.Fits.{tops}
use Rattle.rules.specs.Tree.{Tok}
use Rattle.parse_nodes.specs.Names.{Names}
use Rattle.parse_nodes.specs.declared.At.{At}
use Rattle.parse_nodes.proofs.Steps.{Flat, Listing}
use Rattle.parse.proofs.program.Given as goal

-- the declarations that are read, up to Eof
abbrev pub Reading : List Tok → List ℕ → At → List ℕ → Type 0
Reading ts m s m' = Listing Flat ts Eof tops (Parse.top ts) (Parse.list_to ts Eof tops (Parse.top ts) 0) 0 0 m s m'

abbrev pub invariant-loop-at : goal.invariant-loop-at
invariant-loop-at l = (ts : List Tok) → Names ts l.text l.rows l.count → Reading ts l.initial.nodes l.s l.nodes

abbrev pub decreases-loop-at : goal.decreases-loop-at
decreases-loop-at l = l.count - l.s.row
