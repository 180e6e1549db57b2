-- At the loop's head the maps, units and events so far are passed.
use mathlib.Core.Path.{◌≡◌}
use mathlib.Core.List.{List}
use Prim.Native.Nat.{◌-◌}
use lib.ListN.{length}
use Rattle.rules.specs.Tree.{Tok}
use Rattle.theory_grammar.specs.Tokens.{Proper}
use Rattle.parse_nodes.specs.Names.{Names}
use Rattle.parse.proofs.Passing.{Passing}
use Rattle.parse.proofs.program_passed.Given as goal

abbrev pub invariant-loop-from : goal.invariant-loop-from
invariant-loop-from l = ((ts : List Tok) → Names ts l.text l.rows l.count → Proper ts → Passing ts l.at) × (length l.none ≡ 0)

abbrev pub decreases-loop-from : goal.decreases-loop-from
decreases-loop-from l = l.count - l.at
