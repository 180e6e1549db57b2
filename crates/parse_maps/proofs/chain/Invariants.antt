-- At the loop's head the sum has the bits of what is read, and the rest gives the chain.
use mathlib.Core.Path.{◌≡◌}
use mathlib.Core.List.{List}
use Prim.Native.Nat.{ℕ, ◌-◌}
use Rattle.rules.specs.Parse
use Rattle.rules.specs.Tree.{Tok, max_bits}
use Rattle.rules.specs.Parse.{kind_at, is_shift}
use Rattle.parse_nodes.specs.Post.{Tells}
use Rattle.parse_maps.specs.declared.Sum.{Sum}
use Rattle.parse_maps.proofs.Loops.{Loop}
use Rattle.parse_maps.proofs.chain.Given as goal

-- the number and the shifts so far, of the max whose number is at row i
abbrev pub Shifting : List Tok → ℕ → Sum → Type 0
Shifting ts i s = Loop (λ t. max_bits t ≡ s.bits) ts (λ r. is_shift (kind_at ts r)) (Parse.chain_step ts) (Parse.chain ts i) s.row

abbrev pub invariant-loop-s : goal.invariant-loop-s
invariant-loop-s l = (ts : List Tok) → Tells ts l.rows l.count → Shifting ts l.row l.s

abbrev pub decreases-loop-s : goal.decreases-loop-s
decreases-loop-s l = l.count - l.s.row
