-- The things of the last node.
use Rattle.layout_tree.proofs.Braces.{no_program, program_done}
use Rattle.layout_tree.proofs.program.Goals as goal

pub returns-then-count-eq0 : goal.returns-then-count-eq0
returns-then-count-eq0 c = record { done = λ p. absurd (no_program c.if-count-eq0.true p) }

pub returns : goal.returns
returns c = record { done = λ p. program_done c.word-children.ensures c.things.ensures p }
