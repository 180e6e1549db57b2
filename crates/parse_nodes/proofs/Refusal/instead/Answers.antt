-- Another set, exactly where the first row itself is refused with 21.
use Rattle.std.proofs.Common.{ap, refl}
use borrow.Author.Tests.{eq-eqb, ne_eqb}
use Rattle.rules.specs.declared.Syntax.{Syntax}
use Rattle.parse_nodes.specs.Post.{refusal}
use Rattle.parse_nodes.specs.Fitting.{retold_at}
use Rattle.parse_nodes.proofs.Refusal.instead.Goals as goal

pub returns-then-self-first : goal.returns-then-self-first
unfolding retold_at
returns-then-self-first c = rw (ne_eqb c.args.self.row c.args.first c.if-self-first.true) refl

pub returns : goal.returns
unfolding retold_at
returns c = rw (eq-eqb c.args.self.row c.args.first c.if-self-first.false) (ap (λ (w : Syntax). refusal w c.args.self.row) c.retold.ensures)
