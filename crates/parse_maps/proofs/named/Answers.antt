-- The two branches are the two cases.
use mathlib.Core.Path.{sym, ◌∙◌}
use Rattle.laws.proofs.Spelled.{same_says}
use Rattle.parse_maps.proofs.named.Goals as goal

pub returns-then-same : goal.returns-then-same
returns-then-same c = rw (sym (same_says _ _ _ c.same.ensures) ∙ c.if-same.true)

pub returns : goal.returns
returns c = rw (sym (same_says _ _ _ c.same.ensures) ∙ c.if-same.false)
