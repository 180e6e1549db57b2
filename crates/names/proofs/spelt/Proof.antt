-- `spelt` meets its contract: the two branches are the two cases.
use mathlib.Core.Path.{sym, ◌∙◌}
use Rattle.laws.proofs.Spelled.{same_says}
use borrow.Author.Rules.{rules}
use Rattle.names.proofs.spelt.Statement.{statement}
use Rattle.names.proofs.spelt.Tie as tie

same_requires : tie.Need-same-requires
same_requires c κs = search rules

returns : tie.Need-returns-then-same
returns c = rw (sym (same_says _ _ _ c.before.same.ensures) ∙ c.if-same.true)

returns_2 : tie.Need-returns
returns_2 c = rw (sym (same_says _ _ _ c.before.same.ensures) ∙ c.if-same.false)

pub spelt_spec : {M : Type 1} → statement M
spelt_spec = tie.close (tie.spec same_requires returns returns_2)
