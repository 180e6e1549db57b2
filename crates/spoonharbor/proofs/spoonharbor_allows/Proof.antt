-- `spoonharbor_allows` meets its contract: the answer's words are those of the call's.
use mathlib.Core.Path.{ap, ◌∙◌}
use Rattle.answers.specs.Layout.{asked_words}
use borrow.Author.Rules.{rules}
use Rattle.spoonharbor.proofs.spoonharbor_allows.Statement.{statement}
use Rattle.spoonharbor.proofs.spoonharbor_allows.Tie as tie

allows_requires : tie.Need-allows-requires
allows_requires c κs = search rules

put_asked_requires : tie.Need-put_asked-requires
put_asked_requires c κs = search rules

returns : tie.Need-returns
returns c = c.put_asked.ensures ∙ ap asked_words c.before.allows.ensures

pub spoonharbor_allows_spec : {M : Type 1} → statement M
spoonharbor_allows_spec = tie.close (tie.spec allows_requires put_asked_requires returns)
