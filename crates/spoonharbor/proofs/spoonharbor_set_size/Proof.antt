-- `spoonharbor_set_size` meets its contract: the answer's words are those of the call's.
use mathlib.Core.Path.{ap, ◌∙◌}
use Rattle.answers.specs.Layout.{asked_words}
use borrow.Author.Rules.{rules}
use Rattle.spoonharbor.proofs.spoonharbor_set_size.Statement.{statement}
use Rattle.spoonharbor.proofs.spoonharbor_set_size.Tie as tie

set_size_requires : tie.Need-set_size-requires
set_size_requires c κs = search rules

put_asked_requires : tie.Need-put_asked-requires
put_asked_requires c κs = search rules

returns : tie.Need-returns
returns c = c.put_asked.ensures ∙ ap asked_words c.before.set_size.ensures

pub spoonharbor_set_size_spec : {M : Type 1} → statement M
spoonharbor_set_size_spec = tie.close (tie.spec set_size_requires put_asked_requires returns)
