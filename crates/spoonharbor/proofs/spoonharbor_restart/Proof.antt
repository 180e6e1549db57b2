-- `spoonharbor_restart` meets its contract: the answer's words are those of the call's.
use mathlib.Core.Path.{ap, ◌∙◌}
use borrow.Author.Rules.{rules}
use Rattle.answers.specs.Layout.{restart_words}
use Rattle.spoonharbor.proofs.spoonharbor_restart.Statement.{statement}
use Rattle.spoonharbor.proofs.spoonharbor_restart.Tie as tie

table_of_requires : tie.Need-table_of-requires
table_of_requires c κs = search rules

restart_requires : tie.Need-restart-requires
restart_requires c κs = search rules

put_restart_requires : tie.Need-put_restart-requires
put_restart_requires c κs = search rules

returns : tie.Need-returns
returns c = rw (← c.before.before.table_of.ensures) (c.put_restart.ensures ∙ ap restart_words c.before.restart.ensures)

pub spoonharbor_restart_spec : {M : Type 1} → statement M
spoonharbor_restart_spec = tie.close (tie.spec table_of_requires restart_requires put_restart_requires returns)
