-- `change::spoonharbor_change` meets its contract: the answer's words and the new table are those of the call's.
use mathlib.Core.Path.{ap, ◌∙◌}
use Rattle.answers.specs.Layout.{told_words}
use borrow.Author.Rules.{rules}
use Rattle.spoonharbor.proofs.change.spoonharbor_change.Statement.{statement}
use Rattle.spoonharbor.proofs.change.spoonharbor_change.Tie as tie

table_of_requires : tie.Need-table_of-requires
table_of_requires c κs = search rules

change_requires : tie.Need-change-requires
change_requires c κs = search rules

put_told_requires : tie.Need-put_told-requires
put_told_requires c κs = search rules

same_length : tie.Need-shape_of-new
same_length c = search rules

returns : tie.Need-returns
returns c =
    let k = c.before.before.before in
    rw (← k.before.before.table_of.ensures) (c.put_told.ensures ∙ ap told_words k.change.ensures.0, k.change.ensures.1)

pub spoonharbor_change_spec : {M : Type 1} → statement M
spoonharbor_change_spec =
    tie.close
    (tie.spec
    table_of_requires
    change_requires
    put_told_requires
    same_length
    returns)
