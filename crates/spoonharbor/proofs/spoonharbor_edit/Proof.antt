-- `spoonharbor_edit` meets its contract: the answer's words and the new table are those of the call's.
use mathlib.Core.Path.{ap, ◌∙◌}
use Rattle.answers.specs.Layout.{told_words}
use borrow.Author.Rules.{rules}
use Rattle.spoonharbor.proofs.spoonharbor_edit.Statement.{statement}
use Rattle.spoonharbor.proofs.spoonharbor_edit.Tie as tie

table_of_requires : tie.Need-table_of-requires
table_of_requires c κs = search rules

edit_requires : tie.Need-edit-requires
edit_requires c κs = search rules

put_told_requires : tie.Need-put_told-requires
put_told_requires c κs = search rules

same_length : tie.Need-shape_of-new
same_length c = search rules

returns : tie.Need-returns
returns c = rw (← c.before.before.before.before.before.table_of.ensures) (c.put_told.ensures ∙ ap told_words c.before.before.before.edit.ensures.0, c.before.before.before.edit.ensures.1)

pub spoonharbor_edit_spec : {M : Type 1} → statement M
spoonharbor_edit_spec =
    tie.close
    (tie.spec
    table_of_requires
    edit_requires
    put_told_requires
    same_length
    returns)
