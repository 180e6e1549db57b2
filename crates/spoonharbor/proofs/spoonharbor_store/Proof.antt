-- `spoonharbor_store` meets its contract: the answer's words and the file are those of the call's, on the table that the words tell.
use mathlib.Core.Path.{ap, ◌∙◌}
use Rattle.file_answers.specs.Layout.{stored_words}
use borrow.Author.Rules.{rules}
use Rattle.spoonharbor.proofs.spoonharbor_store.Statement.{statement}
use Rattle.spoonharbor.proofs.spoonharbor_store.Tie as tie

table_of_requires : tie.Need-table_of-requires
table_of_requires c κs = search rules

store_requires : tie.Need-store-requires
store_requires c κs = search rules

put_stored_requires : tie.Need-put_stored-requires
put_stored_requires c κs = search rules

same_length : tie.Need-shape_of-file
same_length c = search rules

returns : tie.Need-returns
returns c =
    let s = c.before.before.before in
    let t = s.before.before in
    rw (← t.table_of.ensures) (c.put_stored.ensures ∙ ap stored_words s.store.ensures.0, s.store.ensures.1)

pub spoonharbor_store_spec : {M : Type 1} → statement M
spoonharbor_store_spec =
    tie.close (tie.spec table_of_requires store_requires put_stored_requires same_length returns)
