-- `spoonharbor_well_formed` meets its contract: the two tests are the definition's.
use borrow.Author.Rules.{rules}
use Rattle.spoonharbor.proofs.spoonharbor_well_formed.Statement.{statement}
use Rattle.spoonharbor.proofs.spoonharbor_well_formed.Tie as tie

table_of_requires : tie.Need-table_of-requires
table_of_requires c κs = search rules

well_formed_requires : tie.Need-well_formed-requires
well_formed_requires c κs = search rules

returns : tie.Need-returns-then-well_formed
returns c = rw (← c.before.before.table_of.ensures, ← c.before.well_formed-2.ensures, c.if-well_formed.true)

returns_2 : tie.Need-returns-else-well_formed
returns_2 c = rw (← c.before.before.table_of.ensures, ← c.before.well_formed-2.ensures, c.if-well_formed.false)

pub spoonharbor_well_formed_spec : {M : Type 1} → statement M
spoonharbor_well_formed_spec =
    tie.close
    (tie.spec
    table_of_requires
    well_formed_requires
    returns
    returns_2)
