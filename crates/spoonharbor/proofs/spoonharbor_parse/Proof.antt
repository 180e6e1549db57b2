-- `spoonharbor_parse` meets its contract: the answer's words and the nodes are those of the call's.
use mathlib.Core.Path.{ap, ◌∙◌}
use Rattle.answers.specs.Layout.{parsed_words}
use borrow.Author.Rules.{rules}
use Rattle.spoonharbor.proofs.spoonharbor_parse.Statement.{statement}
use Rattle.spoonharbor.proofs.spoonharbor_parse.Tie as tie

table_of_requires : tie.Need-table_of-requires
table_of_requires c κs = search rules

parse_requires : tie.Need-parse-requires
parse_requires c κs = search rules

put_parsed_requires : tie.Need-put_parsed-requires
put_parsed_requires c κs = search rules

same_length : tie.Need-shape_of-nodes
same_length c = search rules

returns : tie.Need-returns
returns c = rw (← c.before.before.before.before.before.table_of.ensures) (c.put_parsed.ensures ∙ ap parsed_words c.before.before.before.parse.ensures.0, c.before.before.before.parse.ensures.1)

pub spoonharbor_parse_spec : {M : Type 1} → statement M
spoonharbor_parse_spec =
    tie.close
    (tie.spec
    table_of_requires
    parse_requires
    put_parsed_requires
    same_length
    returns)
