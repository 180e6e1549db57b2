-- `layouts::spoonharbor_layout` meets its contract: the answer's words, the room and the scratch are those of the call's.
use mathlib.Core.Path.{ap, ◌∙◌}
use Rattle.layout_answers.specs.Words.{laid_words}
use borrow.Author.Rules.{rules}
use Rattle.spoonharbor.proofs.layouts.spoonharbor_layout.Statement.{statement}
use Rattle.spoonharbor.proofs.layouts.spoonharbor_layout.Tie as tie

table_of_requires : tie.Need-table_of-requires
table_of_requires c κs = search rules

lay_out_requires : tie.Need-lay_out-requires
lay_out_requires c κs = search rules

put_laid_requires : tie.Need-put_laid-requires
put_laid_requires c κs = search rules

same_length : tie.Need-shape_of-room
same_length c = search rules

returns : tie.Need-returns
returns c =
    let k = c.before.before.before in
    let l = k.lay_out.ensures in
    rw (← k.before.before.before.table_of.ensures) (c.put_laid.ensures ∙ ap laid_words l.0, (l.1.0, l.1.1))

pub spoonharbor_layout_spec : {M : Type 1} → statement M
spoonharbor_layout_spec =
    tie.close
    (tie.spec
    table_of_requires
    lay_out_requires
    put_laid_requires
    same_length
    returns)
