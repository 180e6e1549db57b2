-- `spoonharbor_load_beside` meets its contract: the answer's words and the rows are those of the call's.
use mathlib.Core.Path.{ap, ◌∙◌}
use Rattle.file_answers.specs.Layout.{beside_words}
use borrow.Author.Rules.{rules}
use Rattle.spoonharbor.proofs.spoonharbor_load_beside.Statement.{statement}
use Rattle.spoonharbor.proofs.spoonharbor_load_beside.Tie as tie

load_beside_requires : tie.Need-load_beside-requires
load_beside_requires c κs = search rules

put_beside_requires : tie.Need-put_beside-requires
put_beside_requires c κs = search rules

same_length : tie.Need-shape_of-rows
same_length c = search rules

returns : tie.Need-returns
returns c =
    let m = c.before.before.before.load_beside.ensures in
    (c.put_beside.ensures ∙ ap beside_words m.0, m.1)

pub spoonharbor_load_beside_spec : {M : Type 1} → statement M
spoonharbor_load_beside_spec = tie.close (tie.spec load_beside_requires put_beside_requires same_length returns)
