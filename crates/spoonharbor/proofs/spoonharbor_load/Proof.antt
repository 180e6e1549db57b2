-- `spoonharbor_load` meets its contract: the answer's words and the rows are those of the call's.
use mathlib.Core.Path.{ap, ◌∙◌}
use Rattle.file_answers.specs.Layout.{loaded_words}
use borrow.Author.Rules.{rules}
use Rattle.spoonharbor.proofs.spoonharbor_load.Statement.{statement}
use Rattle.spoonharbor.proofs.spoonharbor_load.Tie as tie

load_requires : tie.Need-load-requires
load_requires c κs = search rules

put_loaded_requires : tie.Need-put_loaded-requires
put_loaded_requires c κs = search rules

same_length : tie.Need-shape_of-rows
same_length c = search rules

returns : tie.Need-returns
returns c = (c.put_loaded.ensures ∙ ap loaded_words c.before.before.before.load.ensures.0, c.before.before.before.load.ensures.1)

pub spoonharbor_load_spec : {M : Type 1} → statement M
spoonharbor_load_spec = tie.close (tie.spec load_requires put_loaded_requires same_length returns)
