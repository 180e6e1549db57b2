-- `spoonharbor_scan` meets its contract: the answer's words and the rows are those of the call's.
use mathlib.Core.Path.{ap, ◌∙◌}
use Rattle.answers.specs.Layout.{told_words}
use borrow.Author.Rules.{rules}
use Rattle.spoonharbor.proofs.spoonharbor_scan.Statement.{statement}
use Rattle.spoonharbor.proofs.spoonharbor_scan.Tie as tie

scan_requires : tie.Need-scan-requires
scan_requires c κs = search rules

put_told_requires : tie.Need-put_told-requires
put_told_requires c κs = search rules

same_length : tie.Need-shape_of-rows
same_length c = search rules

returns : tie.Need-returns
returns c = (c.put_told.ensures ∙ ap told_words c.before.before.before.scan.ensures.0, c.before.before.before.scan.ensures.1)

pub spoonharbor_scan_spec : {M : Type 1} → statement M
spoonharbor_scan_spec = tie.close (tie.spec scan_requires put_told_requires same_length returns)
