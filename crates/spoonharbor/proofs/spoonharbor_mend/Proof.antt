-- `spoonharbor_mend` meets its contract: the answer's words and the file and the list are those of the call's.
use mathlib.Core.Path.{ap, ◌∙◌}
use Rattle.file_answers.specs.Layout.{mended_words}
use borrow.Author.Rules.{rules}
use Rattle.spoonharbor.proofs.spoonharbor_mend.Statement.{statement}
use Rattle.spoonharbor.proofs.spoonharbor_mend.Tie as tie

mend_requires : tie.Need-mend-requires
mend_requires c κs = search rules

put_mended_requires : tie.Need-put_mended-requires
put_mended_requires c κs = search rules

same_length : tie.Need-shape_of-file
same_length c = search rules

same_length_2 : tie.Need-shape_of-blocks
same_length_2 c = search rules

returns : tie.Need-returns
returns c =
    let lent = c.before.before.before in
    let m = lent.before.before.mend.ensures in
    (c.put_mended.ensures ∙ ap mended_words m.0, m.1)

pub spoonharbor_mend_spec : {M : Type 1} → statement M
spoonharbor_mend_spec = tie.close (tie.spec mend_requires put_mended_requires same_length same_length_2 returns)
