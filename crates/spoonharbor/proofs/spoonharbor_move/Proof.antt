-- `spoonharbor_move` meets its contract: the answer's words and the moved file are those of the call's.
use mathlib.Core.Path.{ap, ◌∙◌}
use Rattle.file_answers.specs.Layout.{moved_words}
use borrow.Author.Rules.{rules}
use Rattle.spoonharbor.proofs.spoonharbor_move.Statement.{statement}
use Rattle.spoonharbor.proofs.spoonharbor_move.Tie as tie

move_file_requires : tie.Need-move_file-requires
move_file_requires c κs = search rules

put_moved_requires : tie.Need-put_moved-requires
put_moved_requires c κs = search rules

same_length : tie.Need-shape_of-moved
same_length c = search rules

returns : tie.Need-returns
returns c =
    let m = c.before.before.before.move_file.ensures in
    (c.put_moved.ensures ∙ ap moved_words m.0, m.1)

pub spoonharbor_move_spec : {M : Type 1} → statement M
spoonharbor_move_spec = tie.close (tie.spec move_file_requires put_moved_requires same_length returns)
