-- `move_file` meets its contract: a move to each form, and 44 of any other.
use mathlib.Core.Path.{sym}
use lib.ListN.{length}
use borrow.Author.Rules.{rules}
use Rattle.theory_forms.proofs.Moves.{move_untouched}
use Rattle.file_move.proofs.Answers.{told_form}
use Rattle.file_move.proofs.move_file.Statement.{statement}
use Rattle.file_move.proofs.move_file.Tie as tie

-- the function's entry, as it is seen from behind the first test
abbrev start : tie.Else-number-eq-NUMBER → tie.Start
start c = c.before.before.before.before

move_to_requires : tie.Need-move_to-requires
move_to_requires c κs = search rules

same_length : tie.Need-shape_of-moved-then-number-eq-NUMBER
same_length c = search rules

returns : tie.Need-returns-then-number-eq-NUMBER
returns c =
    let m = c.before.before in
    rw m.before.before.if-number-eq-NUMBER.true m.move_to.ensures

move_to_requires_2 : tie.Need-move_to-requires-then-number-eq-NUMBER-2
move_to_requires_2 c κs = search rules

same_length_2 : tie.Need-shape_of-moved-then-number-eq-NUMBER-2
same_length_2 c = search rules

returns_2 : tie.Need-returns-then-number-eq-NUMBER-2
returns_2 c =
    let m = c.before.before in
    rw m.before.before.if-number-eq-NUMBER-2.true m.move_to-then-number-eq-NUMBER-2.ensures

returns_3 : tie.Need-returns
returns_3 c =
    let a = (start c.before).args in
    let t = told_form a.number a.text.now a.file.now (length a.moved.now) c.before.if-number-eq-NUMBER.false c.if-number-eq-NUMBER-2.false in
    (sym t, sym (move_untouched a.text.now a.file.now a.number a.moved.now _ t))

pub move_file_spec : {M : Type 1} → statement M
move_file_spec =
    tie.close
    (tie.spec
    move_to_requires
    same_length
    returns
    move_to_requires_2
    same_length_2
    returns_2
    returns_3)
