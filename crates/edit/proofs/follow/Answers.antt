-- Old rows are moved and laid, as far as there is room.
use Rattle.std.proofs.Common.{◌≡◌, ap, ◌∙◌}
use Rattle.rules.specs.declared.Cursor.{Cursor}
use Rattle.rules.specs.Rows.{row_place}
use Rattle.rules.specs.Edit.{carry_ending}
use Rattle.rows.specs.Shape.{row_no}
use Rattle.edit.specs.Job.{ending_behind}
use Rattle.edit.proofs.Tails.{follow_full, follow_all}
use Rattle.edit.proofs.follow.Goals as goal

pub returns-then-room-left : goal.returns-then-room-left
returns-then-room-left c =
    let a = c.args in
    let home : c.place.result ≡ row_place (row_no a.old.now a.row) = c.place.ensures ∙ ap row_place c.at.ensures in
    follow_full a.old.now a.table a.row a.p a.comments a.tail.now c.if-room-left.true c.rows.new.new (rw home at c.rows.ensures)

pub returns : goal.returns
unfolding ending_behind
returns c =
    let a = c.args in
    let home : c.place.result ≡ row_place (row_no a.old.now a.row) = c.place.ensures ∙ ap row_place c.at.ensures in
    follow_all a.old.now a.table a.row a.p a.comments a.tail.now c.if-room-left.false c.rows-2.new.new (rw home at c.rows-2.ensures)
    c.ending.result (c.ending.ensures ∙ ap (λ (z : Cursor). carry_ending z a.p a.table.ending) home)
