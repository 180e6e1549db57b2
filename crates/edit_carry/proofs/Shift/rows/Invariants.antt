-- The moved rows so far stand before what was there.
use Rattle.std.proofs.Common.{◌≡◌, ◌*◌, drop}
use Rattle.rules.specs.Edit.{carry_row}
use Rattle.edit_carry.proofs.Carried.{carried}
use Rattle.edit_carry.proofs.Shift.rows.Given as goal

abbrev pub invariant-loop-i : goal.invariant-loop-i
invariant-loop-i l =
    l.new ≡ carried l.comments (carry_row l.fn.self.from l.fn.self.to) (drop (8 * l.first) l.old) l.i l.initial.new
