-- The column moves on the line of the meeting row alone.
use Rattle.std.proofs.Common.{arith}
use Rattle.edit_carry.proofs.Carried.{carry_on, carry_off}
use Rattle.edit_carry.proofs.Shift.place.Goals as goal
use Rattle.edit_carry.proofs.Shift.place.Goals.{then-q-self, else-q-self}

pub returns : goal.returns
returns c =
    let o = c.args.self.from in
    let p = c.args.self.to in
    elim c.if-q-self.branch [
      | then-q-self w ↦ rw (c.moved.ensures, c.moved-2.ensures, w.column-is, w.moved-column.ensures) (carry_on o p c.args.q (omega (arith, w.if-q-self.true)))
      | else-q-self w ↦ rw (c.moved.ensures, c.moved-2.ensures, w.column-is) (carry_off o p c.args.q (λ e. omega (arith, e, w.if-q-self.false)))
    ]
