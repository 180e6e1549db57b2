-- A kind over Eof is not made.
use Rattle.std.proofs.Common.{sym, ◌∙◌, le-ltb}
use Rattle.rows.specs.Shape.{as_row}
use Rattle.rows.proofs.Shapes.{stands_on_out, stands_on_plain}
use Rattle.rows.proofs.shape.Row.stands_on.Goals as goal

pub returns-then-self-lt-EOF : goal.returns-then-self-lt-EOF
returns-then-self-lt-EOF c = c.fits_behind.ensures ∙ stands_on_plain (as_row c.args.r) (as_row c.args.self) c.if-self-lt-EOF.true

pub returns-else-self-lt-EOF : goal.returns-else-self-lt-EOF
returns-else-self-lt-EOF c =
    le-ltb c.args.self.kind 52 c.if-self-lt-EOF.false ∙ sym (stands_on_out (as_row c.args.r) (as_row c.args.self) c.if-self-lt-EOF.false)
