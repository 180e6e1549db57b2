-- `set_size` meets its contract: the ones of the mask are as many as the set has methods.
use native.Mathlib.Omega.{arith}
use borrow.Author.Tests.{le-leb, lt-leb}
use Rattle.rules.specs.Calls.{size_asked}
use Rattle.methods.proofs.Masks.{mask_ones}
use borrow.Author.Rules.{rules}
use Rattle.methods.proofs.set_size.Statement.{statement}
use Rattle.methods.proofs.set_size.Tie as tie

returns : tie.Need-returns-then-kind-gt-LAST_KIND
unfolding size_asked
returns c = rw (lt-leb c.before.args.kind 10 c.if-kind-gt-LAST_KIND.true)

mul_mask : tie.Need-offset_bounds-kind
mul_mask c = search rules

array_read_mask : tie.Need-bounds-kind
array_read_mask c = search rules

returns_2 : tie.Need-returns
unfolding size_asked
returns_2 c = rw (le-leb c.before.args.kind 10 c.if-kind-gt-LAST_KIND.false, mask_ones c.before.args.kind (omega arith))

pub set_size_spec : {M : Type 1} → statement M
set_size_spec = tie.close (tie.spec returns mul_mask array_read_mask returns_2)
