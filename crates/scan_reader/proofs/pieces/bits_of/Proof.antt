-- `pieces::bits_of` meets its contract: two's complement, by cases.
use native.Mathlib.Omega.{arith}
use borrow.Author.Rules.{rules}
use Rattle.rules.specs.Rows.{bits_of}
use Rattle.scan_reader.proofs.pieces.bits_of.Statement.{statement}
use Rattle.scan_reader.proofs.pieces.bits_of.Tie as tie

returns : tie.Need-returns-then-value-eq0
unfolding bits_of
returns c = rw (c.before.if-negative.true, c.if-value-eq0.true)

sub_result : tie.Need-overflow_sub-result
sub_result c = search rules

add_result : tie.Need-overflow_add-result
add_result c = search rules

returns_2 : tie.Need-returns-then-negative
unfolding bits_of
returns_2 c = rw c.before.if-negative.true (omega arith)

returns_3 : tie.Need-returns
unfolding bits_of
returns_3 c = rw c.if-negative.false

pub bits_of_spec : {M : Type 1} → statement M
bits_of_spec = tie.close (tie.spec returns sub_result add_result returns_2 returns_3)
