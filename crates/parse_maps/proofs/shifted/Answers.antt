-- A shift of 64 bits that drops the high ones, or keeps the sign.
use Prim.Native.Nat.{◌^◌}
use borrow.Author.Tests.{eq-eqb, ne_eqb, lt-ltb, le-ltb}
use Rattle.rules.specs.Kinds.{Shl}
use Rattle.rules.specs.Tree.{shift_bits, shift_right}
use Rattle.parse_maps.proofs.shifted.Goals as goal

pub returns-then-kind-eq-SHL : goal.returns-then-kind-eq-SHL
unfolding shift_bits
returns-then-kind-eq-SHL c = rw (eq-eqb c.args.kind Shl c.if-kind-eq-SHL.true)

pub returns-then-x-lt-SIGN_BIT : goal.returns-then-x-lt-SIGN_BIT
unfolding shift_bits shift_right
returns-then-x-lt-SIGN_BIT c =
    rw (ne_eqb c.args.kind Shl c.if-kind-eq-SHL.false, lt-ltb c.args.x (2 ^ 63) c.if-x-lt-SIGN_BIT.true)

pub returns : goal.returns
unfolding shift_bits shift_right
returns c = rw (ne_eqb c.args.kind Shl c.if-kind-eq-SHL.false, le-ltb c.args.x (2 ^ 63) c.if-x-lt-SIGN_BIT.false)
