-- `allows` meets its contract: a bit of the mask is the membership that the set says.
use Prim.Native.Nat.{◌^◌}
use Rattle.std.specs.declared.result.Result.TheVariants.{Ok}
use mathlib.Core.Path.{ap}
use native.Mathlib.Omega.{arith}
use borrow.Author.Tests.{le-leb, lt-leb}
use Rattle.rules.specs.Calls.{member_asked}
use Rattle.methods.proofs.Masks.{mask_bit, mask_part}
use borrow.Author.Rules.{rules}
use Rattle.methods.proofs.allows.Statement.{statement}
use Rattle.methods.proofs.allows.Tie as tie

returns : tie.Need-returns-then-kind-gt-LAST_KIND
unfolding member_asked
returns c = rw (lt-leb c.before.args.kind 10 c.if-kind-gt-LAST_KIND.true)

returns_2 : tie.Need-returns-then-method-gt-LAST_METHOD
unfolding member_asked
returns_2 c = rw (le-leb c.before.before.args.kind 10 c.before.if-kind-gt-LAST_KIND.false, lt-leb c.before.before.args.method 15 c.if-method-gt-LAST_METHOD.true)

mul_mask : tie.Need-offset_bounds-kind
mul_mask c = search rules

array_read_mask : tie.Need-bounds-kind
array_read_mask c = search rules

cast_t12 : tie.Need-overflow_cast-result
cast_t12 c = search rules

shr_t13 : tie.Need-overflow_shr-result
shr_t13 c = search rules

cast_t14 : tie.Need-overflow_cast-result-2
cast_t14 c = omega (arith, mask_part c.before.before.args.kind (omega arith) (2 ^ c.before.before.args.method))

returns_3 : tie.Need-returns
unfolding member_asked
returns_3 c =
    let a = c.before.before.args in
    rw (le-leb a.kind 10 c.before.if-kind-gt-LAST_KIND.false, le-leb a.method 15 c.if-method-gt-LAST_METHOD.false)
    (ap Ok (mask_bit a.kind (omega arith) a.method (omega arith)))

pub allows_spec : {M : Type 1} → statement M
allows_spec =
    tie.close
    (tie.spec returns returns_2 mul_mask array_read_mask cast_t12 shr_t13 cast_t14 returns_3)
