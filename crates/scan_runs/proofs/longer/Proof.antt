-- `longer` meets its contract: a value of too many digits is clipped, any other is exact.
use mathlib.Core.Path.{sym}
use Prim.Native.Nat.{◌<◌}
use native.Mathlib.Omega.{arith}
use borrow.Author.Rules.{rules}
use Rattle.scan_runs.proofs.Runs.{clipped_least, clipped_most}
use Rattle.scan_runs.proofs.longer.Statement.{statement}
use Rattle.scan_runs.proofs.longer.Tie as tie

returns : tie.Need-returns-then-value-gt-MOST_BEFORE_HEX
returns c = rw c.before.if-hex.true (sym (clipped_most _ (omega arith)))

mul_result : tie.Need-overflow_mul-result
mul_result c = search rules

add_result : tie.Need-overflow_add-result
add_result c = search rules

returns_2 : tie.Need-returns-then-hex
returns_2 c =
    let s = c.before.before in
    let h : s.args.digit < 16 = rw c.before.if-hex.true at s.requires in
    rw c.before.if-hex.true (sym (clipped_least _ (omega arith)))

returns_3 : tie.Need-returns-then-value-gt-MOST_BEFORE_DECIMAL
returns_3 c = rw c.before.if-hex.false (sym (clipped_most _ (omega arith)))

mul_next : tie.Need-overflow_mul-next
mul_next c = search rules

add_next : tie.Need-overflow_add-next
add_next c = search rules

returns_4 : tie.Need-returns-then-next-gt-LARGEST
returns_4 c = rw c.before.before.if-hex.false (sym (clipped_most _ (omega arith)))

returns_5 : tie.Need-returns
returns_5 c = rw c.before.before.if-hex.false (sym (clipped_least _ (omega arith)))

pub longer_spec : {M : Type 1} → statement M
longer_spec =
    tie.close
    (tie.spec
    returns
    mul_result
    add_result
    returns_2
    returns_3
    mul_next
    add_next
    returns_4
    returns_5)
