-- Each range is a case of what a hex digit is worth, and a byte of none is worth no less than the base.
use Rattle.std.proofs.Common.{◌≡◌, refl, ℕ, ◌-◌, ◌≤◌, arith}
use borrow.Author.Tests.{le-leb, lt-leb}
use Rattle.rules.specs.Lex.{is_digit, is_hex_digit, digit_value}
use Rattle.scan_runs.specs.Leaf.{digit_of}
use Rattle.scan_runs.proofs.Runs.{base_most, base_least}
use Rattle.scan_runs.proofs.digit_of.Goals as goal

upper : (b : ℕ) → 65 ≤ b → b ≤ 70 → digit_of b ≡ b - 55
unfolding digit_of is_digit is_hex_digit digit_value
upper b h k = simp (lt-leb b 57 (omega arith), le-leb 48 b (omega arith), le-leb 65 b (omega arith), le-leb b 70 (omega arith))

lower : (b : ℕ) → 97 ≤ b → b ≤ 102 → digit_of b ≡ b - 87
unfolding digit_of is_digit is_hex_digit digit_value
lower b h k =
    simp (lt-leb b 57 (omega arith), le-leb 48 b (omega arith), le-leb 65 b (omega arith), lt-leb b 70 (omega arith), le-leb 97 b (omega arith), le-leb b 102 (omega arith))

pub returns-in-48-to-57 : goal.returns-in-48-to-57
unfolding digit_of is_digit is_hex_digit digit_value
returns-in-48-to-57 c =
    let b = c.args.b in
    (simp (le-leb 48 b (omega arith), le-leb b 57 (omega arith)), omega (arith, base_least c.args.hex))

pub returns-in-65-to-70 : goal.returns-in-65-to-70
returns-in-65-to-70 c = rw (upper c.args.b (omega arith) (omega arith), c.if-hex.true) (refl, omega arith)

pub returns-in-97-to-102 : goal.returns-in-97-to-102
returns-in-97-to-102 c = rw (lower c.args.b (omega arith) (omega arith), c.if-hex-2.true) (refl, omega arith)

pub returns-in_default : goal.returns-in_default
unfolding digit_of is_digit is_hex_digit digit_value
returns-in_default c =
    let b = c.args.b in
    simp (lt-leb 48 b (omega arith), lt-leb 65 b (omega arith), lt-leb 97 b (omega arith)) (base_most c.args.hex)

pub returns-in_default-2 : goal.returns-in_default-2
unfolding digit_of is_digit is_hex_digit digit_value
returns-in_default-2 c =
    let b = c.args.b in
    simp (lt-leb b 57 (omega arith), lt-leb 65 b (omega arith), lt-leb 97 b (omega arith), le-leb 48 b (omega arith)) (base_most c.args.hex)

pub returns-in_default-3 : goal.returns-in_default-3
returns-in_default-3 c = rw (upper c.args.b (omega arith) (omega arith), c.if-hex.false) (omega arith)

pub returns-in_default-4 : goal.returns-in_default-4
unfolding digit_of is_digit is_hex_digit digit_value
returns-in_default-4 c =
    let b = c.args.b in
    simp (lt-leb b 57 (omega arith), le-leb 48 b (omega arith), le-leb 65 b (omega arith), lt-leb b 70 (omega arith), lt-leb 97 b (omega arith)) (base_most c.args.hex)

pub returns-in_default-5 : goal.returns-in_default-5
returns-in_default-5 c = rw (lower c.args.b (omega arith) (omega arith), c.if-hex-2.false) (omega arith)

pub returns-in_default-6 : goal.returns-in_default-6
unfolding digit_of is_digit is_hex_digit digit_value
returns-in_default-6 c =
    let b = c.args.b in
    simp (lt-leb b 57 (omega arith), le-leb 48 b (omega arith), le-leb 65 b (omega arith), lt-leb b 70 (omega arith), le-leb 97 b (omega arith), lt-leb b 102 (omega arith)) (base_most c.args.hex)
