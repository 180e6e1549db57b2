-- Where no byte is 128 or more it is all; else bytes below 128 and characters are passed.
use Rattle.std.proofs.Common.{sym, ◌+◌, arith}
use Rattle.laws.proofs.Valid.{all_low}
use Rattle.scan_place.specs.Passed.{Passed}
use Rattle.scan_place.proofs.Passed.{passed_on, passed_low, passed_char, told_none, told_end}
use Rattle.scan_place.proofs.valid_bytes.Goals as goal
use Rattle.scan_place.proofs.valid_bytes.Goals.{In-Some}

pub returns-then-highest-lt-FIRST_HIGH : goal.returns-then-highest-lt-FIRST_HIGH
returns-then-highest-lt-FIRST_HIGH c = sym (all_low c.args.text.now (λ k l. omega (arith, c.highest.ensures k l)))

pub loop-i-preserved-then-text-i-lt-FIRST_HIGH : goal.loop-i-preserved-then-text-i-lt-FIRST_HIGH
loop-i-preserved-then-text-i-lt-FIRST_HIGH c =
    let t = c.args.text.now in
    passed_on t c.loop-i.invariant
    (passed_on t (passed_low t c.loop-i.i (omega arith) c.if-text-i-lt-FIRST_HIGH.true) c.low_end-i.ensures)

pub returns-in_default : goal.returns-in_default
returns-in_default c = told_none c.args.text.now c.loop-i.invariant c.in_default.ensures

-- the character that stands at the index
passed : (c : In-Some) → Passed c.args.text.now c.loop-i.i (c.loop-i.i + c.in-Some.n)
passed c = passed_char c.args.text.now c.loop-i.i c.in-Some.n (omega arith) c.in-Some.ensures.0 c.in-Some.ensures.1

pub overflow_add-i-else-text-i-lt-FIRST_HIGH : goal.overflow_add-i-else-text-i-lt-FIRST_HIGH
overflow_add-i-else-text-i-lt-FIRST_HIGH c = let p : Passed _ _ _ = passed c in omega (arith, p.inside)

pub loop-i-preserved : goal.loop-i-preserved
loop-i-preserved c = passed_on c.args.text.now c.loop-i.invariant (passed c)

pub returns : goal.returns
returns c = told_end c.args.text.now c.loop-i.invariant c.loop-i-test.false
