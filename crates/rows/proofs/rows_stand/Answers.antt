-- Each row of a pair stands just where `stands_on` says so of it and the row before it.
use Rattle.std.proofs.Common.{◌≡◌, ◌+◌, ◌*◌, ◌-◌, ◌%◌, ℕ, Bool, true, sym, refl, ◌∙◌, add-one, arith, eq-eqb}
use mathlib.Core.Bool.{and-true}
use Rattle.laws.specs.Tests.{all_below}
use Rattle.rows.specs.Shape.{as_row, stands}
use Rattle.laws.proofs.Tests.{below_one, below_not}
use Rattle.rows.proofs.Tables.{before_first, before_on, stands_next}
use Rattle.rows.proofs.rows_stand.Goals as goal

-- where all numbers below i pass, the last below i + 1 tells of them all
below_last : (f : ℕ → Bool) (i n : ℕ) → n ≡ i + 1 → all_below f i ≡ true → f i ≡ all_below f n
below_last f i n e h = rw (e, add-one, h) (sym (and-true (f i)))

pub loop-pair-init : goal.loop-pair-init
loop-pair-init c = record { passed = refl; before = c.none-last.ensures ∙ sym (before_first c.args.rows.now 0 refl) }

pub returns-then-not-stands_on : goal.returns-then-not-stands_on
returns-then-not-stands_on c =
    let ws = c.args.rows.now in
    let i = 2 * c.loop-pair.pair in
    let first = stands_next ws i (as_row c.at-r.result) c.at-r.ensures (as_row c.loop-pair.last) c.loop-pair.invariant.before in
    sym (below_not (stands ws) c.args.n i (omega arith) (sym first ∙ sym c.stands_on.ensures ∙ c.if-not-stands_on.true))

pub returns-then-not-stands_on-2 : goal.returns-then-not-stands_on-2
returns-then-not-stands_on-2 c =
    let ws = c.args.rows.now in
    let i = 2 * c.loop-pair.pair in
    let second = stands_next ws (i + 1) (as_row c.at-q.result) c.at-q.ensures (as_row c.at-r.result) (c.at-r.ensures ∙ sym (before_on ws i)) in
    sym (below_not (stands ws) c.args.n (i + 1) (omega arith) (sym second ∙ sym c.stands_on-in-loop-pair.ensures ∙ c.if-not-stands_on-2.true))

pub loop-pair-preserved : goal.loop-pair-preserved
loop-pair-preserved c =
    let ws = c.args.rows.now in
    let i = 2 * c.loop-pair.pair in
    let first = stands_next ws i (as_row c.at-r.result) c.at-r.ensures (as_row c.loop-pair.last) c.loop-pair.invariant.before in
    let second = stands_next ws (i + 1) (as_row c.at-q.result) c.at-q.ensures (as_row c.at-r.result) (c.at-r.ensures ∙ sym (before_on ws i)) in
    let one = below_one (stands ws) i c.loop-pair.invariant.passed (sym first ∙ sym c.stands_on.ensures ∙ c.if-not-stands_on.false) in
    let both = below_one (stands ws) (i + 1) one (sym second ∙ sym c.stands_on-in-loop-pair.ensures ∙ c.if-not-stands_on-2.false) in
    let next : 2 * (c.loop-pair.pair + 1) ≡ i + 1 + 1 = omega arith in
    record { passed = rw next both; before = rw next (c.at-q.ensures ∙ sym (before_on ws (i + 1))) }

pub returns-then-n-eq0 : goal.returns-then-n-eq0
returns-then-n-eq0 c =
    let e : 2 * c.loop-pair.pair ≡ c.args.n = omega arith in
    eq-eqb (c.args.n % 2) 0 c.if-n-eq0.true ∙ sym (rw e at c.loop-pair.invariant.passed)

pub returns-else-n-eq0 : goal.returns-else-n-eq0
returns-else-n-eq0 c =
    let ws = c.args.rows.now in
    let i = c.args.n - 1 in
    let e : 2 * c.loop-pair.pair ≡ i = omega arith in
    let last = stands_next ws i (as_row c.at.result) c.at.ensures (as_row c.loop-pair.last) (rw e at c.loop-pair.invariant.before) in
    let whole : c.args.n ≡ i + 1 = omega arith in
    c.stands_on-else-n-eq0.ensures ∙ last ∙ below_last (stands ws) i c.args.n whole (rw e at c.loop-pair.invariant.passed)
