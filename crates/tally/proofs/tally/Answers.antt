-- Behind i nodes the tally is theirs (`Going`), and behind all of them it is told.
use Rattle.std.proofs.Common.{◌≡◌, ◌+◌, ◌*◌, ◌<◌, ◌≤◌, length, true, false, eqb, get_or, ap, Ok, arith}
use borrow.Author.Tests.{le-leb, lt-leb}
use Rattle.rules.specs.Nodes.{NodeUnit, NodeMap, NodeEvent}
use Rattle.rules_tally.specs.Tally.{is_statement}
use Rattle.rules_tally.specs.Calls.{most_nodes, is_countable, tallied}
use Rattle.tally.proofs.Going.{going_start, going_unit, going_map, going_other, unit_fits, map_fits, one_at_most, events_few, statements_few, uncountable, kind_word, fact_word}
use Rattle.tally.proofs.tally.Goals as goal
use Rattle.tally.proofs.tally.Goals.{then-count-gt-MOST_NODES-via-then-count-gt-MOST_NODES, then-count-gt-MOST_NODES-via-else-count-gt-MOST_NODES+then-nodes-n, in-25, in-28, in_default}

pub returns-then-count-gt-MOST_NODES : goal.returns-then-count-gt-MOST_NODES
unfolding tallied
returns-then-count-gt-MOST_NODES c =
    elim c.then-count-gt-MOST_NODES.branch [
      | then-count-gt-MOST_NODES-via-then-count-gt-MOST_NODES w ↦
          let many : most_nodes < c.args.count = omega (arith, w.if-count-gt-MOST_NODES.true) in
          rw (lt-leb c.args.count most_nodes many)
      | then-count-gt-MOST_NODES-via-else-count-gt-MOST_NODES+then-nodes-n w ↦
          let few : c.args.count ≤ most_nodes = omega (arith, w.if-count-gt-MOST_NODES.false) in
          let short : length c.args.nodes.now < 8 * c.args.count = omega (arith, w.if-nodes-n.true) in
          rw (le-leb c.args.count most_nodes few, lt-leb (8 * c.args.count) (length c.args.nodes.now) short)
    ]

pub loop-i-init : goal.loop-i-init
loop-i-init c = rw c.nothing-t.ensures (going_start c.args.nodes.now c.args.count)

pub returns-then-not-is_countable : goal.returns-then-not-is_countable
unfolding tallied
returns-then-not-is_countable c =
    let ws = c.args.nodes.now in
    let n = c.args.count in
    let i = c.loop-i.i in
    let few : n ≤ most_nodes = omega (arith, c.if-count-gt-MOST_NODES.false) in
    let lent : 8 * n ≤ length ws = omega (arith, c.if-nodes-n.false) in
    let not : is_countable (get_or ws (i * 8 + 0) 0) (get_or ws (i * 8 + 4) 0) ≡ false = cc in
    let no = uncountable i n ws (omega arith) (rw (kind_word ws i, fact_word ws i) not) in
    rw (le-leb n most_nodes few, le-leb (8 * n) (length ws) lent, no)

pub with_unit-requires : goal.with_unit-requires
with_unit-requires c =
    let ws = c.args.nodes.now in
    let i = c.loop-i.i in
    let ok : is_countable (get_or ws (i * 8 + 0) 0) (get_or ws (i * 8 + 4) 0) ≡ true = cc in
    unit_fits ws c.args.count i _ c.loop-i.invariant (omega arith) ok (omega (arith, c.if-count-gt-MOST_NODES.false)) (λ j. omega (arith, c.type_inv.nodes j))
    c.in-25.is

pub with_map-requires : goal.with_map-requires
with_map-requires c =
    let ws = c.args.nodes.now in
    let i = c.loop-i.i in
    let ok : is_countable (get_or ws (i * 8 + 0) 0) (get_or ws (i * 8 + 4) 0) ≡ true = cc in
    map_fits ws c.args.count i _ c.loop-i.invariant (omega arith) ok (omega (arith, c.if-count-gt-MOST_NODES.false)) (λ j. omega (arith, c.type_inv.nodes j))
    c.in-28.is

pub overflow_add-t : goal.overflow_add-t
overflow_add-t c =
    let ws = c.args.nodes.now in
    let i = c.loop-i.i in
    let ok : is_countable (get_or ws (i * 8 + 0) 0) (get_or ws (i * 8 + 4) 0) ≡ true = cc in
    let few : c.args.count ≤ most_nodes = omega (arith, c.if-count-gt-MOST_NODES.false) in
    omega (
      arith,
      few,
      events_few ws c.args.count i _ c.loop-i.invariant (omega arith) ok few (λ j. omega (arith, c.type_inv.nodes j)),
      c.events_in.ensures,
      one_at_most (eqb (get_or ws (i * 8 + 0) 0) NodeEvent),
    )

pub overflow_add-t-in_default : goal.overflow_add-t-in_default
overflow_add-t-in_default c =
    let ws = c.args.nodes.now in
    let i = c.loop-i.i in
    let ok : is_countable (get_or ws (i * 8 + 0) 0) (get_or ws (i * 8 + 4) 0) ≡ true = cc in
    let few : c.args.count ≤ most_nodes = omega (arith, c.if-count-gt-MOST_NODES.false) in
    omega (
      arith,
      few,
      statements_few ws c.args.count i _ c.loop-i.invariant (omega arith) ok few (λ j. omega (arith, c.type_inv.nodes j)),
      c.statements_in.ensures,
      one_at_most (is_statement (get_or ws (i * 8 + 0) 0)),
    )

pub loop-i-preserved : goal.loop-i-preserved
loop-i-preserved c =
    let ws = c.args.nodes.now in
    let n = c.args.count in
    let i = c.loop-i.i in
    let ok : is_countable (get_or ws (i * 8 + 0) 0) (get_or ws (i * 8 + 4) 0) ≡ true = cc in
    let more : i < n = omega arith in
    let g = c.loop-i.invariant in
    elim c.match-kind.branch [
      | in-25 w ↦ rw (w.t-is, w.with_unit.ensures) (going_unit ws n i _ g more ok w.in-25.is)
      | in-28 w ↦ rw (w.t-is, w.with_map.ensures) (going_map ws n i _ g more ok w.in-28.is)
      | in_default w ↦
          let no_unit : get_or ws (i * 8 + 0) 0 ≡ NodeUnit → ⊥ = λ e. omega (arith, e) in
          let no_map : get_or ws (i * 8 + 0) 0 ≡ NodeMap → ⊥ = λ e. omega (arith, e) in
          rw (w.t-is, w.statements_in.ensures, w.events_in.ensures) (going_other ws n i _ g more ok no_unit no_map)
    ]

pub returns : goal.returns
unfolding tallied
returns c =
    let ws = c.args.nodes.now in
    let n = c.args.count in
    let all : c.loop-i.i ≡ n = omega arith in
    let few : n ≤ most_nodes = omega (arith, c.if-count-gt-MOST_NODES.false) in
    let lent : 8 * n ≤ length ws = omega (arith, c.if-nodes-n.false) in
    let g = rw all at c.loop-i.invariant in
    rw (le-leb n most_nodes few, le-leb (8 * n) (length ws) lent, g.countable) (ap Ok g.tally)
