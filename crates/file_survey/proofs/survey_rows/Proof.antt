-- `survey_rows` meets its contract: the loop's invariant is `Holding`, and each way through a turn is one of its laws.
use Prim.Native.Nat.{◌-◌}
use native.Mathlib.Omega.{arith}
use lib.ListN.{length}
use borrow.Author.Rules.{rules}
use Rattle.file_survey.proofs.Holding.{Holding, holding_start, holding_on, holding_over, count_few, listed_few, k_few}
use Rattle.file_survey.proofs.survey_rows.Statement.{statement}
use Rattle.file_survey.proofs.survey_rows.Tie as tie

abbrev invariant_loop : tie.invariant-loop-at
invariant_loop form text file spot₀ count₀ listed₀ k₀ spot count listed k = Holding form text file spot count listed k

abbrev decreases_loop : tie.decreases-loop-at
decreases_loop form text file spot₀ count₀ listed₀ k₀ spot count listed k = length text - spot.at

-- ---- the places of a turn

abbrev start : tie.At-loop-at invariant_loop decreases_loop → tie.Start invariant_loop decreases_loop
start l = l.before.before.before.before

abbrev held_on : tie.In-On invariant_loop decreases_loop → tie.After-hold_part-step invariant_loop decreases_loop
held_on c = c.before.before.before.before

abbrev held_over : tie.In-Over invariant_loop decreases_loop → tie.After-hold_part-step invariant_loop decreases_loop
held_over c = c.before.before.before.before

begin_requires : tie.Need-begin-spot-requires invariant_loop decreases_loop
begin_requires c κs = search rules

loop_holds : tie.Need-loop-at-init invariant_loop decreases_loop
loop_holds c =
    let s = c.before.before.before in
    let a = s.args in
    let b = c.begin-spot in
    holding_start a.form a.text.now a.file.now b.result s.requires b.ensures.0 b.ensures.1

hold_part_requires : tie.Need-hold_part-step-requires invariant_loop decreases_loop
hold_part_requires c κs = c.loop-at.invariant.begun

add_count : tie.Need-overflow_add-count invariant_loop decreases_loop
add_count c =
    let h = c.before.before in
    omega (arith, count_few h.before.loop-at.invariant h.hold_part-step.result h.hold_part-step.ensures)

add_listed : tie.Need-overflow_add-listed invariant_loop decreases_loop
add_listed c =
    let h = c.before.before.before in
    let g = h.before.loop-at.invariant in
    omega (arith, listed_few g h.hold_part-step.result h.hold_part-step.ensures, k_few g h.hold_part-step.result h.hold_part-step.ensures)

enum_known_next : tie.Need-enum_known-next invariant_loop decreases_loop
enum_known_next c = search rules

enum_known_next_2 : tie.Need-enum_known-next-in-Over-1 invariant_loop decreases_loop
enum_known_next_2 c = search rules

cast_t13 : tie.Need-overflow_cast-result invariant_loop decreases_loop
cast_t13 c =
    let h = held_over c in
    omega (arith, count_few h.before.loop-at.invariant h.hold_part-step.result h.hold_part-step.ensures)

cast_t15 : tie.Need-overflow_cast-result-in-Over invariant_loop decreases_loop
cast_t15 c = omega (arith, (held_over c).before.loop-at.invariant.begun.few)

returns : tie.Need-returns-in-Over invariant_loop decreases_loop
returns c =
    let h = held_over c in
    let w = holding_over h.before.loop-at.invariant h.hold_part-step.result h.hold_part-step.ensures _ c.in-Over.is in
    record { table_is = w.0; listed_is = w.1 }

add_k : tie.Need-overflow_add-k invariant_loop decreases_loop
add_k c =
    let h = held_on c in
    omega (arith, k_few h.before.loop-at.invariant h.hold_part-step.result h.hold_part-step.ensures)

loop_less : tie.Need-loop-at-smaller invariant_loop decreases_loop
loop_less c =
    let h = held_on c in
    let o = (h.hold_part-step.ensures.part_is.on _ c.in-On.is).0.0 in
    omega (arith, o.0.inside, o.1)

loop_again : tie.Need-loop-at-preserved invariant_loop decreases_loop
loop_again c =
    let h = held_on c in
    holding_on h.before.loop-at.invariant h.hold_part-step.result h.hold_part-step.ensures _ c.in-On.is

pub survey_rows_spec : {M : Type 1} → statement M
survey_rows_spec =
    tie.close
    (tie.spec
    invariant_loop
    decreases_loop
    begin_requires
    loop_holds
    hold_part_requires
    add_count
    add_listed
    enum_known_next
    enum_known_next_2
    cast_t13
    cast_t15
    returns
    add_k
    loop_less
    loop_again)
