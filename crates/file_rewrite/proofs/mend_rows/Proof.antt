-- `mend_rows` meets its contract: the loop's invariant is `Going`, and each way through a turn is one of its laws.
use Prim.Native.Nat.{◌-◌}
use native.Mathlib.Omega.{arith}
use lib.ListN.{length}
use borrow.Author.Rules.{rules}
use Rattle.file_rewrite.proofs.Going.{Going, going_start, going_fits, going_over, going_on, memory_size, list_size, k_small}
use Rattle.file_rewrite.proofs.mend_rows.Statement.{statement}
use Rattle.file_rewrite.proofs.mend_rows.Tie as tie

abbrev invariant_loop : tie.invariant-loop-at
invariant_loop form text file₀ n list₀ first spot₀ listed₀ k₀ file list spot listed k =
    Going form text n file₀ list₀ first file list spot listed k

abbrev decreases_loop : tie.decreases-loop-at
decreases_loop form text file₀ n list₀ first spot₀ listed₀ k₀ file list spot listed k = length text - spot.at

-- ---- the places of a turn

abbrev start : tie.At-loop-at invariant_loop decreases_loop → tie.Start invariant_loop decreases_loop
start l = l.before.before.before.before.before

abbrev lent : tie.After-mend_part-arg-in-loop-at-1 invariant_loop decreases_loop → tie.At-loop-at invariant_loop decreases_loop
lent c = c.before.before

abbrev loop_of : tie.After-mend_part-step invariant_loop decreases_loop → tie.At-loop-at invariant_loop decreases_loop
loop_of c = c.before.before.before

abbrev mended_on : tie.In-On invariant_loop decreases_loop → tie.After-mend_part-step invariant_loop decreases_loop
mended_on c = c.before.before.before.before.before.before

abbrev mended_over : tie.In-Over invariant_loop decreases_loop → tie.After-mend_part-step invariant_loop decreases_loop
mended_over c = c.before.before.before.before.before.before

begin_requires : tie.Need-begin-spot-requires invariant_loop decreases_loop
begin_requires c κs = search rules

loop_holds : tie.Need-loop-at-init invariant_loop decreases_loop
loop_holds c =
    let s = c.before.before.before.before in
    let b = c.begin-spot in
    going_start s.requires b.result b.ensures.0 b.ensures.1

mend_part_requires : tie.Need-mend_part-step-requires invariant_loop decreases_loop
mend_part_requires c κs =
    let l = lent c in
    let s = start l in
    (l.loop-at.invariant.begun, going_fits s.requires l.loop-at.invariant)

enum_known_next : tie.Need-enum_known-next invariant_loop decreases_loop
enum_known_next c = search rules

enum_told : tie.Need-enum_told-1 invariant_loop decreases_loop
enum_told c = search rules

same_length : tie.Need-shape_of-file-in-Over invariant_loop decreases_loop
same_length c =
    let m = mended_over c in
    let l = loop_of m in
    let s = start l in
    memory_size s.requires l.loop-at.invariant m.mend_part-step.result m.mend_part-step.ensures

same_length_2 : tie.Need-shape_of-list-in-Over invariant_loop decreases_loop
same_length_2 c =
    let m = mended_over c in
    let l = loop_of m in
    let s = start l in
    list_size s.requires l.loop-at.invariant m.mend_part-step.result m.mend_part-step.ensures

returns : tie.Need-returns-in-Over invariant_loop decreases_loop
returns c =
    let m = mended_over c in
    let l = loop_of m in
    let s = start l in
    going_over s.requires l.loop-at.invariant m.mend_part-step.result m.mend_part-step.ensures _ c.in-Over.is

add_k : tie.Need-overflow_add-k invariant_loop decreases_loop
add_k c =
    let l = loop_of (mended_on c) in
    let s = start l in
    omega (arith, k_small s.requires l.loop-at.invariant)

loop_less : tie.Need-loop-at-smaller invariant_loop decreases_loop
loop_less c =
    let m = mended_on c in
    let o = (m.mend_part-step.ensures.part_is.on _ c.in-On.is).0.0 in
    omega (arith, o.0.inside, o.1)

loop_again : tie.Need-loop-at-preserved invariant_loop decreases_loop
loop_again c =
    let m = mended_on c in
    let l = loop_of m in
    let s = start l in
    going_on s.requires l.loop-at.invariant m.mend_part-step.result m.mend_part-step.ensures _ c.in-On.is

pub mend_rows_spec : {M : Type 1} → statement M
mend_rows_spec =
    tie.close
    (tie.spec
    invariant_loop
    decreases_loop
    begin_requires
    loop_holds
    mend_part_requires
    enum_known_next
    enum_told
    same_length
    same_length_2
    returns
    add_k
    loop_less
    loop_again)
