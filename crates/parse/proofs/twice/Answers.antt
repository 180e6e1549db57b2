-- The first pass, into no memory, says whether the second will be refused.
use mathlib.Core.Path.{refl, sym, ap, subst, ◌∙◌}
use mathlib.Core.List.{List}
use Prim.Native.Nat.{ℕ, ◌≤◌}
use native.Mathlib.Omega.{arith}
use lib.ListN.{length}
use lib.Seq.{length-take-le}
use Rattle.rules.specs.Refusals.{found_told}
use Rattle.rules.specs.Rows.{Row, row_place, rows_in}
use Rattle.rules.specs.Calls.{node_room, place_of_row}
use Rattle.rules.specs.Parse.{Out}
use Rattle.theory_grammar.proofs.Tables.{tokens_proper}
use Rattle.parse_nodes.proofs.Told.{names_told}
use Rattle.parse.specs.Program.{AsksWhole, reading_of, Final}
use Rattle.parse.proofs.Whole.{none_written, final_no, refused_in}
use Rattle.parse.proofs.Passing.{reached, stopped}
use Rattle.parse.proofs.twice.Goals as goal

-- There is room for a node: what rules out a first pass that may write one is what it asks, not a bound.
room_for_one : {t ws : List ℕ} {n : ℕ} {m : List ℕ} → AsksWhole t ws n m → 8 ≤ length m
unfolding node_room
room_for_one p = omega (arith, p.ended.some, p.room)

pub slice_bounds-program_passed-end : goal.slice_bounds-program_passed-end
slice_bounds-program_passed-end c = omega (arith, room_for_one c.requires)

pub slice_bounds-program_passed-end-2 : goal.slice_bounds-program_passed-end-2
slice_bounds-program_passed-end-2 c =
    omega (arith, length-take-le 8 c.args.nodes.now (room_for_one c.requires))

pub program_passed-requires : goal.program_passed-requires
program_passed-requires c = (c.requires.ended, refl)

pub written-requires : goal.written-requires
written-requires c =
    let a = c.args in
    let f = c.program_passed.ensures _ (names_told a.text.now a.rows.now a.count) (tokens_proper a.text.now (rows_in a.count a.rows.now)) in
    let v = reached _ _ _ f c.in-Ok.is in (
      subst (λ (x : List ℕ). AsksWhole a.text.now a.rows.now a.count x)
          (sym (none_written c.program_passed.new.none a.nodes.now c.program_passed.auto.none)) c.requires,
      record { tree = v.tree; behind = _; is = v.is },
    )

pub at-row-requires : goal.at-row-requires
at-row-requires c =
    let a = c.args in
    let f = c.program_passed.ensures _ (names_told a.text.now a.rows.now a.count) (tokens_proper a.text.now (rows_in a.count a.rows.now)) in
    let e = stopped _ _ _ f c.in-Err.is in
    refused_in a.text.now a.rows.now a.count a.nodes.now c.requires c.in-Err.e.why c.in-Err.e.row e

pub returns-in-Ok : goal.returns-in-Ok
returns-in-Ok c =
    let a = c.args in
    let o : Out = reading_of a.text.now a.rows.now a.count in
    subst (λ (x : List ℕ). Final a.rows.now o x c.written.new.nodes c.written.result)
    (none_written c.program_passed.new.none a.nodes.now c.program_passed.auto.none) c.written.ensures

pub returns-in-Err : goal.returns-in-Err
unfolding place_of_row
returns-in-Err c =
    let a = c.args in
    let o : Out = reading_of a.text.now a.rows.now a.count in
    let x = c.in-Err.e in
    let f = c.program_passed.ensures _ (names_told a.text.now a.rows.now a.count) (tokens_proper a.text.now (rows_in a.count a.rows.now)) in
    let e = stopped _ _ _ f c.in-Err.is in
    final_no a.rows.now o a.nodes.now _ x.why x.row _ _ e
    (c.place.ensures ∙ ap row_place c.at-row.ensures)
    (c.found_told.ensures ∙ ap (λ (y : Row). found_told x.why y.kind) c.at-row.ensures)
    (none_written c.program_passed.new.none a.nodes.now c.program_passed.auto.none)
