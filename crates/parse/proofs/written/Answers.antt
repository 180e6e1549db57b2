-- What is read fits its room, and is not refused.
use mathlib.Core.Path.{◌≡◌}
use Prim.Native.Nat.{ℕ}
use native.Mathlib.Omega.{arith}
use Rattle.rules.specs.Parse.{Out}
use Rattle.parse_nodes.proofs.Told.{names_told}
use Rattle.parse_nodes.proofs.Turn.{refused}
use Rattle.parse.specs.Program.{reading_of}
use Rattle.parse.proofs.Whole.{wrote, final_ok, room_fits}
use Rattle.parse.proofs.written.Goals as goal

pub returns-in-Ok : goal.returns-in-Ok
returns-in-Ok c =
    let a = c.args in
    let o : Out = reading_of a.text.now a.rows.now a.count in
    let met = c.program.ensures _ (names_told a.text.now a.rows.now a.count) in
    let v = wrote o a.nodes.now c.program.new.nodes c.program.result c.in-Ok.t met c.in-Ok.is in
    final_ok a.rows.now o a.nodes.now _ v.tree c.in-Ok.t.row _ c.program.result v.is v.node
    (room_fits a.text.now a.rows.now a.count a.nodes.now c.requires.0 v.tree _ v.is) met

pub returns-in-Err : goal.returns-in-Err
returns-in-Err c =
    let a = c.args in
    let o : Out = reading_of a.text.now a.rows.now a.count in
    let e = refused o 0 0 _ _ c.program.result c.in-Err.field-0 (c.program.ensures _ (names_told a.text.now a.rows.now a.count)) c.in-Err.is in
    let z : ◌≡◌ {A = ℕ} 0 1 = cc (e, c.requires.1.is) in
    absurd (omega arith)
