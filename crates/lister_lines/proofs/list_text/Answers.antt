-- `list_text` writes the rows of a scan, and behind them its nodes or its refusal.
use Rattle.std.proofs.Common.{sym, ap, ◌∙◌, ◌++◌, arith, length, length-append, ℕ}
use Rattle.lister_parts.specs.Parts.{refusal_line, listed_rows}
use Rattle.lister_lines.specs.Lines.{room}
use Rattle.lister_parts.proofs.Adding.{adds_same, adds_then}
use Rattle.lister_lines.proofs.Rooms.{room_length, text_rows, text_refused}
use Rattle.lister_lines.proofs.list_text.Goals as goal

pub list_rows-listed-requires : goal.list_rows-listed-requires
unfolding room
list_rows-listed-requires c =
    let p = c.scan in
    let e = text_rows _ p.result p.new.rows p.ensures.told p.ensures.left c.in-Ok.table c.in-Ok.is in
    record { count_in_bounds = omega (arith, e.1, p.auto.rows, room_length); count_le_most_lines = e.1 }

pub list_rows-listed-requires-in-Err : goal.list_rows-listed-requires-in-Err
unfolding room
list_rows-listed-requires-in-Err c =
    let p = c.scan in
    let e = text_refused _ p.result p.new.rows p.ensures.told p.ensures.left c.in-Err.e.why c.in-Err.e.at c.in-Err.e.rows c.in-Err.is in
    record { count_in_bounds = omega (arith, e.1, p.auto.rows, room_length); count_le_most_lines = e.1 }

pub returns-in-Ok : goal.returns-in-Ok
unfolding room
returns-in-Ok c =
    let p = c.scan in
    let e = text_rows _ p.result p.new.rows p.ensures.told p.ensures.left c.in-Ok.table c.in-Ok.is in
    let x = c.list_rows-listed.ensures in
    let y = c.list_tree.ensures in
    record {
      adds = adds_same (sym e.0) (adds_then x.adds y.adds);
      text_len_bound = omega (arith, simp length-append at (ap length e.0), x.rows_len_bound, y.table_len_bound);
    }

pub returns-in-Err : goal.returns-in-Err
unfolding room
returns-in-Err c =
    let p = c.scan in
    let e = text_refused _ p.result p.new.rows p.ensures.told p.ensures.left c.in-Err.e.why c.in-Err.e.at c.in-Err.e.rows c.in-Err.is in
    let x = c.list_rows-listed-in-Err.ensures in
    let y = c.refusal_line.ensures in
    let f = ap (λ (k : ℕ). listed_rows c.in-Err.e.rows p.new.rows ++ refusal_line k c.in-Err.e.at) c.outer_number.ensures ∙ sym e.0 in
    record {
      adds = adds_same f (adds_then x.adds y.adds);
      text_len_bound = omega (arith, simp length-append at (ap length f), x.rows_len_bound, y.place_len_bound);
    }
