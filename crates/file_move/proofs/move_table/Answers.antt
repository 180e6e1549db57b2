-- A law for each way out: 4, 45, the bytes.
use Rattle.std.proofs.Common.{◌≤◌, arith, ap, refl, sym, ◌∙◌, length}
use Rattle.std.specs.Prelude.{Ok}
use Rattle.file_sizes.proofs.Sizes.{short_file}
use Rattle.file_move.proofs.Going.{size}
use Rattle.file_move.proofs.Answers.{few_held, told_full, told_other, told_bytes}
use Rattle.file_move.proofs.move_table.Goals as goal

pub returns-then-moved-length : goal.returns-then-moved-length
returns-then-moved-length c =
    let a = c.args in
    (sym (told_full a.form a.text.now a.file.now a.table (length a.moved.now) (omega (arith, c.length_for-length.ensures))), refl)

pub returns-then-not-agrees : goal.returns-then-not-agrees
returns-then-not-agrees c =
    let a = c.args in
    let room : size a.form a.table.count ≤ length a.moved.now = omega (arith, c.length_for-length.ensures) in
    (sym (told_other a.form a.text.now a.file.now a.table (length a.moved.now) room (sym c.agrees.ensures ∙ c.if-not-agrees.true)), refl)

pub overflow_cast-result : goal.overflow_cast-result
overflow_cast-result c =
    let a = c.args in
    omega (arith, c.length_for-length.ensures, short_file a.form a.table.count, few_held a.file.now a.table c.requires)

pub returns : goal.returns
returns c =
    let a = c.args in
    let room : size a.form a.table.count ≤ length a.moved.now = omega (arith, c.length_for-length.ensures) in
    let told = told_bytes a.form a.text.now a.file.now a.table (length a.moved.now) room (sym c.agrees.ensures ∙ c.if-not-agrees.false) in
    (ap Ok c.length_for-length.ensures ∙ sym told, rw c.length_for-length.ensures c.put_moved.ensures)
