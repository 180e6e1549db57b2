use Rattle.std.proofs.Common.{◌+◌, arith, ap, subst, sym, ◌∙◌}
use Rattle.rules.specs.Rows.{row_no}
use Rattle.rows.specs.Shape.{as_row}
use Rattle.rules_forms.specs.declared.Form.{Form}
use Rattle.rules_forms.specs.Shapes.{row_words_of}
use Rattle.file_load.specs.Judged.{Framed}
use Rattle.file_beside.specs.Counting.{placed_at}
use Rattle.file_beside.proofs.Known.{known}
use Rattle.file_beside.proofs.Putting.{Asked, putting_counts, putting_next}
use Rattle.file_beside.proofs.put_rows.Goals as goal

pub form_of-form-requires : goal.form_of-form-requires
form_of-form-requires c = (known c.args.file.now c.args.table c.requires.0.0.0.holds).long

pub row_of-r-requires : goal.row_of-r-requires
row_of-r-requires c =
    let k = known c.args.file.now c.args.table c.requires.0.0.0.holds in
    (subst (λ (x : Form). Framed x c.args.table.count c.args.file.now) (sym c.form_of-form.ensures) k.frame, omega (arith, c.requires.0.0.1))

pub place_of-here-requires : goal.place_of-here-requires
place_of-here-requires c =
    let a = c.args in
    let asked : Asked a.text.now a.file.now a.table a.from a.n a.words.now
    = record { agree = c.requires.0.0.0; rows = c.requires.0.0.1; room = c.requires.0.1 } in
    let row_is =
    c.row_of-r.ensures ∙ ap (λ (f : Form). row_no (row_words_of f a.file.now) (a.from + c.loop-i.i)) c.form_of-form.ensures
    in
    putting_counts asked c.loop-i.invariant c.loop-i-test.true (as_row c.row_of-r.result) row_is

pub loop-i-preserved : goal.loop-i-preserved
loop-i-preserved c =
    let a = c.args in
    let asked : Asked a.text.now a.file.now a.table a.from a.n a.words.now
    = record { agree = c.requires.0.0.0; rows = c.requires.0.0.1; room = c.requires.0.1 } in
    let row_is =
    c.row_of-r.ensures ∙ ap (λ (f : Form). row_no (row_words_of f a.file.now) (a.from + c.loop-i.i)) c.form_of-form.ensures
    in
    let placed = c.place_of-here.ensures ∙ ap (λ (f : Form). placed_at f a.text.now (as_row c.row_of-r.result)) c.form_of-form.ensures in
    putting_next asked c.loop-i.invariant c.loop-i-test.true (as_row c.row_of-r.result) row_is c.place_of-here.result placed
    c.put_row.new.words c.put_row.ensures
