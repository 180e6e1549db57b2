use Rattle.std.proofs.Common.{sym, ◌∙◌}
use Rattle.std.proofs.lemmas.Result.{err_from_is_err_and}
use Rattle.std.specs.Prelude.{Ok}
use Rattle.rules.specs.Scan.{room_of}
use Rattle.theory_files.proofs.Files.{load_untouched, load_written}
use Rattle.file_load.proofs.Answers.{read_framed, read_room}
use Rattle.file_load.proofs.load.Goals as goal

pub returns-in_err-table-clause-told : goal.returns-in_err-table-clause-told
unfolding room_of
returns-in_err-table-clause-told c =
    let p = err_from_is_err_and c.from_residual.result c.from_residual.ensures.1 in
    rw (p.1, p.2) (sym (sym c.told.ensures ∙ c.in_err-table.was))

pub returns-in_err-table-clause-left : goal.returns-in_err-table-clause-left
unfolding room_of
returns-in_err-table-clause-left c = sym (load_untouched c.args.file.now c.args.rows.now c.in_err-table.field-0.0 (sym c.told.ensures ∙ c.in_err-table.was))

pub take_rows-requires : goal.take_rows-requires
unfolding room_of
take_rows-requires c =
    let e = sym c.told.ensures ∙ c.in_ok-table.was in
    (read_framed c.args.file.now c.args.rows.now c.in_ok-table.table e, read_room c.args.file.now c.args.rows.now c.in_ok-table.table e)

pub returns-clause-told : goal.returns-clause-told
unfolding room_of
returns-clause-told c = sym (sym c.told.ensures ∙ c.in_ok-table.was)

pub returns-clause-left : goal.returns-clause-left
unfolding room_of
returns-clause-left c =
    c.take_rows.ensures ∙ sym (load_written c.args.file.now c.args.rows.now c.in_ok-table.table (sym c.told.ensures ∙ c.in_ok-table.was))
