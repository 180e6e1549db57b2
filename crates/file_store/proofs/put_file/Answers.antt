use Rattle.std.proofs.Common.{arith, ◌∙◌}
use Rattle.file_store.proofs.Going.{some_length, file_put}
use Rattle.file_store.proofs.put_file.Goals as goal

pub slice_bounds-put_said-end : goal.slice_bounds-put_said-end
slice_bounds-put_said-end c = omega (arith, c.requires.1, some_length c.args.table.count)

pub returns : goal.returns
returns c =
    c.put_rows.ensures
    ∙ file_put c.args.rows.now c.args.file.now c.put_said.new.bytes c.args.table c.requires.1 c.put_said.ensures
