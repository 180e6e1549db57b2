-- `line::put` writes its byte if there is room.
use Rattle.std.proofs.Common.{rules}
use Rattle.lister_parts.proofs.Adding.{adds_byte, adds_full}
use Rattle.lister_parts.proofs.line.put.Statement.{statement}
use Rattle.lister_parts.proofs.line.put.Tie as tie

slice_write_out : tie.Need-bounds-out-at
slice_write_out c = search rules

add_result : tie.Need-overflow_add-result
add_result c = search rules

same_length : tie.Need-shape_of-out-then-at-out
same_length c = search rules

returns : tie.Need-returns-then-at-out
returns c = adds_byte _ _ _ c.if-at-out.true

returns_2 : tie.Need-returns
returns_2 c = adds_full _ _ _ c.if-at-out.false

pub put_spec : {M : Type 1} → statement M
put_spec = tie.close (tie.spec slice_write_out add_result same_length returns returns_2)
