-- `map_lines` meets its contract: line by line from the last.
use mathlib.Core.Path.{◌∙◌}
use Rattle.layout_back.proofs.Back.{wrote_as, wrote_then}
use Rattle.layout_words.specs.Words.{map_lines}
use Rattle.layout_words.proofs.Words.{low_only}
use Rattle.layout_words.proofs.map_lines.Goals as goal

pub shape_of-room : goal.shape_of-room
shape_of-room c =
    c.bytes.auto.room ∙ c.map_word-to.auto.room ∙ c.bytes-end.auto.room ∙ c.typed-keyed.auto.room
    ∙ c.typed-valued.auto.room ∙ c.bytes-most.auto.room ∙ c.number-number.auto.room ∙ c.bytes-last.auto.room

pub returns : goal.returns
unfolding map_lines
returns c =
    let n = wrote_as (low_only _) c.number-number.ensures in
    wrote_then
    (wrote_then
    (wrote_then
    (wrote_then (wrote_then (wrote_then (wrote_then c.bytes-last.ensures n) c.bytes-most.ensures) c.typed-valued.ensures) c.typed-keyed.ensures)
    c.bytes-end.ensures)
    c.map_word-to.ensures)
    c.bytes.ensures
