-- `field_line` meets its contract: what stands behind the name, and the name.
use Rattle.layout_back.proofs.Back.{wrote_as, wrote_then}
use Rattle.layout_lines.proofs.ByKind.{spelled_at, fields_are}
use Rattle.layout_lines.proofs.field_line.Goals as goal

pub returns : goal.returns
returns c = λ w s.
    let x = fields_are c.word-form.ensures
    c.word-kind.ensures
    c.word-length.ensures in
    wrote_then (wrote_as x c.field_words-to.ensures)
    (c.name.ensures w (spelled_at
    c.word-name.ensures s))
