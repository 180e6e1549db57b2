-- `map_line` meets its contract: the braces with what stands in them, the name and the word.
use Rattle.layout_back.proofs.Back.{wrote_as, wrote_then}
use Rattle.layout_lines.proofs.ByKind.{spelled_at, lines_are}
use Rattle.layout_lines.proofs.map_line.Goals as goal

pub returns : goal.returns
returns c = λ w s.
    let x = lines_are c.word-kind.ensures
    c.word-key.ensures
    c.word-value.ensures
    c.word-max.ensures in
    let n = c.name-to.ensures w
    (spelled_at c.word-name.ensures s) in
    wrote_then (wrote_then (wrote_then (wrote_then
    c.bytes-shut.ensures
    (wrote_as x c.map_lines-inner.ensures))
    c.bytes-opens.ensures) n)
    c.bytes.ensures
