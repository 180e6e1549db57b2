-- `text_line` meets its contract: the string and its word.
use mathlib.Core.Path.{ap}
use Rattle.layout_back.proofs.Back.{wrote_as, wrote_then}
use Rattle.layout_words.specs.Words.{text_word}
use Rattle.layout_lines.proofs.ByKind.{spelled_at}
use Rattle.layout_lines.proofs.text_line.Goals as goal

pub returns : goal.returns
returns c = λ w s.
    let n = c.name-to.ensures w
    (spelled_at c.word-name.ensures s) in
    wrote_then (wrote_then c.bytes-end.ensures n)
    (wrote_as (ap text_word
    c.word-k.ensures) c.text_word.ensures)
