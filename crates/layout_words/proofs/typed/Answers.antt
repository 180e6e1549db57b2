-- `typed` meets its contract: nothing, or a line.
use Rattle.layout_back.proofs.Back.{wrote_none, wrote_as, wrote_then}
use Rattle.layout_words.proofs.Words.{typed_none, typed_one}
use Rattle.layout_words.proofs.typed.Goals as goal

pub returns-then-n-eq0 : goal.returns-then-n-eq0
returns-then-n-eq0 c = let a = c.args in wrote_as (typed_none a.head.now a.n c.if-n-eq0.true)
    (wrote_none a.room.now a.at)

pub returns : goal.returns
returns c = wrote_as (typed_one _ _
    c.if-n-eq0.false)
    (wrote_then (wrote_then c.bytes-end.ensures
    c.type_word-to.ensures) c.bytes.ensures)
