-- One byte more, and none left.
use Rattle.std.proofs.Common.{sym, ◌∙◌}
use Rattle.scan_words.proofs.Telling.{packed_on, packed_end}
use Rattle.scan_words.proofs.words.number.Goals as goal

pub loop-b-preserved : goal.loop-b-preserved
loop-b-preserved c =
    rw c.from.ensures (sym (packed_on _ c.loop-b.b-index c.loop-b.v c.loop-b-test.true) ∙ c.loop-b.invariant)

pub returns : goal.returns
returns c = sym (packed_end _ c.loop-b.b-index c.loop-b.v c.loop-b-test.false) ∙ c.loop-b.invariant
