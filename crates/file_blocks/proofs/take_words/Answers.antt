use Rattle.std.proofs.Common.{arith, refl, take}
use Rattle.rules_files.specs.Bytes.{words_in}
use Rattle.file_blocks.proofs.Laws.{taken_more}
use Rattle.file_blocks.proofs.take_words.Goals as goal

pub loop-i-init : goal.loop-i-init
unfolding words_in
loop-i-init c = refl

pub loop-i-preserved : goal.loop-i-preserved
loop-i-preserved c =
    rw (c.loop-i.invariant)
    (taken_more c.loop-i.i c.args.bytes.now (take c.args.n c.args.words.now) c.word_at.result (omega arith) c.word_at.ensures)
