use Rattle.std.proofs.Common.{arith, sym, ◌∙◌}
use Rattle.file_blocks.proofs.Laws.{words_none, words_more}
use Rattle.file_blocks.proofs.put_words.Goals as goal

pub loop-i-init : goal.loop-i-init
loop-i-init c = sym (words_none c.args.bytes.now c.args.words.now)

pub loop-i-preserved : goal.loop-i-preserved
loop-i-preserved c =
    let l = c.loop-i in
    c.put_word.ensures ∙ words_more c.args.bytes.now c.args.words.now l.bytes l.i (omega arith) (omega (arith, c.requires)) l.invariant
