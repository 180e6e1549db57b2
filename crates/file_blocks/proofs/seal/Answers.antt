use Rattle.file_blocks.proofs.Laws.{seal_put}
use Rattle.file_blocks.proofs.seal.Goals as goal

pub returns : goal.returns
returns c =
    seal_put c.args.k c.args.n c.args.size c.args.bytes.now c.put_half.new.bytes c.put_half-2.new.bytes c.put_filler.new.bytes
    c.put_word.new.bytes c.requires.0 c.requires.1 c.put_half.ensures c.put_half-2.ensures c.put_filler.ensures
    c.check_of-sum.result c.check_of-sum.ensures c.put_word.ensures
