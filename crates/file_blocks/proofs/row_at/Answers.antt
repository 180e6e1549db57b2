use Rattle.std.proofs.Common.{sym}
use Rattle.file_blocks.proofs.Laws.{row_words}
use Rattle.file_blocks.proofs.row_at.Goals as goal

pub returns : goal.returns
returns c =
    rw (
      c.word_at.ensures,
      c.word_at-2.ensures,
      c.word_at-3.ensures,
      c.word_at-4.ensures,
      c.word_at-5.ensures,
      c.word_at-6.ensures,
      c.word_at-7.ensures,
      c.word_at-8.ensures,
    )
    (sym (row_words c.args.bytes.now c.args.at))
