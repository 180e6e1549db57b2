use Rattle.std.proofs.Common.{sym}
use Rattle.file_blocks.proofs.Laws.{short_words}
use Rattle.file_blocks.proofs.short_row_at.Goals as goal

pub returns : goal.returns
returns c =
    rw (
      c.word_at.ensures,
      c.word_at-2.ensures,
      c.column_of.ensures,
      c.word_at-start.ensures,
      c.word_at-3.ensures,
      c.word_at-4.ensures,
      c.word_at-5.ensures,
    )
    (sym (short_words c.args.bytes.now c.args.at))
