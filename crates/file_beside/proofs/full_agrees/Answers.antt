-- Rows first, then the ending, counted from the last row.
use Rattle.std.proofs.Common.{sym, ◌∙◌}
use Rattle.file_beside.proofs.Rows.{counts_ending}
use Rattle.file_beside.proofs.Agreeing.{full_agreement}
use Rattle.file_beside.proofs.full_agrees.Goals as goal

pub returns-in_default : goal.returns-in_default
returns-in_default c = sym (full_agreement c.requires ∙ rw c.in_default.ensures)

pub ending_agrees-requires : goal.ending_agrees-requires
ending_agrees-requires c =
    rw c.in-Some.ensures.1 (counts_ending c.args.text.now c.args.file.now c.args.table c.requires.holds c.requires.long)

pub returns : goal.returns
returns c = c.ending_agrees.ensures ∙ sym (full_agreement c.requires ∙ rw c.in-Some.ensures.0)
