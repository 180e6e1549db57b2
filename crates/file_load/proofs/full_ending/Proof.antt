-- `full_ending` meets its contract: the words of block 0 of form 1 are read.
use Rattle.rules_files.specs.Files.{ending_in}
use borrow.Author.Rules.{rules}
use Rattle.file_load.proofs.full_ending.Statement.{statement}
use Rattle.file_load.proofs.full_ending.Tie as tie

word_at_requires : tie.Need-word_at-number-requires
word_at_requires c κs = search rules

word_at_requires_2 : tie.Need-word_at-offset-requires
word_at_requires_2 c κs = search rules

word_at_requires_3 : tie.Need-word_at-line-requires
word_at_requires_3 c κs = search rules

word_at_requires_4 : tie.Need-word_at-column-requires
word_at_requires_4 c κs = search rules

read_ending_requires : tie.Need-read_ending-requires
read_ending_requires c κs = search rules

returns : tie.Need-returns
unfolding ending_in
returns c =
    let d = c.before in
    let e = d.before in
    let f = e.before in
    rw (c.read_ending.ensures, d.word_at-column.ensures, e.word_at-line.ensures, f.word_at-offset.ensures, f.before.word_at-number.ensures)

pub full_ending_spec : {M : Type 1} → statement M
full_ending_spec =
    tie.close
    (tie.spec
    word_at_requires
    word_at_requires_2
    word_at_requires_3
    word_at_requires_4
    read_ending_requires
    returns)
