-- `short_ending` meets its contract, a law for each way out.
use mathlib.Core.Path.{sym, ◌∙◌}
use Rattle.file_load.proofs.Tests.{short_refused, short_offset, short_none}
use borrow.Author.Rules.{rules}
use Rattle.file_load.proofs.short_ending.Statement.{statement}
use Rattle.file_load.proofs.short_ending.Tie as tie

abbrev start : tie.After-word_at-offset → tie.Start
start c = c.before.before.before

word_at_requires : tie.Need-word_at-number-requires
word_at_requires c κs = search rules

word_at_requires_2 : tie.Need-word_at-offset-requires
word_at_requires_2 c κs = search rules

column_of_requires : tie.Need-column_of-requires
column_of_requires c κs = search rules

read_refused_requires : tie.Need-read_refused-requires
read_refused_requires c κs = search rules

returns : tie.Need-returns-then-number-ne0
returns c =
    let k = c.before in
    let t = k.before in
    let o = t.before in
    let n = o.before.word_at-number in
    c.read_refused.ensures
    ∙ sym (short_refused (start o).args.file.now n.result o.word_at-offset.result n.ensures o.word_at-offset.ensures t.if-number-ne0.true
    k.column_of.result k.column_of.ensures)

returns_2 : tie.Need-returns-then-offset-ne0
returns_2 c =
    let e = c.before in
    let o = e.before in
    let n = o.before.word_at-number in
    sym (short_offset (start o).args.file.now n.result o.word_at-offset.result n.ensures o.word_at-offset.ensures e.if-number-ne0.false
    c.if-offset-ne0.true)

returns_3 : tie.Need-returns
returns_3 c =
    let e = c.before in
    let o = e.before in
    let n = o.before.word_at-number in
    sym (short_none (start o).args.file.now n.result o.word_at-offset.result n.ensures o.word_at-offset.ensures e.if-number-ne0.false
    c.if-offset-ne0.false)

pub short_ending_spec : {M : Type 1} → statement M
short_ending_spec =
    tie.close
    (tie.spec
    word_at_requires
    word_at_requires_2
    column_of_requires
    read_refused_requires
    returns
    returns_2
    returns_3)
