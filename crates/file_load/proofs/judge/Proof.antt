-- `judge` meets its contract, a law for each way out.
use mathlib.Core.Path.{sym, ap, ◌∙◌}
use Rattle.rules_files.specs.Files.{load_told}
use Rattle.file_load.proofs.Answers.{judged_under, judged_as_short, judged_as_full}
use borrow.Author.Rules.{rules}
use Rattle.file_load.proofs.judge.Statement.{statement}
use Rattle.file_load.proofs.judge.Tie as tie

abbrev start : tie.After-word_at → tie.Start
start c = c.before.before.before

returns : tie.Need-returns-then-file-lt-BLOCK
returns c = sym (judged_under c.before.before.args.file.now c.if-file-lt-BLOCK.true)

word_at_requires : tie.Need-word_at-requires
word_at_requires c κs = search rules

short_told_requires : tie.Need-short_told-requires
short_told_requires c κs = search rules

returns_2 : tie.Need-returns-then-word_at-eq-NUMBER
returns_2 c =
    let t = c.before in
    let w = t.before in
    c.short_told.ensures ∙ sym (judged_as_short (start w).args.file.now (sym w.word_at.ensures ∙ t.if-word_at-eq-NUMBER.true))

word_at_requires_2 : tie.Need-word_at-requires-2
word_at_requires_2 c κs = search rules

cast_told : tie.Need-overflow_cast-word_at
cast_told c = search rules

told_requires : tie.Need-told-requires
told_requires c κs = search rules

returns_3 : tie.Need-returns
returns_3 c =
    let v = c.before in
    let t = v.before in
    let w = t.before in
    let a = (start w).args in
    c.told.ensures ∙ ap (load_told a.file.now) v.word_at-2.ensures
    ∙ sym (judged_as_full a.file.now (λ e. t.if-word_at-eq-NUMBER.false (w.word_at.ensures ∙ e)))

pub judge_spec : {M : Type 1} → statement M
judge_spec =
    tie.close
    (tie.spec
    returns
    word_at_requires
    short_told_requires
    returns_2
    word_at_requires_2
    cast_told
    told_requires
    returns_3)
