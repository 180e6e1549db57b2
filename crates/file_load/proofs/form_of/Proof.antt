-- `form_of` meets its contract: a file that does not say 2 is judged as one of form 1.
use mathlib.Core.Path.{sym, ◌∙◌}
use Rattle.file_load.proofs.Answers.{form_short, form_full}
use borrow.Author.Rules.{rules}
use Rattle.file_load.proofs.form_of.Statement.{statement}
use Rattle.file_load.proofs.form_of.Tie as tie

word_at_requires : tie.Need-word_at-requires
word_at_requires c κs = search rules

returns : tie.Need-returns-then-word_at-eq-NUMBER
returns c =
    let w = c.before in
    sym (form_short w.before.before.args.file.now (sym w.word_at.ensures ∙ c.if-word_at-eq-NUMBER.true))

returns_2 : tie.Need-returns
returns_2 c =
    let w = c.before in
    sym (form_full w.before.before.args.file.now (λ e. c.if-word_at-eq-NUMBER.false (w.word_at.ensures ∙ e)))

pub form_of_spec : {M : Type 1} → statement M
form_of_spec = tie.close (tie.spec word_at_requires returns returns_2)
