use Rattle.std.proofs.Common.{◌≡◌, ℕ, List, arith, ap, sym, ◌∙◌}
use Rattle.std.proofs.lemmas.Result.{err_from_is_err_and}
use Rattle.std.specs.Prelude.{Result, Option}
use Rattle.rules.specs.Outcomes.{Ending}
use Rattle.rules.specs.declared.Table.{Table}
use Rattle.rules_files.specs.declared.Fault.{Fault}
use Rattle.rules_files.specs.Files.{rows_told}
use Rattle.rules_forms.specs.Shapes.{row_words_of}
use Rattle.file_load.specs.Judged.{stand_upto, plain_rows}
use Rattle.file_load.proofs.Answers.{some_file, standing_is, judged_bad, judged_sound, sound_nothing, sound_rows}
use Rattle.file_load.proofs.told_blocks.Goals as goal

pub ending_in-read-requires : goal.ending_in-read-requires
ending_in-read-requires c = some_file c.args.form c.args.count c.args.file.now c.requires

pub returns-in_err-stand : goal.returns-in_err-stand
returns-in_err-stand c =
    let e = sym c.judge_blocks.ensures ∙ c.in_err-stand.was in
    let p = err_from_is_err_and c.from_residual.result c.from_residual.ensures.1 in
    rw (p.1, p.2) (sym (judged_bad c.args.form c.plain_rows.result c.args.file.now c.args.room c.in_err-stand.field-0.0 e))

pub returns-in_default : goal.returns-in_default
returns-in_default c =
    let a = c.args in
    let sounds = judged_sound a.form c.plain_rows.result a.file.now a.room c.in_ok-stand.stand (sym c.judge_blocks.ensures ∙ c.in_ok-stand.was) in
    sym (sound_nothing a.form c.plain_rows.result a.file.now a.room c.in_ok-stand.stand sounds (sym c.ending_in-read.ensures ∙ c.in_default.is))

pub word_at-length-requires : goal.word_at-length-requires
word_at-length-requires c = omega (arith, some_file c.args.form c.args.count c.args.file.now c.requires)

pub told_rows-requires : goal.told_rows-requires
told_rows-requires c =
    let a = c.args in
    let how = c.in-Some.ending in
    let sounds = judged_sound a.form c.plain_rows.result a.file.now a.room c.in_ok-stand.stand (sym c.judge_blocks.ensures ∙ c.in_ok-stand.was) in
    let e = c.plain_rows.ensures.0 ∙ ap (λ (x : Option Ending). plain_rows x a.count) c.in-Some.is in (
      c.requires,
      sounds.stands ∙ ap (λ (x : ℕ). stand_upto a.form x a.file.now) e ∙ sym (standing_is a.form a.count a.file.now c.requires how),
    )

pub returns : goal.returns
returns c =
    let a = c.args in
    let how = c.in-Some.ending in
    let sounds = judged_sound a.form c.plain_rows.result a.file.now a.room c.in_ok-stand.stand (sym c.judge_blocks.ensures ∙ c.in_ok-stand.was) in
    let e = sym c.ending_in-read.ensures ∙ c.in-Some.is in
    let f = sound_rows a.form c.plain_rows.result a.file.now a.room c.in_ok-stand.stand sounds how e a.count c.requires.count_is in
    let words : List ℕ = row_words_of a.form a.file.now in
    let told : ℕ → Result Table Fault = λ x. rows_told words a.room (record { count = a.count; length = x; ending = how }) in
    c.told_rows.ensures ∙ ap told c.word_at-length.ensures ∙ sym f
