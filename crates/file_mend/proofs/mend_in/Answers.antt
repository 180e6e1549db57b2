-- `mend_in` meets its contract: a text that is refused, or what `mend_text` says of one that is fine.
use Rattle.std.proofs.Common.{sym, ◌∙◌}
use Rattle.rules_forms.specs.Shapes.{number_of}
use Rattle.theory_mend.proofs.Ways.{told_text}
use Rattle.file_mend.proofs.Told.{known, refused}
use Rattle.file_mend.proofs.mend_in.Goals as goal

pub mend_text-requires : goal.mend_text-requires
mend_text-requires c = sym c.judge_text.ensures ∙ c.in-Ok.is

pub returns-in-Err : goal.returns-in-Err
returns-in-Err c =
    let a = c.args in
    let t = told_text a.text.now (number_of a.form) a.file.now a.n a.list.now (known a.form) c.in-Err.e.why c.in-Err.e.at (sym c.judge_text.ensures ∙ c.in-Err.is) in
    refused a.text.now (number_of a.form) a.file.now a.n a.list.now _ _ t
