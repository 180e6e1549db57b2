-- `agrees` meets its contract: the length first, and in form 1 lines and columns.
use mathlib.Core.Path.{sym, ◌∙◌}
use borrow.Author.Rules.{rules}
use Rattle.file_beside.proofs.Known.{known}
use Rattle.file_beside.proofs.Agreeing.{other_length, short_agreement}
use Rattle.file_beside.proofs.agrees.Statement.{statement}
use Rattle.file_beside.proofs.agrees.Tie as tie

-- the function's entry, as it is seen from behind the test of the length
abbrev start : tie.Else-text-table → tie.Start
start c = c.before.before.before.before

cast_if1 : tie.Need-overflow_cast-table
cast_if1 c = search rules

returns : tie.Need-returns-then-text-table
returns c =
    let s = c.before.before.before.before in
    sym (other_length s.args.text.now s.args.file.now s.args.table c.if-text-table.true)

form_of_requires : tie.Need-form_of-requires
form_of_requires c κs = let s = start c in (known s.args.file.now s.args.table s.requires).long

enum_told : tie.Need-enum_told-1
enum_told c = search rules

full_agrees_requires : tie.Need-full_agrees-requires
full_agrees_requires c κs =
    let f = c.before in
    let e = sym f.form_of.ensures ∙ c.in-Full.is in
    record { holds = (start f.before).requires; form_is = e; long = f.before.if-text-table.false }

enum_told_2 : tie.Need-enum_told-in-Short
enum_told_2 c = search rules

returns_2 : tie.Need-returns-in-Full
returns_2 c = search rules

returns_3 : tie.Need-returns-in-Short
returns_3 c =
    let f = c.before in
    let e = sym f.form_of.ensures ∙ c.in-Short.is in
    sym (short_agreement (record { holds = (start f.before).requires; form_is = e; long = f.before.if-text-table.false }))

pub agrees_spec : {M : Type 1} → statement M
agrees_spec =
    tie.close
    (tie.spec
    cast_if1
    returns
    form_of_requires
    enum_told
    full_agrees_requires
    enum_told_2
    returns_2
    returns_3)
