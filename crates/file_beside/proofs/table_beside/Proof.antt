-- `table_beside` meets its contract, by the form and the ending.
use mathlib.Core.Path.{sym, ap, ◌∙◌}
use borrow.Author.Rules.{rules}
use Rattle.rules.specs.declared.Cursor.{Cursor}
use Rattle.rules.specs.Outcomes.{halt}
use Rattle.std.specs.declared.option.Option.TheVariants.{Some}
use Rattle.file_beside.proofs.Known.{known}
use Rattle.file_beside.proofs.Rows.{counts_refused}
use Rattle.file_beside.proofs.Agreeing.{agrees_long}
use Rattle.file_beside.proofs.Answers.{table_full, table_none, table_refused}
use Rattle.file_beside.proofs.table_beside.Statement.{statement}
use Rattle.file_beside.proofs.table_beside.Tie as tie

-- ---- the places on the way

abbrev start : tie.After-form_of → tie.Start
start c = c.before.before.before

abbrev at_short : tie.In-Short → tie.After-form_of
at_short c = c.before

abbrev at_refused : tie.In-Some → tie.In-Short
at_refused c = c.before

form_of_requires : tie.Need-form_of-requires
form_of_requires c κs = let s = c.before.before in (known s.args.file.now s.args.table s.requires.0.holds).long

enum_told : tie.Need-enum_told-1
enum_told c = search rules

enum_told_2 : tie.Need-enum_told-in-Short
enum_told_2 c = search rules

enum_told_3 : tie.Need-enum_told-in-None
enum_told_3 c = search rules

enum_known_ending : tie.Need-enum_known-ending
enum_known_ending c = search rules

place_from_requires : tie.Need-place_from-requires
place_from_requires c κs =
    let s = start (at_short (at_refused c)) in
    let a = s.args in
    let l = agrees_long s.requires.0 in
    counts_refused a.text.now a.file.now a.table s.requires.0.holds l a.last s.requires.1 c.in-Some.e.why c.in-Some.e.at c.in-Some.is

returns : tie.Need-returns-in-Full
returns c =
    let f = c.before in
    let a = (start f).args in
    sym (table_full a.text.now a.file.now a.table (sym f.form_of.ensures ∙ c.in-Full.is))

returns_2 : tie.Need-returns-in-None
returns_2 c =
    let e = c.before in
    let f = at_short e in
    let a = (start f).args in
    let g = sym f.form_of.ensures ∙ e.in-Short.is in
    sym (table_none a.text.now a.file.now a.table g c.in-None.is)

returns_3 : tie.Need-returns-in-Some
returns_3 c =
    let r = c.before in
    let f = at_short (at_refused r) in
    let a = (start f).args in
    let t = a.table in
    let g = sym f.form_of.ensures ∙ (at_refused r).in-Short.is in
    ap (λ (q : Cursor). record { count = t.count; length = t.length; ending = Some (halt r.in-Some.e.why q) }) c.place_from.ensures
    ∙ sym (table_refused a.text.now a.file.now t g r.in-Some.e.why r.in-Some.e.at r.in-Some.is)

pub table_beside_spec : {M : Type 1} → statement M
table_beside_spec =
    tie.close
    (tie.spec
    form_of_requires
    enum_told
    enum_told_2
    enum_told_3
    enum_known_ending
    place_from_requires
    returns
    returns_2
    returns_3)
