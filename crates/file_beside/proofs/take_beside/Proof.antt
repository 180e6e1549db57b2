-- `take_beside` meets its contract: form 1 has its rows, and those of form 2 are counted from the text's start.
use mathlib.Core.Path.{◌≡◌, sym, ap, subst, ◌∙◌}
use mathlib.Core.List.{List, ◌++◌}
use Prim.Native.Nat.{ℕ, ◌+◌, ◌*◌}
use native.Mathlib.Omega.{arith}
use lib.ListN.{drop}
use borrow.Author.Rules.{rules}
use Rattle.rules.specs.Rows.{words_per_row}
use Rattle.rules_forms.specs.declared.Form.{Form}
use Rattle.file_load.specs.Judged.{Framed}
use Rattle.file_beside.specs.Counting.{last_place}
use Rattle.file_beside.proofs.Known.{known}
use Rattle.file_beside.proofs.Rows.{last_first, count_is}
use Rattle.file_beside.proofs.Agreeing.{agrees_long}
use Rattle.file_beside.proofs.Answers.{table_full, rows_full, all_rows}
use Rattle.file_beside.proofs.take_beside.Statement.{statement}
use Rattle.file_beside.proofs.take_beside.Tie as tie

-- ---- the places on the way

abbrev start : tie.After-form_of → tie.Start
start c = c.before.before.before.before

abbrev at_full : tie.In-Full → tie.After-form_of
at_full c = c.before

abbrev at_short : tie.After-start → tie.After-form_of
at_short c = c.before.before.before

form_of_requires : tie.Need-form_of-requires
form_of_requires c κs = let s = c.before.before.before in (known s.args.file.now s.args.table s.requires.0.holds).long

enum_told : tie.Need-enum_told-1
enum_told c = search rules

take_rows_requires : tie.Need-take_rows-requires
take_rows_requires c κs =
    let f = at_full c.before in
    let s = start f in
    let g = sym f.form_of.ensures ∙ c.before.in-Full.is in
    let k = known s.args.file.now s.args.table s.requires.0.holds in
    (subst (λ (x : Form). Framed x s.args.table.count s.args.file.now) g k.frame, s.requires.1)

enum_told_2 : tie.Need-enum_told-in-Short
enum_told_2 c = search rules

cast_all : tie.Need-overflow_cast-all
cast_all c = search rules

start_requires : tie.Need-start-requires
start_requires c κs = search rules

put_rows_requires : tie.Need-put_rows-last-requires
put_rows_requires c κs =
    let s = start (at_short c.before) in
    (((s.requires.0, omega arith), s.requires.1), c.before.start.ensures ∙ sym (last_first s.args.text.now s.args.file.now))

table_beside_requires : tie.Need-table_beside-requires
table_beside_requires c κs =
    let w = c.before.before in
    let s = start (at_short w.before.before) in
    let z : 0 + s.args.table.count ≡ s.args.table.count = omega arith in
    (s.requires.0, w.put_rows-last.ensures.1 ∙ ap (last_place s.args.text.now s.args.file.now) z)

same_length : tie.Need-shape_of-rows-in-Full
same_length c = search rules

returns : tie.Need-returns-in-Full
returns c =
    let w = c.before.before in
    let e = w.before.before in
    let f = at_full e in
    let a = (start f).args in
    let g = sym f.form_of.ensures ∙ e.in-Full.is in
    let r = sym (rows_full a.text.now a.file.now a.table g) in (
      sym (table_full a.text.now a.file.now a.table g),
      w.take_rows.ensures ∙ ap (λ (ws : List ℕ). ws ++ drop (words_per_row * a.table.count) a.rows.now) r,
    )

same_length_2 : tie.Need-shape_of-rows-in-Short
same_length_2 c = search rules

returns_2 : tie.Need-returns-in-Short
returns_2 c =
    let w = c.before.before.before in
    let s = start (at_short w.before.before) in
    let a = s.args in
    let l = agrees_long s.requires.0 in
    let n = count_is a.text.now a.file.now a.table s.requires.0.holds l in
    let r = all_rows a.text.now a.file.now a.table n in (
      c.table_beside.ensures,
      w.put_rows-last.ensures.0 ∙ ap (λ (ws : List ℕ). ws ++ drop (words_per_row * a.table.count) a.rows.now) r,
    )

pub take_beside_spec : {M : Type 1} → statement M
take_beside_spec =
    tie.close
    (tie.spec
    form_of_requires
    enum_told
    take_rows_requires
    enum_told_2
    cast_all
    start_requires
    put_rows_requires
    table_beside_requires
    same_length
    returns
    same_length_2
    returns_2)
