-- `mend_text` meets its contract, a law for each way out.
use mathlib.Core.Path.{◌≡◌, sym, ap, ◌∙◌}
use mathlib.Core.List.{List}
use Prim.Native.Nat.{ℕ, ◌≤◌, ◌<◌}
use native.Mathlib.Omega.{arith}
use lib.ListN.{length, take}
use lib.Seq.{length-take-le}
use borrow.Author.Rules.{rules}
use Rattle.rules.specs.declared.Cursor.{Cursor}
use Rattle.rules.specs.declared.Outer.TheVariants.{NoRowRoom}
use Rattle.rules.specs.declared.Table.{Table}
use Rattle.rules_files.specs.declared.Fault.TheVariants as fault
use Rattle.rules_files.specs.Files.{most_rows}
use Rattle.rules_forms.specs.Shapes.{number_of}
use Rattle.rules_mend.specs.Mend.{fresh_table, fresh_file, listed}
use Rattle.theory_mend.proofs.Mended.{MendOf}
use Rattle.theory_mend.proofs.Ways.{told_many, told_small}
use Rattle.file_survey.proofs.Surveyed.{length_is, length_small, listed_small}
use Rattle.file_mend.proofs.Told.{shown_all, small_says, room_says}
use Rattle.file_mend.proofs.Told.{known, refused, blocks, nothing}
use Rattle.file_mend.proofs.mend_text.Statement.{statement}
use Rattle.file_mend.proofs.mend_text.Tie as tie
use Rattle.file_mend.proofs.mend_text.Lts.{then-room-n, else-room-n}
use Rattle.std.specs.Prelude.{Err}

-- ---- the places on the way

abbrev entry_of : tie.Joined-room-n → tie.Start
entry_of c = c.before.before.before.before

abbrev shown : tie.After-survey-seen → tie.Joined-room-n
shown c = c.before

abbrev start : tie.After-survey-seen → tie.Start
start c = entry_of (shown c)

abbrev seen : tie.After-struct_known-1 → tie.After-survey-seen
seen c = c.before.before

abbrev sized : tie.After-struct_known-2-1 → tie.After-length_for-length
sized c = c.before

abbrev surveyed : tie.After-length_for-length → tie.After-survey-seen
surveyed c = seen c.before.before

abbrev fits : tie.After-struct_known-3-1 → tie.Else-room-length
fits c = c.before

abbrev at_length : tie.Else-room-length → tie.After-length_for-length
at_length c = sized c.before

abbrev to_mend : tie.After-mend_blocks → tie.Else-seen-eq0
to_mend c = c.before.before.before

abbrev mended_at : tie.After-slice_known-4-1 → tie.After-mend_blocks
mended_at c = c.before.before.before.before

-- ---- what is known there

there_inside : (c : tie.Joined-room-n) → c.if-room-n.there ≤ length (entry_of c).args.file.now
there_inside c = elim c.if-room-n.branch [ then-room-n w ↦ omega arith | else-room-n w ↦ omega arith ]

shows : (c : tie.Joined-room-n) → let a = (entry_of c).args in take c.if-room-n.there a.file.now ≡ take a.n a.file.now
shows c =
    let a = (entry_of c).args in
    elim c.if-room-n.branch [
      | then-room-n w ↦ ap (λ (x : ℕ). take x a.file.now) w.there-is ∙ shown_all a.file.now a.n w.if-room-n.true
      | else-room-n w ↦ ap (λ (x : ℕ). take x a.file.now) w.there-is
    ]

found : (c : tie.After-survey-seen) → let a = (start c).args in
    c.survey-seen.result.listed ≡ length (listed (fresh_file (number_of a.form) a.text.now) (take a.n a.file.now))
found c =
    let a = (start c).args in
    c.survey-seen.ensures.1 ∙ ap (λ (l : List ℕ). length (listed (fresh_file (number_of a.form) a.text.now) l)) (shows (shown c))

rows : (c : tie.After-survey-seen) → c.survey-seen.result.table.count ≡ (fresh_table (start c).args.text.now).count
rows c = ap (λ (t : Table). t.count) c.survey-seen.ensures.0

few : (c : tie.Else-table-gt-MOST_ROWS) → (fresh_table (start (seen c.before)).args.text.now).count ≤ most_rows
few c = omega (arith, c.if-table-gt-MOST_ROWS.false, rows (seen c.before))

size : (c : tie.After-length_for-length) → let a = (start (surveyed c)).args in
    c.length_for-length.result ≡ length (fresh_file (number_of a.form) a.text.now)
size c =
    let v = surveyed c in
    let a = (start v).args in
    length_is a.form a.text.now v.survey-seen.result.table _ v.survey-seen.ensures.0 c.length_for-length.ensures

small : (c : tie.After-length_for-length) → c.length_for-length.result ≤ 33555456
small c =
    let s = start (surveyed c) in
    omega (arith, size c, length_small s.args.form s.args.text.now s.requires)

mends : (c : tie.Else-room-length) → let v = surveyed (at_length c) in let a = (start v).args in
    MendOf a.text.now (number_of a.form) a.file.now a.n a.list.now
    (at_length c).length_for-length.result v.survey-seen.result.listed
mends c =
    let l = at_length c in
    let v = surveyed l in
    let s = start v in
    let a = s.args in
    let w = room_says a.form a.text.now a.file.now a.n a.list.now _ _ (size l) (found v) c.if-room-length.false in
    record {
      known = known a.form;
      fine = s.requires;
      few = few l.before;
      room = w.0.0;
      held = w.0.1;
      listing = w.1;
      size_is = sym (size l);
      count_is = sym (found v);
    }

slice_reshare_prefix_survey : tie.Need-slice_bounds-survey-end
slice_reshare_prefix_survey c = omega (arith, there_inside c)

slice_aggregate_survey : tie.Need-slice_bounds-survey-end-2
slice_aggregate_survey c = sym (length-take-le _ _ (omega (arith, there_inside c)))

survey_requires : tie.Need-survey-seen-requires
survey_requires c κs = search rules

start_requires : tie.Need-start-requires
start_requires c κs = search rules

same_length : tie.Need-shape_of-file-then-table-gt-MOST_ROWS
same_length c = search rules

returns : tie.Need-returns-then-table-gt-MOST_ROWS
returns c =
    let v = seen c.before.before in
    let s = start v in
    let a = s.args in
    let h : most_rows < (fresh_table a.text.now).count = omega (arith, c.before.if-table-gt-MOST_ROWS.true, rows v) in
    let t = told_many a.text.now (number_of a.form) a.file.now a.n a.list.now (known a.form) s.requires h in
    refused a.text.now (number_of a.form) a.file.now a.n a.list.now _ _
    (t ∙ ap (λ (p : Cursor). Err (record { why = fault.TooManyRows; at = p })) (sym c.start.ensures))

length_for_requires : tie.Need-length_for-length-requires
length_for_requires c κs = search rules

start_requires_2 : tie.Need-start-requires-then-room-length
start_requires_2 c κs = search rules

same_length_2 : tie.Need-shape_of-file-then-room-length
same_length_2 c = search rules

returns_2 : tie.Need-returns-then-room-length
returns_2 c =
    let b = c.before in
    let l = sized b.before in
    let v = surveyed l in
    let s = start v in
    let a = s.args in
    let e = small_says a.form a.text.now a.file.now a.n a.list.now _ _ (size l) (found v) b.if-room-length.true in
    let t = told_small a.text.now (number_of a.form) a.file.now a.n a.list.now
    (known a.form) s.requires (few l.before) e in
    refused a.text.now (number_of a.form) a.file.now a.n a.list.now _ _
    (t ∙ ap (λ (p : Cursor). Err (record { why = fault.Outer NoRowRoom; at = p })) (sym c.start-then-room-length.ensures))

cast_t25 : tie.Need-overflow_cast-result
cast_t25 c = omega (arith, small (at_length (fits c.before)))

same_length_3 : tie.Need-shape_of-file-then-seen-eq0
same_length_3 c = search rules

returns_3 : tie.Need-returns-then-seen-eq0
returns_3 c =
    let e = fits c.before in
    let a = (start (surveyed (at_length e))).args in
    nothing a.text.now (number_of a.form) a.file.now a.n a.list.now _ _ c.if-seen-eq0.true (mends e)

mend_blocks_requires : tie.Need-mend_blocks-requires
mend_blocks_requires c κs =
    let e = fits c.before.before.before in
    let v = surveyed (at_length e) in
    let m = mends e in
    ((m.fine, v.survey-seen.ensures.0), ((m.room, m.held), m.listing))

cast_t31 : tie.Need-overflow_cast-result-2
cast_t31 c = omega (arith, small (at_length (fits (to_mend (mended_at c)).before)))

cast_t32 : tie.Need-overflow_cast-result-3
cast_t32 c =
    let v = surveyed (at_length (fits (to_mend (mended_at c.before)).before)) in
    let s = start v in
    let a = s.args in
    omega (arith, found v, listed_small a.form a.text.now (take a.n a.file.now) s.requires)

same_length_4 : tie.Need-shape_of-file
same_length_4 c = search rules

same_length_5 : tie.Need-shape_of-list
same_length_5 c = search rules

returns_4 : tie.Need-returns
returns_4 c =
    let b = mended_at c.before in
    let e = fits (to_mend b).before in
    let l = at_length e in
    let a = (start (surveyed l)).args in
    let m = mends e in
    let w = b.mend_blocks.ensures in
    blocks a.text.now (number_of a.form) a.file.now a.n a.list.now _ _ _ _ m
    (rw m.size_is at w.0) (rw m.count_is at w.1)

pub mend_text_spec : {M : Type 1} → statement M
mend_text_spec =
    tie.close
    (tie.spec
    slice_reshare_prefix_survey
    slice_aggregate_survey
    survey_requires
    start_requires
    same_length
    returns
    length_for_requires
    start_requires_2
    same_length_2
    returns_2
    cast_t25
    same_length_3
    returns_3
    mend_blocks_requires
    cast_t31
    cast_t32
    same_length_4
    same_length_5
    returns_4)
