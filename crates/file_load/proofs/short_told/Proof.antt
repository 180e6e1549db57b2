-- `short_told` meets its contract, a law for each way out.
use mathlib.Core.Path.{◌≡◌, sym, ap, ◌∙◌}
use borrow.Author.Tests.{not-true, not-false}
use Rattle.rules_files.specs.Blocks.{file_length}
use Rattle.rules_files.specs.Files.{count_said}
use Rattle.rules_forms.specs.declared.Form.TheVariants.{Short}
use Rattle.rules_forms.specs.Short.{short_bytes, short_blocks, short_judged}
use Rattle.rules_forms.specs.Shapes.{blocks_in}
use Rattle.file_load.proofs.Answers.{short_bad, short_said, short_cut, short_whole}
use borrow.Author.Rules.{rules}
use Rattle.file_load.proofs.short_told.Statement.{statement}
use Rattle.file_load.proofs.short_told.Tie as tie

-- ---- the places on the way: the function's entry, and block 0 is sound

abbrev start : tie.After-is_sound → tie.Start
start c = c.before.before.before

abbrev is_sound : tie.After-length_for → tie.Else-not-is_sound
is_sound c = c.before.before

said : (c : tie.Else-not-is_sound) → let a = (start c.before).args in short_judged a.file.now ≡ short_blocks a.file.now
said c =
    let i = c.before in
    let s = start i in
    short_said s.args.file.now s.requires (sym i.is_sound.ensures ∙ not-false i.is_sound.result c.if-not-is_sound.false-raw)

-- how long the file is to be
whole : (c : tie.After-length_for) →
    let a = (start (is_sound c).before).args in
    c.length_for.result ≡ file_length short_bytes (count_said a.file.now)
whole c = c.length_for.ensures ∙ ap (file_length short_bytes) c.before.word_at-count.ensures

sub_is_sound : tie.Need-slice_bounds-is_sound-count
sub_is_sound c = search rules

part_is_sound_start : tie.Need-slice_bounds-is_sound-start
part_is_sound_start c = search rules

part_is_sound_end : tie.Need-slice_bounds-is_sound-end
part_is_sound_end c = search rules

is_sound_requires : tie.Need-is_sound-requires
is_sound_requires c κs = search rules

returns : tie.Need-returns-then-not-is_sound
returns c =
    let i = c.before in
    let s = start i in
    sym (short_bad s.args.file.now s.requires (sym i.is_sound.ensures ∙ not-true i.is_sound.result c.if-not-is_sound.true-raw))

word_at_requires : tie.Need-word_at-count-requires
word_at_requires c κs = search rules

length_for_requires : tie.Need-length_for-requires
length_for_requires c κs = search rules

returns_2 : tie.Need-returns-then-file-length_for
returns_2 c =
    let l = c.before in
    let f = is_sound l in
    sym (said f ∙ short_cut (start f.before).args.file.now (λ e. c.if-file-length_for.true (e ∙ sym (whole l))))

cast_told_blocks : tie.Need-overflow_cast-count
cast_told_blocks c = search rules

told_blocks_requires : tie.Need-told_blocks-requires
told_blocks_requires c κs = search rules

returns_3 : tie.Need-returns
returns_3 c =
    let e = c.before in
    let l = e.before in
    let f = is_sound l in
    let a = (start f.before).args in
    c.told_blocks.ensures ∙ ap (blocks_in Short a.file.now) l.before.word_at-count.ensures
    ∙ sym (said f ∙ short_whole a.file.now (e.if-file-length_for.false ∙ whole l))

pub short_told_spec : {M : Type 1} → statement M
short_told_spec =
    tie.close
    (tie.spec
    sub_is_sound
    part_is_sound_start
    part_is_sound_end
    is_sound_requires
    returns
    word_at_requires
    length_for_requires
    returns_2
    cast_told_blocks
    told_blocks_requires
    returns_3)
