-- `told` meets its contract, a law for each way out.
use mathlib.Core.Path.{◌≡◌, sym, ap, ◌∙◌}
use borrow.Author.Tests.{not-true, not-false}
use Rattle.rules_files.specs.Blocks.{file_length}
use Rattle.rules_files.specs.Files.{row_bytes, count_said, said_told, load_told}
use Rattle.theory_files.proofs.Said.{told_short, told_bad, told_said, told_other, told_cut, told_blocks as blocks_told}
use Rattle.file_load.proofs.Answers.{full_blocks}
use borrow.Author.Rules.{rules}
use Rattle.file_load.proofs.told.Statement.{statement}
use Rattle.file_load.proofs.told.Tie as tie

-- ---- the places on the way: the function's entry, block 0 is sound, and it says form 1

abbrev start : tie.Else-file-lt-BLOCK → tie.Start
start c = c.before.before

abbrev is_long : tie.Else-not-is_sound → tie.Else-file-lt-BLOCK
is_long c = c.before.before.before

abbrev is_sound : tie.Else-word_at-ne-NUMBER → tie.Else-not-is_sound
is_sound c = c.before.before

abbrev is_full : tie.After-length_for → tie.Else-word_at-ne-NUMBER
is_full c = c.before.before

-- block 0 is sound
said : (c : tie.Else-not-is_sound) → let a = (start (is_long c)).args in load_told a.file.now a.room ≡ said_told a.file.now a.room
said c =
    let i = c.before in
    let e = is_long c in
    let a = (start e).args in
    told_said a.file.now a.room e.if-file-lt-BLOCK.false (sym i.is_sound.ensures ∙ not-false i.is_sound.result c.if-not-is_sound.false-raw)

-- how long the file is to be
whole : (c : tie.After-length_for) →
    let a = (start (is_long (is_sound (is_full c)))).args in
    c.length_for.result ≡ file_length row_bytes (count_said a.file.now)
whole c = c.length_for.ensures ∙ ap (file_length row_bytes) c.before.word_at-count.ensures

returns : tie.Need-returns-then-file-lt-BLOCK
returns c = let a = c.before.before.args in sym (told_short a.file.now a.room c.if-file-lt-BLOCK.true)

sub_is_sound : tie.Need-slice_bounds-is_sound-count
sub_is_sound c = search rules

part_is_sound_start : tie.Need-slice_bounds-is_sound-start
part_is_sound_start c = search rules

part_is_sound_end : tie.Need-slice_bounds-is_sound-end
part_is_sound_end c = search rules

is_sound_requires : tie.Need-is_sound-requires
is_sound_requires c κs = search rules

returns_2 : tie.Need-returns-then-not-is_sound
returns_2 c =
    let i = c.before in
    let e = i.before.before in
    let a = (start e).args in
    sym (told_bad a.file.now a.room e.if-file-lt-BLOCK.false (sym i.is_sound.ensures ∙ not-true i.is_sound.result c.if-not-is_sound.true-raw))

word_at_requires : tie.Need-word_at-requires
word_at_requires c κs = search rules

returns_3 : tie.Need-returns-then-word_at-ne-NUMBER
returns_3 c =
    let w = c.before in
    let a = (start (is_long w.before)).args in
    sym (said w.before ∙ told_other a.file.now a.room (λ e. c.if-word_at-ne-NUMBER.true (w.word_at.ensures ∙ e)))

word_at_requires_2 : tie.Need-word_at-count-requires
word_at_requires_2 c κs = search rules

length_for_requires : tie.Need-length_for-requires
length_for_requires c κs = search rules

returns_4 : tie.Need-returns-then-file-length_for
returns_4 c =
    let l = c.before in
    let f = is_full l in
    let a = (start (is_long (is_sound f))).args in
    sym (said (is_sound f)
    ∙ told_cut a.file.now a.room (sym f.before.word_at.ensures ∙ f.if-word_at-ne-NUMBER.false) (λ e. c.if-file-length_for.true (e ∙ sym (whole l))))

told_blocks_requires : tie.Need-told_blocks-requires
told_blocks_requires c κs = search rules

returns_5 : tie.Need-returns
returns_5 c =
    let e = c.before in
    let l = e.before in
    let f = is_full l in
    let a = (start (is_long (is_sound f))).args in
    c.told_blocks.ensures ∙ full_blocks a.file.now a.room
    ∙ sym (said (is_sound f)
    ∙ blocks_told a.file.now a.room (sym f.before.word_at.ensures ∙ f.if-word_at-ne-NUMBER.false) (e.if-file-length_for.false ∙ whole l))

pub told_spec : {M : Type 1} → statement M
told_spec =
    tie.close
    (tie.spec
    returns
    sub_is_sound
    part_is_sound_start
    part_is_sound_end
    is_sound_requires
    returns_2
    word_at_requires
    returns_3
    word_at_requires_2
    length_for_requires
    returns_4
    told_blocks_requires
    returns_5)
