-- `is_sound` meets its contract: each part that is wrong refuses the block, and the check is the last.
use mathlib.Core.Path.{◌≡◌, sym, ◌∙◌}
use mathlib.Core.Bool.{true≢false}
use Prim.Native.Nat.{◌+◌, ◌-◌}
use native.Mathlib.Omega.{arith}
use lib.ListN.{take, drop}
use borrow.Author.Tests.{not-true, not-false}
use Rattle.laws.proofs.Tests.{false_by}
use Rattle.rules_files.specs.Blocks.{zeros, sound}
use Rattle.theory_files.proofs.One.{sound_holds}
use Rattle.file_blocks.proofs.Laws.{sound_last}
use borrow.Author.Rules.{rules}
use Rattle.file_blocks.proofs.is_sound.Statement.{statement}
use Rattle.file_blocks.proofs.is_sound.Tie as tie

-- ---- the places on the way: the function's entry, as it is seen from behind each look

abbrev start : tie.After-half_at → tie.Start
start c = c.before.before

abbrev at_rows : tie.After-half_at-2 → tie.After-half_at
at_rows c = c.before.before

abbrev at_filler : tie.After-is_filler → tie.After-half_at-2
at_filler c = c.before.before

half_at_requires : tie.Need-half_at-requires
half_at_requires c κs = search rules

returns : tie.Need-returns-then-half_at-k
returns c =
    let a = (start c.before).args in
    let holds = sound_holds a.k a.n a.size a.bytes.now in
    sym (false_by (sound a.k a.n a.size a.bytes.now) (λ t. c.if-half_at-k.true (c.before.half_at.ensures ∙ (holds t).number_is)))

half_at_requires_2 : tie.Need-half_at-requires-2
half_at_requires_2 c κs = search rules

returns_2 : tie.Need-returns-then-half_at-n
returns_2 c =
    let a = (start (at_rows c.before)).args in
    let holds = sound_holds a.k a.n a.size a.bytes.now in
    sym (false_by (sound a.k a.n a.size a.bytes.now) (λ t. c.if-half_at-n.true (c.before.half_at-2.ensures ∙ (holds t).rows_are)))

add_is_filler : tie.Need-overflow_add-size
add_is_filler c = search rules

is_filler_requires : tie.Need-is_filler-requires
is_filler_requires c κs = search rules

-- what was told of the filler
filler_is : (c : tie.After-is_filler) →
    let a = (start (at_rows (at_filler c))).args in
    c.is_filler.result ≡ zeros (take (504 - a.size) (drop (4 + a.size) a.bytes.now))
filler_is c =
    let a = (start (at_rows (at_filler c))).args in
    let e : 508 - (4 + a.size) ≡ 504 - a.size = omega arith in
    c.is_filler.ensures ∙ rw e

returns_3 : tie.Need-returns-then-not-is_filler
returns_3 c =
    let a = (start (at_rows (at_filler c.before))).args in
    let holds = sound_holds a.k a.n a.size a.bytes.now in
    let f = sym (filler_is c.before) ∙ not-true c.before.is_filler.result c.if-not-is_filler.true-raw in
    sym (false_by (sound a.k a.n a.size a.bytes.now) (λ t. true≢false (sym (holds t).filler ∙ f)))

word_at_requires : tie.Need-word_at-requires
word_at_requires c κs = search rules

check_of_requires : tie.Need-check_of-requires
check_of_requires c κs = search rules

returns_4 : tie.Need-returns
returns_4 c =
    let e = c.before.before in
    let i = e.before in
    let g = at_filler i in
    let h = at_rows g in
    let a = (start h).args in
    let number = sym h.half_at.ensures ∙ g.before.if-half_at-k.false in
    let rows = sym g.half_at-2.ensures ∙ i.before.if-half_at-n.false in
    let f = sym (filler_is i) ∙ not-false i.is_filler.result e.if-not-is_filler.false-raw in
    rw (c.before.word_at.ensures, c.check_of.ensures)
    (sym (sound_last a.k a.n a.size a.bytes.now number rows f))

pub is_sound_spec : {M : Type 1} → statement M
is_sound_spec =
    tie.close
    (tie.spec
    half_at_requires
    returns
    half_at_requires_2
    returns_2
    add_is_filler
    is_filler_requires
    returns_3
    word_at_requires
    check_of_requires
    returns_4)
