-- `front::brief` meets its contract: by the class of the byte, the reader of its piece.
use mathlib.Core.Path.{◌≡◌, sym, ◌∙◌}
use Prim.Native.Nat.{ℕ, ◌<◌}
use native.Mathlib.Omega.{arith}
use lib.ListN.{get_or}
use Rattle.scan_words.specs.Class as class
use Rattle.scan_words.specs.Class.{class_of}
use Rattle.scan_words.proofs.Marks.{class_two, class_digit, mark_size, mark_class, low}
use Rattle.scan_reader.specs.Brief.{Rare}
use Rattle.scan_reader.proofs.Items.{chosen, told_end, told_short, told_class, told_sign}
use borrow.Author.Rules.{rules}
use Rattle.scan_reader.proofs.front.brief.Statement.{statement}
use Rattle.scan_reader.proofs.front.brief.Tie as tie

-- the byte is one
byte : (c : tie.After-shared_slice_known-2-1) → get_or c.before.before.before.args.text.now c.before.before.before.args.at 0 < 256
byte c = (c.shared_slice_known-2-1.given c.before.before.before.args.at).fits

-- the byte at the index, and what the table has of it
abbrev byte_at : tie.After-class-1 → ℕ
byte_at c = get_or c.before.before.before.before.args.text.now c.before.before.before.before.args.at 0

abbrev mark_at : tie.After-class-1 → ℕ
mark_at c = get_or c.before.before.before.before.args.classes.now (byte_at c) 0

class_is : (c : tie.After-class-1) (k : ℕ) → mark_at c ≡ k → k < 32 → class_of (byte_at c) ≡ k
class_is c k e l = mark_class c.before.before.before.before.requires.0 (byte_at c) (byte c.before.before) k e l

told_requires : tie.Need-told-requires
told_requires c κs = search rules

returns : tie.Need-returns-then-whole
returns c =
    let s = c.before.before.before.before in
    c.told.ensures ∙ sym (told_end s.args.whole s.args.text.now s.args.at c.before.before.if-text-at.true c.before.if-whole.true)

told_requires_2 : tie.Need-told-requires-then-text-at
told_requires_2 c κs = search rules

returns_2 : tie.Need-returns-then-text-at
returns_2 c =
    let s = c.before.before.before.before in
    c.told-then-text-at.ensures ∙ sym (told_short s.args.whole s.args.text.now s.args.at c.before.before.if-text-at.true c.before.if-whole.false)

shared_slice_read_class : tie.Need-bounds-text-at
shared_slice_read_class c = search rules

cast_class : tie.Need-overflow_cast-class
cast_class c = omega (arith, byte c)

element_copy_out_class : tie.Need-bounds-classes-text
element_copy_out_class c = byte c.before

word_requires : tie.Need-word-requires
word_requires c κs = search rules

returns_3 : tie.Need-returns-then-class-eq-LETTER
unfolding chosen
returns_3 c =
    let d = c.before.before in
    let s = d.before.before.before.before in
    c.word.ensures ∙ told_class s.args.whole s.args.text.now s.args.at d.before.before.if-text-at.false class.Letter (class_is d class.Letter c.before.if-class-eq-LETTER.true (omega arith))

sub_told : tie.Need-overflow_sub-class
sub_told c = search rules

cast_told : tie.Need-overflow_cast-class-then-class-gt-SIGNS
cast_told c =
    let d = c.before.before in
    let s = d.before.before.before.before in
    omega (arith, mark_size s.requires.0 (byte_at d) (byte d.before.before))

told_requires_3 : tie.Need-told-requires-then-class-gt-SIGNS
told_requires_3 c κs = search rules

returns_4 : tie.Need-returns-then-class-gt-SIGNS
returns_4 c =
    let d = c.before.before.before in
    let s = d.before.before.before.before in
    c.told-then-class-gt-SIGNS.ensures ∙ sym (told_sign s.args.whole s.args.text.now s.args.at d.before.before.if-text-at.false s.requires.0 (byte d.before.before) c.before.if-class-gt-SIGNS.true)

sign_requires : tie.Need-sign-requires
sign_requires c κs =
    let d = c.before.before.before in
    (d.before.before.if-text-at.false, class_two (byte_at d) (byte d.before.before) (class_is d class.Double c.if-class-eq-DOUBLE.true (omega arith)))

returns_5 : tie.Need-returns-then-class-eq-DOUBLE
unfolding chosen
returns_5 c =
    let d = c.before.before.before.before in
    let s = d.before.before.before.before in
    c.sign.ensures ∙ told_class s.args.whole s.args.text.now s.args.at d.before.before.if-text-at.false class.Double (class_is d class.Double c.before.if-class-eq-DOUBLE.true (omega arith))

plain_number_requires : tie.Need-plain_number-requires
plain_number_requires c κs =
    let d = c.before.before.before.before in
    (d.before.before.if-text-at.false, class_digit (byte_at d) (byte d.before.before) (class_is d class.Digit c.if-class-eq-DIGIT.true (omega arith)))

returns_6 : tie.Need-returns-then-class-eq-DIGIT
unfolding chosen
returns_6 c =
    let d = c.before.before.before.before.before in
    let s = d.before.before.before.before in
    c.plain_number.ensures ∙ told_class s.args.whole s.args.text.now s.args.at d.before.before.if-text-at.false class.Digit (class_is d class.Digit c.before.if-class-eq-DIGIT.true (omega arith))

rare_requires : tie.Need-rare-requires
rare_requires c κs =
    let d = c.before.before.before.before in
    let s = d.before.before.before.before in
    let m = low s.requires.0 (byte_at d) (byte d.before.before) c.before.before.if-class-gt-SIGNS.false in
    let small : mark_at d < 8 = omega arith in
    let rare : Rare (mark_at d) = record { no_word = c.before.before.before.if-class-eq-LETTER.false; no_number = c.if-class-eq-DIGIT.false; no_double = c.before.if-class-eq-DOUBLE.false; no_sign = λ e. omega arith } in
    (d.before.before.if-text-at.false, (m.0, rare))

returns_7 : tie.Need-returns
returns_7 c = search rules

pub brief_spec : {M : Type 1} → statement M
brief_spec =
    tie.close
    (tie.spec
    told_requires
    returns
    told_requires_2
    returns_2
    shared_slice_read_class
    cast_class
    element_copy_out_class
    word_requires
    returns_3
    sub_told
    cast_told
    told_requires_3
    returns_4
    sign_requires
    returns_5
    plain_number_requires
    returns_6
    rare_requires
    returns_7)
