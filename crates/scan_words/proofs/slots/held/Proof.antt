-- `slots::held` meets its contract: at each key by computing, and at any other number no word stands.
use mathlib.Core.Path.{◌≡◌, sym, ◌∙◌}
use mathlib.Core.List.{List, [], ◌∷◌}
use Prim.Native.Nat.{ℕ}
use borrow.Author.Tests.{ne_eqb}
use borrow.Author.Rules.{rules}
use Rattle.rules.specs.Kinds.{reserved}
use Rattle.scan_words.specs.Words.{packed_of, held_at}
use Rattle.scan_words.specs.Slots.{held_in}
use Rattle.scan_words.proofs.Telling.{taken, empty, empty_slot}
use Rattle.scan_words.proofs.slots.held.Statement.{statement}
use Rattle.scan_words.proofs.slots.held.Tie as tie

-- the keys of the match, the last first, and that a number is none of them
abbrev NoneOf : List ℕ → ℕ → Type 0
NoneOf [] i = Unit {0}
NoneOf (k ∷ ks) i = NoneOf ks i × (i ≡ k → ⊥)

abbrev keys : List ℕ
keys = 44 ∷ 41 ∷ 39 ∷ 38 ∷ 36 ∷ 35 ∷ 33 ∷ 31 ∷ 29 ∷ 28 ∷ 24 ∷ 22 ∷ 19 ∷ 18 ∷ 15 ∷ 14 ∷ 13 ∷ 12 ∷ 11 ∷ 6 ∷ 2 ∷ []

-- at any other number no word stands
none : (i : ℕ) → NoneOf keys i → held_in reserved i ≡ empty
unfolding taken reserved packed_of
none i h = empty_slot reserved i
    (simp (
      ne_eqb 44 i (λ e. h.1 (sym e)),
      ne_eqb 41 i (λ e. h.0.1 (sym e)),
      ne_eqb 39 i (λ e. h.0.0.1 (sym e)),
      ne_eqb 38 i (λ e. h.0.0.0.1 (sym e)),
      ne_eqb 36 i (λ e. h.0.0.0.0.1 (sym e)),
      ne_eqb 35 i (λ e. h.0.0.0.0.0.1 (sym e)),
      ne_eqb 33 i (λ e. h.0.0.0.0.0.0.1 (sym e)),
      ne_eqb 31 i (λ e. h.0.0.0.0.0.0.0.1 (sym e)),
      ne_eqb 29 i (λ e. h.0.0.0.0.0.0.0.0.1 (sym e)),
      ne_eqb 28 i (λ e. h.0.0.0.0.0.0.0.0.0.1 (sym e)),
      ne_eqb 24 i (λ e. h.0.0.0.0.0.0.0.0.0.0.1 (sym e)),
      ne_eqb 22 i (λ e. h.0.0.0.0.0.0.0.0.0.0.0.1 (sym e)),
      ne_eqb 19 i (λ e. h.0.0.0.0.0.0.0.0.0.0.0.0.1 (sym e)),
      ne_eqb 18 i (λ e. h.0.0.0.0.0.0.0.0.0.0.0.0.0.1 (sym e)),
      ne_eqb 15 i (λ e. h.0.0.0.0.0.0.0.0.0.0.0.0.0.0.1 (sym e)),
      ne_eqb 14 i (λ e. h.0.0.0.0.0.0.0.0.0.0.0.0.0.0.0.1 (sym e)),
      ne_eqb 13 i (λ e. h.0.0.0.0.0.0.0.0.0.0.0.0.0.0.0.0.1 (sym e)),
      ne_eqb 12 i (λ e. h.0.0.0.0.0.0.0.0.0.0.0.0.0.0.0.0.0.1 (sym e)),
      ne_eqb 11 i (λ e. h.0.0.0.0.0.0.0.0.0.0.0.0.0.0.0.0.0.0.1 (sym e)),
      ne_eqb 6 i (λ e. h.0.0.0.0.0.0.0.0.0.0.0.0.0.0.0.0.0.0.0.1 (sym e)),
      ne_eqb 2 i (λ e. h.0.0.0.0.0.0.0.0.0.0.0.0.0.0.0.0.0.0.0.0.1 (sym e)),
    ))

word_at_requires : tie.Need-word_at-requires
word_at_requires c κs = search rules

word_at_requires_2 : tie.Need-word_at-requires-in-6
word_at_requires_2 c κs = search rules

word_at_requires_3 : tie.Need-word_at-requires-in-11
word_at_requires_3 c κs = search rules

word_at_requires_4 : tie.Need-word_at-requires-in-12
word_at_requires_4 c κs = search rules

word_at_requires_5 : tie.Need-word_at-requires-in-13
word_at_requires_5 c κs = search rules

word_at_requires_6 : tie.Need-word_at-requires-in-14
word_at_requires_6 c κs = search rules

word_at_requires_7 : tie.Need-word_at-requires-in-15
word_at_requires_7 c κs = search rules

word_at_requires_8 : tie.Need-word_at-requires-in-18
word_at_requires_8 c κs = search rules

word_at_requires_9 : tie.Need-word_at-requires-in-19
word_at_requires_9 c κs = search rules

word_at_requires_10 : tie.Need-word_at-requires-in-22
word_at_requires_10 c κs = search rules

word_at_requires_11 : tie.Need-word_at-requires-in-24
word_at_requires_11 c κs = search rules

word_at_requires_12 : tie.Need-word_at-requires-in-28
word_at_requires_12 c κs = search rules

word_at_requires_13 : tie.Need-word_at-requires-in-29
word_at_requires_13 c κs = search rules

word_at_requires_14 : tie.Need-word_at-requires-in-31
word_at_requires_14 c κs = search rules

word_at_requires_15 : tie.Need-word_at-requires-in-33
word_at_requires_15 c κs = search rules

word_at_requires_16 : tie.Need-word_at-requires-in-35
word_at_requires_16 c κs = search rules

word_at_requires_17 : tie.Need-word_at-requires-in-36
word_at_requires_17 c κs = search rules

word_at_requires_18 : tie.Need-word_at-requires-in-38
word_at_requires_18 c κs = search rules

word_at_requires_19 : tie.Need-word_at-requires-in-39
word_at_requires_19 c κs = search rules

word_at_requires_20 : tie.Need-word_at-requires-in-41
word_at_requires_20 c κs = search rules

word_at_requires_21 : tie.Need-word_at-requires-in-44
word_at_requires_21 c κs = search rules

returns : tie.Need-returns-in-2
unfolding held_at held_in reserved packed_of
returns c = c.word_at.ensures ∙ rw c.before.in-2.is

returns_2 : tie.Need-returns-in-6
unfolding held_at held_in reserved packed_of
returns_2 c = c.word_at-in-6.ensures ∙ rw c.before.in-6.is

returns_3 : tie.Need-returns-in-11
unfolding held_at held_in reserved packed_of
returns_3 c = c.word_at-in-11.ensures ∙ rw c.before.in-11.is

returns_4 : tie.Need-returns-in-12
unfolding held_at held_in reserved packed_of
returns_4 c = c.word_at-in-12.ensures ∙ rw c.before.in-12.is

returns_5 : tie.Need-returns-in-13
unfolding held_at held_in reserved packed_of
returns_5 c = c.word_at-in-13.ensures ∙ rw c.before.in-13.is

returns_6 : tie.Need-returns-in-14
unfolding held_at held_in reserved packed_of
returns_6 c = c.word_at-in-14.ensures ∙ rw c.before.in-14.is

returns_7 : tie.Need-returns-in-15
unfolding held_at held_in reserved packed_of
returns_7 c = c.word_at-in-15.ensures ∙ rw c.before.in-15.is

returns_8 : tie.Need-returns-in-18
unfolding held_at held_in reserved packed_of
returns_8 c = c.word_at-in-18.ensures ∙ rw c.before.in-18.is

returns_9 : tie.Need-returns-in-19
unfolding held_at held_in reserved packed_of
returns_9 c = c.word_at-in-19.ensures ∙ rw c.before.in-19.is

returns_10 : tie.Need-returns-in-22
unfolding held_at held_in reserved packed_of
returns_10 c = c.word_at-in-22.ensures ∙ rw c.before.in-22.is

returns_11 : tie.Need-returns-in-24
unfolding held_at held_in reserved packed_of
returns_11 c = c.word_at-in-24.ensures ∙ rw c.before.in-24.is

returns_12 : tie.Need-returns-in-28
unfolding held_at held_in reserved packed_of
returns_12 c = c.word_at-in-28.ensures ∙ rw c.before.in-28.is

returns_13 : tie.Need-returns-in-29
unfolding held_at held_in reserved packed_of
returns_13 c = c.word_at-in-29.ensures ∙ rw c.before.in-29.is

returns_14 : tie.Need-returns-in-31
unfolding held_at held_in reserved packed_of
returns_14 c = c.word_at-in-31.ensures ∙ rw c.before.in-31.is

returns_15 : tie.Need-returns-in-33
unfolding held_at held_in reserved packed_of
returns_15 c = c.word_at-in-33.ensures ∙ rw c.before.in-33.is

returns_16 : tie.Need-returns-in-35
unfolding held_at held_in reserved packed_of
returns_16 c = c.word_at-in-35.ensures ∙ rw c.before.in-35.is

returns_17 : tie.Need-returns-in-36
unfolding held_at held_in reserved packed_of
returns_17 c = c.word_at-in-36.ensures ∙ rw c.before.in-36.is

returns_18 : tie.Need-returns-in-38
unfolding held_at held_in reserved packed_of
returns_18 c = c.word_at-in-38.ensures ∙ rw c.before.in-38.is

returns_19 : tie.Need-returns-in-39
unfolding held_at held_in reserved packed_of
returns_19 c = c.word_at-in-39.ensures ∙ rw c.before.in-39.is

returns_20 : tie.Need-returns-in-41
unfolding held_at held_in reserved packed_of
returns_20 c = c.word_at-in-41.ensures ∙ rw c.before.in-41.is

returns_21 : tie.Need-returns-in-44
unfolding held_at held_in reserved packed_of
returns_21 c = c.word_at-in-44.ensures ∙ rw c.before.in-44.is

returns_22 : tie.Need-returns-in_default
unfolding empty
returns_22 c = sym (none c.before.args.slot c.in_default.in_default-own.rest)

pub held_spec : {M : Type 1} → statement M
held_spec =
    tie.close
    (tie.spec
    word_at_requires
    word_at_requires_2
    word_at_requires_3
    word_at_requires_4
    word_at_requires_5
    word_at_requires_6
    word_at_requires_7
    word_at_requires_8
    word_at_requires_9
    word_at_requires_10
    word_at_requires_11
    word_at_requires_12
    word_at_requires_13
    word_at_requires_14
    word_at_requires_15
    word_at_requires_16
    word_at_requires_17
    word_at_requires_18
    word_at_requires_19
    word_at_requires_20
    word_at_requires_21
    returns
    returns_2
    returns_3
    returns_4
    returns_5
    returns_6
    returns_7
    returns_8
    returns_9
    returns_10
    returns_11
    returns_12
    returns_13
    returns_14
    returns_15
    returns_16
    returns_17
    returns_18
    returns_19
    returns_20
    returns_21
    returns_22)
