-- The reserved words, by slot: a word packed into a number, and each in the slot that its number says.
use Rattle.std.specs.Prelude.{Bool, true, cond, ◌&&◌, List, [], ◌∷◌, ℕ, ◌*◌, ◌/◌, ◌%◌, ◌^◌, eqb}
use Rattle.rules.specs.Kinds.{Spelt, Identifier}
use Rattle.scan_words.specs.declared.words.Held.{Held}
use Rattle.scan_words.specs.Words.{packed_of, held_of}

-- the slot of a word, and the word that it holds; an empty one has no bytes, and the kind of a word that is not reserved
abbrev pub slot_of : ℕ → ℕ
slot_of v = v / 2 % 45

unfoldable pub held_in : List Spelt → ℕ → Held
held_in [] i = record { spelling = 0; length = 0; kind = Identifier }
held_in (e ∷ es) i = cond (eqb (slot_of (packed_of 0 e.spelling)) i) (held_of e) (held_in es i)

-- whether bytes are the first of those that a number has, the highest first
unfoldable pub spells : ℕ → List ℕ → Bool
spells v [] = true
spells v (b ∷ w) = eqb (v / 2 ^ 56) b && spells (v % 2 ^ 56 * 256) w
