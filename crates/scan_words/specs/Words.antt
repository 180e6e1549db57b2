-- The reserved words as one table of fixed arrays: spellings padded to eight bytes, their lengths and their kinds.
use Rattle.std.specs.Prelude.{List, [], ◌∷◌, ◌++◌, map, ℕ, ◌+◌, ◌*◌, ◌%◌, ◌^◌, length, take, get_or}
use Rattle.rules.specs.Text.{bytes}
use Rattle.rules.specs.Kinds.{Spelt, reserved}
use Rattle.scan_words.specs.declared.words.Held.{Held}

abbrev pub padded : Spelt → List ℕ
padded e = take 8 (e.spelling ++ bytes "        ")

abbrev pub long : Spelt → ℕ
long e = length e.spelling

abbrev pub kind_of : Spelt → ℕ
kind_of e = e.kind

-- Bytes as one number of 64 bits, the last byte lowest, behind bytes that are packed into v.
unfoldable pub packed_of : ℕ → List ℕ → ℕ
packed_of v [] = v
packed_of v (b ∷ s) = packed_of (v % 2 ^ 56 * 256 + b) s

-- so many bytes of a word are packed
abbrev pub packable : ℕ
packable = 8

-- what the table has of a word, and of the word at a place
abbrev pub held_of : Spelt → Held
held_of e = record { spelling = packed_of 0 (padded e); length = long e; kind = kind_of e }

unfoldable pub held_at : ℕ → Held
held_at i =
    record {
      spelling = packed_of 0 (get_or (map padded reserved) i []);
      length = get_or (map long reserved) i 0;
      kind = get_or (map kind_of reserved) i 0;
    }
