-- What the leaves of the token reader answer: words packed, digits with what they spell, and strings by the index that settles them.
use Rattle.std.specs.Prelude.{Bool, true, false, cond, List, [], ◌∷◌, Result, Ok, Err, ℕ, suc, ◌+◌, ◌-◌, min, take, eqb}
use Rattle.rules.specs.Text.{front, byte}
use Rattle.rules.specs.Lex.{is_word, is_digit, is_hex_digit, digit_value, spelt, largest, is_escape}
use Rattle.scan_words.specs.Words.{packed_of, packable}
use Rattle.scan_runs.specs.declared.Word.{Word}
use Rattle.scan_runs.specs.declared.Digits.{Digits}
use Rattle.scan_runs.specs.declared.Unclosed.{Unclosed}
use Rattle.scan_runs.specs.declared.Unclosed.TheVariants.{Open, Escape}

-- ---- a word

-- the letters, digits and underscores at the front
abbrev pub word_front : List ℕ → List ℕ
word_front s = take (front is_word s) s

-- the first n of them at most, packed behind bytes that are packed into v
unfoldable pub packed_front : ℕ → ℕ → List ℕ → ℕ
packed_front v n s = packed_of v (take n (word_front s))

-- of a word's bytes those that fit a number are packed, which tell the slot of a reserved word
unfoldable pub word_of : ℕ → List ℕ → Word
word_of at s = record { end = at + front is_word s; packed = packed_front 0 packable s }

-- ---- digits, decimal or hex

unfoldable pub digit_in : Bool → ℕ → Bool
digit_in hex b = cond hex (is_hex_digit b) (is_digit b)

abbrev pub base_of : Bool → ℕ
base_of hex = cond hex 16 10

-- what a byte is worth as a hex digit, and 16 for any other
unfoldable pub digit_of : ℕ → ℕ
digit_of b = cond (is_hex_digit b) (digit_value b) 16

-- numbers over the largest are not told apart
unfoldable pub clipped : ℕ → ℕ
clipped v = min v (suc largest)

-- what the digits at the front spell, behind digits that spell v
unfoldable pub spelt_front : Bool → ℕ → List ℕ → ℕ
spelt_front hex v s = clipped (spelt (base_of hex) v (take (front (digit_in hex) s) s))

unfoldable pub digits_of : Bool → ℕ → List ℕ → Digits
digits_of hex at s = record { end = at + front (digit_in hex) s; value = spelt_front hex 0 s }

-- ---- a string behind its opening quote

-- where it closes, or why it does not
abbrev pub Quoted : Type 0
Quoted = Result ℕ Unclosed

-- i: the index of the first byte of s; escaped: the byte before it is a backslash that escapes it
unfoldable pub quoted_from : (escaped : Bool) → ℕ → List ℕ → Quoted
quoted_from escaped i [] = Err (Open i)
quoted_from false i (b ∷ s) =
    elim (eqb b (byte "\"")) [
      | true ↦ Ok i
      | false ↦ elim (eqb b (byte "\n")) [
        | true ↦ Err (Open i)
        | false ↦ elim (eqb b (byte "\\")) [ true ↦ quoted_from true (suc i) s | false ↦ quoted_from false (suc i) s ]
      ]
    ]
quoted_from true i (b ∷ s) = elim (is_escape b) [ true ↦ quoted_from false (suc i) s | false ↦ Err (Escape (i - 1)) ]
