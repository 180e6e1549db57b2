-- Laws of words: a map's lines that are left out, and the forms of fields.
use mathlib.Core.Path.{◌≡◌, sym, ap}
use mathlib.Core.List.{List, [], ◌++◌}
use Prim.Native.Nat.{ℕ}
use native.Mathlib.Omega.{arith}
use borrow.Author.Tests.{eq-eqb, ne_eqb}
use Rattle.rules.specs.Text.{bytes}
use Rattle.rules_decimal.specs.Decimal.{signed}
use Rattle.layout_back.specs.Words.{number_of}
use Rattle.layout_words.specs.Words.{type_word, typed_line, field_words}

pub typed_none : (head : List ℕ) (n : ℕ) → n ≡ 0 → [] ≡ typed_line head n
unfolding typed_line
typed_none head n e = sym (rw (eq-eqb n 0 e))

pub typed_one : (head : List ℕ) (n : ℕ) → (n ≡ 0 → ⊥) → head ++ (type_word n ++ bytes ";\n") ≡ typed_line head n
unfolding typed_line
typed_one head n e = sym (rw (ne_eqb n 0 e))

-- a number of one word
pub low_only : (max : ℕ) → signed (number_of max 0) ++ bytes " " ≡ signed max ++ bytes " "
low_only max = let e : number_of max 0 ≡ max = omega arith in ap (λ (n : ℕ). signed n ++ bytes " ") e

-- the forms of an event's fields
pub plain_words : (form type length : ℕ) → form ≡ 1 → bytes ": " ++ (type_word type ++ bytes ";\n") ≡ field_words form type length
unfolding field_words
plain_words form type length e = sym (rw (eq-eqb form 1 e))

pub bytes_words : (form type length : ℕ) → form ≡ 2 → bytes ": bytes [ " ++ ((signed length ++ bytes " ") ++ bytes "] ;\n")
    ≡ field_words form type length
unfolding field_words
bytes_words form type length e = sym (rw e)

pub array_words : (form type length : ℕ) → (form ≡ 1 → ⊥) → (form ≡ 2 → ⊥)
    → bytes ": " ++ (type_word type ++ (bytes "[ " ++ ((signed length ++ bytes " ") ++ bytes "] ;\n"))) ≡ field_words form type length
unfolding field_words
array_words form type length d e = sym (rw (ne_eqb form 1 d, ne_eqb form 2 e))
