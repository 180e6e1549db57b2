-- "Refusal numbers", backwards: the lexical refusal that has a number, as an ending's first word has it where a table is
-- lent or stored.
use Rattle.std.specs.Prelude.{Bool, cond, ◌&&◌, ℕ, eqb, leb, Result, Ok, Err}
use Rattle.rules.specs.declared.Lexical.{Lexical}
use Rattle.rules.specs.declared.NotLexical.{NotLexical}
use Rattle.rules.specs.declared.Lexical.TheVariants.{NoRowBegins, LoneSign, NoHexDigit, OpenComment, OpenString, BadEscape, NumberTooLarge}

-- 11 to 17
abbrev pub is_lexical : ℕ → Bool
is_lexical number = leb 11 number && leb number 17

-- the refusal whose number it is
unfoldable pub lexical_of : ℕ → Lexical
lexical_of number =
    cond (eqb number 12) OpenComment
    (cond (eqb number 13) OpenString
    (cond (eqb number 14) BadEscape
    (cond (eqb number 15) NumberTooLarge (cond (eqb number 16) LoneSign (cond (eqb number 17) NoHexDigit NoRowBegins)))))

-- the refusal whose number it is, if it is one
abbrev pub lexical_from : ℕ → Result Lexical NotLexical
lexical_from number = cond (is_lexical number) (Ok (lexical_of number)) (Err (record { 0 = number }))
