-- The one layout of eight words in which every answer of the outer face is given, and in which a table is lent:
-- refusal number (0 if none), its offset, line and column, two words that it tells, a count, a length.
use Rattle.std.specs.Prelude.{Result, Ok, Err, Bool, true, cond, List, [], ◌∷◌, ℕ, ◌+◌, ◌*◌, get_or, eqb, None, Some}
use Rattle.rules.specs.Rows.{at_end, at_start, words_per_row}
use Rattle.rules.specs.declared.Cursor.{Cursor}
use Rattle.rules.specs.Outcomes.{Ending, halt, Told, Judged, Parsed}
use Rattle.rules.specs.declared.Outer.{Outer}
use Rattle.rules.specs.declared.Table.{Table}
use Rattle.rules.specs.declared.Syntax.{Syntax}
use Rattle.rules.specs.declared.Reason.{Reason}
use Rattle.rules.specs.declared.Reason.TheVariants as reason
use Rattle.rules.specs.Text.{place, start_place}
use Rattle.rules.specs.Refusals.{outer_number, lexical_number, syntax_number, first_told, second_told}
use Rattle.rules.specs.Calls.{spelling_judged}
use Rattle.rules.specs.Back.{is_lexical, lexical_of}

-- number, place, two words told, count, length
abbrev pub words : ℕ → Cursor → ℕ → ℕ → ℕ → ℕ → List ℕ
words number p x y count length =
    number ∷ p.offset.0 ∷ p.line.0 ∷ p.column.0 ∷ x ∷ y ∷ count ∷ length ∷ []

abbrev pub nowhere : Cursor
nowhere = place 0 0 0

-- ---- answers

abbrev pub ending_words : ℕ → ℕ → Ending → List ℕ
ending_words count length None = words 0 nowhere 0 0 count length
ending_words count length (Some e) = words (lexical_number e.why) e.at 0 0 count length

abbrev pub told_words : Told → List ℕ
told_words (Ok t) = ending_words t.count t.length t.ending
told_words (Err e) = words (outer_number e.why) e.at 0 0 e.rows 0

abbrev pub outer_words : Outer → List ℕ
outer_words why = words (outer_number why) start_place 0 0 0 0

-- the part from x to y
abbrev pub judged_words : ℕ → ℕ → Judged → List ℕ
judged_words x y (Ok _) = words 0 nowhere x y 0 0
judged_words x y (Err e) = words (outer_number e.why) e.at 0 0 0 0

abbrev pub asked_words : Result ℕ Outer → List ℕ
asked_words (Ok n) = words 0 nowhere n 0 0 0
asked_words (Err why) = outer_words why

-- the place itself, with number 0
abbrev pub restart_words : Result Cursor Outer → List ℕ
restart_words (Ok p) = words 0 p 0 0 0 0
restart_words (Err why) = outer_words why

-- the kind that was found stands last
abbrev pub syntax_words : Syntax → Cursor → ℕ → List ℕ
syntax_words why p found = words (syntax_number why) p (first_told why) (second_told why) 0 found

abbrev pub reason_words : Reason → Cursor → ℕ → List ℕ
reason_words (reason.Outer why) p found = words (outer_number why) p 0 0 0 0
reason_words (reason.Lexical why) p found = words (lexical_number why) p 0 0 0 0
reason_words (reason.Syntax why) p found = syntax_words why p found

abbrev pub parsed_words : Parsed → List ℕ
parsed_words (Ok n) = words 0 nowhere 0 0 n 0
parsed_words (Err e) = reason_words e.why e.at e.found

-- ---- a table that is lent in the words in which it was told

-- 0, or 11 to 17
unfoldable pub is_ending : ℕ → Bool
is_ending number = cond (eqb number 0) true (is_lexical number)

abbrev pub ending_of : List ℕ → Ending
ending_of ws =
    cond (eqb (get_or ws 0 0) 0) None (Some (halt (lexical_of (get_or ws 0 0)) (place (get_or ws 1 0) (get_or ws 2 0) (get_or ws 3 0))))

-- Words whose first is no ending tell no table: their length is one that no text has, so no call takes them for well formed.
unfoldable pub length_of : List ℕ → ℕ
length_of ws = cond (is_ending (get_or ws 0 0)) (get_or ws 7 0) 4294967295

abbrev pub table_of : List ℕ → Table
table_of ws = record { count = get_or ws 6 0; length = length_of ws; ending = ending_of ws }

-- the spelling's start and end
abbrev pub spelling_words : List ℕ → List ℕ → Table → ℕ → List ℕ
spelling_words t ws tbl row = judged_words (get_or ws (row * words_per_row + at_start) 0) (get_or ws (row * words_per_row + at_end) 0) (spelling_judged t ws tbl row)
