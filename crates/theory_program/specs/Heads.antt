-- Declarations by the tokens at their heads: `map`, `event` and `unit` stand nowhere else in a program.
use Rattle.std.specs.Prelude.{ℕ, suc, Bool, true, false, cond, not, ◌&&◌, ◌||◌, List, [], ◌∷◌, eqb, get_or}
use Rattle.rules.specs.Kinds.{KeywordUnit, KeywordMap, KeywordEvent, Eof}
use Rattle.rules.specs.Tree.{Tok, sign, name, string, value, kind_of, spelling_of}
use Rattle.rules_program.specs.Names.{Name}

-- whether a row of this kind begins a map or an event, or a unit
abbrev pub is_naming : ℕ → Bool
is_naming k = eqb k KeywordMap || eqb k KeywordEvent

abbrev pub is_head : ℕ → Bool
is_head k = is_naming k || eqb k KeywordUnit

-- the names behind the heads of maps and events among tokens from row i on
unfoldable pub names_in : ℕ → List Tok → List Name
names_in i [] = []
names_in i (x ∷ xs) =
    cond (is_naming (kind_of x)) (record { name = spelling_of (get_or xs 0 (sign Eof)); row = suc i } ∷ names_in (suc i) xs) (names_in (suc i) xs)

-- the rows of the heads of units
unfoldable pub units_in : ℕ → List Tok → List ℕ
units_in i [] = []
units_in i (x ∷ xs) = cond (eqb (kind_of x) KeywordUnit) (i ∷ units_in (suc i) xs) (units_in (suc i) xs)

-- tokens among which is no head
unfoldable pub no_head : List Tok → Bool
no_head [] = true
no_head (x ∷ xs) = not (is_head (kind_of x)) && no_head xs

-- a name's token
unfoldable pub is_name : Tok → Bool
is_name (sign k) = false
is_name (name w) = true
is_name (string w) = false
is_name (value v) = false

-- tokens among which each head of a map or an event is followed by a name
unfoldable pub headed : List Tok → Bool
headed [] = true
headed (x ∷ xs) = (not (is_naming (kind_of x)) || is_name (get_or xs 0 (sign Eof))) && headed xs
