-- `words_of` meets its contract, by cases of the ending.
use borrow.Author.Rules.{rules}
use Rattle.file_parts.proofs.words_of.Statement.{statement}
use Rattle.file_parts.proofs.words_of.Tie as tie

enum_told : tie.Need-enum_told-1
enum_told c = search rules

enum_known_ending : tie.Need-enum_known-ending
enum_known_ending c = search rules

lexical_number_requires : tie.Need-lexical_number-requires
lexical_number_requires c κs = search rules

returns : tie.Need-returns-in-None
returns c = rw c.in-None.is

returns_2 : tie.Need-returns-in-Some
returns_2 c = rw (c.before.in-Some.is, c.lexical_number.ensures)

pub words_of_spec : {M : Type 1} → statement M
words_of_spec =
    tie.close (tie.spec enum_told enum_known_ending lexical_number_requires returns returns_2)
