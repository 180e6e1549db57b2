-- `ending_in` meets its contract, by cases of the form.
use borrow.Author.Rules.{rules}
use Rattle.file_load.proofs.ending_in.Statement.{statement}
use Rattle.file_load.proofs.ending_in.Tie as tie

enum_told : tie.Need-enum_told-1
enum_told c = search rules

full_ending_requires : tie.Need-full_ending-requires
full_ending_requires c κs = search rules

enum_told_2 : tie.Need-enum_told-in-Short
enum_told_2 c = search rules

short_ending_requires : tie.Need-short_ending-requires
short_ending_requires c κs = search rules

returns : tie.Need-returns-in-Full
returns c = rw c.before.in-Full.is c.full_ending.ensures

returns_2 : tie.Need-returns-in-Short
returns_2 c = rw c.before.in-Short.is c.short_ending.ensures

pub ending_in_spec : {M : Type 1} → statement M
ending_in_spec =
    tie.close
    (tie.spec enum_told full_ending_requires enum_told_2 short_ending_requires returns returns_2)
