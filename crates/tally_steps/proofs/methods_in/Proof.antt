-- `methods_in` meets its contract: the size that is told of the kind's set, and 0 where none is.
use mathlib.Core.Path.{sym, ◌∙◌}
use borrow.Author.Rules.{rules}
use Rattle.tally_steps.proofs.Sizes.{size_told, size_untold}
use Rattle.tally_steps.proofs.methods_in.Statement.{statement}
use Rattle.tally_steps.proofs.methods_in.Tie as tie

set_size_requires : tie.Need-set_size-requires
set_size_requires c κs = search rules

enum_known_n : tie.Need-enum_known-n
enum_known_n c = search rules

cast_result : tie.Need-overflow_cast-result
cast_result c = search rules

enum_told : tie.Need-enum_told-1
enum_told c = search rules

returns : tie.Need-returns-in-Ok
returns c =
    let a = c.before in
    size_told a.before.args.kind _ (sym a.set_size.ensures ∙ c.in-Ok.is)

returns_2 : tie.Need-returns-in-Err
returns_2 c =
    let a = c.before in
    size_untold a.before.args.kind _ (sym a.set_size.ensures ∙ c.in-Err.is)

pub methods_in_spec : {M : Type 1} → statement M
methods_in_spec =
    tie.close (tie.spec set_size_requires enum_known_n cast_result enum_told returns returns_2)
