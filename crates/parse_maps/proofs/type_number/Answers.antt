-- From the last spelling to the first, each tells its number by itself and those behind it.
use mathlib.Core.Path.{refl}
use Rattle.rules.specs.Kinds.{kind_in}
use Rattle.rules.specs.Tree.{map_types, map_type_number}
use Rattle.parse_maps.proofs.Words.{type_at, told_by}
use Rattle.parse_maps.proofs.type_number.Goals as goal

pub returns : goal.returns
unfolding type_at map_types kind_in map_type_number
returns c =
    let w = c.args.word.now in
    told_by 0 w refl c.named.ensures
    (told_by 1 w refl c.named-array.ensures
    (told_by 2 w refl c.named-ringbuf.ensures
    (told_by 3 w refl c.named-lru_hash.ensures
    (told_by 4 w refl c.named-prog_array.ensures refl))))
