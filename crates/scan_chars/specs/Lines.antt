-- What the code asks of a line of RFC 3629's table.
use Rattle.std.specs.Prelude.{List, [], ◌∷◌}
use Rattle.rules.specs.Text.{Range, tail}

-- the range of the second byte; where there is none, that of a tail
unfoldable pub second : List Range → Range
second [] = tail
second (r ∷ []) = tail
second (r ∷ q ∷ rs) = q
