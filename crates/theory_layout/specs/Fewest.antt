-- "Parentheses only where the grammar needs them", over the grammar: of all trees of a nonterminal that are the same but for parentheses, the one
-- that is written has the fewest rows, and no other has as few.
use Rattle.std.specs.Prelude.{◌≡◌, Bool, ℕ, ◌≤◌}
use Rattle.rules.specs.Tree.{Tree, none, num, var, star, group, field, call, bin, one, more, decl, ret, plain, assign, guard, then_body, else_body, seq, text, unit, map_type, typed, limit, first, shifted, map_decl, plain_field, bytes_field, array_field, event, program}
use Rattle.rules.specs.Nodes.{width}
use Rattle.rules.specs.Grammar.{Nt, Add, Is}

-- a tree without its parentheses; maps have none
unfoldable pub bare : Tree → Tree
bare none = none
bare (num v) = num v
bare (var w) = var w
bare (star t) = star (bare t)
bare (group t) = bare t
bare (field t w) = field (bare t) w
bare (call t w a) = call (bare t) w (bare a)
bare (bin k l r) = bin k (bare l) (bare r)
bare (one t) = one (bare t)
bare (more a t) = more (bare a) (bare t)
bare (decl k w e) = decl k w (bare e)
bare (ret e) = ret (bare e)
bare (plain e) = plain (bare e)
bare (assign k l r) = assign k (bare l) (bare r)
bare (guard w b e) = guard w (bare b) (bare e)
bare (then_body s) = then_body (bare s)
bare (else_body s) = else_body (bare s)
bare (seq l t) = seq (bare l) (bare t)
bare (text k w) = text k w
bare (unit w l) = unit w (bare l)
bare (map_type w) = map_type w
bare (typed k t) = typed k t
bare (limit c) = limit c
bare (first v) = first v
bare (shifted k c v) = shifted k c v
bare (map_decl w l) = map_decl w l
bare (plain_field w t) = plain_field w t
bare (bytes_field w v) = bytes_field w v
bare (array_field w t v) = array_field w t v
bare (event w l) = event w (bare l)
bare (program l) = program (bare l)

-- t is written with the fewest rows: any tree u of the nonterminal, of whatever nesting, that is t but for parentheses has as many rows or more, and is
-- t if it has as many.
pub record Fewest (strict : Bool) (N : Nt) (t : Tree) : Type 0 where
  pub least : (d : ℕ) (u : Tree) → Is strict N d u → bare u ≡ bare t → width t ≤ width u
  pub only : (d : ℕ) (u : Tree) → Is strict N d u → bare u ≡ bare t → width u ≡ width t → u ≡ t
