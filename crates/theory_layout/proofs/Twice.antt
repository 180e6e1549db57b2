-- Laying out twice changes nothing.
use mathlib.Core.Path.{◌≡◌, refl, sym, ap, ◌∙◌}
use mathlib.Core.Bool.{Bool, true, false, cond}
use mathlib.Core.List.{List, []}
use Prim.Native.Nat.{ℕ, zero, suc, pred, ◌+◌, ◌≤◌}
use native.Mathlib.Omega.{arith}
use lib.Dec.{eqb, ltb}
use Rattle.rules.specs.Kinds.{KeywordKey, KeywordValue}
use Rattle.rules.specs.Tree.{Tree, none, num, var, star, group, field, call, bin, one, more, decl, ret, plain, assign, guard, then_body, else_body, seq, text, unit, map_type, typed, limit, first, shifted, map_decl, plain_field, bytes_field, array_field, event, program, map_types, type_of, typed_by, limit_of, last_of, yield}
use Rattle.rules_layout.specs.Rows.{spelling_in, with_typed, fields_of, level, level_by, left_of, right_of, placed, laid}
use Rattle.rules_layout.specs.Bytes.{rows_bytes, layout}
use Rattle.theory_layout.proofs.Fields.{type_below, last_below, fields_type, fields_key, fields_value, fields_most, same_fields}

-- ---- maps

-- whatever fields are, their type is one of the five or none
pub types_below : (l : Tree) → type_of l ≤ 5
unfolding type_of
types_below none = omega arith
types_below (num v) = omega arith
types_below (var w) = omega arith
types_below (star t) = omega arith
types_below (group t) = omega arith
types_below (field t w) = omega arith
types_below (call t w a) = omega arith
types_below (bin k l r) = omega arith
types_below (one t) = omega arith
types_below (more a t) = omega arith
types_below (decl k w e) = omega arith
types_below (ret e) = omega arith
types_below (plain e) = omega arith
types_below (assign k l r) = omega arith
types_below (guard w b e) = omega arith
types_below (then_body s) = omega arith
types_below (else_body s) = omega arith
types_below (seq l t) = last_below (type_of l) (type_of t) 5 (types_below l) (types_below t)
types_below (text k w) = omega arith
types_below (unit w l) = omega arith
types_below (map_type w) = type_below w
types_below (typed k t) = omega arith
types_below (limit c) = omega arith
types_below (first v) = omega arith
types_below (shifted k c v) = omega arith
types_below (map_decl w l) = omega arith
types_below (plain_field w t) = omega arith
types_below (bytes_field w v) = omega arith
types_below (array_field w t v) = omega arith
types_below (event w l) = omega arith
types_below (program l) = omega arith

fields_twice : (l : Tree) → fields_of (fields_of l) ≡ fields_of l
fields_twice l = same_fields (fields_of l) l (fields_type l (types_below l)) (fields_key l) (fields_value l) (fields_most l)

-- ---- levels

-- parentheses that are written leave the level, and so does writing
pub laid_level : (t : Tree) → level (laid t) ≡ level t
unfolding level laid
laid_level none = refl
laid_level (num v) = refl
laid_level (var w) = refl
laid_level (star t) = refl
laid_level (group t) = laid_level t
laid_level (field t w) = refl
laid_level (call t w a) = refl
laid_level (bin k l r) = refl
laid_level (one t) = refl
laid_level (more a t) = refl
laid_level (decl k w e) = refl
laid_level (ret e) = refl
laid_level (plain e) = refl
laid_level (assign k l r) = refl
laid_level (guard w b e) = refl
laid_level (then_body s) = refl
laid_level (else_body s) = refl
laid_level (seq l t) = refl
laid_level (text k w) = refl
laid_level (unit w l) = refl
laid_level (map_type w) = refl
laid_level (typed k t) = refl
laid_level (limit c) = refl
laid_level (first v) = refl
laid_level (shifted k c v) = refl
laid_level (map_decl w l) = refl
laid_level (plain_field w t) = refl
laid_level (bytes_field w v) = refl
laid_level (array_field w t v) = refl
laid_level (event w l) = refl
laid_level (program l) = refl

module _ (p : ℕ) (t : Tree) where
  placed_level : level (placed p t (laid t)) ≡ level t
  unfolding level
  placed_level = go (ltb (level t) p)
    where
      go : (b : Bool) → level (cond b (group (laid t)) (laid t)) ≡ level t
      go true = laid_level t
      go false = laid_level t

  placed_laid : laid (placed p t (laid t)) ≡ laid (laid t)
  unfolding laid
  placed_laid = go (ltb (level t) p)
    where
      go : (b : Bool) → laid (cond b (group (laid t)) (laid t)) ≡ laid (laid t)
      go true = refl
      go false = refl

  -- what was placed is placed so again
  placed_twice : laid (laid t) ≡ laid t → placed p (placed p t (laid t)) (laid (placed p t (laid t))) ≡ placed p t (laid t)
  placed_twice e = rw (placed_level, placed_laid, e)

-- ---- trees

pub laid_twice : (t : Tree) → laid (laid t) ≡ laid t
unfolding laid
laid_twice none = refl
laid_twice (num v) = refl
laid_twice (var w) = refl
laid_twice (star t) = ap star (placed_twice 3 t (laid_twice t))
laid_twice (group t) = laid_twice t
laid_twice (field t w) = ap (λ (u : Tree). field u w) (placed_twice 4 t (laid_twice t))
laid_twice (call t w a) = rw (placed_twice 4 t (laid_twice t), laid_twice a)
laid_twice (bin k l r) = rw (placed_twice (left_of k) l (laid_twice l), placed_twice (right_of k) r (laid_twice r))
laid_twice (one t) = ap one (laid_twice t)
laid_twice (more a t) = rw (laid_twice a, laid_twice t)
laid_twice (decl k w e) = ap (decl k w) (laid_twice e)
laid_twice (ret e) = ap ret (laid_twice e)
laid_twice (plain e) = ap plain (laid_twice e)
laid_twice (assign k l r) = rw (laid_twice l, laid_twice r)
laid_twice (guard w b e) = rw (laid_twice b, laid_twice e)
laid_twice (then_body s) = ap then_body (laid_twice s)
laid_twice (else_body s) = ap else_body (laid_twice s)
laid_twice (seq l t) = rw (laid_twice l, laid_twice t)
laid_twice (text k w) = refl
laid_twice (unit w l) = ap (unit w) (laid_twice l)
laid_twice (map_type w) = refl
laid_twice (typed k t) = refl
laid_twice (limit c) = refl
laid_twice (first v) = refl
laid_twice (shifted k c v) = refl
laid_twice (map_decl w l) = ap (map_decl w) (fields_twice l)
laid_twice (plain_field w t) = refl
laid_twice (bytes_field w v) = refl
laid_twice (array_field w t v) = refl
laid_twice (event w l) = ap (event w) (laid_twice l)
laid_twice (program l) = ap program (laid_twice l)

-- The layout of the tree that is written is the layout.
pub twice : (t : Tree) → layout (laid t) ≡ layout t
unfolding layout
twice t = ap (λ (u : Tree). rows_bytes (yield u)) (laid_twice t)
