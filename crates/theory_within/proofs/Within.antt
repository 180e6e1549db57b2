-- The rows that the nodes of a tree name are missing or the tree's own.
use mathlib.Core.Path.{◌≡◌, refl, sym, ◌∙◌}
use mathlib.Core.Bool.{Bool, true, false, cond, true≢false}
use mathlib.Core.List.{List, [], ◌∷◌, ◌++◌}
use Prim.Native.Nat.{ℕ, ◌+◌, ◌≤◌}
use native.Mathlib.Omega.{arith}
use lib.Dec.{eqb}
use borrow.Author.Tests.{eq-eqb}
use Rattle.rules.specs.Kinds.{KeywordLicense, KeywordSection, KeywordReg, KeywordImm, Equals, Plus, Minus, Star, Slash, Percent, Shl}
use Rattle.rules.specs.Tree.{Tree, none, num, var, star, group, field, call, bin, one, more}
use Rattle.rules.specs.Tree.{decl, ret, plain, assign, guard, then_body, else_body, seq, text, unit, map_type}
use Rattle.rules.specs.Tree.{typed, limit, first, shifted, map_decl, plain_field, bytes_field, array_field, event, program}
use Rattle.rules.specs.Nodes.{Node, NodeUnit, missing, width, licence_row, nodes_of}
use Rattle.rules.specs.Nodes.{binary_node, decl_node, assign_node, text_node}
use Rattle.theory_grammar.proofs.Laws.{place_width}
use Rattle.theory_within.specs.Within.{Within, AllWithin, no_more, and_more}

-- ---- lists of nodes

module _ {b : ℕ} where
  joins : {xs ys : List Node} → AllWithin b xs → AllWithin b ys → AllWithin b (xs ++ ys)
  joins no_more q = q
  joins (and_more n p) q = and_more n (joins p q)

  alone : {n : Node} → Within b n → AllWithin b (n ∷ [])
  alone n = and_more n no_more

  ends : {xs : List Node} {n : Node} → AllWithin b xs → Within b n → AllWithin b (xs ++ (n ∷ []))
  ends p n = joins p (alone n)

-- ---- one node

no_unit : (k : ℕ) → eqb k NodeUnit ≡ false → k ≡ NodeUnit → ⊥
no_unit k f e = true≢false (sym (eq-eqb k NodeUnit e) ∙ f)

module _ (b : ℕ) where
  -- a node that names no row but its place, and one that names a row besides; neither is a unit's
  bare : (n : Node) → n.place ≤ b → n.name ≡ missing → eqb n.kind NodeUnit ≡ false → Within b n
  bare n p e k = record { place = p; name = λ h. absurd (h e); licence = λ u h. absurd (no_unit n.kind k u) }

  named : (n : Node) → n.place ≤ b → n.name ≤ b → eqb n.kind NodeUnit ≡ false → Within b n
  named n p e k = record { place = p; name = λ h. e; licence = λ u h. absurd (no_unit n.kind k u) }

-- ---- kinds that are no unit's

binary_other : (x : ℕ) → eqb (binary_node x) NodeUnit ≡ false
unfolding binary_node
binary_other x = go (eqb x Plus) (eqb x Minus) (eqb x Star) (eqb x Slash) (eqb x Percent) (eqb x Shl)
  where
    go : (a b c d e f : Bool) → eqb (cond a 4 (cond b 5 (cond c 6 (cond d 7 (cond e 8 (cond f 9 10)))))) NodeUnit ≡ false
    go true b c d e f = refl
    go false true c d e f = refl
    go false false true d e f = refl
    go false false false true e f = refl
    go false false false false true f = refl
    go false false false false false true = refl
    go false false false false false false = refl

decl_other : (x : ℕ) → eqb (decl_node x) NodeUnit ≡ false
unfolding decl_node
decl_other x = go (eqb x KeywordReg) (eqb x KeywordImm)
  where
    go : (a b : Bool) → eqb (cond a 16 (cond b 17 18)) NodeUnit ≡ false
    go true b = refl
    go false true = refl
    go false false = refl

assign_other : (x : ℕ) → eqb (assign_node x) NodeUnit ≡ false
unfolding assign_node
assign_other x = go (eqb x Equals)
  where
    go : (a : Bool) → eqb (cond a 14 15) NodeUnit ≡ false
    go true = refl
    go false = refl

text_other : (x : ℕ) → eqb (text_node x) NodeUnit ≡ false
unfolding text_node
text_other x = go (eqb x KeywordSection)
  where
    go : (a : Bool) → eqb (cond a 23 24) NodeUnit ≡ false
    go true = refl
    go false = refl

-- ---- a licence

-- a row that is missing or not past row b
abbrev RowIn : ℕ → ℕ → Type 0
RowIn b r = (r ≡ missing → ⊥) → r ≤ b

lacks : (b r : ℕ) → r ≡ missing → RowIn b r
lacks b r e h = absurd (h e)

later : (b r s : ℕ) → RowIn b r → RowIn b s → RowIn b (cond (eqb s missing) r s)
later b r s p q = go (eqb s missing)
  where
    go : (c : Bool) → RowIn b (cond c r s)
    go true = p
    go false = q

of_text : (b : ℕ) (c : Bool) (i : ℕ) → i + 3 ≤ b → RowIn b (cond c (i + 1) missing)
of_text b true i h = λ _. omega arith
of_text b false i h = lacks b missing refl

licence_in : (b i : ℕ) (t : Tree) → i + width t ≤ b → RowIn b (licence_row i t)
unfolding licence_row width
licence_in b i none h = lacks b missing refl
licence_in b i (num v) h = lacks b missing refl
licence_in b i (var w) h = lacks b missing refl
licence_in b i (star t) h = lacks b missing refl
licence_in b i (group t) h = lacks b missing refl
licence_in b i (field t w) h = lacks b missing refl
licence_in b i (call t w a) h = lacks b missing refl
licence_in b i (bin k l r) h = lacks b missing refl
licence_in b i (one t) h = lacks b missing refl
licence_in b i (more a t) h = lacks b missing refl
licence_in b i (decl k w e) h = lacks b missing refl
licence_in b i (ret e) h = lacks b missing refl
licence_in b i (plain e) h = lacks b missing refl
licence_in b i (assign k l r) h = lacks b missing refl
licence_in b i (guard w s e) h = lacks b missing refl
licence_in b i (then_body s) h = lacks b missing refl
licence_in b i (else_body s) h = lacks b missing refl
licence_in b i (seq l t) h =
    later b (licence_row i l) (licence_row (i + width l) t) (licence_in b i l (omega arith)) (licence_in b (i + width l) t (omega arith))
licence_in b i (text k w) h = of_text b (eqb k KeywordLicense) i h
licence_in b i (unit w l) h = lacks b missing refl
licence_in b i (map_type w) h = lacks b missing refl
licence_in b i (typed k t) h = lacks b missing refl
licence_in b i (limit c) h = lacks b missing refl
licence_in b i (first v) h = lacks b missing refl
licence_in b i (shifted k c v) h = lacks b missing refl
licence_in b i (map_decl w l) h = lacks b missing refl
licence_in b i (plain_field w t) h = lacks b missing refl
licence_in b i (bytes_field w v) h = lacks b missing refl
licence_in b i (array_field w t v) h = lacks b missing refl
licence_in b i (event w l) h = lacks b missing refl
licence_in b i (program l) h = lacks b missing refl

-- ---- the nodes of a tree

-- the tree's own rows are not past row b
pub nodes_within : (b i : ℕ) (t : Tree) → i + width t ≤ b → AllWithin b (nodes_of i t)
unfolding nodes_of width
nodes_within b i none h = no_more
nodes_within b i (num v) h = alone (bare b _ (omega arith) refl refl)
nodes_within b i (var w) h = alone (named b _ (omega arith) (omega arith) refl)
nodes_within b i (star t) h =
    ends (nodes_within b (i + 1) t (omega arith)) (bare b _ (omega (arith, place_width (i + 1) t)) refl refl)
nodes_within b i (group t) h = nodes_within b (i + 1) t (omega arith)
nodes_within b i (field t w) h = ends (nodes_within b i t (omega arith)) (named b _ (omega arith) (omega arith) refl)
nodes_within b i (call t w a) h =
    joins (nodes_within b i t (omega arith))
    (ends (nodes_within b (i + width t + 3) a (omega arith)) (named b _ (omega (arith, place_width i t)) (omega arith) refl))
nodes_within b i (bin k l r) h =
    joins (nodes_within b i l (omega arith))
    (ends (nodes_within b (i + width l + 1) r (omega arith)) (bare b _ (omega (arith, place_width i l)) refl (binary_other k)))
nodes_within b i (one t) h = nodes_within b i t h
nodes_within b i (more a t) h = joins (nodes_within b i a (omega arith)) (nodes_within b (i + width a + 1) t (omega arith))
nodes_within b i (decl k w e) h = ends (nodes_within b (i + 3) e (omega arith)) (named b _ (omega arith) (omega arith) (decl_other k))
nodes_within b i (ret e) h = ends (nodes_within b (i + 1) e (omega arith)) (bare b _ (omega arith) refl refl)
nodes_within b i (plain e) h = ends (nodes_within b i e (omega arith)) (bare b _ (omega (arith, place_width i e)) refl refl)
nodes_within b i (assign k l r) h =
    joins (nodes_within b i l (omega arith))
    (ends (nodes_within b (i + width l + 1) r (omega arith)) (bare b _ (omega (arith, place_width i l)) refl (assign_other k)))
nodes_within b i (guard w s e) h =
    joins (alone (named b _ (omega arith) (omega arith) refl))
    (joins (nodes_within b (i + 5) s (omega arith))
    (ends (nodes_within b (i + 5 + width s) e (omega arith)) (bare b _ (omega arith) refl refl)))
nodes_within b i (then_body s) h = ends (nodes_within b (i + 1) s (omega arith)) (bare b _ (omega arith) refl refl)
nodes_within b i (else_body s) h = ends (nodes_within b (i + 2) s (omega arith)) (bare b _ (omega arith) refl refl)
nodes_within b i (seq l t) h = joins (nodes_within b i l (omega arith)) (nodes_within b (i + width l) t (omega arith))
nodes_within b i (text k w) h = alone (named b _ (omega arith) (omega arith) (text_other k))
nodes_within b i (unit w l) h =
    ends (nodes_within b (i + 3) l (omega arith))
    (record { place = omega arith; name = λ _. omega arith; licence = λ _. licence_in b (i + 3) l (omega arith) })
nodes_within b i (map_type w) h = no_more
nodes_within b i (typed k t) h = no_more
nodes_within b i (limit c) h = no_more
nodes_within b i (first v) h = no_more
nodes_within b i (shifted k c v) h = no_more
nodes_within b i (map_decl w l) h = alone (named b _ (omega arith) (omega arith) refl)
nodes_within b i (plain_field w t) h = alone (named b _ (omega arith) (omega arith) refl)
nodes_within b i (bytes_field w v) h = alone (named b _ (omega arith) (omega arith) refl)
nodes_within b i (array_field w t v) h = alone (named b _ (omega arith) (omega arith) refl)
nodes_within b i (event w l) h = ends (nodes_within b (i + 3) l (omega arith)) (named b _ (omega arith) (omega arith) refl)
nodes_within b i (program l) h = ends (nodes_within b i l (omega arith)) (bare b _ (omega arith) refl refl)
