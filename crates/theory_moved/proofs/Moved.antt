-- The nodes of a tree read k rows further on are its nodes moved by k.
use mathlib.Core.Path.{◌≡◌, refl, sym, ap, ◌∙◌}
use mathlib.Core.Bool.{Bool, true, false, cond, true≢false}
use mathlib.Core.Logic.{◌⊎◌, inl, inr}
use mathlib.Core.List.{List, [], ◌∷◌, ◌++◌, map, map-append}
use Prim.Native.Nat.{ℕ, ◌+◌, ◌/◌, ◌%◌, ◌^◌, ◌≤◌, ◌<◌}
use native.Mathlib.Omega.{arith}
use lib.Dec.{eqb}
use borrow.Author.Tests.{eq-eqb, ne_eqb}
use Rattle.rules.specs.Kinds.{KeywordLicense, KeywordSection, KeywordReg, KeywordImm, Equals, Plus, Minus, Star, Slash, Percent, Shl}
use Rattle.rules.specs.Tree.{Tree, none, num, var, star, group, field, call, bin, one, more, decl, ret, plain, assign, guard, then_body, else_body, seq, text, unit, map_type, typed, limit, first, shifted, map_decl, plain_field, bytes_field, array_field, event, program}
use Rattle.rules.specs.Nodes.{Node, NodeVariable, NodeNumber, NodeDereference, NodeCall, NodeField, NodeExpression, NodeReturn, NodeIf, NodeThen, NodeElse, NodeUnit, NodeEventField, NodeEvent, NodeMap, NodeProgram, missing, node, fact_node, width, place_of, licence_row, nodes_of, binary_node, decl_node, assign_node, text_node}
use Rattle.theory_moved.specs.Moved.{moved_row, moved}

-- ---- rows

row_moved : (k r : ℕ) → r < missing → r + k ≡ moved_row k r
unfolding moved_row
row_moved k r b = rw (ne_eqb r missing (λ (e : r ≡ missing). absurd (omega arith))) refl

-- row i is row j moved by k
real : (k i j : ℕ) → j ≡ i + k → i < missing → j ≡ moved_row k i
real k i j e b = e ∙ row_moved k i b

missing_moved : (k : ℕ) → missing ≡ moved_row k missing
unfolding moved_row
missing_moved k = refl

-- a place
pub place_moved : (k i j : ℕ) (t : Tree) → j ≡ i + k → place_of j t ≡ place_of i t + k
unfolding place_of
place_moved k i j none e = e
place_moved k i j (num v) e = e
place_moved k i j (var w) e = e
place_moved k i j (star t) e = place_moved k (i + 1) (j + 1) t (omega arith)
place_moved k i j (group t) e = place_moved k (i + 1) (j + 1) t (omega arith)
place_moved k i j (field t w) e = omega arith
place_moved k i j (call t w a) e = place_moved k i j t e
place_moved k i j (bin x l r) e = place_moved k i j l e
place_moved k i j (one t) e = place_moved k i j t e
place_moved k i j (more a t) e = place_moved k i j a e
place_moved k i j (decl x w t) e = omega arith
place_moved k i j (ret t) e = omega arith
place_moved k i j (plain t) e = place_moved k i j t e
place_moved k i j (assign x l r) e = place_moved k i j l e
place_moved k i j (guard w b t) e = omega arith
place_moved k i j (then_body s) e = e
place_moved k i j (else_body s) e = omega arith
place_moved k i j (seq l t) e = e
place_moved k i j (text x w) e = omega arith
place_moved k i j (unit w l) e = e
place_moved k i j (map_type w) e = e
place_moved k i j (typed x t) e = e
place_moved k i j (limit c) e = e
place_moved k i j (first v) e = e
place_moved k i j (shifted x c v) e = e
place_moved k i j (map_decl w l) e = omega arith
place_moved k i j (plain_field w t) e = e
place_moved k i j (bytes_field w v) e = e
place_moved k i j (array_field w t v) e = e
place_moved k i j (event w l) e = omega arith
place_moved k i j (program l) e = omega arith

-- ---- nodes

-- a node, and the same node moved
record MovesTo (k : ℕ) (n m : Node) : Type 0 where
  same : m ≡ moved k n

-- no node but a unit's has a row among its facts
node_moved : (k x p q n m c : ℕ) → eqb x NodeUnit ≡ false → q ≡ p + k → m ≡ moved_row k n
    → MovesTo k (node x p n c) (node x q m c)
unfolding moved
node_moved k x p q n m c other e f = record { same = rw (other, e, f) refl }

fact_moved : (k x p q n m c f0 f1 f2 f3 : ℕ) → eqb x NodeUnit ≡ false → q ≡ p + k → m ≡ moved_row k n
    → MovesTo k (fact_node x p n c f0 f1 f2 f3) (fact_node x q m c f0 f1 f2 f3)
unfolding moved
fact_moved k x p q n m c f0 f1 f2 f3 other e f = record { same = rw (other, e, f) refl }

unit_moved : (k p q n m c f0 r s : ℕ) → q ≡ p + k → m ≡ moved_row k n → s ≡ moved_row k r
    → MovesTo k (fact_node NodeUnit p n c f0 r 0 0) (fact_node NodeUnit q m c f0 s 0 0)
unfolding moved
unit_moved k p q n m c f0 r s e f g = record { same = rw (e, f, g) refl }

-- ---- lists of nodes

-- a list of nodes, and the same nodes moved
record Moves (k : ℕ) (xs ys : List Node) : Type 0 where
  is : ys ≡ map (moved k) xs

joins : {k : ℕ} {xs xs' ys ys' : List Node} → Moves k xs xs' → Moves k ys ys' → Moves k (xs ++ ys) (xs' ++ ys')
joins {k} {xs} {xs'} {ys} {ys'} e f = record { is = rw (e.is, f.is) (sym (map-append (moved k) xs ys)) }

alone : {k : ℕ} {n n' : Node} → MovesTo k n n' → Moves k (n ∷ []) (n' ∷ [])
alone f = record { is = ap (λ (x : Node). x ∷ []) f.same }

ends : {k : ℕ} {xs xs' : List Node} {n n' : Node} → Moves k xs xs' → MovesTo k n n' → Moves k (xs ++ (n ∷ [])) (xs' ++ (n' ∷ []))
ends e f = joins e (alone f)

nothing : {k : ℕ} → Moves k [] []
nothing = record { is = refl }

-- ---- kinds that are no unit's

binary_other : (x : ℕ) → eqb (binary_node x) NodeUnit ≡ false
unfolding binary_node
binary_other x = go (eqb x Plus) (eqb x Minus) (eqb x Star) (eqb x Slash) (eqb x Percent) (eqb x Shl)
  where
    go : (a b c d e f : Bool) → eqb (cond a 4 (cond b 5 (cond c 6 (cond d 7 (cond e 8 (cond f 9 10)))))) NodeUnit ≡ false
    go true b c d e f = refl
    go false true c d e f = refl
    go false false true d e f = refl
    go false false false true e f = refl
    go false false false false true f = refl
    go false false false false false true = refl
    go false false false false false false = refl

decl_other : (x : ℕ) → eqb (decl_node x) NodeUnit ≡ false
unfolding decl_node
decl_other x = go (eqb x KeywordReg) (eqb x KeywordImm)
  where
    go : (a b : Bool) → eqb (cond a 16 (cond b 17 18)) NodeUnit ≡ false
    go true b = refl
    go false true = refl
    go false false = refl

assign_other : (x : ℕ) → eqb (assign_node x) NodeUnit ≡ false
unfolding assign_node
assign_other x = go (eqb x Equals)
  where
    go : (a : Bool) → eqb (cond a 14 15) NodeUnit ≡ false
    go true = refl
    go false = refl

text_other : (x : ℕ) → eqb (text_node x) NodeUnit ≡ false
unfolding text_node
text_other x = go (eqb x KeywordSection)
  where
    go : (a : Bool) → eqb (cond a 23 24) NodeUnit ≡ false
    go true = refl
    go false = refl

-- ---- licences

-- the later licence of two, if there is one
later : (k r s r' s' : ℕ) → r' ≡ moved_row k r → s' ≡ moved_row k s → (eqb s missing ≡ false → eqb (s + k) missing ≡ false)
    → cond (eqb s' missing) r' s' ≡ moved_row k (cond (eqb s missing) r s)
unfolding moved_row
later k r s r' s' e f far = rw (e, f) (go (eqb s missing) refl)
  where
    go : (b : Bool) → eqb s missing ≡ b
        → cond (eqb (cond b missing (s + k)) missing) (cond (eqb r missing) missing (r + k)) (cond b missing (s + k))
        ≡ cond (eqb (cond b r s) missing) missing (cond b r s + k)
    go true g = refl
    go false g = rw (far g, g) refl

within_two : (i a b r s : ℕ) → ((r ≡ missing) ⊎ (r < i + a)) → ((s ≡ missing) ⊎ (s < i + a + b))
    → (cond (eqb s missing) r s ≡ missing) ⊎ (cond (eqb s missing) r s < i + (a + b))
within_two i a b r s (inl e) (inl f) = rw f (inl e)
within_two i a b r s (inr e) (inl f) = rw f (inr (omega arith))
within_two i a b r s x (inr f) = go (eqb s missing) x
  where
    go : (c : Bool) → ((r ≡ missing) ⊎ (r < i + a)) → (cond c r s ≡ missing) ⊎ (cond c r s < i + (a + b))
    go true (inl e) = inl e
    go true (inr e) = inr (omega arith)
    go false y = inr (omega arith)

within_text : (b : Bool) (i : ℕ) → (cond b (i + 1) missing ≡ missing) ⊎ (cond b (i + 1) missing < i + 3)
within_text true i = inr (omega arith)
within_text false i = inl refl

-- a licence's row is missing, or one of the tree's
licence_within : (i : ℕ) (t : Tree) → (licence_row i t ≡ missing) ⊎ (licence_row i t < i + width t)
unfolding licence_row width
licence_within i none = inl refl
licence_within i (num v) = inl refl
licence_within i (var w) = inl refl
licence_within i (star t) = inl refl
licence_within i (group t) = inl refl
licence_within i (field t w) = inl refl
licence_within i (call t w a) = inl refl
licence_within i (bin x l r) = inl refl
licence_within i (one t) = inl refl
licence_within i (more a t) = inl refl
licence_within i (decl x w t) = inl refl
licence_within i (ret t) = inl refl
licence_within i (plain t) = inl refl
licence_within i (assign x l r) = inl refl
licence_within i (guard w b t) = inl refl
licence_within i (then_body s) = inl refl
licence_within i (else_body s) = inl refl
licence_within i (seq l t) = within_two i (width l) (width t) (licence_row i l) (licence_row (i + width l) t) (licence_within i l) (licence_within (i + width l) t)
licence_within i (text x w) = within_text (eqb x KeywordLicense) i
licence_within i (unit w l) = inl refl
licence_within i (map_type w) = inl refl
licence_within i (typed x t) = inl refl
licence_within i (limit c) = inl refl
licence_within i (first v) = inl refl
licence_within i (shifted x c v) = inl refl
licence_within i (map_decl w l) = inl refl
licence_within i (plain_field w t) = inl refl
licence_within i (bytes_field w v) = inl refl
licence_within i (array_field w t v) = inl refl
licence_within i (event w l) = inl refl
licence_within i (program l) = inl refl

-- a row that is not missing is not missing where it is moved to
stays_real : (k m s : ℕ) → ((s ≡ missing) ⊎ (s < m)) → m + k ≤ missing → eqb s missing ≡ false → eqb (s + k) missing ≡ false
stays_real k m s (inl e) b other = let z : ◌≡◌ {A = Bool} true false = sym (eq-eqb s missing e) ∙ other in absurd (true≢false z)
stays_real k m s (inr e) b other = ne_eqb (s + k) missing (λ (f : s + k ≡ missing). absurd (omega arith))

text_licence : (b : Bool) (k i j : ℕ) → j ≡ i + k → j + 3 ≤ missing → cond b (j + 1) missing ≡ moved_row k (cond b (i + 1) missing)
text_licence true k i j e b = (omega arith) ∙ row_moved k (i + 1) (omega arith)
text_licence false k i j e b = missing_moved k

pub licence_moved : (k i j : ℕ) (t : Tree) → j ≡ i + k → j + width t ≤ missing → licence_row j t ≡ moved_row k (licence_row i t)
unfolding licence_row width
licence_moved k i j none e b = missing_moved k
licence_moved k i j (num v) e b = missing_moved k
licence_moved k i j (var w) e b = missing_moved k
licence_moved k i j (star t) e b = missing_moved k
licence_moved k i j (group t) e b = missing_moved k
licence_moved k i j (field t w) e b = missing_moved k
licence_moved k i j (call t w a) e b = missing_moved k
licence_moved k i j (bin x l r) e b = missing_moved k
licence_moved k i j (one t) e b = missing_moved k
licence_moved k i j (more a t) e b = missing_moved k
licence_moved k i j (decl x w t) e b = missing_moved k
licence_moved k i j (ret t) e b = missing_moved k
licence_moved k i j (plain t) e b = missing_moved k
licence_moved k i j (assign x l r) e b = missing_moved k
licence_moved k i j (guard w y t) e b = missing_moved k
licence_moved k i j (then_body s) e b = missing_moved k
licence_moved k i j (else_body s) e b = missing_moved k
licence_moved k i j (seq l t) e b =
    later k (licence_row i l) (licence_row (i + width l) t) (licence_row j l) (licence_row (j + width l) t) (licence_moved k i j l e (omega arith))
    (licence_moved k (i + width l) (j + width l) t (omega arith) (omega arith))
    (stays_real k (i + width l + width t) (licence_row (i + width l) t) (licence_within (i + width l) t) (omega arith))
licence_moved k i j (text x w) e b = text_licence (eqb x KeywordLicense) k i j e b
licence_moved k i j (unit w l) e b = missing_moved k
licence_moved k i j (map_type w) e b = missing_moved k
licence_moved k i j (typed x t) e b = missing_moved k
licence_moved k i j (limit c) e b = missing_moved k
licence_moved k i j (first v) e b = missing_moved k
licence_moved k i j (shifted x c v) e b = missing_moved k
licence_moved k i j (map_decl w l) e b = missing_moved k
licence_moved k i j (plain_field w t) e b = missing_moved k
licence_moved k i j (bytes_field w v) e b = missing_moved k
licence_moved k i j (array_field w t v) e b = missing_moved k
licence_moved k i j (event w l) e b = missing_moved k
licence_moved k i j (program l) e b = missing_moved k

-- ---- the nodes of a tree

moves : (k i j : ℕ) (t : Tree) → j ≡ i + k → j + width t ≤ missing → Moves k (nodes_of i t) (nodes_of j t)
unfolding nodes_of width
moves k i j none e b = nothing
moves k i j (num v) e b = alone (fact_moved k NodeNumber i j missing missing 0 (v % 2 ^ 32) (v / 2 ^ 32) 0 0 refl e (missing_moved k))
moves k i j (var w) e b = alone (node_moved k NodeVariable i j i j 0 refl e (e ∙ row_moved k i (omega arith)))
moves k i j (star t) e b =
    ends (moves k (i + 1) (j + 1) t (omega arith) (omega arith))
    (node_moved k NodeDereference _ _ _ _ _ refl (place_moved k (i + 1) (j + 1) t (omega arith)) (missing_moved k))
moves k i j (group t) e b = moves k (i + 1) (j + 1) t (omega arith) (omega arith)
moves k i j (field t w) e b =
    ends (moves k i j t e (omega arith))
    (node_moved k NodeField (i + width t + 1) (j + width t + 1) _ _ _ refl (omega arith) (real k (i + width t + 1) (j + width t + 1) (omega arith) (omega arith)))
moves k i j (call t w a) e b =
    joins (moves k i j t e (omega arith))
    (ends (moves k (i + width t + 3) (j + width t + 3) a (omega arith) (omega arith))
    (node_moved k NodeCall _ _ _ _ _ refl (place_moved k i j t e) (real k (i + width t + 1) (j + width t + 1) (omega arith) (omega arith))))
moves k i j (bin x l r) e b =
    joins (moves k i j l e (omega arith))
    (ends (moves k (i + width l + 1) (j + width l + 1) r (omega arith) (omega arith))
    (node_moved k (binary_node x) _ _ _ _ _ (binary_other x) (place_moved k i j l e) (missing_moved k)))
moves k i j (one t) e b = moves k i j t e b
moves k i j (more a t) e b =
    joins (moves k i j a e (omega arith)) (moves k (i + width a + 1) (j + width a + 1) t (omega arith) (omega arith))
moves k i j (decl x w t) e b =
    ends (moves k (i + 3) (j + 3) t (omega arith) (omega arith))
    (node_moved k (decl_node x) (i + 1) (j + 1) _ _ _ (decl_other x) (omega arith) (real k (i + 1) (j + 1) (omega arith) (omega arith)))
moves k i j (ret t) e b =
    ends (moves k (i + 1) (j + 1) t (omega arith) (omega arith))
    (node_moved k NodeReturn (i + 1) (j + 1) _ _ _ refl (omega arith) (missing_moved k))
moves k i j (plain t) e b =
    ends (moves k i j t e (omega arith))
    (node_moved k NodeExpression _ _ _ _ _ refl (place_moved k i j t e) (missing_moved k))
moves k i j (assign x l r) e b =
    joins (moves k i j l e (omega arith))
    (ends (moves k (i + width l + 1) (j + width l + 1) r (omega arith) (omega arith))
    (node_moved k (assign_node x) _ _ _ _ _ (assign_other x) (place_moved k i j l e) (missing_moved k)))
moves k i j (guard w y t) e b =
    joins
    (alone (node_moved k NodeVariable (i + 3) (j + 3) _ _ _ refl (omega arith) (real k (i + 3) (j + 3) (omega arith) (omega arith))))
    (joins (moves k (i + 5) (j + 5) y (omega arith) (omega arith))
    (ends (moves k (i + 5 + width y) (j + 5 + width y) t (omega arith) (omega arith))
    (node_moved k NodeIf (i + 1) (j + 1) _ _ _ refl (omega arith) (missing_moved k))))
moves k i j (then_body s) e b =
    ends (moves k (i + 1) (j + 1) s (omega arith) (omega arith))
    (node_moved k NodeThen _ _ _ _ _ refl e (missing_moved k))
moves k i j (else_body s) e b =
    ends (moves k (i + 2) (j + 2) s (omega arith) (omega arith))
    (node_moved k NodeElse (i + 1) (j + 1) _ _ _ refl (omega arith) (missing_moved k))
moves k i j (seq l t) e b =
    joins (moves k i j l e (omega arith)) (moves k (i + width l) (j + width l) t (omega arith) (omega arith))
moves k i j (text x w) e b =
    alone
    (node_moved k (text_node x) (i + 1) (j + 1) _ _ _ (text_other x) (omega arith) (real k (i + 1) (j + 1) (omega arith) (omega arith)))
moves k i j (unit w l) e b =
    ends (moves k (i + 3) (j + 3) l (omega arith) (omega arith))
    (unit_moved k _ _ _ _ _ _ _ _ e (real k (i + 1) (j + 1) (omega arith) (omega arith))
    (licence_moved k (i + 3) (j + 3) l (omega arith) (omega arith)))
moves k i j (map_type w) e b = nothing
moves k i j (typed x t) e b = nothing
moves k i j (limit c) e b = nothing
moves k i j (first v) e b = nothing
moves k i j (shifted x c v) e b = nothing
moves k i j (map_decl w l) e b =
    alone
    (fact_moved k NodeMap (i + 1) (j + 1) _ _ _ _ _ _ _ refl (omega arith) (real k (i + 1) (j + 1) (omega arith) (omega arith)))
moves k i j (plain_field w t) e b =
    alone (fact_moved k NodeEventField _ _ _ _ _ _ _ _ _ refl e (real k i j e (omega arith)))
moves k i j (bytes_field w v) e b =
    alone (fact_moved k NodeEventField _ _ _ _ _ _ _ _ _ refl e (real k i j e (omega arith)))
moves k i j (array_field w t v) e b =
    alone (fact_moved k NodeEventField _ _ _ _ _ _ _ _ _ refl e (real k i j e (omega arith)))
moves k i j (event w l) e b =
    ends (moves k (i + 3) (j + 3) l (omega arith) (omega arith))
    (node_moved k NodeEvent (i + 1) (j + 1) _ _ _ refl (omega arith) (real k (i + 1) (j + 1) (omega arith) (omega arith)))
moves k i j (program l) e b =
    ends (moves k i j l e (omega arith))
    (node_moved k NodeProgram (i + width l) (j + width l) _ _ _ refl (omega arith) (missing_moved k))

-- Rows from i + k on are rows from i on, moved by k; the number of none of them is that of a missing row.
pub nodes_moved : (k i : ℕ) (t : Tree) → i + k + width t ≤ missing → nodes_of (i + k) t ≡ map (moved k) (nodes_of i t)
nodes_moved k i t b = (moves k i (i + k) t refl b).is
