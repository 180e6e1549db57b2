-- The nodes of a tree that stands among tokens have the faces that the tree shows, wherever it stands.
use mathlib.Core.Path.{◌≡◌, refl, sym, ap, ◌∙◌}
use mathlib.Core.Bool.{Bool, true, false, cond, true≢false}
use mathlib.Core.List.{List, [], ◌∷◌, ◌++◌, map, map-append, append_assoc, append-nil}
use Prim.Native.Nat.{ℕ, pred, ◌+◌, ◌-◌, ◌/◌, ◌%◌, ◌^◌, ◌≤◌, ◌<◌}
use native.Mathlib.Omega.{arith}
use native.Mathlib.Nat.{add-zero}
use lib.Dec.{eqb}
use lib.ListN.{get_or, length, drop, length-drop}
use lib.Seq.{drop-drop, drop-append_seam, get_or-drop}
use borrow.Author.Tests.{ne_eqb, eqb-true}
use Rattle.rules.specs.Kinds.{KeywordKey, KeywordValue, KeywordLicense, KeywordSection, KeywordReg, KeywordImm, KeywordReturn, KeywordIf, KeywordGuard, KeywordElse, KeywordUnit, KeywordMap, KeywordEvent, LBrace, RBrace, LParen, RParen, Dot, Comma, Semicolon, Equals, Plus, Minus, Star, Slash, Percent, Shl, Eof}
use Rattle.rules.specs.Tree.{Tok, sign, name, string, value, spelling_of, yield, Tree, none, num, var, star, group, field, call, bin, one, more, decl, ret, plain, assign, guard, then_body, else_body, seq, text, unit, map_type, typed, limit, first, shifted, map_decl, plain_field, bytes_field, array_field, event, program, count, unit_kind, type_of, typed_by, limit_of, type_number}
use Rattle.rules.specs.Nodes.{Node, node, fact_node, missing, width, place_of, licence_row, nodes_of, binary_node, decl_node, assign_node, text_node, NodeUnit, NodeAdd, NodeSub, NodeMul, NodeDiv, NodeMod, NodeShl, NodeShr, NodeReg, NodeImm, NodeHeap, NodeAssign, NodeAddAssign, NodeSection, NodeLicense}
use Rattle.theory_grammar.proofs.Laws.{yield_width}
use Rattle.theory_grammar.proofs.Complete.{From}
use Rattle.theory_layout.specs.Back.{Face, spelled_at, face_of, faces, spelled_by, face_by, spells_tok}
use Rattle.theory_layout.proofs.Faces.{face, plain_face, unit_face, last_some, licence_of, shown}

-- ---- kinds that are no unit's

binary_plain : (k : ℕ) → eqb (binary_node k) NodeUnit ≡ false
unfolding binary_node
binary_plain k = go (eqb k Plus) (eqb k Minus) (eqb k Star) (eqb k Slash) (eqb k Percent) (eqb k Shl)
  where
    go : (a b c d e f : Bool)
        → eqb (cond a NodeAdd (cond b NodeSub (cond c NodeMul (cond d NodeDiv (cond e NodeMod (cond f NodeShl NodeShr)))))) NodeUnit ≡ false
    go true b c d e f = refl
    go false true c d e f = refl
    go false false true d e f = refl
    go false false false true e f = refl
    go false false false false true f = refl
    go false false false false false true = refl
    go false false false false false false = refl

decl_plain : (k : ℕ) → eqb (decl_node k) NodeUnit ≡ false
unfolding decl_node
decl_plain k = go (eqb k KeywordReg) (eqb k KeywordImm)
  where
    go : (a b : Bool) → eqb (cond a NodeReg (cond b NodeImm NodeHeap)) NodeUnit ≡ false
    go true b = refl
    go false true = refl
    go false false = refl

assign_plain : (k : ℕ) → eqb (assign_node k) NodeUnit ≡ false
unfolding assign_node
assign_plain k = go (eqb k Equals)
  where
    go : (a : Bool) → eqb (cond a NodeAssign NodeAddAssign) NodeUnit ≡ false
    go true = refl
    go false = refl

text_plain : (k : ℕ) → eqb (text_node k) NodeUnit ≡ false
unfolding text_node
text_plain k = go (eqb k KeywordSection)
  where
    go : (a : Bool) → eqb (cond a NodeSection NodeLicense) NodeUnit ≡ false
    go true = refl
    go false = refl

-- ---- rows

-- the spelling of each row is that of its token, where that is a name or a string
pub record SpellsNames (ts : List Tok) (spells : ℕ → List ℕ) : Type 0 where
  pub of_name : (r : ℕ) (w : List ℕ) → r < length ts → get_or ts r (sign Eof) ≡ name w → spells r ≡ w
  pub of_string : (r : ℕ) (w : List ℕ) → r < length ts → get_or ts r (sign Eof) ≡ string w → spells r ≡ w

module _ (ts : List Tok) (few : length ts ≤ missing) (spells : ℕ → List ℕ) (spelt : SpellsNames ts spells) where
  tok_of : {j : ℕ} {x : Tok} {ys : List Tok} → From ts j (x ∷ ys) → get_or ts j (sign Eof) ≡ x
  tok_of {j} e =
      ap (λ (n : ℕ). get_or ts n (sign Eof)) (sym (add-zero j)) ∙ sym (get_or-drop j ts 0 (sign Eof)) ∙ ap (λ (l : List Tok). get_or l 0 (sign Eof)) e.are

  next : {j : ℕ} {x : Tok} {ys : List Tok} → From ts j (x ∷ ys) → From ts (j + 1) ys
  next {j} e = record { are = sym (drop-drop 1 j ts) ∙ ap (λ (l : List Tok). drop 1 l) e.are }

  -- the row behind a tree's
  after : (t : Tree) {i : ℕ} {ys : List Tok} → From ts i (yield t ++ ys) → From ts (i + width t) ys
  after t {i} {ys} e =
      record { are = ap (λ (n : ℕ). drop (i + n) ts) (sym (yield_width t)) ∙ sym (drop-drop (length (yield t)) i ts) ∙ ap (λ (l : List Tok). drop (length (yield t)) l) e.are ∙ drop-append_seam (yield t) ys }

  split : (xs zs ys : List Tok) {i : ℕ} → From ts i ((xs ++ zs) ++ ys) → From ts i (xs ++ (zs ++ ys))
  split xs zs ys e = record { are = e.are ∙ append_assoc xs zs ys }

  -- the same row, counted otherwise
  moved : {i j : ℕ} {zs : List Tok} → j ≡ i → From ts i zs → From ts j zs
  moved e f = record { are = ap (λ (n : ℕ). drop n ts) e ∙ f.are }

  there : {j : ℕ} {x : Tok} {ys : List Tok} → From ts j (x ∷ ys) → j < length ts
  there {j} {x} {ys} e = omega (arith, sym (length-drop j ts), ap length e.are)

  present : {j : ℕ} {x : Tok} {ys : List Tok} → From ts j (x ∷ ys) → eqb j missing ≡ false
  present {j} e = ne_eqb j missing (λ f. omega (arith, there e, f, few))

  -- a row that is a name or a string
  spelled : {j : ℕ} {w : List ℕ} {ys : List Tok} → From ts j (name w ∷ ys) → spelled_by spells j ≡ w ∷ []
  unfolding spelled_by
  spelled {j} {w} e = rw (present e, spelt.of_name j w (there e) (tok_of e))

  quoted : {j : ℕ} {w : List ℕ} {ys : List Tok} → From ts j (string w ∷ ys) → spelled_by spells j ≡ w ∷ []
  unfolding spelled_by
  quoted {j} {w} e = rw (present e, spelt.of_string j w (there e) (tok_of e))

  nothing : spelled_by spells missing ≡ []
  unfolding spelled_by
  nothing = refl

  plain_face_lem : (k p n c a b d e : ℕ) → eqb k NodeUnit ≡ false → face_by spells (fact_node k p n c a b d e) ≡ face k c (spelled_by spells n) a b d e
  unfolding face_by
  plain_face_lem k p n c a b d e f = rw f

  unit_face_lem : (p n c a b : ℕ) → face_by spells (fact_node NodeUnit p n c a b 0 0) ≡ unit_face c (spelled_by spells n) a (spelled_by spells b)
  unfolding face_by
  unit_face_lem p n c a b = refl

  -- a node behind others
  snoc : (ns : List Node) (n : Node) (xs : List Face) (x : Face) → map (face_by spells) ns ≡ xs → face_by spells n ≡ x
      → map (face_by spells) (ns ++ (n ∷ [])) ≡ xs ++ (x ∷ [])
  snoc ns n xs x e f = rw (map-append (face_by spells) ns (n ∷ []), e, f)

  consed : (n : Node) (ns : List Node) (x : Face) (xs : List Face) → face_by spells n ≡ x → map (face_by spells) ns ≡ xs
      → map (face_by spells) (n ∷ ns) ≡ x ∷ xs
  consed n ns x xs e f = rw (e, f)

  joined : (ns ms : List Node) (xs ys : List Face) → map (face_by spells) ns ≡ xs → map (face_by spells) ms ≡ ys → map (face_by spells) (ns ++ ms) ≡ xs ++ ys
  joined ns ms xs ys e f = rw (map-append (face_by spells) ns ms, e, f)

  faced : (k p n c : ℕ) (z : List (List ℕ)) → eqb k NodeUnit ≡ false → spelled_by spells n ≡ z → face_by spells (node k p n c) ≡ plain_face k c z
  faced k p n c z f e = plain_face_lem k p n c 0 0 0 0 f ∙ ap (λ (x : List (List ℕ)). plain_face k c x) e

  -- a node with a name at its place
  named_face : {w : List ℕ} {ys : List Tok} (k p a b d e : ℕ) → eqb k NodeUnit ≡ false → From ts p (name w ∷ ys)
      → face_by spells (fact_node k p p 0 a b d e) ≡ face k 0 (w ∷ []) a b d e
  named_face k p a b d e f g = plain_face_lem k p p 0 a b d e f ∙ ap (λ (z : List (List ℕ)). face k 0 z a b d e) (spelled g)

  -- ---- the last licence

  last_of : (i j : ℕ) (x y : List (List ℕ)) → spelled_by spells i ≡ x → spelled_by spells j ≡ y → spelled_by spells (cond (eqb j missing) i j) ≡ last_some x y
  unfolding spelled_by
  last_of i j x y e f = go (eqb j missing) refl f
    where
      go : (b : Bool) → eqb j missing ≡ b → cond b [] (spells j ∷ []) ≡ y → spelled_by spells (cond b i j) ≡ last_some x y
      go true g h = e ∙ ap (last_some x) h
      go false g h = rw g (ap (last_some x) h)

  licence_of_lem : (t : Tree) (i : ℕ) (ys : List Tok) → From ts i (yield t ++ ys) → spelled_by spells (licence_row i t) ≡ licence_of t
  unfolding licence_row licence_of yield
  licence_of_lem none i ys f = nothing
  licence_of_lem (num v) i ys f = nothing
  licence_of_lem (var w) i ys f = nothing
  licence_of_lem (star t) i ys f = nothing
  licence_of_lem (group t) i ys f = nothing
  licence_of_lem (field t w) i ys f = nothing
  licence_of_lem (call t w a) i ys f = nothing
  licence_of_lem (bin k l r) i ys f = nothing
  licence_of_lem (one t) i ys f = nothing
  licence_of_lem (more a t) i ys f = nothing
  licence_of_lem (decl k w e) i ys f = nothing
  licence_of_lem (ret e) i ys f = nothing
  licence_of_lem (plain e) i ys f = nothing
  licence_of_lem (assign k l r) i ys f = nothing
  licence_of_lem (guard w b e) i ys f = nothing
  licence_of_lem (then_body s) i ys f = nothing
  licence_of_lem (else_body s) i ys f = nothing
  licence_of_lem (seq l t) i ys f =
      let g : From ts i (yield l ++ (yield t ++ ys)) = split (yield l) (yield t) ys f in
      last_of (licence_row i l) (licence_row (i + width l) t) (licence_of l) (licence_of t) (licence_of_lem l i (yield t ++ ys) g)
      (licence_of_lem t (i + width l) ys (after l g))
  licence_of_lem (text k w) i ys f = go (eqb k KeywordLicense)
    where
      go : (b : Bool) → spelled_by spells (cond b (i + 1) missing) ≡ cond b (w ∷ []) []
      go true = quoted (next f)
      go false = nothing
  licence_of_lem (unit w l) i ys f = nothing
  licence_of_lem (map_type w) i ys f = nothing
  licence_of_lem (typed k t) i ys f = nothing
  licence_of_lem (limit c) i ys f = nothing
  licence_of_lem (first v) i ys f = nothing
  licence_of_lem (shifted k c v) i ys f = nothing
  licence_of_lem (map_decl w l) i ys f = nothing
  licence_of_lem (plain_field w t) i ys f = nothing
  licence_of_lem (bytes_field w v) i ys f = nothing
  licence_of_lem (array_field w t v) i ys f = nothing
  licence_of_lem (event w l) i ys f = nothing
  licence_of_lem (program l) i ys f = nothing

  -- ---- all nodes

  among : (t : Tree) (i : ℕ) (ys : List Tok) → From ts i (yield t ++ ys) → map (face_by spells) (nodes_of i t) ≡ shown t
  unfolding nodes_of shown yield
  among none i ys f = refl
  among (num v) i ys f = ap (λ (x : Face). x ∷ []) (plain_face_lem 2 i missing 0 (v % 2 ^ 32) (v / 2 ^ 32) 0 0 refl ∙ ap (λ (z : List (List ℕ)). face 2 0 z (v % 2 ^ 32) (v / 2 ^ 32) 0 0) nothing)
  among (var w) i ys f = ap (λ (x : Face). x ∷ []) (faced 1 i i 0 (w ∷ []) refl (spelled f))
  among (star t) i ys f = snoc (nodes_of (i + 1) t) _ (shown t) _ (among t (i + 1) ys (next f)) (faced 3 (place_of (i + 1) t) missing 1 [] refl nothing)
  among (group t) i ys f = among t (i + 1) (sign RParen ∷ ys) (split (yield t) (sign RParen ∷ []) ys (next f))
  among (field t w) i ys f =
      let g : From ts i (yield t ++ (sign Dot ∷ name w ∷ ys)) = split (yield t) (sign Dot ∷ name w ∷ []) ys f in
      snoc (nodes_of i t) _ (shown t) _ (among t i (sign Dot ∷ name w ∷ ys) g)
      (faced 12 (i + width t + 1) (i + width t + 1) 1 (w ∷ []) refl (spelled (next (after t g))))
  among (call t w a) i ys f =
      let g : From ts i (yield t ++ (sign Dot ∷ name w ∷ sign LParen ∷ ((yield a ++ (sign RParen ∷ [])) ++ ys))) =
      split (yield t) (sign Dot ∷ name w ∷ sign LParen ∷ (yield a ++ (sign RParen ∷ []))) ys f in
      let h : From ts (i + width t + 1) (name w ∷ sign LParen ∷ ((yield a ++ (sign RParen ∷ [])) ++ ys)) = next (after t g) in
      joined (nodes_of i t) _ (shown t) _ (among t i _ g)
      (snoc (nodes_of (i + width t + 3) a) _ (shown a) _
      (among a (i + width t + 3) (sign RParen ∷ ys) (split (yield a) (sign RParen ∷ []) ys (moved (omega arith) (next (next h)))))
      (faced 11 (place_of i t) (i + width t + 1) (count a + 1) (w ∷ []) refl (spelled h)))
  among (bin k l r) i ys f =
      let g : From ts i (yield l ++ (sign k ∷ (yield r ++ ys))) = split (yield l) (sign k ∷ yield r) ys f in
      joined (nodes_of i l) _ (shown l) _ (among l i _ g)
      (snoc (nodes_of (i + width l + 1) r) _ (shown r) _ (among r (i + width l + 1) ys (next (after l g)))
      (faced (binary_node k) (place_of i l) missing 2 [] (binary_plain k) nothing))
  among (one t) i ys f = among t i ys f
  among (more a t) i ys f =
      let g : From ts i (yield a ++ (sign Comma ∷ (yield t ++ ys))) = split (yield a) (sign Comma ∷ yield t) ys f in
      joined (nodes_of i a) _ (shown a) _ (among a i _ g) (among t (i + width a + 1) ys (next (after a g)))
  among (decl k w e) i ys f =
      let g : From ts (i + 3) (yield e ++ (sign Semicolon ∷ ys)) =
      split (yield e) (sign Semicolon ∷ []) ys (moved (omega arith) (next (next (next f)))) in
      snoc (nodes_of (i + 3) e) _ (shown e) _ (among e (i + 3) (sign Semicolon ∷ ys) g)
      (faced (decl_node k) (i + 1) (i + 1) 1 (w ∷ []) (decl_plain k) (spelled (next f)))
  among (ret e) i ys f =
      snoc (nodes_of (i + 1) e) _ (shown e) _ (among e (i + 1) (sign Semicolon ∷ ys) (split (yield e) (sign Semicolon ∷ []) ys (next f)))
      (faced 19 (i + 1) missing 1 [] refl nothing)
  among (plain e) i ys f =
      snoc (nodes_of i e) _ (shown e) _ (among e i (sign Semicolon ∷ ys) (split (yield e) (sign Semicolon ∷ []) ys f))
      (faced 13 (place_of i e) missing 1 [] refl nothing)
  among (assign k l r) i ys f =
      let g : From ts i (yield l ++ (sign k ∷ ((yield r ++ (sign Semicolon ∷ [])) ++ ys))) =
      split (yield l) (sign k ∷ (yield r ++ (sign Semicolon ∷ []))) ys f in
      joined (nodes_of i l) _ (shown l) _ (among l i _ g)
      (snoc (nodes_of (i + width l + 1) r) _ (shown r) _
      (among r (i + width l + 1) (sign Semicolon ∷ ys) (split (yield r) (sign Semicolon ∷ []) ys (next (after l g))))
      (faced (assign_node k) (place_of i l) missing 2 [] (assign_plain k) nothing))
  among (guard w b e) i ys f =
      let h : From ts (i + 3) (name w ∷ sign RParen ∷ ((yield b ++ yield e) ++ ys)) = moved (omega arith) (next (next (next f))) in
      let g : From ts (i + 5) (yield b ++ (yield e ++ ys)) = split (yield b) (yield e) ys (moved (omega arith) (next (next h))) in
      consed (node 1 (i + 3) (i + 3) 0) (nodes_of (i + 5) b ++ (nodes_of (i + 5 + width b) e ++ (node 20 (i + 1) missing (2 + count e) ∷ []))) _ _
      (faced 1 (i + 3) (i + 3) 0 (w ∷ []) refl (spelled h))
      (joined (nodes_of (i + 5) b) _ (shown b) _ (among b (i + 5) (yield e ++ ys) g)
      (snoc (nodes_of (i + 5 + width b) e) _ (shown e) _ (among e (i + 5 + width b) ys (after b g))
      (faced 20 (i + 1) missing (2 + count e) [] refl nothing)))
  among (then_body s) i ys f =
      snoc (nodes_of (i + 1) s) _ (shown s) _ (among s (i + 1) (sign RBrace ∷ ys) (split (yield s) (sign RBrace ∷ []) ys (next f)))
      (faced 21 i missing (count s) [] refl nothing)
  among (else_body s) i ys f =
      snoc (nodes_of (i + 2) s) _ (shown s) _
      (among s (i + 2) (sign RBrace ∷ ys) (split (yield s) (sign RBrace ∷ []) ys (moved (omega arith) (next (next f)))))
      (faced 22 (i + 1) missing (count s) [] refl nothing)
  among (seq l t) i ys f =
      let g : From ts i (yield l ++ (yield t ++ ys)) = split (yield l) (yield t) ys f in
      joined (nodes_of i l) _ (shown l) _ (among l i (yield t ++ ys) g) (among t (i + width l) ys (after l g))
  among (text k w) i ys f = ap (λ (x : Face). x ∷ []) (faced (text_node k) (i + 1) (i + 1) 0 (w ∷ []) (text_plain k) (quoted (next f)))
  among (unit w l) i ys f =
      let g : From ts (i + 3) (yield l ++ (sign RBrace ∷ ys)) =
      split (yield l) (sign RBrace ∷ []) ys (moved (omega arith) (next (next (next f)))) in
      snoc (nodes_of (i + 3) l) _ (shown l) _ (among l (i + 3) (sign RBrace ∷ ys) g)
      (unit_face_lem i (i + 1) (count l) (unit_kind l) (licence_row (i + 3) l)
      ∙ rw (spelled (next f), licence_of_lem l (i + 3) (sign RBrace ∷ ys) g))
  among (map_type w) i ys f = refl
  among (typed k t) i ys f = refl
  among (limit c) i ys f = refl
  among (first v) i ys f = refl
  among (shifted k c v) i ys f = refl
  among (map_decl w l) i ys f = ap (λ (x : Face). x ∷ []) (named_face 28 (i + 1) (type_of l) (typed_by KeywordKey l) (typed_by KeywordValue l) (pred (limit_of l)) refl (next f))
  among (plain_field w t) i ys f = ap (λ (x : Face). x ∷ []) (named_face 26 i 1 (type_number t) 0 0 refl f)
  among (bytes_field w v) i ys f = ap (λ (x : Face). x ∷ []) (named_face 26 i 2 0 v 0 refl f)
  among (array_field w t v) i ys f = ap (λ (x : Face). x ∷ []) (named_face 26 i 3 (type_number t) v 0 refl f)
  among (event w l) i ys f =
      let g : From ts (i + 3) (yield l ++ (sign RBrace ∷ ys)) =
      split (yield l) (sign RBrace ∷ []) ys (moved (omega arith) (next (next (next f)))) in
      snoc (nodes_of (i + 3) l) _ (shown l) _ (among l (i + 3) (sign RBrace ∷ ys) g) (faced 27 (i + 1) (i + 1) (count l) (w ∷ []) refl (spelled (next f)))
  among (program l) i ys f =
      snoc (nodes_of i l) _ (shown l) _ (among l i (sign Eof ∷ ys) (split (yield l) (sign Eof ∷ []) ys f))
      (faced 29 (i + width l) missing (count l) [] refl nothing)

  -- The nodes of a tree whose tokens these are have the faces that the tree shows.
  pub nodes_shown : (t : Tree) → ts ≡ yield t → map (face_by spells) (nodes_of 0 t) ≡ shown t
  nodes_shown t e = among t 0 [] (record { are = e ∙ sym (append-nil (yield t)) })

-- by its tokens
pub faces_shown : (ts : List Tok) → length ts ≤ missing → (t : Tree) → ts ≡ yield t → faces ts t ≡ shown t
unfolding faces face_of face_by spelled_at spelled_by spelling_of
faces_shown ts few t e =
    nodes_shown ts few (spells_tok ts) (record { of_name = λ r w h q. ap spelling_of q; of_string = λ r w h q. ap spelling_of q }) t e
