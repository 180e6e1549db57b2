-- The nodes of a program that is read from rows are those of its layout: along the grammar.
use mathlib.Core.Path.{◌≡◌, refl, sym, subst}
use mathlib.Core.Bool.{true}
use mathlib.Core.List.{List, [], ◌∷◌, ◌++◌}
use Prim.Native.Nat.{ℕ, suc, ◌+◌}
use native.Mathlib.Omega.{arith}
use lib.ListN.{length}
use Rattle.rules.specs.Kinds.{RBrace, LParen, RParen, Dot, Comma, Semicolon, Eof}
use Rattle.rules.specs.Tree.{Tok, sign, name, yield, Tree, then_body, else_body, program, count}
use Rattle.rules.specs.Nodes.{width, size, nodes_of, tree_words}
use Rattle.rules.specs.Grammar.{Nt, Add, Shift, Mul, Unary, Basic, Args, Stmt, Stmts, Item, Items, Chain, MapField, MapFields, EventField, EventFields, Decl, Decls, Program, Is, i_num, i_var, i_group, i_field, i_bare, i_call, i_one, i_more, i_prim, i_star, i_unary, i_mul, i_lone, i_shift, i_up, i_add, i_decl, i_ret, i_plain, i_assign, i_if, i_if_else, i_no_stmts, i_stmts, i_stmt, i_text, i_no_items, i_items, i_first, i_shifted, i_type, i_typed, i_limit, i_no_fields, i_fields, i_plain_field, i_bytes_field, i_array_field, i_no_event_fields, i_event_fields, i_unit, i_map, i_event, i_no_decls, i_decls, i_program}
use Rattle.theory_grammar.proofs.Complete.{From}
use Rattle.parse_nodes.specs.Names.{Names, Spans}
use Rattle.rules_layout.specs.Bytes.{layout}
use Rattle.layout_back.specs.Words.{word_of}
use Rattle.layout_tree.specs.Things.{Many, Thing}
use Rattle.layout_tree.specs.Things
use Rattle.layout_write.specs.Lent.{Lent}
use Rattle.layout_write.proofs.Bytes.{lay_program}
use Rattle.layout_write.proofs.Facts.{add_op, shift_op, mul_op, decl_word_lem, assign_word, text_word_lem, type_word_lem, map_lines_lem}
use Rattle.layout_write.proofs.Nodes.{At, at_left, at_after, at_next, children_at}
use Rattle.layout_write.proofs.Made.{args_some, next, after, split, second, third, to_third, to_fifth, named, quoted, MadeExpr, MadeArgs, MadeOne, MadeMany, num_made, var_made, star_made, group_made, field_made, call_made, bin_made, bare_made, one_made, more_made, decl_made, ret_made, plain_made, assign_made, text_made, plain_field_made, bytes_field_made, array_field_made, map_made, body_made, unit_made, event_made, if_made, if_else_made, none_made, seq_made}

-- what the nodes of a nonterminal's tree are; what is in a map has none, and a program's are told below
abbrev Made : (t ws nodes : List ℕ) → Nt → Tree → ℕ → ℕ → Type 0
Made t ws nodes Add u m n = MadeExpr t ws nodes u m n
Made t ws nodes Shift u m n = MadeExpr t ws nodes u m n
Made t ws nodes Mul u m n = MadeExpr t ws nodes u m n
Made t ws nodes Unary u m n = MadeExpr t ws nodes u m n
Made t ws nodes Basic u m n = MadeExpr t ws nodes u m n
Made t ws nodes Args u m n = MadeArgs t ws nodes u m n
Made t ws nodes Stmt u m n = MadeOne t ws nodes u m n
Made t ws nodes Stmts u m n = MadeMany t ws nodes u m n
Made t ws nodes Item u m n = MadeOne t ws nodes u m n
Made t ws nodes Items u m n = MadeMany t ws nodes u m n
Made t ws nodes Chain u m n = m ≡ m
Made t ws nodes MapField u m n = m ≡ m
Made t ws nodes MapFields u m n = m ≡ m
Made t ws nodes EventField u m n = MadeOne t ws nodes u m n
Made t ws nodes EventFields u m n = MadeMany t ws nodes u m n
Made t ws nodes Decl u m n = MadeOne t ws nodes u m n
Made t ws nodes Decls u m n = MadeMany t ws nodes u m n
Made t ws nodes Program u m n = m ≡ m

module _ {t ws nodes : List ℕ} {ts : List Tok} {rows : ℕ} (names : Names ts t ws rows) (spans : Spans t ws rows) where
  -- a list whose nodes come one behind the other
  made : {N : Nt} {d : ℕ} {u : Tree} (i m n : ℕ) (ys : List Tok) → Is true N d u → From ts i (yield u ++ ys) → At nodes m (nodes_of i u)
      → n ≡ m + size u
      → Made t ws nodes N u m n
  unfolding yield nodes_of size count
  made i m n ys i_num f a e = num_made a (omega (arith, e))
  made i m n ys i_var f a e = var_made a (named names spans f) (omega (arith, e))
  made i m n ys (i_group {t = u} v) f a e = group_made (made (i + 1) m n (sign RParen ∷ ys) v
      (split (yield u) (sign RParen ∷ []) ys (next f)) a e)
  made i m n ys (i_field {t = u} {w = w} v) f a e =
      let g = split (yield u) (sign Dot ∷ name w ∷ []) ys f in
      field_made (made i m (m + size u) _ v g (at_left (nodes_of i u) _ a) refl) (at_after i u _ a)
      (named names spans (next (after u g))) (omega (arith, e))
  made i m n ys (i_bare {t = u} {w = w} v q) f a e =
      let g = split (yield u) (sign Dot ∷ name w ∷ sign LParen ∷ sign RParen ∷ []) ys f in
      call_made (made i m (m + size u) _ v g (at_left (nodes_of i u) _ a) refl) (bare_made refl) (at_after i u _ a)
      (named names spans (next (after u g)))
      (omega (arith, e))
  made i m n ys (i_call {t = u} {a = b} {w = w} v q x) f a e =
      let g = split (yield u) (sign Dot ∷ name w ∷ sign LParen ∷ (yield b ++ (sign RParen ∷ []))) ys f in
      let h = next (after u g) in
      let k = at_after i u _ a in
      call_made (made i m (m + size u) _ v g (at_left (nodes_of i u) _ a) refl)
      (made (i + width u + 3) (m + size u) (m + size u + size b) (sign RParen ∷ ys) x
      (split (yield b) (sign RParen ∷ []) ys (to_third (i + width u) h)) (at_left (nodes_of (i + width u + 3) b) _ k) refl)
      (at_after (i + width u + 3) b _ k) (named names spans h) (omega (arith, e))
  made i m n ys (i_one v) f a e = one_made (made i m n ys v f a e)
  made i m n ys (i_more {a = b} {t = u} v x) f a e =
      let g = split (yield b) (sign Comma ∷ yield u) ys f in
      more_made (args_some v) (made i m (m + size b) _ v g (at_left (nodes_of i b) _ a) refl)
      (made (i + width b + 1) (m + size b) n ys x (next (after b g)) (at_after i b _ a) (omega (arith, e)))
  made i m n ys (i_prim v) f a e = made i m n ys v f a e
  made i m n ys (i_star {t = u} v) f a e =
      star_made (made (i + 1) m (m + size u) ys v (next f) (at_left (nodes_of (i + 1) u) _ a) refl) (at_after (i + 1) u _ a)
      (omega (arith, e))
  made i m n ys (i_unary v) f a e = made i m n ys v f a e
  made i m n ys (i_mul {k = k} {l = l} {r = r} v b x) f a e =
      let g = split (yield l) (sign k ∷ yield r) ys f in
      let h = at_after i l _ a in
      bin_made (mul_op k b) (made i m (m + size l) _ v g (at_left (nodes_of i l) _ a) refl)
      (made (i + width l + 1) (m + size l) (m + size l + size r) ys x (next (after l g)) (at_left (nodes_of (i + width l + 1) r) _ h) refl)
      (at_after (i + width l + 1) r _ h) (omega (arith, e))
  made i m n ys (i_lone v) f a e = made i m n ys v f a e
  made i m n ys (i_shift {k = k} {l = l} {r = r} v b x) f a e =
      let g = split (yield l) (sign k ∷ yield r) ys f in
      let h = at_after i l _ a in
      bin_made (shift_op k b) (made i m (m + size l) _ v g (at_left (nodes_of i l) _ a) refl)
      (made (i + width l + 1) (m + size l) (m + size l + size r) ys x (next (after l g)) (at_left (nodes_of (i + width l + 1) r) _ h) refl)
      (at_after (i + width l + 1) r _ h) (omega (arith, e))
  made i m n ys (i_up v) f a e = made i m n ys v f a e
  made i m n ys (i_add {k = k} {l = l} {r = r} v b x) f a e =
      let g = split (yield l) (sign k ∷ yield r) ys f in
      let h = at_after i l _ a in
      bin_made (add_op k b) (made i m (m + size l) _ v g (at_left (nodes_of i l) _ a) refl)
      (made (i + width l + 1) (m + size l) (m + size l + size r) ys x (next (after l g)) (at_left (nodes_of (i + width l + 1) r) _ h) refl)
      (at_after (i + width l + 1) r _ h) (omega (arith, e))
  made i m n ys (i_decl {k = k} {w = w} {e = u} b v) f a e =
      let g = split (yield u) (sign Semicolon ∷ []) ys (third f) in
      decl_made (decl_word_lem k b) (made (i + 3) m (m + size u) _ v g (at_left (nodes_of (i + 3) u) _ a) refl) (at_after (i + 3) u _ a)
      (named names spans (next f)) (omega (arith, e))
  made i m n ys (i_ret {e = u} v) f a e =
      ret_made (made (i + 1) m (m + size u) _ v (split (yield u) (sign Semicolon ∷ []) ys (next f)) (at_left (nodes_of (i + 1) u) _ a) refl)
      (at_after (i + 1) u _ a) (omega (arith, e))
  made i m n ys (i_plain {e = u} v) f a e =
      plain_made (made i m (m + size u) _ v (split (yield u) (sign Semicolon ∷ []) ys f) (at_left (nodes_of i u) _ a) refl)
      (at_after i u _ a) (omega (arith, e))
  made i m n ys (i_assign {k = k} {l = l} {r = r} b v x) f a e =
      let g = split (yield l) (sign k ∷ (yield r ++ (sign Semicolon ∷ []))) ys f in
      let h = at_after i l _ a in
      assign_made (assign_word k b) (made i m (m + size l) _ v g (at_left (nodes_of i l) _ a) refl)
      (made (i + width l + 1) (m + size l) (m + size l + size r) _ x (split (yield r) (sign Semicolon ∷ []) ys (next (after l g)))
      (at_left (nodes_of (i + width l + 1) r) _ h) refl)
      (at_after (i + width l + 1) r _ h) (omega (arith, e))
  made i m n ys (i_if {w = w} {b = b} v) f a e =
      let s = third f in
      let g = split (yield (then_body b)) [] ys (to_fifth i s) in
      let h = at_next _ _ a in
      let k = at_left (nodes_of (i + 5) (then_body b)) _ h in
      if_made a (named names spans s)
      (body_made (made (i + 5 + 1) (suc m) (suc m + size b) _ v (split (yield b) (sign RBrace ∷ []) _ (next g))
      (at_left (nodes_of (i + 5 + 1) b) _ k) refl)
      (at_after (i + 5 + 1) b _ k) (omega arith))
      (at_after (i + 5) (then_body b) _ h) (omega (arith, e))
  made i m n ys (i_if_else {w = w} {b = b} {e = d} v x) f a e =
      let s = third f in
      let g = split (yield (then_body b)) (yield (else_body d)) ys (to_fifth i s) in
      let h = at_next _ _ a in
      let k = at_left (nodes_of (i + 5) (then_body b)) _ h in
      let o = i + 5 + width (then_body b) in
      let p = after (then_body b) g in
      let y = at_after (i + 5) (then_body b) _ h in
      let z = at_left (nodes_of o (else_body d)) _ y in
      if_else_made a (named names spans s)
      (body_made (made (i + 5 + 1) (suc m) (suc m + size b) _ v (split (yield b) (sign RBrace ∷ []) _ (next g))
      (at_left (nodes_of (i + 5 + 1) b) _ k) refl)
      (at_after (i + 5 + 1) b _ k) (omega arith))
      (body_made (made (o + 2) (suc m + size (then_body b)) (suc m + size (then_body b) + size d) _ x
      (split (yield d) (sign RBrace ∷ []) ys (second p))
      (at_left (nodes_of (o + 2) d) _ z) refl)
      (at_after (o + 2) d _ z) (omega arith))
      (at_after o (else_body d) _ y) (omega (arith, e))
  made i m n ys i_no_stmts f a e = none_made (omega (arith, e))
  made i m n ys (i_stmts {l = l} {s = s} v x) f a e =
      let g = split (yield l) (yield s) ys f in
      seq_made (made i m (m + size l) _ v g (at_left (nodes_of i l) _ a) refl)
      (made (i + width l) (m + size l) n ys x (after l g) (at_after i l _ a) (omega (arith, e)))
  made i m n ys (i_stmt v) f a e = made i m n ys v f a e
  made i m n ys (i_text {k = k} b) f a e = text_made (text_word_lem k b) a (quoted names spans (next f)) (omega (arith, e))
  made i m n ys i_no_items f a e = none_made (omega (arith, e))
  made i m n ys (i_items {l = l} {s = s} v x) f a e =
      let g = split (yield l) (yield s) ys f in
      seq_made (made i m (m + size l) _ v g (at_left (nodes_of i l) _ a) refl)
      (made (i + width l) (m + size l) n ys x (after l g) (at_after i l _ a) (omega (arith, e)))
  made i m n ys i_first f a e = refl
  made i m n ys (i_shifted v b q) f a e = refl
  made i m n ys (i_type q) f a e = refl
  made i m n ys (i_typed b c) f a e = refl
  made i m n ys (i_limit v q) f a e = refl
  made i m n ys i_no_fields f a e = refl
  made i m n ys (i_fields v x) f a e = refl
  made i m n ys (i_plain_field {t = k} b) f a e = plain_field_made (type_word_lem k b) a (named names spans f) (omega (arith, e))
  made i m n ys (i_bytes_field q) f a e = bytes_field_made a (named names spans f) (omega (arith, e))
  made i m n ys (i_array_field {t = k} b q) f a e = array_field_made (type_word_lem k b) a (named names spans f) (omega (arith, e))
  made i m n ys i_no_event_fields f a e = none_made (omega (arith, e))
  made i m n ys (i_event_fields {l = l} {s = s} v x) f a e =
      let g = split (yield l) (yield s) ys f in
      seq_made (made i m (m + size l) _ v g (at_left (nodes_of i l) _ a) refl)
      (made (i + width l) (m + size l) n ys x (after l g) (at_after i l _ a) (omega (arith, e)))
  made i m n ys (i_unit {w = w} {l = l} v) f a e =
      let g = split (yield l) (sign RBrace ∷ []) ys (third f) in
      unit_made (made (i + 3) m (m + size l) _ v g (at_left (nodes_of (i + 3) l) _ a) refl) (at_after (i + 3) l _ a)
      (named names spans (next f)) (omega (arith, e))
  made i m n ys (i_map {l = l} v q) f a e = map_made (map_lines_lem l v (q refl)) a (named names spans (next f)) (omega (arith, e))
  made i m n ys (i_event {w = w} {l = l} v) f a e =
      let g = split (yield l) (sign RBrace ∷ []) ys (third f) in
      event_made (made (i + 3) m (m + size l) _ v g (at_left (nodes_of (i + 3) l) _ a) refl) (at_after (i + 3) l _ a)
      (named names spans (next f)) (omega (arith, e))
  made i m n ys i_no_decls f a e = none_made (omega (arith, e))
  made i m n ys (i_decls {l = l} {s = s} v x) f a e =
      let g = split (yield l) (yield s) ys f in
      seq_made (made i m (m + size l) _ v g (at_left (nodes_of i l) _ a) refl)
      (made (i + width l) (m + size l) n ys x (after l g) (at_after i l _ a) (omega (arith, e)))
  made i m n ys (i_program v) f a e = refl

of_program : {t ws nodes : List ℕ} {n d : ℕ} {u : Tree} (rest : List ℕ) → Is true Program d u → Names (yield u) t ws (length (yield u))
    → Spans t ws (length (yield u))
    → n ≡ size u → nodes ≡ tree_words 0 u ++ rest → Things.Program t ws nodes n (layout u)
unfolding size nodes_of yield tree_words
of_program {t} {ws} {nodes} {n} rest (i_program {l = l} v) names spans e w =
    let a : At nodes 0 (nodes_of 0 (program l)) = record { rest = rest; are = w } in
    let q : MadeMany t ws nodes l 0 (0 + size l) =
    made names spans 0 0 (0 + size l) (sign Eof ∷ []) v (record { are = refl }) (at_left (nodes_of 0 l) _ a) refl in
    let h : word_of nodes (0 + size l) 3 ≡ count l = children_at (at_after 0 l _ a) in
    record {
      last = 0 + size l;
      ends = omega (arith, e);
      things =
          subst (λ (c : ℕ). Thing t ws nodes Many 0 (0 + size l) c (layout (program l))) (sym h)
          (subst (λ (bs : List ℕ). Thing t ws nodes Many 0 (0 + size l) (count l) bs) (sym (lay_program l)) q.part);
    }

-- The nodes that are lent of a program have the bytes of its layout.
pub program_made : {t ws nodes : List ℕ} {n : ℕ} {u : Tree} → Lent t ws nodes n u → Things.Program t ws nodes n (layout u)
program_made l = of_program l.rest l.is l.names l.spans l.counted l.words
