-- The nodes of a program, with its rows and its text, have the bytes of its layout: tree by tree along the grammar.
use mathlib.Core.Path.{◌≡◌, refl, sym, ap, ◌∙◌, subst}
use mathlib.Core.Bool.{true}
use mathlib.Core.List.{List, ◌∷◌, ◌++◌, append_assoc, append-nil}
use Prim.Native.Nat.{ℕ, suc, ◌+◌, ◌/◌, ◌%◌, ◌^◌, ◌≤◌, ◌<◌}
use native.Mathlib.Nat.{add-zero, div-add-mod'}
use native.Mathlib.Omega.{arith}
use lib.ListN.{length, get_or, drop, length-drop}
use lib.Seq.{drop-drop, drop-append_seam, get_or-drop}
use Rattle.rules.specs.Text.{bytes}
use Rattle.rules.specs.Kinds.{Eof}
use Rattle.rules.specs.Tree.{Tok, sign, name, string, kind_of, spelling_of, yield, Tree, none, num, var, star, group, field, call, bin, one, more, decl, ret, plain, assign, guard, then_body, else_body, seq, text, unit, map_decl, plain_field, bytes_field, array_field, event, count, type_number}
use Rattle.rules.specs.Nodes.{Node, node, fact_node, width, binary_node, decl_node, assign_node, text_node}
use Rattle.rules.specs.Grammar.{Args, Is, i_one, i_more}
use Rattle.theory_grammar.proofs.Laws.{yield_width}
use Rattle.theory_grammar.proofs.Complete.{From}
use Rattle.parse_nodes.specs.Names.{Names, Spans}
use Rattle.rules_decimal.specs.Decimal.{signed}
use Rattle.rules_layout.specs.Rows.{level, left_of, fields_of}
use Rattle.rules_layout.specs.Bytes.{row_bytes, rows_bytes, layout}
use Rattle.layout_back.specs.Words.{word_of, number_of, SpelledAs}
use Rattle.layout_signs.specs.Levels.{node_level, right_place, operator_of, put}
use Rattle.layout_signs.proofs.Signs.{comma_none, comma_one}
use Rattle.layout_words.specs.Words.{type_word, decl_word, assign_sign, text_word, map_lines, field_words}
use Rattle.layout_words.proofs.Words.{plain_words, bytes_words, array_words}
use Rattle.layout_expr.specs.Parts.{Part, p_var, p_num, p_star, p_field, p_call, p_bin, p_none, p_arg}
use Rattle.layout_expr.specs.Parts.{Sort as PartSort, Expr as ExprSort, Args as ArgsSort}
use Rattle.layout_lines.specs.Lines.{Line, l_plain, l_assign, l_decl, l_return, l_text, l_field, l_map}
use Rattle.layout_lines.proofs.ByKind.{spelled_at, fields_are, lines_are}
use Rattle.layout_tree.specs.Things.{Sort, One, Body, Many, Thing, t_line, t_unit, t_event, t_if, t_if_else, t_body, t_none, t_more}
use Rattle.layout_write.proofs.Bytes.{lay_num, lay_var, lay_star, lay_group, level_group, lay_field, lay_call, lay_bin, lay_none, lay_one, lay_more, lay_decl, lay_ret, lay_plain, lay_assign, lay_guard, lay_then, lay_else, lay_seq, lay_text, lay_unit, lay_event, lay_map, lay_plain_field, lay_bytes_field, lay_array_field}
use Rattle.layout_write.proofs.Facts.{OpOf, WordOf}
use Rattle.layout_write.proofs.Nodes.{At, kind_at, name_at, children_at, fact0_at, fact1_at, fact2_at, fact3_at}

-- a call has arguments between its parentheses, or none
pub args_some : {d : ℕ} {a : Tree} → Is true Args d a → 1 ≤ count a
unfolding count
args_some (i_one v) = omega arith
args_some (i_more v w) = omega (arith, args_some v)

-- a number from its two words
number_is : (v : ℕ) → number_of (v % 2 ^ 32) (v / 2 ^ 32) ≡ v
number_is v = div-add-mod' v (2 ^ 32)

-- ---- rows

module _ {ts : List Tok} where
  tok_of : {j : ℕ} {x : Tok} {ys : List Tok} → From ts j (x ∷ ys) → get_or ts j (sign Eof) ≡ x
  tok_of {j} e =
      ap (λ (n : ℕ). get_or ts n (sign Eof)) (sym (add-zero j)) ∙ sym (get_or-drop j ts 0 (sign Eof)) ∙ ap
      (λ (l : List Tok). get_or l 0 (sign Eof)) e.are

  there : {j : ℕ} {x : Tok} {ys : List Tok} → From ts j (x ∷ ys) → j < length ts
  there {j} {x} {ys} e = omega (arith, sym (length-drop j ts), ap length e.are)

  pub next : {j : ℕ} {x : Tok} {ys : List Tok} → From ts j (x ∷ ys) → From ts (j + 1) ys
  next {j} e = record { are = sym (drop-drop 1 j ts) ∙ ap (λ (l : List Tok). drop 1 l) e.are }

  pub after : (t : Tree) {i : ℕ} {ys : List Tok} → From ts i (yield t ++ ys) → From ts (i + width t) ys
  after t {i} {ys} e =
      record {
        are = ap (λ (n : ℕ). drop (i + n) ts) (sym (yield_width t)) ∙ sym (drop-drop (length (yield t)) i ts) ∙ ap
            (λ (l : List Tok). drop (length (yield t)) l) e.are ∙ drop-append_seam (yield t) ys;
      }

  pub split : (xs zs ys : List Tok) {i : ℕ} → From ts i ((xs ++ zs) ++ ys) → From ts i (xs ++ (zs ++ ys))
  split xs zs ys e = record { are = e.are ∙ append_assoc xs zs ys }

  -- the same row, counted otherwise
  moved : {i j : ℕ} {zs : List Tok} → j ≡ i → From ts i zs → From ts j zs
  moved e f = record { are = ap (λ (n : ℕ). drop n ts) e ∙ f.are }

  -- some rows further on
  pub second : {i : ℕ} {x y : Tok} {zs : List Tok} → From ts i (x ∷ y ∷ zs) → From ts (i + 2) zs
  second f = moved (omega arith) (next (next f))

  pub third : {i : ℕ} {x y z : Tok} {zs : List Tok} → From ts i (x ∷ y ∷ z ∷ zs) → From ts (i + 3) zs
  third f = moved (omega arith) (next (next (next f)))

  pub to_third : (i : ℕ) {x y : Tok} {zs : List Tok} → From ts (i + 1) (x ∷ y ∷ zs) → From ts (i + 3) zs
  to_third i f = moved (omega arith) (next (next f))

  pub to_fifth : (i : ℕ) {x y : Tok} {zs : List Tok} → From ts (i + 3) (x ∷ y ∷ zs) → From ts (i + 5) zs
  to_fifth i f = moved (omega arith) (next (next f))

  module _ {t ws : List ℕ} {n : ℕ} (names : Names ts t ws n) (spans : Spans t ws n) where
    pub named : {j : ℕ} {w : List ℕ} {ys : List Tok} → From ts j (name w ∷ ys) → SpelledAs t ws j w
    unfolding word_of kind_of spelling_of
    named {j} {w} f =
        let l : j < n = omega (arith, there f, names.tells.long) in
        let k = sym (names.tells.kinds j l) ∙ ap kind_of (tok_of f) in
        record { order = spans.order j l; inside = spans.inside j l; is = ap spelling_of (sym (tok_of f)) ∙ names.names j l k }

    pub quoted : {j : ℕ} {w : List ℕ} {ys : List Tok} → From ts j (string w ∷ ys) → SpelledAs t ws j w
    unfolding word_of kind_of spelling_of
    quoted {j} {w} f =
        let l : j < n = omega (arith, there f, names.tells.long) in
        let k = sym (names.tells.kinds j l) ∙ ap kind_of (tok_of f) in
        record { order = spans.order j l; inside = spans.inside j l; is = ap spelling_of (sym (tok_of f)) ∙ names.strings j l k }

-- ---- what a tree's nodes are

module _ (t ws nodes : List ℕ) where
  -- the nodes from m up to n are those of the expression, the arguments, the thing, or the things u, and have its layout's bytes
  pub record MadeExpr (u : Tree) (m n : ℕ) : Type 0 where
    pub part : Part t ws nodes ExprSort m n (level u) (layout u)

  pub record MadeArgs (u : Tree) (m n : ℕ) : Type 0 where
    pub part : Part t ws nodes ArgsSort m n (count u + 1) (layout u)

  pub record MadeOne (u : Tree) (m n : ℕ) : Type 0 where
    pub part : Thing t ws nodes One m n 0 (layout u)

  pub record MadeMany (u : Tree) (m n : ℕ) : Type 0 where
    pub part : Thing t ws nodes Many m n (count u) (layout u)

  pub record MadeBody (u : Tree) (m n : ℕ) : Type 0 where
    pub part : Thing t ws nodes Body m n 0 (bytes "{\n" ++ (layout u ++ bytes "}\n"))

-- ---- one constructor at a time

module _ {t ws nodes : List ℕ} where
  part_as : {s : PartSort} {m n n' l l' : ℕ} {bs bs' : List ℕ} → n ≡ n' → l ≡ l' → bs ≡ bs' → Part t ws nodes s m n l bs
      → Part t ws nodes s m n' l' bs'
  part_as {s} {m} {n} {n'} {l} {l'} {bs} {bs'} e f g q =
      subst (λ (x : List ℕ). Part t ws nodes s m n' l' x) g (subst (λ (x : ℕ). Part t ws nodes s m n' x bs) f
      (subst (λ (x : ℕ). Part t ws nodes s m x l bs) e q))

  thing_as : {s : Sort} {m n n' c c' : ℕ} {bs bs' : List ℕ} → n ≡ n' → c ≡ c' → bs ≡ bs' → Thing t ws nodes s m n c bs
      → Thing t ws nodes s m n' c' bs'
  thing_as {s} {m} {n} {n'} {c} {c'} {bs} {bs'} e f g q =
      subst (λ (x : List ℕ). Thing t ws nodes s m n' c' x) g
      (subst (λ (x : ℕ). Thing t ws nodes s m n' x bs) f (subst (λ (x : ℕ). Thing t ws nodes s m x c bs) e q))

  pub num_made : {m n i v : ℕ} {ns : List Node} → At nodes m (fact_node 2 i 4294967295 0 (v % 2 ^ 32) (v / 2 ^ 32) 0 0 ∷ ns) → suc m ≡ n
      → MadeExpr t ws nodes (num v) m n
  unfolding level
  num_made {m = m} {v = v} a e =
      record {
        part =
            part_as e refl
            (ap (λ (x : ℕ). signed (number_of x (word_of nodes m 5)) ++ bytes " ") (fact0_at a)
            ∙ ap (λ (x : ℕ). signed (number_of (v % 2 ^ 32) x) ++ bytes " ") (fact1_at a)
            ∙ ap (λ (x : ℕ). signed x ++ bytes " ") (number_is v)
            ∙ sym (lay_num v))
            (p_num (kind_at a));
      }

  pub var_made : {m n i : ℕ} {w : List ℕ} {ns : List Node} → At nodes m (node 1 i i 0 ∷ ns) → SpelledAs t ws i w → suc m ≡ n
      → MadeExpr t ws nodes (var w) m n
  unfolding level
  var_made {w = w} a s e = record { part = part_as e refl (sym (lay_var w)) (p_var (kind_at a) (spelled_at (name_at a) s)) }

  pub star_made : {m n j p : ℕ} {u : Tree} {ns : List Node} → MadeExpr t ws nodes u m j → At nodes j (node 3 p 4294967295 1 ∷ ns)
      → suc j ≡ n → MadeExpr t ws nodes (star u) m n
  unfolding level
  star_made {u = u} q a e = record { part = part_as e refl (sym (lay_star u)) (p_star (kind_at a) q.part) }

  pub group_made : {m n : ℕ} {u : Tree} → MadeExpr t ws nodes u m n → MadeExpr t ws nodes (group u) m n
  group_made {u = u} q = record { part = part_as refl (sym (level_group u)) (sym (lay_group u)) q.part }

  pub field_made : {m n j p : ℕ} {u : Tree} {w : List ℕ} {ns : List Node} → MadeExpr t ws nodes u m j → At nodes j (node 12 p p 1 ∷ ns)
      → SpelledAs t ws p w → suc j ≡ n → MadeExpr t ws nodes (field u w) m n
  unfolding level
  field_made {u = u} {w = w} q a s e =
      record { part = part_as e refl (sym (lay_field u w)) (p_field (kind_at a) q.part (spelled_at (name_at a) s)) }

  pub call_made : {m n q j p r : ℕ} {u a : Tree} {w : List ℕ} {ns : List Node} → MadeExpr t ws nodes u m q → MadeArgs t ws nodes a q j
      → At nodes j (node 11 p r (count a + 1) ∷ ns) → SpelledAs t ws r w → suc j ≡ n → MadeExpr t ws nodes (call u w a) m n
  unfolding level
  call_made {u = u} {a = a} {w = w} x y b s e =
      record {
        part = part_as e refl (sym (lay_call u w a)) (p_call (kind_at b) x.part y.part (children_at b)
            (spelled_at (name_at b) s));
      }

  pub bin_made : {m n q j p k : ℕ} {l r : Tree} {ns : List Node} → OpOf k → MadeExpr t ws nodes l m q → MadeExpr t ws nodes r q j
      → At nodes j (node (binary_node k) p 4294967295 2 ∷ ns) → suc j ≡ n → MadeExpr t ws nodes (bin k l r) m n
  unfolding level
  bin_made {j = j} {k = k} {l = l} {r = r} o x y a e =
      let h : word_of nodes j 0 ≡ binary_node k = kind_at a in
      record {
        part =
            part_as e (ap node_level h ∙ o.level)
            (ap (λ (i : ℕ). put (node_level i) (level l) (layout l) ++ (operator_of i ++ put (right_place i) (level r) (layout r))) h
            ∙ ap (λ (i : ℕ). put i (level l) (layout l) ++ (operator_of (binary_node k) ++ put (right_place (binary_node k)) (level r)
            (layout r))) o.level
            ∙ ap (λ (b : List ℕ). put (left_of k) (level l) (layout l) ++ (b ++ put (right_place (binary_node k)) (level r) (layout r)))
            o.bytes
            ∙ ap (λ (i : ℕ). put (left_of k) (level l) (layout l) ++ (row_bytes (sign k) ++ put i (level r) (layout r))) o.right
            ∙ sym (lay_bin k l r))
            (p_bin (subst (λ (i : ℕ). 4 ≤ i) (sym h) o.low) (subst (λ (i : ℕ). i ≤ 10) (sym h) o.high) x.part y.part);
      }

  pub bare_made : {m n : ℕ} → m ≡ n → MadeArgs t ws nodes none m n
  unfolding count
  bare_made e = record { part = part_as e refl (sym lay_none) p_none }

  pub one_made : {m n : ℕ} {u : Tree} → MadeExpr t ws nodes u m n → MadeArgs t ws nodes (one u) m n
  unfolding count
  one_made {u = u} q =
      record {
        part = part_as refl refl (ap (λ (l : List ℕ). l ++ layout u) (comma_none 1 (omega arith)) ∙ sym (lay_one u))
            (p_arg p_none q.part);
      }

  pub more_made : {m q n : ℕ} {a u : Tree} → 1 ≤ count a → MadeArgs t ws nodes a m q → MadeExpr t ws nodes u q n → MadeArgs t ws nodes
      (more a u) m n
  unfolding count
  more_made {a = a} {u = u} h x y =
      record {
        part =
            part_as refl (omega arith)
            (ap (λ (l : List ℕ). layout a ++ (l ++ layout u)) (comma_one (count a + 1) (omega arith)) ∙ sym (lay_more a u))
            (p_arg x.part y.part);
      }

  -- ---- lines

  -- a line of a node that has no braces
  lined : {m n j k : ℕ} {u : Tree} {bs : List ℕ} → word_of nodes j 0 ≡ k → (k ≡ 20 → ⊥) → (k ≡ 25 → ⊥) → (k ≡ 27 → ⊥) → suc j ≡ n → bs
      ≡ layout u
      → Line t ws nodes m (suc j) bs → MadeOne t ws nodes u m n
  lined h a b c e g q = record { part = thing_as e refl g (t_line (λ f. a (sym h ∙ f)) (λ f. b (sym h ∙ f)) (λ f. c (sym h ∙ f)) q) }

  pub decl_made : {m n j p k : ℕ} {u : Tree} {w : List ℕ} {ns : List Node} → WordOf decl_node decl_word 16 18 k → MadeExpr t ws nodes u m j
      → At nodes j (node (decl_node k) p p 1 ∷ ns) → SpelledAs t ws p w → suc j ≡ n → MadeOne t ws nodes (decl k w u) m n
  decl_made {j = j} {k = k} {u = u} {w = w} o q a s e =
      let h : word_of nodes j 0 ≡ decl_node k = kind_at a in
      lined h (λ f. omega (arith, o.hi, f)) (λ f. omega (arith, o.hi, f)) (λ f. omega (arith, o.hi, f)) e
      (ap (λ (i : ℕ). decl_word i ++ ((w ++ bytes " ") ++ (bytes "= " ++ (layout u ++ bytes ";\n")))) h
      ∙ ap (λ (b : List ℕ). b ++ ((w ++ bytes " ") ++ (bytes "= " ++ (layout u ++ bytes ";\n")))) o.bytes
      ∙ sym (lay_decl k w u))
      (l_decl (subst (λ (i : ℕ). 16 ≤ i) (sym h) o.lo) (subst (λ (i : ℕ). i ≤ 18) (sym h) o.hi) q.part (spelled_at (name_at a) s))

  pub ret_made : {m n j p : ℕ} {u : Tree} {ns : List Node} → MadeExpr t ws nodes u m j → At nodes j (node 19 p 4294967295 1 ∷ ns)
      → suc j ≡ n → MadeOne t ws nodes (ret u) m n
  ret_made {u = u} q a e =
      lined (kind_at a) (λ f. omega (arith, f)) (λ f. omega (arith, f)) (λ f. omega (arith, f)) e (sym (lay_ret u))
      (l_return (kind_at a) q.part)

  pub plain_made : {m n j p : ℕ} {u : Tree} {ns : List Node} → MadeExpr t ws nodes u m j → At nodes j (node 13 p 4294967295 1 ∷ ns)
      → suc j ≡ n → MadeOne t ws nodes (plain u) m n
  plain_made {u = u} q a e =
      lined (kind_at a) (λ f. omega (arith, f)) (λ f. omega (arith, f)) (λ f. omega (arith, f)) e (sym (lay_plain u))
      (l_plain (kind_at a) q.part)

  pub assign_made : {m n q j p k : ℕ} {l r : Tree} {ns : List Node} → WordOf assign_node assign_sign 14 15 k → MadeExpr t ws nodes l m q
      → MadeExpr t ws nodes r q j → At nodes j (node (assign_node k) p 4294967295 2 ∷ ns) → suc j ≡ n → MadeOne t ws nodes (assign k l r) m n
  assign_made {j = j} {k = k} {l = l} {r = r} o x y a e =
      let h : word_of nodes j 0 ≡ assign_node k = kind_at a in
      lined h (λ f. omega (arith, o.hi, f)) (λ f. omega (arith, o.hi, f)) (λ f. omega (arith, o.hi, f)) e
      (ap (λ (i : ℕ). layout l ++ (assign_sign i ++ (layout r ++ bytes ";\n"))) h
      ∙ ap (λ (b : List ℕ). layout l ++ (b ++ (layout r ++ bytes ";\n"))) o.bytes
      ∙ sym (lay_assign k l r))
      (l_assign (subst (λ (i : ℕ). 14 ≤ i) (sym h) o.lo) (subst (λ (i : ℕ). i ≤ 15) (sym h) o.hi) x.part y.part)

  pub text_made : {m n p k : ℕ} {w : List ℕ} {ns : List Node} → WordOf text_node text_word 23 24 k → At nodes m (node (text_node k) p p 0 ∷ ns)
      → SpelledAs t ws p w → suc m ≡ n → MadeOne t ws nodes (text k w) m n
  text_made {m = m} {k = k} {w = w} o a s e =
      let h : word_of nodes m 0 ≡ text_node k = kind_at a in
      lined h (λ f. omega (arith, o.lo, f)) (λ f. omega (arith, o.hi, f)) (λ f. omega (arith, o.hi, f)) e
      (ap (λ (i : ℕ). text_word i ++ ((w ++ bytes " ") ++ bytes ";\n")) h
      ∙ ap (λ (b : List ℕ). b ++ ((w ++ bytes " ") ++ bytes ";\n")) o.bytes
      ∙ sym (lay_text k w))
      (l_text (subst (λ (i : ℕ). 23 ≤ i) (sym h) o.lo) (subst (λ (i : ℕ). i ≤ 24) (sym h) o.hi) (spelled_at (name_at a) s))

  -- a field of an event with these words behind its name
  field_line : {m n p x y z : ℕ} {w : List ℕ} {u : Tree} {ns : List Node} → At nodes m (fact_node 26 p p 0 x y z 0 ∷ ns)
      → SpelledAs t ws p w → suc m ≡ n
      → (w ++ bytes " ") ++ field_words x y z ≡ layout u → MadeOne t ws nodes u m n
  field_line {w = w} a s e g =
      lined (kind_at a) (λ f. omega (arith, f)) (λ f. omega (arith, f)) (λ f. omega (arith, f)) e
      (ap (λ (l : List ℕ). (w ++ bytes " ") ++ l) (fields_are (fact0_at a) (fact1_at a) (fact2_at a)) ∙ g)
      (l_field (kind_at a) (spelled_at (name_at a) s))

  pub plain_field_made : {m n p k : ℕ} {w : List ℕ} {ns : List Node} → type_word (type_number k) ≡ row_bytes (sign k)
      → At nodes m (fact_node 26 p p 0 1 (type_number k) 0 0 ∷ ns) → SpelledAs t ws p w → suc m ≡ n → MadeOne t ws nodes (plain_field w k) m n
  plain_field_made {k = k} {w = w} o a s e =
      field_line a s e
      (ap (λ (l : List ℕ). (w ++ bytes " ") ++ l) (sym (plain_words 1 (type_number k) 0 refl) ∙ ap
      (λ (l : List ℕ). bytes ": " ++ (l ++ bytes ";\n")) o)
      ∙ sym (lay_plain_field w k))

  pub bytes_field_made : {m n p v : ℕ} {w : List ℕ} {ns : List Node} → At nodes m (fact_node 26 p p 0 2 0 v 0 ∷ ns) → SpelledAs t ws p w
      → suc m ≡ n
      → MadeOne t ws nodes (bytes_field w v) m n
  bytes_field_made {v = v} {w = w} a s e =
      field_line a s e (ap (λ (l : List ℕ). (w ++ bytes " ") ++ l) (sym (bytes_words 2 0 v refl)) ∙ sym (lay_bytes_field w v))

  pub array_field_made : {m n p k v : ℕ} {w : List ℕ} {ns : List Node} → type_word (type_number k) ≡ row_bytes (sign k)
      → At nodes m (fact_node 26 p p 0 3 (type_number k) v 0 ∷ ns) → SpelledAs t ws p w → suc m ≡ n → MadeOne t ws nodes
      (array_field w k v) m n
  array_field_made {k = k} {v = v} {w = w} o a s e =
      field_line a s e
      (ap (λ (l : List ℕ). (w ++ bytes " ") ++ l)
      (sym (array_words 3 (type_number k) v (λ f. omega (arith, f)) (λ f. omega (arith, f)))
      ∙ ap (λ (l : List ℕ). bytes ": " ++ (l ++ (bytes "[ " ++ ((signed v ++ bytes " ") ++ bytes "] ;\n")))) o)
      ∙ sym (lay_array_field w k v))

  pub map_made : {m n p x y z v : ℕ} {l : Tree} {w : List ℕ} {ns : List Node} → rows_bytes (yield (fields_of l)) ≡ map_lines x y z v
      → At nodes m (fact_node 28 p p 0 x y z v ∷ ns) → SpelledAs t ws p w → suc m ≡ n → MadeOne t ws nodes (map_decl w l) m n
  map_made {l = l} {w = w} o a s e =
      lined (kind_at a) (λ f. omega (arith, f)) (λ f. omega (arith, f)) (λ f. omega (arith, f)) e
      (ap (λ (b : List ℕ). bytes "map " ++ ((w ++ bytes " ") ++ (bytes "{\n" ++ (b ++ bytes "}\n"))))
      (lines_are (fact0_at a) (fact1_at a) (fact2_at a) (fact3_at a) ∙ sym o)
      ∙ sym (lay_map w l))
      (l_map (kind_at a) (spelled_at (name_at a) s))

  -- ---- braces

  pub body_made : {m n j k p q x y : ℕ} {l : Tree} {ns : List Node} → MadeMany t ws nodes l m j → At nodes j
      (fact_node k p q (count l) x y 0 0 ∷ ns)
      → suc j ≡ n → MadeBody t ws nodes l m n
  body_made q a e = record { part = thing_as e refl refl (t_body (children_at a) q.part) }

  pub unit_made : {m n j p r x y : ℕ} {l : Tree} {w : List ℕ} {ns : List Node} → MadeMany t ws nodes l m j
      → At nodes j (fact_node 25 p r (count l) x y 0 0 ∷ ns) → SpelledAs t ws r w → suc j ≡ n → MadeOne t ws nodes (unit w l) m n
  unit_made {l = l} {w = w} q a s e =
      record { part = thing_as e refl (sym (lay_unit w l)) (t_unit (kind_at a) (body_made q a refl).part (spelled_at (name_at a) s)) }

  pub event_made : {m n j p : ℕ} {l : Tree} {w : List ℕ} {ns : List Node} → MadeMany t ws nodes l m j → At nodes j
      (node 27 p p (count l) ∷ ns)
      → SpelledAs t ws p w → suc j ≡ n → MadeOne t ws nodes (event w l) m n
  event_made {l = l} {w = w} q a s e =
      record { part = thing_as e refl (sym (lay_event w l)) (t_event (kind_at a) (body_made q a refl).part (spelled_at (name_at a) s)) }

  pub if_made : {m n j p r : ℕ} {b : Tree} {w : List ℕ} {ns ms : List Node} → At nodes m (node 1 r r 0 ∷ ms) → SpelledAs t ws r w
      → MadeBody t ws nodes b (suc m) j → At nodes j (node 20 p 4294967295 2 ∷ ns) → suc j ≡ n → MadeOne t ws nodes
      (guard w (then_body b) none) m n
  if_made {b = b} {w = w} v s q a e =
      let x : bytes "{\n" ++ (layout b ++ bytes "}\n") ≡ layout (then_body b) ++ layout none =
      sym (lay_then b) ∙ sym (append-nil (layout (then_body b))) ∙ ap (λ (l : List ℕ). layout (then_body b) ++ l) (sym lay_none) in
      record {
        part =
            thing_as e refl (ap (λ (l : List ℕ). bytes "if guard ( " ++ ((w ++ bytes " ") ++ (bytes ") " ++ l))) x ∙ sym
            (lay_guard w (then_body b) none))
            (t_if (kind_at a) (children_at a) (spelled_at (name_at v) s) q.part);
      }

  pub if_else_made : {m n q j p r : ℕ} {b d : Tree} {w : List ℕ} {ns ms : List Node} → At nodes m (node 1 r r 0 ∷ ms) → SpelledAs t ws r w
      → MadeBody t ws nodes b (suc m) q → MadeBody t ws nodes d q j → At nodes j (node 20 p 4294967295 3 ∷ ns) → suc j ≡ n
      → MadeOne t ws nodes (guard w (then_body b) (else_body d)) m n
  if_else_made {b = b} {d = d} {w = w} v s x y a e =
      record {
        part =
            thing_as e refl
            (ap (λ (l : List ℕ). bytes "if guard ( " ++ ((w ++ bytes " ") ++
            (bytes ") " ++ (l ++ (bytes "else " ++ (bytes "{\n" ++ (layout d ++ bytes "}\n")))))))
            (sym (lay_then b))
            ∙ ap (λ (l : List ℕ). bytes "if guard ( " ++ ((w ++ bytes " ") ++ (bytes ") " ++ (layout (then_body b) ++ l))))
            (sym (lay_else d))
            ∙ sym (lay_guard w (then_body b) (else_body d)))
            (t_if_else (kind_at a) (children_at a) (spelled_at (name_at v) s) x.part y.part);
      }

  pub none_made : {m n : ℕ} → m ≡ n → MadeMany t ws nodes none m n
  unfolding count
  none_made e = record { part = thing_as e refl (sym lay_none) t_none }

  pub seq_made : {m q n : ℕ} {l u : Tree} → MadeMany t ws nodes l m q → MadeOne t ws nodes u q n → MadeMany t ws nodes (seq l u) m n
  unfolding count
  seq_made {l = l} {u = u} x y = record { part = thing_as refl (omega arith) (sym (lay_seq l u)) (t_more x.part y.part) }
