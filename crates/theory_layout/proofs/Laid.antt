-- The tree that is written is one of the grammar, nested no deeper than the tree that it is written from.
use mathlib.Core.Path.{◌≡◌, refl, sym, ap, ◌∙◌, subst}
use mathlib.Core.Bool.{Bool, true, false, cond, ◌||◌, true≢false}
use mathlib.Core.List.{List, [], ◌∷◌}
use Prim.Native.Nat.{ℕ, zero, suc, pred, ◌+◌, ◌≤◌, ◌<◌}
use native.Mathlib.Omega.{arith}
use lib.Dec.{eqb, leb, ltb}
use borrow.Author.Tests.{eqb-true, eqb-false, ltb-true, ltb-false}
use Rattle.rules.specs.Kinds.{Plus, Minus, Star, Slash, Percent, Shl, Shr}
use Rattle.rules.specs.Tree.{Tree, none, num, var, star, group, field, call, bin, one, more, decl, ret, plain, assign, guard, then_body, else_body, seq, text, unit, map_type, typed, limit, first, shifted, map_decl, plain_field, bytes_field, array_field, event, program, is_variable}
use Rattle.rules.specs.Parse.{is_add, is_shift, is_mul}
use Rattle.rules.specs.Grammar.{Nt, Add, Shift, Mul, Unary, Basic, Args, Stmt, Stmts, Item, Items, Chain, MapField, MapFields, EventField, EventFields, Decl, Decls, Program, Is, Passes, i_num, i_var, i_group, i_field, i_bare, i_call, i_one, i_more, i_prim, i_star, i_unary, i_mul, i_lone, i_shift, i_up, i_add, i_decl, i_ret, i_plain, i_assign, i_if, i_if_else, i_no_stmts, i_stmts, i_stmt, i_text, i_no_items, i_items, i_first, i_shifted, i_type, i_typed, i_limit, i_no_fields, i_fields, i_plain_field, i_bytes_field, i_array_field, i_no_event_fields, i_event_fields, i_unit, i_map, i_event, i_no_decls, i_decls, i_program}
use Rattle.theory_grammar.proofs.Laws.{either_kind, three_kinds}
use Rattle.theory_grammar.proofs.Begun.{lax}
use Rattle.theory_layout.proofs.Fields.{written_map}
use Rattle.rules_layout.specs.Rows.{level, level_by, right_of, placed, laid, fields_of}

-- ---- levels and nonterminals

-- a tree of the nonterminal of a level
pub data At (d : ℕ) (t : Tree) : ℕ → Type 0 where
  sum : Is true Add d t → At d t 0
  shift : Is true Shift d t → At d t 1
  product : Is true Mul d t → At d t 2
  dereference : Is true Unary d t → At d t 3
  operand : Is true Basic d t → At d t 4

module _ {d : ℕ} {t : Tree} where
  to_add : {n : ℕ} → At d t n → Is true Add d t
  to_add (sum h) = h
  to_add (shift h) = i_up h
  to_add (product h) = i_up (i_lone h)
  to_add (dereference h) = i_up (i_lone (i_unary h))
  to_add (operand h) = i_up (i_lone (i_unary (i_prim h)))

  to_shift : {n : ℕ} → 1 ≤ n → At d t n → Is true Shift d t
  to_shift e (sum h) = absurd (omega arith)
  to_shift e (shift h) = h
  to_shift e (product h) = i_lone h
  to_shift e (dereference h) = i_lone (i_unary h)
  to_shift e (operand h) = i_lone (i_unary (i_prim h))

  to_mul : {n : ℕ} → 2 ≤ n → At d t n → Is true Mul d t
  to_mul e (sum h) = absurd (omega arith)
  to_mul e (shift h) = absurd (omega arith)
  to_mul e (product h) = h
  to_mul e (dereference h) = i_unary h
  to_mul e (operand h) = i_unary (i_prim h)

  to_unary : {n : ℕ} → 3 ≤ n → At d t n → Is true Unary d t
  to_unary e (sum h) = absurd (omega arith)
  to_unary e (shift h) = absurd (omega arith)
  to_unary e (product h) = absurd (omega arith)
  to_unary e (dereference h) = h
  to_unary e (operand h) = i_prim h

  to_basic : {n : ℕ} → 4 ≤ n → At d t n → Is true Basic d t
  to_basic e (sum h) = absurd (omega arith)
  to_basic e (shift h) = absurd (omega arith)
  to_basic e (product h) = absurd (omega arith)
  to_basic e (dereference h) = absurd (omega arith)
  to_basic e (operand h) = h

  deeper : {n : ℕ} → At d t n → At (suc d) t n
  deeper (sum h) = sum (lax true h)
  deeper (shift h) = shift (lax true h)
  deeper (product h) = product (lax true h)
  deeper (dereference h) = dereference (lax true h)
  deeper (operand h) = operand (lax true h)

-- What is written of t at a place that takes level p: the level is enough, or one construct more is left, for the parentheses.
pub data Fits (p : ℕ) : ℕ → Tree → Type 0 where
  enough : {d : ℕ} {t : Tree} → p ≤ level t → At d (laid t) (level t) → Fits p d t
  inside : {d : ℕ} {t : Tree} → level t < p → At d (laid t) (level t) → Fits p (suc d) t

weaken : {p d : ℕ} {t : Tree} (q : ℕ) → q ≤ p → Fits p d t → Fits q d t
weaken {t = t} q e (enough h a) = enough {t = t} (omega arith) a
weaken {t = t} q e (inside {d = d} h a) = go (ltb (level t) q) refl
  where
    go : (b : Bool) → ltb (level t) q ≡ b → Fits q (suc d) t
    go true f = inside (ltb-true (level t) q f) a
    go false f = enough (ltb-false (level t) q f) (deeper a)

module _ (p : ℕ) (t : Tree) where
  -- what is written, by whether its level is enough
  pub by_level : (C : Tree → Type 0) → (p ≤ level t → C (laid t)) → (level t < p → C (group (laid t))) → C (placed p t (laid t))
  by_level C x y = go (ltb (level t) p) refl
    where
      go : (b : Bool) → ltb (level t) p ≡ b → C (cond b (group (laid t)) (laid t))
      go true e = y (ltb-true (level t) p e)
      go false e = x (ltb-false (level t) p e)

in_shift : {d : ℕ} {t : Tree} → Fits 1 d t → Is true Shift d (placed 1 t (laid t))
in_shift {t = t} (enough h a) = by_level 1 t (Is true Shift _) (λ e. to_shift e a) (λ e. absurd (omega arith))
in_shift {t = t} (inside h a) = by_level 1 t (Is true Shift _) (λ e. absurd (omega arith)) (λ e. i_lone (i_unary (i_prim (i_group (to_add a)))))

in_mul : {d : ℕ} {t : Tree} → Fits 2 d t → Is true Mul d (placed 2 t (laid t))
in_mul {t = t} (enough h a) = by_level 2 t (Is true Mul _) (λ e. to_mul e a) (λ e. absurd (omega arith))
in_mul {t = t} (inside h a) = by_level 2 t (Is true Mul _) (λ e. absurd (omega arith)) (λ e. i_unary (i_prim (i_group (to_add a))))

in_unary : {d : ℕ} {t : Tree} → Fits 3 d t → Is true Unary d (placed 3 t (laid t))
in_unary {t = t} (enough h a) = by_level 3 t (Is true Unary _) (λ e. to_unary e a) (λ e. absurd (omega arith))
in_unary {t = t} (inside h a) = by_level 3 t (Is true Unary _) (λ e. absurd (omega arith)) (λ e. i_prim (i_group (to_add a)))

in_basic : {d : ℕ} {t : Tree} → Fits 4 d t → Is true Basic d (placed 4 t (laid t))
in_basic {t = t} (enough h a) = by_level 4 t (Is true Basic _) (λ e. to_basic e a) (λ e. absurd (omega arith))
in_basic {t = t} (inside h a) = by_level 4 t (Is true Basic _) (λ e. absurd (omega arith)) (λ e. i_group (to_add a))

in_add : {d : ℕ} {t : Tree} → Fits 0 d t → Is true Add d (laid t)
in_add {t = t} (enough h a) = to_add a
in_add {t = t} (inside h a) = absurd (omega arith)

-- a variable stays one, and needs no parentheses
variable_level : (t : Tree) → is_variable t ≡ true → (level t ≡ 4) × (is_variable (laid t) ≡ true)
unfolding is_variable level laid
variable_level none q = absurd (true≢false (sym q))
variable_level (num v) q = absurd (true≢false (sym q))
variable_level (var w) q = (refl, refl)
variable_level (star t) q = absurd (true≢false (sym q))
variable_level (group t) q = variable_level t q
variable_level (field t w) q = absurd (true≢false (sym q))
variable_level (call t w a) q = absurd (true≢false (sym q))
variable_level (bin k l r) q = absurd (true≢false (sym q))
variable_level (one t) q = absurd (true≢false (sym q))
variable_level (more a t) q = absurd (true≢false (sym q))
variable_level (decl k w e) q = absurd (true≢false (sym q))
variable_level (ret e) q = absurd (true≢false (sym q))
variable_level (plain e) q = absurd (true≢false (sym q))
variable_level (assign k l r) q = absurd (true≢false (sym q))
variable_level (guard w b e) q = absurd (true≢false (sym q))
variable_level (then_body s) q = absurd (true≢false (sym q))
variable_level (else_body s) q = absurd (true≢false (sym q))
variable_level (seq l t) q = absurd (true≢false (sym q))
variable_level (text k w) q = absurd (true≢false (sym q))
variable_level (unit w l) q = absurd (true≢false (sym q))
variable_level (map_type w) q = absurd (true≢false (sym q))
variable_level (typed k t) q = absurd (true≢false (sym q))
variable_level (limit c) q = absurd (true≢false (sym q))
variable_level (first v) q = absurd (true≢false (sym q))
variable_level (shifted k c v) q = absurd (true≢false (sym q))
variable_level (map_decl w l) q = absurd (true≢false (sym q))
variable_level (plain_field w t) q = absurd (true≢false (sym q))
variable_level (bytes_field w v) q = absurd (true≢false (sym q))
variable_level (array_field w t v) q = absurd (true≢false (sym q))
variable_level (event w l) q = absurd (true≢false (sym q))
variable_level (program l) q = absurd (true≢false (sym q))

still_variable : (t : Tree) → is_variable t ≡ true → is_variable (placed 4 t (laid t)) ≡ true
still_variable t e =
    let h : (level t ≡ 4) × (is_variable (laid t) ≡ true) = variable_level t e in
    by_level 4 t (λ u. is_variable u ≡ true) (λ f. h.1) (λ f. absurd (omega (arith, h.0)))

-- ---- signs by their level

pub add_level : (k : ℕ) → is_add k ≡ true → (level_by k ≡ 0) × (right_of k ≡ 2)
unfolding level_by right_of
add_level k b = either_kind (λ k. (level_by k ≡ 0) × (right_of k ≡ 2)) k Plus Minus b (refl, refl) (refl, refl)

pub shift_level : (k : ℕ) → is_shift k ≡ true → (level_by k ≡ 1) × (right_of k ≡ 2)
unfolding level_by right_of
shift_level k b = either_kind (λ k. (level_by k ≡ 1) × (right_of k ≡ 2)) k Shl Shr b (refl, refl) (refl, refl)

pub mul_level : (k : ℕ) → is_mul k ≡ true → (level_by k ≡ 2) × (right_of k ≡ 3)
unfolding level_by right_of
mul_level k b = three_kinds (λ k. (level_by k ≡ 2) × (right_of k ≡ 3)) k Star Slash Percent b (refl, refl) (refl, refl) (refl, refl)

-- ---- what is written is a tree of the same nonterminal

-- of an expression that it fits its place
abbrev pub Written : Nt → ℕ → Tree → Type 0
Written Add d t = Fits 0 d t
Written Shift d t = Fits 1 d t
Written Mul d t = Fits 2 d t
Written Unary d t = Fits 3 d t
Written Basic d t = Fits 4 d t
Written Args d t = Is true Args d (laid t)
Written Stmt d t = Is true Stmt d (laid t)
Written Stmts d t = Is true Stmts d (laid t)
Written Item d t = Is true Item d (laid t)
Written Items d t = Is true Items d (laid t)
Written Chain d t = Is true Chain d t
Written MapField d t = Is true MapField d t
Written MapFields d t = Is true MapFields d t
Written EventField d t = Is true EventField d (laid t)
Written EventFields d t = Is true EventFields d (laid t)
Written Decl d t = Is true Decl d (laid t)
Written Decls d t = Is true Decls d (laid t)
Written Program d t = Is true Program d (laid t)

-- an expression of a level of its own, at a place of that level
own : {d n : ℕ} {t : Tree} → level t ≡ n → At d (laid t) n → Fits n d t
own {d} {n} {t} e a = enough {t = t} (omega (arith, e)) (subst (At d (laid t)) (sym e) a)

module _ {d : ℕ} {k : ℕ} {l r : Tree} where
  bin_add : is_add k ≡ true → Fits 0 d l → Fits 2 d r → Fits 0 d (bin k l r)
  unfolding level laid
  bin_add b x y =
      own {t = bin k l r} (add_level k b).0
      (sum (rw ((add_level k b).0, (add_level k b).1) (i_add (by_level 0 l (Is true Add d) (λ e. in_add x) (λ e. absurd (omega arith))) b (in_mul y))))

  bin_shift : is_shift k ≡ true → Fits 1 d l → Fits 2 d r → Fits 1 d (bin k l r)
  unfolding level laid
  bin_shift b x y =
      own {t = bin k l r} (shift_level k b).0 (shift (rw ((shift_level k b).0, (shift_level k b).1) (i_shift (in_shift x) b (in_mul y))))

  bin_mul : is_mul k ≡ true → Fits 2 d l → Fits 3 d r → Fits 2 d (bin k l r)
  unfolding level laid
  bin_mul b x y =
      own {t = bin k l r} (mul_level k b).0 (product (rw ((mul_level k b).0, (mul_level k b).1) (i_mul (in_mul x) b (in_unary y))))

grouped : {d : ℕ} {t : Tree} → Fits 0 d t → Fits 4 (suc d) (group t)
unfolding level laid
grouped {d} {t} (enough h a) = go (ltb (level t) 4) refl
  where
    go : (b : Bool) → ltb (level t) 4 ≡ b → Fits 4 (suc d) (group t)
    go true f = inside {t = group t} (ltb-true (level t) 4 f) a
    go false f = enough {t = group t} (ltb-false (level t) 4 f) (deeper a)
grouped (inside h a) = absurd (omega arith)

called : {d : ℕ} {t a : Tree} {w : List ℕ} → At d (call (placed 4 t (laid t)) w (laid a)) 4 → Fits 4 d (call t w a)
unfolding level laid
called {t = t} {a = a} {w = w} h = own {t = call t w a} refl h

written : {N : Nt} {d : ℕ} {t : Tree} → Is true N d t → Written N d t
unfolding level laid
written i_num = own refl (operand i_num)
written i_var = own refl (operand i_var)
written (i_group h) = grouped (written h)
written (i_field {t = t} {w = w} h) = own {t = field t w} refl (operand (i_field (in_basic (written h))))
written (i_bare {t = t} h q) = called (operand (i_bare (in_basic (written h)) (λ s. still_variable t (q s))))
written (i_call {t = t} h q v) = called (operand (i_call (in_basic (written h)) (λ s. still_variable t (q s)) (written v)))
written (i_one h) = i_one (in_add (written h))
written (i_more h v) = i_more (written h) (in_add (written v))
written (i_prim h) = weaken 3 (omega arith) (written h)
written (i_star {t = t} h) = own {t = star t} refl (dereference (i_star (in_unary (written h))))
written (i_unary h) = weaken 2 (omega arith) (written h)
written (i_mul h b v) = bin_mul b (written h) (written v)
written (i_lone h) = weaken 1 (omega arith) (written h)
written (i_shift h b v) = bin_shift b (written h) (written v)
written (i_up h) = weaken 0 (omega arith) (written h)
written (i_add h b v) = bin_add b (written h) (written v)
written (i_decl b h) = i_decl b (in_add (written h))
written (i_ret h) = i_ret (in_add (written h))
written (i_plain h) = i_plain (in_add (written h))
written (i_assign b h v) = i_assign b (in_add (written h)) (in_add (written v))
written (i_if h) = i_if (written h)
written (i_if_else h v) = i_if_else (written h) (written v)
written i_no_stmts = i_no_stmts
written (i_stmts h v) = i_stmts (written h) (written v)
written (i_stmt h) = i_stmt (written h)
written (i_text b) = i_text b
written i_no_items = i_no_items
written (i_items h v) = i_items (written h) (written v)
written i_first = i_first
written (i_shifted h b q) = i_shifted h b q
written (i_type q) = i_type q
written (i_typed b c) = i_typed b c
written (i_limit h q) = i_limit h q
written i_no_fields = i_no_fields
written (i_fields h v) = i_fields h v
written (i_plain_field b) = i_plain_field b
written (i_bytes_field q) = i_bytes_field q
written (i_array_field b q) = i_array_field b q
written i_no_event_fields = i_no_event_fields
written (i_event_fields h v) = i_event_fields (written h) (written v)
written (i_unit h) = i_unit (written h)
written (i_map h q) = written_map h (eqb-true _ 0 (q refl))
written (i_event h) = i_event (written h)
written i_no_decls = i_no_decls
written (i_decls h v) = i_decls (written h) (written v)
written (i_program h) = i_program (written h)

-- The tree that is written of a program is a program, nested no deeper.
pub laid_program : (d : ℕ) (t : Tree) → Is true Program d t → Is true Program d (laid t)
laid_program d t h = written h
