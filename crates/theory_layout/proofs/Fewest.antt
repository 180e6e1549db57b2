-- "Parentheses only where the grammar needs them": what is written has the fewest rows of all trees that are the same but for parentheses, and no other has
-- as few.
use mathlib.Core.Path.{◌≡◌, refl, sym, ap, ◌∙◌, subst}
use mathlib.Core.Bool.{Bool, true, false, cond}
use mathlib.Core.List.{List}
use Prim.Native.Nat.{ℕ, zero, suc, ◌+◌, ◌≤◌, ◌<◌}
use native.Mathlib.Omega.{arith}
use lib.Dec.{ltb}
use borrow.Author.Tests.{ltb-true, ltb-false}
use Rattle.rules.specs.Tree.{Tree, none, num, var, star, group, field, call, bin, one, more, decl, ret, plain, assign, guard, then_body, else_body, seq, text, unit, map_type, typed, limit, first, shifted, map_decl, plain_field, bytes_field, array_field, event, program}
use Rattle.rules.specs.Nodes.{width}
use Rattle.rules.specs.Parse.{is_add, is_shift, is_mul}
use Rattle.rules.specs.Grammar.{Nt, Add, Shift, Mul, Unary, Basic, Args, Stmt, Stmts, Item, Items, Chain, MapField, MapFields, EventField, EventFields, Decl, Decls, Program, Is, i_num, i_var, i_group, i_field, i_bare, i_call, i_one, i_more, i_prim, i_star, i_unary, i_mul, i_lone, i_shift, i_up, i_add, i_decl, i_ret, i_plain, i_assign, i_if, i_if_else, i_no_stmts, i_stmts, i_stmt, i_text, i_no_items, i_items, i_first, i_shifted, i_type, i_typed, i_limit, i_no_fields, i_fields, i_plain_field, i_bytes_field, i_array_field, i_no_event_fields, i_event_fields, i_unit, i_map, i_event, i_no_decls, i_decls, i_program}
use Rattle.rules_layout.specs.Rows.{level, level_by, right_of, placed, laid}
use Rattle.theory_layout.specs.Fewest.{bare, Fewest}
use Rattle.theory_layout.proofs.Twice.{laid_twice}
use Rattle.theory_layout.proofs.Laid.{by_level, add_level, shift_level, mul_level}

-- ---- what is written hangs on the bare tree alone

pub bare_level : (t : Tree) → level (bare t) ≡ level t
unfolding level bare
bare_level none = refl
bare_level (num v) = refl
bare_level (var w) = refl
bare_level (star t) = refl
bare_level (group t) = bare_level t
bare_level (field t w) = refl
bare_level (call t w a) = refl
bare_level (bin k l r) = refl
bare_level (one t) = refl
bare_level (more a t) = refl
bare_level (decl k w e) = refl
bare_level (ret e) = refl
bare_level (plain e) = refl
bare_level (assign k l r) = refl
bare_level (guard w b e) = refl
bare_level (then_body s) = refl
bare_level (else_body s) = refl
bare_level (seq l t) = refl
bare_level (text k w) = refl
bare_level (unit w l) = refl
bare_level (map_type w) = refl
bare_level (typed k t) = refl
bare_level (limit c) = refl
bare_level (first v) = refl
bare_level (shifted k c v) = refl
bare_level (map_decl w l) = refl
bare_level (plain_field w t) = refl
bare_level (bytes_field w v) = refl
bare_level (array_field w t v) = refl
bare_level (event w l) = refl
bare_level (program l) = refl

-- the same at a place
bare_placed : (p : ℕ) (t : Tree) → laid (bare t) ≡ laid t → placed p (bare t) (laid (bare t)) ≡ placed p t (laid t)
bare_placed p t e = rw (bare_level t, e)

pub bare_laid : (t : Tree) → laid (bare t) ≡ laid t
unfolding laid bare
bare_laid none = refl
bare_laid (num v) = refl
bare_laid (var w) = refl
bare_laid (star t) = ap star (bare_placed 3 t (bare_laid t))
bare_laid (group t) = bare_laid t
bare_laid (field t w) = ap (λ (u : Tree). field u w) (bare_placed 4 t (bare_laid t))
bare_laid (call t w a) = rw (bare_placed 4 t (bare_laid t), bare_laid a)
bare_laid (bin k l r) = rw (bare_placed (level_by k) l (bare_laid l), bare_placed (right_of k) r (bare_laid r))
bare_laid (one t) = ap one (bare_laid t)
bare_laid (more a t) = rw (bare_laid a, bare_laid t)
bare_laid (decl k w e) = ap (decl k w) (bare_laid e)
bare_laid (ret e) = ap ret (bare_laid e)
bare_laid (plain e) = ap plain (bare_laid e)
bare_laid (assign k l r) = rw (bare_laid l, bare_laid r)
bare_laid (guard w b e) = rw (bare_laid b, bare_laid e)
bare_laid (then_body s) = ap then_body (bare_laid s)
bare_laid (else_body s) = ap else_body (bare_laid s)
bare_laid (seq l t) = rw (bare_laid l, bare_laid t)
bare_laid (text k w) = refl
bare_laid (unit w l) = ap (unit w) (bare_laid l)
bare_laid (map_type w) = refl
bare_laid (typed k t) = refl
bare_laid (limit c) = refl
bare_laid (first v) = refl
bare_laid (shifted k c v) = refl
bare_laid (map_decl w l) = refl
bare_laid (plain_field w t) = refl
bare_laid (bytes_field w v) = refl
bare_laid (array_field w t v) = refl
bare_laid (event w l) = ap (event w) (bare_laid l)
bare_laid (program l) = ap program (bare_laid l)

-- trees that are the same but for parentheses are written alike
alike : (t u : Tree) → bare u ≡ bare (laid t) → laid u ≡ laid t
alike t u e = sym (bare_laid u) ∙ ap laid e ∙ bare_laid (laid t) ∙ laid_twice t

-- ---- rows

-- u has no fewer rows than what is written, v, and is v if it has as many
pub record Less (v u : Tree) : Type 0 where
  pub least : width v ≤ width u
  pub only : width u ≡ width v → u ≡ v

alone : (u : Tree) → Less u u
alone u = record { least = omega arith; only = λ e. refl }

-- at a place that takes level p
abbrev Small : ℕ → Tree → Type 0
Small p u = Less (placed p u (laid u)) u

-- two rows more, for parentheses
wider : (v : Tree) → width (group v) ≡ width v + 2
unfolding width
wider v = omega arith

module _ (u : Tree) where
  -- a place that takes less asks for parentheses only where one that takes more does
  weaken : (p q : ℕ) → q ≤ p → Small p u → Small q u
  weaken p q e s = by_level q u (λ v. Less v u) x y
    where
      x : q ≤ level u → Less (laid u) u
      x h = go (ltb (level u) p) refl s
        where
          go : (b : Bool) → ltb (level u) p ≡ b → Less (cond b (group (laid u)) (laid u)) u → Less (laid u) u
          go true f z = record { least = omega (arith, z.least, wider (laid u)); only = λ g. absurd (omega (arith, z.least, wider (laid u), g)) }
          go false f z = z

      y : level u < q → Less (group (laid u)) u
      y h = go (ltb (level u) p) refl s
        where
          go : (b : Bool) → ltb (level u) p ≡ b → Less (cond b (group (laid u)) (laid u)) u → Less (group (laid u)) u
          go true f z = z
          go false f z = absurd (omega (arith, ltb-false (level u) p f))

  -- an expression at a place that takes its own level
  own : (n : ℕ) → level u ≡ n → Less (laid u) u → Small n u
  own n e z = by_level n u (λ v. Less v u) (λ h. z) (λ h. absurd (omega (arith, e)))

  -- at a place that takes all
  all : Small 0 u → Less (laid u) u
  all s = go (ltb (level u) 0) refl s
    where
      go : (b : Bool) → ltb (level u) 0 ≡ b → Less (cond b (group (laid u)) (laid u)) u → Less (laid u) u
      go true f z = absurd (omega (arith, ltb-true (level u) 0 f))
      go false f z = z

in_group : (u : Tree) → Less (laid u) u → Small 4 (group u)
unfolding level laid width
in_group u z = go (ltb (level u) 4)
  where
    go : (b : Bool) → Less (cond b (group (laid u)) (laid u)) (group u)
    go true = record { least = omega (arith, z.least); only = λ g. ap group (z.only (omega (arith, g))) }
    go false = record { least = omega (arith, z.least); only = λ g. absurd (omega (arith, z.least, g)) }

-- one tree in a construct, and two
module _ (f : Tree → Tree) (n : ℕ) (wide : (t : Tree) → width (f t) ≡ width t + n) where
  within : (v u : Tree) → Less v u → Less (f v) (f u)
  within v u z = record {
    least = omega (arith, z.least, wide v, wide u);
    only = λ g. ap f (z.only (omega (arith, wide v, wide u, g)));
  }

module _ (f : Tree → Tree → Tree) (n : ℕ) (wide : (t s : Tree) → width (f t s) ≡ width t + width s + n) where
  both : (v u v' u' : Tree) → Less v u → Less v' u' → Less (f v v') (f u u')
  both v u v' u' y z = record {
    least = omega (arith, y.least, z.least, wide v v', wide u u');
    only = λ g.
        let a : u ≡ v = y.only (omega (arith, y.least, z.least, wide v v', wide u u', g)) in
        let b : u' ≡ v' = z.only (omega (arith, y.least, z.least, wide v v', wide u u', g)) in
        ap (λ (x : Tree). f x u') a ∙ ap (f v) b;
  }

-- ---- by the grammar

abbrev pub Short : Nt → Tree → Type 0
Short Add u = Small 0 u
Short Shift u = Small 1 u
Short Mul u = Small 2 u
Short Unary u = Small 3 u
Short Basic u = Small 4 u
Short Args u = Less (laid u) u
Short Stmt u = Less (laid u) u
Short Stmts u = Less (laid u) u
Short Item u = Less (laid u) u
Short Items u = Less (laid u) u
Short Chain u = Less u u
Short MapField u = Less u u
Short MapFields u = Less u u
Short EventField u = Less u u
Short EventFields u = Less u u
Short Decl u = Less u u
Short Decls u = Less u u
Short Program u = Less u u

bin_wide : (k : ℕ) (t s : Tree) → width (bin k t s) ≡ width t + width s + 1
unfolding width
bin_wide k t s = omega arith

bin_short : (k n m : ℕ) (l r : Tree) → level_by k ≡ n → right_of k ≡ m → Small n l → Small m r → Small n (bin k l r)
unfolding level laid
bin_short k n m l r e f x y =
    own (bin k l r) n e
    (rw (e, f) (both (bin k) 1 (bin_wide k) (placed n l (laid l)) l (placed m r (laid r)) r x y))

-- how wide a construct is around what it holds
module _ (w : List ℕ) where
  field_wide : (t : Tree) → width (field t w) ≡ width t + 2
  unfolding width
  field_wide t = refl

  call_wide : (t s : Tree) → width (call t w s) ≡ width t + width s + 4
  unfolding width
  call_wide t s = omega arith

  decl_wide : (k : ℕ) (t : Tree) → width (decl k w t) ≡ width t + 4
  unfolding width
  decl_wide k t = omega arith

  guard_wide : (t s : Tree) → width (guard w t s) ≡ width t + width s + 5
  unfolding width
  guard_wide t s = omega arith

star_wide : (t : Tree) → width (star t) ≡ width t + 1
unfolding width
star_wide t = omega arith

ret_wide : (t : Tree) → width (ret t) ≡ width t + 2
unfolding width
ret_wide t = omega arith

plain_wide : (t : Tree) → width (plain t) ≡ width t + 1
unfolding width
plain_wide t = omega arith

one_wide : (t : Tree) → width (one t) ≡ width t + 0
unfolding width
one_wide t = omega arith

then_wide : (t : Tree) → width (then_body t) ≡ width t + 2
unfolding width
then_wide t = omega arith

else_wide : (t : Tree) → width (else_body t) ≡ width t + 3
unfolding width
else_wide t = omega arith

more_wide : (t s : Tree) → width (more t s) ≡ width t + width s + 1
unfolding width
more_wide t s = omega arith

assign_wide : (k : ℕ) (t s : Tree) → width (assign k t s) ≡ width t + width s + 2
unfolding width
assign_wide k t s = omega arith

seq_wide : (t s : Tree) → width (seq t s) ≡ width t + width s + 0
unfolding width
seq_wide t s = omega arith

module _ {strict : Bool} where
  short : {N : Nt} {d : ℕ} {u : Tree} → Is strict N d u → Short N u
  unfolding level laid
  short (i_num {v = v}) = own (num v) 4 refl (alone (num v))
  short (i_var {w = w}) = own (var w) 4 refl (alone (var w))
  short (i_group {t = t} h) = in_group t (all t (short h))
  short (i_field {t = t} {w = w} h) = own (field t w) 4 refl (within (λ x. field x w) 2 (field_wide w) (placed 4 t (laid t)) t (short h))
  short (i_bare {t = t} {w = w} h q) =
      own (call t w none) 4 refl (both (λ x y. call x w y) 4 (call_wide w) (placed 4 t (laid t)) t none none (short h) (alone none))
  short (i_call {t = t} {a = a} {w = w} h q v) =
      own (call t w a) 4 refl (both (λ x y. call x w y) 4 (call_wide w) (placed 4 t (laid t)) t (laid a) a (short h) (short v))
  short (i_one {t = t} h) = within one 0 one_wide (laid t) t (all t (short h))
  short (i_more {a = a} {t = t} h v) = both more 1 more_wide (laid a) a (laid t) t (short h) (all t (short v))
  short (i_prim {t = t} h) = weaken t 4 3 (omega arith) (short h)
  short (i_star {t = t} h) = own (star t) 3 refl (within star 1 star_wide (placed 3 t (laid t)) t (short h))
  short (i_unary {t = t} h) = weaken t 3 2 (omega arith) (short h)
  short (i_mul {k = k} {l = l} {r = r} h b v) = bin_short k 2 3 l r (mul_level k b).0 (mul_level k b).1 (short h) (short v)
  short (i_lone {t = t} h) = weaken t 2 1 (omega arith) (short h)
  short (i_shift {k = k} {l = l} {r = r} h b v) = bin_short k 1 2 l r (shift_level k b).0 (shift_level k b).1 (short h) (short v)
  short (i_up {t = t} h) = weaken t 1 0 (omega arith) (short h)
  short (i_add {k = k} {l = l} {r = r} h b v) = bin_short k 0 2 l r (add_level k b).0 (add_level k b).1 (short h) (short v)
  short (i_decl {k = k} {w = w} {e = e} b h) = within (decl k w) 4 (decl_wide w k) (laid e) e (all e (short h))
  short (i_ret {e = e} h) = within ret 2 ret_wide (laid e) e (all e (short h))
  short (i_plain {e = e} h) = within plain 1 plain_wide (laid e) e (all e (short h))
  short (i_assign {k = k} {l = l} {r = r} b h v) = both (assign k) 2 (assign_wide k) (laid l) l (laid r) r (all l (short h)) (all r (short v))
  short (i_if {w = w} {b = b} h) =
      both (guard w) 5 (guard_wide w) (then_body (laid b)) (then_body b) none none (within then_body 2 then_wide (laid b) b (short h)) (alone none)
  short (i_if_else {w = w} {b = b} {e = e} h v) =
      both (guard w) 5 (guard_wide w) (then_body (laid b)) (then_body b) (else_body (laid e)) (else_body e)
      (within then_body 2 then_wide (laid b) b (short h)) (within else_body 3 else_wide (laid e) e (short v))
  short i_no_stmts = alone none
  short (i_stmts {l = l} {s = s} h v) = both seq 0 seq_wide (laid l) l (laid s) s (short h) (short v)
  short (i_stmt h) = short h
  short (i_text {k = k} {w = w} b) = alone (text k w)
  short i_no_items = alone none
  short (i_items {l = l} {s = s} h v) = both seq 0 seq_wide (laid l) l (laid s) s (short h) (short v)
  short {u = u} (i_first) = alone u
  short {u = u} (i_shifted h b q) = alone u
  short {u = u} (i_type q) = alone u
  short {u = u} (i_typed b c) = alone u
  short {u = u} (i_limit h q) = alone u
  short {u = u} i_no_fields = alone u
  short {u = u} (i_fields h v) = alone u
  short {u = u} (i_plain_field b) = alone u
  short {u = u} (i_bytes_field q) = alone u
  short {u = u} (i_array_field b q) = alone u
  short {u = u} i_no_event_fields = alone u
  short {u = u} (i_event_fields h v) = alone u
  short {u = u} (i_unit h) = alone u
  short {u = u} (i_map h q) = alone u
  short {u = u} (i_event h) = alone u
  short {u = u} i_no_decls = alone u
  short {u = u} (i_decls h v) = alone u
  short {u = u} (i_program h) = alone u

-- ---- what is written is the same but for parentheses

bare_round : (p : ℕ) (t : Tree) → bare (laid t) ≡ bare t → bare (placed p t (laid t)) ≡ bare t
unfolding bare
bare_round p t e = by_level p t (λ u. bare u ≡ bare t) (λ h. e) (λ h. e)

abbrev Kept : Nt → Tree → Type 0
Kept Add u = bare (laid u) ≡ bare u
Kept Shift u = bare (laid u) ≡ bare u
Kept Mul u = bare (laid u) ≡ bare u
Kept Unary u = bare (laid u) ≡ bare u
Kept Basic u = bare (laid u) ≡ bare u
Kept Args u = bare (laid u) ≡ bare u
Kept Stmt u = bare (laid u) ≡ bare u
Kept Stmts u = bare (laid u) ≡ bare u
Kept Item u = bare (laid u) ≡ bare u
Kept Items u = bare (laid u) ≡ bare u
Kept Chain u = u ≡ u
Kept MapField u = u ≡ u
Kept MapFields u = u ≡ u
Kept EventField u = u ≡ u
Kept EventFields u = u ≡ u
Kept Decl u = u ≡ u
Kept Decls u = u ≡ u
Kept Program u = u ≡ u

module _ {strict : Bool} where
  pub kept : {N : Nt} {d : ℕ} {u : Tree} → Is strict N d u → Kept N u
  unfolding bare laid
  kept i_num = refl
  kept i_var = refl
  kept (i_group h) = kept h
  kept (i_field {t = t} {w = w} h) = ap (λ (x : Tree). field x w) (bare_round 4 t (kept h))
  kept (i_bare {t = t} {w = w} h q) = ap (λ (x : Tree). call x w none) (bare_round 4 t (kept h))
  kept (i_call {t = t} h q v) = rw (bare_round 4 t (kept h), kept v)
  kept (i_one h) = ap one (kept h)
  kept (i_more h v) = rw (kept h, kept v)
  kept (i_prim h) = kept h
  kept (i_star {t = t} h) = ap star (bare_round 3 t (kept h))
  kept (i_unary h) = kept h
  kept (i_mul {k = k} {l = l} {r = r} h b v) = rw (bare_round (level_by k) l (kept h), bare_round (right_of k) r (kept v))
  kept (i_lone h) = kept h
  kept (i_shift {k = k} {l = l} {r = r} h b v) = rw (bare_round (level_by k) l (kept h), bare_round (right_of k) r (kept v))
  kept (i_up h) = kept h
  kept (i_add {k = k} {l = l} {r = r} h b v) = rw (bare_round (level_by k) l (kept h), bare_round (right_of k) r (kept v))
  kept (i_decl {k = k} {w = w} b h) = ap (decl k w) (kept h)
  kept (i_ret h) = ap ret (kept h)
  kept (i_plain h) = ap plain (kept h)
  kept (i_assign b h v) = rw (kept h, kept v)
  kept (i_if {w = w} h) = ap (λ (x : Tree). guard w (then_body x) none) (kept h)
  kept (i_if_else h v) = rw (kept h, kept v)
  kept i_no_stmts = refl
  kept (i_stmts h v) = rw (kept h, kept v)
  kept (i_stmt h) = kept h
  kept (i_text b) = refl
  kept i_no_items = refl
  kept (i_items h v) = rw (kept h, kept v)
  kept i_first = refl
  kept (i_shifted h b q) = refl
  kept (i_type q) = refl
  kept (i_typed b c) = refl
  kept (i_limit h q) = refl
  kept i_no_fields = refl
  kept (i_fields h v) = refl
  kept (i_plain_field b) = refl
  kept (i_bytes_field q) = refl
  kept (i_array_field b q) = refl
  kept i_no_event_fields = refl
  kept (i_event_fields h v) = refl
  kept (i_unit h) = refl
  kept (i_map h q) = refl
  kept (i_event h) = refl
  kept i_no_decls = refl
  kept (i_decls h v) = refl
  kept (i_program h) = refl

-- ---- the theorems

module _ {strict : Bool} where
  -- An expression is written with the fewest rows, and no other way to write it has as few.
  pub fewest_expression : (d : ℕ) (t : Tree) → Is strict Add d t → (bare (laid t) ≡ bare t) × Fewest strict Add (laid t)
  fewest_expression d t i = (
    kept i,
    record {
      least = λ d u h e. subst (λ v. width v ≤ width u) (alike t u e) (all u (short h)).least;
      only = λ d u h e g. (all u (short h)).only (g ∙ ap width (sym (alike t u e))) ∙ alike t u e;
    },
  )

  -- So are a unit's statements, sections and licences.
  pub fewest_items : (d : ℕ) (t : Tree) → Is strict Items d t → (bare (laid t) ≡ bare t) × Fewest strict Items (laid t)
  fewest_items d t i = (
    kept i,
    record {
      least = λ d u h e. subst (λ v. width v ≤ width u) (alike t u e) (short h).least;
      only = λ d u h e g. (short h).only (g ∙ ap width (sym (alike t u e))) ∙ alike t u e;
    },
  )
