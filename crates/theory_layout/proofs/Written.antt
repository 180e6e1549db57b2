-- What is written is made of tokens that are read as themselves, if the tree is.
use mathlib.Core.Path.{◌≡◌, refl, sym, ap, ◌∙◌, subst}
use mathlib.Core.Bool.{Bool, true, false, cond, true≢false}
use mathlib.Core.List.{List, [], ◌∷◌, ◌++◌, append_assoc}
use Prim.Native.Nat.{ℕ, zero, suc, pred, ◌+◌, ◌≤◌, ◌<◌, ◌^◌}
use native.Mathlib.Omega.{arith}
use lib.Dec.{eqb, ltb}
use borrow.Author.Tests.{eqb-true}
use Rattle.rules.specs.Kinds.{KeywordKey, KeywordValue, KeywordType, KeywordMax, KeywordMap, KeywordIf, KeywordGuard, KeywordElse, LBrace, RBrace, LParen, RParen, Colon, Dot, Comma, Semicolon, Star, reserved, kind_in, same_bytes, is_made}
use Rattle.rules.specs.Tree.{Tok, sign, name, string, value, yield, Tree, none, num, var, star, group, field, call, bin, one, more, decl, ret, plain, assign, guard, then_body, else_body, seq, text, unit, map_type, typed, limit, first, shifted, map_decl, plain_field, bytes_field, array_field, event, program, map_types, type_of, typed_by, limit_of, lacking}
use Rattle.rules.specs.Rows.{bits_of}
use Rattle.rules.specs.Lex.{is_letter, is_word, is_digit, largest}
use Rattle.rules.specs.Text.{front}
use Rattle.rules.specs.Grammar.{Nt, Add, Shift, Mul, Unary, Basic, Args, Stmt, Stmts, Item, Items, Chain, MapField, MapFields, EventField, EventFields, Decl, Decls, Program, Is, i_num, i_var, i_group, i_field, i_bare, i_call, i_one, i_more, i_prim, i_star, i_unary, i_mul, i_lone, i_shift, i_up, i_add, i_decl, i_ret, i_plain, i_assign, i_if, i_if_else, i_no_stmts, i_stmts, i_stmt, i_text, i_no_items, i_items, i_first, i_shifted, i_type, i_typed, i_limit, i_no_fields, i_fields, i_plain_field, i_bytes_field, i_array_field, i_no_event_fields, i_event_fields, i_unit, i_map, i_event, i_no_decls, i_decls, i_program}
use Rattle.rules_layout.specs.Rows.{spelling_in, type_kind, with_typed, type_field, fields_of, level, left_of, right_of, placed, laid}
use Rattle.theory_layout.proofs.Laid.{by_level}
use Rattle.theory_layout.proofs.Fields.{Said, said, by_zero, has_type}
use Rattle.theory_layout.proofs.Scanned.{Good, Goods, no_more, and}
use Rattle.theory_layout.proofs.Shape.{is_fixed}
use Rattle.theory_layout.proofs.Goods.{IsName, good_name, good_value, good_sign}

-- ---- lists of them

pub both : {xs ys : List Tok} → Goods xs → Goods ys → Goods (xs ++ ys)
both no_more g = g
both (and x g) h = and x (both g h)

pub fore : (xs ys : List Tok) → Goods (xs ++ ys) → Goods xs
fore [] ys g = no_more
fore (x ∷ xs) ys (and h g) = and h (fore xs ys g)

pub hind : (xs ys : List Tok) → Goods (xs ++ ys) → Goods ys
hind [] ys g = g
hind (x ∷ xs) ys (and h g) = hind xs ys g

rest : {x : Tok} {xs : List Tok} → Goods (x ∷ xs) → Goods xs
rest (and h g) = g

head : {x : Tok} {xs : List Tok} → Goods (x ∷ xs) → Good x
head (and h g) = h

alone : {x : Tok} → Good x → Goods (x ∷ [])
alone h = and h no_more

-- ---- parentheses

round : (xs : List Tok) → Goods xs → Goods (sign LParen ∷ (xs ++ (sign RParen ∷ [])))
unfolding is_fixed is_made
round xs g = and (good_sign LParen refl) (both g (alone (good_sign RParen refl)))

in_place : (p : ℕ) (t : Tree) → Goods (yield (laid t)) → Goods (yield (placed p t (laid t)))
unfolding yield
in_place p t g = by_level p t (λ u. Goods (yield u)) (λ h. g) (λ h. round (yield (laid t)) g)

-- ---- maps

-- the names of the map types
type_name : (n : ℕ) → n ≤ 5 → eqb n 0 ≡ false → IsName (spelling_in map_types [] n)
unfolding map_types spelling_in is_letter is_word is_digit front reserved kind_in same_bytes
type_name zero h f = absurd (true≢false f)
type_name (suc zero) h f = record { letter = refl; letters = refl; free = refl }
type_name (suc (suc zero)) h f = record { letter = refl; letters = refl; free = refl }
type_name (suc (suc (suc zero))) h f = record { letter = refl; letters = refl; free = refl }
type_name (suc (suc (suc (suc zero)))) h f = record { letter = refl; letters = refl; free = refl }
type_name (suc (suc (suc (suc (suc zero))))) h f = record { letter = refl; letters = refl; free = refl }
type_name (suc (suc (suc (suc (suc (suc n)))))) h f = absurd (omega arith)

-- the kinds of types
type_fixed : (n : ℕ) → n ≤ 4 → eqb n 0 ≡ false → is_fixed (type_kind n) ≡ true
unfolding is_fixed is_made
type_fixed zero h f = absurd (true≢false f)
type_fixed (suc zero) h f = refl
type_fixed (suc (suc zero)) h f = refl
type_fixed (suc (suc (suc zero))) h f = refl
type_fixed (suc (suc (suc (suc zero)))) h f = refl
type_fixed (suc (suc (suc (suc (suc n))))) h f = absurd (omega arith)

with_goods : (f n : ℕ) (l : Tree) → is_fixed f ≡ true → n ≤ 4 → Goods (yield l) → Goods (yield (with_typed f n l))
unfolding yield is_fixed is_made
with_goods f n l e h g =
    by_zero f n l (λ u. Goods (yield u)) (λ z. g)
    (λ z. both g (and (good_sign f e) (and (good_sign Colon refl) (and (good_sign (type_kind n) (type_fixed n h z)) (alone (good_sign Semicolon refl))))))

max_value : (n : ℕ) → n ≤ 2 ^ 32 → Good (value (pred n))
unfolding bits_of
max_value zero h = good_value false 0 (omega arith)
max_value (suc n) h = good_value false n (omega arith)

module _ {d : ℕ} {l : Tree} (i : Is true MapFields d l) (e : lacking (type_of l) (typed_by KeywordKey l) (typed_by KeywordValue l) (limit_of l) ≡ 0) where
  fields_good : Goods (yield (fields_of l))
  unfolding fields_of type_field yield is_fixed is_made
  fields_good =
      let x : Said l = said i in
      both
      (with_goods KeywordValue (typed_by KeywordValue l) _ refl x.val
      (with_goods KeywordKey (typed_by KeywordKey l) (type_field l) refl x.key
      (and (good_sign KeywordType refl) (and (good_sign Colon refl) (and (good_sign Dot refl)
      (and (good_name _ (type_name (type_of l) x.type (has_type (type_of l) (typed_by KeywordKey l) (typed_by KeywordValue l) (limit_of l) e)))
      (alone (good_sign Semicolon refl))))))))
      (and (good_sign KeywordMax refl) (and (good_sign Colon refl) (and (max_value (limit_of l) x.lim) (alone (good_sign Semicolon refl)))))

-- ---- all trees

abbrev Made : Nt → Tree → Type 0
Made Add t = Goods (yield (laid t))
Made Shift t = Goods (yield (laid t))
Made Mul t = Goods (yield (laid t))
Made Unary t = Goods (yield (laid t))
Made Basic t = Goods (yield (laid t))
Made Args t = Goods (yield (laid t))
Made Stmt t = Goods (yield (laid t))
Made Stmts t = Goods (yield (laid t))
Made Item t = Goods (yield (laid t))
Made Items t = Goods (yield (laid t))
Made Chain t = Goods (yield t)
Made MapField t = Goods (yield t)
Made MapFields t = Goods (yield t)
Made EventField t = Goods (yield (laid t))
Made EventFields t = Goods (yield (laid t))
Made Decl t = Goods (yield (laid t))
Made Decls t = Goods (yield (laid t))
Made Program t = Goods (yield t)

-- a tree and the tokens behind it
tailed : {xs ys : List Tok} (zs : List Tok) → (Goods xs → Goods ys) → Goods (xs ++ zs) → Goods (ys ++ zs)
tailed {xs} {ys} zs f g = both (f (fore xs zs g)) (hind xs zs g)

-- a tree, one token, a tree
joined : {xs ys us vs : List Tok} (x : Tok) → (Goods xs → Goods ys) → (Goods us → Goods vs) → Goods (xs ++ (x ∷ us)) → Goods (ys ++ (x ∷ vs))
joined {xs} {ys} {us} {vs} x f h g =
    let r : Goods (x ∷ us) = hind xs (x ∷ us) g in
    both (f (fore xs (x ∷ us) g)) (and (head r) (h (rest r)))

paired : {xs ys us vs : List Tok} → (Goods xs → Goods ys) → (Goods us → Goods vs) → Goods (xs ++ us) → Goods (ys ++ vs)
paired {xs} {ys} {us} {vs} f h g = both (f (fore xs us g)) (h (hind xs us g))

headed : {xs ys : List Tok} (x : Tok) → (Goods xs → Goods ys) → Goods (x ∷ xs) → Goods (x ∷ ys)
headed x f g = and (head g) (f (rest g))

pub made : {N : Nt} {d : ℕ} {t : Tree} → Is true N d t → Goods (yield t) → Made N t
unfolding laid yield
made i_num g = g
made i_var g = g
made (i_group {t = t} h) g = made h (fore (yield t) (sign RParen ∷ []) (rest g))
made (i_field {t = t} h) g = tailed (sign Dot ∷ name _ ∷ []) (λ x. in_place 4 t (made h x)) g
made (i_bare {t = t} h q) g = tailed _ (λ x. in_place 4 t (made h x)) g
made (i_call {t = t} {a = a} {w = w} h q v) g =
    paired (λ x. in_place 4 t (made h x))
    (headed (sign Dot) (headed (name w) (headed (sign LParen) (tailed (sign RParen ∷ []) (made v))))) g
made (i_one h) g = made h g
made (i_more h v) g = joined (sign Comma) (made h) (made v) g
made (i_prim h) g = made h g
made (i_star {t = t} h) g = headed (sign Star) (λ x. in_place 3 t (made h x)) g
made (i_unary h) g = made h g
made (i_mul {k = k} {l = l} {r = r} h b v) g = joined (sign k) (λ x. in_place (left_of k) l (made h x)) (λ x. in_place (right_of k) r (made v x)) g
made (i_lone h) g = made h g
made (i_shift {k = k} {l = l} {r = r} h b v) g = joined (sign k) (λ x. in_place (left_of k) l (made h x)) (λ x. in_place (right_of k) r (made v x)) g
made (i_up h) g = made h g
made (i_add {k = k} {l = l} {r = r} h b v) g = joined (sign k) (λ x. in_place (left_of k) l (made h x)) (λ x. in_place (right_of k) r (made v x)) g
made (i_decl b h) g = headed _ (headed _ (headed _ (tailed (sign Semicolon ∷ []) (made h)))) g
made (i_ret h) g = headed _ (tailed (sign Semicolon ∷ []) (made h)) g
made (i_plain h) g = tailed (sign Semicolon ∷ []) (made h) g
made (i_assign {k = k} b h v) g = joined (sign k) (made h) (tailed (sign Semicolon ∷ []) (made v)) g
made (i_if h) g =
    headed _ (headed _ (headed _ (headed _ (headed _ (tailed [] (headed _ (tailed (sign RBrace ∷ []) (made h)))))))) g
made (i_if_else h v) g =
    headed _ (headed _ (headed _ (headed _ (headed _ (paired (headed _ (tailed (sign RBrace ∷ []) (made h)))
    (headed _ (headed _ (tailed (sign RBrace ∷ []) (made v))))))))) g
made i_no_stmts g = g
made (i_stmts h v) g = paired (made h) (made v) g
made (i_stmt h) g = made h g
made (i_text b) g = g
made i_no_items g = g
made (i_items h v) g = paired (made h) (made v) g
made i_first g = g
made (i_shifted h b q) g = g
made (i_type q) g = g
made (i_typed b c) g = g
made (i_limit h q) g = g
made i_no_fields g = g
made (i_fields h v) g = g
made (i_plain_field b) g = g
made (i_bytes_field q) g = g
made (i_array_field b q) g = g
made i_no_event_fields g = g
made (i_event_fields h v) g = paired (made h) (made v) g
made (i_unit h) g = headed _ (headed _ (headed _ (tailed (sign RBrace ∷ []) (made h)))) g
made (i_map {l = l} h q) g =
    headed _ (headed _ (headed _ (tailed {xs = yield l} (sign RBrace ∷ []) (λ x. fields_good h (eqb-true _ 0 (q refl)))))) g
made (i_event h) g = headed _ (headed _ (headed _ (tailed (sign RBrace ∷ []) (made h)))) g
made i_no_decls g = g
made (i_decls h v) g = paired (made h) (made v) g
made (i_program h) g = g
