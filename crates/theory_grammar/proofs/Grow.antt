-- What goes on with an expression: for each kind that may stand behind it, a longer expression whose rows are its own, one of that kind,
-- and more. And what begins a thing of each sort.
use mathlib.Core.Path.{◌≡◌, refl, sym, ap, ◌∙◌, subst}
use mathlib.Core.Bool.{Bool, true, false, true≢false}
use mathlib.Core.List.{List, [], ◌∷◌, ◌++◌, append_assoc, append-nil}
use Prim.Native.Nat.{ℕ, suc, ◌+◌, ◌-◌, ◌<◌}
use native.Mathlib.Omega.{arith}
use lib.Dec.{eqb}
use lib.ListN.{length, drop, length-append}
use lib.Seq.{get_or-append_seam, get_or-drop, drop-drop, drop-append_seam}
use borrow.Author.Tests.{eqb-true, eq-eqb}
use Rattle.laws.proofs.Tests.{both_true, false_by}
use Rattle.rules.specs.Kinds.{TypeU32, KeywordUnit, KeywordSection, KeywordLicense, KeywordReturn, KeywordReg, KeywordImm, KeywordMap, KeywordType, KeywordKey, KeywordValue, KeywordMax, KeywordIf, KeywordElse, KeywordGuard, KeywordHeap, KeywordEvent, LBrace, RBrace, LParen, RParen, Dot, Comma, Semicolon, Plus, Minus, Star, Slash, Percent, Shr, Shl, Identifier, StringLiteral, Number, Eof}
use Rattle.rules.specs.Fits.{has}
use Rattle.rules.specs.Tree.{Tok, sign, name, value, string, kind_of, Tree, none, num, var, star, group, field, call, bin, one, more, decl, ret, plain, guard, then_body, else_body, seq, text, unit, map_type, typed, limit, first, map_decl, plain_field, event, yield, is_sum, hangs}
use Rattle.rules.specs.Parse
use Rattle.rules.specs.Parse.{is_add, is_shift, is_mul, tok_at, kind_at, dot_name}
use Rattle.rules.specs.Grammar.{Nt, Add, Shift, Mul, Unary, Basic, Args, Stmt, Stmts, Item, Items, MapField, MapFields, EventField, EventFields, Decl, Decls, Is, i_num, i_var, i_group, i_field, i_bare, i_call, i_one, i_more, i_prim, i_star, i_unary, i_mul, i_lone, i_shift, i_up, i_add, i_decl, i_ret, i_plain, i_assign, i_if, i_if_else, i_no_stmts, i_stmts, i_stmt, i_text, i_no_items, i_items, i_first, i_type, i_typed, i_limit, i_no_fields, i_fields, i_plain_field, i_bytes_field, i_array_field, i_no_event_fields, i_event_fields, i_unit, i_map, i_event, i_no_decls, i_decls}
use Rattle.theory_grammar.specs.Tokens.{Proper}
use Rattle.theory_grammar.proofs.Runs.{Run}
use Rattle.theory_grammar.proofs.Members.{Each, done, ◌and◌, covers_onward, ends_onward, each_onward, ends_onward_lem}

-- ---- tokens that begin with a kind

-- a token of a kind: `kind_of`, which computes
abbrev is_of : ℕ → Tok → Bool
is_of k (sign c) = eqb c k
is_of k (name w) = eqb Identifier k
is_of k (string w) = eqb StringLiteral k
is_of k (value v) = eqb Number k

abbrev pub heads : ℕ → List Tok → Bool
heads k [] = false
heads k (x ∷ xs) = is_of k x

pub heads_more : (k : ℕ) (xs ys : List Tok) → heads k xs ≡ true → heads k (xs ++ ys) ≡ true
heads_more k [] ys e = absurd (true≢false (sym e))
heads_more k (x ∷ xs) ys e = e

pub heads_long : (k : ℕ) (xs : List Tok) → heads k xs ≡ true → 0 < length xs
heads_long k [] e = absurd (true≢false (sym e))
heads_long k (x ∷ xs) e = omega arith

heads_kind : (k : ℕ) (x : Tok) → is_of k x ≡ true → kind_of x ≡ k
unfolding kind_of
heads_kind k (sign c) e = eqb-true c k e
heads_kind k (name w) e = eqb-true Identifier k e
heads_kind k (string w) e = eqb-true StringLiteral k e
heads_kind k (value v) e = eqb-true Number k e

-- the row behind some tokens
pub heads_behind : (k : ℕ) (xs ys : List Tok) → heads k ys ≡ true → kind_at (xs ++ ys) (length xs) ≡ k
heads_behind k xs [] e = absurd (true≢false (sym e))
heads_behind k xs (y ∷ ys) e = ap kind_of (get_or-append_seam xs y ys (sign Eof)) ∙ heads_kind k y e

-- ---- expressions that go on

-- The rows of t, then one of kind k, and more: a tree of the nonterminal.
pub record Grown (N : Nt) (d : ℕ) (t : Tree) (k : ℕ) : Type 0 where
  pub tree : Tree
  pub is : Is false N d tree
  pub rest : List Tok
  pub spells : yield tree ≡ yield t ++ rest
  pub next : heads k rest ≡ true

-- where the last part of a tree goes on, the tree does
last_grown : {M N : Nt} {d e k : ℕ} {r : Tree} (F : Tree → Tree) → ((u : Tree) → Is false M d u → Is false N e (F u)) → (xs : List Tok)
    → ((u : Tree) → yield (F u) ≡ xs ++ yield u) → Grown M d r k → Grown N e (F r) k
last_grown {r = r} F made xs spells g = record {
  tree = F g.tree;
  is = made g.tree g.is;
  rest = g.rest;
  spells = spells g.tree ∙ ap (λ (l : List Tok). xs ++ l) g.spells ∙ sym (append_assoc xs (yield r) g.rest) ∙ ap
      (λ (l : List Tok). l ++ g.rest) (sym (spells r));
  next = g.next;
}

-- a sign, and the least operand
joined : {N : Nt} {d : ℕ} (t : Tree) (k : ℕ) → Is false N d (bin k t (num 0)) → eqb k k ≡ true → Grown N d t k
unfolding yield
joined t k h e = record { tree = bin k t (num 0); is = h; rest = sign k ∷ value 0 ∷ []; spells = refl; next = e }

-- no kind that joins is a dot
pub joins_apart : (test : ℕ → Bool) → test Dot ≡ false → (k : ℕ) → test k ≡ true → eqb k Dot ≡ false
joins_apart test e k b = false_by (eqb k Dot) (λ q. true≢false (sym b ∙ ap test (eqb-true k Dot q) ∙ e))

module _ (ts : List Tok) (proper : Proper ts) where
  -- ---- rows by the tokens of a run

  run_first : {i s : ℕ} {x : Tok} {xs : List Tok} → Run ts i (x ∷ xs) s → tok_at ts i ≡ x
  run_first {i} r = ap (λ (n : ℕ). tok_at ts n) (omega arith) ∙ sym (get_or-drop i ts 0 (sign Eof)) ∙ rw (r.same proper)

  run_behind : {i s : ℕ} (xs : List Tok) {ys : List Tok} → Run ts i (xs ++ ys) s → Run ts (i + length xs) ys s
  run_behind {i} {s} xs {ys} r = record {
    next = omega (arith, r.next, length-append xs ys);
    inside = r.inside;
    clear = λ n a b. r.clear n (omega arith) b;
    same = λ p. sym (drop-drop (length xs) i ts) ∙ ap (drop (length xs)) (r.same p ∙ append_assoc xs ys (drop s ts)) ∙ drop-append_seam xs
        (ys ++ drop s ts);
  }

  -- ---- the last name of an expression

  -- The rows of t end in front of row s, and the one in front of them is no dot.
  pub record Behind (t : Tree) (s : ℕ) : Type 0 where
    pub first : ℕ
    pub run : Run ts first (yield t) s
    pub undotted : eqb (kind_at ts (first - 1)) Dot ≡ false

  -- of a tree whose last part is r, behind a sign that is no dot
  part : {s : ℕ} {t r : Tree} (xs : List Tok) (k : ℕ) → yield t ≡ xs ++ (sign k ∷ yield r) → eqb k Dot ≡ false → Behind t s → Behind r s
  unfolding kind_of
  part {s} {t} {r} xs k e n b =
      let x : Run ts (b.first + length xs) (sign k ∷ yield r) s =
      run_behind xs (subst (λ (l : List Tok). Run ts b.first l s) e b.run) in
      record {
        first = b.first + length xs + 1;
        run = run_behind (sign k ∷ []) x;
        undotted = ap (λ (j : ℕ). eqb (kind_at ts j) Dot) (omega arith) ∙ ap (λ (y : Tok). eqb (kind_of y) Dot) (run_first x) ∙ n;
      }

  -- behind a row that is no name
  no_name : {s : ℕ} {t : Tree} (xs : List Tok) (x : Tok) → yield t ≡ xs ++ (x ∷ []) → eqb (kind_of x) Identifier ≡ false → Behind t s
      → dot_name ts s ≡ true → ⊥
  no_name {s} {t} xs x e n b d =
      let y : Run ts (b.first + length xs) (x ∷ []) s = run_behind xs (subst (λ (l : List Tok). Run ts b.first l s) e b.run) in
      let z : kind_at ts (s - 1) ≡ kind_of x = ap (λ (j : ℕ). kind_at ts j) (omega (arith, y.next)) ∙ ap kind_of (run_first y) in
      true≢false (sym (both_true (eqb (kind_at ts (s - 1)) Identifier) (eqb (kind_at ts (s - 2)) Dot) d).0 ∙ ap
      (λ (j : ℕ). eqb j Identifier) z ∙ n)

  -- behind a name alone
  no_dot : {s : ℕ} {t : Tree} (x : Tok) → yield t ≡ x ∷ [] → Behind t s → dot_name ts s ≡ true → ⊥
  no_dot {s} {t} x e b d =
      let y : Run ts b.first (x ∷ []) s = subst (λ (l : List Tok). Run ts b.first l s) e b.run in
      true≢false (sym (both_true (eqb (kind_at ts (s - 1)) Identifier) (eqb (kind_at ts (s - 2)) Dot) d).1
      ∙ ap (λ (j : ℕ). eqb (kind_at ts j) Dot) (omega (arith, y.next)) ∙ b.undotted)

  module _ (s : ℕ) where
    -- what goes on with the last part of an expression: a dot always, a parenthesis behind the name of a field
    pub data Latch : Tree → ℕ → Type 0 where
      dotted : {t : Tree} → Latch t Dot
      calling : {t : Tree} → dot_name ts s ≡ true → Behind t s → Latch t LParen

    latch_part : {k : ℕ} {t r : Tree} (xs : List Tok) (c : ℕ) → yield t ≡ xs ++ (sign c ∷ yield r) → eqb c Dot ≡ false → Latch t k
        → Latch r k
    latch_part xs c e n dotted = dotted
    latch_part xs c e n (calling d b) = calling d (part xs c e n b)

    basic_on : {d k : ℕ} {t : Tree} → Is false Basic d t → Latch t k → Grown Basic d t k
    unfolding yield kind_of
    basic_on {t = t} h dotted = record { tree = field t []; is = i_field h; rest = sign Dot ∷ name [] ∷ []; spells = refl; next = refl }
    basic_on (i_num {v = v}) (calling d b) = absurd (no_name [] (value v) refl refl b d)
    basic_on (i_var {w = w}) (calling d b) = absurd (no_dot (name w) refl b d)
    basic_on (i_group {t = t} h) (calling d b) = absurd (no_name (sign LParen ∷ yield t) (sign RParen) refl refl b d)
    basic_on (i_field {t = t} {w = w} h) (calling d b) = record {
      tree = call t w none;
      is = i_bare h (λ e. absurd (true≢false (sym e)));
      rest = sign LParen ∷ sign RParen ∷ [];
      spells = sym (append_assoc (yield t) (sign Dot ∷ name w ∷ []) (sign LParen ∷ sign RParen ∷ []));
      next = refl;
    }
    basic_on (i_bare {t = t} {w = w} h q) (calling d b) =
        absurd (no_name (yield t ++ (sign Dot ∷ name w ∷ sign LParen ∷ [])) (sign RParen)
        (sym (append_assoc (yield t) (sign Dot ∷ name w ∷ sign LParen ∷ []) (sign RParen ∷ []))) refl b d)
    basic_on (i_call {t = t} {a = a} {w = w} h q g) (calling d b) =
        absurd (no_name (yield t ++ (sign Dot ∷ name w ∷ sign LParen ∷ yield a)) (sign RParen)
        (sym (append_assoc (yield t) (sign Dot ∷ name w ∷ sign LParen ∷ yield a) (sign RParen ∷ []))) refl b d)

    unary_on : {d k : ℕ} {t : Tree} → Is false Unary d t → Latch t k → Grown Unary d t k
    unfolding yield
    unary_on (i_prim h) l = last_grown (λ u. u) (λ u q. i_prim q) [] (λ u. refl) (basic_on h l)
    unary_on (i_star h) l = last_grown star (λ u q. i_star q) (sign Star ∷ []) (λ u. refl) (unary_on h (latch_part [] Star refl refl l))

    -- what goes on with a product
    pub data MulOn : Tree → ℕ → Type 0 where
      at_last : {t : Tree} {k : ℕ} → Latch t k → MulOn t k
      times : {t : Tree} {k : ℕ} → is_mul k ≡ true → MulOn t k

    mul_part : {k : ℕ} {t r : Tree} (xs : List Tok) (c : ℕ) → yield t ≡ xs ++ (sign c ∷ yield r) → eqb c Dot ≡ false → MulOn t k → MulOn r k
    mul_part xs c e n (at_last l) = at_last (latch_part xs c e n l)
    mul_part xs c e n (times m) = times m

    self : (k : ℕ) → eqb k k ≡ true
    self k = eq-eqb k k refl

    mul_on : {d k : ℕ} {t : Tree} → Is false Mul d t → MulOn t k → Grown Mul d t k
    unfolding yield
    mul_on (i_unary h) (at_last l) = last_grown (λ u. u) (λ u q. i_unary q) [] (λ u. refl) (unary_on h l)
    mul_on (i_mul {k = c} {l = l} {r = r} g b h) (at_last o) =
        last_grown (λ u. bin c l u) (λ u q. i_mul g b q) (yield l ++ (sign c ∷ []))
        (λ u. sym (append_assoc (yield l) (sign c ∷ []) (yield u)))
        (unary_on h (latch_part (yield l) c refl (joins_apart is_mul refl c b) o))
    mul_on {k = k} {t = t} h (times m) = joined t k (i_mul h m (i_prim i_num)) (self k)

    shift_on : {d k : ℕ} {t : Tree} → Is false Shift d t → MulOn t k → Grown Shift d t k
    unfolding yield
    shift_on (i_lone h) o = last_grown (λ u. u) (λ u q. i_lone q) [] (λ u. refl) (mul_on h o)
    shift_on (i_shift {k = c} {l = l} {r = r} g b h) o =
        last_grown (λ u. bin c l u) (λ u q. i_shift g b q) (yield l ++ (sign c ∷ []))
        (λ u. sym (append_assoc (yield l) (sign c ∷ []) (yield u)))
        (mul_on h (mul_part (yield l) c refl (joins_apart is_shift refl c b) o))

    -- what goes on with an expression, or with the last of some arguments
    pub data On : Tree → ℕ → Type 0 where
      multiplied : {t : Tree} {k : ℕ} → MulOn t k → On t k
      shifting : {t : Tree} {k : ℕ} → is_shift k ≡ true → is_sum t ≡ false → On t k
      added : {t : Tree} {k : ℕ} → is_add k ≡ true → On t k

    pub add_on : {d k : ℕ} {t : Tree} → Is false Add d t → On t k → Grown Add d t k
    unfolding yield is_sum
    add_on (i_up h) (multiplied o) = last_grown (λ u. u) (λ u q. i_up q) [] (λ u. refl) (shift_on h o)
    add_on (i_add {k = c} {l = l} {r = r} g b h) (multiplied o) =
        last_grown (λ u. bin c l u) (λ u q. i_add g b q) (yield l ++ (sign c ∷ []))
        (λ u. sym (append_assoc (yield l) (sign c ∷ []) (yield u)))
        (mul_on h (mul_part (yield l) c refl (joins_apart is_add refl c b) o))
    add_on {k = k} {t = t} (i_up h) (shifting b n) = joined t k (i_up (i_shift h b (i_unary (i_prim i_num)))) (self k)
    add_on (i_add g b h) (shifting c n) = absurd (true≢false (sym b ∙ n))
    add_on {k = k} {t = t} h (added b) = joined t k (i_add h b (i_unary (i_prim i_num))) (self k)

    -- of the last argument
    on_last : {k : ℕ} {t a : Tree} → (MulOn a k → MulOn t k) → is_sum a ≡ is_sum t → On a k → On t k
    on_last f e (multiplied o) = multiplied (f o)
    on_last f e (shifting b n) = shifting b (sym e ∙ n)
    on_last f e (added b) = added b

    on_one : {k : ℕ} {t : Tree} → MulOn (one t) k → MulOn t k
    unfolding yield
    on_one (at_last dotted) = at_last dotted
    on_one (at_last (calling d b)) = at_last (calling d (record { first = b.first; run = b.run; undotted = b.undotted }))
    on_one (times m) = times m

    pub args_on : {d k : ℕ} {a : Tree} → Is false Args d a → On a k → Grown Args d a k
    unfolding yield is_sum
    args_on (i_one h) o = last_grown one (λ u q. i_one q) [] (λ u. refl) (add_on h (on_last on_one refl o))
    args_on (i_more {a = a} {t = t} g h) o =
        last_grown (λ u. more a u) (λ u q. i_more g q) (yield a ++ (sign Comma ∷ []))
        (λ u. sym (append_assoc (yield a) (sign Comma ∷ []) (yield u)))
        (add_on h (on_last (mul_part (yield a) Comma refl refl) refl o))

    -- ---- the set that is told behind an expression

    module _ (t : Tree) (S : ℕ) where
      -- What holds of each kind that goes on with t, which ends in front of row s, and of those that may stand behind it holds of the whole
      -- set.
      pub onward_each : (C : ℕ → Type 0) (ks : List ℕ) → covers_onward S ks ≡ true → Behind t s → ((k : ℕ) → On t k → C k) → Each C ks
          → (k : ℕ) → has (Parse.onward ts t s + S) k ≡ true → C k
      unfolding Parse.onward
      onward_each C ks e b f ends =
          each_onward C S ks e
          (f Dot (multiplied (at_last dotted)) and f Star (multiplied (times refl)) and f Slash (multiplied (times refl))
          and f Percent (multiplied (times refl)) and f Plus (added refl) and f Minus (added refl) and done)
          (is_sum t) (dot_name ts s) (λ n. f Shr (shifting refl n) and f Shl (shifting refl n) and done)
          (λ d. f LParen (multiplied (at_last (calling d b)))) ends

-- and it has each kind that may stand behind every expression
pub onward_ends : (ts : List Tok) (s : ℕ) (t : Tree) (S k : ℕ) → ends_onward S k ≡ true → has (Parse.onward ts t s + S) k ≡ true
unfolding Parse.onward
onward_ends ts s t S k e = ends_onward_lem S k e (is_sum t) (dot_name ts s)

-- ---- what begins a thing

-- A tree of the nonterminal begins with a row of kind k.
pub record Begins (N : Nt) (d k : ℕ) : Type 0 where
  pub tree : Tree
  pub is : Is false N d tree
  pub next : heads k (yield tree) ≡ true

begins : {N : Nt} {d k : ℕ} (t : Tree) → Is false N d t → heads k (yield t) ≡ true → Begins N d k
begins t h e = record { tree = t; is = h; next = e }

-- a check that is left aside
pub aside : {b : Bool} → false ≡ true → b ≡ true
aside e = absurd (true≢false (sym e))

-- the least expression
pub nought : {b : Bool} {d : ℕ} → Is b Add d (num 0)
nought = i_up (i_lone (i_unary (i_prim i_num)))

abbrev pub operand_kinds : List ℕ
operand_kinds = LParen ∷ Star ∷ Identifier ∷ Number ∷ []

abbrev pub stmt_kinds : List ℕ
stmt_kinds = KeywordReturn ∷ KeywordReg ∷ KeywordImm ∷ KeywordHeap ∷ KeywordIf ∷ operand_kinds

abbrev pub item_kinds : List ℕ
item_kinds = KeywordSection ∷ KeywordLicense ∷ stmt_kinds

abbrev pub map_field_kinds : List ℕ
map_field_kinds = KeywordType ∷ KeywordKey ∷ KeywordValue ∷ KeywordMax ∷ []

abbrev pub decl_kinds : List ℕ
decl_kinds = KeywordUnit ∷ KeywordMap ∷ KeywordEvent ∷ []

-- in a tree of another nonterminal
pub each_as : {C D : ℕ → Type 0} {ks : List ℕ} → ((k : ℕ) → C k → D k) → Each C ks → Each D ks
each_as f done = done
each_as f (◌and◌ {k = k} c h) = f k c and each_as f h

pub unary_begins : (d : ℕ) → Each (Begins Unary (suc d)) operand_kinds
unfolding yield
unary_begins d =
    begins (group (num 0)) (i_prim (i_group nought)) refl and begins (star (num 0)) (i_star (i_prim i_num)) refl and begins (var [])
    (i_prim i_var) refl
    and begins (num 0) (i_prim i_num) refl and done

pub stmt_begins : (d : ℕ) → Each (Begins Stmt (suc d)) stmt_kinds
unfolding yield
stmt_begins d =
    begins (ret (num 0)) (i_ret nought) refl and begins (decl KeywordReg [] (num 0)) (i_decl refl nought) refl and begins
    (decl KeywordImm [] (num 0)) (i_decl refl nought) refl
    and begins (decl KeywordHeap [] (num 0)) (i_decl refl nought) refl and begins (guard [] (then_body none) none) (i_if i_no_stmts) refl
    and each_as (λ k b. as_stmt k b) (unary_begins d)
  where
    as_stmt : (k : ℕ) → Begins Unary (suc d) k → Begins Stmt (suc d) k
    as_stmt k b =
        begins (plain b.tree) (i_plain (i_up (i_lone (i_unary b.is))))
        (heads_more k (yield b.tree) (sign Semicolon ∷ []) b.next)

pub item_begins : (d : ℕ) → Each (Begins Item (suc d)) item_kinds
unfolding yield
item_begins d =
    begins (text KeywordSection []) (i_text refl) refl and begins (text KeywordLicense []) (i_text refl) refl
    and each_as (λ k b. begins b.tree (i_stmt b.is) b.next) (stmt_begins d)

pub map_field_begins : (d : ℕ) → Each (Begins MapField d) map_field_kinds
unfolding yield
map_field_begins d =
    begins (map_type []) (i_type aside) refl and begins (typed KeywordKey TypeU32) (i_typed refl refl) refl
    and begins (typed KeywordValue TypeU32) (i_typed refl refl) refl and begins (limit (first 0)) (i_limit i_first aside) refl and done

pub event_field_begins : (d : ℕ) → Each (Begins EventField d) (Identifier ∷ [])
unfolding yield
event_field_begins d = begins (plain_field [] TypeU32) (i_plain_field refl) refl and done

pub decl_begins : (d : ℕ) → Each (Begins Decl d) decl_kinds
unfolding yield
decl_begins d =
    begins (unit [] none) (i_unit i_no_items) refl and begins (map_decl [] none) (i_map i_no_fields aside) refl
    and begins (event [] none) (i_event i_no_event_fields) refl and done

-- ---- `else`, behind a list that ends in an `if` without it

-- an `if` with an else body
with_else : {d : ℕ} (w : List ℕ) (b : Tree) → Is false Stmts d b → Grown Stmt (suc d) (guard w (then_body b) none) KeywordElse
unfolding yield
with_else w b h = record {
  tree = guard w (then_body b) (else_body none);
  is = i_if_else h i_no_stmts;
  rest = sign KeywordElse ∷ sign LBrace ∷ sign RBrace ∷ [];
  spells =
      ap (λ (l : List Tok). sign KeywordIf ∷ sign KeywordGuard ∷ sign LParen ∷ name w ∷ sign
      RParen ∷ (l ++ (sign KeywordElse ∷ sign LBrace ∷ sign RBrace ∷ [])))
      (sym (append-nil (yield (then_body b))));
  next = refl;
}

stmt_else : {d : ℕ} {s : Tree} → Is false Stmt d s → hangs s ≡ true → Grown Stmt d s KeywordElse
unfolding hangs yield
stmt_else (i_decl b h) e = absurd (true≢false (sym e))
stmt_else (i_ret h) e = absurd (true≢false (sym e))
stmt_else (i_plain h) e = absurd (true≢false (sym e))
stmt_else (i_assign b l r) e = absurd (true≢false (sym e))
stmt_else (i_if {w = w} {b = b} h) e = with_else w b h
stmt_else (i_if_else {e = l} b c) e = absurd (omega (arith, eqb-true (length (yield (else_body l))) 0 e))

pub stmts_else : {d : ℕ} {l : Tree} → Is false Stmts d l → hangs l ≡ true → Grown Stmts d l KeywordElse
unfolding hangs yield
stmts_else i_no_stmts e = absurd (true≢false (sym e))
stmts_else (i_stmts {l = l} g h) e = last_grown (λ u. seq l u) (λ u q. i_stmts g q) (yield l) (λ u. refl) (stmt_else h e)

pub items_else : {d : ℕ} {l : Tree} → Is false Items d l → hangs l ≡ true → Grown Items d l KeywordElse
unfolding hangs yield
items_else i_no_items e = absurd (true≢false (sym e))
items_else (i_items {l = l} g (i_stmt h)) e = last_grown (λ u. seq l u) (λ u q. i_items g (i_stmt q)) (yield l) (λ u. refl) (stmt_else h e)
items_else (i_items g (i_text b)) e = absurd (true≢false (sym e))

pub map_fields_else : {d : ℕ} {l : Tree} → Is false MapFields d l → hangs l ≡ true → Grown MapFields d l KeywordElse
unfolding hangs
map_fields_else i_no_fields e = absurd (true≢false (sym e))
map_fields_else (i_fields g (i_type q)) e = absurd (true≢false (sym e))
map_fields_else (i_fields g (i_typed b c)) e = absurd (true≢false (sym e))
map_fields_else (i_fields g (i_limit c q)) e = absurd (true≢false (sym e))

pub event_fields_else : {d : ℕ} {l : Tree} → Is false EventFields d l → hangs l ≡ true → Grown EventFields d l KeywordElse
unfolding hangs
event_fields_else i_no_event_fields e = absurd (true≢false (sym e))
event_fields_else (i_event_fields g (i_plain_field b)) e = absurd (true≢false (sym e))
event_fields_else (i_event_fields g (i_bytes_field q)) e = absurd (true≢false (sym e))
event_fields_else (i_event_fields g (i_array_field b q)) e = absurd (true≢false (sym e))

pub decls_else : {d : ℕ} {l : Tree} → Is false Decls d l → hangs l ≡ true → Grown Decls d l KeywordElse
unfolding hangs
decls_else i_no_decls e = absurd (true≢false (sym e))
decls_else (i_decls g (i_unit h)) e = absurd (true≢false (sym e))
decls_else (i_decls g (i_map h q)) e = absurd (true≢false (sym e))
decls_else (i_decls g (i_event h)) e = absurd (true≢false (sym e))
