-- The parser is complete for the grammar: where the rows from a row on are the tokens of a tree of the grammar, within the nesting and
-- the checks, and no row follows with which it goes on, the parser gives that tree. Of a tree of the grammar with the checks and the
-- nesting left aside it gives that tree, or refuses it by a check or the nesting, and by nothing else.
use mathlib.Core.Path.{◌≡◌, refl, sym, ap, ◌∙◌, subst}
use mathlib.Core.Bool.{Bool, true, false, not, ◌&&◌, ◌||◌, and-eq-true_iff, true≢false}
use mathlib.Core.List.{List, [], ◌∷◌, ◌++◌, append_assoc, append-nil}
use Prim.Native.Nat.{ℕ, zero, suc, ◌+◌, ◌^◌, ◌≤◌, ◌<◌}
use native.Mathlib.Nat.{add-zero}
use native.Mathlib.Omega.{arith}
use lib.Dec.{eqb, leb}
use lib.ListN.{length, get_or, drop, length-drop, length-append}
use lib.Seq.{drop-drop, drop-append_seam, get_or-drop}
use borrow.Author.Tests.{eqb-true, eqb-false, eq-eqb, not-true, not-false}
use Rattle.laws.proofs.Tests.{false_by}
use Rattle.rules.specs.declared.Syntax.TheVariants.{TooDeep}
use Rattle.rules.specs.Kinds.{KeywordUnit, KeywordSection, KeywordLicense, KeywordReturn, KeywordReg, KeywordImm, KeywordMap, KeywordKey, KeywordValue, KeywordMax, KeywordIf, KeywordElse, KeywordGuard, KeywordHeap, KeywordEvent, LBrace, RBrace, LParen, RParen, Colon, Dot, Comma, Semicolon, LBracket, RBracket, Equals, PlusEquals, Plus, Minus, Star, Slash, Percent, Shr, Shl, Identifier, Number, Eof}
use Rattle.rules.specs.Fits.{body_things, unit_things, event_fields, tops, map_fields}
use Rattle.rules.specs.Tree.{Tok, sign, name, string, value, kind_of, spelling_of, bits_in, Tree, none, num, var, star, group, field, call, bin, one, more, decl, ret, plain, assign, guard, then_body, else_body, seq, text, unit, map_type, typed, limit, first, shifted, map_decl, plain_field, bytes_field, array_field, event, program, yield, is_variable, map_type_number, max_bits, type_of, typed_by, limit_of, lacking}
use Rattle.rules.specs.Nodes.{width}
use Rattle.rules.specs.Parse
use Rattle.rules.specs.Parse.{Out, ok, no, P, then, or, many, is_add, is_shift, is_mul, is_assign, is_declaring, is_text, is_type, is_typed, most32, Sort, operand, whole, tok_at, kind_at}
use Rattle.rules.specs.Grammar.{Nt, Add, Shift, Mul, Unary, Basic, Args, Stmt, Stmts, Item, Items, Chain, MapField, MapFields, EventField, EventFields, Decl, Decls, Program, Is, i_num, i_var, i_group, i_field, i_bare, i_call, i_one, i_more, i_prim, i_star, i_unary, i_mul, i_lone, i_shift, i_up, i_add, i_decl, i_ret, i_plain, i_assign, i_if, i_if_else, i_no_stmts, i_stmts, i_stmt, i_text, i_no_items, i_items, i_first, i_shifted, i_type, i_typed, i_limit, i_no_fields, i_fields, i_plain_field, i_bytes_field, i_array_field, i_no_event_fields, i_event_fields, i_unit, i_map, i_event, i_no_decls, i_decls, i_program}
use Rattle.theory_grammar.proofs.Laws.{either_kind, three_kinds, yield_width, is_wide}
use Rattle.theory_grammar.proofs.Cases
use Rattle.theory_grammar.specs.Lost.{is_misfit, is_check}

-- the kind of the first of some tokens
unfoldable pub front : List Tok → ℕ
front ys = kind_of (get_or ys 0 (sign Eof))

-- ---- what the parser gives

-- a refusal by a check: 24, 26 to 29, 31
abbrev pub Checked : Out → Type 0
Checked (ok t j) = ⊥
Checked (no why r) = is_check why ≡ true

-- a refusal by the nesting: 32
abbrev pub Nested : Out → Type 0
Nested (ok t j) = ⊥
Nested (no why r) = (is_misfit why ≡ false) × (is_check why ≡ false)

-- What the parser answers where o' is expected: just that; or, where the checks are left aside, a refusal by one of them; or, where the
-- nesting is left aside, a refusal by that.
pub data Gives (strict close : Bool) (o o' : Out) : Type 0 where
  gives : o ≡ o' → Gives strict close o o'
  checked : strict ≡ false → Checked o → Gives strict close o o'
  nested : close ≡ false → Nested o → Gives strict close o o'

then_checked : (o : Out) (f : Tree → P) → Checked o → Checked (then o f)
unfolding then
then_checked (ok t j) f c = absurd c
then_checked (no why r) f c = c

then_nested : (o : Out) (f : Tree → P) → Nested o → Nested (then o f)
unfolding then
then_nested (ok t j) f c = absurd c
then_nested (no why r) f c = c

or_checked : (s i : ℕ) (o : Out) → Checked o → Checked (or s i o)
unfolding or
or_checked s i (ok t j) c = absurd c
or_checked s i (no why r) c = Cases.or_no (λ x n. is_check x ≡ true) s i why r (Cases.retold_check s why ∙ c) c

or_nested : (s i : ℕ) (o : Out) → Nested o → Nested (or s i o)
unfolding or
or_nested s i (ok t j) c = absurd c
or_nested s i (no why r) c =
    Cases.or_no (λ x n. (is_misfit x ≡ false) × (is_check x ≡ false)) s i why r
    (Cases.retold_misfit s why ∙ c.0, Cases.retold_check s why ∙ c.1) c

module _ {strict close : Bool} {o : Out} where
  infixr 30 ◌▹◌
  ◌▹◌ : {o' r : Out} → o ≡ o' → Gives strict close o' r → Gives strict close o r
  e ▹ gives f = gives (e ∙ f)
  e ▹ checked s c = checked s (subst Checked (sym e) c)
  e ▹ nested s c = nested s (subst Nested (sym e) c)

  leads : {o' r : Out} → Gives strict close o o' → Gives strict close o' r → Gives strict close o r
  leads (gives e) g = e ▹ g
  leads (checked s c) g = checked s c
  leads (nested s c) g = nested s c

module _ {strict close : Bool} {o : Out} where
  then_run : {r : Out} {t : Tree} {j : ℕ} (f : Tree → P) → Gives strict close o (ok t j) → Gives strict close (f t j) r → Gives strict close (then o f) r
  then_run {r} {t} {j} f (gives e) h = Cases.then_ok o f t j e ▹ h
  then_run f (checked s c) h = checked s (then_checked o f c)
  then_run f (nested s c) h = nested s (then_nested o f c)

  or_run : {t : Tree} {j : ℕ} (s i : ℕ) → Gives strict close o (ok t j) → Gives strict close (or s i o) (ok t j)
  or_run {t} {j} s i (gives e) = gives (Cases.or_ok s i o t j e)
  or_run s i (checked q c) = checked q (or_checked s i o c)
  or_run s i (nested q c) = nested q (or_nested s i o c)

  -- a check that holds where checks count: what is given if it holds, and a refusal if it does not
  passes : {r : Out} (b : Bool) → (strict ≡ true → b ≡ true) → (b ≡ true → Gives strict close o r) → (b ≡ false → Checked o) → Gives strict close o r
  passes true q g c = g refl
  passes false q g c = checked (false_by strict (λ e. true≢false (sym (q e)))) (c refl)

-- ---- what a run of rows says of the rows in it

-- the tokens from row i on
pub record From (ts : List Tok) (i : ℕ) (xs : List Tok) : Type 0 where
  pub are : drop i ts ≡ xs

module _ {ts : List Tok} where
  tok_of : {j : ℕ} {x : Tok} {ys : List Tok} → From ts j (x ∷ ys) → tok_at ts j ≡ x
  tok_of {j} e =
      ap (λ (n : ℕ). get_or ts n (sign Eof)) (sym (add-zero j)) ∙ sym (get_or-drop j ts 0 (sign Eof)) ∙ ap (λ (l : List Tok). get_or l 0 (sign Eof)) e.are

  kind_of_lem : {j : ℕ} {ys : List Tok} → From ts j ys → kind_at ts j ≡ front ys
  unfolding front
  kind_of_lem {j} e =
      ap (λ (n : ℕ). kind_of (get_or ts n (sign Eof))) (sym (add-zero j))
      ∙ ap kind_of (sym (get_or-drop j ts 0 (sign Eof)) ∙ ap (λ (l : List Tok). get_or l 0 (sign Eof)) e.are)

  sign_kind : {j k : ℕ} {ys : List Tok} → From ts j (sign k ∷ ys) → kind_at ts j ≡ k
  unfolding kind_of
  sign_kind e = ap kind_of (tok_of e)

  tail_of : {j : ℕ} {x : Tok} {ys : List Tok} → From ts j (x ∷ ys) → From ts (j + 1) ys
  tail_of {j} e = record { are = sym (drop-drop 1 j ts) ∙ ap (λ (l : List Tok). drop 1 l) e.are }

  after : (t : Tree) {i : ℕ} {ys : List Tok} → From ts i (yield t ++ ys) → From ts (i + width t) ys
  after t {i} {ys} e =
      record { are = ap (λ (n : ℕ). drop (i + n) ts) (sym (yield_width t)) ∙ sym (drop-drop (length (yield t)) i ts) ∙ ap (λ (l : List Tok). drop (length (yield t)) l) e.are ∙ drop-append_seam (yield t) ys }

  -- the same tokens, grouped otherwise
  regroup : {i : ℕ} {xs ys : List Tok} → From ts i xs → xs ≡ ys → From ts i ys
  regroup e p = record { are = e.are ∙ p }

  -- ---- the parser's steps over such a run

  module _ {strict close : Bool} {i : ℕ} {ys : List Tok} {o : Out} where
    want_run : {k : ℕ} (f : P) → From ts i (sign k ∷ ys) → (From ts (i + 1) ys → Gives strict close (f (i + 1)) o) → Gives strict close (Parse.want ts k f i) o
    want_run {k} f e h = Cases.want_yes ts k f i (sign_kind e) ▹ h (tail_of e)

    want_in_run : {k : ℕ} (s : ℕ) (f : P) → From ts i (sign k ∷ ys) → (From ts (i + 1) ys → Gives strict close (f (i + 1)) o)
        → Gives strict close (Parse.want_in ts s k f i) o
    want_in_run {k} s f e h = Cases.want_in_yes ts s k f i (sign_kind e) ▹ h (tail_of e)

    end_run : {k : ℕ} (t : Tree) (f : P) → From ts i (sign k ∷ ys) → (From ts (i + 1) ys → Gives strict close (f (i + 1)) o)
        → Gives strict close (Parse.end ts k t f i) o
    end_run {k} t f e h = Cases.end_yes ts k f i t (sign_kind e) ▹ h (tail_of e)

    end_in_run : {k : ℕ} (s : ℕ) (t : Tree) (f : P) → From ts i (sign k ∷ ys) → (From ts (i + 1) ys → Gives strict close (f (i + 1)) o)
        → Gives strict close (Parse.end_in ts s k t f i) o
    end_in_run {k} s t f e h = Cases.end_in_yes ts s k f i t (sign_kind e) ▹ h (tail_of e)

    need_run : {k : ℕ} (f : P) → From ts i (sign k ∷ ys) → Gives strict close (f i) o → Gives strict close (Parse.need ts k f i) o
    need_run {k} f e h = Cases.need_yes ts k f i (sign_kind e) ▹ h

    named_run : {w : List ℕ} (f : List ℕ → P) → From ts i (name w ∷ ys) → (From ts (i + 1) ys → Gives strict close (f w (i + 1)) o) → Gives strict close (Parse.named ts f i) o
    unfolding kind_of spelling_of
    named_run f e h = Cases.named_yes ts f i (ap kind_of (tok_of e)) ▹ ap (λ (x : Tok). f (spelling_of x) (i + 1)) (tok_of e) ▹ h (tail_of e)

    quoted_run : {w : List ℕ} (f : List ℕ → P) → From ts i (string w ∷ ys) → (From ts (i + 1) ys → Gives strict close (f w (i + 1)) o)
        → Gives strict close (Parse.quoted ts f i) o
    unfolding kind_of spelling_of
    quoted_run f e h = Cases.quoted_yes ts f i (ap kind_of (tok_of e)) ▹ ap (λ (x : Tok). f (spelling_of x) (i + 1)) (tok_of e) ▹ h (tail_of e)

    valued_run : {v : ℕ} (f : ℕ → P) → From ts i (value v ∷ ys) → (From ts (i + 1) ys → Gives strict close (f v (i + 1)) o) → Gives strict close (Parse.valued ts f i) o
    unfolding kind_of bits_in
    valued_run f e h = Cases.valued_yes ts f i (ap kind_of (tok_of e)) ▹ ap (λ (x : Tok). f (bits_in x) (i + 1)) (tok_of e) ▹ h (tail_of e)

up_to : {strict close : Bool} {t : Tree} {j k : ℕ} → j ≡ k → Gives strict close (ok t j) (ok t k)
up_to {strict} {close} {t} e = gives (ap (λ (n : ℕ). ok t n) e)

-- a row with tokens from it on is in the table
within_table : {ts : List Tok} {j : ℕ} {x : Tok} {ys : List Tok} → From ts j (x ∷ ys) → j < length ts
within_table {ts} {j} {x} {ys} e = omega (arith, length-drop j ts, ap length e.are)

-- ---- a loop that has come to a tree

pub record Reach (strict close : Bool) (ts : List Tok) (all : Out) (test : ℕ → Bool) (step : Tree → P) (t : Tree) (j : ℕ) : Type 0 where
  pub fuel : ℕ
  pub enough : length ts < fuel + j
  pub rest : Gives strict close all (many test step fuel (test j) t j)

module _ {strict close : Bool} {ts : List Tok} {all : Out} {test : ℕ → Bool} {step : Tree → P} {t : Tree} {j : ℕ} where
  reach_loop : Gives strict close all (Parse.loop ts test step t j) → Reach strict close ts all test step t j
  unfolding Parse.loop
  reach_loop e = record { fuel = suc (length ts); enough = omega arith; rest = e }

  reach_at : {k : ℕ} → j ≡ k → Reach strict close ts all test step t j → Reach strict close ts all test step t k
  reach_at e c = subst (λ (n : ℕ). Reach strict close ts all test step t n) e c

  reach_end : Reach strict close ts all test step t j → test j ≡ false → Gives strict close all (ok t j)
  reach_end c b = leads c.rest (gives (Cases.many_stop test step c.fuel t j b))

  reach_next : Reach strict close ts all test step t j → test j ≡ true → j < length ts → {u : Tree} {k : ℕ} → Gives strict close (step t j) (ok u k) → j < k
      → Reach strict close ts all test step u k
  reach_next c b h {u} {k} e up = go c.fuel refl
    where
      go : (f : ℕ) → c.fuel ≡ f → Reach strict close ts all test step u k
      go zero q = absurd (omega (arith, c.enough))
      go (suc f) q = record {
        fuel = f;
        enough = omega (arith, c.enough, q);
        rest = leads c.rest (ap (λ (n : ℕ). many test step n (test j) t j) q ▹ Cases.many_step test step f t j b ▹ then_run _ e (gives refl));
      }

-- ---- what follows: no row with which a tree of the nonterminal goes on

abbrev pub Stop : Nt → ℕ → Type 0
Stop Basic k = eqb k LParen ≡ false
Stop Unary k = (eqb k LParen ≡ false) × (eqb k Dot ≡ false)
Stop Mul k = (eqb k LParen ≡ false) × (eqb k Dot ≡ false)
Stop Shift k = (eqb k LParen ≡ false) × (eqb k Dot ≡ false) × (is_mul k ≡ false)
Stop Add k = (eqb k LParen ≡ false) × (eqb k Dot ≡ false) × (is_mul k ≡ false) × (is_shift k ≡ false)
Stop Args k = (eqb k LParen ≡ false) × (eqb k Dot ≡ false) × (is_mul k ≡ false) × (is_shift k ≡ false) × (is_add k ≡ false)
Stop Stmt k = eqb k KeywordElse ≡ false
Stop Stmts k = eqb k KeywordElse ≡ false
Stop Item k = eqb k KeywordElse ≡ false
Stop Items k = eqb k KeywordElse ≡ false
Stop Chain k = Unit {0}
Stop MapField k = Unit {0}
Stop MapFields k = Unit {0}
Stop EventField k = Unit {0}
Stop EventFields k = Unit {0}
Stop Decl k = Unit {0}
Stop Decls k = Unit {0}
Stop Program k = Unit {0}

mul_stops : (k : ℕ) → is_mul k ≡ true → Stop Mul k
mul_stops k b = three_kinds (Stop Mul) k Star Slash Percent b (refl, refl) (refl, refl) (refl, refl)

shift_stops : (k : ℕ) → is_shift k ≡ true → Stop Shift k
shift_stops k b = either_kind (Stop Shift) k Shl Shr b (refl, refl, refl) (refl, refl, refl)

add_stops : (k : ℕ) → is_add k ≡ true → Stop Add k
add_stops k b = either_kind (Stop Add) k Plus Minus b (refl, refl, refl, refl) (refl, refl, refl, refl)

assign_stops : (k : ℕ) → is_assign k ≡ true → Stop Args k
assign_stops k b = either_kind (Stop Args) k Equals PlusEquals b (refl, refl, refl, refl, refl) (refl, refl, refl, refl, refl)

-- ---- what a tree of a nonterminal begins with

abbrev pub is_basic : ℕ → Bool
is_basic k = (eqb k Number || eqb k Identifier) || eqb k LParen

abbrev pub is_start : ℕ → Bool
is_start k = is_basic k || eqb k Star

pub start_case : (C : ℕ → Type 0) (k : ℕ) → is_start k ≡ true → C Number → C Identifier → C LParen → C Star → C k
start_case C k b p q r s = go (is_basic k) refl b
  where
    go : (c : Bool) → is_basic k ≡ c → c || eqb k Star ≡ true → C k
    go true e b = three_kinds C k Number Identifier LParen e p q r
    go false e b = subst C (sym (eqb-true k Star b)) s

abbrev Opens : Nt → ℕ → Type 0
Opens Basic k = is_basic k ≡ true
Opens Unary k = is_start k ≡ true
Opens Mul k = is_start k ≡ true
Opens Shift k = is_start k ≡ true
Opens Add k = is_start k ≡ true
Opens Args k = is_start k ≡ true
Opens Stmt k = (eqb k RBrace ≡ false) × (eqb k KeywordElse ≡ false) × (is_text k ≡ false)
Opens Stmts k = Unit {0}
Opens Item k = (eqb k RBrace ≡ false) × (eqb k KeywordElse ≡ false)
Opens Items k = Unit {0}
Opens Chain k = Unit {0}
Opens MapField k = eqb k RBrace ≡ false
Opens MapFields k = Unit {0}
Opens EventField k = eqb k RBrace ≡ false
Opens EventFields k = Unit {0}
Opens Decl k = eqb k Eof ≡ false
Opens Decls k = Unit {0}
Opens Program k = Unit {0}

basic_start : (k : ℕ) → is_basic k ≡ true → is_start k ≡ true
basic_start k b = rw b

start_stmt : (k : ℕ) → is_start k ≡ true → Opens Stmt k
start_stmt k b = start_case (Opens Stmt) k b (refl, refl, refl) (refl, refl, refl) (refl, refl, refl) (refl, refl, refl)

opens : {strict : Bool} {N : Nt} {d : ℕ} {t : Tree} → Is strict N d t → (ys : List Tok) → Opens N (front (yield t ++ ys))
unfolding yield front kind_of
opens i_num ys = refl
opens i_var ys = refl
opens (i_group h) ys = refl
opens (i_field {t = t} {w = w} h) ys = rw (append_assoc (yield t)) (opens h (sign Dot ∷ name w ∷ ys))
opens (i_bare {t = t} {w = w} h q) ys = rw (append_assoc (yield t)) (opens h (sign Dot ∷ name w ∷ sign LParen ∷ sign RParen ∷ ys))
opens (i_call {t = t} {a = a} {w = w} h q v) ys = rw (append_assoc (yield t)) (opens h (sign Dot ∷ name w ∷ sign LParen ∷ ((yield a ++ (sign RParen ∷ [])) ++ ys)))
opens (i_one h) ys = opens h ys
opens (i_more {a = a} {t = t} h v) ys = rw (append_assoc (yield a)) (opens h (sign Comma ∷ (yield t ++ ys)))
opens (i_prim {t = t} h) ys = basic_start (front (yield t ++ ys)) (opens h ys)
opens (i_star h) ys = refl
opens (i_unary h) ys = opens h ys
opens (i_mul {k = k} {l = l} {r = r} h b v) ys = rw (append_assoc (yield l)) (opens h (sign k ∷ (yield r ++ ys)))
opens (i_lone h) ys = opens h ys
opens (i_shift {k = k} {l = l} {r = r} h b v) ys = rw (append_assoc (yield l)) (opens h (sign k ∷ (yield r ++ ys)))
opens (i_up h) ys = opens h ys
opens (i_add {k = k} {l = l} {r = r} h b v) ys = rw (append_assoc (yield l)) (opens h (sign k ∷ (yield r ++ ys)))
opens (i_decl {k = k} b h) ys = three_kinds (Opens Stmt) k KeywordReg KeywordImm KeywordHeap b (refl, refl, refl) (refl, refl, refl) (refl, refl, refl)
opens (i_ret h) ys = (refl, refl, refl)
opens (i_plain {e = e} h) ys = rw (append_assoc (yield e)) (start_stmt (front (yield e ++ (sign Semicolon ∷ ys))) (opens h (sign Semicolon ∷ ys)))
opens (i_assign {k = k} {l = l} {r = r} b h v) ys =
    rw (append_assoc (yield l))
    (start_stmt (front (yield l ++ (sign k ∷ ((yield r ++ (sign Semicolon ∷ [])) ++ ys))))
    (opens h (sign k ∷ ((yield r ++ (sign Semicolon ∷ [])) ++ ys))))
opens (i_if h) ys = (refl, refl, refl)
opens (i_if_else h v) ys = (refl, refl, refl)
opens i_no_stmts ys = tt
opens (i_stmts h v) ys = tt
opens (i_stmt h) ys = ((opens h ys).0, (opens h ys).1)
opens (i_text {k = k} b) ys = either_kind (Opens Item) k KeywordSection KeywordLicense b (refl, refl) (refl, refl)
opens i_no_items ys = tt
opens (i_items h v) ys = tt
opens i_first ys = tt
opens (i_shifted h b q) ys = tt
opens (i_type q) ys = refl
opens (i_typed {k = k} b c) ys = either_kind (Opens MapField) k KeywordKey KeywordValue b refl refl
opens (i_limit h q) ys = refl
opens i_no_fields ys = tt
opens (i_fields h v) ys = tt
opens (i_plain_field b) ys = refl
opens (i_bytes_field q) ys = refl
opens (i_array_field b q) ys = refl
opens i_no_event_fields ys = tt
opens (i_event_fields h v) ys = tt
opens (i_unit h) ys = refl
opens (i_map h q) ys = refl
opens (i_event h) ys = refl
opens i_no_decls ys = tt
opens (i_decls h v) ys = tt
opens (i_program h) ys = tt

module _ (strict close : Bool) (ts : List Tok) where
  abbrev G : ℕ → Sort → P
  G d = Parse.inner ts d

  -- a list of things p up to a row of kind `stop` has come to l
  abbrev ListReach : ℕ → ℕ → P → ℕ → Tree → Type 0
  ListReach stop also p i l =
      Reach strict close ts (Parse.list_to ts stop also p i) (λ r. not (eqb (kind_at ts r) stop)) (Parse.list_step ts also p) l (i + width l)

  -- what the parser does, with d constructs left, at the rows of a tree of each nonterminal, if what follows them is ys
  abbrev At : Nt → ℕ → Tree → ℕ → Type 0
  At Basic d t i = Reach strict close ts (Parse.prim ts (G d) i) (λ r. eqb (kind_at ts r) Dot) (Parse.post ts (G d)) t (i + width t)
  At Unary d t i = Gives strict close (Parse.unary ts (G d) i) (ok t (i + width t))
  At Mul d t i = Reach strict close ts (Parse.mul ts (G d) i) (λ r. is_mul (kind_at ts r)) (Parse.bin_step ts (G d) (Parse.unary ts (G d))) t (i + width t)
  At Shift d t i = Reach strict close ts (Parse.shift ts (G d) i) (λ r. is_shift (kind_at ts r)) (Parse.bin_step ts (G d) (Parse.mul ts (G d))) t (i + width t)
  At Add d t i = Reach strict close ts (Parse.add ts (G d) i) (λ r. is_add (kind_at ts r)) (Parse.bin_step ts (G d) (Parse.mul ts (G d))) t (i + width t)
  At Args d t i = (o : ℕ) → o + 1 ≡ i → Reach strict close ts (Parse.args ts (G d) o) (λ r. eqb (kind_at ts r) Comma) (Parse.arg_step ts (G d)) t (i + width t)
  At Stmt d t i = Gives strict close (Parse.stmt ts d (Parse.body ts d) i) (ok t (i + width t))
  At Stmts d t i = ListReach RBrace body_things (Parse.stmt ts d (Parse.body ts d)) i t
  At Item d t i = d ≡ 64 → Gives strict close (Parse.item ts i) (ok t (i + width t))
  At Items d t i = d ≡ 64 → ListReach RBrace unit_things (Parse.item ts) i t
  At Chain d t i = Reach strict close ts (Parse.chain ts i) (λ r. is_shift (kind_at ts r)) (Parse.chain_step ts) t (i + width t)
  At MapField d t i = Gives strict close (Parse.map_field ts i) (ok t (i + width t))
  At MapFields d t i = ListReach RBrace map_fields (Parse.map_field ts) i t
  At EventField d t i = Gives strict close (Parse.event_field ts i) (ok t (i + width t))
  At EventFields d t i = ListReach RBrace event_fields (Parse.event_field ts) i t
  At Decl d t i = d ≡ 64 → Gives strict close (Parse.top ts i) (ok t (i + width t))
  At Decls d t i = d ≡ 64 → ListReach Eof tops (Parse.top ts) i t
  At Program d t i = d ≡ 64 → i ≡ 0 → Gives strict close (Parse.parse ts) (ok t (width t))

  abbrev Claim : Nt → ℕ → Tree → Type 0
  Claim N d t = (i : ℕ) (ys : List Tok) → From ts i (yield t ++ ys) → Stop N (front ys) → At N d t i

  -- a claim's loop is at its end where no operator follows
  mul_ends : (d : ℕ) (t : Tree) → Claim Mul d t → (i : ℕ) (ys : List Tok) → From ts i (yield t ++ ys) → Stop Shift (front ys)
      → Gives strict close (Parse.mul ts (G d) i) (ok t (i + width t))
  mul_ends d t c i ys e s = reach_end (c i ys e (s.0, s.1)) (ap is_mul (kind_of_lem (after t e)) ∙ s.2)

  shift_ends : (d : ℕ) (t : Tree) → Claim Shift d t → (i : ℕ) (ys : List Tok) → From ts i (yield t ++ ys) → Stop Add (front ys)
      → Gives strict close (Parse.shift ts (G d) i) (ok t (i + width t))
  shift_ends d t c i ys e s = reach_end (c i ys e (s.0, s.1, s.2)) (ap is_shift (kind_of_lem (after t e)) ∙ s.3)

  add_ends : (d : ℕ) (t : Tree) → Claim Add d t → (i : ℕ) (ys : List Tok) → From ts i (yield t ++ ys) → Stop Args (front ys)
      → Gives strict close (Parse.add ts (G d) i) (ok t (i + width t))
  add_ends d t c i ys e s = reach_end (c i ys e (s.0, s.1, s.2, s.3)) (ap is_add (kind_of_lem (after t e)) ∙ s.4)

  -- ---- one construct deeper

  -- a tree with n constructs open is within d, where nesting counts
  abbrev Fits : ℕ → ℕ → Type 0
  Fits n d = close ≡ true → n ≤ d

  fits_under : (n d : ℕ) → Fits (suc n) (suc d) → Fits n d
  fits_under n d f q = let h : suc n ≤ suc d = f q in omega arith

  -- 32, where none is left
  too_deep : (n r : ℕ) {o o' : Out} → Fits (suc n) 0 → o ≡ no TooDeep r → Gives strict close o o'
  unfolding is_misfit is_check
  too_deep n r f e = nested (false_by close (λ q. omega (arith, f q))) (subst Nested (sym e) (refl, refl))

  -- what is read behind the opening row o: an expression, an operand, statements in braces
  abbrev WholeAt : ℕ → Tree → Type 0
  WholeAt d t = (o : ℕ) (ys : List Tok) → From ts (o + 1) (yield t ++ ys) → Stop Args (front ys) → Gives strict close (G d whole o) (ok t (o + 1 + width t))

  abbrev OperandAt : ℕ → Tree → Type 0
  OperandAt d t = (o : ℕ) (ys : List Tok) → From ts (o + 1) (yield t ++ ys) → Stop Unary (front ys) → Gives strict close (G d operand o) (ok t (o + 1 + width t))

  abbrev BodyAt : ℕ → Tree → Type 0
  BodyAt d l = (o : ℕ) (ys : List Tok) → From ts o (sign LBrace ∷ (yield l ++ (sign RBrace ∷ ys))) → Gives strict close (Parse.body ts d o) (ok l (o + 1 + width l + 1))

  module _ (n : ℕ) (t : Tree) where
    whole_at : (d : ℕ) → Fits (suc n) d → ((d : ℕ) → Fits n d → Claim Add d t) → WholeAt d t
    unfolding Parse.inner
    whole_at zero f c o ys e s = too_deep n o f refl
    whole_at (suc d) f c o ys e s = add_ends d t (c d (fits_under n d f)) (o + 1) ys e s

    operand_at : (d : ℕ) → Fits (suc n) d → ((d : ℕ) → Fits n d → Claim Unary d t) → OperandAt d t
    unfolding Parse.inner
    operand_at zero f c o ys e s = too_deep n o f refl
    operand_at (suc d) f c o ys e s = c d (fits_under n d f) (o + 1) ys e s

  -- ---- expressions

  run_num : (d v : ℕ) → Claim Basic d (num v)
  unfolding yield width Parse.prim kind_of bits_in
  run_num d v i ys e s =
      reach_loop (then_run _ (gives (Cases.atom_num ts (G d) i (ap kind_of (tok_of e)) ∙ ap (λ (x : Tok). ok (num (bits_in x)) (i + 1)) (tok_of e))) (gives refl))

  run_var : (d : ℕ) (w : List ℕ) → Claim Basic d (var w)
  unfolding yield width Parse.prim kind_of spelling_of
  run_var d w i ys e s =
      reach_loop (then_run _ (gives (Cases.atom_var ts (G d) i (ap kind_of (tok_of e)) ∙ ap (λ (x : Tok). ok (var (spelling_of x)) (i + 1)) (tok_of e))) (gives refl))

  module _ (d : ℕ) (t : Tree) where
    run_group : WholeAt d t → Claim Basic d (group t)
    unfolding yield width front kind_of Parse.prim
    run_group c i ys e s =
        let e1 : From ts (i + 1) (yield t ++ (sign RParen ∷ ys)) = regroup (tail_of e) (append_assoc (yield t) (sign RParen ∷ []) ys) in
        reach_loop
        (then_run _
        (Cases.atom_paren ts (G d) i (sign_kind e) ▹ then_run _ (c i _ e1 (refl, refl, refl, refl, refl))
        (end_run t _ (after t e1) (λ _. up_to (omega arith))))
        (gives refl))

    run_field : (w : List ℕ) → Claim Basic d t → Claim Basic d (field t w)
    unfolding yield width front kind_of Parse.post Parse.open_by
    run_field w c i ys e s =
        let e1 : From ts i (yield t ++ (sign Dot ∷ name w ∷ ys)) = regroup e (append_assoc (yield t) (sign Dot ∷ name w ∷ []) ys) in
        let a : From ts (i + width t) (sign Dot ∷ name w ∷ ys) = after t e1 in
        reach_next (c i _ e1 refl) (eq-eqb _ Dot (sign_kind a)) (within_table a)
        (named_run _ (tail_of a) (λ b. rw (ap (λ (x : ℕ). eqb x LParen) (kind_of_lem b) ∙ s) (up_to (omega arith))))
        (omega arith)

    -- a call's end, where its check passes
    call_ends : (w : List ℕ) (a : Tree) (m k j : ℕ) → (strict ≡ true → is_variable t ≡ true) → k ≡ j → Gives strict close (Parse.called ts t w a m k) (ok (call t w a) j)
    unfolding is_check
    call_ends w a m k j q e =
        passes (is_variable t) q (λ b. Cases.called_yes ts t w a m k b ▹ up_to e) (λ b. subst Checked (sym (Cases.called_no ts t w a m k b)) refl)

    run_bare : (w : List ℕ) → (strict ≡ true → is_variable t ≡ true) → Claim Basic d t → Claim Basic d (call t w none)
    unfolding yield width front kind_of Parse.post Parse.open_by Parse.call_by
    run_bare w q c i ys e s =
        let e1 : From ts i (yield t ++ (sign Dot ∷ name w ∷ sign LParen ∷ sign RParen ∷ ys)) = regroup e (append_assoc (yield t) (sign Dot ∷ name w ∷ sign LParen ∷ sign RParen ∷ []) ys) in
        let a : From ts (i + width t) (sign Dot ∷ name w ∷ sign LParen ∷ sign RParen ∷ ys) = after t e1 in
        reach_next (c i _ e1 refl) (eq-eqb _ Dot (sign_kind a)) (within_table a)
        (named_run _ (tail_of a) (λ b. rw (sign_kind b, sign_kind (tail_of b))
        (call_ends w none (i + width t + 1) (i + width t + 1 + 1 + 1 + 1) (i + (width t + 3 + 0 + 1)) q (omega arith))))
        (omega arith)

    run_one : WholeAt d t → Claim Args d (one t)
    unfolding yield width Parse.args
    run_one c i ys e s o q =
        reach_loop
        (then_run _ (or_run _ _ (leads (c o ys (subst (λ (n : ℕ). From ts n (yield t ++ ys)) (sym q) e) s)
        (up_to (ap (λ (n : ℕ). n + width t) q)))) (gives refl))

    run_prim : Claim Basic d t → ((ys : List Tok) → is_basic (front (yield t ++ ys)) ≡ true) → Claim Unary d t
    run_prim c lead i ys e s =
        Cases.unary_else ts (G d) i (λ q. eqb-false _ Star (three_kinds (λ x. eqb x Star ≡ false) (front (yield t ++ ys)) Number Identifier LParen (lead ys) refl refl refl) (sym (kind_of_lem e) ∙ q))
        ▹ reach_end (c i ys e s.0) (ap (λ (x : ℕ). eqb x Dot) (kind_of_lem (after t e)) ∙ s.1)

    run_star : OperandAt d t → Claim Unary d (star t)
    unfolding yield width
    run_star c i ys e s = Cases.unary_star ts (G d) i (sign_kind e) ▹ then_run _ (c i ys (tail_of e) s) (up_to (omega arith))

    run_unary : Claim Unary d t → Claim Mul d t
    unfolding Parse.mul
    run_unary c i ys e s = reach_loop (then_run _ (c i ys e s) (gives refl))

    run_lone : Claim Mul d t → Claim Shift d t
    unfolding Parse.shift
    run_lone c i ys e s = reach_loop (then_run _ (mul_ends d t c i ys e s) (gives refl))

    run_up : Claim Shift d t → Claim Add d t
    unfolding Parse.add
    run_up c i ys e s = reach_loop (then_run _ (shift_ends d t c i ys e s) (gives refl))

    module _ (u : Tree) where
      run_call : (w : List ℕ) → (strict ≡ true → is_variable t ≡ true) → Claim Basic d t → Claim Args d u
          → ((ys : List Tok) → is_start (front (yield u ++ ys)) ≡ true) → Claim Basic d (call t w u)
      unfolding yield width front kind_of Parse.post Parse.open_by Parse.call_by
      run_call w q c v lead i ys e s =
          let e1 : From ts i (yield t ++ (sign Dot ∷ name w ∷ sign LParen ∷ (yield u ++ (sign RParen ∷ ys)))) = regroup e (simp append_assoc) in
          let a : From ts (i + width t) (sign Dot ∷ name w ∷ sign LParen ∷ (yield u ++ (sign RParen ∷ ys))) = after t e1 in
          let j : ℕ = i + width t + 1 + 1 in
          let no_paren : eqb (front (yield u ++ (sign RParen ∷ ys))) RParen ≡ false = start_case (λ x. eqb x RParen ≡ false) (front (yield u ++ (sign RParen ∷ ys))) (lead (sign RParen ∷ ys)) refl refl refl refl in
          reach_next (c i _ e1 refl) (eq-eqb _ Dot (sign_kind a)) (within_table a)
          (named_run _ (tail_of a) (λ b.
          rw (sign_kind b, ap (λ (x : ℕ). eqb x RParen) (kind_of_lem (tail_of b)) ∙ no_paren)
          (then_run _ (reach_end (v (j + 1) _ (tail_of b) (refl, refl, refl, refl, refl) j refl) (ap (λ (x : ℕ). eqb x Comma) (sign_kind (after u (tail_of b)))))
          (end_in_run _ u _ (after u (tail_of b)) (λ _. call_ends w u (i + width t + 1) _ _ q (omega arith))))))
          (omega arith)

      run_more : Claim Args d t → WholeAt d u → Claim Args d (more t u)
      unfolding yield width front kind_of Parse.arg_step
      run_more c v i ys e s o q =
          let e1 : From ts i (yield t ++ (sign Comma ∷ (yield u ++ ys))) = regroup e (append_assoc (yield t) (sign Comma ∷ yield u) ys) in
          let a : From ts (i + width t) (sign Comma ∷ (yield u ++ ys)) = after t e1 in
          reach_next (c i _ e1 (refl, refl, refl, refl, refl) o q) (eq-eqb _ Comma (sign_kind a)) (within_table a)
          (then_run _ (v (i + width t) ys (tail_of a) s) (up_to (omega arith)))
          (omega arith)

      -- a ladder's next operand: operators isOp, operands p
      run_bin : (is_op : ℕ → Bool) (all : Out) (p : P) (k i : ℕ) (ys : List Tok) → is_op k ≡ true → From ts i ((yield t ++ (sign k ∷ yield u)) ++ ys)
          → (From ts i (yield t ++ (sign k ∷ (yield u ++ ys))) → Reach strict close ts all (λ r. is_op (kind_at ts r)) (Parse.bin_step ts (G d) p) t (i + width t))
          → ((j : ℕ) → From ts j (yield u ++ ys) → Gives strict close (p j) (ok u (j + width u)))
          → Reach strict close ts all (λ r. is_op (kind_at ts r)) (Parse.bin_step ts (G d) p) (bin k t u) (i + (width t + 1 + width u))
      unfolding Parse.bin_step
      run_bin is_op all p k i ys b e c v =
          let e1 : From ts i (yield t ++ (sign k ∷ (yield u ++ ys))) = regroup e (append_assoc (yield t) (sign k ∷ yield u) ys) in
          let a : From ts (i + width t) (sign k ∷ (yield u ++ ys)) = after t e1 in
          reach_next (c e1) (ap is_op (sign_kind a) ∙ b) (within_table a)
          (then_run _ (v (i + width t + 1) (tail_of a)) (ap (λ (x : ℕ). ok (bin x t u) (i + width t + 1 + width u)) (sign_kind a) ▹ up_to (omega arith)))
          (omega arith)

      run_mul : (k : ℕ) → is_mul k ≡ true → Claim Mul d t → Claim Unary d u → Claim Mul d (bin k t u)
      unfolding yield width front kind_of
      run_mul k b c v i ys e s = run_bin is_mul (Parse.mul ts (G d) i) (Parse.unary ts (G d)) k i ys b e (λ e1. c i _ e1 (mul_stops k b)) (λ j a. v j ys a s)

      run_shift : (k : ℕ) → is_shift k ≡ true → Claim Shift d t → Claim Mul d u → Claim Shift d (bin k t u)
      unfolding yield width front kind_of
      run_shift k b c v i ys e s = run_bin is_shift (Parse.shift ts (G d) i) (Parse.mul ts (G d)) k i ys b e (λ e1. c i _ e1 (shift_stops k b)) (λ j a. mul_ends d u v j ys a s)

      run_add : (k : ℕ) → is_add k ≡ true → Claim Add d t → Claim Mul d u → Claim Add d (bin k t u)
      unfolding yield width front kind_of
      run_add k b c v i ys e s = run_bin is_add (Parse.add ts (G d) i) (Parse.mul ts (G d)) k i ys b e (λ e1. c i _ e1 (add_stops k b)) (λ j a. mul_ends d u v j ys a (s.0, s.1, s.2))

  expr_ends : (d : ℕ) (t : Tree) → Claim Add d t → (i : ℕ) (ys : List Tok) → From ts i (yield t ++ ys) → Stop Args (front ys)
      → Gives strict close (Parse.expr ts d i) (ok t (i + width t))
  unfolding Parse.expr
  expr_ends d t c i ys e s = add_ends d t c i ys e s

  -- ---- lists of things p up to a row of kind `stop`

  module _ (stop also : ℕ) (p : P) where
    list_nil : (i : ℕ) → ListReach stop also p i none
    unfolding Parse.list_to width
    list_nil i = reach_at (omega arith) (reach_loop (gives refl))

    list_snoc : (i : ℕ) (l s : Tree) (ys : List Tok) → From ts i ((yield l ++ yield s) ++ ys)
        → (From ts i (yield l ++ (yield s ++ ys)) → ListReach stop also p i l)
        → (From ts (i + width l) (yield s ++ ys) → Gives strict close (p (i + width l)) (ok s (i + width l + width s))) → eqb (front (yield s ++ ys)) stop ≡ false
        → 1 ≤ width s
        → ListReach stop also p i (seq l s)
    unfolding Parse.list_step width
    list_snoc i l s ys e c v lead w =
        let e1 : From ts i (yield l ++ (yield s ++ ys)) = regroup e (append_assoc (yield l) (yield s) ys) in
        let a : From ts (i + width l) (yield s ++ ys) = after l e1 in
        let h : i + width l < length ts = omega (arith, length-drop (i + width l) ts, ap length a.are, length-append (yield s) ys, yield_width s) in
        reach_at (omega arith)
        (reach_next (c e1) (ap not (ap (λ (x : ℕ). eqb x stop) (kind_of_lem a) ∙ lead)) h (then_run _ (or_run _ _ (v a)) (gives refl))
        (omega arith))

    list_ends : (i : ℕ) (l : Tree) (ys : List Tok) → From ts i (yield l ++ (sign stop ∷ ys)) → ListReach stop also p i l
        → Gives strict close (Parse.list_to ts stop also p i) (ok l (i + width l))
    list_ends i l ys e c = reach_end c (ap not (eq-eqb _ stop (sign_kind (after l e))))

  -- name `{` contents `}`, behind a keyword
  braced_ends : (also : ℕ) (p : P) (f : List ℕ → Tree → P) (i k : ℕ) (w : List ℕ) (l : Tree) (ys : List Tok)
      → From ts i ((sign k ∷ name w ∷ sign LBrace ∷ (yield l ++ (sign RBrace ∷ []))) ++ ys)
      → ((j : ℕ) → From ts j (yield l ++ (sign RBrace ∷ ys)) → ListReach RBrace also p j l)
      → Gives strict close (Parse.braced ts also p f i) (f w l (i + (3 + width l + 1)))
  unfolding Parse.braced
  braced_ends also p f i k w l ys e c =
      let e1 : From ts i (sign k ∷ name w ∷ sign LBrace ∷ (yield l ++ (sign RBrace ∷ ys))) = regroup e (simp append_assoc) in
      named_run _ (tail_of e1) (λ a. want_run _ a
      (λ b. then_run _ (list_ends RBrace also p (i + 1 + 1 + 1) l ys b (c (i + 1 + 1 + 1) b)) (gives (ap (f w l) (omega arith)))))

  -- ---- statements

  run_decl : (d k : ℕ) (w : List ℕ) (t : Tree) → is_declaring k ≡ true → Claim Add d t → Claim Stmt d (decl k w t)
  unfolding yield width front kind_of
  run_decl d k w t b c i ys e s =
      let e1 : From ts i (sign k ∷ name w ∷ sign Equals ∷ (yield t ++ (sign Semicolon ∷ ys))) = regroup e (simp append_assoc) in
      Cases.stmt_declaring ts d (Parse.body ts d) i (ap is_declaring (sign_kind e1) ∙ b)
      ▹ named_run _ (tail_of e1) (λ a. want_run _ a (λ f. then_run _ (expr_ends d t c (i + 1 + 1 + 1) _ f (refl, refl, refl, refl, refl))
      (end_run t _ (after t f) (λ _. ap (λ (x : ℕ). ok (decl x w t) (i + 1 + 1 + 1 + width t + 1)) (sign_kind e1) ▹ up_to (omega arith)))))

  run_ret : (d : ℕ) (t : Tree) → Claim Add d t → Claim Stmt d (ret t)
  unfolding yield width front kind_of
  run_ret d t c i ys e s =
      let e1 : From ts i (sign KeywordReturn ∷ (yield t ++ (sign Semicolon ∷ ys))) = regroup e (simp append_assoc) in
      Cases.stmt_returning ts d (Parse.body ts d) i (sign_kind e1)
      ▹ then_run _ (expr_ends d t c (i + 1) _ (tail_of e1) (refl, refl, refl, refl, refl))
      (end_run t _ (after t (tail_of e1)) (λ _. up_to (omega arith)))

  -- a statement that begins with an expression
  expression_first : (d : ℕ) (t : Tree) (i : ℕ) (ys : List Tok) → From ts i (yield t ++ ys) → is_start (front (yield t ++ ys)) ≡ true
      → Parse.stmt ts d (Parse.body ts d) i ≡ then (Parse.expr ts d i) (λ e j. Parse.assign_by ts d (Parse.body ts d) (is_assign (kind_at ts j)) e j)
  expression_first d t i ys e lead =
      let k : kind_at ts i ≡ front (yield t ++ ys) = kind_of_lem e in
      Cases.stmt_expression ts d (Parse.body ts d) i
      (ap is_declaring k ∙ start_case (λ x. is_declaring x ≡ false) (front (yield t ++ ys)) lead refl refl refl refl)
      (λ q. eqb-false _ KeywordReturn (start_case (λ x. eqb x KeywordReturn ≡ false) (front (yield t ++ ys)) lead refl refl refl refl) (sym k ∙ q))
      (λ q. eqb-false _ KeywordIf (start_case (λ x. eqb x KeywordIf ≡ false) (front (yield t ++ ys)) lead refl refl refl refl) (sym k ∙ q))

  run_plain : (d : ℕ) (t : Tree) → Claim Add d t → ((ys : List Tok) → is_start (front (yield t ++ ys)) ≡ true) → Claim Stmt d (plain t)
  unfolding yield width front kind_of
  run_plain d t c lead i ys e s =
      let e1 : From ts i (yield t ++ (sign Semicolon ∷ ys)) = regroup e (append_assoc (yield t) (sign Semicolon ∷ []) ys) in
      let a : From ts (i + width t) (sign Semicolon ∷ ys) = after t e1 in
      expression_first d t i _ e1 (lead _)
      ▹ then_run _ (expr_ends d t c i _ e1 (refl, refl, refl, refl, refl))
      (Cases.assign_no ts d (Parse.body ts d) t (i + width t) (ap is_assign (sign_kind a)) ▹ end_in_run _ t _ a (λ _. up_to (omega arith)))

  run_assign : (d k : ℕ) (t u : Tree) → is_assign k ≡ true → Claim Add d t → Claim Add d u → ((ys : List Tok) → is_start (front (yield t ++ ys)) ≡ true) → Claim Stmt d (assign k t u)
  unfolding yield width front kind_of
  run_assign d k t u b c v lead i ys e s =
      let e1 : From ts i (yield t ++ (sign k ∷ (yield u ++ (sign Semicolon ∷ ys)))) = regroup e (simp append_assoc) in
      let a : From ts (i + width t) (sign k ∷ (yield u ++ (sign Semicolon ∷ ys))) = after t e1 in
      expression_first d t i _ e1 (lead _)
      ▹ then_run _ (expr_ends d t c i _ e1 (assign_stops k b))
      (Cases.assign_yes ts d (Parse.body ts d) t (i + width t) (ap is_assign (sign_kind a) ∙ b)
      ▹ then_run _ (expr_ends d u v (i + width t + 1) _ (tail_of a) (refl, refl, refl, refl, refl))
      (end_run u _ (after u (tail_of a))
      (λ _. ap (λ (x : ℕ). ok (assign x t u) (i + width t + 1 + width u + 1)) (sign_kind a) ▹ up_to (omega arith))))

  body_at : (n d : ℕ) (l : Tree) → Fits (suc n) d → ((d : ℕ) → Fits n d → Claim Stmts d l) → BodyAt d l
  unfolding Parse.body front kind_of
  body_at n zero l f c o ys e = too_deep n o f refl
  body_at n (suc d) l f c o ys e =
      then_run _ (list_ends RBrace body_things (Parse.stmt ts d (Parse.body ts d)) (o + 1) l ys (tail_of e)
      (c d (fits_under n d f) (o + 1) _ (tail_of e) refl)) (gives refl)

  -- behind `if guard ( name )`
  guard_run : (d : ℕ) (w : List ℕ) (i : ℕ) (ys : List Tok) (o : Out)
      → From ts i (sign KeywordIf ∷ sign KeywordGuard ∷ sign LParen ∷ name w ∷ sign RParen ∷ ys)
      → (From ts (i + 1 + 1 + 1 + 1 + 1) ys → Gives strict close (Parse.bodies ts d (Parse.body ts d) w (i + 1 + 1 + 1 + 1 + 1)) o)
      → Gives strict close (Parse.stmt ts d (Parse.body ts d) i) o
  guard_run d w i ys o e h =
      Cases.stmt_branching ts d (Parse.body ts d) i (sign_kind e) ▹ want_run _ (tail_of e) (λ a. want_run _ a (λ b. named_run _ b (λ c. want_run _ c h)))

  run_if : (d : ℕ) (w : List ℕ) (l : Tree) → BodyAt d l → Claim Stmt d (guard w (then_body l) none)
  unfolding yield width Parse.bodies
  run_if d w l c i ys e s =
      let e1 : From ts i (sign KeywordIf ∷ sign KeywordGuard ∷ sign LParen ∷ name w ∷ sign RParen ∷ sign LBrace ∷ (yield l ++ (sign RBrace ∷ ys))) = regroup e (simp append_assoc) in
      guard_run d w i _ _ e1 (λ a.
      then_run _ (need_run _ a (c _ ys a))
      (Cases.else_no ts d (Parse.body ts d) w (then_body l) _ (λ q. eqb-false _ KeywordElse s (sym (kind_of_lem (tail_of (after l (tail_of a)))) ∙ q))
      ▹ up_to (omega arith)))

  run_if_else : (d : ℕ) (w : List ℕ) (l r : Tree) → BodyAt d l → BodyAt d r → Claim Stmt d (guard w (then_body l) (else_body r))
  unfolding yield width Parse.bodies
  run_if_else d w l r c v i ys e s =
      let other : List Tok = sign KeywordElse ∷ sign LBrace ∷ (yield r ++ (sign RBrace ∷ ys)) in
      let e1 : From ts i (sign KeywordIf ∷ sign KeywordGuard ∷ sign LParen ∷ name w ∷ sign RParen ∷ sign LBrace ∷ (yield l ++ (sign RBrace ∷ other))) = regroup e (simp append_assoc) in
      guard_run d w i _ _ e1 (λ a.
      let f : From ts (i + 1 + 1 + 1 + 1 + 1 + 1 + width l + 1) (sign KeywordElse ∷ sign LBrace ∷ (yield r ++ (sign RBrace ∷ ys))) = tail_of (after l (tail_of a)) in
      then_run _ (need_run _ a (c _ _ a))
      (Cases.else_yes ts d (Parse.body ts d) w (then_body l) _ (sign_kind f) ▹ then_run _ (need_run _ (tail_of f) (v _ ys (tail_of f))) (up_to (omega arith))))

  -- ---- units

  run_stmt : (d : ℕ) (t : Tree) → Claim Stmt d t → ((ys : List Tok) → is_text (front (yield t ++ ys)) ≡ false) → Claim Item d t
  run_stmt d t c lead i ys e s q =
      Cases.item_stmt ts i (ap is_text (kind_of_lem e) ∙ lead ys)
      ▹ subst (λ (x : ℕ). Gives strict close (Parse.stmt ts x (Parse.body ts x) i) (ok t (i + width t))) q (c i ys e s)

  run_text : (d k : ℕ) (w : List ℕ) → is_text k ≡ true → Claim Item d (text k w)
  unfolding yield width
  run_text d k w b i ys e s q =
      Cases.item_text ts i (ap is_text (sign_kind e) ∙ b)
      ▹ quoted_run _ (tail_of e) (λ a. want_run _ a (λ _. ap (λ (x : ℕ). ok (text x w) (i + 1 + 1 + 1)) (sign_kind e) ▹ up_to (omega arith)))

  run_unit : (d : ℕ) (w : List ℕ) (l : Tree) → Claim Items d l → Claim Decl d (unit w l)
  unfolding yield width front kind_of Parse.unit_at
  run_unit d w l c i ys e s q =
      Cases.top_unit ts i (sign_kind e) ▹ braced_ends unit_things (Parse.item ts) (λ w l k. ok (unit w l) k) i KeywordUnit w l ys e
      (λ j a. c j _ a refl q)

  -- ---- maps

  run_first : (d v : ℕ) → Claim Chain d (first v)
  unfolding yield width Parse.chain
  run_first d v i ys e s = reach_loop (valued_run _ e (λ _. gives refl))

  run_shifted : (d k v : ℕ) (t : Tree) → is_shift k ≡ true → (strict ≡ true → leb v 63 ≡ true) → Claim Chain d t → Claim Chain d (shifted k t v)
  unfolding yield width Parse.chain_step is_check
  run_shifted d k v t b q c i ys e s =
      let e1 : From ts i (yield t ++ (sign k ∷ value v ∷ ys)) = regroup e (append_assoc (yield t) (sign k ∷ value v ∷ []) ys) in
      let a : From ts (i + width t) (sign k ∷ value v ∷ ys) = after t e1 in
      reach_next (c i _ e1 tt) (ap is_shift (sign_kind a) ∙ b) (within_table a)
      (valued_run _ (tail_of a) (λ _. passes (leb v 63) q
      (λ h. Cases.count_yes ts t (i + width t) v (i + width t + 1 + 1) h
      ▹ ap (λ (x : ℕ). ok (shifted x t v) (i + width t + 1 + 1)) (sign_kind a) ▹ up_to (omega arith))
      (λ h. subst Checked (sym (Cases.count_no ts t (i + width t) v (i + width t + 1 + 1) h)) refl)))
      (omega arith)

  run_type : (d : ℕ) (w : List ℕ) → (strict ≡ true → not (eqb (map_type_number w) 0) ≡ true) → Claim MapField d (map_type w)
  unfolding yield width is_check
  run_type d w q i ys e s =
      Cases.field_typing ts i (sign_kind e)
      ▹ want_run _ (tail_of e) (λ a. want_run _ a (λ f. named_run _ f (λ h. passes (not (eqb (map_type_number w) 0)) q
      (λ b. Cases.type_known ts w (i + 1 + 1 + 1 + 1) (eqb-false (map_type_number w) 0 (not-true (eqb (map_type_number w) 0) b))
      ▹ want_run _ h (λ _. up_to (omega arith)))
      (λ b. subst Checked (sym (Cases.type_unknown ts w (i + 1 + 1 + 1 + 1) (eqb-true (map_type_number w) 0 (not-false (eqb (map_type_number w) 0) b)))) refl))))

  run_typed : (d k t : ℕ) → is_typed k ≡ true → is_type t ≡ true → Claim MapField d (typed k t)
  unfolding yield width
  run_typed d k t b c i ys e s =
      Cases.field_keying ts i (ap is_typed (sign_kind e) ∙ b)
      ▹ want_run _ (tail_of e) (λ a.
      Cases.key_yes ts (kind_at ts i) (i + 1 + 1) (ap is_type (sign_kind a) ∙ c)
      ▹ want_run _ (tail_of a) (λ _. ap (λ (x : ℕ). ok (typed x (kind_at ts (i + 1 + 1))) (i + 1 + 1 + 1 + 1)) (sign_kind e)
      ▹ ap (λ (x : ℕ). ok (typed k x) (i + 1 + 1 + 1 + 1)) (sign_kind a) ▹ up_to (omega arith)))

  -- the end of a chain at row k, where its checks pass
  limit_ends : (t : Tree) (k j : ℕ) (ys : List Tok) → (strict ≡ true → not (leb (2 ^ 63) (max_bits t)) && leb (max_bits t) most32 ≡ true)
      → From ts k (sign Semicolon ∷ ys) → k + 1 ≡ j
      → Gives strict close (Parse.limit_by ts (leb (2 ^ 63) (max_bits t)) (not (leb (max_bits t) most32)) t k) (ok (limit t) j)
  unfolding is_check
  limit_ends t k j ys q e f =
      passes (not (leb (2 ^ 63) (max_bits t))) (λ z. ((and-eq-true_iff (not (leb (2 ^ 63) (max_bits t))) (leb (max_bits t) most32)).0 (q z)).0)
      (λ a. passes (leb (max_bits t) most32) (λ z. ((and-eq-true_iff (not (leb (2 ^ 63) (max_bits t))) (leb (max_bits t) most32)).0 (q z)).1)
      (λ b. Cases.limit_fine ts t k (not-true (leb (2 ^ 63) (max_bits t)) a) b ▹ want_in_run _ _ e (λ _. up_to f))
      (λ b. subst Checked (sym (Cases.limit_large ts t k (not-true (leb (2 ^ 63) (max_bits t)) a) b)) refl))
      (λ a. subst Checked (sym (Cases.limit_negative ts t k (not-false (leb (2 ^ 63) (max_bits t)) a))) refl)

  run_limit : (d : ℕ) (t : Tree) → (strict ≡ true → not (leb (2 ^ 63) (max_bits t)) && leb (max_bits t) most32 ≡ true) → Claim Chain d t → Claim MapField d (limit t)
  unfolding yield width front kind_of
  run_limit d t q c i ys e s =
      let e1 : From ts i (sign KeywordMax ∷ sign Colon ∷ (yield t ++ (sign Semicolon ∷ ys))) = regroup e (simp append_assoc) in
      Cases.field_limiting ts i (sign_kind e1)
      ▹ want_run _ (tail_of e1) (λ a.
      then_run _ (reach_end (c (i + 1 + 1) _ a tt) (ap is_shift (sign_kind (after t a)))) (limit_ends t (i + 1 + 1 + width t) _ ys q (after t a) (omega arith)))

  run_map : (d : ℕ) (w : List ℕ) (l : Tree)
      → (strict ≡ true → eqb (lacking (type_of l) (typed_by KeywordKey l) (typed_by KeywordValue l) (limit_of l)) 0 ≡ true) → Claim MapFields d l
      → Claim Decl d (map_decl w l)
  unfolding yield width front kind_of Parse.map_at is_check
  run_map d w l b c i ys e s q =
      let f : ℕ = lacking (type_of l) (typed_by KeywordKey l) (typed_by KeywordValue l) (limit_of l) in
      Cases.top_map ts i (sign_kind e)
      ▹ leads
      (braced_ends map_fields (Parse.map_field ts)
      (λ w l k. Parse.map_end ts (lacking (type_of l) (typed_by KeywordKey l) (typed_by KeywordValue l) (limit_of l)) w l k) i KeywordMap w l ys e (λ j a. c j _ a tt))
      (passes (eqb f 0) b (λ h. gives (Cases.map_end_whole ts w l (i + (3 + width l + 1)) f (eqb-true f 0 h)))
      (λ h. subst Checked (sym (Cases.map_end_lacks ts w l (i + (3 + width l + 1)) f (eqb-false f 0 h))) refl))

  -- ---- events

  -- a length at row k, `]` and `;`
  length_run : (f : ℕ → Tree) (k v : ℕ) (ys : List Tok) → (strict ≡ true → leb v most32 ≡ true) → From ts k (value v ∷ sign RBracket ∷ sign Semicolon ∷ ys)
      → Gives strict close (Parse.length_at ts f k) (ok (f v) (k + 1 + 1 + 1))
  unfolding Parse.length_at is_check
  length_run f k v ys q e =
      valued_run _ e (λ a. passes (leb v most32) q
      (λ b. Cases.length_yes ts f v k (k + 1) b ▹ want_run _ a (λ h. want_run _ h (λ _. gives refl)))
      (λ b. subst Checked (sym (Cases.length_no ts f v k (k + 1) b)) refl))

  not_bracket : (i k : ℕ) (ys : List Tok) → From ts i (sign k ∷ ys) → eqb k LBracket ≡ false → kind_at ts i ≡ LBracket → ⊥
  not_bracket i k ys e b q = eqb-false k LBracket b (sym (sign_kind e) ∙ q)

  run_plain_field : (d : ℕ) (w : List ℕ) (t : ℕ) → is_type t ≡ true → Claim EventField d (plain_field w t)
  unfolding yield width Parse.event_field
  run_plain_field d w t b i ys e s =
      named_run _ e (λ a. want_run _ a (λ c.
      Cases.event_type ts w (i + 1 + 1) (ap is_type (sign_kind c) ∙ b)
      ▹ Cases.array_no ts w (i + 1 + 1) (not_bracket (i + 1 + 1 + 1) Semicolon ys (tail_of c) refl)
      ▹ want_in_run _ _ (tail_of c) (λ _. ap (λ (x : ℕ). ok (plain_field w x) (i + 1 + 1 + 1 + 1)) (sign_kind c) ▹ up_to (omega arith))))

  run_bytes_field : (d : ℕ) (w : List ℕ) (v : ℕ) → (strict ≡ true → leb v most32 ≡ true) → Claim EventField d (bytes_field w v)
  unfolding yield width Parse.event_field
  run_bytes_field d w v b i ys e s =
      named_run _ e (λ a. want_run _ a (λ c.
      Cases.event_bytes ts w (i + 1 + 1) (sign_kind c) ▹ want_run _ (tail_of c)
      (λ h. leads (length_run (λ v. bytes_field w v) (i + 1 + 1 + 1 + 1) v ys b h) (up_to (omega arith)))))

  run_array_field : (d : ℕ) (w : List ℕ) (t v : ℕ) → is_type t ≡ true → (strict ≡ true → leb v most32 ≡ true) → Claim EventField d (array_field w t v)
  unfolding yield width Parse.event_field
  run_array_field d w t v b q i ys e s =
      named_run _ e (λ a. want_run _ a (λ c.
      Cases.event_type ts w (i + 1 + 1) (ap is_type (sign_kind c) ∙ b)
      ▹ Cases.array_yes ts w (i + 1 + 1) (sign_kind (tail_of c))
      ▹ leads (length_run (λ v. array_field w (kind_at ts (i + 1 + 1)) v) (i + 1 + 1 + 1 + 1) v ys q (tail_of (tail_of c)))
      (ap (λ (x : ℕ). ok (array_field w x v) (i + 1 + 1 + 1 + 1 + 1 + 1 + 1)) (sign_kind c) ▹ up_to (omega arith))))

  run_event : (d : ℕ) (w : List ℕ) (l : Tree) → Claim EventFields d l → Claim Decl d (event w l)
  unfolding yield width front kind_of Parse.event_at
  run_event d w l c i ys e s q =
      Cases.top_event ts i (sign_kind e) ▹ braced_ends event_fields (Parse.event_field ts) (λ w l k. ok (event w l) k) i KeywordEvent w l ys e
      (λ j a. c j _ a tt)

  -- ---- programs

  run_program : (d : ℕ) (l : Tree) → Claim Decls d l → Claim Program d (program l)
  unfolding yield width front kind_of Parse.parse
  run_program d l c i ys e s q z =
      let e1 : From ts 0 (yield l ++ (sign Eof ∷ ys)) = regroup (subst (λ (n : ℕ). From ts n ((yield l ++ (sign Eof ∷ [])) ++ ys)) z e) (append_assoc (yield l) (sign Eof ∷ []) ys) in
      then_run _ (list_ends Eof tops (Parse.top ts) 0 l ys e1 (c 0 _ e1 tt q)) (up_to (omega arith))

  -- ---- every tree of the grammar

  -- the constructs that are open in front of a tree with n of them open inside: arguments stand in the parentheses of their call
  abbrev outer : Nt → ℕ → ℕ
  outer Add n = n
  outer Shift n = n
  outer Mul n = n
  outer Unary n = n
  outer Basic n = n
  outer Args n = suc n
  outer Stmt n = n
  outer Stmts n = n
  outer Item n = n
  outer Items n = n
  outer Chain n = n
  outer MapField n = n
  outer MapFields n = n
  outer EventField n = n
  outer EventFields n = n
  outer Decl n = n
  outer Decls n = n
  outer Program n = n

  run : {N : Nt} {n : ℕ} {t : Tree} → Is strict N n t → (d : ℕ) → Fits (outer N n) d → Claim N d t
  unfolding yield
  run (i_num {v = v}) d f = run_num d v
  run (i_var {w = w}) d f = run_var d w
  run (i_group {d = n} {t} h) d f = run_group d t (whole_at n t d f (run h))
  run (i_field {t = t} {w} h) d f = run_field d t w (run h d f)
  run (i_bare {t = t} {w} h q) d f = run_bare d t w q (run h d f)
  run (i_call {t = t} {a} {w} h q v) d f = run_call d t a w q (run h d f) (run v d f) (opens v)
  run (i_one {d = n} {t} h) d f = run_one d t (whole_at n t d f (run h))
  run (i_more {d = n} {a} {t} h v) d f = run_more d a t (run h d f) (whole_at n t d f (run v))
  run (i_prim {t = t} h) d f = run_prim d t (run h d f) (opens h)
  run (i_star {d = n} {t} h) d f = run_star d t (operand_at n t d f (run h))
  run (i_unary {t = t} h) d f = run_unary d t (run h d f)
  run (i_mul {k = k} {l} {r} h b v) d f = run_mul d l r k b (run h d f) (run v d f)
  run (i_lone {t = t} h) d f = run_lone d t (run h d f)
  run (i_shift {k = k} {l} {r} h b v) d f = run_shift d l r k b (run h d f) (run v d f)
  run (i_up {t = t} h) d f = run_up d t (run h d f)
  run (i_add {k = k} {l} {r} h b v) d f = run_add d l r k b (run h d f) (run v d f)
  run (i_decl {k = k} {w} {e = t} b h) d f = run_decl d k w t b (run h d f)
  run (i_ret {e = t} h) d f = run_ret d t (run h d f)
  run (i_plain {e = t} h) d f = run_plain d t (run h d f) (opens h)
  run (i_assign {k = k} {l} {r} b h v) d f = run_assign d k l r b (run h d f) (run v d f) (opens h)
  run (i_if {d = n} {w} {b} h) d f = run_if d w b (body_at n d b f (run h))
  run (i_if_else {d = n} {w} {b} {e} h v) d f = run_if_else d w b e (body_at n d b f (run h)) (body_at n d e f (run v))
  run i_no_stmts d f = λ i ys e s. list_nil RBrace body_things (Parse.stmt ts d (Parse.body ts d)) i
  run (i_stmts {l = l} {s = t} h v) d f = λ i ys e s.
      list_snoc RBrace body_things (Parse.stmt ts d (Parse.body ts d)) i l t ys e (λ a. run h d f i (yield t ++ ys) a (opens v ys).1)
      (λ a. run v d f (i + width l) ys a s)
      (opens v ys).0 (is_wide v)
  run (i_stmt {s = t} h) d f = run_stmt d t (run h d f) (λ ys. (opens h ys).2)
  run (i_text {k = k} {w} b) d f = run_text d k w b
  run i_no_items d f = λ i ys e s q. list_nil RBrace unit_things (Parse.item ts) i
  run (i_items {l = l} {s = t} h v) d f = λ i ys e s q.
      list_snoc RBrace unit_things (Parse.item ts) i l t ys e (λ a. run h d f i (yield t ++ ys) a (opens v ys).1 q)
      (λ a. run v d f (i + width l) ys a s q) (opens v ys).0
      (is_wide v)
  run (i_first {v = v}) d f = run_first d v
  run (i_shifted {k = k} {v} {c} h b q) d f = run_shifted d k v c b q (run h d f)
  run (i_type {w = w} q) d f = run_type d w q
  run (i_typed {k = k} {t} b c) d f = run_typed d k t b c
  run (i_limit {c = c} h q) d f = run_limit d c q (run h d f)
  run i_no_fields d f = λ i ys e s. list_nil RBrace map_fields (Parse.map_field ts) i
  run (i_fields {l = l} {s = t} h v) d f = λ i ys e s.
      list_snoc RBrace map_fields (Parse.map_field ts) i l t ys e (λ a. run h d f i (yield t ++ ys) a tt)
      (λ a. run v d f (i + width l) ys a s) (opens v ys) (is_wide v)
  run (i_plain_field {t = t} {w} b) d f = run_plain_field d w t b
  run (i_bytes_field {v = v} {w} q) d f = run_bytes_field d w v q
  run (i_array_field {t = t} {v} {w} b q) d f = run_array_field d w t v b q
  run i_no_event_fields d f = λ i ys e s. list_nil RBrace event_fields (Parse.event_field ts) i
  run (i_event_fields {l = l} {s = t} h v) d f = λ i ys e s.
      list_snoc RBrace event_fields (Parse.event_field ts) i l t ys e (λ a. run h d f i (yield t ++ ys) a tt)
      (λ a. run v d f (i + width l) ys a s) (opens v ys) (is_wide v)
  run (i_unit {w = w} {l} h) d f = run_unit d w l (run h d f)
  run (i_map {w = w} {l} h q) d f = run_map d w l q (run h d f)
  run (i_event {w = w} {l} h) d f = run_event d w l (run h d f)
  run i_no_decls d f = λ i ys e s q. list_nil Eof tops (Parse.top ts) i
  run (i_decls {l = l} {s = t} h v) d f = λ i ys e s q.
      list_snoc Eof tops (Parse.top ts) i l t ys e (λ a. run h d f i (yield t ++ ys) a tt q) (λ a. run v d f (i + width l) ys a s q)
      (opens v ys) (is_wide v)
  run (i_program {l = l} h) d f = run_program d l (run h d f)

-- ---- the theorems

-- where the checks count, just what is expected
strictly : {o o' : Out} → Gives true true o o' → o ≡ o'
strictly (gives e) = e
strictly (checked s c) = absurd (true≢false s)
strictly (nested s c) = absurd (true≢false s)

module _ (ts : List Tok) where
  module _ (i : ℕ) (t : Tree) (ys : List Tok) (e : drop i ts ≡ yield t ++ ys) where
    pub expr_complete : (d : ℕ) → Is true Add d t → Stop Args (front ys) → Parse.expr ts d i ≡ ok t (i + width t)
    expr_complete d h s = strictly (expr_ends true true ts d t (run true true ts h d (λ q. omega arith)) i ys (record { are = e }) s)

    -- a statement, where no `else` follows
    pub stmt_complete : (d : ℕ) → Is true Stmt d t → Stop Stmt (front ys) → Parse.stmt ts d (Parse.body ts d) i ≡ ok t (i + width t)
    stmt_complete d h s = strictly (run true true ts h d (λ q. omega arith) i ys (record { are = e }) s)

    pub item_complete : Is true Item 64 t → Stop Item (front ys) → Parse.item ts i ≡ ok t (i + width t)
    item_complete h s = strictly (run true true ts h 64 (λ q. omega arith) i ys (record { are = e }) s refl)

    pub map_field_complete : (d : ℕ) → Is true MapField d t → Parse.map_field ts i ≡ ok t (i + width t)
    map_field_complete d h = strictly (run true true ts h d (λ q. omega arith) i ys (record { are = e }) tt)

    pub event_field_complete : (d : ℕ) → Is true EventField d t → Parse.event_field ts i ≡ ok t (i + width t)
    event_field_complete d h = strictly (run true true ts h d (λ q. omega arith) i ys (record { are = e }) tt)

    -- a declaration, whatever follows
    pub top_complete : Is true Decl 64 t → Parse.top ts i ≡ ok t (i + width t)
    top_complete h = strictly (run true true ts h 64 (λ q. omega arith) i ys (record { are = e }) tt refl)

  -- a program, whatever stands behind its Eof
  pub program_complete : (t : Tree) (ys : List Tok) → ts ≡ yield t ++ ys → Is true Program 64 t → Parse.parse ts ≡ ok t (width t)
  program_complete t ys e h = strictly (run true true ts h 64 (λ q. omega arith) 0 ys (record { are = e }) tt refl refl)

  -- the same with the checks or the nesting left aside or not: the program is given, or refused by what is left aside
  pub program_given : (strict close : Bool) (n : ℕ) (t : Tree) (ys : List Tok) → ts ≡ yield t ++ ys → Is strict Program n t → (close ≡ true → n ≤ 64)
      → Gives strict close (Parse.parse ts) (ok t (width t))
  program_given strict close n t ys e h f = run strict close ts h 64 f 0 ys (record { are = e }) tt refl refl

-- The theorem: every program of the grammar, within the nesting and the checks, is what the parser gives on its tokens.
pub parse_complete : (t : Tree) → Is true Program 64 t → Parse.parse (yield t) ≡ ok t (width t)
parse_complete t h = program_complete (yield t) t [] (sym (append-nil (yield t))) h
