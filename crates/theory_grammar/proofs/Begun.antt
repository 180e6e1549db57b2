-- What was read of a tree up to a row, completed by the least that closes it. Where the checks count, a map gets the fields that it lacks,
-- a `max` is shifted to 0, and of a call on no variable only its dot and name are taken.
use mathlib.Core.Path.{◌≡◌, refl, sym, ap, ◌∙◌, subst}
use mathlib.Core.Bool.{Bool, true, false, not, ◌&&◌, ◌||◌, true≢false}
use mathlib.Core.List.{List, [], ◌∷◌, ◌++◌, append_assoc, append-nil}
use Prim.Native.Nat.{ℕ, zero, suc, ◌+◌, ◌-◌, ◌*◌, ◌/◌, ◌%◌, ◌^◌, ◌≤◌}
use native.Mathlib.Nat.{div-add-mod'}
use native.Mathlib.Omega.{arith}
use lib.Arith.{digits_mod}
use lib.Dec.{eqb, leb}
use lib.ListN.{length}
use Rattle.rules.specs.declared.Syntax.{Syntax}
use Rattle.rules.specs.declared.Syntax.TheVariants.{CallOnOther}
use Rattle.rules.specs.Kinds.{kind_in, same_bytes, KeywordKey, KeywordValue, KeywordElse, KeywordGuard, LBrace, RBrace, LParen, RParen, Dot, Semicolon, Equals, Shl, Identifier, StringLiteral, Number, Eof}
use Rattle.rules.specs.Tree.{Tok, sign, Tree, num, then_body, seq, map_type, typed, limit, first, shifted, map_decl, yield, map_types, map_type_number, shift_bits, max_bits, type_of, typed_by, limit_of, lacking}
use Rattle.rules.specs.Parse
use Rattle.rules.specs.Parse.{Out, ok, P, then, is_assign, is_text, most32, StmtLead, declaring, returning, branching, expression, stmt_lead, kind_at}
use Rattle.rules.specs.Fits.{has, set_told}
use Rattle.rules.specs.Grammar.{Nt, Add, Shift, Mul, Unary, Basic, Args, Stmt, Stmts, Item, Items, Chain, MapField, MapFields, EventField, EventFields, Decl, Decls, Program, Is, i_num, i_var, i_group, i_field, i_bare, i_call, i_one, i_more, i_prim, i_star, i_unary, i_mul, i_lone, i_shift, i_up, i_add, i_decl, i_ret, i_plain, i_assign, i_if, i_if_else, i_no_stmts, i_stmts, i_stmt, i_text, i_no_items, i_items, i_first, i_shifted, i_type, i_typed, i_limit, i_no_fields, i_fields, i_plain_field, i_bytes_field, i_array_field, i_no_event_fields, i_event_fields, i_unit, i_map, i_event, i_no_decls, i_decls, i_program}
use Rattle.theory_grammar.specs.Lost.{is_misfit, is_check, lost, LostAt, own, around}
use Rattle.theory_grammar.proofs.Laws.{here}
use Rattle.theory_grammar.proofs.Runs.{Run, is_mark, row, ◌▸◌, All, all_any, then_all, map_all, want_all, end_in_all, end_all, need_all, named_all, quoted_all}
use Rattle.theory_grammar.proofs.Sound.{BodyUnder, body_sound}
use Rattle.theory_grammar.proofs.Grow.{heads, heads_more}

-- ---- a program is one with the checks left aside, and within a deeper nesting

-- the nesting d, or where it may be one deeper (x)
abbrev pub over : Bool → ℕ → ℕ
over true d = suc d
over false d = d

outward : {b : Bool} {N : Nt} {t : Tree} (x : Bool) (d : ℕ) → Is b N (suc (over x d)) t → Is b N (over x (suc d)) t
outward true d h = h
outward false d h = h

inward : {b : Bool} {N : Nt} {t : Tree} (x : Bool) (d : ℕ) → Is b N (over x (suc d)) t → Is b N (suc (over x d)) t
inward true d h = h
inward false d h = h

pub lax : {b : Bool} {N : Nt} {d : ℕ} {t : Tree} (x : Bool) → Is true N d t → Is b N (over x d) t
lax x i_num = i_num
lax x i_var = i_var
lax x (i_group {d = d} h) = outward x d (i_group (lax x h))
lax x (i_field h) = i_field (lax x h)
lax x (i_bare h q) = i_bare (lax x h) (λ _. q refl)
lax x (i_call {d = d} h q a) = outward x d (i_call (inward x d (lax x h)) (λ _. q refl) (lax x a))
lax x (i_one h) = i_one (lax x h)
lax x (i_more a h) = i_more (lax x a) (lax x h)
lax x (i_prim h) = i_prim (lax x h)
lax x (i_star {d = d} h) = outward x d (i_star (lax x h))
lax x (i_unary h) = i_unary (lax x h)
lax x (i_mul l b r) = i_mul (lax x l) b (lax x r)
lax x (i_lone h) = i_lone (lax x h)
lax x (i_shift l b r) = i_shift (lax x l) b (lax x r)
lax x (i_up h) = i_up (lax x h)
lax x (i_add l b r) = i_add (lax x l) b (lax x r)
lax x (i_decl b h) = i_decl b (lax x h)
lax x (i_ret h) = i_ret (lax x h)
lax x (i_plain h) = i_plain (lax x h)
lax x (i_assign b l r) = i_assign b (lax x l) (lax x r)
lax x (i_if {d = d} h) = outward x d (i_if (lax x h))
lax x (i_if_else {d = d} b e) = outward x d (i_if_else (lax x b) (lax x e))
lax x i_no_stmts = i_no_stmts
lax x (i_stmts l h) = i_stmts (lax x l) (lax x h)
lax x (i_stmt h) = i_stmt (lax x h)
lax x (i_text b) = i_text b
lax x i_no_items = i_no_items
lax x (i_items l h) = i_items (lax x l) (lax x h)
lax x i_first = i_first
lax x (i_shifted c b q) = i_shifted (lax x c) b (λ _. q refl)
lax x (i_type q) = i_type (λ _. q refl)
lax x (i_typed b c) = i_typed b c
lax x (i_limit c q) = i_limit (lax x c) (λ _. q refl)
lax x i_no_fields = i_no_fields
lax x (i_fields l h) = i_fields (lax x l) (lax x h)
lax x (i_plain_field b) = i_plain_field b
lax x (i_bytes_field q) = i_bytes_field (λ _. q refl)
lax x (i_array_field b q) = i_array_field b (λ _. q refl)
lax x i_no_event_fields = i_no_event_fields
lax x (i_event_fields l h) = i_event_fields (lax x l) (lax x h)
lax x (i_unit h) = i_unit (lax x h)
lax x (i_map h q) = i_map (lax x h) (λ _. q refl)
lax x (i_event h) = i_event (lax x h)
lax x i_no_decls = i_no_decls
lax x (i_decls l h) = i_decls (lax x l) (lax x h)
lax x (i_program h) = i_program (lax x h)

-- one construct around a tree, where d of them are left and one of these is taken
module _ {b : Bool} {N : Nt} {t : Tree} (x : Bool) (d d' : ℕ) (e : d ≡ suc d') where
  pub around_it : Is b N (suc (over x d')) t → Is b N (over x d) t
  around_it h = subst (λ (n : ℕ). Is b N (over x n) t) (sym e) (outward x d' h)

  pub inside_it : Is b N (over x d) t → Is b N (suc (over x d')) t
  inside_it h = inward x d' (subst (λ (n : ℕ). Is b N (over x n) t) e h)

-- ---- what closes a map

-- a chain, shifted until nothing is left of its value
abbrev pub emptied : Tree → Tree
emptied c = shifted Shl (shifted Shl c 63) 1

shifts_out : (v : ℕ) → v * 2 ^ 63 % 2 ^ 64 * 2 ^ 1 % 2 ^ 64 ≡ 0
shifts_out v =
    ap (λ (n : ℕ). n % 2 ^ 64) (omega (arith, div-add-mod' (v * 2 ^ 63) (2 ^ 64)))
    ∙ digits_mod (v - 2 * (v * 2 ^ 63 / 2 ^ 64)) {m = 2 ^ 64} {r = 0} (omega arith)

empty_bits : (c : Tree) → max_bits (emptied c) ≡ 0
unfolding max_bits shift_bits
empty_bits c = shifts_out (max_bits c)

empty_fine : (c : Tree) → not (leb (2 ^ 63) (max_bits (emptied c))) && leb (max_bits (emptied c)) most32 ≡ true
empty_fine c = rw (empty_bits c)

pub i_emptied : {b : Bool} {d : ℕ} {c : Tree} → Is b Chain d c → Is b MapField d (limit (emptied c))
i_emptied {c = c} h = i_limit {c = emptied c} (i_shifted (i_shifted h refl (λ _. refl)) refl (λ _. refl)) (λ _. empty_fine c)

-- every field behind those of a map, so that none lacks
abbrev pub hash : List ℕ
hash = 104 ∷ 97 ∷ 115 ∷ 104 ∷ []

abbrev pub filled : Tree → Tree
filled l = seq (seq (seq (seq l (map_type hash)) (typed KeywordKey 21)) (typed KeywordValue 21)) (limit (first 0))

pub i_hash : {b : Bool} {d : ℕ} → Is b MapField d (map_type hash)
unfolding map_type_number map_types kind_in same_bytes
i_hash = i_type (λ _. refl)

pub i_filled : {b : Bool} {d : ℕ} {w : List ℕ} {l : Tree} → Is b MapFields d l → Is b Decl d (map_decl w (filled l))
unfolding type_of typed_by limit_of max_bits lacking map_type_number map_types kind_in same_bytes
i_filled h =
    i_map (i_fields (i_fields (i_fields (i_fields h i_hash) (i_typed refl refl)) (i_typed refl refl)) (i_limit i_first (λ _. refl)))
    (λ _. refl)

-- ---- what was read of a tree

-- what stands behind a list of the nonterminal
abbrev pub closed_by : Nt → List Tok
closed_by Add = []
closed_by Shift = []
closed_by Mul = []
closed_by Unary = []
closed_by Basic = []
closed_by Args = []
closed_by Stmt = []
closed_by Stmts = sign RBrace ∷ []
closed_by Item = []
closed_by Items = sign RBrace ∷ []
closed_by Chain = []
closed_by MapField = []
closed_by MapFields = sign RBrace ∷ []
closed_by EventField = []
closed_by EventFields = sign RBrace ∷ []
closed_by Decl = []
closed_by Decls = sign Eof ∷ []
closed_by Program = []

-- A tree of the nonterminal, the checks among its rules (b) and one deeper (x) or not, begins with the rows from i up to s. Where it may be
-- one deeper, a row of kind k comes next.
pub record Open (b x : Bool) (ts : List Tok) (N : Nt) (d i s k : ℕ) : Type 0 where
  pub tree : Tree
  pub is : Is b N (over x d) tree
  pub read : List Tok
  pub rest : List Tok
  pub spells : yield tree ≡ read ++ rest
  pub run : Run ts i read s
  pub next : x ≡ true → heads k (rest ++ closed_by N) ≡ true

pub fitting : {b x : Bool} {ts : List Tok} {N : Nt} {d i s : ℕ} {xs : List Tok} (k : ℕ) (t : Tree) → Is b N (over x d) t → (zs : List Tok)
    → yield t ≡ xs ++ zs
    → Run ts i xs s → heads k (zs ++ closed_by N) ≡ true → Open b x ts N d i s k
fitting {xs = xs} k t h zs e r n = record { tree = t; is = h; read = xs; rest = zs; spells = e; run = r; next = λ _. n }

-- whatever comes next
pub opened : {b : Bool} {ts : List Tok} {N : Nt} {d i s : ℕ} {xs : List Tok} (t : Tree) → Is b N d t → (zs : List Tok) → yield t ≡ xs ++ zs
    → Run ts i xs s → Open b false ts N d i s 0
opened {xs = xs} t h zs e r =
    record { tree = t; is = h; read = xs; rest = zs; spells = e; run = r; next = λ q. absurd (true≢false (sym q)) }

pub any_next : {b : Bool} {ts : List Tok} {N : Nt} {d i s k n : ℕ} → Open b false ts N d i s k → Open b false ts N d i s n
any_next o = record {
  tree = o.tree;
  is = o.is;
  read = o.read;
  rest = o.rest;
  spells = o.spells;
  run = o.run;
  next = λ q. absurd (true≢false (sym q));
}

-- what was read of a part of a tree, behind rows that were read and in front of the tokens zs, is read of the tree
enclosed : {b x : Bool} {ts : List Tok} {M N : Nt} {d d' i j k s : ℕ} {xs : List Tok} (F : Tree → Tree)
    → ((u : Tree) → Is b M (over x d') u → Is b N (over x d) (F u))
    → (zs : List Tok) → (x ≡ true → (l : List Tok) → heads k (l ++ closed_by M) ≡ true → heads k (l ++ zs) ≡ true)
    → ((u : Tree) → yield (F u) ≡ xs ++ (yield u ++ zs)) → Run ts i xs j → Open b x ts M d' j s k → Open b x ts N d i s k
enclosed {N = N} {k = k} {xs = xs} F made zs f e q o = record {
  tree = F o.tree;
  is = made o.tree o.is;
  read = xs ++ o.read;
  rest = o.rest ++ zs;
  spells =
      e o.tree ∙ ap (λ (l : List Tok). xs ++ (l ++ zs)) o.spells ∙ ap (λ (l : List Tok). xs ++ l)
      (append_assoc o.read o.rest zs)
      ∙ sym (append_assoc xs o.read (o.rest ++ zs));
  run = q ▸ o.run;
  next = λ x. heads_more k (o.rest ++ zs) (closed_by N) (f x o.rest (o.next x));
}

-- Where a refusal arises: in code, in the fields of maps and events, or around these. In code no check is told but 31, in fields never
-- that.
pub data Where : Type 0 where
  code fields top : Where

abbrev pub Arises : Where → Syntax → Type 0
Arises code why = is_check why ≡ true → why ≡ CallOnOther
Arises fields why = why ≡ CallOnOther → ⊥
Arises top why = Unit {0}

-- a kind that a refusal tells, if it tells any
abbrev pub Due : Syntax → ℕ → Type 0
Due why k = is_misfit why ≡ true → has (set_told why) k ≡ true

-- A refusal at row r of what was read from row i on: the row that is lost, some kind that is told, and for each such kind a tree that
-- begins with the rows up to the lost one and then one of that kind. Of 31 the lost row dooms (D): whatever stands behind it, there is a
-- refusal.
pub record Halt (c : Where) (D : ℕ → Type 0) (ts : List Tok) (N : Nt) (d i : ℕ) (why : Syntax) (r : ℕ) : Type 0 where
  pub row : ℕ
  pub at : LostAt ts why r row
  pub arises : Arises c why
  pub wish : ℕ
  pub due : Due why wish
  pub begun : (k : ℕ) → Due why k → Open (is_check why) (is_misfit why) ts N d i row k
  pub dooms : why ≡ CallOnOther → D row

module _ {ts : List Tok} {c : Where} {D D' : ℕ → Type 0} {M N : Nt} {d d' i : ℕ} {why : Syntax} {r : ℕ} (F : Tree → Tree)
    (made : (u : Tree) → Is (is_check why) M (over (is_misfit why) d') u → Is (is_check why) N (over (is_misfit why) d) (F u))
    (doom : why ≡ CallOnOther → (s : ℕ) → D s → D' s) where
  halted : {j : ℕ} → ((k s : ℕ) → Open (is_check why) (is_misfit why) ts M d' j s k → Open (is_check why) (is_misfit why) ts N d i s k)
      → Halt c D ts M d' j why r
      → Halt c D' ts N d i why r
  halted f h = record {
    row = h.row;
    at = h.at;
    arises = h.arises;
    wish = h.wish;
    due = h.due;
    begun = λ k q. f k h.row (h.begun k q);
    dooms = λ x. doom x h.row (h.dooms x);
  }

  -- a part of a tree, behind rows that were read and in front of some that close it
  pub wrap : {j : ℕ} {xs : List Tok} (zs : List Tok) → closed_by M ≡ [] → ((u : Tree) → yield (F u) ≡ xs ++ (yield u ++ zs)) → Run ts i xs j
      → Halt c D ts M d' j why r → Halt c D' ts N d i why r
  wrap zs z e q h =
      halted (λ k s. enclosed F made zs (λ x l n. heads_more k l zs
      (subst (λ (l : List Tok). heads k l ≡ true) (append-nil l) (rw z at n))) e q) h

  -- a list, in front of what stands behind it
  pub shut : {j : ℕ} {xs : List Tok} (zs : List Tok) → (is_misfit why ≡ true → closed_by M ≡ zs)
      → ((u : Tree) → yield (F u) ≡ xs ++ (yield u ++ zs)) → Run ts i xs j
      → Halt c D ts M d' j why r → Halt c D' ts N d i why r
  shut zs z e q h = halted (λ k s. enclosed F made zs (λ x l n. subst (λ (y : List Tok). heads k (l ++ y) ≡ true) (z x) n) e q) h

  -- the whole of a tree, taken as another
  pub recast : closed_by M ≡ closed_by N → ((u : Tree) → yield (F u) ≡ yield u) → Halt c D ts M d' i why r → Halt c D' ts N d i why r
  recast z e h = halted (λ k s o. again k s o) h
    where
      again : (k s : ℕ) → Open (is_check why) (is_misfit why) ts M d' i s k → Open (is_check why) (is_misfit why) ts N d i s k
      again k s o = record {
        tree = F o.tree;
        is = made o.tree o.is;
        read = o.read;
        rest = o.rest;
        spells = e o.tree ∙ o.spells;
        run = o.run;
        next = λ x. subst (λ (y : List Tok). heads k (o.rest ++ y) ≡ true) z (o.next x);
      }

-- the same tree, for a wider part of the parser
pub widen : {ts : List Tok} {c : Where} {D D' : ℕ → Type 0} {N : Nt} {d i : ℕ} {why : Syntax} {r : ℕ} → ((s : ℕ) → D s → D' s)
    → Halt c D ts N d i why r
    → Halt c D' ts N d i why r
widen f h = recast (λ u. u) (λ u q. q) (λ _. f) refl (λ u. refl) h

-- wherever it arises
pub loosely : {c : Where} {D : ℕ → Type 0} {ts : List Tok} {N : Nt} {d i : ℕ} {why : Syntax} {r : ℕ} → Halt c D ts N d i why r
    → Halt top D ts N d i why r
loosely h = record { row = h.row; at = h.at; arises = tt; wish = h.wish; due = h.due; begun = h.begun; dooms = h.dooms }

-- the lost row is not in front of what was read
pub not_before : {c : Where} {D : ℕ → Type 0} {ts : List Tok} {N : Nt} {d i : ℕ} (why : Syntax) (r : ℕ) → Halt c D ts N d i why r
    → i ≤ lost ts why r
not_before {ts = ts} {i = i} why r h = go h.at
  where
    go : LostAt ts why r h.row → i ≤ lost ts why r
    go (own e) = omega (arith, (h.begun h.wish h.due).run.next, e)
    go (around q l o) = omega (arith, (h.begun h.wish h.due).run.next, l)

-- the last part of a list of tokens, with nothing behind it
pub last_part : (xs : List Tok) (x : Tok) (ys : List Tok) → xs ++ (x ∷ ys) ≡ (xs ++ (x ∷ [])) ++ (ys ++ [])
last_part xs x ys = rw (append-nil ys) (sym (append_assoc xs (x ∷ []) ys))

-- ---- where expressions and statements start

-- A row in the table, or its end, and none behind a name or a dot.
pub record Start (ts : List Tok) (i : ℕ) : Type 0 where
  pub inside : i ≤ length ts
  pub fresh : eqb (kind_at ts (i - 1)) Identifier ≡ false
  pub undotted : eqb (kind_at ts (i - 1)) Dot ≡ false

no_name : (k : ℕ) → is_mark k ≡ true → eqb k Identifier ≡ false
no_name k b = go (eqb k Identifier) (eqb k StringLiteral) (eqb k Number) (eqb k Eof) b
  where
    go : (x y z e : Bool) → not ((x || y) || z) && not e ≡ true → x ≡ false
    go true y z e b = absurd (true≢false (sym b))
    go false y z e b = refl

pub start : (ts : List Tok) (i k : ℕ) → kind_at ts i ≡ k → is_mark k ≡ true → eqb k Dot ≡ false → Start ts (i + 1)
start ts i k e b n = record {
  inside = (row ts i k e b).inside;
  fresh = ap (λ (n : ℕ). eqb (kind_at ts n) Identifier) (omega arith) ∙ ap (λ (x : ℕ). eqb x Identifier) e ∙ no_name k b;
  undotted = ap (λ (n : ℕ). eqb (kind_at ts n) Dot) (omega arith) ∙ ap (λ (x : ℕ). eqb x Dot) e ∙ n;
}

module _ (ts : List Tok) where
  -- behind a semicolon
  ends_here : (t : Tree) (k : ℕ) → All (λ u j. Start ts j) (Parse.want ts Semicolon (ok t) k)
  ends_here t k = want_all ts (λ u j. Start ts j) Semicolon (ok t) k (λ e. start ts k Semicolon e refl refl)

  ends_behind : (e t : Tree) (k : ℕ) → All (λ u j. Start ts j) (Parse.end ts Semicolon e (ok t) k)
  ends_behind e t k = end_all ts (λ u j. Start ts j) Semicolon e (ok t) k (λ q. start ts k Semicolon q refl refl)

  -- an answer, and then one behind which a statement may start
  then_starts : (o : Out) (f : Tree → P) → ((t : Tree) (j : ℕ) → All (λ u k. Start ts k) (f t j)) → All (λ u k. Start ts k) (then o f)
  then_starts o f h = then_all (λ t j. Unit {0}) (λ u k. Start ts k) o f (all_any o) (λ t j a. h t j)

  body_end : (d o : ℕ) (l : Tree) (j : ℕ) → BodyUnder ts d o l j → Start ts j
  body_end zero o l j b = absurd b
  body_end (suc d) o l j b = subst (Start ts) b.next (start ts b.last RBrace b.brace refl refl)

  -- a body at its brace
  body_starts : (d j : ℕ) → All (λ u k. Start ts k) (Parse.need ts LBrace (Parse.body ts d) j)
  body_starts d j =
      need_all ts (λ u k. Start ts k) LBrace (Parse.body ts d) j
      (λ e. map_all (BodyUnder ts d j) (λ u k. Start ts k) (Parse.body ts d j) (body_sound ts d j (here ts j LBrace e refl))
      (λ l k b. body_end d j l k b))

  else_starts : (d : ℕ) (c : Bool) (w : List ℕ) (b : Tree) (k : ℕ) → Start ts k
      → All (λ u j. Start ts j) (Parse.else_by ts d (Parse.body ts d) c w b k)
  unfolding Parse.else_by
  else_starts d true w b k s =
      then_all (λ u j. Start ts j) (λ u j. Start ts j) (Parse.need ts LBrace (Parse.body ts d) (k + 1)) _ (body_starts d (k + 1))
      (λ e r x. x)
  else_starts d false w b k s = s

  assign_starts : (d : ℕ) (c : Bool) (e : Tree) (j : ℕ) → All (λ u k. Start ts k) (Parse.assign_by ts d (Parse.body ts d) c e j)
  unfolding Parse.assign_by
  assign_starts d true e j = then_starts (Parse.expr ts d (j + 1)) _ (λ r k. ends_behind r _ k)
  assign_starts d false e j = end_in_all ts (λ u k. Start ts k) _ Semicolon e _ j (λ q. start ts j Semicolon q refl refl)

  stmt_starts_by : (d : ℕ) (l : StmtLead) (i : ℕ) → All (λ u k. Start ts k) (Parse.stmt_by ts d (Parse.body ts d) l i)
  unfolding Parse.stmt_by Parse.bodies
  stmt_starts_by d declaring i =
      named_all ts (λ u k. Start ts k) _ (i + 1) (λ f. want_all ts (λ u k. Start ts k) Equals _ (i + 1 + 1) (λ h.
      then_starts (Parse.expr ts d (i + 1 + 1 + 1)) _ (λ e k. ends_behind e _ k)))
  stmt_starts_by d returning i = then_starts (Parse.expr ts d (i + 1)) _ (λ e k. ends_behind e _ k)
  stmt_starts_by d branching i =
      want_all ts (λ u k. Start ts k) KeywordGuard _ (i + 1) (λ e. want_all ts (λ u k. Start ts k) LParen _ (i + 1 + 1) (λ f.
      named_all ts (λ u k. Start ts k) _ (i + 1 + 1 + 1) (λ h. want_all ts (λ u k. Start ts k) RParen _ (i + 1 + 1 + 1 + 1) (λ c.
      then_all (λ u k. Start ts k) (λ u k. Start ts k) (Parse.need ts LBrace (Parse.body ts d) (i + 1 + 1 + 1 + 1 + 1)) _
      (body_starts d (i + 1 + 1 + 1 + 1 + 1))
      (λ b k s. else_starts d (eqb (kind_at ts k) KeywordElse) _ (then_body b) k s)))))
  stmt_starts_by d expression i = then_starts (Parse.expr ts d i) _ (λ e j. assign_starts d (is_assign (kind_at ts j)) e j)

  pub stmt_starts : (d i : ℕ) → All (λ u k. Start ts k) (Parse.stmt ts d (Parse.body ts d) i)
  unfolding Parse.stmt
  stmt_starts d i = stmt_starts_by d (stmt_lead (kind_at ts i)) i

  item_starts_by : (c : Bool) (i : ℕ) → All (λ u k. Start ts k) (Parse.item_by ts c i)
  unfolding Parse.item_by
  item_starts_by true i = quoted_all ts (λ u k. Start ts k) _ (i + 1) (λ e. ends_here _ (i + 1 + 1))
  item_starts_by false i = stmt_starts 64 i

  pub item_starts : (i : ℕ) → All (λ u k. Start ts k) (Parse.item ts i)
  unfolding Parse.item
  item_starts i = item_starts_by (is_text (kind_at ts i)) i
