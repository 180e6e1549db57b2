-- The parser is sound for the grammar: what it accepts is a tree of the grammar, within the nesting and the checks, and the rows that
-- it passed are that tree's tokens.
use mathlib.Core.Path.{◌≡◌, refl, sym, ap, ◌∙◌, subst}
use mathlib.Core.Bool.{Bool, true, false, not}
use mathlib.Core.List.{List, [], ◌∷◌, ◌++◌, append_assoc, append-nil}
use Prim.Native.Nat.{ℕ, zero, suc, ◌+◌, ◌^◌, ◌≤◌, ◌<◌}
use native.Mathlib.Omega.{arith}
use lib.Dec.{eqb, leb, ltb}
use lib.ListN.{length, drop}
use lib.Seq.{drop-length}
use borrow.Author.Tests.{eqb-true, eq-eqb, ltb-true, ltb-false, not-false}
use Rattle.rules.specs.declared.Syntax.TheVariants.{CallOnOther}
use Rattle.rules.specs.Kinds.{KeywordUnit, KeywordReturn, KeywordMap, KeywordType, KeywordKey, KeywordValue, KeywordMax, KeywordIf, KeywordElse, KeywordGuard, KeywordEvent, LBrace, RBrace, LParen, RParen, Colon, Dot, Comma, Semicolon, LBracket, RBracket, Equals, Star, Identifier, Number, KeywordBytes, Eof}
use Rattle.rules.specs.Fits.{body_things, unit_things, event_fields, tops, map_fields, first_arguments}
use Rattle.rules.specs.Tree.{Tok, sign, name, spelling_of, bits_in, Tree, none, star, group, call, bin, one, more, decl, ret, plain, assign, guard, then_body, else_body, seq, text, map_type, typed, limit, first, plain_field, bytes_field, array_field, program, yield, is_variable, map_type_number, max_bits, type_of, typed_by, limit_of, lacking}
use Rattle.rules.specs.Nodes.{width}
use Rattle.rules.specs.Parse
use Rattle.rules.specs.Parse.{ok, no, P, then, or, pick, is_add, is_shift, is_mul, is_assign, is_text, is_type, is_typed, most32, Lead, number, identifier, paren, other, lead, StmtLead, declaring, returning, branching, expression, stmt_lead, FieldLead, typing, keying, limiting, nothing, field_lead, EventLead, type_lead, bytes_lead, no_lead, event_lead, TopLead, map_lead, unit_lead, event_top, no_top, top_lead, Sort, operand, whole, tok_at, kind_at}
use Rattle.rules.specs.Grammar.{Nt, Add, Shift, Mul, Unary, Basic, Args, Stmt, Stmts, Item, Items, Chain, MapField, MapFields, EventField, EventFields, Decl, Decls, Program, Is, i_num, i_var, i_group, i_field, i_bare, i_call, i_one, i_more, i_prim, i_star, i_unary, i_mul, i_lone, i_shift, i_up, i_add, i_decl, i_ret, i_plain, i_assign, i_if, i_if_else, i_no_stmts, i_stmts, i_stmt, i_text, i_no_items, i_items, i_first, i_shifted, i_type, i_typed, i_limit, i_no_fields, i_fields, i_plain_field, i_bytes_field, i_array_field, i_no_event_fields, i_event_fields, i_unit, i_map, i_event, i_no_decls, i_decls, i_program}
use Rattle.theory_grammar.specs.Tokens.{Proper, Whole}
use Rattle.theory_grammar.proofs.Laws.{here, from, yield_width, fewest, is_wide}
use Rattle.theory_grammar.proofs.Leads.{LeadIs, lead_is, StmtIs, stmt_is, FieldIs, field_is, EventIs, event_is, TopIs, top_is, add_mark, shift_mark, mul_mark, assign_mark, declaring_mark, text_mark, typed_mark, type_mark}
use Rattle.theory_grammar.proofs.Runs.{Run, is_mark, run_none, row, name_row, string_row, value_row, ◌▸◌, sign_of, All, all_ok, then_all, map_all, or_all, loop_all, loop_ends, want_in_all, want_all, end_in_all, end_all, need_all, named_all, quoted_all, valued_all}

-- What is read at row i up to row j: a tree of the nonterminal, whose tokens the rows are.
pub record Reads (ts : List Tok) (N : Nt) (d i : ℕ) (t : Tree) (j : ℕ) : Type 0 where
  pub is : Is true N d t
  pub next : j ≡ i + width t
  pub inside : j ≤ length ts
  pub clear : (r : ℕ) → i ≤ r → r < j → kind_at ts r ≡ Eof → ⊥
  pub same : Proper ts → drop i ts ≡ yield t ++ drop j ts

-- The same of a whole table: a program, its ending row the last that is read.
pub record Accepts (ts : List Tok) (t : Tree) (j : ℕ) : Type 0 where
  pub is : Is true Program 64 t
  pub next : j ≡ width t
  pub inside : j ≤ length ts
  pub stop : ℕ
  pub behind : j ≡ stop + 1
  pub closed : kind_at ts stop ≡ Eof
  pub same : Proper ts → ts ≡ yield t ++ drop j ts

abbrev pub nt_of : Sort → Nt
nt_of operand = Unary
nt_of whole = Add

-- what is read behind the opening row o, with d constructs free before it
abbrev pub Under : List Tok → Nt → ℕ → ℕ → Tree → ℕ → Type 0
Under ts N zero o t j = ⊥
Under ts N (suc d) o t j = Reads ts N d (o + 1) t j

-- statements up to a brace, which is taken, behind the row o
pub record Body (ts : List Tok) (d o : ℕ) (l : Tree) (j : ℕ) : Type 0 where
  pub last : ℕ
  pub reads : Reads ts Stmts d (o + 1) l last
  pub brace : kind_at ts last ≡ RBrace
  pub next : last + 1 ≡ j

abbrev pub BodyUnder : List Tok → ℕ → ℕ → Tree → ℕ → Type 0
BodyUnder ts zero o l j = ⊥
BodyUnder ts (suc d) o l j = Body ts d o l j

-- ---- what is read, from a run of rows and back

module _ {ts : List Tok} {N : Nt} {d i : ℕ} {t : Tree} {j : ℕ} where
  pub reads : Is true N d t → Run ts i (yield t) j → Reads ts N d i t j
  reads h r = record { is = h; next = r.next ∙ ap (λ (n : ℕ). i + n) (yield_width t); inside = r.inside; clear = r.clear; same = r.same }

  pub run_of : Reads ts N d i t j → Run ts i (yield t) j
  run_of r = record { next = r.next ∙ ap (λ (n : ℕ). i + n) (sym (yield_width t)); inside = r.inside; clear = r.clear; same = r.same }

  -- the same tree, of another nonterminal
  pub taken_as : {M : Nt} → (Is true N d t → Is true M d t) → Reads ts N d i t j → Reads ts M d i t j
  taken_as f r = record { is = f r.is; next = r.next; inside = r.inside; clear = r.clear; same = r.same }

module _ (ts : List Tok) where
  -- ---- expressions, from their parts

  groups : (d i : ℕ) (t : Tree) (j : ℕ) → kind_at ts i ≡ LParen → Under ts Add d i t j → kind_at ts j ≡ RParen → Reads ts Basic d i (group t) (j + 1)
  unfolding yield
  groups zero i t j e u f = absurd u
  groups (suc d) i t j e u f = reads (i_group u.is) (row ts i LParen e refl ▸ run_of u ▸ row ts j RParen f refl)

  pub ones : (d o : ℕ) (t : Tree) (j : ℕ) → Under ts Add d o t j → Under ts Args d o (one t) j
  unfolding yield
  ones zero o t j u = absurd u
  ones (suc d) o t j u = reads (i_one u.is) (run_of u)

  mores : (d o : ℕ) (a : Tree) (j : ℕ) (t : Tree) (k : ℕ) → Under ts Args d o a j → kind_at ts j ≡ Comma → Under ts Add d j t k → Under ts Args d o (more a t) k
  unfolding yield
  mores zero o a j t k u e v = absurd u
  mores (suc d) o a j t k u e v = reads (i_more u.is v.is) (run_of u ▸ row ts j Comma e refl ▸ run_of v)

  stars : (d o : ℕ) (t : Tree) (j : ℕ) → kind_at ts o ≡ Star → Under ts Unary d o t j → Reads ts Unary d o (star t) j
  unfolding yield
  stars zero o t j e u = absurd u
  stars (suc d) o t j e u = reads (i_star u.is) (row ts o Star e refl ▸ run_of u)

  calls : (d i : ℕ) (t : Tree) (j : ℕ) (a : Tree) (k : ℕ) → Reads ts Basic d i t j → kind_at ts j ≡ Dot → kind_at ts (j + 1) ≡ Identifier
      → kind_at ts (j + 1 + 1) ≡ LParen → is_variable t ≡ true → Under ts Args d (j + 1 + 1) a k → kind_at ts k ≡ RParen
      → Reads ts Basic d i (call t (spelling_of (tok_at ts (j + 1))) a) (k + 1)
  unfolding yield
  calls zero i t j a k r e f h q u c = absurd u
  calls (suc d) i t j a k r e f h q u c =
      reads (i_call r.is (λ _. q) u.is)
      (run_of r ▸ row ts j Dot e refl ▸ name_row ts (j + 1) f ▸ row ts (j + 1 + 1) LParen h refl ▸ run_of u ▸ row ts k RParen c refl)

  -- ---- expressions, over what is read behind an opening row

  module _ (d : ℕ) (g : Sort → P) (under : (s : Sort) (o : ℕ) → o < length ts → All (Under ts (nt_of s) d o) (g s o)) where
    atom_by : (l : Lead) (i : ℕ) → LeadIs (kind_at ts i) l → All (Reads ts Basic d i) (Parse.atom_by ts g l i)
    unfolding Parse.atom_by yield
    atom_by number i f = reads i_num (value_row ts i f)
    atom_by identifier i f = reads i_var (name_row ts i f)
    atom_by paren i f =
        then_all (Under ts Add d i) (Reads ts Basic d i) (g whole i) _ (under whole i (here ts i LParen f refl))
        (λ t j u. end_all ts (Reads ts Basic d i) RParen t (ok (group t)) j (λ e. groups d i t j f u e))
    atom_by other i f = tt

    pub atom_sound : (i : ℕ) → All (Reads ts Basic d i) (Parse.atom ts g i)
    unfolding Parse.atom
    atom_sound i = atom_by (lead (kind_at ts i)) i (lead_is (kind_at ts i))

    pub arg_step : (o : ℕ) (a : Tree) (j : ℕ) → Under ts Args d o a j → eqb (kind_at ts j) Comma ≡ true → All (Under ts Args d o) (Parse.arg_step ts g a j)
    unfolding Parse.arg_step
    arg_step o a j u e =
        let f : kind_at ts j ≡ Comma = eqb-true (kind_at ts j) Comma e in
        then_all (Under ts Add d j) (Under ts Args d o) (g whole j) _ (under whole j (here ts j Comma f refl)) (λ t k v. mores d o a j t k u f v)

    pub args_sound : (o : ℕ) → o < length ts → All (Under ts Args d o) (Parse.args ts g o)
    unfolding Parse.args
    args_sound o h =
        then_all (Under ts Add d o) (Under ts Args d o) (or first_arguments (o + 1) (g whole o)) _
        (or_all (Under ts Add d o) first_arguments (o + 1) (g whole o) (under whole o h))
        (λ t k u. loop_all ts (Under ts Args d o) (λ r. eqb (kind_at ts r) Comma) (Parse.arg_step ts g) (arg_step o) (one t) k (ones d o t k u))

    called_sound : (C : Tree → ℕ → Type 0) (t : Tree) (w : List ℕ) (a : Tree) (m k : ℕ) → (is_variable t ≡ true → C (call t w a) k)
        → All C (Parse.called ts t w a m k)
    unfolding Parse.called
    called_sound C t w a m k h = go (is_variable t) refl
      where
        go : (b : Bool) → is_variable t ≡ b → All C (pick b (ok (call t w a) k) (no CallOnOther m))
        go true e = h e
        go false e = tt

    module _ (i : ℕ) (t : Tree) (j : ℕ) (r : Reads ts Basic d i t j) (e : kind_at ts j ≡ Dot) (f : kind_at ts (j + 1) ≡ Identifier) where
      call_by : (b : Bool) → eqb (kind_at ts (j + 1 + 1 + 1)) RParen ≡ b → kind_at ts (j + 1 + 1) ≡ LParen
          → All (Reads ts Basic d i) (Parse.call_by ts g b t (spelling_of (tok_at ts (j + 1))) (j + 1) (j + 1 + 1))
      unfolding Parse.call_by yield
      call_by true b h =
          called_sound (Reads ts Basic d i) t _ none (j + 1) (j + 1 + 1 + 1 + 1)
          (λ q. reads (i_bare r.is (λ _. q))
          (run_of r ▸ row ts j Dot e refl ▸ name_row ts (j + 1) f ▸ row ts (j + 1 + 1) LParen h refl
          ▸ row ts (j + 1 + 1 + 1) RParen (eqb-true (kind_at ts (j + 1 + 1 + 1)) RParen b) refl))
      call_by false b h =
          then_all (Under ts Args d (j + 1 + 1)) (Reads ts Basic d i) (Parse.args ts g (j + 1 + 1)) _ (args_sound (j + 1 + 1) (here ts (j + 1 + 1) LParen h refl))
          (λ a k u. end_in_all ts (Reads ts Basic d i) _ RParen a (Parse.called ts t _ a (j + 1)) k
          (λ c. called_sound (Reads ts Basic d i) t _ a (j + 1) (k + 1) (λ q. calls d i t j a k r e f h q u c)))

      open_by : (b : Bool) → eqb (kind_at ts (j + 1 + 1)) LParen ≡ b
          → All (Reads ts Basic d i) (Parse.open_by ts g b t (spelling_of (tok_at ts (j + 1))) (j + 1) (j + 1 + 1))
      unfolding Parse.open_by yield
      open_by true b = call_by (eqb (kind_at ts (j + 1 + 1 + 1)) RParen) refl (eqb-true (kind_at ts (j + 1 + 1)) LParen b)
      open_by false b = reads (i_field r.is) (run_of r ▸ row ts j Dot e refl ▸ name_row ts (j + 1) f)

    pub post_sound : (i : ℕ) (t : Tree) (j : ℕ) → Reads ts Basic d i t j → eqb (kind_at ts j) Dot ≡ true → All (Reads ts Basic d i) (Parse.post ts g t j)
    unfolding Parse.post
    post_sound i t j r b =
        named_all ts (Reads ts Basic d i) _ (j + 1) (λ f. open_by i t j r (eqb-true (kind_at ts j) Dot b) f (eqb (kind_at ts (j + 1 + 1)) LParen) refl)

    pub prim_sound : (i : ℕ) → All (Reads ts Basic d i) (Parse.prim ts g i)
    unfolding Parse.prim
    prim_sound i =
        then_all (Reads ts Basic d i) (Reads ts Basic d i) (Parse.atom ts g i) _ (atom_sound i)
        (λ t j r. loop_all ts (Reads ts Basic d i) (λ r. eqb (kind_at ts r) Dot) (Parse.post ts g) (post_sound i) t j r)

    unary_by : (b : Bool) (i : ℕ) → eqb (kind_at ts i) Star ≡ b → All (Reads ts Unary d i) (Parse.unary_by ts g b i)
    unfolding Parse.unary_by
    unary_by true i b =
        let e : kind_at ts i ≡ Star = eqb-true (kind_at ts i) Star b in
        then_all (Under ts Unary d i) (Reads ts Unary d i) (g operand i) _ (under operand i (here ts i Star e refl)) (λ t j u. stars d i t j e u)
    unary_by false i b = map_all (Reads ts Basic d i) (Reads ts Unary d i) (Parse.prim ts g i) (prim_sound i) (λ t j r. taken_as i_prim r)

    pub unary_sound : (i : ℕ) → All (Reads ts Unary d i) (Parse.unary ts g i)
    unfolding Parse.unary
    unary_sound i = unary_by (eqb (kind_at ts i) Star) i refl

    -- a ladder: operands p of the nonterminal M, whose rows of operators `is_op` join them to the nonterminal N
    module _ (N M : Nt) (is_op : ℕ → Bool) (mark : (k : ℕ) → is_op k ≡ true → is_mark k ≡ true) (p : P) (p_sound : (i : ℕ) → All (Reads ts M d i) (p i))
        (joins : (k : ℕ) (l r : Tree) → Is true N d l → is_op k ≡ true → Is true M d r → Is true N d (bin k l r)) where
      pub bin_step : (i : ℕ) (t : Tree) (j : ℕ) → Reads ts N d i t j → is_op (kind_at ts j) ≡ true → All (Reads ts N d i) (Parse.bin_step ts g p t j)
      unfolding Parse.bin_step yield
      bin_step i t j r b =
          then_all (Reads ts M d (j + 1)) (Reads ts N d i) (p (j + 1)) _ (p_sound (j + 1))
          (λ u k v. reads (joins (kind_at ts j) t u r.is b v.is) (run_of r ▸ row ts j (kind_at ts j) refl (mark (kind_at ts j) b) ▸ run_of v))

      ladder : (i : ℕ) (t : Tree) (j : ℕ) → Reads ts N d i t j → All (Reads ts N d i) (Parse.loop ts (λ r. is_op (kind_at ts r)) (Parse.bin_step ts g p) t j)
      ladder i t j r = loop_all ts (Reads ts N d i) (λ r. is_op (kind_at ts r)) (Parse.bin_step ts g p) (bin_step i) t j r

    pub mul_sound : (i : ℕ) → All (Reads ts Mul d i) (Parse.mul ts g i)
    unfolding Parse.mul
    mul_sound i =
        then_all (Reads ts Unary d i) (Reads ts Mul d i) (Parse.unary ts g i) _ (unary_sound i)
        (λ t j r. ladder Mul Unary is_mul mul_mark (Parse.unary ts g) unary_sound (λ k l r a e b. i_mul a e b) i t j (taken_as i_unary r))

    pub shift_sound : (i : ℕ) → All (Reads ts Shift d i) (Parse.shift ts g i)
    unfolding Parse.shift
    shift_sound i =
        then_all (Reads ts Mul d i) (Reads ts Shift d i) (Parse.mul ts g i) _ (mul_sound i)
        (λ t j r. ladder Shift Mul is_shift shift_mark (Parse.mul ts g) mul_sound (λ k l r a e b. i_shift a e b) i t j (taken_as i_lone r))

    pub add_sound : (i : ℕ) → All (Reads ts Add d i) (Parse.add ts g i)
    unfolding Parse.add
    add_sound i =
        then_all (Reads ts Shift d i) (Reads ts Add d i) (Parse.shift ts g i) _ (shift_sound i)
        (λ t j r. ladder Add Mul is_add add_mark (Parse.mul ts g) mul_sound (λ k l r a e b. i_add a e b) i t j (taken_as i_up r))

  pub inner_sound : (d : ℕ) (s : Sort) (o : ℕ) → o < length ts → All (Under ts (nt_of s) d o) (Parse.inner ts d s o)
  unfolding Parse.inner
  inner_sound zero s o h = tt
  inner_sound (suc d) operand o h = unary_sound d (Parse.inner ts d) (inner_sound d) (o + 1)
  inner_sound (suc d) whole o h = add_sound d (Parse.inner ts d) (inner_sound d) (o + 1)

  -- an expression that the parser accepts at row i is one of the grammar, and its tokens are the rows from i to j
  pub expr_sound : (d i : ℕ) → All (Reads ts Add d i) (Parse.expr ts d i)
  unfolding Parse.expr
  expr_sound d i = add_sound d (Parse.inner ts d) (inner_sound d) i

  -- ---- lists: things p of the nonterminal M, up to a row of kind `stop`

  module _ (Ns M : Nt) (d : ℕ) (nil : Is true Ns d none) (join : (l s : Tree) → Is true Ns d l → Is true M d s → Is true Ns d (seq l s)) (wide : 1 ≤ fewest M)
      (stop also : ℕ) (p : P) (p_sound : (i : ℕ) → All (Reads ts M d i) (p i)) where
    pub list_next : (i : ℕ) (l : Tree) (j : ℕ) → Reads ts Ns d i l j
        → All (λ u k. Reads ts Ns d i u k × (j < k)) (Parse.list_step ts also p l j)
    unfolding Parse.list_step yield
    list_next i l j r =
        then_all (Reads ts M d j) (λ u k. Reads ts Ns d i u k × (j < k)) (or (also + Parse.else_behind ts l) j (p j)) _
        (or_all (Reads ts M d j) (also + Parse.else_behind ts l) j (p j) (p_sound j))
        (λ t k v. (reads (join l t r.is v.is) (run_of r ▸ run_of v), omega (arith, v.next, is_wide v.is)))

    pub list_sound : (i : ℕ) → i ≤ length ts → All (λ l j. Reads ts Ns d i l j × (kind_at ts j ≡ stop)) (Parse.list_to ts stop also p i)
    unfolding Parse.list_to yield
    list_sound i h =
        map_all (λ l j. Reads ts Ns d i l j × (not (eqb (kind_at ts j) stop) ≡ false)) (λ l j. Reads ts Ns d i l j × (kind_at ts j ≡ stop))
        (Parse.loop ts (λ r. not (eqb (kind_at ts r) stop)) (Parse.list_step ts also p) none i)
        (loop_ends ts (Reads ts Ns d i) (λ r. not (eqb (kind_at ts r) stop)) (Parse.list_step ts also p) (λ l j r. r.inside)
        (λ l j r b. list_next i l j r) none i (reads nil (run_none ts i h)))
        (λ l j r. (r.0, eqb-true (kind_at ts j) stop (not-false (eqb (kind_at ts j) stop) r.1)))

  -- ---- statements, over what is read behind a brace

  pub body_run : (d o : ℕ) (l : Tree) (j : ℕ) → kind_at ts o ≡ LBrace → Body ts d o l j → Run ts o (sign LBrace ∷ (yield l ++ (sign RBrace ∷ []))) j
  body_run d o l j e b =
      subst (λ (x : ℕ). Run ts o (sign LBrace ∷ (yield l ++ (sign RBrace ∷ []))) x) b.next
      (row ts o LBrace e refl ▸ run_of b.reads ▸ row ts b.last RBrace b.brace refl)

  module _ (i : ℕ) (w : List ℕ) (j : ℕ)
      (head : Run ts i (sign KeywordIf ∷ sign KeywordGuard ∷ sign LParen ∷ name w ∷ sign RParen ∷ []) j) (e : kind_at ts j ≡ LBrace) where
    ifs : (d : ℕ) (b : Tree) (k : ℕ) → BodyUnder ts d j b k → Reads ts Stmt d i (guard w (then_body b) none) k
    unfolding yield
    ifs zero b k u = absurd u
    ifs (suc d) b k u =
        let r : Run ts j (sign LBrace ∷ (yield b ++ (sign RBrace ∷ []))) k = body_run d j b k e u in
        reads (i_if u.reads.is) (head ▸ r ▸ run_none ts k r.inside)

    if_elses : (d : ℕ) (b : Tree) (k : ℕ) (s : Tree) (r : ℕ) → BodyUnder ts d j b k → kind_at ts k ≡ KeywordElse → kind_at ts (k + 1) ≡ LBrace → BodyUnder ts d (k + 1) s r
        → Reads ts Stmt d i (guard w (then_body b) (else_body s)) r
    unfolding yield
    if_elses zero b k s r u f h v = absurd u
    if_elses (suc d) b k s r u f h v =
        reads (i_if_else u.reads.is v.reads.is) (head ▸ body_run d j b k e u ▸ row ts k KeywordElse f refl ▸ body_run d (k + 1) s r h v)

  module _ (d : ℕ) (p : P) (under : (o : ℕ) → o < length ts → All (BodyUnder ts d o) (p o)) where
    -- a body, at its brace
    braces : (C : Tree → ℕ → Type 0) (j : ℕ) (f : Tree → P) → ((l : Tree) (k : ℕ) → kind_at ts j ≡ LBrace → BodyUnder ts d j l k → All C (f l k))
        → All C (then (Parse.need ts LBrace p j) f)
    braces C j f h =
        then_all (λ l k. (kind_at ts j ≡ LBrace) × BodyUnder ts d j l k) C (Parse.need ts LBrace p j) f
        (need_all ts (λ l k. (kind_at ts j ≡ LBrace) × BodyUnder ts d j l k) LBrace p j
        (λ e. map_all (BodyUnder ts d j) (λ l k. (kind_at ts j ≡ LBrace) × BodyUnder ts d j l k) (p j) (under j (here ts j LBrace e refl)) (λ l k b. (e, b))))
        (λ l k b. h l k b.0 b.1)

    module _ (i : ℕ) (w : List ℕ) (j : ℕ) (head : Run ts i (sign KeywordIf ∷ sign KeywordGuard ∷ sign LParen ∷ name w ∷ sign RParen ∷ []) j) where
      else_by : (c : Bool) (b : Tree) (k : ℕ) → kind_at ts j ≡ LBrace → BodyUnder ts d j b k → eqb (kind_at ts k) KeywordElse ≡ c
          → All (Reads ts Stmt d i) (Parse.else_by ts d p c w (then_body b) k)
      unfolding Parse.else_by
      else_by true b k e u c =
          braces (Reads ts Stmt d i) (k + 1) _ (λ s r h v. if_elses i w j head e d b k s r u (eqb-true (kind_at ts k) KeywordElse c) h v)
      else_by false b k e u c = ifs i w j head e d b k u

      bodies_sound : All (Reads ts Stmt d i) (Parse.bodies ts d p w j)
      unfolding Parse.bodies
      bodies_sound = braces (Reads ts Stmt d i) j _ (λ b k e u. else_by (eqb (kind_at ts k) KeywordElse) b k e u refl)

    assign_by : (c : Bool) (i : ℕ) (e : Tree) (j : ℕ) → is_assign (kind_at ts j) ≡ c → Reads ts Add d i e j → All (Reads ts Stmt d i) (Parse.assign_by ts d p c e j)
    unfolding Parse.assign_by yield
    assign_by true i e j c r =
        then_all (Reads ts Add d (j + 1)) (Reads ts Stmt d i) (Parse.expr ts d (j + 1)) _ (expr_sound d (j + 1))
        (λ u k v. end_all ts (Reads ts Stmt d i) Semicolon u (ok (assign (kind_at ts j) e u)) k
        (λ f. reads (i_assign c r.is v.is) (run_of r ▸ row ts j (kind_at ts j) refl (assign_mark (kind_at ts j) c) ▸ run_of v ▸ row ts k Semicolon f refl)))
    assign_by false i e j c r =
        end_in_all ts (Reads ts Stmt d i) _ Semicolon e (ok (plain e)) j
        (λ f. reads (i_plain r.is) (run_of r ▸ row ts j Semicolon f refl))

    stmt_by : (l : StmtLead) (i : ℕ) → StmtIs (kind_at ts i) l → All (Reads ts Stmt d i) (Parse.stmt_by ts d p l i)
    unfolding Parse.stmt_by yield
    stmt_by declaring i b =
        named_all ts (Reads ts Stmt d i) _ (i + 1) (λ f. want_all ts (Reads ts Stmt d i) Equals _ (i + 1 + 1) (λ h.
        then_all (Reads ts Add d (i + 1 + 1 + 1)) (Reads ts Stmt d i) (Parse.expr ts d (i + 1 + 1 + 1)) _ (expr_sound d (i + 1 + 1 + 1))
        (λ e k r. end_all ts (Reads ts Stmt d i) Semicolon e (ok (decl (kind_at ts i) (spelling_of (tok_at ts (i + 1))) e)) k (λ c.
        reads (i_decl b r.is)
        (row ts i (kind_at ts i) refl (declaring_mark (kind_at ts i) b) ▸ name_row ts (i + 1) f ▸ row ts (i + 1 + 1) Equals h refl ▸ run_of r ▸ row ts k Semicolon c refl)))))
    stmt_by returning i b =
        then_all (Reads ts Add d (i + 1)) (Reads ts Stmt d i) (Parse.expr ts d (i + 1)) _ (expr_sound d (i + 1))
        (λ e k r. end_all ts (Reads ts Stmt d i) Semicolon e (ok (ret e)) k
        (λ c. reads (i_ret r.is) (row ts i KeywordReturn b refl ▸ run_of r ▸ row ts k Semicolon c refl)))
    stmt_by branching i b =
        want_all ts (Reads ts Stmt d i) KeywordGuard _ (i + 1) (λ e. want_all ts (Reads ts Stmt d i) LParen _ (i + 1 + 1) (λ f.
        named_all ts (Reads ts Stmt d i) _ (i + 1 + 1 + 1) (λ h. want_all ts (Reads ts Stmt d i) RParen _ (i + 1 + 1 + 1 + 1) (λ c.
        bodies_sound i (spelling_of (tok_at ts (i + 1 + 1 + 1))) (i + 1 + 1 + 1 + 1 + 1)
        (row ts i KeywordIf b refl ▸ row ts (i + 1) KeywordGuard e refl ▸ row ts (i + 1 + 1) LParen f refl ▸ name_row ts (i + 1 + 1 + 1) h ▸ row ts (i + 1 + 1 + 1 + 1) RParen c refl)))))
    stmt_by expression i b =
        then_all (Reads ts Add d i) (Reads ts Stmt d i) (Parse.expr ts d i) _ (expr_sound d i) (λ e j r. assign_by (is_assign (kind_at ts j)) i e j refl r)

    stmt_over : (i : ℕ) → All (Reads ts Stmt d i) (Parse.stmt ts d p i)
    unfolding Parse.stmt
    stmt_over i = stmt_by (stmt_lead (kind_at ts i)) i (stmt_is (kind_at ts i))

  pub body_sound : (d o : ℕ) → o < length ts → All (BodyUnder ts d o) (Parse.body ts d o)
  unfolding Parse.body
  body_sound zero o h = tt
  body_sound (suc d) o h =
      then_all (λ l j. Reads ts Stmts d (o + 1) l j × (kind_at ts j ≡ RBrace)) (Body ts d o)
      (Parse.list_to ts RBrace body_things (Parse.stmt ts d (Parse.body ts d)) (o + 1)) _
      (list_sound Stmts Stmt d i_no_stmts (λ l s a b. i_stmts a b) (omega arith) RBrace body_things (Parse.stmt ts d (Parse.body ts d))
      (stmt_over d (Parse.body ts d) (body_sound d)) (o + 1) (omega arith))
      (λ l j r. record { last = j; reads = r.0; brace = r.1; next = refl })

  pub stmt_sound : (d i : ℕ) → All (Reads ts Stmt d i) (Parse.stmt ts d (Parse.body ts d) i)
  stmt_sound d i = stmt_over d (Parse.body ts d) (body_sound d) i

  -- ---- name `{` contents `}` behind a keyword

  module _ (Ns M : Nt) (d : ℕ) (nil : Is true Ns d none) (join : (l s : Tree) → Is true Ns d l → Is true M d s → Is true Ns d (seq l s)) (wide : 1 ≤ fewest M)
      (also : ℕ) (p : P) (p_sound : (i : ℕ) → All (Reads ts M d i) (p i)) where
    pub braced_sound : (C : Tree → ℕ → Type 0) (i : ℕ) (f : List ℕ → Tree → P)
        → ((w : List ℕ) (l : Tree) (j : ℕ) → Is true Ns d l → Run ts (i + 1) (name w ∷ sign LBrace ∷ (yield l ++ (sign RBrace ∷ []))) j → All C (f w l j))
        → All C (Parse.braced ts also p f i)
    unfolding Parse.braced
    braced_sound C i f h =
        named_all ts C _ (i + 1) (λ a. want_all ts C LBrace _ (i + 1 + 1) (λ b.
        then_all (λ l j. Reads ts Ns d (i + 1 + 1 + 1) l j × (kind_at ts j ≡ RBrace)) C (Parse.list_to ts RBrace also p (i + 1 + 1 + 1)) _
        (list_sound Ns M d nil join wide RBrace also p p_sound (i + 1 + 1 + 1) (omega (arith, here ts (i + 1 + 1) LBrace b refl)))
        (λ l j r. h (spelling_of (tok_at ts (i + 1))) l (j + 1) r.0.is
        (name_row ts (i + 1) a ▸ row ts (i + 1 + 1) LBrace b refl ▸ run_of r.0 ▸ row ts j RBrace r.1 refl))))

  -- ---- units

  item_by : (c : Bool) (i : ℕ) → is_text (kind_at ts i) ≡ c → All (Reads ts Item 64 i) (Parse.item_by ts c i)
  unfolding Parse.item_by yield
  item_by true i c =
      quoted_all ts (Reads ts Item 64 i) _ (i + 1) (λ e. want_all ts (Reads ts Item 64 i) Semicolon (ok (text (kind_at ts i) (spelling_of (tok_at ts (i + 1))))) (i + 1 + 1) (λ f.
      reads (i_text c) (row ts i (kind_at ts i) refl (text_mark (kind_at ts i) c) ▸ string_row ts (i + 1) e ▸ row ts (i + 1 + 1) Semicolon f refl)))
  item_by false i c =
      map_all (Reads ts Stmt 64 i) (Reads ts Item 64 i) (Parse.stmt ts 64 (Parse.body ts 64) i) (stmt_sound 64 i) (λ t j r. taken_as i_stmt r)

  pub item_sound : (i : ℕ) → All (Reads ts Item 64 i) (Parse.item ts i)
  unfolding Parse.item
  item_sound i = item_by (is_text (kind_at ts i)) i refl

  pub unit_sound : (i : ℕ) → kind_at ts i ≡ KeywordUnit → All (Reads ts Decl 64 i) (Parse.unit_at ts i)
  unfolding Parse.unit_at yield
  unit_sound i e =
      braced_sound Items Item 64 i_no_items (λ l s a b. i_items a b) (omega arith) unit_things (Parse.item ts) item_sound
      (Reads ts Decl 64 i) i _
      (λ w l j h r. reads (i_unit h) (row ts i KeywordUnit e refl ▸ r))

  -- ---- maps

  count_by : (b : Bool) (i : ℕ) (c : Tree) (k : ℕ) → Reads ts Chain 64 i c k → is_shift (kind_at ts k) ≡ true → kind_at ts (k + 1) ≡ Number → leb (bits_in (tok_at ts (k + 1))) 63 ≡ b
      → All (Reads ts Chain 64 i) (Parse.count_by ts b c k (bits_in (tok_at ts (k + 1))) (k + 1 + 1))
  unfolding Parse.count_by yield
  count_by true i c k r s e b =
      reads (i_shifted r.is s (λ _. b)) (run_of r ▸ row ts k (kind_at ts k) refl (shift_mark (kind_at ts k) s) ▸ value_row ts (k + 1) e)
  count_by false i c k r s e b = tt

  pub chain_next : (i : ℕ) (c : Tree) (k : ℕ) → Reads ts Chain 64 i c k → is_shift (kind_at ts k) ≡ true → All (Reads ts Chain 64 i) (Parse.chain_step ts c k)
  unfolding Parse.chain_step
  chain_next i c k r s =
      valued_all ts (Reads ts Chain 64 i) _ (k + 1) (λ e. count_by (leb (bits_in (tok_at ts (k + 1))) 63) i c k r s e refl)

  pub chain_sound : (i : ℕ) → All (Reads ts Chain 64 i) (Parse.chain ts i)
  unfolding Parse.chain yield
  chain_sound i =
      valued_all ts (Reads ts Chain 64 i) _ i (λ e.
      loop_all ts (Reads ts Chain 64 i) (λ r. is_shift (kind_at ts r)) (Parse.chain_step ts) (chain_next i) (first (bits_in (tok_at ts i))) (i + 1) (reads i_first (value_row ts i e)))

  type_by : (b : Bool) (i : ℕ) → kind_at ts i ≡ KeywordType → kind_at ts (i + 1) ≡ Colon → kind_at ts (i + 1 + 1) ≡ Dot → kind_at ts (i + 1 + 1 + 1) ≡ Identifier
      → eqb (map_type_number (spelling_of (tok_at ts (i + 1 + 1 + 1)))) 0 ≡ b
      → All (Reads ts MapField 64 i) (Parse.type_by ts b (spelling_of (tok_at ts (i + 1 + 1 + 1))) (i + 1 + 1 + 1 + 1))
  unfolding Parse.type_by yield
  type_by true i e f h c b = tt
  type_by false i e f h c b =
      want_all ts (Reads ts MapField 64 i) Semicolon (ok (map_type (spelling_of (tok_at ts (i + 1 + 1 + 1))))) (i + 1 + 1 + 1 + 1) (λ s.
      reads (i_type (λ _. ap not b))
      (row ts i KeywordType e refl ▸ row ts (i + 1) Colon f refl ▸ row ts (i + 1 + 1) Dot h refl ▸ name_row ts (i + 1 + 1 + 1) c ▸ row ts (i + 1 + 1 + 1 + 1) Semicolon s refl))

  key_by : (b : Bool) (i : ℕ) → is_typed (kind_at ts i) ≡ true → kind_at ts (i + 1) ≡ Colon → is_type (kind_at ts (i + 1 + 1)) ≡ b
      → All (Reads ts MapField 64 i) (Parse.key_by ts b (kind_at ts i) (i + 1 + 1))
  unfolding Parse.key_by yield
  key_by true i e f b =
      want_all ts (Reads ts MapField 64 i) Semicolon (ok (typed (kind_at ts i) (kind_at ts (i + 1 + 1)))) (i + 1 + 1 + 1) (λ s.
      reads (i_typed e b)
      (row ts i (kind_at ts i) refl (typed_mark (kind_at ts i) e) ▸ row ts (i + 1) Colon f refl ▸ row ts (i + 1 + 1) (kind_at ts (i + 1 + 1)) refl (type_mark (kind_at ts (i + 1 + 1)) b)
      ▸ row ts (i + 1 + 1 + 1) Semicolon s refl))
  key_by false i e f b = tt

  limit_by : (a b : Bool) (i : ℕ) (c : Tree) (k : ℕ) → kind_at ts i ≡ KeywordMax → kind_at ts (i + 1) ≡ Colon → Reads ts Chain 64 (i + 1 + 1) c k
      → leb (2 ^ 63) (max_bits c) ≡ a → not (leb (max_bits c) most32) ≡ b → All (Reads ts MapField 64 i) (Parse.limit_by ts a b c k)
  unfolding Parse.limit_by yield
  limit_by true b i c k e f r p q = tt
  limit_by false true i c k e f r p q = tt
  limit_by false false i c k e f r p q =
      want_in_all ts (Reads ts MapField 64 i) _ Semicolon (ok (limit c)) k (λ s.
      reads (i_limit r.is (λ _. rw p (not-false (leb (max_bits c) most32) q))) (row ts i KeywordMax e refl ▸ row ts (i + 1) Colon f refl ▸ run_of r ▸ row ts k Semicolon s refl))

  field_by : (l : FieldLead) (i : ℕ) → FieldIs (kind_at ts i) l → All (Reads ts MapField 64 i) (Parse.map_field_by ts l i)
  unfolding Parse.map_field_by
  field_by typing i e =
      want_all ts (Reads ts MapField 64 i) Colon _ (i + 1) (λ f. want_all ts (Reads ts MapField 64 i) Dot _ (i + 1 + 1) (λ h.
      named_all ts (Reads ts MapField 64 i) _ (i + 1 + 1 + 1) (λ c. type_by (eqb (map_type_number (spelling_of (tok_at ts (i + 1 + 1 + 1)))) 0) i e f h c refl)))
  field_by keying i e = want_all ts (Reads ts MapField 64 i) Colon _ (i + 1) (λ f. key_by (is_type (kind_at ts (i + 1 + 1))) i e f refl)
  field_by limiting i e =
      want_all ts (Reads ts MapField 64 i) Colon _ (i + 1) (λ f.
      then_all (Reads ts Chain 64 (i + 1 + 1)) (Reads ts MapField 64 i) (Parse.chain ts (i + 1 + 1)) _ (chain_sound (i + 1 + 1))
      (λ c k r. limit_by (leb (2 ^ 63) (max_bits c)) (not (leb (max_bits c) most32)) i c k e f r refl refl))
  field_by nothing i e = tt

  pub map_field_sound : (i : ℕ) → All (Reads ts MapField 64 i) (Parse.map_field ts i)
  unfolding Parse.map_field
  map_field_sound i = field_by (field_lead (kind_at ts i)) i (field_is (kind_at ts i))

  map_end : (f i : ℕ) (w : List ℕ) (l : Tree) (j : ℕ) → Is true MapFields 64 l
      → Run ts i (sign KeywordMap ∷ name w ∷ sign LBrace ∷ (yield l ++ (sign RBrace ∷ []))) j
      → lacking (type_of l) (typed_by KeywordKey l) (typed_by KeywordValue l) (limit_of l) ≡ f → All (Reads ts Decl 64 i) (Parse.map_end ts f w l j)
  unfolding Parse.map_end yield
  map_end zero i w l j h r e = reads (i_map h (λ _. eq-eqb _ 0 e)) r
  map_end (suc f) i w l j h r e = tt

  pub map_sound : (i : ℕ) → kind_at ts i ≡ KeywordMap → All (Reads ts Decl 64 i) (Parse.map_at ts i)
  unfolding Parse.map_at
  map_sound i e =
      braced_sound MapFields MapField 64 i_no_fields (λ l s a b. i_fields a b) (omega arith) map_fields (Parse.map_field ts) map_field_sound
      (Reads ts Decl 64 i) i _
      (λ w l j h r. map_end (lacking (type_of l) (typed_by KeywordKey l) (typed_by KeywordValue l) (limit_of l)) i w l j h (row ts i KeywordMap e refl ▸ r) refl)

  -- ---- events

  length_by : (b : Bool) (C : Tree → ℕ → Type 0) (f : ℕ → Tree) (k : ℕ) → leb (bits_in (tok_at ts k)) most32 ≡ b
      → (leb (bits_in (tok_at ts k)) most32 ≡ true → kind_at ts (k + 1) ≡ RBracket → kind_at ts (k + 1 + 1) ≡ Semicolon → C (f (bits_in (tok_at ts k))) (k + 1 + 1 + 1))
      → All C (Parse.length_by ts b f (bits_in (tok_at ts k)) k (k + 1))
  unfolding Parse.length_by
  length_by true C f k b h =
      want_all ts C RBracket _ (k + 1) (λ e. want_all ts C Semicolon (ok (f (bits_in (tok_at ts k)))) (k + 1 + 1) (λ s. h b e s))
  length_by false C f k b h = tt

  length_sound : (C : Tree → ℕ → Type 0) (f : ℕ → Tree) (k : ℕ)
      → (kind_at ts k ≡ Number → leb (bits_in (tok_at ts k)) most32 ≡ true → kind_at ts (k + 1) ≡ RBracket → kind_at ts (k + 1 + 1) ≡ Semicolon
      → C (f (bits_in (tok_at ts k))) (k + 1 + 1 + 1))
      → All C (Parse.length_at ts f k)
  unfolding Parse.length_at
  length_sound C f k h = valued_all ts C _ k (λ e. length_by (leb (bits_in (tok_at ts k)) most32) C f k refl (h e))

  module _ (i : ℕ) (e : kind_at ts i ≡ Identifier) (f : kind_at ts (i + 1) ≡ Colon) where
    array_by : (c : Bool) → is_type (kind_at ts (i + 1 + 1)) ≡ true → eqb (kind_at ts (i + 1 + 1 + 1)) LBracket ≡ c
        → All (Reads ts EventField 64 i) (Parse.array_by ts c (spelling_of (tok_at ts i)) (i + 1 + 1))
    unfolding Parse.array_by yield
    array_by true t c =
        length_sound (Reads ts EventField 64 i) (λ v. array_field (spelling_of (tok_at ts i)) (kind_at ts (i + 1 + 1)) v) (i + 1 + 1 + 1 + 1) (λ n b x s.
        reads (i_array_field t (λ _. b))
        (name_row ts i e ▸ row ts (i + 1) Colon f refl ▸ row ts (i + 1 + 1) (kind_at ts (i + 1 + 1)) refl (type_mark (kind_at ts (i + 1 + 1)) t)
        ▸ row ts (i + 1 + 1 + 1) LBracket (eqb-true (kind_at ts (i + 1 + 1 + 1)) LBracket c) refl ▸ value_row ts (i + 1 + 1 + 1 + 1) n
        ▸ row ts (i + 1 + 1 + 1 + 1 + 1) RBracket x refl ▸ row ts (i + 1 + 1 + 1 + 1 + 1 + 1) Semicolon s refl))
    array_by false t c =
        want_in_all ts (Reads ts EventField 64 i) _ Semicolon (ok (plain_field (spelling_of (tok_at ts i)) (kind_at ts (i + 1 + 1))))
        (i + 1 + 1 + 1) (λ s.
        reads (i_plain_field t)
        (name_row ts i e ▸ row ts (i + 1) Colon f refl ▸ row ts (i + 1 + 1) (kind_at ts (i + 1 + 1)) refl (type_mark (kind_at ts (i + 1 + 1)) t) ▸ row ts (i + 1 + 1 + 1) Semicolon s refl))

    event_by : (l : EventLead) → EventIs (kind_at ts (i + 1 + 1)) l → All (Reads ts EventField 64 i) (Parse.event_type_by ts l (spelling_of (tok_at ts i)) (i + 1 + 1))
    unfolding Parse.event_type_by yield
    event_by type_lead t = array_by (eqb (kind_at ts (i + 1 + 1 + 1)) LBracket) t refl
    event_by bytes_lead t =
        want_all ts (Reads ts EventField 64 i) LBracket _ (i + 1 + 1 + 1) (λ a.
        length_sound (Reads ts EventField 64 i) (λ v. bytes_field (spelling_of (tok_at ts i)) v) (i + 1 + 1 + 1 + 1) (λ n b x s.
        reads (i_bytes_field (λ _. b))
        (name_row ts i e ▸ row ts (i + 1) Colon f refl ▸ row ts (i + 1 + 1) KeywordBytes t refl ▸ row ts (i + 1 + 1 + 1) LBracket a refl ▸ value_row ts (i + 1 + 1 + 1 + 1) n
        ▸ row ts (i + 1 + 1 + 1 + 1 + 1) RBracket x refl ▸ row ts (i + 1 + 1 + 1 + 1 + 1 + 1) Semicolon s refl)))
    event_by no_lead t = tt

  pub event_field_sound : (i : ℕ) → All (Reads ts EventField 64 i) (Parse.event_field ts i)
  unfolding Parse.event_field
  event_field_sound i =
      named_all ts (Reads ts EventField 64 i) _ i (λ e. want_all ts (Reads ts EventField 64 i) Colon _ (i + 1) (λ f.
      event_by i e f (event_lead (kind_at ts (i + 1 + 1))) (event_is (kind_at ts (i + 1 + 1)))))

  pub event_sound : (i : ℕ) → kind_at ts i ≡ KeywordEvent → All (Reads ts Decl 64 i) (Parse.event_at ts i)
  unfolding Parse.event_at yield
  event_sound i e =
      braced_sound EventFields EventField 64 i_no_event_fields (λ l s a b. i_event_fields a b) (omega arith) event_fields
      (Parse.event_field ts) event_field_sound (Reads ts Decl 64 i) i _
      (λ w l j h r. reads (i_event h) (row ts i KeywordEvent e refl ▸ r))

  -- ---- programs

  top_by : (l : TopLead) (i : ℕ) → TopIs (kind_at ts i) l → All (Reads ts Decl 64 i) (Parse.top_by ts l i)
  unfolding Parse.top_by
  top_by map_lead i e = map_sound i e
  top_by unit_lead i e = unit_sound i e
  top_by event_top i e = event_sound i e
  top_by no_top i e = tt

  pub top_sound : (i : ℕ) → All (Reads ts Decl 64 i) (Parse.top ts i)
  unfolding Parse.top
  top_sound i = top_by (top_lead (kind_at ts i)) i (top_is (kind_at ts i))

  -- the declarations of a program, up to the row that ends them
  pub decls_sound : All (λ l j. Reads ts Decls 64 0 l j × (kind_at ts j ≡ Eof)) (Parse.list_to ts Eof tops (Parse.top ts) 0)
  decls_sound = list_sound Decls Decl 64 i_no_decls (λ l s a b. i_decls a b) (omega arith) Eof tops (Parse.top ts) top_sound 0 (omega arith)

  -- what is accepted is a program, of any tokens
  pub accepted_is : All (λ t j. Is true Program 64 t) (Parse.parse ts)
  unfolding Parse.parse
  accepted_is =
      then_all (λ l j. Reads ts Decls 64 0 l j × (kind_at ts j ≡ Eof)) (λ t j. Is true Program 64 t)
      (Parse.list_to ts Eof tops (Parse.top ts) 0) _ decls_sound (λ l j r. i_program r.0.is)

  -- the same, with the ending row, where the table has an Eof
  module _ (e : ℕ) (inside : e < length ts) (eof : kind_at ts e ≡ Eof) where
    ends_before : (l : Tree) (j : ℕ) → Reads ts Decls 64 0 l j → j ≤ e
    ends_before l j r = go (ltb e j) refl
      where
        go : (b : Bool) → ltb e j ≡ b → j ≤ e
        go true b = absurd (r.clear e (omega arith) (ltb-true e j b) eof)
        go false b = ltb-false e j b

    whole_program : (l : Tree) (j : ℕ) → Reads ts Decls 64 0 l j → kind_at ts j ≡ Eof → Accepts ts (program l) (j + 1)
    unfolding yield width
    whole_program l j r k =
        let h : j < length ts = omega (arith, ends_before l j r) in
        record {
          is = i_program r.is;
          next = omega (arith, r.next);
          inside = omega arith;
          stop = j;
          behind = refl;
          closed = k;
          same = λ p. r.same p ∙ rw (from ts j h, sign_of (tok_at ts j) Eof k refl) (sym (append_assoc (yield l) (sign Eof ∷ []) (drop (j + 1) ts)));
        }

    pub program_sound : All (Accepts ts) (Parse.parse ts)
    unfolding Parse.parse
    program_sound =
        then_all (λ l j. Reads ts Decls 64 0 l j × (kind_at ts j ≡ Eof)) (Accepts ts)
        (Parse.list_to ts Eof tops (Parse.top ts) 0) _ decls_sound (λ l j r. whole_program l j r.0 r.1)

    -- The theorem: what is accepted is a program, and the rows are its tokens, and then what stands behind the Eof.
    pub parse_sound : (t : Tree) (j : ℕ) → Proper ts → Parse.parse ts ≡ ok t j → Is true Program 64 t × (ts ≡ yield t ++ drop j ts)
    parse_sound t j p f =
        let a : Accepts ts t j = all_ok (Accepts ts) (Parse.parse ts) t j program_sound f in
        (a.is, a.same p)

  -- In a table whose one Eof is its last row, all rows are the program's tokens.
  pub parse_whole : (t : Tree) (j : ℕ) → Whole ts → Parse.parse ts ≡ ok t j → Is true Program 64 t × (ts ≡ yield t) × (j ≡ length ts)
  parse_whole t j w f =
      let h : w.last < length ts = omega (arith, w.long) in
      let a : Accepts ts t j = all_ok (Accepts ts) (Parse.parse ts) t j (program_sound w.last h w.closed) f in
      let n : j ≡ length ts = go a (ltb a.stop w.last) refl in
      (a.is, a.same w.proper ∙ rw (n, drop-length ts, append-nil (yield t)), n)
    where
      go : (a : Accepts ts t j) (b : Bool) → ltb a.stop w.last ≡ b → j ≡ length ts
      go a true b = absurd (w.only a.stop (ltb-true a.stop w.last b) a.closed)
      go a false b = omega (arith, a.inside, a.behind, w.long, ltb-false a.stop w.last b)
