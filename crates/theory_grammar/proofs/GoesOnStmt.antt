-- Refused statements and units: what was read up to the lost row goes on with each kind that is told.
use mathlib.Core.Path.{◌≡◌, refl, sym, ap, ◌∙◌, subst}
use mathlib.Core.Bool.{Bool, true, false}
use mathlib.Core.List.{List, [], ◌∷◌, ◌++◌, append_assoc, append-nil}
use Prim.Native.Nat.{ℕ, zero, suc, ◌+◌, ◌≤◌}
use native.Mathlib.Omega.{arith}
use lib.Dec.{eqb}
use lib.ListN.{length}
use borrow.Author.Tests.{eqb-true}
use Rattle.rules.specs.declared.Syntax.{Syntax}
use Rattle.rules.specs.declared.Syntax.TheVariants.{CallOnOther, TooDeep}
use Rattle.rules.specs.Kinds.{KeywordUnit, KeywordReturn, KeywordIf, KeywordElse, KeywordGuard, LBrace, RBrace, LParen, RParen, Semicolon, Equals, PlusEquals, Identifier, StringLiteral}
use Rattle.rules.specs.Tree.{Tok, sign, name, value, string, spelling_of, Tree, none, num, decl, ret, plain, assign, guard, then_body, else_body, text, unit, yield}
use Rattle.rules.specs.Fits.{only, has, assigns, body_things, unit_things, wrong}
use Rattle.rules.specs.Parse
use Rattle.rules.specs.Parse.{Out, ok, P, then, is_assign, is_text, StmtLead, declaring, returning, branching, expression, stmt_lead, tok_at, kind_at}
use Rattle.rules.specs.Grammar.{Add, Stmt, Stmts, Item, Items, Decl, Is, i_decl, i_ret, i_plain, i_assign, i_if, i_if_else, i_no_stmts, i_stmts, i_stmt, i_text, i_no_items, i_items, i_unit}
use Rattle.theory_grammar.specs.Tokens.{Proper}
use Rattle.theory_grammar.specs.Lost.{is_misfit, is_check}
use Rattle.theory_grammar.proofs.Leads.{StmtIs, stmt_is, assign_mark, declaring_mark, text_mark}
use Rattle.theory_grammar.proofs.Laws.{here}
use Rattle.theory_grammar.proofs.Runs.{Run, run_none, row, name_row, string_row, ◌▸◌, map_all, need_all}
use Rattle.theory_grammar.proofs.Sound.{Reads, BodyUnder, run_of, expr_sound, body_run, body_sound, stmt_sound, item_sound}
use Rattle.theory_grammar.proofs.Cases
use Rattle.theory_grammar.proofs.Local
use Rattle.theory_grammar.proofs.Local.{Dead, dead_then, Local, brace_row, Alike, later, body_at, body_over, branch_local, item_local}
use Rattle.theory_grammar.proofs.Members.{done, ◌and◌}
use Rattle.theory_grammar.proofs.Grow.{joins_apart, add_on, stmt_kinds, item_kinds, stmt_begins, item_begins, stmts_else, items_else, nought}
use Rattle.theory_grammar.proofs.Begun.{fitting, shut, over, lax, around_it, Open, opened, code, top, Halt, wrap, recast, widen, Start, start, stmt_starts, item_starts}
use Rattle.theory_grammar.proofs.Halts.{Stuck, stuck_as, then_stuck, then_any, need_stuck, Dooms, same_kind, self, at_kind, at_first, at_next, Refusal, Refused, wanted_one, too_deep, want_halt, end_halt, named_halt, quoted_halt, last_halt, Below, below, onward_open}
use Rattle.theory_grammar.proofs.GoesOnExpr.{expr_stuck, expr_alike}
use Rattle.theory_grammar.proofs.GoesOnList.{Thing, inside, list_stuck, braced_stuck}

module _ (ts : List Tok) (proper : Proper ts) where
  stmt_alike : (d i : ℕ) (ts' : List Tok) (n : ℕ) → Alike ts ts' n
      → Local ts n i (i + 1) (Parse.stmt ts d (Parse.body ts d) i) (Parse.stmt ts' d (Parse.body ts' d) i)
  stmt_alike d i ts' n a =
      Local.stmt_over ts ts' n a d (Parse.body ts d) (Parse.body ts' d) (branch_local ts ts' n a d) i

  -- ---- statements, over what is read behind a brace

  body_read : (d o : ℕ) (l : Tree) (j : ℕ) → kind_at ts o ≡ LBrace → BodyUnder ts d o l j
      → Is false Stmts d l × Run ts o (sign LBrace ∷ (yield l ++ (sign RBrace ∷ []))) j
  body_read zero o l j e u = absurd u
  body_read (suc d) o l j e u = (lax true u.reads.is, body_run ts d o l j e u)

  body_some : (d o : ℕ) (l : Tree) (j : ℕ) → BodyUnder ts d o l j → (d' : ℕ) × (d ≡ suc d')
  body_some zero o l j u = absurd u
  body_some (suc d) o l j u = (d, refl)

  -- a body at its brace, where one is left
  body_alike : (d d' : ℕ) → d ≡ suc d' → (j : ℕ) (ts' : List Tok) (n : ℕ) → Alike ts ts' n
      → Local ts n j (j + 1) (Parse.need ts LBrace (Parse.body ts d) j) (Parse.need ts' LBrace (Parse.body ts' d) j)
  body_alike d d' z j ts' n a =
      subst (λ (m : ℕ). Local ts n j (j + 1) (Parse.need ts LBrace (Parse.body ts m) j) (Parse.need ts' LBrace (Parse.body ts' m) j))
      (sym z)
      (body_at ts ts' n a (suc d') (Parse.body ts (suc d')) (Parse.body ts' (suc d'))
      (body_over ts ts' n a d' (branch_local ts ts' n a d')) j)

  module _ (d : ℕ) (under : Below ts Stmts d (λ x. Parse.body x d)) where
    abbrev B : List Tok → P
    B x = Parse.body x d

    -- a body, at its brace
    need_doom : (j : ℕ) → kind_at ts j ≡ LBrace → (s : ℕ) → Dooms ts (j + 1) (λ x. B x j) s → Dooms ts j (λ x. Parse.need x LBrace (B x) j) s
    need_doom j e s h = (
      omega (arith, h.0),
      λ ts' a. subst (Dead CallOnOther) (sym (Cases.need_yes ts' LBrace (B ts') j (same_kind ts a (omega (arith, h.0)) e))) (h.1 ts' a),
    )

    braces : (C : Syntax → ℕ → Type 0) (j : ℕ) (f : Tree → P) → C (wrong (only LBrace)) j → (kind_at ts j ≡ LBrace → d ≡ 0 → C TooDeep j)
        → ((d' : ℕ) → d ≡ suc d' → (why : Syntax) (r : ℕ) → kind_at ts j ≡ LBrace
        → Refusal ts code Stmts d' (j + 1) (j + 1) (λ x. B x j) why r → C why r)
        → ((l : Tree) (k : ℕ) → Parse.need ts LBrace (B ts) j ≡ ok l k → kind_at ts j ≡ LBrace → BodyUnder ts d j l k → Stuck C (f l k))
        → Stuck C (then (Parse.need ts LBrace (B ts) j) f)
    braces C j f c full inner h =
        then_stuck C (λ l k. (kind_at ts j ≡ LBrace) × BodyUnder ts d j l k) (Parse.need ts LBrace (B ts) j) f
        (need_all ts (λ l k. (kind_at ts j ≡ LBrace) × BodyUnder ts d j l k) LBrace (B ts) j
        (λ e. map_all (BodyUnder ts d j) (λ l k. (kind_at ts j ≡ LBrace) × BodyUnder ts d j l k) (B ts j)
        (body_sound ts d j (here ts j LBrace e refl)) (λ l k b. (e, b))))
        (need_stuck ts C LBrace (B ts) j c
        (λ e. below ts Stmts d B under C j (start ts j LBrace e refl refl) (full e) (λ d' z why r o. inner d' z why r e o)))
        (λ l k q b. h l k q b.0 b.1)

    -- behind `if guard ( name )`
    module _ (i : ℕ) (front : Start ts i)
        (head : Run ts i
        (sign KeywordIf ∷ sign KeywordGuard ∷ sign LParen ∷ name (spelling_of (tok_at ts (i + 1 + 1 + 1))) ∷ sign RParen ∷ [])
        (i + 1 + 1 + 1 + 1 + 1)) where
      abbrev W : List Tok → List ℕ
      W x = spelling_of (tok_at x (i + 1 + 1 + 1))

      abbrev headed : List Tok → List Tok
      headed xs = sign KeywordIf ∷ sign KeywordGuard ∷ sign LParen ∷ name (W ts) ∷ sign RParen ∷ xs

      abbrev brace : ℕ
      brace = i + 1 + 1 + 1 + 1 + 1

      abbrev ElseD : Bool → Tree → ℕ → ℕ → Type 0
      ElseD c b k = Dooms ts k (λ x. Parse.else_by x d (B x) c (W x) (then_body b) k)

      else_by : (c : Bool) (b : Tree) (k : ℕ) → kind_at ts brace ≡ LBrace → BodyUnder ts d brace b k → eqb (kind_at ts k) KeywordElse ≡ c
          → Stuck (Halt code (ElseD c b k) ts Stmt d i) (Parse.else_by ts d (B ts) c (W ts) (then_body b) k)
      unfolding Parse.else_by yield
      else_by true b k e u c =
          let v : Is false Stmts d b × Run ts brace (sign LBrace ∷ (yield b ++ (sign RBrace ∷ []))) k = body_read d brace b k e u in
          let x : Run ts k (sign KeywordElse ∷ []) (k + 1) = row ts k KeywordElse (eqb-true (kind_at ts k) KeywordElse c) refl in
          let y : List Tok = sign LBrace ∷ (yield b ++ (sign RBrace ∷ [])) in
          braces (Halt code (ElseD true b k) ts Stmt d i) (k + 1) _
          (wanted_one ts code (ElseD true b k) Stmt d i LBrace (k + 1)
          (fitting LBrace (guard (W ts) (then_body b) (else_body none)) (i_if_else v.0 i_no_stmts) (sign LBrace ∷ sign RBrace ∷ [])
          (ap headed (sym (append_assoc y (sign KeywordElse ∷ []) (sign LBrace ∷ sign RBrace ∷ [])))) (head ▸ v.1 ▸ x) refl))
          (λ f z. absurd (subst (λ (n : ℕ). BodyUnder ts n brace b k) z u))
          (λ d' z why r f o.
          shut (λ l. guard (W ts) (then_body b) (else_body l))
          (λ l s. around_it (is_misfit why) d d' z (i_if_else (lax (is_misfit why) (then_is d' z b k u)) s))
          (λ _ s h. at_first ts k (k + 1) (λ x. Parse.need x LBrace (B x) (k + 1)) (λ x e r. ok (guard (W x) (then_body b) (else_body e)) r)
          (omega arith) s (need_doom (k + 1) f s h))
          (sign RBrace ∷ []) (λ _. refl)
          (λ l. ap headed (sym (append_assoc y (sign KeywordElse ∷ sign LBrace ∷ []) (yield l ++ (sign RBrace ∷ [])))))
          (head ▸ v.1 ▸ x ▸ row ts (k + 1) LBrace f refl) o)
          (λ l r q f s. tt)
        where
          then_is : (d' : ℕ) → d ≡ suc d' → (b : Tree) (k : ℕ) → BodyUnder ts d (i + 1 + 1 + 1 + 1 + 1) b k → Is true Stmts d' b
          then_is d' z b k u =
              let x : BodyUnder ts (suc d') (i + 1 + 1 + 1 + 1 + 1) b k =
              subst (λ (n : ℕ). BodyUnder ts n (i + 1 + 1 + 1 + 1 + 1) b k) z u in x.reads.is
      else_by false b k e u c = tt

      abbrev bodies : List Tok → Tree → P
      bodies x b k = Parse.else_by x d (B x) (eqb (kind_at x k) KeywordElse) (W x) (then_body b) k

      abbrev BodiesD : ℕ → Type 0
      BodiesD = Dooms ts brace (λ x. then (Parse.need x LBrace (B x) brace) (bodies x))

      bodies_stuck : Stuck (Halt code BodiesD ts Stmt d i) (then (Parse.need ts LBrace (B ts) brace) (bodies ts))
      unfolding yield
      bodies_stuck =
          braces (Halt code BodiesD ts Stmt d i) brace (bodies ts)
          (wanted_one ts code BodiesD Stmt d i LBrace brace
          (fitting LBrace (guard (W ts) (then_body none) none) (i_if i_no_stmts) (sign LBrace ∷ sign RBrace ∷ []) refl head refl))
          (λ f z. too_deep ts code BodiesD Stmt d i brace i (brace_row ts i f)
          (opened (plain (num 0)) (i_plain nought) (value 0 ∷ sign Semicolon ∷ []) refl (run_none ts i front.inside)))
          (λ d' z why r f o. shut (λ l. guard (W ts) (then_body l) none) (λ l s. around_it (is_misfit why) d d' z (i_if s))
          (λ _ s h. at_first ts brace brace (λ x. Parse.need x LBrace (B x) brace) bodies (omega arith) s (need_doom brace f s h))
          (sign RBrace ∷ []) (λ _. refl)
          (λ l. ap (λ (x : List Tok). headed (sign LBrace ∷ x)) (append-nil (yield l ++ (sign RBrace ∷ []))))
          (head ▸ row ts brace LBrace f refl) o)
          (λ b k q e u. let z : (d' : ℕ) × (d ≡ suc d') = body_some d brace b k u in
          stuck_as (Halt code (ElseD (eqb (kind_at ts k) KeywordElse) b k) ts Stmt d i) (Halt code BodiesD ts Stmt d i) (bodies ts b k)
          (else_by (eqb (kind_at ts k) KeywordElse) b k e u refl)
          (λ why r o. widen (λ s h. at_next ts brace k (brace + 1) brace (λ x. Parse.need x LBrace (B x) brace) bodies b q
          (omega (
            arith,
            later ts 0 brace (brace + 1) (Parse.need ts LBrace (B ts) brace) (Parse.need ts LBrace (B ts) brace) b k q
                (body_alike d z.0 z.1 brace ts 0 (self ts)),
          ))
          (body_alike d z.0 z.1 brace) s
          (at_kind ts (λ x m. Parse.else_by x d (B x) (eqb m KeywordElse) (W x) (then_body b) k) k s h)) o))

    -- an expression and `;`, behind rows that were read from row i on
    ended : (D : ℕ → Type 0) (i j : ℕ) (xs : List Tok) (F : Tree → Tree)
        → ((b : Bool) (x : Bool) (u : Tree) → Is b Add (over x d) u → Is b Stmt (over x d) (F u))
        → ((u : Tree) → yield (F u) ≡ xs ++ (yield u ++ (sign Semicolon ∷ []))) → Run ts i xs j → Start ts j
        → ((s : ℕ) → Dooms ts j (λ x. Parse.expr x d j) s → D s)
        → Stuck (Halt code D ts Stmt d i) (then (Parse.expr ts d j) (λ u k. Parse.end ts Semicolon u (ok (F u)) k))
    unfolding Parse.end
    ended D i j xs F made spells x h doom =
        then_stuck (Halt code D ts Stmt d i) (Reads ts Add d j) (Parse.expr ts d j) _ (expr_sound ts d j)
        (stuck_as (Refusal ts code Add d j j (λ x. Parse.expr x d j)) (Halt code D ts Stmt d i) (Parse.expr ts d j)
        (expr_stuck ts proper d j h)
        (λ why r o. wrap F (made (is_check why) (is_misfit why)) (λ _. doom) (sign Semicolon ∷ []) refl spells x o))
        (λ u k e r. end_halt ts code D Stmt d i (only Semicolon) Semicolon u (ok (F u)) k refl
        (onward_open ts proper F (sign Semicolon ∷ []) (made false true) spells x u (run_of r) (only Semicolon) (Semicolon ∷ []) refl
        h.undotted
        (λ n o. add_on ts proper k (lax true r.is) o)
        (fitting Semicolon (F u) (made false true u (lax true r.is)) (sign Semicolon ∷ [])
        (spells u ∙ sym (append_assoc xs (yield u) (sign Semicolon ∷ [])))
        (x ▸ run_of r) refl and done)) (λ e. tt))

    -- behind the expression e that begins a statement
    plain_open : (i : ℕ) (e : Tree) (j : ℕ) → Start ts i → Reads ts Add d i e j → (n : ℕ)
        → has (Parse.onward ts e j + (only Semicolon + assigns)) n ≡ true
        → Open false true ts Stmt d i j n
    unfolding yield
    plain_open i e j h r =
        let q : Is false Add (suc d) e = lax true r.is in
        onward_open ts proper plain (sign Semicolon ∷ []) (λ u s. i_plain s) (λ u. refl) (run_none ts i h.inside) e (run_of r)
        (only Semicolon + assigns)
        (Semicolon ∷ Equals ∷ PlusEquals ∷ []) refl h.undotted (λ n o. add_on ts proper j q o)
        (fitting Semicolon (plain e) (i_plain q) (sign Semicolon ∷ []) refl (run_of r) refl
        and fitting Equals (assign Equals e (num 0)) (i_assign refl q nought) (sign Equals ∷ value 0 ∷ sign Semicolon ∷ []) refl (run_of r)
        refl
        and fitting PlusEquals (assign PlusEquals e (num 0)) (i_assign refl q nought) (sign PlusEquals ∷ value 0 ∷ sign Semicolon ∷ [])
        refl (run_of r) refl
        and done)

    assign_by : (c : Bool) (i : ℕ) (e : Tree) (j : ℕ) → is_assign (kind_at ts j) ≡ c → Start ts i → Reads ts Add d i e j
        → Refused ts code Stmt d i j (λ x. Parse.assign_by x d (B x) c e j)
    unfolding Parse.assign_by yield
    assign_by true i e j c h r =
        ended (Dooms ts j (λ x. Parse.assign_by x d (B x) true e j)) i (j + 1) (yield e ++ (sign (kind_at ts j) ∷ []))
        (λ u. assign (kind_at ts j) e u)
        (λ b x u s. i_assign c (lax x r.is) s)
        (λ u. sym (append_assoc (yield e) (sign (kind_at ts j) ∷ []) (yield u ++ (sign Semicolon ∷ []))))
        (run_of r ▸ row ts j (kind_at ts j) refl (assign_mark (kind_at ts j) c))
        (start ts j (kind_at ts j) refl (assign_mark (kind_at ts j) c) (joins_apart is_assign refl (kind_at ts j) c))
        (at_first ts j (j + 1) (λ x. Parse.expr x d (j + 1)) (λ x r k. Parse.end x Semicolon r (ok (assign (kind_at x j) e r)) k)
        (omega arith))
    assign_by false i e j c h r =
        end_halt ts code (Dooms ts j (λ x. Parse.assign_by x d (B x) false e j)) Stmt d i (only Semicolon + assigns) Semicolon e
        (ok (plain e)) j refl (plain_open i e j h r)
        (λ q. tt)

    abbrev StmtD : StmtLead → ℕ → ℕ → Type 0
    StmtD l i = Dooms ts i (λ x. Parse.stmt_by x d (B x) l i)

    decl_doom : (i : ℕ) → kind_at ts (i + 1) ≡ Identifier → kind_at ts (i + 1 + 1) ≡ Equals → (s : ℕ)
        → Dooms ts (i + 1 + 1 + 1) (λ x. Parse.expr x d (i + 1 + 1 + 1)) s
        → StmtD declaring i s
    unfolding Parse.stmt_by
    decl_doom i a b s h = (
      omega (arith, h.0),
      λ ts' y. subst (Dead CallOnOther)
          (sym (Cases.named_yes ts' _ (i + 1) (same_kind ts y (omega (arith, h.0)) a) ∙ Cases.want_yes ts' Equals _ (i + 1 + 1)
          (same_kind ts y (omega (arith, h.0)) b)))
          (dead_then CallOnOther (Parse.expr ts' d (i + 1 + 1 + 1)) _ (h.1 ts' y)),
    )

    branch_doom : (i : ℕ) → kind_at ts (i + 1) ≡ KeywordGuard → kind_at ts (i + 1 + 1) ≡ LParen → kind_at ts (i + 1 + 1 + 1) ≡ Identifier
        → kind_at ts (i + 1 + 1 + 1 + 1) ≡ RParen
        → (s : ℕ)
        → Dooms ts (i + 1 + 1 + 1 + 1 + 1) (λ x. Parse.bodies x d (B x) (spelling_of (tok_at x (i + 1 + 1 + 1))) (i + 1 + 1 + 1 + 1 + 1)) s
        → StmtD branching i s
    unfolding Parse.stmt_by
    branch_doom i a b c e s h = (
      omega (arith, h.0),
      λ ts' y. subst (Dead CallOnOther)
          (sym (Cases.want_yes ts' KeywordGuard _ (i + 1) (same_kind ts y (omega (arith, h.0)) a) ∙ Cases.want_yes ts' LParen _
          (i + 1 + 1) (same_kind ts y (omega (arith, h.0)) b)
          ∙ Cases.named_yes ts' _ (i + 1 + 1 + 1) (same_kind ts y (omega (arith, h.0)) c) ∙ Cases.want_yes ts' RParen _
          (i + 1 + 1 + 1 + 1) (same_kind ts y (omega (arith, h.0)) e)))
          (h.1 ts' y),
    )

    stmt_by : (l : StmtLead) (i : ℕ) → StmtIs (kind_at ts i) l → Start ts i
        → Stuck (Halt code (StmtD l i) ts Stmt d i) (Parse.stmt_by ts d (B ts) l i)
    unfolding Parse.stmt_by Parse.bodies yield
    stmt_by declaring i b h =
        let x : Run ts i (sign (kind_at ts i) ∷ []) (i + 1) = row ts i (kind_at ts i) refl (declaring_mark (kind_at ts i) b) in
        named_halt ts code (StmtD declaring i) Stmt d i _ (i + 1)
        (fitting Identifier (decl (kind_at ts i) [] (num 0)) (i_decl b nought) (name [] ∷ sign Equals ∷ value 0 ∷ sign Semicolon ∷ []) refl
        x refl) (λ f.
        want_halt ts code (StmtD declaring i) Stmt d i Equals _ (i + 1 + 1)
        (fitting Equals (decl (kind_at ts i) _ (num 0)) (i_decl b nought) (sign Equals ∷ value 0 ∷ sign Semicolon ∷ []) refl
        (x ▸ name_row ts (i + 1) f) refl) (λ s.
        ended (StmtD declaring i) i (i + 1 + 1 + 1) _ (λ u. decl (kind_at ts i) (spelling_of (tok_at ts (i + 1))) u) (λ c y u o. i_decl b o)
        (λ u. refl)
        (x ▸ name_row ts (i + 1) f ▸ row ts (i + 1 + 1) Equals s refl) (start ts (i + 1 + 1) Equals s refl refl) (decl_doom i f s)))
    stmt_by returning i b h =
        ended (StmtD returning i) i (i + 1) _ ret (λ c y u o. i_ret o) (λ u. refl) (row ts i KeywordReturn b refl)
        (start ts i KeywordReturn b refl refl)
        (at_first ts i (i + 1) (λ x. Parse.expr x d (i + 1)) (λ x e k. Parse.end x Semicolon e (ok (ret e)) k) (omega arith))
    stmt_by branching i b h =
        let x : Run ts i (sign KeywordIf ∷ []) (i + 1) = row ts i KeywordIf b refl in
        want_halt ts code (StmtD branching i) Stmt d i KeywordGuard _ (i + 1)
        (fitting KeywordGuard (guard [] (then_body none) none) (i_if i_no_stmts)
        (sign KeywordGuard ∷ sign LParen ∷ name [] ∷ sign RParen ∷ sign LBrace ∷ sign RBrace ∷ []) refl x refl)
        (λ e.
        want_halt ts code (StmtD branching i) Stmt d i LParen _ (i + 1 + 1)
        (fitting LParen (guard [] (then_body none) none) (i_if i_no_stmts)
        (sign LParen ∷ name [] ∷ sign RParen ∷ sign LBrace ∷ sign RBrace ∷ []) refl
        (x ▸ row ts (i + 1) KeywordGuard e refl) refl) (λ f.
        let y : Run ts i (sign KeywordIf ∷ sign KeywordGuard ∷ sign LParen ∷ []) (i + 1 + 1 + 1) =
        x ▸ row ts (i + 1) KeywordGuard e refl ▸ row ts (i + 1 + 1) LParen f refl in
        named_halt ts code (StmtD branching i) Stmt d i _ (i + 1 + 1 + 1)
        (fitting Identifier (guard [] (then_body none) none) (i_if i_no_stmts) (name [] ∷ sign RParen ∷ sign LBrace ∷ sign RBrace ∷ []) refl
        y refl) (λ s.
        want_halt ts code (StmtD branching i) Stmt d i RParen _ (i + 1 + 1 + 1 + 1)
        (fitting RParen (guard _ (then_body none) none) (i_if i_no_stmts) (sign RParen ∷ sign LBrace ∷ sign RBrace ∷ []) refl
        (y ▸ name_row ts (i + 1 + 1 + 1) s) refl) (λ c.
        stuck_as (Halt code (BodiesD i h (y ▸ name_row ts (i + 1 + 1 + 1) s ▸ row ts (i + 1 + 1 + 1 + 1) RParen c refl)) ts Stmt d i)
        (Halt code (StmtD branching i) ts Stmt d i)
        (Parse.bodies ts d (B ts) (spelling_of (tok_at ts (i + 1 + 1 + 1))) (i + 1 + 1 + 1 + 1 + 1))
        (bodies_stuck i h (y ▸ name_row ts (i + 1 + 1 + 1) s ▸ row ts (i + 1 + 1 + 1 + 1) RParen c refl))
        (λ why r o. widen (branch_doom i e f s c) o)))))
    stmt_by expression i b h =
        let f : List Tok → Tree → P = λ x e j. Parse.assign_by x d (B x) (is_assign (kind_at x j)) e j in
        then_stuck (Halt code (StmtD expression i) ts Stmt d i) (Reads ts Add d i) (Parse.expr ts d i) (f ts) (expr_sound ts d i)
        (stuck_as (Refusal ts code Add d i i (λ x. Parse.expr x d i)) (Halt code (StmtD expression i) ts Stmt d i) (Parse.expr ts d i)
        (expr_stuck ts proper d i h)
        (λ why r o. wrap plain (λ u s. i_plain s) (λ _. at_first ts i i (λ x. Parse.expr x d i) f (omega arith)) (sign Semicolon ∷ []) refl
        (λ u. refl) (run_none ts i h.inside) o))
        (λ e j q r. stuck_as (Refusal ts code Stmt d i j (λ x. Parse.assign_by x d (B x) (is_assign (kind_at ts j)) e j))
        (Halt code (StmtD expression i) ts Stmt d i) (f ts e j)
        (assign_by (is_assign (kind_at ts j)) i e j refl h r)
        (λ why k o. widen (λ s h. at_next ts i j (i + 1) i (λ x. Parse.expr x d i) f e q (omega (arith, r.next))
        (expr_alike ts proper d i) s
        (at_kind ts (λ x m. Parse.assign_by x d (B x) (is_assign m) e j) j s h)) o))

    stmt_over : (i : ℕ) → i ≤ length ts → Start ts i → Refused ts code Stmt d i i (λ x. Parse.stmt x d (B x) i)
    unfolding Parse.stmt
    stmt_over i l h =
        stuck_as (Halt code (StmtD (stmt_lead (kind_at ts i)) i) ts Stmt d i)
        (Refusal ts code Stmt d i i (λ x. Parse.stmt_by x d (B x) (stmt_lead (kind_at x i)) i))
        (Parse.stmt_by ts d (B ts) (stmt_lead (kind_at ts i)) i) (stmt_by (stmt_lead (kind_at ts i)) i (stmt_is (kind_at ts i)) h)
        (λ why r o. widen (at_kind ts (λ x k. Parse.stmt_by x d (B x) (stmt_lead k) i) i) o)

  body_stuck : (d : ℕ) → Below ts Stmts d (λ x. Parse.body x d)
  unfolding Parse.body
  body_stuck zero = λ o. refl
  body_stuck (suc d) = λ o h.
      let q : List Tok → Out = λ x. Parse.list_to x RBrace body_things (Parse.stmt x d (Parse.body x d)) (o + 1) in
      then_any (Refusal ts code Stmts d (o + 1) (o + 1) (λ x. then (q x) (λ l j. ok l (j + 1)))) (q ts) (λ l j. ok l (j + 1))
      (stuck_as (Refusal ts code Stmts d (o + 1) (o + 1) q) (Refusal ts code Stmts d (o + 1) (o + 1)
      (λ x. then (q x) (λ l j. ok l (j + 1)))) (q ts)
      (list_stuck ts code Stmts Stmt d (λ b n. i_no_stmts) (λ b n l s a c. i_stmts a c) (omega arith) (Start ts) body_things RBrace
      stmt_kinds refl refl refl (stmt_begins d)
      (λ n l s e. stmts_else s e) (λ x. Parse.stmt x d (Parse.body x d)) (stmt_sound ts d) (stmt_starts ts d) (stmt_alike d)
      (λ i l y. stuck_as (Refusal ts code Stmt d i i (λ x. Parse.stmt x d (Parse.body x d) i))
      (Thing ts code Stmt d body_things (λ x. Parse.stmt x d (Parse.body x d)) i)
      (Parse.stmt ts d (Parse.body ts d) i) (stmt_over d (body_stuck d) i l y) (λ why r x. inside x)) (o + 1) h.inside h)
      (λ why r x. widen (at_first ts (o + 1) (o + 1) q (λ x l j. ok l (j + 1)) (omega arith)) x))
      (λ l j. tt)

  stmt_stuck : (d i : ℕ) → Start ts i → Refused ts code Stmt d i i (λ x. Parse.stmt x d (Parse.body x d) i)
  stmt_stuck d i h = stmt_over d (body_stuck d) i h.inside h

  -- ---- units

  item_by : (c : Bool) (i : ℕ) → is_text (kind_at ts i) ≡ c → Start ts i → Refused ts code Item 64 i i (λ x. Parse.item_by x c i)
  unfolding Parse.item_by yield
  item_by true i c h =
      let x : Run ts i (sign (kind_at ts i) ∷ []) (i + 1) = row ts i (kind_at ts i) refl (text_mark (kind_at ts i) c) in
      let D : ℕ → Type 0 = Dooms ts i (λ x. Parse.item_by x true i) in
      quoted_halt ts code D Item 64 i _ (i + 1) (fitting StringLiteral (text (kind_at ts i) []) (i_text c) (string [] ∷ sign Semicolon ∷ [])
      refl x refl) (λ e.
      last_halt ts code D Item 64 i Semicolon _ (i + 1 + 1) (fitting Semicolon (text (kind_at ts i) _) (i_text c) (sign Semicolon ∷ []) refl
      (x ▸ string_row ts (i + 1) e) refl))
  item_by false i c h =
      stuck_as (Refusal ts code Stmt 64 i i (λ x. Parse.stmt x 64 (Parse.body x 64) i))
      (Refusal ts code Item 64 i i (λ x. Parse.stmt x 64 (Parse.body x 64) i))
      (Parse.stmt ts 64 (Parse.body ts 64) i) (stmt_stuck 64 i h)
      (λ why r o. recast (λ u. u) (λ u s. i_stmt s) (λ _ s x. x) refl (λ u. refl) o)

  item_stuck : (i : ℕ) → i ≤ length ts → Start ts i → Refused ts code Item 64 i i (λ x. Parse.item x i)
  unfolding Parse.item
  item_stuck i l h =
      stuck_as (Refusal ts code Item 64 i i (λ x. Parse.item_by x (is_text (kind_at ts i)) i))
      (Refusal ts code Item 64 i i (λ x. Parse.item_by x (is_text (kind_at x i)) i))
      (Parse.item_by ts (is_text (kind_at ts i)) i) (item_by (is_text (kind_at ts i)) i refl h)
      (λ why r o. widen (at_kind ts (λ x k. Parse.item_by x (is_text k) i) i) o)

  item_alike : (i : ℕ) (ts' : List Tok) (n : ℕ) → Alike ts ts' n → Local ts n i (i + 1) (Parse.item ts i) (Parse.item ts' i)
  item_alike i ts' n a = item_local ts ts' n a i

  pub unit_stuck : (i : ℕ) → kind_at ts i ≡ KeywordUnit → Refused ts top Decl 64 i i (λ x. Parse.unit_at x i)
  unfolding Parse.unit_at yield
  unit_stuck i e =
      braced_stuck ts code Items Item 64 (λ b n. i_no_items) (λ b n l s a c. i_items a c) (omega arith) (Start ts) unit_things RBrace
      item_kinds refl refl refl (item_begins 64)
      (λ n l s e. items_else s e) Parse.item (item_sound ts) (item_starts ts) item_alike
      (λ i l y. stuck_as (Refusal ts code Item 64 i i (λ x. Parse.item x i)) (Thing ts code Item 64 unit_things Parse.item i)
      (Parse.item ts i) (item_stuck i l y)
      (λ why r x. inside x))
      refl (λ b. unit) KeywordUnit i (λ x w l k. ok (unit w l) k) (λ b. sign RBrace ∷ []) refl
      (λ b n w l s. i_unit s) (λ b w l. refl) (row ts i KeywordUnit e refl) (λ b. start ts (i + 1 + 1) LBrace b refl refl) (λ w l j s r. tt)
