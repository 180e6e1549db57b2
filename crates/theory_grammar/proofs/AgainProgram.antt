-- The rest of the parser in two tables that have the first n rows alike: lists, statements, units, maps, events and programs.
use mathlib.Core.Path.{◌≡◌, refl, sym, ap, ◌∙◌, subst}
use mathlib.Core.Bool.{Bool, true, false, not, cond, ◌||◌, and-eq-true_iff, true≢false}
use mathlib.Core.List.{List}
use Prim.Native.Nat.{ℕ, zero, suc, ◌+◌, ◌-◌, ◌^◌, ◌≤◌, ◌<◌}
use native.Mathlib.Omega.{arith}
use lib.Dec.{eqb, leb}
use borrow.Author.Tests.{eqb-true, eqb-false, leb-true, not-true}
use Rattle.rules.specs.declared.Syntax.{Syntax}
use Rattle.rules.specs.declared.Syntax.TheVariants.{NotTopLevel, NotMapField, NotType, NotEventType}
use Rattle.rules.specs.Kinds.{TypeU32, TypeU64, TypeI32, TypeI64, KeywordUnit, KeywordSection, KeywordLicense, KeywordReturn, KeywordReg, KeywordImm, KeywordMap, KeywordType, KeywordKey, KeywordValue, KeywordMax, KeywordIf, KeywordElse, KeywordGuard, KeywordHeap, KeywordEvent, LBrace, RBrace, LParen, RParen, Colon, Dot, Semicolon, LBracket, RBracket, Equals, PlusEquals, Shr, Shl, Identifier, KeywordBytes, Eof}
use Rattle.rules.specs.Fits.{only, has, operands, shifts, assigns, body_things, unit_things, event_fields, map_fields, tops, types, event_types, set_told, retold, wrong}
use Rattle.rules.specs.Tree.{Tok, kind_of, Tree, none, decl, ret, plain, assign, guard, then_body, else_body, seq, text, unit, typed, limit, first, shifted, map_decl, plain_field, array_field, bytes_field, event, program, is_sum, hangs, map_type, map_type_number, max_bits, type_of, typed_by, limit_of, lacking, yield}
use Rattle.rules.specs.Parse
use Rattle.rules.specs.Parse.{Out, ok, no, P, then, or, is_shift, is_assign, is_declaring, is_text, is_type, is_typed, most32, StmtLead, declaring, returning, branching, expression, stmt_lead, FieldLead, typing, keying, limiting, nothing, field_lead, EventLead, type_lead, bytes_lead, no_lead, event_lead, TopLead, map_lead, unit_lead, event_top, no_top, top_lead, kind_at, dot_name}
use Rattle.theory_grammar.specs.Lost.{is_misfit, lost}
use Rattle.theory_grammar.proofs.Runs.{All, then_all, or_all}
use Rattle.theory_grammar.proofs.Cases.{then_no, or_here, retold_misfit, retold_lost}
use Rattle.theory_grammar.proofs.Local.{Alike, Local, upward, type_lost, chain_step, stmt_over, branch_local, item_local, map_field_local, event_field_local, top_local}
use Rattle.theory_grammar.proofs.Leads.{FieldIs, field_is}
use Rattle.theory_grammar.proofs.Held.{Misfit, misfit_then, Off, Spared, off, off_kind, spared_of, Near, Free, Again, Held, held_from, other_held, ok_held, then_held, or_held, loop_held, Loop, steps_held}
use Rattle.theory_grammar.proofs.AgainExpr.{around, line_ends, first_ends, first_assigns, AddEnd, add_end, look, look_at, want_in_held, want_held, named_held, name_on, quoted_held, valued_held, need_held, want_spared, end_in_held, end_held, end_spared, end_free, expr_on, expr_held}
use Rattle.theory_grammar.proofs.Laws.{either_kind, three_kinds}
use Rattle.theory_grammar.proofs.Complete.{is_start, start_case}
use Rattle.theory_grammar.proofs.Unread.{is_stmt, is_item, is_field, is_top, stmt_unread, item_unread, event_field_unread, map_field_unread, top_unread}

-- ---- what begins a thing is in the set of its list

-- what holds of each kind that begins a statement
stmt_case : (C : ℕ → Type 0) (k : ℕ) → is_stmt k ≡ true → C KeywordReg → C KeywordImm → C KeywordHeap → C KeywordReturn → C KeywordIf
    → ((k : ℕ) → is_start k ≡ true → C k) → C k
stmt_case C k b p q r s t u = go ((is_declaring k || eqb k KeywordReturn) || eqb k KeywordIf) refl b
  where
    led : (x : Bool) → is_declaring k || eqb k KeywordReturn ≡ x → x || eqb k KeywordIf ≡ true → C k
    led true e f = declares (is_declaring k) refl e
      where
        declares : (y : Bool) → is_declaring k ≡ y → y || eqb k KeywordReturn ≡ true → C k
        declares true e f = three_kinds C k KeywordReg KeywordImm KeywordHeap e p q r
        declares false e f = subst C (sym (eqb-true k KeywordReturn f)) s
    led false e f = subst C (sym (eqb-true k KeywordIf f)) t

    go : (x : Bool) → (is_declaring k || eqb k KeywordReturn) || eqb k KeywordIf ≡ x → x || is_start k ≡ true → C k
    go true e f = led (is_declaring k || eqb k KeywordReturn) refl e
    go false e f = u k f

-- the set of a list, with `else` or not
abbrev with_else : ℕ → Bool → ℕ
with_else s a = s + cond a (only KeywordElse) 0

in_body : (a : Bool) (k : ℕ) → is_stmt k ≡ true → has (with_else body_things a) k ≡ true
unfolding has
in_body true k b =
    stmt_case (λ x. has (with_else body_things true) x ≡ true) k b refl refl refl refl refl
    (λ x c. start_case (λ y. has (with_else body_things true) y ≡ true) x c refl refl refl refl)
in_body false k b =
    stmt_case (λ x. has (with_else body_things false) x ≡ true) k b refl refl refl refl refl
    (λ x c. start_case (λ y. has (with_else body_things false) y ≡ true) x c refl refl refl refl)

in_unit : (a : Bool) (k : ℕ) → is_item k ≡ true → has (with_else unit_things a) k ≡ true
unfolding has
in_unit a k b = go (is_text k) refl b
  where
    texts : (a : Bool) → is_text k ≡ true → has (with_else unit_things a) k ≡ true
    texts true e = either_kind (λ x. has (with_else unit_things true) x ≡ true) k KeywordSection KeywordLicense e refl refl
    texts false e = either_kind (λ x. has (with_else unit_things false) x ≡ true) k KeywordSection KeywordLicense e refl refl

    stmts : (a : Bool) → is_stmt k ≡ true → has (with_else unit_things a) k ≡ true
    stmts true e =
        stmt_case (λ x. has (with_else unit_things true) x ≡ true) k e refl refl refl refl refl
        (λ x c. start_case (λ y. has (with_else unit_things true) y ≡ true) x c refl refl refl refl)
    stmts false e =
        stmt_case (λ x. has (with_else unit_things false) x ≡ true) k e refl refl refl refl refl
        (λ x c. start_case (λ y. has (with_else unit_things false) y ≡ true) x c refl refl refl refl)

    go : (x : Bool) → is_text k ≡ x → x || is_stmt k ≡ true → has (with_else unit_things a) k ≡ true
    go true e f = texts a e
    go false e f = stmts a f

-- the brace that ends a list, and `else` where it may follow
body_rest : (a : Bool) → (has (with_else body_things a) RBrace ≡ true) × (a ≡ true → has (with_else body_things a) KeywordElse ≡ true)
unfolding has
body_rest true = (refl, λ e. refl)
body_rest false = (refl, λ e. absurd (true≢false (sym e)))

unit_rest : (a : Bool) → (has (with_else unit_things a) RBrace ≡ true) × (a ≡ true → has (with_else unit_things a) KeywordElse ≡ true)
unfolding has
unit_rest true = (refl, λ e. refl)
unit_rest false = (refl, λ e. absurd (true≢false (sym e)))

-- what a statement's lead says of what begins an expression
abbrev Begun : ℕ → StmtLead → Type 0
Begun k declaring = Unit {0}
Begun k returning = Unit {0}
Begun k branching = Unit {0}
Begun k expression = is_start k ≡ true

stmt_begun : (k : ℕ) → is_stmt k ≡ true → Begun k (stmt_lead k)
unfolding stmt_lead
stmt_begun k b = go (is_declaring k) (eqb k KeywordReturn) (eqb k KeywordIf) b
  where
    go : (x y z : Bool) → ((x || y) || z) || is_start k ≡ true → Begun k (cond x declaring (cond y returning (cond z branching expression)))
    go true y z b = tt
    go false true z b = tt
    go false false true b = tt
    go false false false b = b

-- fields and declarations
in_map : (k : ℕ) → is_field k ≡ true → has map_fields k ≡ true
unfolding has
in_map k b = go (eqb k KeywordType || is_typed k) refl b
  where
    led : (x : Bool) → eqb k KeywordType ≡ x → x || is_typed k ≡ true → has map_fields k ≡ true
    led true e f = ap (has map_fields) (eqb-true k KeywordType e)
    led false e f = either_kind (λ x. has map_fields x ≡ true) k KeywordKey KeywordValue f refl refl

    go : (x : Bool) → eqb k KeywordType || is_typed k ≡ x → x || eqb k KeywordMax ≡ true → has map_fields k ≡ true
    go true e f = led (eqb k KeywordType) refl e
    go false e f = ap (has map_fields) (eqb-true k KeywordMax f)

in_tops : (k : ℕ) → is_top k ≡ true → has tops k ≡ true
unfolding has
in_tops k b = three_kinds (λ x. has tops x ≡ true) k KeywordMap KeywordUnit KeywordEvent b refl refl refl

-- the four types
pub type_case : (C : ℕ → Type 0) (k : ℕ) → is_type k ≡ true → C TypeU32 → C TypeU64 → C TypeI32 → C TypeI64 → C k
type_case C k b p q r s = go (eqb k TypeU32) (eqb k TypeU64) (eqb k TypeI32) refl refl refl
  where
    bounds : (leb TypeU32 k ≡ true) × (leb k TypeI64 ≡ true)
    bounds = (and-eq-true_iff (leb TypeU32 k) (leb k TypeI64)).0 b

    go : (x y z : Bool) → eqb k TypeU32 ≡ x → eqb k TypeU64 ≡ y → eqb k TypeI32 ≡ z → C k
    go true y z e f g = subst C (sym (eqb-true k TypeU32 e)) p
    go false true z e f g = subst C (sym (eqb-true k TypeU64 f)) q
    go false false true e f g = subst C (sym (eqb-true k TypeI32 g)) r
    go false false false e f g =
        let l : TypeU32 ≤ k = leb-true TypeU32 k bounds.0 in
        let u : k ≤ TypeI64 = leb-true k TypeI64 bounds.1 in
        let last : k ≡ TypeI64 = omega (arith, eqb-false k TypeU32 e, eqb-false k TypeU64 f, eqb-false k TypeI32 g) in
        subst C (sym last) s

in_types : (k : ℕ) → is_type k ≡ true → has types k ≡ true
unfolding has
in_types k b = type_case (λ x. has types x ≡ true) k b refl refl refl refl

in_event_types : (k : ℕ) → is_type k ≡ true → has event_types k ≡ true
unfolding has
in_event_types k b = type_case (λ x. has event_types x ≡ true) k b refl refl refl refl

event_rest : (a : Bool) → (has (with_else event_fields a) Identifier ≡ true) × (has (with_else event_fields a) RBrace ≡ true)
unfolding has
event_rest true = (refl, refl)
event_rest false = (refl, refl)

-- leads that begin something
abbrev FieldBegun : FieldLead → Type 0
FieldBegun typing = Unit {0}
FieldBegun keying = Unit {0}
FieldBegun limiting = Unit {0}
FieldBegun nothing = ⊥

field_begun : (k : ℕ) → is_field k ≡ true → FieldBegun (field_lead k)
unfolding field_lead
field_begun k b = go (eqb k KeywordType) (is_typed k) (eqb k KeywordMax) b
  where
    go : (x y z : Bool) → (x || y) || z ≡ true → FieldBegun (cond x typing (cond y keying (cond z limiting nothing)))
    go true y z b = tt
    go false true z b = tt
    go false false true b = tt
    go false false false b = absurd (true≢false (sym b))

abbrev TopBegun : TopLead → Type 0
TopBegun map_lead = Unit {0}
TopBegun unit_lead = Unit {0}
TopBegun event_top = Unit {0}
TopBegun no_top = ⊥

top_begun : (k : ℕ) → is_top k ≡ true → TopBegun (top_lead k)
unfolding top_lead
top_begun k b = go (eqb k KeywordMap) (eqb k KeywordUnit) (eqb k KeywordEvent) b
  where
    go : (x y z : Bool) → (x || y) || z ≡ true → TopBegun (cond x map_lead (cond y unit_lead (cond z event_top no_top)))
    go true y z b = tt
    go false true z b = tt
    go false false true b = tt
    go false false false b = absurd (true≢false (sym b))

module _ {ts ts' : List Tok} {n : ℕ} (agreed : Alike ts ts' n) where
  -- ---- lists

  -- Things p up to a row of kind `stop`, of which `begins` says what begins one. Where nothing begins, w is told, with the set `also`, and
  -- what must not follow the list so far (F) does not.
  record Things (stop also : ℕ) (p p' : P) (begins : ℕ → Bool) (w : Syntax) (F : Tree → Type 0) : Type 0 where
    on : (i : ℕ) → begins (kind_at ts i) ≡ true → Held ts ts' n F (i + 1) (p i) (p' i)
    off : (i : ℕ) → begins (kind_at ts i) ≡ false → p i ≡ no w i
    off' : (i : ℕ) → begins (kind_at ts' i) ≡ false → p' i ≡ no w i
    longer : (i : ℕ) → Local ts n i (i + 1) (p i) (p' i)
    misfit : is_misfit w ≡ true
    place : (i : ℕ) → lost ts w i ≡ i
    tells : (l : Tree) → Spared ts ts' n (set_told (retold (also + Parse.else_behind ts l) w))
        → F l × Off ts ts' n begins × Off ts ts' n (λ x. eqb x stop)
    last : (l t : Tree) → F (seq l t) → F t

  module _ (stop also : ℕ) (p p' : P) (begins : ℕ → Bool) (w : Syntax) (F : Tree → Type 0) (things : Things stop also p p' begins w F) where
    abbrev Step : Tree → P
    Step l j = Parse.list_step ts also p l j

    abbrev Step' : Tree → P
    Step' l j = Parse.list_step ts' also p' l j

    step_on : (l : Tree) (j : ℕ) → begins (kind_at ts j) ≡ true → Held ts ts' n F (j + 1) (Step l j) (Step' l j)
    unfolding Parse.list_step Parse.else_behind
    step_on l j b =
        then_held F F (or (also + Parse.else_behind ts l) j (p j)) (or (also + Parse.else_behind ts' l) j (p' j)) _ _
        (or_held (also + Parse.else_behind ts l) j (p j) (p' j) (things.on j b) (λ a q e. absurd (omega (arith, (things.on j b).near a))))
        (λ t k. ok_held k (seq l t) k (omega arith)) (λ t a x. things.last l t (x refl))

    -- a row that begins nothing is refused
    step_off : (l : Tree) (j : ℕ) → begins (kind_at ts j) ≡ false → Step l j ≡ no (retold (also + Parse.else_behind ts l) w) j
    unfolding Parse.list_step
    step_off l j b =
        then_no (or (also + Parse.else_behind ts l) j (p j)) _ (retold (also + Parse.else_behind ts l) w) j
        (ap (or (also + Parse.else_behind ts l) j) (things.off j b) ∙ or_here (also + Parse.else_behind ts l) j w)

    step_off' : (l : Tree) (j : ℕ) → begins (kind_at ts' j) ≡ false → Misfit (Step' l j)
    unfolding Parse.list_step
    step_off' l j b =
        misfit_then (or (also + Parse.else_behind ts' l) j (p' j)) _
        (subst Misfit (sym (ap (or (also + Parse.else_behind ts' l) j) (things.off' j b) ∙ or_here (also + Parse.else_behind ts' l) j w))
        (retold_misfit (also + Parse.else_behind ts' l) w ∙ things.misfit))

    step_held : (l : Tree) (j : ℕ) → Held ts ts' n F j (Step l j) (Step' l j)
    step_held l j = go (begins (kind_at ts j)) refl
      where
        unread : j ≡ n → begins (kind_at ts j) ≡ false → Spared ts ts' n (set_told (retold (also + Parse.else_behind ts l) w))
            → Misfit (Step' l j)
        unread q b x =
            step_off' l j (ap (λ (r : ℕ). begins (kind_at ts' r)) q ∙ (things.tells l x).1.fails
            (ap (λ (r : ℕ). begins (kind_at ts r)) (sym q) ∙ b))

        go : (b : Bool) → begins (kind_at ts j) ≡ b → Held ts ts' n F j (Step l j) (Step' l j)
        go true b = held_from (omega arith) (step_on l j b)
        go false b =
            let here : lost ts (retold (also + Parse.else_behind ts l) w) j ≡ j =
            retold_lost ts (also + Parse.else_behind ts l) w j ∙ things.place j in
            subst (λ (o : Out). Held ts ts' n F j o (Step' l j)) (sym (step_off l j b))
            (record { near = λ a. omega (arith, a.1, here); again = λ a x. unread (sym here ∙ a.1) b x })

    step_up : (l : Tree) (j : ℕ) → All (λ u k. j < k) (Step l j)
    unfolding Parse.list_step
    step_up l j =
        then_all (λ u k. j < k) (λ u k. j < k) (or (also + Parse.else_behind ts l) j (p j)) _
        (or_all (λ u k. j < k) (also + Parse.else_behind ts l) j (p j) (upward ts n j (p j) (p' j) (things.longer j))) (λ t k h. h)

    -- where a step is refused at row n, both lists go on there
    steps_go : (l : Tree) → not (eqb (kind_at ts n) stop) ≡ true → Near ts n (Step l n) → Free ts ts' n F (Step l n)
        → F l × (not (eqb (kind_at ts' n) stop) ≡ true)
    steps_go l b a x = go (begins (kind_at ts n)) refl
      where
        go : (c : Bool) → begins (kind_at ts n) ≡ c → F l × (not (eqb (kind_at ts' n) stop) ≡ true)
        go true c = absurd (omega (arith, (step_on l n c).near a))
        go false c =
            let y : F l × Off ts ts' n begins × Off ts ts' n (λ x. eqb x stop) =
            things.tells l (subst (Free ts ts' n F) (step_off l n c) x) in
            (y.0, ap not (y.2.fails (not-true (eqb (kind_at ts n) stop) b)))

    -- such a list is not held at its own end, which is looked at next
    list_held : (j : ℕ) → Held ts ts' n (λ l. ⊥) j (Parse.list_to ts stop also p j) (Parse.list_to ts' stop also p' j)
    unfolding Parse.list_to
    list_held j =
        loop_held agreed (λ x. not (eqb x stop)) Step Step' F (λ l. ⊥) (λ l k b. step_up l k) (λ l k b. step_held l k)
        (λ l b x. absurd x) steps_go none j

    -- a list and its last row, and what is read behind
    closed_held : {G : Tree → Type 0} (f f' : Tree → P) → ((l : Tree) (k : ℕ) → Held ts ts' n G (k + 1) (f l (k + 1)) (f' l (k + 1)))
        → (j : ℕ)
        → Held ts ts' n G j (then (Parse.list_to ts stop also p j) (λ l k. f l (k + 1)))
        (then (Parse.list_to ts' stop also p' j) (λ l k. f' l (k + 1)))
    closed_held {G} f f' h j =
        then_held (λ l. ⊥) G (Parse.list_to ts stop also p j) (Parse.list_to ts' stop also p' j) _ _ (list_held j)
        (λ l k. held_from (omega arith) (h l k)) (λ l a x. absurd (omega (arith, (h l n).near a)))

    -- the same in braces behind a name, which stands behind row i
    braced_held : {G : Tree → Type 0} (f f' : List ℕ → Tree → P) → stop ≡ RBrace
        → ((v : List ℕ) (l : Tree) (k : ℕ) → Held ts ts' n G (k + 1) (f v l (k + 1)) (f' v l (k + 1))) → (i : ℕ)
        → Held ts ts' n G (i + 1) (Parse.braced ts also p f i) (Parse.braced ts' also p' f' i)
    unfolding Parse.braced
    braced_held {G} f f' q h i =
        named_held agreed _ _ (i + 1) (λ v e. want_held agreed LBrace _ _ (i + 1 + 1) (λ b.
        subst (λ (c : ℕ). Held ts ts' n G (i + 1 + 1 + 1) (then (Parse.list_to ts c also p (i + 1 + 1 + 1)) (λ l k. f v l (k + 1)))
        (then (Parse.list_to ts' c also p' (i + 1 + 1 + 1)) (λ l k. f' v l (k + 1)))) q (closed_held (f v) (f' v) (h v) (i + 1 + 1 + 1))))

  -- ---- statements, over what is read behind a brace

  -- `else` must not follow an `if` without one
  abbrev StmtEnd : Tree → Type 0
  StmtEnd t = hangs t ≡ true → Off ts ts' n (λ x. eqb x KeywordElse)

  module _ (d : ℕ) (p p' : P) (under : (o : ℕ) → Held ts ts' n (λ t. Unit {0}) (o + 1) (p o) (p' o)) where
    else_body_lem : (w : List ℕ) (b : Tree) (k : ℕ)
        → Held ts ts' n StmtEnd (k + 1) (Parse.else_by ts d p true w b k) (Parse.else_by ts' d p' true w b k)
    unfolding Parse.else_by
    else_body_lem w b k =
        then_held (λ t. Unit {0}) StmtEnd (Parse.need ts LBrace p (k + 1)) (Parse.need ts' LBrace p' (k + 1)) _ _
        (need_held agreed LBrace p p' (k + 1) (λ e. under (k + 1))) (λ e r. ok_held r (guard w b (else_body e)) r (omega arith))
        (λ t a x. tt)

    else_by : (c : Bool) (w : List ℕ) (b : Tree) (k : ℕ)
        → Held ts ts' n StmtEnd k (Parse.else_by ts d p c w b k) (Parse.else_by ts' d p' c w b k)
    unfolding Parse.else_by
    else_by true w b k = held_from (omega arith) (else_body_lem w b k)
    else_by false w b k = ok_held k (guard w b none) k (omega arith)

    -- at the row behind a body both tables have an `else`, or neither has
    elses : (c : Bool) (w : List ℕ) (b : Tree) (k : ℕ) → eqb (kind_at ts n) KeywordElse ≡ c → k ≡ n → Near ts n (Parse.else_by ts d p c w b k)
        → Free ts ts' n StmtEnd (Parse.else_by ts d p c w b k) → eqb (kind_at ts' n) KeywordElse ≡ c
    unfolding Parse.else_by hangs yield
    elses true w b k e q a x = absurd (omega (arith, (else_body_lem w b k).near a))
    elses false w b k e q a x = (x q refl).fails e

    bodies_held : (w : List ℕ) (j : ℕ) → Held ts ts' n StmtEnd j (Parse.bodies ts d p w j) (Parse.bodies ts' d p' w j)
    unfolding Parse.bodies
    bodies_held w j =
        then_held (λ t. Unit {0}) StmtEnd (Parse.need ts LBrace p j) (Parse.need ts' LBrace p' j) _ _
        (need_held agreed LBrace p p' j (λ e. under j))
        (λ b k. look_at agreed k (λ x. eqb (kind_of x) KeywordElse) (λ c. Parse.else_by ts d p c w (then_body b) k)
        (λ c. Parse.else_by ts' d p' c w (then_body b) k)
        (λ c e. else_by c w (then_body b) k)
        (λ q a x. ap (λ (r : ℕ). eqb (kind_at ts r) KeywordElse) (sym q)
        ∙ sym (elses (eqb (kind_at ts k) KeywordElse) w (then_body b) k (ap (λ (r : ℕ). eqb (kind_at ts r) KeywordElse) (sym q)) q a x)))
        (λ t a x. tt)

    -- behind an expression and then a semicolon
    line_held : (e t : Tree) (k : ℕ) → Held ts ts' n StmtEnd k (Parse.end ts Semicolon e (ok t) k) (Parse.end ts' Semicolon e (ok t) k)
    line_held e t k = end_held agreed Semicolon e (ok t) (ok t) k line_ends (λ q. ok_held (k + 1) t (k + 1) (omega arith))

    line_free : (e t : Tree) → Near ts n (Parse.end ts Semicolon e (ok t) n) → Free ts ts' n StmtEnd (Parse.end ts Semicolon e (ok t) n)
        → AddEnd agreed e
    line_free e t a x = end_free agreed Semicolon e (ok t) line_ends (λ q. ok_held (n + 1) t (n + 1) (omega arith)) a x

    -- an expression from row i on, and a semicolon
    expr_line : (f : Tree → Tree) (i : ℕ)
        → Held ts ts' n StmtEnd i (then (Parse.expr ts d i) (λ e k. Parse.end ts Semicolon e (ok (f e)) k))
        (then (Parse.expr ts' d i) (λ e k. Parse.end ts' Semicolon e (ok (f e)) k))
    expr_line f i =
        then_held (AddEnd agreed) StmtEnd (Parse.expr ts d i) (Parse.expr ts' d i) _ _ (expr_held agreed d i)
        (λ e k. line_held e (f e) k) (λ e a x. line_free e (f e) a x)

    assign_by : (c : Bool) (e : Tree) (j : ℕ)
        → Held ts ts' n StmtEnd (j + cond c 1 0) (Parse.assign_by ts d p c e j) (Parse.assign_by ts' d p' c e j)
    unfolding Parse.assign_by
    assign_by true e j =
        look agreed j (j + 1) (omega arith) kind_of
        (λ x. then (Parse.expr ts d (j + 1)) (λ r k. Parse.end ts Semicolon r (ok (assign x e r)) k))
        (λ x. then (Parse.expr ts' d (j + 1)) (λ r k. Parse.end ts' Semicolon r (ok (assign x e r)) k))
        (λ x q. expr_line (λ r. assign x e r) (j + 1))
    assign_by false e j =
        held_from (omega arith) (end_in_held agreed (only Semicolon + assigns) Semicolon e (ok (plain e)) (ok (plain e)) j first_ends
        (λ q. ok_held (j + 1) (plain e) (j + 1) (omega arith)))

    -- at the row behind the first expression both tables assign, or neither does; and nothing goes on with the expression
    assigns_end : (c : Bool) (e : Tree) → is_assign (kind_at ts n) ≡ c → Near ts n (Parse.assign_by ts d p c e n)
        → Free ts ts' n StmtEnd (Parse.assign_by ts d p c e n)
        → AddEnd agreed e × (is_assign (kind_at ts' n) ≡ c)
    unfolding Parse.assign_by Parse.onward
    assigns_end true e q a x = absurd (omega (arith, (assign_by true e n).near a))
    assigns_end false e q a x =
        let s : ℕ = around (is_sum e) (dot_name ts n) (only Semicolon + assigns) in
        let y : Spared ts ts' n (Parse.onward ts e n + (only Semicolon + assigns)) =
        end_spared agreed (only Semicolon + assigns) Semicolon e (ok (plain e))
        (λ q. ok_held (n + 1) (plain e) (n + 1) (omega arith)) a x in
        let h : (has s Equals ≡ true) × (has s PlusEquals ≡ true) = first_assigns (is_sum e) (dot_name ts n) in (
          add_end agreed (only Semicolon + assigns) Semicolon e first_ends y,
          (off s is_assign (λ k b. either_kind (λ x. has s x ≡ true) k Equals PlusEquals b h.0 h.1) y).fails q,
        )

    assign_held : (e : Tree) (j : ℕ)
        → Held ts ts' n StmtEnd j (Parse.assign_by ts d p (is_assign (kind_at ts j)) e j)
        (Parse.assign_by ts' d p' (is_assign (kind_at ts' j)) e j)
    assign_held e j =
        look_at agreed j (λ x. is_assign (kind_of x)) (λ c. Parse.assign_by ts d p c e j) (λ c. Parse.assign_by ts' d p' c e j)
        (λ c q. held_from (omega arith) (assign_by c e j))
        (λ q a x. sym (assigns_end (is_assign (kind_at ts n)) e refl
        (subst (λ (r : ℕ). Near ts n (Parse.assign_by ts d p (is_assign (kind_at ts r)) e r)) q a)
        (subst (λ (r : ℕ). Free ts ts' n StmtEnd (Parse.assign_by ts d p (is_assign (kind_at ts r)) e r)) q x)).1)

    stmt_by : (l : StmtLead) (i : ℕ) → Begun (kind_at ts i) l
        → Held ts ts' n StmtEnd (i + 1) (Parse.stmt_by ts d p l i) (Parse.stmt_by ts' d p' l i)
    unfolding Parse.stmt_by
    stmt_by declaring i b =
        look agreed i (i + 1) (omega arith) kind_of
        (λ x. Parse.named ts (λ w. Parse.want ts Equals
        (λ j. then (Parse.expr ts d j) (λ e k. Parse.end ts Semicolon e (ok (decl x w e)) k))) (i + 1))
        (λ x. Parse.named ts' (λ w. Parse.want ts' Equals
        (λ j. then (Parse.expr ts' d j) (λ e k. Parse.end ts' Semicolon e (ok (decl x w e)) k))) (i + 1))
        (λ x q. named_held agreed _ _ (i + 1)
        (λ w e. want_held agreed Equals _ _ (i + 1 + 1) (λ f. expr_line (λ e. decl x w e) (i + 1 + 1 + 1))))
    stmt_by returning i b = expr_line ret (i + 1)
    stmt_by branching i b =
        want_held agreed KeywordGuard _ _ (i + 1) (λ e. want_held agreed LParen _ _ (i + 1 + 1) (λ f.
        named_held agreed _ _ (i + 1 + 1 + 1)
        (λ w h. want_held agreed RParen _ _ (i + 1 + 1 + 1 + 1) (λ c. bodies_held w (i + 1 + 1 + 1 + 1 + 1)))))
    stmt_by expression i b =
        then_held (AddEnd agreed) StmtEnd (Parse.expr ts d i) (Parse.expr ts' d i) _ _ (expr_on agreed d i b) assign_held
        (λ e a x. (assigns_end (is_assign (kind_at ts n)) e refl a x).0)

    stmt_on : (i : ℕ) → is_stmt (kind_at ts i) ≡ true → Held ts ts' n StmtEnd (i + 1) (Parse.stmt ts d p i) (Parse.stmt ts' d p' i)
    unfolding Parse.stmt
    stmt_on i b =
        look agreed i (i + 1) (omega arith) (λ x. stmt_lead (kind_of x)) (λ l. Parse.stmt_by ts d p l i) (λ l. Parse.stmt_by ts' d p' l i)
        (λ l e. stmt_by l i (subst (Begun (kind_at ts i)) e (stmt_begun (kind_at ts i) b)))

  stmt_tells : (l : Tree) → Spared ts ts' n (set_told (retold (body_things + Parse.else_behind ts l) (wrong operands)))
      → StmtEnd l × Off ts ts' n is_stmt × Off ts ts' n (λ x. eqb x RBrace)
  unfolding retold Parse.else_behind
  stmt_tells l x =
      let s : ℕ = with_else body_things (hangs l) in
      let y : Spared ts ts' n s = spared_of s x in (
        λ h. off_kind s KeywordElse ((body_rest (hangs l)).1 h) y,
        off s is_stmt (in_body (hangs l)) y,
        off_kind s RBrace
            (body_rest (hangs l)).0 y,
      )

  stmts : (d : ℕ) → ((o : ℕ) → Held ts ts' n (λ t. Unit {0}) (o + 1) (Parse.body ts d o) (Parse.body ts' d o))
      → Things RBrace body_things (Parse.stmt ts d (Parse.body ts d)) (Parse.stmt ts' d (Parse.body ts' d)) is_stmt (wrong operands) StmtEnd
  unfolding is_misfit lost hangs
  stmts d under = record {
    on = stmt_on d (Parse.body ts d) (Parse.body ts' d) under;
    off = stmt_unread ts d (Parse.body ts d);
    off' = stmt_unread ts' d (Parse.body ts' d);
    longer = stmt_over ts ts' n agreed d (Parse.body ts d) (Parse.body ts' d) (branch_local ts ts' n agreed d);
    misfit = refl;
    place = λ i. refl;
    tells = stmt_tells;
    last = λ l t x. x;
  }

  body_held : (d o : ℕ) → Held ts ts' n (λ t. Unit {0}) (o + 1) (Parse.body ts d o) (Parse.body ts' d o)
  unfolding Parse.body is_misfit
  body_held zero o = other_held refl
  body_held (suc d) o =
      closed_held RBrace body_things (Parse.stmt ts d (Parse.body ts d)) (Parse.stmt ts' d (Parse.body ts' d)) is_stmt
      (wrong operands) StmtEnd (stmts d (body_held d))
      (λ l k. ok l k) (λ l k. ok l k) (λ l k. ok_held (k + 1) l (k + 1) (omega arith)) (o + 1)

  -- ---- units

  item_by : (c : Bool) (i : ℕ) → c || is_stmt (kind_at ts i) ≡ true
      → Held ts ts' n StmtEnd (i + 1) (Parse.item_by ts c i) (Parse.item_by ts' c i)
  unfolding Parse.item_by
  item_by true i b =
      look agreed i (i + 1) (omega arith) kind_of (λ x. Parse.quoted ts (λ w. Parse.want ts Semicolon (ok (text x w))) (i + 1))
      (λ x. Parse.quoted ts' (λ w. Parse.want ts' Semicolon (ok (text x w))) (i + 1))
      (λ x e. quoted_held agreed _ _ (i + 1)
      (λ w. want_held agreed Semicolon _ _ (i + 1 + 1) (λ f. ok_held (i + 1 + 1 + 1) (text x w) (i + 1 + 1 + 1) (omega arith))))
  item_by false i b = stmt_on 64 (Parse.body ts 64) (Parse.body ts' 64) (body_held 64) i b

  item_on : (i : ℕ) → is_item (kind_at ts i) ≡ true → Held ts ts' n StmtEnd (i + 1) (Parse.item ts i) (Parse.item ts' i)
  unfolding Parse.item
  item_on i b =
      look agreed i (i + 1) (omega arith) (λ x. is_text (kind_of x)) (λ c. Parse.item_by ts c i) (λ c. Parse.item_by ts' c i)
      (λ c e. item_by c i (sym (ap (λ (x : Bool). x || is_stmt (kind_at ts i)) e) ∙ b))

  item_tells : (l : Tree) → Spared ts ts' n (set_told (retold (unit_things + Parse.else_behind ts l) (wrong operands)))
      → StmtEnd l × Off ts ts' n is_item × Off ts ts' n (λ x. eqb x RBrace)
  unfolding retold Parse.else_behind
  item_tells l x =
      let s : ℕ = with_else unit_things (hangs l) in
      let y : Spared ts ts' n s = spared_of s x in (
        λ h. off_kind s KeywordElse ((unit_rest (hangs l)).1 h) y,
        off s is_item (in_unit (hangs l)) y,
        off_kind s RBrace
            (unit_rest (hangs l)).0 y,
      )

  items : Things RBrace unit_things (Parse.item ts) (Parse.item ts') is_item (wrong operands) StmtEnd
  unfolding is_misfit lost hangs
  items = record {
    on = item_on;
    off = item_unread ts;
    off' = item_unread ts';
    longer = item_local ts ts' n agreed;
    misfit = refl;
    place = λ i. refl;
    tells = item_tells;
    last = λ l t x. x;
  }

  unit_held : (i : ℕ) → Held ts ts' n (λ t. Unit {0}) (i + 1) (Parse.unit_at ts i) (Parse.unit_at ts' i)
  unfolding Parse.unit_at
  unit_held i =
      braced_held RBrace unit_things (Parse.item ts) (Parse.item ts') is_item (wrong operands) StmtEnd items (λ w l k. ok (unit w l) k)
      (λ w l k. ok (unit w l) k) refl
      (λ w l k. ok_held (k + 1) (unit w l) (k + 1) (omega arith)) i

  -- ---- maps

  -- with a map's number a shift goes on
  abbrev MaxEnd : Type 0
  MaxEnd = Off ts ts' n is_shift

  count_by : (b : Bool) (c : Tree) (k v : ℕ)
      → Held ts ts' n (λ t. MaxEnd) (k + 1 + 1) (Parse.count_by ts b c k v (k + 1 + 1)) (Parse.count_by ts' b c k v (k + 1 + 1))
  unfolding Parse.count_by is_misfit
  count_by true c k v =
      look agreed k (k + 1 + 1) (omega arith) kind_of (λ x. ok (shifted x c v) (k + 1 + 1)) (λ x. ok (shifted x c v) (k + 1 + 1))
      (λ x e. ok_held (k + 1 + 1) (shifted x c v) (k + 1 + 1) (omega arith))
  count_by false c k v = other_held refl

  shifted_held : (c : Tree) (k : ℕ) → Held ts ts' n (λ t. MaxEnd) (k + 1) (Parse.chain_step ts c k) (Parse.chain_step ts' c k)
  unfolding Parse.chain_step
  shifted_held c k = valued_held agreed _ _ (k + 1) (λ v. count_by (leb v 63) c k v)

  chain_loop : Loop ts ts' n is_shift (Parse.chain_step ts) (Parse.chain_step ts') (λ t. MaxEnd)
  chain_loop =
      steps_held agreed is_shift (Parse.chain_step ts) (Parse.chain_step ts') (λ t. MaxEnd)
      (λ c k b. upward ts n k (Parse.chain_step ts c k) (Parse.chain_step ts' c k) (chain_step ts ts' n agreed c k))
      (λ c k b. shifted_held c k) (λ c x. x)

  chain_held : (j : ℕ) → Held ts ts' n (λ t. MaxEnd) j (Parse.chain ts j) (Parse.chain ts' j)
  unfolding Parse.chain
  chain_held j = valued_held agreed _ _ j (λ v. chain_loop.held (first v) (j + 1))

  limit_set : (k : ℕ) → is_shift k ≡ true → has (only Semicolon + shifts) k ≡ true
  unfolding has
  limit_set k b = either_kind (λ x. has (only Semicolon + shifts) x ≡ true) k Shl Shr b refl refl

  limit_by : (a b : Bool) (c : Tree) (k : ℕ) → Held ts ts' n (λ t. Unit {0}) k (Parse.limit_by ts a b c k) (Parse.limit_by ts' a b c k)
  unfolding Parse.limit_by is_misfit has
  limit_by true b c k = other_held refl
  limit_by false true c k = other_held refl
  limit_by false false c k =
      want_in_held agreed (only Semicolon + shifts) (only Semicolon + shifts) Semicolon (ok (limit c)) (ok (limit c)) k refl
      (λ e. ok_held (k + 1) (limit c) (k + 1) (omega arith))

  limit_free : (a b : Bool) (c : Tree) → Near ts n (Parse.limit_by ts a b c n) → Free ts ts' n (λ t. Unit {0}) (Parse.limit_by ts a b c n)
      → MaxEnd
  unfolding Parse.limit_by is_misfit
  limit_free true b c y x = absurd (true≢false (sym y.0))
  limit_free false true c y x = absurd (true≢false (sym y.0))
  limit_free false false c y x =
      off (only Semicolon + shifts) is_shift limit_set
      (want_spared agreed (only Semicolon + shifts) Semicolon (ok (limit c)) (λ e. ok_held (n + 1) (limit c) (n + 1) (omega arith)) y x)

  type_by : (b : Bool) (w : List ℕ) (j : ℕ) → Held ts ts' n (λ t. Unit {0}) j (Parse.type_by ts b w j) (Parse.type_by ts' b w j)
  unfolding Parse.type_by is_misfit
  type_by true w j = other_held refl
  type_by false w j = want_held agreed Semicolon _ _ j (λ e. ok_held (j + 1) (map_type w) (j + 1) (omega arith))

  -- the type at row j, where 25 is lost
  module _ (k j : ℕ) (at : lost ts NotType (cond (eqb (kind_at ts j) Eof) j (j + 1)) ≡ j) where
    key_by : (b : Bool) → Held ts ts' n (λ t. Unit {0}) (j + cond b 1 0) (Parse.key_by ts b k j) (Parse.key_by ts' b k j)
    unfolding Parse.key_by is_misfit
    key_by true =
        look agreed j (j + 1) (omega arith) kind_of (λ x. Parse.want ts Semicolon (ok (typed k x)) (j + 1))
        (λ x. Parse.want ts' Semicolon (ok (typed k x)) (j + 1))
        (λ x e. want_held agreed Semicolon _ _ (j + 1) (λ f. ok_held (j + 1 + 1) (typed k x) (j + 1 + 1) (omega arith)))
    key_by false = record { near = λ a. omega (arith, a.1, at); again = λ a x. refl }

    key_types : (b : Bool) → is_type (kind_at ts n) ≡ b → j ≡ n → Near ts n (Parse.key_by ts b k j)
        → Free ts ts' n (λ t. Unit {0}) (Parse.key_by ts b k j)
        → is_type (kind_at ts' n) ≡ b
    unfolding Parse.key_by set_told
    key_types true e q a x = absurd (omega (arith, (key_by true).near a))
    key_types false e q a x = (off types is_type in_types x).fails e

    key_held : Held ts ts' n (λ t. Unit {0}) j (Parse.key_by ts (is_type (kind_at ts j)) k j) (Parse.key_by ts' (is_type (kind_at ts' j)) k j)
    key_held =
        look_at agreed j (λ x. is_type (kind_of x)) (λ b. Parse.key_by ts b k j) (λ b. Parse.key_by ts' b k j)
        (λ b e. held_from (omega arith) (key_by b))
        (λ q a x. ap (λ (r : ℕ). is_type (kind_at ts r)) (sym q)
        ∙ sym (key_types (is_type (kind_at ts j)) (ap (λ (r : ℕ). is_type (kind_at ts r)) (sym q)) q a x))

  field_by : (l : FieldLead) (i : ℕ) → FieldBegun l → FieldIs (kind_at ts i) l
      → Held ts ts' n (λ t. Unit {0}) (i + 1) (Parse.map_field_by ts l i) (Parse.map_field_by ts' l i)
  unfolding Parse.map_field_by
  field_by typing i f g =
      want_held agreed Colon _ _ (i + 1) (λ a. want_held agreed Dot _ _ (i + 1 + 1) (λ b.
      named_held agreed _ _ (i + 1 + 1 + 1) (λ w e. type_by (eqb (map_type_number w) 0) w (i + 1 + 1 + 1 + 1))))
  field_by keying i f g =
      look agreed i (i + 1) (omega arith) kind_of (λ k. Parse.want ts Colon (λ j. Parse.key_by ts (is_type (kind_at ts j)) k j) (i + 1))
      (λ k. Parse.want ts' Colon (λ j. Parse.key_by ts' (is_type (kind_at ts' j)) k j) (i + 1))
      (λ k e. want_held agreed Colon _ _ (i + 1) (λ c. key_held k (i + 1 + 1) (type_lost ts i g c (eqb (kind_at ts (i + 1 + 1)) Eof))))
  field_by limiting i f g =
      want_held agreed Colon _ _ (i + 1) (λ a.
      then_held (λ t. MaxEnd) (λ t. Unit {0}) (Parse.chain ts (i + 1 + 1)) (Parse.chain ts' (i + 1 + 1)) _ _ (chain_held (i + 1 + 1))
      (λ c k. limit_by (leb (2 ^ 63) (max_bits c)) (not (leb (max_bits c) most32)) c k)
      (λ c y x. limit_free (leb (2 ^ 63) (max_bits c)) (not (leb (max_bits c) most32)) c y x))
  field_by nothing i f g = absurd f

  map_field_on : (i : ℕ) → is_field (kind_at ts i) ≡ true → Held ts ts' n (λ t. Unit {0}) (i + 1) (Parse.map_field ts i) (Parse.map_field ts' i)
  unfolding Parse.map_field
  map_field_on i b =
      look agreed i (i + 1) (omega arith) (λ x. field_lead (kind_of x)) (λ l. Parse.map_field_by ts l i) (λ l. Parse.map_field_by ts' l i)
      (λ l e. field_by l i (subst FieldBegun e (field_begun (kind_at ts i) b)) (subst (FieldIs (kind_at ts i)) e (field_is (kind_at ts i))))

  map_fields_lem : Things RBrace map_fields (Parse.map_field ts) (Parse.map_field ts') is_field NotMapField (λ t. Unit {0})
  unfolding is_misfit lost retold set_told has
  map_fields_lem = record {
    on = map_field_on;
    off = map_field_unread ts;
    off' = map_field_unread ts';
    longer = map_field_local ts ts' n agreed;
    misfit = refl;
    place = λ i. refl;
    tells = λ l x. (tt, off map_fields is_field in_map x, off_kind map_fields RBrace refl x);
    last = λ l t x. tt;
  }

  map_end : (f : ℕ) (w : List ℕ) (l : Tree) (k : ℕ) → Held ts ts' n (λ t. Unit {0}) k (Parse.map_end ts f w l k) (Parse.map_end ts' f w l k)
  unfolding Parse.map_end is_misfit
  map_end zero w l k = ok_held k (map_decl w l) k (omega arith)
  map_end (suc f) w l k = other_held refl

  map_held : (i : ℕ) → Held ts ts' n (λ t. Unit {0}) (i + 1) (Parse.map_at ts i) (Parse.map_at ts' i)
  unfolding Parse.map_at
  map_held i =
      braced_held RBrace map_fields (Parse.map_field ts) (Parse.map_field ts') is_field NotMapField (λ t. Unit {0}) map_fields_lem _ _ refl
      (λ w l k. map_end (lacking (type_of l) (typed_by KeywordKey l) (typed_by KeywordValue l) (limit_of l)) w l (k + 1)) i

  -- ---- events

  length_by : (b : Bool) (f : ℕ → Tree) (v k : ℕ)
      → Held ts ts' n (λ t. Unit {0}) (k + 1) (Parse.length_by ts b f v k (k + 1)) (Parse.length_by ts' b f v k (k + 1))
  unfolding Parse.length_by is_misfit
  length_by true f v k =
      want_held agreed RBracket _ _ (k + 1) (λ a. want_held agreed Semicolon _ _ (k + 1 + 1) (λ b.
      ok_held (k + 1 + 1 + 1) (f v) (k + 1 + 1 + 1) (omega arith)))
  length_by false f v k = other_held refl

  length_held : (f : ℕ → Tree) (k : ℕ) → Held ts ts' n (λ t. Unit {0}) k (Parse.length_at ts f k) (Parse.length_at ts' f k)
  unfolding Parse.length_at
  length_held f k = valued_held agreed _ _ k (λ v. length_by (leb v most32) f v k)

  -- behind a plain type at row j
  module _ (w : List ℕ) (j : ℕ) where
    array_by : (c : Bool) → Held ts ts' n (λ t. Unit {0}) (j + 1 + cond c 1 0) (Parse.array_by ts c w j) (Parse.array_by ts' c w j)
    unfolding Parse.array_by has
    array_by true =
        look agreed j (j + 1 + 1) (omega arith) kind_of (λ x. Parse.length_at ts (λ v. array_field w x v) (j + 1 + 1))
        (λ x. Parse.length_at ts' (λ v. array_field w x v) (j + 1 + 1)) (λ x e. length_held (λ v. array_field w x v) (j + 1 + 1))
    array_by false =
        look agreed j (j + 1 + 0) (omega arith) kind_of
        (λ x. Parse.want_in ts (only Semicolon + only LBracket) Semicolon (ok (plain_field w x)) (j + 1))
        (λ x. Parse.want_in ts' (only Semicolon + only LBracket) Semicolon (ok (plain_field w x)) (j + 1))
        (λ x e. held_from (omega arith) (want_in_held agreed (only Semicolon + only LBracket) (only Semicolon + only LBracket) Semicolon
        (ok (plain_field w x)) (ok (plain_field w x)) (j + 1) refl (λ e. ok_held (j + 1 + 1) (plain_field w x) (j + 1 + 1) (omega arith))))

    array_opens : (c : Bool) → eqb (kind_at ts n) LBracket ≡ c → j + 1 ≡ n → Near ts n (Parse.array_by ts c w j)
        → Free ts ts' n (λ t. Unit {0}) (Parse.array_by ts c w j)
        → eqb (kind_at ts' n) LBracket ≡ c
    unfolding Parse.array_by has
    array_opens true e q a x = absurd (omega (arith, (array_by true).near a))
    array_opens false e q a x =
        (off_kind (only Semicolon + only LBracket) LBracket refl
        (want_spared agreed (only Semicolon + only LBracket) Semicolon (ok (plain_field w (kind_at ts j)))
        (λ e. ok_held (n + 1) (plain_field w (kind_at ts j)) (n + 1) (omega arith))
        (subst (λ (r : ℕ). Near ts n (Parse.want_in ts (only Semicolon + only LBracket) Semicolon (ok (plain_field w (kind_at ts j))) r)) q a)
        (subst (λ (r : ℕ). Free ts ts' n (λ t. Unit {0})
        (Parse.want_in ts (only Semicolon + only LBracket) Semicolon (ok (plain_field w (kind_at ts j))) r)) q x))).fails e

    array_held : Held ts ts' n (λ t. Unit {0}) (j + 1) (Parse.array_by ts (eqb (kind_at ts (j + 1)) LBracket) w j)
        (Parse.array_by ts' (eqb (kind_at ts' (j + 1)) LBracket) w j)
    array_held =
        look_at agreed (j + 1) (λ x. eqb (kind_of x) LBracket) (λ c. Parse.array_by ts c w j) (λ c. Parse.array_by ts' c w j)
        (λ c e. held_from (omega arith) (array_by c))
        (λ q a x. ap (λ (r : ℕ). eqb (kind_at ts r) LBracket) (sym q)
        ∙ sym (array_opens (eqb (kind_at ts (j + 1)) LBracket) (ap (λ (r : ℕ). eqb (kind_at ts r) LBracket) (sym q)) q a x))

    bytes_held : Held ts ts' n (λ t. Unit {0}) (j + 1) (Parse.event_type_by ts bytes_lead w j) (Parse.event_type_by ts' bytes_lead w j)
    unfolding Parse.event_type_by
    bytes_held = want_held agreed LBracket _ _ (j + 1) (λ e. length_held (λ v. bytes_field w v) (j + 1 + 1))

    -- the type itself
    event_by : (l : EventLead) → Held ts ts' n (λ t. Unit {0}) j (Parse.event_type_by ts l w j) (Parse.event_type_by ts' l w j)
    unfolding Parse.event_type_by is_misfit lost
    event_by type_lead = held_from (omega arith) array_held
    event_by bytes_lead = held_from (omega arith) bytes_held
    event_by no_lead = record { near = λ a. omega (arith, a.1); again = λ a x. refl }

    event_types_lem : (l : EventLead) → event_lead (kind_at ts n) ≡ l → j ≡ n → Near ts n (Parse.event_type_by ts l w j)
        → Free ts ts' n (λ t. Unit {0}) (Parse.event_type_by ts l w j) → event_lead (kind_at ts' n) ≡ l
    unfolding Parse.event_type_by set_told event_lead has
    event_types_lem type_lead e q a x = absurd (omega (arith, array_held.near a))
    event_types_lem bytes_lead e q a x = absurd (omega (arith, bytes_held.near a))
    event_types_lem no_lead e q a x =
        let y : (is_type (kind_at ts n) ≡ false) × (eqb (kind_at ts n) KeywordBytes ≡ false) =
        no_lead_lem (is_type (kind_at ts n)) (eqb (kind_at ts n) KeywordBytes) e in
        rw ((off event_types is_type in_event_types x).fails y.0, (off_kind event_types KeywordBytes refl x).fails y.1)
      where
        no_lead_lem : (b c : Bool) → cond b type_lead (cond c bytes_lead no_lead) ≡ no_lead → (b ≡ false) × (c ≡ false)
        no_lead_lem true c e = let z : ◌≡◌ {A = ℕ} 0 1 = cc in absurd (omega arith)
        no_lead_lem false true e = let z : ◌≡◌ {A = ℕ} 0 1 = cc in absurd (omega arith)
        no_lead_lem false false e = (refl, refl)

    event_type_held : Held ts ts' n (λ t. Unit {0}) j (Parse.event_type_by ts (event_lead (kind_at ts j)) w j)
        (Parse.event_type_by ts' (event_lead (kind_at ts' j)) w j)
    event_type_held =
        look_at agreed j (λ x. event_lead (kind_of x)) (λ l. Parse.event_type_by ts l w j) (λ l. Parse.event_type_by ts' l w j)
        (λ l e. event_by l)
        (λ q a x. ap (λ (r : ℕ). event_lead (kind_at ts r)) (sym q)
        ∙ sym (event_types_lem (event_lead (kind_at ts j)) (ap (λ (r : ℕ). event_lead (kind_at ts r)) (sym q)) q a x))

  event_field_on : (i : ℕ) → eqb (kind_at ts i) Identifier ≡ true
      → Held ts ts' n (λ t. Unit {0}) (i + 1) (Parse.event_field ts i) (Parse.event_field ts' i)
  unfolding Parse.event_field
  event_field_on i b =
      name_on agreed _ _ i (eqb-true (kind_at ts i) Identifier b)
      (λ w. want_held agreed Colon _ _ (i + 1) (λ c. event_type_held w (i + 1 + 1)))

  event_told : (l : Tree) → Spared ts ts' n (set_told (retold (event_fields + Parse.else_behind ts l) (wrong (only Identifier))))
      → Spared ts ts' n (with_else event_fields (hangs l))
  unfolding retold Parse.else_behind
  event_told l x = spared_of (with_else event_fields (hangs l)) x

  event_fields_lem : Things RBrace event_fields (Parse.event_field ts) (Parse.event_field ts') (λ x. eqb x Identifier) (wrong (only Identifier))
      (λ t. Unit {0})
  unfolding is_misfit lost
  event_fields_lem = record {
    on = event_field_on;
    off = event_field_unread ts;
    off' = event_field_unread ts';
    longer = event_field_local ts ts' n agreed;
    misfit = refl;
    place = λ i. refl;
    tells = λ l x. tells (hangs l) (event_told l x);
    last = λ l t x. tt;
  }
    where
      tells : (a : Bool) → Spared ts ts' n (with_else event_fields a)
          → Unit {0} × Off ts ts' n (λ x. eqb x Identifier) × Off ts ts' n (λ x. eqb x RBrace)
      tells a x = (
        tt,
        off_kind (with_else event_fields a) Identifier (event_rest a).0 x,
        off_kind (with_else event_fields a) RBrace
            (event_rest a).1 x,
      )

  event_held : (i : ℕ) → Held ts ts' n (λ t. Unit {0}) (i + 1) (Parse.event_at ts i) (Parse.event_at ts' i)
  unfolding Parse.event_at
  event_held i =
      braced_held RBrace event_fields (Parse.event_field ts) (Parse.event_field ts') (λ x. eqb x Identifier) (wrong (only Identifier))
      (λ t. Unit {0}) event_fields_lem
      (λ w l k. ok (event w l) k) (λ w l k. ok (event w l) k) refl (λ w l k. ok_held (k + 1) (event w l) (k + 1) (omega arith)) i

  -- ---- programs

  top_by : (l : TopLead) (i : ℕ) → TopBegun l → Held ts ts' n (λ t. Unit {0}) (i + 1) (Parse.top_by ts l i) (Parse.top_by ts' l i)
  unfolding Parse.top_by
  top_by map_lead i f = map_held i
  top_by unit_lead i f = unit_held i
  top_by event_top i f = event_held i
  top_by no_top i f = absurd f

  top_on : (i : ℕ) → is_top (kind_at ts i) ≡ true → Held ts ts' n (λ t. Unit {0}) (i + 1) (Parse.top ts i) (Parse.top ts' i)
  unfolding Parse.top
  top_on i b =
      look agreed i (i + 1) (omega arith) (λ x. top_lead (kind_of x)) (λ l. Parse.top_by ts l i) (λ l. Parse.top_by ts' l i)
      (λ l e. top_by l i (subst TopBegun e (top_begun (kind_at ts i) b)))

  decls : Things Eof tops (Parse.top ts) (Parse.top ts') is_top NotTopLevel (λ t. Unit {0})
  unfolding is_misfit lost retold set_told has
  decls = record {
    on = top_on;
    off = top_unread ts;
    off' = top_unread ts';
    longer = top_local ts ts' n agreed;
    misfit = refl;
    place = λ i. refl;
    tells = λ l x. (tt, off tops is_top in_tops x, off_kind tops Eof refl x);
    last = λ l t x. tt;
  }

  parse_held : Held ts ts' n (λ t. Unit {0}) 0 (Parse.parse ts) (Parse.parse ts')
  unfolding Parse.parse
  parse_held =
      closed_held Eof tops (Parse.top ts) (Parse.top ts') is_top NotTopLevel (λ t. Unit {0}) decls (λ l k. ok (program l) k)
      (λ l k. ok (program l) k)
      (λ l k. ok_held (k + 1) (program l) (k + 1) (omega arith)) 0

  -- A misfit that is lost at row n stands in the other table too, where row n is spared.
  pub misfit_again : (why : Syntax) (r : ℕ) → Parse.parse ts ≡ no why r → is_misfit why ≡ true → lost ts why r ≡ n
      → Spared ts ts' n (set_told why)
      → Misfit (Parse.parse ts')
  misfit_again why r e m q x =
      subst (λ (o : Out). Again o (Parse.parse ts')) e
      (parse_held.again (subst (Near ts n) (sym e) (m, q)) (subst (Free ts ts' n (λ t. Unit {0})) (sym e) x))
