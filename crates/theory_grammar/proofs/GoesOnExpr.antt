-- Refused expressions: what was read up to the lost row goes on with each kind that is told.
use mathlib.Core.Path.{◌≡◌, refl, sym, ap, ◌∙◌, subst}
use mathlib.Core.Bool.{Bool, true, false, true≢false}
use mathlib.Core.List.{List, [], ◌∷◌, ◌++◌, append_assoc, append-nil}
use Prim.Native.Nat.{ℕ, zero, suc, ◌+◌, ◌<◌}
use native.Mathlib.Omega.{arith}
use lib.Dec.{eqb}
use lib.ListN.{length}
use borrow.Author.Tests.{eqb-true}
use Rattle.rules.specs.declared.Syntax.{Syntax}
use Rattle.rules.specs.declared.Syntax.TheVariants.{Wanted, CallOnOther, TooDeep}
use Rattle.rules.specs.Kinds.{LBrace, LParen, RParen, Dot, Comma, Star, Identifier, Number}
use Rattle.rules.specs.Tree.{Tok, sign, name, value, spelling_of, Tree, none, num, star, group, field, call, bin, one, more, plain, yield, is_variable}
use Rattle.rules.specs.Fits.{only, has, operands, first_arguments, wrong}
use Rattle.rules.specs.Parse
use Rattle.rules.specs.Parse.{Out, ok, no, P, then, pick, or, is_add, is_shift, is_mul, Lead, number, identifier, paren, other, lead, Sort, operand, whole, tok_at, kind_at}
use Rattle.rules.specs.Grammar.{Nt, Add, Shift, Mul, Unary, Basic, Args, Is, i_num, i_group, i_field, i_bare, i_call, i_one, i_more, i_prim, i_star, i_unary, i_mul, i_lone, i_shift, i_up, i_add}
use Rattle.theory_grammar.specs.Tokens.{Proper}
use Rattle.theory_grammar.specs.Lost.{is_misfit, is_check, lost, own, around}
use Rattle.theory_grammar.proofs.Leads.{LeadIs, lead_is, add_mark, shift_mark, mul_mark}
use Rattle.theory_grammar.proofs.Laws.{here}
use Rattle.theory_grammar.proofs.Runs.{Run, is_mark, or_all, run_none, row, name_row, ◌▸◌, All}
use Rattle.theory_grammar.proofs.Sound.{Reads, Under, nt_of, run_of, taken_as, ones, atom_sound, arg_step, args_sound, post_sound, unary_sound, bin_step, mul_sound, shift_sound, inner_sound}
use Rattle.theory_grammar.proofs.Cases
use Rattle.theory_grammar.proofs.Local
use Rattle.theory_grammar.proofs.Local.{Dead, dead_then, or_local, call_dead, Local, deep_row, group_row, list_row, Alike, later, inner_local, atom_local, post_local, unary_local, mul_local, shift_local, expr_local}
use Rattle.theory_grammar.proofs.Members.{done, ◌and◌, each, holds}
use Rattle.theory_grammar.proofs.Grow.{heads_more, joins_apart, each_as, add_on, args_on, Begins, operand_kinds, unary_begins, aside, nought}
use Rattle.theory_grammar.proofs.Begun.{closed_by, fitting, any_next, over, lax, around_it, inside_it, Open, opened, code, Halt, wrap, recast, widen, not_before, last_part, Start, start}
use Rattle.theory_grammar.proofs.Halts.{Stuck, stuck_as, then_stuck, then_any, or_stuck, Dooms, same_kind, self, at_kind, at_first, at_or, at_next, Refusal, Refused, wanted, too_deep, end_halt, named_halt, loop_stuck, Below, below, under_read, under_some, onward_open}

module _ (ts : List Tok) (proper : Proper ts) where
  -- ---- expressions

  module _ (d : ℕ) (under : (s : Sort) → Below ts (nt_of s) d (λ x. Parse.inner x d s)) where
    abbrev G : List Tok → Sort → P
    G x = Parse.inner x d

    inner_alike : (s : Sort) (o : ℕ) → eqb (kind_at ts o) LBrace ≡ false → (ts' : List Tok) (n : ℕ) → Alike ts ts' n
        → Local ts n o (o + 1) (G ts s o) (G ts' s o)
    inner_alike s o b ts' n a = inner_local ts ts' n a d s o o (deep_row ts o b) (omega arith)

    atom_alike : (i : ℕ) (ts' : List Tok) (n : ℕ) → Alike ts ts' n
        → Local ts n i (i + 1) (Parse.atom ts (G ts) i) (Parse.atom ts' (G ts') i)
    atom_alike i ts' n a = atom_local ts ts' n a (G ts) (G ts') (inner_local ts ts' n a d) i

    -- a row that begins nothing is left to `unary`, which a star may begin
    atom_by : (l : Lead) (i : ℕ) → LeadIs (kind_at ts i) l → (l ≡ other → ⊥) → Start ts i
        → Refused ts code Basic d i i (λ x. Parse.atom_by x (G x) l i)
    unfolding Parse.atom_by Parse.end yield
    atom_by number i f n h = tt
    atom_by identifier i f n h = tt
    atom_by paren i f n h =
        let D : ℕ → Type 0 = Dooms ts i (λ x. Parse.atom_by x (G x) paren i) in
        let x : Run ts i (sign LParen ∷ []) (i + 1) = row ts i LParen f refl in
        let y : Start ts (i + 1) = start ts i LParen f refl refl in
        then_stuck (Halt code D ts Basic d i) (Under ts Add d i) (G ts whole i) _ (inner_sound ts d whole i (here ts i LParen f refl))
        (below ts Add d (λ x. G x whole) (under whole) (Halt code D ts Basic d i) i y
        (λ e. too_deep ts code D Basic d i i i (group_row ts i (ap (λ (x : ℕ). eqb x LBrace) f) h.fresh)
        (opened (num 0) i_num (value 0 ∷ []) refl (run_none ts i h.inside)))
        (λ d' e why r o. wrap group (λ u q. around_it (is_misfit why) d d' e (i_group q))
        (λ _. at_first ts i (i + 1) (λ x. G x whole i) (λ x t j. Parse.end x RParen t (ok (group t)) j) (omega arith))
        (sign RParen ∷ []) refl (λ u. refl) x o))
        (λ t j e u. let v : Is false Add d t × Run ts (i + 1) (yield t) j = under_read ts Add d i t j u in
        end_halt ts code D Basic d i (only RParen) RParen t (ok (group t)) j refl
        (onward_open ts proper group (sign RParen ∷ []) (λ u q. i_group q) (λ u. refl) x t v.1 (only RParen) (RParen ∷ []) refl
        y.undotted (λ k o. add_on ts proper j v.0 o)
        (fitting RParen (group t) (i_group v.0) (sign RParen ∷ []) refl (x ▸ v.1) refl and done)) (λ e. tt))
    atom_by other i f n h = absurd (n refl)

    atom_stuck : (i : ℕ) → (lead (kind_at ts i) ≡ other → ⊥) → Start ts i → Refused ts code Basic d i i (λ x. Parse.atom x (G x) i)
    unfolding Parse.atom
    atom_stuck i n h =
        stuck_as (Refusal ts code Basic d i i (λ x. Parse.atom_by x (G x) (lead (kind_at ts i)) i))
        (Refusal ts code Basic d i i (λ x. Parse.atom_by x (G x) (lead (kind_at x i)) i))
        (Parse.atom_by ts (G ts) (lead (kind_at ts i)) i) (atom_by (lead (kind_at ts i)) i (lead_is (kind_at ts i)) n h)
        (λ why r o. widen (at_kind ts (λ x k. Parse.atom_by x (G x) (lead k) i) i) o)

    -- a refusal of the first argument behind the parenthesis at row o: no construct is left, or it stands one deeper
    data Within (o : ℕ) (why : Syntax) (r : ℕ) : Type 0 where
      too_many : d ≡ 0 → why ≡ TooDeep → r ≡ o → Within o why r
      within : (d' : ℕ) → d ≡ suc d' → Refusal ts code Add d' (o + 1) (o + 1) (λ x. G x whole o) why r → Within o why r

    -- arguments behind the parenthesis at row o, where d' constructs are left in them
    module _ (o d' : ℕ) (z : d ≡ suc d') where
      abbrev HArgs : (List Tok → Out) → ℕ → Syntax → ℕ → Type 0
      HArgs q j = Refusal ts code Args d' (o + 1) j q

      arg_stuck : (a : Tree) (j : ℕ) → Under ts Args d o a j → eqb (kind_at ts j) Comma ≡ true
          → Stuck (HArgs (λ x. Parse.arg_step x (G x) a j) j) (Parse.arg_step ts (G ts) a j)
      unfolding Parse.arg_step yield
      arg_stuck a j u b =
          let e : kind_at ts j ≡ Comma = eqb-true (kind_at ts j) Comma b in
          let l : j < length ts = here ts j Comma e refl in
          let v : Reads ts Args d' (o + 1) a j = subst (λ (n : ℕ). Under ts Args n o a j) z u in
          let m : Below ts Add (suc d') (λ x. G x whole) = subst (λ (n : ℕ). Below ts Add n (λ x. G x whole)) z (under whole) in
          then_any (HArgs (λ x. Parse.arg_step x (G x) a j) j) (G ts whole j) _
          (stuck_as (Refusal ts code Add d' (j + 1) (j + 1) (λ x. G x whole j)) (HArgs (λ x. Parse.arg_step x (G x) a j) j) (G ts whole j)
          (m j (start ts j Comma e refl refl))
          (λ why r h. wrap (λ u. more a u) (λ u q. i_more (lax (is_misfit why) v.is) q)
          (λ _. at_first ts j (j + 1) (λ x. G x whole j) (λ x t k. ok (more a t) k) (omega arith)) [] refl
          (λ u. last_part (yield a) (sign Comma) (yield u)) (run_of v ▸ row ts j Comma e refl) h))
          (λ t k. tt)

      rest_stuck : (t : Tree) (k : ℕ) → Under ts Add d o t k
          → Stuck (HArgs (λ x. Parse.loop x (λ r. eqb (kind_at x r) Comma) (Parse.arg_step x (G x)) (one t) k) k)
          (Parse.loop ts (λ r. eqb (kind_at ts r) Comma) (Parse.arg_step ts (G ts)) (one t) k)
      rest_stuck t k u =
          loop_stuck ts code Args d' (o + 1) (λ x. eqb x Comma) (λ x. Parse.arg_step x (G x)) (Under ts Args d o)
          (arg_step ts d (G ts) (inner_sound ts d) o)
          (λ a j b ts' n x. Local.arg_step ts ts' n x (G ts) (G ts') (inner_local ts ts' n x d) a j b)
          arg_stuck (one t) k (ones ts d o t k u)

    -- the first argument, and the whole, behind the parenthesis at row o
    abbrev first_arg : ℕ → List Tok → Out
    first_arg o x = or first_arguments (o + 1) (G x whole o)

    abbrev further_args : List Tok → Tree → P
    further_args x t k = Parse.loop x (λ r. eqb (kind_at x r) Comma) (Parse.arg_step x (G x)) (one t) k

    first_alike : (o : ℕ) → eqb (kind_at ts o) LBrace ≡ false → (ts' : List Tok) (n : ℕ) → Alike ts ts' n
        → Local ts n o (o + 1) (first_arg o ts) (first_arg o ts')
    first_alike o b ts' n a = or_local ts n first_arguments (o + 1) (G ts whole o) (G ts' whole o) (inner_alike whole o b ts' n a)

    -- the same, whether a construct is left or not; a row that begins no argument tells `)` too
    args_stuck : (C : Syntax → ℕ → Type 0) (o : ℕ) → Start ts (o + 1) → eqb (kind_at ts o) LBrace ≡ false → (d ≡ 0 → C TooDeep o)
        → ((d' : ℕ) → d ≡ suc d' → C (wrong first_arguments) (o + 1))
        → ((d' : ℕ) → d ≡ suc d' → (why : Syntax) (r : ℕ) → Refusal ts code Args d' (o + 1) (o + 1) (λ x. Parse.args x (G x) o) why r
        → C why r)
        → Stuck C (Parse.args ts (G ts) o)
    unfolding Parse.args yield
    args_stuck C o l b full bare inner =
        then_stuck C (Under ts Add d o) (first_arg o ts) (further_args ts)
        (or_all (Under ts Add d o) first_arguments (o + 1) (G ts whole o) (inner_sound ts d whole o (omega (arith, l.inside))))
        (or_stuck C (Within o) first_arguments (o + 1) (G ts whole o)
        (below ts Add d (λ x. G x whole) (under whole) (Within o) o l (λ e. too_many e refl refl) (λ d' z why r h. within d' z h))
        (λ why r h. onto why r h)
        (λ low high h. begins_none low high h))
        (λ t k e u. let z : (d' : ℕ) × (d ≡ suc d') = under_some ts Add d o t k u in
        stuck_as (HArgs o z.0 z.1 (λ x. further_args x t k) k) C (further_args ts t k) (rest_stuck o z.0 z.1 t k u)
        (λ why r h. inner z.0 z.1 why r (widen (at_next ts (o + 1) k (o + 1) o (first_arg o) further_args t e
        (later ts 0 o (o + 1) (first_arg o ts) (first_arg o ts) t k e (first_alike o b ts 0 (self ts))) (first_alike o b)) h)))
      where
        onto : (why : Syntax) (r : ℕ) → Within o why r → C why r
        onto why r (too_many e p q) = subst (λ (x : Syntax). C x r) (sym p) (subst (C TooDeep) (sym q) (full e))
        onto why r (within d' z h) =
            inner d' z why r (recast one (λ u q. i_one q)
            (λ _ s x. at_first ts (o + 1) (o + 1) (first_arg o) further_args (omega arith) s
            (at_or ts (o + 1) (o + 1) (λ x. G x whole o) (λ x. first_arguments) s x)) refl (λ u. refl) h)

        begins_none : (low high : ℕ) → Within o (Wanted low high) (o + 1) → C (wrong first_arguments) (o + 1)
        begins_none low high (too_many e p q) = absurd (omega arith)
        begins_none low high (within d' z h) = bare d' z

    -- a field or a call of a tree t that was read from row i on, its dot at row j
    module _ (i : ℕ) (t : Tree) (j : ℕ) (r : Reads ts Basic d i t j) (e : kind_at ts j ≡ Dot) (f : kind_at ts (j + 1) ≡ Identifier) where
      abbrev method : List ℕ
      method = spelling_of (tok_at ts (j + 1))

      abbrev HPost : Syntax → ℕ → Type 0
      HPost = Refusal ts code Basic d i j (λ x. Parse.post x (G x) t j)

      -- the dot and the name alone are a field
      as_field : Open true false ts Basic d i (j + 1 + 1) 0
      unfolding yield
      as_field =
          opened (field t method) (i_field (lax false r.is)) [] (sym (append-nil (yield t ++ (sign Dot ∷ name method ∷ []))))
          (run_of r ▸ row ts j Dot e refl ▸ name_row ts (j + 1) f)

      -- a table in which the name and the parenthesis stand too comes to the call
      post_dead : (ts' : List Tok) → kind_at ts' (j + 1) ≡ Identifier → kind_at ts' (j + 1 + 1) ≡ LParen
          → ((w : List ℕ) → Dead CallOnOther (Parse.call_by ts' (G ts') (eqb (kind_at ts' (j + 1 + 1 + 1)) RParen) t w (j + 1) (j + 1 + 1)))
          → Dead CallOnOther (Parse.post ts' (G ts') t j)
      unfolding Parse.post Parse.open_by
      post_dead ts' p q h = subst (Dead CallOnOther) (sym (Cases.named_yes ts' _ (j + 1) p)) (rw q (h (spelling_of (tok_at ts' (j + 1)))))

      module _ (h : kind_at ts (j + 1 + 1) ≡ LParen) where
        head : Run ts i (yield t ++ (sign Dot ∷ name method ∷ sign LParen ∷ [])) (j + 1 + 1 + 1)
        head = run_of r ▸ row ts j Dot e refl ▸ name_row ts (j + 1) f ▸ row ts (j + 1 + 1) LParen h refl

        -- the parenthesis of a call on no variable dooms
        paren_dooms : is_variable t ≡ false → Dooms ts j (λ x. Parse.post x (G x) t j) (j + 1 + 1)
        paren_dooms v = (
          omega arith,
          λ ts' a. post_dead ts' (same_kind ts a (omega arith) f) (same_kind ts a (omega arith) h)
              (λ w. call_dead ts' (G ts') t w (j + 1) v (eqb (kind_at ts' (j + 1 + 1 + 1)) RParen) (j + 1 + 1)),
        )

        -- and so does a row in its arguments that does
        args_doom : eqb (kind_at ts (j + 1 + 1 + 1)) RParen ≡ false → (s : ℕ)
            → Dooms ts (j + 1 + 1 + 1) (λ x. Parse.args x (G x) (j + 1 + 1)) s
            → Dooms ts j (λ x. Parse.post x (G x) t j) s
        unfolding Parse.call_by
        args_doom b s x = (
          omega (arith, x.0),
          λ ts' a. post_dead ts' (same_kind ts a (omega (arith, x.0)) f) (same_kind ts a (omega (arith, x.0)) h)
              (λ w. rw (ap (λ (k : ℕ). eqb k RParen) (same_kind ts a (omega (arith, x.0)) refl) ∙ b)
              (dead_then CallOnOther (Parse.args ts' (G ts') (j + 1 + 1)) _ (x.1 ts' a))),
        )

        called_stuck : (a : Tree) (k : ℕ) → Stuck HPost (Parse.called ts t method a (j + 1) k)
        unfolding Parse.called is_check is_misfit lost
        called_stuck a k = go (is_variable t) refl
          where
            go : (b : Bool) → is_variable t ≡ b → Stuck HPost (pick b (ok (call t method a) k) (no CallOnOther (j + 1)))
            go true v = tt
            go false v = record {
              row = j + 1 + 1;
              at = own refl;
              arises = λ _. refl;
              wish = 0;
              due = λ e. absurd (true≢false (sym e));
              begun = λ k q. any_next as_field;
              dooms = λ _. paren_dooms v;
            }

        -- a refusal among the arguments: of a call on no variable the parenthesis is lost
        in_call : (b c : Bool) → is_variable t ≡ b → eqb (kind_at ts (j + 1 + 1 + 1)) RParen ≡ false → (d' : ℕ) → d ≡ suc d'
            → (why : Syntax) (q : ℕ) → is_check why ≡ c
            → Refusal ts code Args d' (j + 1 + 1 + 1) (j + 1 + 1 + 1) (λ x. Parse.args x (G x) (j + 1 + 1)) why q → HPost why q
        unfolding yield is_check is_misfit
        in_call true c v y d' z why q w o =
            wrap (λ a. call t method a) (λ a s. around_it (is_misfit why) d d' z
            (i_call (inside_it (is_misfit why) d d' z (lax (is_misfit why) r.is)) (λ _. v) s))
            (λ _. args_doom y) (sign RParen ∷ []) refl
            (λ a. sym (append_assoc (yield t) (sign Dot ∷ name method ∷ sign LParen ∷ []) (yield a ++ (sign RParen ∷ [])))) head o
        in_call false false v y d' z why q w o =
            wrap (λ a. call t method a)
            (λ a s. around_it (is_misfit why) d d' z
            (i_call (inside_it (is_misfit why) d d' z (lax (is_misfit why) r.is)) (λ y. absurd (true≢false (sym y ∙ w))) s))
            (λ _. args_doom y) (sign RParen ∷ []) refl
            (λ a. sym (append_assoc (yield t) (sign Dot ∷ name method ∷ sign LParen ∷ []) (yield a ++ (sign RParen ∷ [])))) head o
        in_call false true v y d' z why q w o =
            let x : why ≡ CallOnOther = o.arises w in
            record {
              row = j + 1 + 1;
              at = around x (omega (arith, not_before why q o)) (record {
                i = i;
                dot = j;
                deep = d;
                callee = t;
                is = r.is;
                other = v;
                stands = r.same proper;
                dotted = e;
                named = f;
                opens = h;
                here = refl;
              });
              arises = λ _. x;
              wish = o.wish;
              due = o.due;
              begun = λ k q. subst (λ (y : Syntax). Open (is_check y) (is_misfit y) ts Basic d i (j + 1 + 1) k) (sym x) (any_next as_field);
              dooms = λ _. paren_dooms v;
            }

        -- the tokens of a call, taken apart behind its parenthesis
        call_spells : (l : List Tok)
            → yield t ++ (sign Dot ∷ name method ∷ sign LParen ∷ l) ≡ (yield t ++ (sign Dot ∷ name method ∷ sign LParen ∷ [])) ++ l
        call_spells l = sym (append_assoc (yield t) (sign Dot ∷ name method ∷ sign LParen ∷ []) l)

        -- a call with no argument, or with one that begins with an operand's first row
        first_open : (d' : ℕ) → d ≡ suc d' → (k : ℕ) → has first_arguments k ≡ true → Open false true ts Basic d i (j + 1 + 1 + 1) k
        unfolding yield
        first_open d' z =
            each (Open false true ts Basic d i (j + 1 + 1 + 1)) first_arguments (RParen ∷ operand_kinds) refl
            (fitting RParen (call t method none) (i_bare (lax true r.is) aside) (sign RParen ∷ []) (call_spells (sign RParen ∷ [])) head
            refl
            and each_as (λ k b. as_argument k b) (unary_begins d'))
          where
            as_argument : (k : ℕ) → Begins Unary (suc d') k → Open false true ts Basic d i (j + 1 + 1 + 1) k
            as_argument k b =
                fitting k (call t method (one b.tree))
                (i_call (lax true r.is) aside (i_one (i_up (i_lone
                (i_unary (subst (λ (n : ℕ). Is false Unary n b.tree) (sym z) b.is))))))
                (yield b.tree ++ (sign RParen ∷ [])) (call_spells (yield b.tree ++ (sign RParen ∷ []))) head
                (heads_more k (yield b.tree ++ (sign RParen ∷ [])) [] (heads_more k (yield b.tree) (sign RParen ∷ []) b.next))

        -- the arguments a go on, or end
        args_open : (a : Tree) (k : ℕ) → Is false Args d a → Run ts (j + 1 + 1 + 1) (yield a) k → (n : ℕ)
            → has (Parse.onward ts a k + (only Comma + only RParen)) n ≡ true → Open false true ts Basic d i k n
        unfolding yield
        args_open a k g x =
            onward_open ts proper (λ u. call t method u) (sign RParen ∷ []) (λ u q. i_call (lax true r.is) aside q)
            (λ u. call_spells (yield u ++ (sign RParen ∷ []))) head a x
            (only Comma + only RParen) (Comma ∷ RParen ∷ []) refl (start ts (j + 1 + 1) LParen h refl refl).undotted
            (λ n o. args_on ts proper k g o)
            (fitting Comma (call t method (more a (num 0))) (i_call (lax true r.is) aside (i_more g nought))
            (sign Comma ∷ value 0 ∷ sign RParen ∷ [])
            (ap (λ (l : List Tok). yield t ++ (sign Dot ∷ name method ∷ sign LParen ∷ l))
            (append_assoc (yield a) (sign Comma ∷ value 0 ∷ []) (sign RParen ∷ []))
            ∙ call_spells (yield a ++ (sign Comma ∷ value 0 ∷ sign RParen ∷ []))
            ∙ sym (append_assoc (yield t ++ (sign Dot ∷ name method ∷ sign LParen ∷ [])) (yield a)
            (sign Comma ∷ value 0 ∷ sign RParen ∷ []))) (head ▸ x) refl
            and fitting RParen (call t method a) (i_call (lax true r.is) aside g) (sign RParen ∷ [])
            (call_spells (yield a ++ (sign RParen ∷ []))
            ∙ sym (append_assoc (yield t ++ (sign Dot ∷ name method ∷ sign LParen ∷ [])) (yield a) (sign RParen ∷ []))) (head ▸ x) refl
            and done)

        -- behind the parenthesis
        call_by : (b : Bool) → eqb (kind_at ts (j + 1 + 1 + 1)) RParen ≡ b
            → Stuck HPost (Parse.call_by ts (G ts) b t method (j + 1) (j + 1 + 1))
        unfolding Parse.call_by yield
        call_by true y = called_stuck none (j + 1 + 1 + 1 + 1)
        call_by false y =
            let D : ℕ → Type 0 = Dooms ts j (λ x. Parse.post x (G x) t j) in
            then_stuck HPost (Under ts Args d (j + 1 + 1)) (Parse.args ts (G ts) (j + 1 + 1)) _
            (args_sound ts d (G ts) (inner_sound ts d) (j + 1 + 1) (here ts (j + 1 + 1) LParen h refl))
            (args_stuck HPost (j + 1 + 1) (start ts (j + 1 + 1) LParen h refl refl) (ap (λ (k : ℕ). eqb k LBrace) h)
            (λ z. too_deep ts code D Basic d i (j + 1 + 1) (j + 1 + 1 + 1) (list_row ts (j + 1) f h)
            (opened (call t method none) (i_bare (lax false r.is) aside) (sign RParen ∷ []) (call_spells (sign RParen ∷ [])) head))
            (λ d' z. wanted ts code D Basic d i first_arguments RParen (j + 1 + 1 + 1) (holds first_arguments RParen refl) (first_open d' z))
            (λ d' z why q o. in_call (is_variable t) (is_check why) refl y d' z why q refl o))
            (λ a k q u. let v : Is false Args d a × Run ts (j + 1 + 1 + 1) (yield a) k = under_read ts Args d (j + 1 + 1) a k u in
            end_halt ts code D Basic d i (only Comma + only RParen) RParen a (Parse.called ts t method a (j + 1)) k refl
            (args_open a k v.0 v.1)
            (λ c. called_stuck a (k + 1)))

      open_by : (b : Bool) → eqb (kind_at ts (j + 1 + 1)) LParen ≡ b → Stuck HPost (Parse.open_by ts (G ts) b t method (j + 1) (j + 1 + 1))
      unfolding Parse.open_by
      open_by true b = call_by (eqb-true (kind_at ts (j + 1 + 1)) LParen b) (eqb (kind_at ts (j + 1 + 1 + 1)) RParen) refl
      open_by false b = tt

    post_stuck : (i : ℕ) (t : Tree) (j : ℕ) → Reads ts Basic d i t j → kind_at ts j ≡ Dot
        → Refused ts code Basic d i j (λ x. Parse.post x (G x) t j)
    unfolding Parse.post yield
    post_stuck i t j r e =
        named_halt ts code (Dooms ts j (λ x. Parse.post x (G x) t j)) Basic d i _ (j + 1)
        (fitting Identifier (field t []) (i_field (lax true r.is)) (name [] ∷ [])
        (sym (append_assoc (yield t) (sign Dot ∷ []) (name [] ∷ [])))
        (run_of r ▸ row ts j Dot e refl) refl)
        (λ f. open_by i t j r e f (eqb (kind_at ts (j + 1 + 1)) LParen) refl)

    prim_stuck : (i : ℕ) → (lead (kind_at ts i) ≡ other → ⊥) → Start ts i → Refused ts code Basic d i i (λ x. Parse.prim x (G x) i)
    unfolding Parse.prim
    prim_stuck i m h =
        let posts : List Tok → Tree → P = λ x t j. Parse.loop x (λ r. eqb (kind_at x r) Dot) (Parse.post x (G x)) t j in
        then_stuck (Refusal ts code Basic d i i (λ x. Parse.prim x (G x) i)) (Reads ts Basic d i) (Parse.atom ts (G ts) i) (posts ts)
        (atom_sound ts d (G ts) (inner_sound ts d) i)
        (stuck_as (Refusal ts code Basic d i i (λ x. Parse.atom x (G x) i)) (Refusal ts code Basic d i i (λ x. Parse.prim x (G x) i))
        (Parse.atom ts (G ts) i) (atom_stuck i m h)
        (λ why r o. widen (at_first ts i i (λ x. Parse.atom x (G x) i) posts (omega arith)) o))
        (λ t j e r. stuck_as (Refusal ts code Basic d i j (λ x. posts x t j)) (Refusal ts code Basic d i i (λ x. Parse.prim x (G x) i))
        (posts ts t j)
        (loop_stuck ts code Basic d i (λ x. eqb x Dot) (λ x. Parse.post x (G x)) (Reads ts Basic d i)
        (post_sound ts d (G ts) (inner_sound ts d) i)
        (λ u k b ts' n a. post_local ts ts' n a (G ts) (G ts') (inner_local ts ts' n a d) u k)
        (λ u k r b. post_stuck i u k r (eqb-true (kind_at ts k) Dot b)) t j r)
        (λ why q o. widen (at_next ts i j (i + 1) i (λ x. Parse.atom x (G x) i) posts t e (omega (arith, r.next)) (atom_alike i)) o))

    -- at a row that begins nothing each operand would have fitted
    none_read : (i : ℕ) → lead (kind_at ts i) ≡ other → Parse.prim ts (G ts) i ≡ no (wrong operands) i
    unfolding Parse.prim Parse.atom Parse.atom_by
    none_read i e = Cases.then_no (Parse.atom ts (G ts) i) _ (wrong operands) i (ap (λ (l : Lead). Parse.atom_by ts (G ts) l i) e)

    none_begun : (D : ℕ → Type 0) (i : ℕ) → Start ts i → Halt code D ts Unary d i (wrong operands) i
    none_begun D i h =
        wanted ts code D Unary d i operands Number i (holds operands Number refl)
        (each (Open false true ts Unary d i i) operands operand_kinds refl
        (each_as (λ k b. fitting k b.tree b.is (yield b.tree) refl (run_none ts i h.inside)
        (heads_more k (yield b.tree) [] b.next)) (unary_begins d)))

    unary_by : (b : Bool) (i : ℕ) → eqb (kind_at ts i) Star ≡ b → Start ts i → Refused ts code Unary d i i (λ x. Parse.unary_by x (G x) b i)
    unfolding Parse.unary_by yield
    unary_by true i b h =
        let e : kind_at ts i ≡ Star = eqb-true (kind_at ts i) Star b in
        let l : i < length ts = here ts i Star e refl in
        then_any (Refusal ts code Unary d i i (λ x. Parse.unary_by x (G x) true i)) (G ts operand i) _
        (below ts Unary d (λ x. G x operand) (under operand) (Refusal ts code Unary d i i (λ x. Parse.unary_by x (G x) true i)) i
        (start ts i Star e refl refl)
        (λ z. too_deep ts code (Dooms ts i (λ x. Parse.unary_by x (G x) true i)) Unary d i i i
        (group_row ts i (ap (λ (x : ℕ). eqb x LBrace) e) h.fresh)
        (opened (num 0) (i_prim i_num) (value 0 ∷ []) refl (run_none ts i h.inside)))
        (λ d' z why r o. wrap star (λ u q. around_it (is_misfit why) d d' z (i_star q))
        (λ _. at_first ts i (i + 1) (λ x. G x operand i) (λ x t j. ok (star t) j) (omega arith)) [] refl
        (λ u. ap (λ (x : List Tok). sign Star ∷ x) (sym (append-nil (yield u)))) (row ts i Star e refl) o))
        (λ t j. tt)
    unary_by false i b h = go (lead (kind_at ts i)) refl
      where
        H : Syntax → ℕ → Type 0
        H = Refusal ts code Unary d i i (λ x. Parse.prim x (G x) i)

        prims : (lead (kind_at ts i) ≡ other → ⊥) → Stuck H (Parse.prim ts (G ts) i)
        prims n =
            stuck_as (Refusal ts code Basic d i i (λ x. Parse.prim x (G x) i)) H (Parse.prim ts (G ts) i) (prim_stuck i n h)
            (λ why r o. recast (λ u. u) (λ u q. i_prim q) (λ _ s x. x) refl (λ u. refl) o)

        go : (l : Lead) → lead (kind_at ts i) ≡ l → Stuck H (Parse.prim ts (G ts) i)
        go other e = subst (Stuck H) (sym (none_read i e)) (none_begun (Dooms ts i (λ x. Parse.prim x (G x) i)) i h)
        go number e = prims (λ q. let z : ◌≡◌ {A = ℕ} 0 1 = cc in omega arith)
        go identifier e = prims (λ q. let z : ◌≡◌ {A = ℕ} 0 1 = cc in omega arith)
        go paren e = prims (λ q. let z : ◌≡◌ {A = ℕ} 0 1 = cc in omega arith)

    unary_stuck : (i : ℕ) → Start ts i → Refused ts code Unary d i i (λ x. Parse.unary x (G x) i)
    unfolding Parse.unary
    unary_stuck i h =
        stuck_as (Refusal ts code Unary d i i (λ x. Parse.unary_by x (G x) (eqb (kind_at ts i) Star) i))
        (Refusal ts code Unary d i i (λ x. Parse.unary_by x (G x) (eqb (kind_at x i) Star) i))
        (Parse.unary_by ts (G ts) (eqb (kind_at ts i) Star) i) (unary_by (eqb (kind_at ts i) Star) i refl h)
        (λ why r o. widen (at_kind ts (λ x k. Parse.unary_by x (G x) (eqb k Star) i) i) o)

    -- a ladder: operands q of the nonterminal M, the first of them by `one`, whose rows of operators `is_op` join them to the nonterminal N
    module _ (N M : Nt) (plain : closed_by M ≡ []) (is_op : ℕ → Bool) (mark : (k : ℕ) → is_op k ≡ true → is_mark k ≡ true)
        (apart : is_op Dot ≡ false) (q : List Tok → P) (q_sound : (i : ℕ) → All (Reads ts M d i) (q ts i))
        (q_alike : (i : ℕ) (ts' : List Tok) (n : ℕ) → Alike ts ts' n → Local ts n i (i + 1) (q ts i) (q ts' i))
        (q_stuck : (i : ℕ) → Start ts i → Refused ts code M d i i (λ x. q x i))
        (joins : (b : Bool) (n k : ℕ) (l r : Tree) → Is b N n l → is_op k ≡ true → Is b M n r → Is b N n (bin k l r)) where
      bin_stuck : (i : ℕ) (t : Tree) (j : ℕ) → Reads ts N d i t j → is_op (kind_at ts j) ≡ true
          → Refused ts code N d i j (λ x. Parse.bin_step x (G x) (q x) t j)
      unfolding Parse.bin_step yield
      bin_stuck i t j r b =
          let x : Run ts j (sign (kind_at ts j) ∷ []) (j + 1) = row ts j (kind_at ts j) refl (mark (kind_at ts j) b) in
          then_any (Refusal ts code N d i j (λ x. Parse.bin_step x (G x) (q x) t j)) (q ts (j + 1)) _
          (stuck_as (Refusal ts code M d (j + 1) (j + 1) (λ x. q x (j + 1)))
          (Refusal ts code N d i j (λ x. Parse.bin_step x (G x) (q x) t j)) (q ts (j + 1))
          (q_stuck (j + 1) (start ts j (kind_at ts j) refl (mark (kind_at ts j) b) (joins_apart is_op apart (kind_at ts j) b)))
          (λ why s o. wrap (λ u. bin (kind_at ts j) t u) (λ u w. joins (is_check why) (over (is_misfit why) d) (kind_at ts j) t u
          (lax (is_misfit why) r.is) b w)
          (λ _. at_first ts j (j + 1) (λ x. q x (j + 1)) (λ x u k. ok (bin (kind_at x j) t u) k) (omega arith)) [] plain
          (λ u. last_part (yield t) (sign (kind_at ts j)) (yield u)) (run_of r ▸ x) o))
          (λ u k. tt)

      ladder : (i : ℕ) (t : Tree) (j : ℕ) → Reads ts N d i t j
          → Refused ts code N d i j (λ x. Parse.loop x (λ r. is_op (kind_at x r)) (Parse.bin_step x (G x) (q x)) t j)
      ladder i t j r =
          loop_stuck ts code N d i is_op (λ x. Parse.bin_step x (G x) (q x)) (Reads ts N d i)
          (bin_step ts d (G ts) (inner_sound ts d) N M is_op mark (q ts) q_sound (joins true d) i)
          (λ u k b ts' n a. Local.bin_step ts ts' n a (G ts) (G ts') (inner_local ts ts' n a d) is_op (q ts) (q ts')
          (λ i. q_alike i ts' n a) u k)
          (bin_stuck i) t j r

      -- behind the first operand p
      climb : (M' : Nt) (p : List Tok → P) → ((i : ℕ) → All (Reads ts M' d i) (p ts i))
          → ((i : ℕ) (ts' : List Tok) (n : ℕ) → Alike ts ts' n → Local ts n i (i + 1) (p ts i) (p ts' i))
          → ((i : ℕ) → Start ts i → Refused ts code M' d i i (λ x. p x i))
          → ((b : Bool) (n : ℕ) (u : Tree) → Is b M' n u → Is b N n u) → closed_by M' ≡ closed_by N → (i : ℕ) → Start ts i
          → Refused ts code N d i i (λ x. then (p x i) (λ t j. Parse.loop x (λ r. is_op (kind_at x r)) (Parse.bin_step x (G x) (q x)) t j))
      climb M' p p_sound p_alike p_stuck up alone i h =
          let f : List Tok → Tree → P = λ x t j. Parse.loop x (λ r. is_op (kind_at x r)) (Parse.bin_step x (G x) (q x)) t j in
          then_stuck (Refusal ts code N d i i (λ x. then (p x i) (f x))) (Reads ts M' d i) (p ts i) (f ts) (p_sound i)
          (stuck_as (Refusal ts code M' d i i (λ x. p x i)) (Refusal ts code N d i i (λ x. then (p x i) (f x))) (p ts i) (p_stuck i h)
          (λ why r o. recast (λ u. u) (λ u w. up (is_check why) (over (is_misfit why) d) u w)
          (λ _. at_first ts i i (λ x. p x i) f (omega arith)) alone (λ u. refl) o))
          (λ t j e r. stuck_as (Refusal ts code N d i j (λ x. f x t j)) (Refusal ts code N d i i (λ x. then (p x i) (f x))) (f ts t j)
          (ladder i t j (taken_as (λ w. up true d t w) r))
          (λ why s o. widen (at_next ts i j (i + 1) i (λ x. p x i) f t e (omega (arith, r.next)) (p_alike i)) o))

    unary_alike : (i : ℕ) (ts' : List Tok) (n : ℕ) → Alike ts ts' n
        → Local ts n i (i + 1) (Parse.unary ts (G ts) i) (Parse.unary ts' (G ts') i)
    unary_alike i ts' n a = unary_local ts ts' n a (G ts) (G ts') (inner_local ts ts' n a d) i

    mul_alike : (i : ℕ) (ts' : List Tok) (n : ℕ) → Alike ts ts' n → Local ts n i (i + 1) (Parse.mul ts (G ts) i) (Parse.mul ts' (G ts') i)
    mul_alike i ts' n a = mul_local ts ts' n a (G ts) (G ts') (inner_local ts ts' n a d) i

    shift_alike : (i : ℕ) (ts' : List Tok) (n : ℕ) → Alike ts ts' n
        → Local ts n i (i + 1) (Parse.shift ts (G ts) i) (Parse.shift ts' (G ts') i)
    shift_alike i ts' n a = shift_local ts ts' n a (G ts) (G ts') (inner_local ts ts' n a d) i

    mul_stuck : (i : ℕ) → Start ts i → Refused ts code Mul d i i (λ x. Parse.mul x (G x) i)
    unfolding Parse.mul
    mul_stuck i h =
        climb Mul Unary refl is_mul mul_mark refl (λ x. Parse.unary x (G x)) (unary_sound ts d (G ts) (inner_sound ts d)) unary_alike
        unary_stuck (λ b n k l r a e c. i_mul a e c)
        Unary (λ x. Parse.unary x (G x)) (unary_sound ts d (G ts) (inner_sound ts d)) unary_alike unary_stuck (λ b n u w. i_unary w) refl i
        h

    shift_stuck : (i : ℕ) → Start ts i → Refused ts code Shift d i i (λ x. Parse.shift x (G x) i)
    unfolding Parse.shift
    shift_stuck i h =
        climb Shift Mul refl is_shift shift_mark refl (λ x. Parse.mul x (G x)) (mul_sound ts d (G ts) (inner_sound ts d)) mul_alike
        mul_stuck (λ b n k l r a e c. i_shift a e c)
        Mul (λ x. Parse.mul x (G x)) (mul_sound ts d (G ts) (inner_sound ts d)) mul_alike mul_stuck (λ b n u w. i_lone w) refl i h

    add_stuck : (i : ℕ) → Start ts i → Refused ts code Add d i i (λ x. Parse.add x (G x) i)
    unfolding Parse.add
    add_stuck i h =
        climb Add Mul refl is_add add_mark refl (λ x. Parse.mul x (G x)) (mul_sound ts d (G ts) (inner_sound ts d)) mul_alike mul_stuck
        (λ b n k l r a e c. i_add a e c)
        Shift (λ x. Parse.shift x (G x)) (shift_sound ts d (G ts) (inner_sound ts d)) shift_alike shift_stuck (λ b n u w. i_up w) refl i h

  inner_stuck : (d : ℕ) (s : Sort) → Below ts (nt_of s) d (λ x. Parse.inner x d s)
  unfolding Parse.inner
  inner_stuck zero s = λ o. refl
  inner_stuck (suc d) operand = λ o h. unary_stuck d (inner_stuck d) (o + 1) h
  inner_stuck (suc d) whole = λ o h. add_stuck d (inner_stuck d) (o + 1) h

  pub expr_stuck : (d i : ℕ) → Start ts i → Refused ts code Add d i i (λ x. Parse.expr x d i)
  unfolding Parse.expr
  expr_stuck d i h = add_stuck d (inner_stuck d) i h

  pub expr_alike : (d i : ℕ) (ts' : List Tok) (n : ℕ) → Alike ts ts' n → Local ts n i (i + 1) (Parse.expr ts d i) (Parse.expr ts' d i)
  expr_alike d i ts' n a = expr_local ts ts' n a d i
