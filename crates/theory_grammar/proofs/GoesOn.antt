-- In front of the lost row some program goes on, with each kind that is told in its place: what was read up to it, completed. And where
-- that row is the parenthesis of a call on no variable around the one that 31 tells, it dooms.
use mathlib.Core.Path.{◌≡◌, refl, sym, ap, ◌∙◌, subst}
use mathlib.Core.Bool.{Bool, true, false, cond}
use mathlib.Core.List.{List, [], ◌∷◌, ◌++◌, append-nil}
use Prim.Native.Nat.{ℕ, ◌+◌, ◌≤◌}
use native.Mathlib.Omega.{arith}
use lib.ListN.{length, take, drop, length-append}
use lib.Seq.{take-append_seam}
use Rattle.rules.specs.declared.Syntax.{Syntax}
use Rattle.rules.specs.declared.Syntax.TheVariants.{CallOnOther}
use Rattle.rules.specs.Kinds.{Eof}
use Rattle.rules.specs.Tree.{Tok, sign, program, yield}
use Rattle.rules.specs.Fits.{has, tops, set_told}
use Rattle.rules.specs.Parse
use Rattle.rules.specs.Parse.{Out, ok, no, TopLead, map_lead, unit_lead, event_top, no_top, top_lead, kind_at}
use Rattle.rules.specs.Grammar.{Decl, Decls, Program, Is, i_no_decls, i_decls, i_program}
use Rattle.theory_grammar.specs.Tokens.{Proper}
use Rattle.theory_grammar.specs.Fitting.{Fitting}
use Rattle.theory_grammar.specs.Lost.{is_misfit, is_check, lost, LostAt, GoesOn, nesting}
use Rattle.theory_grammar.proofs.Leads.{TopIs, top_is}
use Rattle.theory_grammar.proofs.Runs.{run_none, row, all_any}
use Rattle.theory_grammar.proofs.Sound.{top_sound}
use Rattle.theory_grammar.proofs.Local.{Dead, Alike, top_local}
use Rattle.theory_grammar.proofs.Grow.{heads, heads_long, heads_behind, decl_kinds, decl_begins, decls_else}
use Rattle.theory_grammar.proofs.Begun.{shut, over, Open, top, Halt, widen}
use Rattle.theory_grammar.proofs.Halts.{misfit_aside, Stuck, stuck_as, then_any, Dooms, at_kind, at_first, Refusal, Refused}
use Rattle.theory_grammar.proofs.GoesOnList.{Thing, inside, strange, list_stuck}
use Rattle.theory_grammar.proofs.GoesOnStmt.{unit_stuck}
use Rattle.theory_grammar.proofs.GoesOnFields.{map_stuck, event_stuck}

module _ (ts : List Tok) (proper : Proper ts) where
  -- ---- programs

  top_by : (l : TopLead) (i : ℕ) → TopIs (kind_at ts i) l → (l ≡ no_top → ⊥) → Refused ts top Decl 64 i i (λ x. Parse.top_by x l i)
  unfolding Parse.top_by
  top_by map_lead i e n = map_stuck ts i e
  top_by unit_lead i e n = unit_stuck ts proper i e
  top_by event_top i e n = event_stuck ts i e
  top_by no_top i e n = absurd (n refl)

  -- at a row that begins no declaration the whole list's set is told
  top_stuck : (i : ℕ) → i ≤ length ts → Unit {0} → Stuck (Thing ts top Decl 64 tops Parse.top i) (Parse.top ts i)
  unfolding Parse.top Parse.top_by is_misfit is_check lost set_told
  top_stuck i h s = go (top_lead (kind_at ts i)) refl
    where
      H : Syntax → ℕ → Type 0
      H = Thing ts top Decl 64 tops Parse.top i

      found : (l : TopLead) → top_lead (kind_at ts i) ≡ l → (l ≡ no_top → ⊥) → Stuck H (Parse.top_by ts l i)
      found l e n =
          stuck_as (Refusal ts top Decl 64 i i (λ x. Parse.top_by x l i)) H (Parse.top_by ts l i)
          (top_by l i (subst (TopIs (kind_at ts i)) e (top_is (kind_at ts i))) n)
          (λ why r x. inside (widen (λ s y. at_kind ts (λ x k. Parse.top_by x (top_lead k) i) i s
          (subst (λ (m : TopLead). Dooms ts i (λ x. Parse.top_by x m i) s) (sym e) y)) x))

      go : (l : TopLead) → top_lead (kind_at ts i) ≡ l → Stuck H (Parse.top_by ts l i)
      go map_lead e = found map_lead e (λ q. let z : ◌≡◌ {A = ℕ} 0 1 = cc in omega arith)
      go unit_lead e = found unit_lead e (λ q. let z : ◌≡◌ {A = ℕ} 0 1 = cc in omega arith)
      go event_top e = found event_top e (λ q. let z : ◌≡◌ {A = ℕ} 0 1 = cc in omega arith)
      go no_top e = strange refl refl refl refl refl

  parse_stuck : Refused ts top Program 64 0 0 Parse.parse
  unfolding Parse.parse yield
  parse_stuck =
      let q : List Tok → Out = λ x. Parse.list_to x Eof tops (Parse.top x) 0 in
      then_any (Refusal ts top Program 64 0 0 Parse.parse) (q ts) _
      (stuck_as (Refusal ts top Decls 64 0 0 q) (Refusal ts top Program 64 0 0 Parse.parse) (q ts)
      (list_stuck ts top Decls Decl 64 (λ b n. i_no_decls) (λ b n l s a c. i_decls a c) (omega arith) (λ j. Unit {0}) tops Eof decl_kinds
      refl refl refl (decl_begins 65)
      (λ n l s e. decls_else s e) Parse.top (top_sound ts) (λ j. all_any (Parse.top ts j)) (λ j ts' n a. top_local ts ts' n a j) top_stuck
      0 (omega arith) tt)
      (λ why r o. shut program (λ l s. i_program s) (λ _. at_first ts 0 0 q (λ x l j. ok (program l) (j + 1)) (omega arith))
      (sign Eof ∷ []) (λ _. refl) (λ l. refl)
      (run_none ts 0 (omega arith)) o))
      (λ l j. tt)

-- ---- the theorem

module _ (ts : List Tok) (proper : Proper ts) where
  open_begins : (b x : Bool) (s k : ℕ) (o : Open b x ts Program 64 0 s k) → take s (yield o.tree) ≡ take s ts
  open_begins b x s k o =
      let n : s ≡ length o.read = o.run.next ∙ omega arith in
      rw n (ap (take (length o.read)) o.spells ∙ take-append_seam o.read o.rest
      ∙ sym (ap (take (length o.read)) (o.run.same proper) ∙ take-append_seam o.read (drop s ts)))

  -- with the checks (b), and nested deeper (x) or not
  open_goes : (b x : Bool) (s k : ℕ) → Open b x ts Program 64 0 s k → GoesOn b (cond x 65 64) ts s
  open_goes b x s k o = record { tree = o.tree; is = deep x o.is; begins = open_begins b x s k o }
    where
      deep : (x : Bool) → Is b Program (over x 64) o.tree → Is b Program (cond x 65 64) o.tree
      deep true h = h
      deep false h = h

  -- a row of the kind that comes next stands there
  open_fits : (s k : ℕ) → Open false true ts Program 64 0 s k → Fitting ts s k
  open_fits s k o =
      let n : s ≡ length o.read = o.run.next ∙ omega arith in
      let h : heads k o.rest ≡ true = subst (λ (l : List Tok). heads k l ≡ true) (append-nil o.rest) (o.next refl) in
      record {
        nested = 65;
        tree = o.tree;
        is = o.is;
        begins = open_begins false true s k o;
        there = omega (arith, n, ap length o.spells, length-append o.read o.rest, heads_long k o.rest h);
        next = ap (λ (l : List Tok). kind_at l s) o.spells ∙ ap (λ (m : ℕ). kind_at (o.read ++ o.rest) m) n ∙ heads_behind k o.read
            o.rest h;
      }

-- what holds of a refused table: some program goes on in front of the row that is lost, with each kind that is told in its place; and the
-- row dooms, where it is that of a call around
pub record Lost (ts : List Tok) (why : Syntax) (r : ℕ) : Type 0 where
  pub row : ℕ
  pub at : LostAt ts why r row
  pub goes : GoesOn (is_check why) (nesting why) ts row
  pub fits : is_misfit why ≡ true → (k : ℕ) → has (set_told why) k ≡ true → Fitting ts row k
  pub dooms : why ≡ CallOnOther → (ts' : List Tok) → Alike ts ts' (row + 1) → Dead CallOnOther (Parse.parse ts')

-- The theorem: some program goes on in front of the row that is lost, with each kind that is told.
pub some_goes_on : (ts : List Tok) (why : Syntax) (r : ℕ) → Proper ts → Parse.parse ts ≡ no why r → Lost ts why r
unfolding nesting
some_goes_on ts why r p e =
    let h : Halt top (Dooms ts 0 Parse.parse) ts Program 64 0 why r =
    subst (Stuck (Halt top (Dooms ts 0 Parse.parse) ts Program 64 0)) e (parse_stuck ts p) in
    record {
      row = h.row;
      at = h.at;
      goes = open_goes ts p (is_check why) (is_misfit why) h.row h.wish (h.begun h.wish h.due);
      fits = λ m k t. open_fits ts p h.row k
          (subst (λ (b : Bool). Open b true ts Program 64 0 h.row k) (misfit_aside why m)
          (subst (λ (x : Bool). Open (is_check why) x ts Program 64 0 h.row k) m (h.begun k (λ _. t))));
      dooms = λ x. (h.dooms x).1;
    }
