-- Refused lists: in place of a thing's first row there may stand what begins another thing, what ends the list, and `else` behind an `if`
-- without it.
use mathlib.Core.Path.{◌≡◌, refl, sym, ap, ◌∙◌, subst}
use mathlib.Core.Bool.{Bool, true, false, not, true≢false}
use mathlib.Core.List.{List, [], ◌∷◌, ◌++◌, append-nil}
use Prim.Native.Nat.{ℕ, suc, ◌+◌, ◌≤◌, ◌<◌}
use native.Mathlib.Omega.{arith}
use lib.Dec.{eqb}
use lib.ListN.{length}
use borrow.Author.Tests.{eq-eqb}
use Rattle.rules.specs.declared.Syntax.{Syntax}
use Rattle.rules.specs.declared.Syntax.TheVariants.{CallOnOther}
use Rattle.rules.specs.Kinds.{KeywordElse, LBrace, RBrace, Identifier}
use Rattle.rules.specs.Tree.{Tok, sign, name, spelling_of, Tree, none, plain, seq, yield, hangs}
use Rattle.rules.specs.Fits.{has, set_told}
use Rattle.rules.specs.Parse
use Rattle.rules.specs.Parse.{Out, ok, P, or, tok_at, kind_at}
use Rattle.rules.specs.Grammar.{Nt, Decl, Is}
use Rattle.theory_grammar.specs.Lost.{is_misfit, is_check, lost}
use Rattle.theory_grammar.proofs.Laws.{fewest}
use Rattle.theory_grammar.proofs.Runs.{Run, or_all, run_none, row, name_row, ◌▸◌, All, all_both, then_all, map_all}
use Rattle.theory_grammar.proofs.Sound.{Reads, reads, run_of, list_next, list_sound}
use Rattle.theory_grammar.proofs.Cases
use Rattle.theory_grammar.proofs.Local.{Dead, dead_then, or_local, Local, then_local, ok_local, Alike}
use Rattle.theory_grammar.proofs.Members.{Each, list_set, listed, each_listed, listed_stop}
use Rattle.theory_grammar.proofs.Grow.{heads_more, Grown, each_as, Begins}
use Rattle.theory_grammar.proofs.Begun.{closed_by, fitting, shut, over, lax, Open, Where, top, Halt, wrap, loosely}
use Rattle.theory_grammar.proofs.Halts.{misfit_aside, Stuck, stuck_as, then_stuck, then_any, or_stuck, Dooms, same_kind, at_first, at_or, Refusal, Refused, misfit, wanted, want_halt, named_halt, loop_stuck}

module _ (ts : List Tok) where
  -- ---- lists: things Q of the nonterminal M, up to a row of kind `stop`; S is what is known of the rows where they start

  -- a refusal of a thing at row i: inside it, or of its first row, telling the set `also` of the list
  pub data Thing (c : Where) (M : Nt) (d also : ℕ) (Q : List Tok → P) (i : ℕ) (why : Syntax) (r : ℕ) : Type 0 where
    inside : Refusal ts c M d i i (λ x. Q x i) why r → Thing c M d also Q i why r
    strange : r ≡ i → is_misfit why ≡ true → is_check why ≡ false → lost ts why r ≡ r → set_told why ≡ list_set also false
        → Thing c M d also Q i why r

  module _ (c : Where) (Ns M : Nt) (d : ℕ) (nil : (b : Bool) (n : ℕ) → Is b Ns n none)
      (join : (b : Bool) (n : ℕ) (l s : Tree) → Is b Ns n l → Is b M n s → Is b Ns n (seq l s)) (wide : 1 ≤ fewest M) (S : ℕ → Type 0)
      (also stop : ℕ) (ks : List ℕ) (set : listed also stop ks ≡ true) (closed : closed_by Ns ≡ sign stop ∷ []) (plain : closed_by M ≡ [])
      (firsts : Each (Begins M (suc d)) ks) (elses : (n : ℕ) (l : Tree) → Is false Ns n l → hangs l ≡ true → Grown Ns n l KeywordElse)
      (Q : List Tok → P) (q_sound : (i : ℕ) → All (Reads ts M d i) (Q ts i)) (q_next : (i : ℕ) → All (λ t j. S j) (Q ts i))
      (q_alike : (i : ℕ) (ts' : List Tok) (n : ℕ) → Alike ts ts' n → Local ts n i (i + 1) (Q ts i) (Q ts' i))
      (q_stuck : (i : ℕ) → i ≤ length ts → S i → Stuck (Thing c M d also Q i) (Q ts i)) where
    abbrev StepD : Tree → ℕ → ℕ → Type 0
    StepD l j = Dooms ts j (λ x. Parse.list_step x also (Q x) l j)

    -- behind the list l: its end, each thing's first row, and `else` where an `if` without it stands last (b)
    list_open : (i : ℕ) (l : Tree) (j : ℕ) → Reads ts Ns d i l j → (b : Bool) → (b ≡ true → hangs l ≡ true) → (k : ℕ)
        → has (list_set also b) k ≡ true
        → Open false true ts Ns d i j k
    unfolding yield
    list_open i l j r b f =
        each_listed also stop ks set (Open false true ts Ns d i j) b (λ e. else_open (elses (suc d) l (lax true r.is) (f e)))
        (fitting stop l (lax true r.is) [] (sym (append-nil (yield l))) (run_of r) (rw closed (eq-eqb stop stop refl)))
        (each_as thing_open firsts)
      where
        else_open : Grown Ns (suc d) l KeywordElse → Open false true ts Ns d i j KeywordElse
        else_open g =
            fitting KeywordElse g.tree g.is g.rest g.spells (run_of r)
            (heads_more KeywordElse g.rest (closed_by Ns) g.next)

        thing_open : (k : ℕ) → Begins M (suc d) k → Open false true ts Ns d i j k
        thing_open k b =
            fitting k (seq l b.tree) (join false (suc d) l b.tree (lax true r.is) b.is) (yield b.tree) refl (run_of r)
            (heads_more k (yield b.tree) (closed_by Ns) b.next)

    list_thing : (i : ℕ) (l : Tree) (j : ℕ) → Reads ts Ns d i l j → (why : Syntax) (k : ℕ) → Thing c M d also Q j why k
        → Halt c (StepD l j) ts Ns d i why k
    unfolding Parse.list_step yield
    list_thing i l j r why k (inside o) =
        wrap (λ u. seq l u) (λ u w. join (is_check why) (over (is_misfit why) d) l u (lax (is_misfit why) r.is) w)
        (λ _ s x. at_first ts j j (λ x. or (also + Parse.else_behind x l) j (Q x j)) (λ x t k. ok (seq l t) k) (omega arith) s
        (at_or ts j j (λ x. Q x j) (λ x. also + Parse.else_behind x l) s x)) [] plain
        (λ u. ap (λ (x : List Tok). yield l ++ x) (sym (append-nil (yield u)))) (run_of r) o
    list_thing i l j r why k (strange a m b e t) =
        misfit ts c (StepD l j) Ns d i why k j stop b m (sym (e ∙ a)) (ap (λ (x : ℕ). has x stop) t ∙ listed_stop also stop ks set false)
        (λ n h. list_open i l j r false (λ x. absurd (true≢false (sym x))) n (ap (λ (x : ℕ). has x n) (sym t) ∙ h))

    list_step : (i : ℕ) (l : Tree) (j : ℕ) → Reads ts Ns d i l j → S j
        → Stuck (Halt c (StepD l j) ts Ns d i) (Parse.list_step ts also (Q ts) l j)
    unfolding Parse.list_step Parse.else_behind
    list_step i l j r s =
        then_any (Halt c (StepD l j) ts Ns d i) (or (list_set also (hangs l)) j (Q ts j)) _
        (or_stuck (Halt c (StepD l j) ts Ns d i) (Thing c M d also Q j) (list_set also (hangs l)) j (Q ts j) (q_stuck j r.inside s)
        (list_thing i l j r)
        (λ low high o. wanted ts c (StepD l j) Ns d i (list_set also (hangs l)) stop j (listed_stop also stop ks set (hangs l))
        (list_open i l j r (hangs l) (λ e. e))))
        (λ t k. tt)

    list_keeps : (i : ℕ) (l : Tree) (j : ℕ) → Reads ts Ns d i l j
        → All (λ u k. Reads ts Ns d i u k × S k) (Parse.list_step ts also (Q ts) l j)
    unfolding Parse.list_step
    list_keeps i l j r =
        all_both (Reads ts Ns d i) (λ u k. S k) (Parse.list_step ts also (Q ts) l j)
        (map_all (λ u k. Reads ts Ns d i u k × (j < k)) (Reads ts Ns d i) (Parse.list_step ts also (Q ts) l j)
        (list_next ts Ns M d (nil true d) (join true d) wide stop also (Q ts) q_sound i l j r) (λ u k x. x.0))
        (then_all (λ t k. S k) (λ u k. S k) (or (also + Parse.else_behind ts l) j (Q ts j)) _
        (or_all (λ t k. S k) (also + Parse.else_behind ts l) j (Q ts j) (q_next j)) (λ t k s. s))

    step_alike : (l : Tree) (j : ℕ) (ts' : List Tok) (n : ℕ) → Alike ts ts' n
        → Local ts n j (j + 1) (Parse.list_step ts also (Q ts) l j) (Parse.list_step ts' also (Q ts') l j)
    unfolding Parse.list_step Parse.else_behind
    step_alike l j ts' n a =
        then_local ts n (or (list_set also (hangs l)) j (Q ts j)) (or (list_set also (hangs l)) j (Q ts' j)) _ _
        (or_local ts n (list_set also (hangs l)) j (Q ts j) (Q ts' j) (q_alike j ts' n a))
        (λ t r m. ok_local ts n r (j + 1) _ r (omega arith) m)

    pub list_stuck : (i : ℕ) → i ≤ length ts → S i → Refused ts c Ns d i i (λ x. Parse.list_to x stop also (Q x) i)
    unfolding Parse.list_to yield
    list_stuck i h s =
        loop_stuck ts c Ns d i (λ k. not (eqb k stop)) (λ x. Parse.list_step x also (Q x)) (λ l j. Reads ts Ns d i l j × S j)
        (λ l j r b. list_keeps i l j r.0) (λ l j b ts' n a. step_alike l j ts' n a) (λ l j r b. list_step i l j r.0 r.1) none i
        (reads (nil true d) (run_none ts i h), s)

    -- name `{` contents `}` behind the keyword at row i: a tree, where the checks count (b) or not, that the tokens zs close
    module _ (brace : stop ≡ RBrace) (F : Bool → List ℕ → Tree → Tree) (k i : ℕ) (f : List Tok → List ℕ → Tree → P)
        (zs : Bool → List Tok) where
      abbrev contents : List Tok → Out
      contents x = Parse.list_to x RBrace also (Q x) (i + 1 + 1 + 1)

      contents_stuck : i + 1 + 1 + 1 ≤ length ts → S (i + 1 + 1 + 1) → Refused ts c Ns d (i + 1 + 1 + 1) (i + 1 + 1 + 1) contents
      contents_stuck h s =
          let at : ℕ = i + 1 + 1 + 1 in
          subst (λ (n : ℕ). Refused ts c Ns d at at (λ x. Parse.list_to x n also (Q x) at)) brace (list_stuck at h s)

      braced_doom : kind_at ts (i + 1) ≡ Identifier → kind_at ts (i + 1 + 1) ≡ LBrace → (s : ℕ) → Dooms ts (i + 1 + 1 + 1) contents s
          → Dooms ts i (λ x. Parse.braced x also (Q x) (f x) i) s
      unfolding Parse.braced
      braced_doom a b s h = (
        omega (arith, h.0),
        λ ts' y. subst (Dead CallOnOther)
            (sym (Cases.named_yes ts' _ (i + 1) (same_kind ts y (omega (arith, h.0)) a) ∙ Cases.want_yes ts' LBrace _ (i + 1 + 1)
            (same_kind ts y (omega (arith, h.0)) b)))
            (dead_then CallOnOther (contents ts') _ (h.1 ts' y)),
      )

      pub braced_stuck : zs false ≡ sign RBrace ∷ [] → ((b : Bool) (n : ℕ) (w : List ℕ) (l : Tree) → Is b Ns n l → Is b Decl n (F b w l))
          → ((b : Bool) (w : List ℕ) (l : Tree) → yield (F b w l) ≡ sign k ∷ name w ∷ sign LBrace ∷ (yield l ++ zs b))
          → Run ts i (sign k ∷ []) (i + 1) → (kind_at ts (i + 1 + 1) ≡ LBrace → S (i + 1 + 1 + 1))
          → ((w : List ℕ) (l : Tree) (j : ℕ) → Is true Ns d l → Run ts i (sign k ∷ name w ∷ sign LBrace ∷ yield l) j
          → Stuck (Refusal ts top Decl d i i (λ x. Parse.braced x also (Q x) (f x) i)) (f ts w l (j + 1)))
          → Refused ts top Decl d i i (λ x. Parse.braced x also (Q x) (f x) i)
      unfolding Parse.braced yield
      braced_stuck shuts made spells r at ends =
          let D : ℕ → Type 0 = Dooms ts i (λ x. Parse.braced x also (Q x) (f x) i) in
          named_halt ts top D Decl d i _ (i + 1)
          (fitting Identifier (F false [] none) (made false (suc d) [] none (nil false (suc d))) (name [] ∷ sign LBrace ∷ zs false)
          (spells false [] none) r refl)
          (λ a.
          want_halt ts top D Decl d i LBrace _ (i + 1 + 1)
          (fitting LBrace (F false _ none) (made false (suc d) _ none (nil false (suc d))) (sign LBrace ∷ zs false) (spells false _ none)
          (r ▸ name_row ts (i + 1) a) refl) (λ b.
          let x : Run ts i (sign k ∷ name (spelling_of (tok_at ts (i + 1))) ∷ sign LBrace ∷ []) (i + 1 + 1 + 1) =
          r ▸ name_row ts (i + 1) a ▸ row ts (i + 1 + 1) LBrace b refl in
          then_stuck (Halt top D ts Decl d i) (λ l j. Reads ts Ns d (i + 1 + 1 + 1) l j × (kind_at ts j ≡ RBrace)) (contents ts) _
          (list_sound ts Ns M d (nil true d) (join true d) wide RBrace also (Q ts) q_sound (i + 1 + 1 + 1) x.inside)
          (stuck_as (Refusal ts c Ns d (i + 1 + 1 + 1) (i + 1 + 1 + 1) contents) (Halt top D ts Decl d i) (contents ts)
          (contents_stuck x.inside (at b))
          (λ why s o. shut (F (is_check why) (spelling_of (tok_at ts (i + 1)))) (λ l w. made (is_check why) (over (is_misfit why) d) _ l w)
          (λ _. braced_doom a b) (zs (is_check why))
          (λ m. closed ∙ ap (λ (n : ℕ). sign n ∷ []) brace ∙ sym (ap zs (misfit_aside why m) ∙ shuts)) (spells (is_check why) _) x
          (loosely o)))
          (λ l j e u. ends _ l j u.0.is (x ▸ run_of u.0))))
