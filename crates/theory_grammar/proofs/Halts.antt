-- Refusals: what is known of one, by each combinator of the parser. Some tree begins with what was read and a row of each kind that is
-- told; and where the lost row is the parenthesis of a call on no variable around the one that 31 tells, it dooms: whatever stands behind
-- it, there is a refusal.
use mathlib.Core.Path.{◌≡◌, refl, sym, ap, ◌∙◌, subst}
use mathlib.Core.Bool.{Bool, true, false, cond, true≢false}
use mathlib.Core.List.{List, ◌++◌, append_assoc}
use Prim.Native.Nat.{ℕ, zero, suc, ◌+◌, ◌-◌, ◌≤◌, ◌<◌}
use native.Mathlib.Omega.{arith}
use lib.Dec.{eqb}
use lib.ListN.{length}
use borrow.Author.Tests.{eqb-true}
use Rattle.rules.specs.declared.Syntax.{Syntax}
use Rattle.rules.specs.declared.Syntax.TheVariants.{Wanted, NotTopLevel, NotMapField, MapTypeUnknown, NotType, MaxNegative, OutOfRange, ShiftCount, MapLacks, NotEventType, CallOnOther, TooDeep}
use Rattle.rules.specs.Kinds.{Dot, Identifier, StringLiteral, Number}
use Rattle.rules.specs.Tree.{Tok, kind_of, spelling_of, bits_in, Tree, first, yield}
use Rattle.rules.specs.Fits.{only, has, wrong, set_told, retold}
use Rattle.rules.specs.Parse
use Rattle.rules.specs.Parse.{Out, ok, no, P, then, or, many, tok_at, kind_at}
use Rattle.rules.specs.Grammar.{Nt, Is}
use Rattle.theory_grammar.specs.Tokens.{Proper}
use Rattle.theory_grammar.specs.Lost.{is_misfit, is_check, lost, own}
use Rattle.theory_grammar.proofs.Runs.{Run, row, ◌▸◌, All, all_any}
use Rattle.theory_grammar.proofs.Sound.{Under, run_of}
use Rattle.theory_grammar.proofs.Cases
use Rattle.theory_grammar.proofs.Local.{Dead, dead_then, or_dead, Local, Alike, kept, later}
use Rattle.theory_grammar.proofs.Members.{covers_onward, Each, only_has, only_one, told_wrong, retold_as, ends_onward}
use Rattle.theory_grammar.proofs.Grow.{heads_more, Grown, On, onward_each, onward_ends}
use Rattle.theory_grammar.proofs.Begun.{closed_by, fitting, any_next, lax, Open, Where, code, fields, top, Arises, Halt, widen, Start}

-- ---- refusals

-- 21, 22, 23, 25 and 30 are no checks
pub misfit_aside : (why : Syntax) → is_misfit why ≡ true → is_check why ≡ false
unfolding is_misfit is_check
misfit_aside (Wanted low high) e = refl
misfit_aside NotTopLevel e = refl
misfit_aside NotMapField e = refl
misfit_aside MapTypeUnknown e = absurd (true≢false (sym e))
misfit_aside NotType e = refl
misfit_aside MaxNegative e = absurd (true≢false (sym e))
misfit_aside OutOfRange e = absurd (true≢false (sym e))
misfit_aside ShiftCount e = absurd (true≢false (sym e))
misfit_aside (MapLacks m) e = absurd (true≢false (sym e))
misfit_aside NotEventType e = refl
misfit_aside CallOnOther e = absurd (true≢false (sym e))
misfit_aside TooDeep e = refl

-- what holds of an answer, if it is a refusal
abbrev pub Stuck : (Syntax → ℕ → Type 0) → Out → Type 0
Stuck C (ok t j) = Unit {0}
Stuck C (no why r) = C why r

pub stuck_as : (B C : Syntax → ℕ → Type 0) (o : Out) → Stuck B o → ((why : Syntax) (r : ℕ) → B why r → C why r) → Stuck C o
stuck_as B C (ok t j) h f = tt
stuck_as B C (no why r) h f = f why r h

module _ (C : Syntax → ℕ → Type 0) where
  pub then_stuck : (D : Tree → ℕ → Type 0) (o : Out) (f : Tree → P) → All D o → Stuck C o
      → ((t : Tree) (j : ℕ) → o ≡ ok t j → D t j → Stuck C (f t j))
      → Stuck C (then o f)
  unfolding then
  then_stuck D (ok t j) f a h k = k t j refl a
  then_stuck D (no why r) f a h k = h

  -- the same, where nothing need be known of the tree
  pub then_any : (o : Out) (f : Tree → P) → Stuck C o → ((t : Tree) (j : ℕ) → Stuck C (f t j)) → Stuck C (then o f)
  then_any o f h k = then_stuck (λ t j. Unit {0}) o f (all_any o) h (λ t j e a. k t j)

  -- an answer in which 21 at row i tells the set s
  pub or_stuck : (B : Syntax → ℕ → Type 0) (s i : ℕ) (o : Out) → Stuck B o → ((why : Syntax) (r : ℕ) → B why r → C why r)
      → ((low high : ℕ) → B (Wanted low high) i → C (wrong s) i) → Stuck C (or s i o)
  unfolding or
  or_stuck B s i (ok t j) h f c = tt
  or_stuck B s i (no why r) h f c = go (eqb r i) refl
    where
      go : (b : Bool) → eqb r i ≡ b → C (cond b (retold s why) why) r
      go true e =
          let q : r ≡ i = eqb-true r i e in
          retold_as (λ x. C x r) s why (f why r h) (λ low high x. subst (C (wrong s)) (sym q)
          (c low high (subst (λ (y : Syntax). B y i) x (subst (B why) q h))))
      go false e = f why r h

module _ (ts : List Tok) where
  module _ (C : Syntax → ℕ → Type 0) where
    pub want_in_stuck : (s k : ℕ) (f : P) (i : ℕ) → C (wrong s) i → (kind_at ts i ≡ k → Stuck C (f (i + 1)))
        → Stuck C (Parse.want_in ts s k f i)
    unfolding Parse.want_in Parse.want_by
    want_in_stuck s k f i c h = go (eqb (kind_at ts i) k) refl
      where
        go : (b : Bool) → eqb (kind_at ts i) k ≡ b → Stuck C (Parse.want_by ts b s f i)
        go true b = h (eqb-true (kind_at ts i) k b)
        go false b = c

    pub need_stuck : (k : ℕ) (f : P) (i : ℕ) → C (wrong (only k)) i → (kind_at ts i ≡ k → Stuck C (f i)) → Stuck C (Parse.need ts k f i)
    unfolding Parse.need Parse.need_by
    need_stuck k f i c h = go (eqb (kind_at ts i) k) refl
      where
        go : (b : Bool) → eqb (kind_at ts i) k ≡ b → Stuck C (Parse.need_by ts b k f i)
        go true b = h (eqb-true (kind_at ts i) k b)
        go false b = c

  -- ---- what a row dooms

  -- Row s, at row i or behind: the part q of the parser, which starts at row i, refuses every table that has the rows up to s too.
  abbrev pub Dooms : ℕ → (List Tok → Out) → ℕ → Type 0
  Dooms i q s = (i ≤ s) × ((ts' : List Tok) → Alike ts ts' (s + 1) → Dead CallOnOther (q ts'))

  pub same_kind : {ts' : List Tok} {n i k : ℕ} → Alike ts ts' n → i < n → kind_at ts i ≡ k → kind_at ts' i ≡ k
  same_kind {i = i} a l e = ap kind_of (sym (a.agree i l)) ∙ e

  pub self : Alike ts ts 0
  self = record { fit = omega arith; fit' = omega arith; agree = λ i h. refl }

  -- a part that goes by the kind of its first row
  pub at_kind : (F : List Tok → ℕ → Out) (i s : ℕ) → Dooms i (λ x. F x (kind_at ts i)) s → Dooms i (λ x. F x (kind_at x i)) s
  at_kind F i s h =
      (h.0, λ ts' a. subst (λ (k : ℕ). Dead CallOnOther (F ts' k)) (sym (same_kind a (omega (arith, h.0)) refl)) (h.1 ts' a))

  -- the first part of two
  pub at_first : (i j : ℕ) (q : List Tok → Out) (f : List Tok → Tree → P) → i ≤ j → (s : ℕ) → Dooms j q s
      → Dooms i (λ x. then (q x) (f x)) s
  at_first i j q f l s h = (omega (arith, l, h.0), λ ts' a. dead_then CallOnOther (q ts') (f ts') (h.1 ts' a))

  -- whatever set is told where row k itself is refused
  pub at_or : (i k : ℕ) (q : List Tok → Out) (f : List Tok → ℕ) (s : ℕ) → Dooms i q s → Dooms i (λ x. or (f x) k (q x)) s
  at_or i k q f s h = (h.0, λ ts' a. or_dead CallOnOther (f ts') k (q ts') (h.1 ts' a))

  -- the second, behind a first that is read alike
  pub at_next : (i j m k : ℕ) (q : List Tok → Out) (f : List Tok → Tree → P) (t : Tree) → q ts ≡ ok t j → i ≤ j
      → ((ts' : List Tok) (n : ℕ) → Alike ts ts' n → Local ts n k m (q ts) (q ts')) → (s : ℕ) → Dooms j (λ x. f x t j) s
      → Dooms i (λ x. then (q x) (f x)) s
  at_next i j m k q f t e l alike s h = (
    omega (arith, l, h.0),
    λ ts' a. subst (Dead CallOnOther)
        (sym (Cases.then_ok (q ts') (f ts') t j (kept ts (s + 1) k m (q ts) (q ts') t j e (alike ts' (s + 1) a) (omega (arith, h.0)))))
        (h.1 ts' a),
  )

  -- what is known of a refusal by the part q of the parser, at row j, where a tree of the nonterminal is read from row i on
  abbrev pub Refusal : Where → Nt → (d i j : ℕ) → (List Tok → Out) → Syntax → ℕ → Type 0
  Refusal c N d i j q = Halt c (Dooms j q) ts N d i

  -- and that it is known, if q refuses
  abbrev pub Refused : Where → Nt → (d i j : ℕ) → (List Tok → Out) → Type 0
  Refused c N d i j q = Stuck (Refusal c N d i j q) (q ts)

  -- ---- a row of a kind, where a tree of the nonterminal is read from row i on and begins with the rows up to it

  module _ (c : Where) (D : ℕ → Type 0) (N : Nt) (d i : ℕ) where
    not_other : (why : Syntax) → is_check why ≡ false → why ≡ CallOnOther → ⊥
    unfolding is_check
    not_other why b e = true≢false (sym (ap is_check e) ∙ b)

    may : (c : Where) (why : Syntax) → is_check why ≡ false → Arises c why
    may code why b = λ e. absurd (true≢false (sym e ∙ b))
    may fields why b = not_other why b
    may top why b = tt

    -- a refusal by no check, which tells no set
    pub unchecked : {k : ℕ} (why : Syntax) (r s : ℕ) → is_check why ≡ false → is_misfit why ≡ false → s ≡ lost ts why r
        → Open false false ts N d i s k
        → Halt c D ts N d i why r
    unchecked {k} why r s b m e o = record {
      row = s;
      at = own e;
      arises = may c why b;
      wish = 0;
      due = λ x. absurd (true≢false (sym x ∙ m));
      begun = λ n q. subst (λ (y : Bool). Open y (is_misfit why) ts N d i s n) (sym b)
          (subst (λ (y : Bool). Open false y ts N d i s n) (sym m) (any_next o));
      dooms = λ x. absurd (not_other why b x);
    }

    -- one that tells a set, some kind of it, and a tree for each
    pub misfit : (why : Syntax) (r s k : ℕ) → is_check why ≡ false → is_misfit why ≡ true → s ≡ lost ts why r → has (set_told why) k ≡ true
        → ((n : ℕ) → has (set_told why) n ≡ true → Open false true ts N d i s n) → Halt c D ts N d i why r
    misfit why r s k b m e h o = record {
      row = s;
      at = own e;
      arises = may c why b;
      wish = k;
      due = λ _. h;
      begun = λ n q. subst (λ (y : Bool). Open y (is_misfit why) ts N d i s n) (sym b)
          (subst (λ (y : Bool). Open false y ts N d i s n) (sym m) (o n (q m)));
      dooms = λ x. absurd (not_other why b x);
    }

    -- 21, at row j
    pub wanted : (s k j : ℕ) → has s k ≡ true → ((n : ℕ) → has s n ≡ true → Open false true ts N d i j n) → Halt c D ts N d i (wrong s) j
    unfolding is_check is_misfit lost
    wanted s k j h o =
        misfit (wrong s) j j k refl refl refl (ap (λ (x : ℕ). has x k) (told_wrong s) ∙ h)
        (λ n e. o n (ap (λ (x : ℕ). has x n) (sym (told_wrong s)) ∙ e))

    -- where one kind alone is told
    pub wanted_one : (k j : ℕ) → Open false true ts N d i j k → Halt c D ts N d i (wrong (only k)) j
    wanted_one k j o = wanted (only k) k j (only_has k) (λ n e. subst (Open false true ts N d i j) (sym (only_one k n e)) o)

    -- 32, at row j
    pub too_deep : (j s : ℕ) → lost ts TooDeep j ≡ s → Open false false ts N d i s 0 → Halt c D ts N d i TooDeep j
    unfolding is_check is_misfit
    too_deep j s e o = unchecked TooDeep j s refl refl (sym e) o

    pub want_in_halt : (s k : ℕ) (f : P) (j : ℕ) → has s k ≡ true → ((n : ℕ) → has s n ≡ true → Open false true ts N d i j n)
        → (kind_at ts j ≡ k → Stuck (Halt c D ts N d i) (f (j + 1))) → Stuck (Halt c D ts N d i) (Parse.want_in ts s k f j)
    want_in_halt s k f j b o h = want_in_stuck (Halt c D ts N d i) s k f j (wanted s k j b o) h

    pub want_halt : (k : ℕ) (f : P) (j : ℕ) → Open false true ts N d i j k → (kind_at ts j ≡ k → Stuck (Halt c D ts N d i) (f (j + 1)))
        → Stuck (Halt c D ts N d i) (Parse.want ts k f j)
    unfolding Parse.want
    want_halt k f j o h = want_in_stuck (Halt c D ts N d i) (only k) k f j (wanted_one k j o) h

    -- behind the expression or arguments t
    pub end_halt : (s k : ℕ) (t : Tree) (f : P) (j : ℕ) → ends_onward s k ≡ true
        → ((n : ℕ) → has (Parse.onward ts t j + s) n ≡ true → Open false true ts N d i j n)
        → (kind_at ts j ≡ k → Stuck (Halt c D ts N d i) (f (j + 1))) → Stuck (Halt c D ts N d i) (Parse.end_in ts s k t f j)
    unfolding Parse.end_in
    end_halt s k t f j b o h = want_in_halt (Parse.onward ts t j + s) k f j (onward_ends ts j t s k b) o h

    pub named_halt : (f : List ℕ → P) (j : ℕ) → Open false true ts N d i j Identifier
        → (kind_at ts j ≡ Identifier → Stuck (Halt c D ts N d i) (f (spelling_of (tok_at ts j)) (j + 1)))
        → Stuck (Halt c D ts N d i) (Parse.named ts f j)
    unfolding Parse.named
    named_halt f j o h = want_halt Identifier (f (spelling_of (tok_at ts j))) j o h

    pub quoted_halt : (f : List ℕ → P) (j : ℕ) → Open false true ts N d i j StringLiteral
        → (kind_at ts j ≡ StringLiteral → Stuck (Halt c D ts N d i) (f (spelling_of (tok_at ts j)) (j + 1)))
        → Stuck (Halt c D ts N d i) (Parse.quoted ts f j)
    unfolding Parse.quoted
    quoted_halt f j o h = want_halt StringLiteral (f (spelling_of (tok_at ts j))) j o h

    pub valued_halt : (f : ℕ → P) (j : ℕ) → Open false true ts N d i j Number
        → (kind_at ts j ≡ Number → Stuck (Halt c D ts N d i) (f (bits_in (tok_at ts j)) (j + 1)))
        → Stuck (Halt c D ts N d i) (Parse.valued ts f j)
    unfolding Parse.valued
    valued_halt f j o h = want_halt Number (f (bits_in (tok_at ts j))) j o h

    -- a row of kind k, and a tree behind it
    pub last_halt : (k : ℕ) (t : Tree) (j : ℕ) → Open false true ts N d i j k → Stuck (Halt c D ts N d i) (Parse.want ts k (ok t) j)
    last_halt k t j o = want_halt k (ok t) j o (λ e. tt)

  -- ---- loops: a step while the test T of the row's kind holds; S is what is known of a tree and the row behind it

  module _ (c : Where) (N : Nt) (d i : ℕ) (T : ℕ → Bool) (step : List Tok → Tree → P) (S : Tree → ℕ → Type 0)
      (keeps : (t : Tree) (j : ℕ) → S t j → T (kind_at ts j) ≡ true → All S (step ts t j))
      (alike : (t : Tree) (j : ℕ) → T (kind_at ts j) ≡ true → (ts' : List Tok) (n : ℕ) → Alike ts ts' n
      → Local ts n j (j + 1) (step ts t j) (step ts' t j))
      (stuck : (t : Tree) (j : ℕ) → S t j → T (kind_at ts j) ≡ true → Refused c N d i j (λ x. step x t j)) where
    -- the loop from a tree and a row on, whatever bound is left that reaches row s
    abbrev Turns : Tree → ℕ → ℕ → Type 0
    Turns t j s =
        (j ≤ s) × ((ts' : List Tok) → Alike ts ts' (s + 1) → (f : ℕ) → s < f + j → Dead CallOnOther
        (many (λ r. T (kind_at ts' r)) (step ts') f (T (kind_at ts' j)) t j))

    this_turn : (t : Tree) (j : ℕ) → T (kind_at ts j) ≡ true → (s : ℕ) → Dooms j (λ x. step x t j) s → Turns t j s
    this_turn t j e s h = (h.0, λ ts' a f l. go ts' a f l)
      where
        go : (ts' : List Tok) → Alike ts ts' (s + 1) → (f : ℕ) → s < f + j
            → Dead CallOnOther (many (λ r. T (kind_at ts' r)) (step ts') f (T (kind_at ts' j)) t j)
        go ts' a zero l = absurd (omega (arith, l, h.0))
        go ts' a (suc f) l =
            subst (Dead CallOnOther) (sym (Cases.many_step (λ r. T (kind_at ts' r)) (step ts') f t j
            (ap T (same_kind a (omega (arith, h.0)) refl) ∙ e)))
            (dead_then CallOnOther (step ts' t j) _ (h.1 ts' a))

    next_turn : (t : Tree) (j : ℕ) → T (kind_at ts j) ≡ true → (u : Tree) (k : ℕ) → step ts t j ≡ ok u k → (s : ℕ) → Turns u k s
        → Turns t j s
    next_turn t j e u k q s h = (omega (arith, up, h.0), λ ts' a f l. go ts' a f l)
      where
        up : j + 1 ≤ k
        up = later ts 0 j (j + 1) (step ts t j) (step ts t j) u k q (alike t j e ts 0 self)

        go : (ts' : List Tok) → Alike ts ts' (s + 1) → (f : ℕ) → s < f + j
            → Dead CallOnOther (many (λ r. T (kind_at ts' r)) (step ts') f (T (kind_at ts' j)) t j)
        go ts' a zero l = absurd (omega (arith, l, up, h.0))
        go ts' a (suc f) l =
            subst (Dead CallOnOther)
            (sym (Cases.many_step (λ r. T (kind_at ts' r)) (step ts') f t j (ap T (same_kind a (omega (arith, up, h.0)) refl) ∙ e)
            ∙ Cases.then_ok (step ts' t j) _ u k (kept ts (s + 1) j (j + 1) (step ts t j) (step ts' t j) u k q (alike t j e ts' (s + 1) a)
            (omega (arith, h.0)))))
            (h.1 ts' a f (omega (arith, l, up)))

    many_stuck : (f : ℕ) (b : Bool) (t : Tree) (j : ℕ) → T (kind_at ts j) ≡ b → S t j
        → Stuck (Halt c (Turns t j) ts N d i) (many (λ r. T (kind_at ts r)) (step ts) f b t j)
    unfolding many
    many_stuck zero b t j e h = tt
    many_stuck (suc f) false t j e h = tt
    many_stuck (suc f) true t j e h =
        then_stuck (Halt c (Turns t j) ts N d i) S (step ts t j) (λ u k. many (λ r. T (kind_at ts r)) (step ts) f (T (kind_at ts k)) u k)
        (keeps t j h e)
        (stuck_as (Refusal c N d i j (λ x. step x t j)) (Halt c (Turns t j) ts N d i) (step ts t j) (stuck t j h e)
        (λ why r o. widen (this_turn t j e) o))
        (λ u k q h'. stuck_as (Halt c (Turns u k) ts N d i) (Halt c (Turns t j) ts N d i)
        (many (λ r. T (kind_at ts r)) (step ts) f (T (kind_at ts k)) u k)
        (many_stuck f (T (kind_at ts k)) u k refl h') (λ why r o. widen (next_turn t j e u k q) o))

    pub loop_stuck : (t : Tree) (j : ℕ) → S t j
        → Refused c N d i j (λ x. Parse.loop x (λ r. T (kind_at x r)) (step x) t j)
    unfolding Parse.loop
    loop_stuck t j h =
        stuck_as (Halt c (Turns t j) ts N d i) (Refusal c N d i j
        (λ x. many (λ r. T (kind_at x r)) (step x) (suc (length x)) (T (kind_at x j)) t j))
        (many (λ r. T (kind_at ts r)) (step ts) (suc (length ts)) (T (kind_at ts j)) t j)
        (many_stuck (suc (length ts)) (T (kind_at ts j)) t j refl h)
        (λ why r o. widen (λ s x. (x.0, λ ts' a. x.1 ts' a (suc (length ts')) (omega (arith, a.fit')))) o)

  -- ---- what Q reads behind an opening row, a tree of the nonterminal M, where d constructs are left before it

  abbrev pub Below : Nt → ℕ → (List Tok → P) → Type 0
  Below M zero Q = (o : ℕ) → Q ts o ≡ no TooDeep o
  Below M (suc d) Q = (o : ℕ) → Start ts (o + 1) → Refused code M d (o + 1) (o + 1) (λ x. Q x o)

  -- none is left, or the refusal stands one construct deeper
  pub below : (M : Nt) (d : ℕ) (Q : List Tok → P) → Below M d Q → (C : Syntax → ℕ → Type 0) (o : ℕ) → Start ts (o + 1)
      → (d ≡ 0 → C TooDeep o)
      → ((d' : ℕ) → d ≡ suc d' → (why : Syntax) (r : ℕ) → Refusal code M d' (o + 1) (o + 1) (λ x. Q x o) why r → C why r) → Stuck C (Q ts o)
  below M zero Q h C o l full inner = subst (Stuck C) (sym (h o)) (full refl)
  below M (suc d) Q h C o l full inner = stuck_as (Refusal code M d (o + 1) (o + 1) (λ x. Q x o)) C (Q ts o) (h o l) (inner d refl)

  pub under_read : (N : Nt) (d o : ℕ) (t : Tree) (j : ℕ) → Under ts N d o t j → Is false N d t × Run ts (o + 1) (yield t) j
  under_read N zero o t j u = absurd u
  under_read N (suc d) o t j u = (lax true u.is, run_of u)

  pub under_some : (N : Nt) (d o : ℕ) (t : Tree) (j : ℕ) → Under ts N d o t j → (d' : ℕ) × (d ≡ suc d')
  under_some N zero o t j u = absurd u
  under_some N (suc d) o t j u = (d, refl)

-- ---- behind a part of a tree: t of the nonterminal M, up to row j, and F the tree around it, of N

module _ (ts : List Tok) (proper : Proper ts) where
  module _ {M N : Nt} {d d' i m j : ℕ} {xs : List Tok} (F : Tree → Tree) (zs : List Tok)
      (made : (u : Tree) → Is false M d' u → Is false N (suc d) (F u))
      (spells : (u : Tree) → yield (F u) ≡ xs ++ (yield u ++ zs)) (x : Run ts i xs m) (t : Tree) (r : Run ts m (yield t) j) where
    grown_open : (k : ℕ) → Grown M d' t k → Open false true ts N d i j k
    grown_open k g =
        fitting k (F g.tree) (made g.tree g.is) (g.rest ++ zs)
        (spells g.tree ∙ ap (λ (l : List Tok). xs ++ (l ++ zs)) g.spells ∙ ap (λ (l : List Tok). xs ++ l)
        (append_assoc (yield t) g.rest zs)
        ∙ sym (append_assoc xs (yield t) (g.rest ++ zs)))
        (x ▸ r) (heads_more k (g.rest ++ zs) (closed_by N) (heads_more k g.rest zs g.next))

    -- each kind that goes on with t, and each of those that may stand behind it
    pub onward_open : (s : ℕ) (ks : List ℕ) → covers_onward s ks ≡ true → eqb (kind_at ts (m - 1)) Dot ≡ false
        → ((k : ℕ) → On ts proper j t k → Grown M d' t k)
        → Each (Open false true ts N d i j) ks → (n : ℕ) → has (Parse.onward ts t j + s) n ≡ true → Open false true ts N d i j n
    onward_open s ks e u grows ends =
        onward_each ts proper j t s (Open false true ts N d i j) ks e (record { first = m; run = r; undotted = u })
        (λ k o. grown_open k (grows k o)) ends
