-- Wanted rows and expressions in two tables that have the first n rows alike: for each function of the parser, that an answer which rests
-- on
-- row n by a set alone is given again where row n of the other table is spared.
use mathlib.Core.Path.{◌≡◌, refl, sym, ap, ◌∙◌, subst}
use mathlib.Core.Bool.{Bool, true, false, not, cond, ◌&&◌, ◌||◌, and-eq-true_iff, true≢false}
use mathlib.Core.List.{List}
use mathlib.Core.Logic.{◌⊎◌, inl, inr}
use Prim.Native.Nat.{ℕ, zero, suc, ◌+◌, ◌-◌, ◌<◌}
use native.Mathlib.Nat.{eq-or-lt_of_le}
use native.Mathlib.Omega.{arith}
use lib.Dec.{eqb}
use borrow.Author.Tests.{eqb-true, eq-eqb}
use Rattle.rules.specs.declared.Syntax.TheVariants.{CallOnOther}
use Rattle.rules.specs.Kinds.{Dot, LParen, RParen, Star, Slash, Percent, Shr, Shl, Plus, Minus, Comma, Semicolon, Equals, PlusEquals, Identifier, StringLiteral, Number}
use Rattle.rules.specs.Fits.{only, has, operands, ons, shifts, assigns, first_arguments, wrong, retold}
use Rattle.rules.specs.Tree.{Tok, kind_of, spelling_of, bits_in, Tree, none, num, var, star, group, field, call, bin, one, more, is_variable, is_sum}
use Rattle.rules.specs.Parse
use Rattle.rules.specs.Parse.{Out, ok, no, P, then, or, pick, is_add, is_shift, is_mul, Lead, number, identifier, paren, other, lead, Sort, operand, whole, tok_at, kind_at, dot_name}
use Rattle.rules.specs.Grammar.{Basic, Unary, Mul, Shift, Is, i_num, i_var, i_group, i_field, i_bare, i_call, i_prim, i_star, i_unary, i_mul, i_lone, i_shift}
use Rattle.theory_grammar.specs.Lost.{is_misfit, lost}
use Rattle.theory_grammar.proofs.Laws.{either_kind, three_kinds}
use Rattle.theory_grammar.proofs.Runs.{map_all}
use Rattle.theory_grammar.proofs.Cases.{then_no, or_here}
use Rattle.theory_grammar.proofs.Sound.{Reads, inner_sound, shift_sound}
use Rattle.theory_grammar.proofs.Complete.{is_basic, is_start, start_case}
use Rattle.theory_grammar.proofs.Local.{Alike, Local, upward, inner_local, arg_step, post_local, unary_local, mul_local, bin_step}
use Rattle.theory_grammar.proofs.Unread.{unary_unread, mul_unread, add_unread, whole_unread}
use Rattle.theory_grammar.proofs.Held.{Misfit, unmet, Off, Spared, off, off_kind, spared_of, Near, Free, Again, Held, held_from, other_held, ok_held, then_known, then_held, then_near, or_near, or_held, Loop, steps_held}
use Rattle.theory_grammar.proofs.Members.{only_has}

-- ---- sets behind an expression

-- what goes on with an expression that is a sum or not (a), its last row a name behind a dot or not (b), and the set s of what ends it
abbrev pub around : Bool → Bool → ℕ → ℕ
around a b s = ons + cond a 0 shifts + cond b (only LParen) 0 + s

abbrev goes_on : Bool → Bool → ℕ → Bool
goes_on a b s =
    (has s Dot && ((has s Star && has s Slash) && has s Percent))
    && ((has s Plus && has s Minus) && ((a || (has s Shl && has s Shr)) && (not b || has s LParen)))

-- the kind k ends an expression, with others in the set s, which has none in common with what goes on
pub record Ends (s k : ℕ) : Type 0 where
  pub ending : (a b : Bool) → has (around a b s) k ≡ true
  pub going : (a b : Bool) → goes_on a b (around a b s) ≡ true

each : (C : Bool → Bool → Type 0) → C true true → C true false → C false true → C false false → (a b : Bool) → C a b
each C p q r s true true = p
each C p q r s true false = q
each C p q r s false true = r
each C p q r s false false = s

pub group_ends : Ends (only RParen) RParen
unfolding has
group_ends = record {
  ending = each (λ a b. has (around a b (only RParen)) RParen ≡ true) refl refl refl refl;
  going = each (λ a b. goes_on a b (around a b (only RParen)) ≡ true) refl refl refl refl;
}

pub args_ends : Ends (only Comma + only RParen) RParen
unfolding has
args_ends = record {
  ending = each (λ a b. has (around a b (only Comma + only RParen)) RParen ≡ true) refl refl refl refl;
  going = each (λ a b. goes_on a b (around a b (only Comma + only RParen)) ≡ true) refl refl refl refl;
}

args_comma : (a b : Bool) → has (around a b (only Comma + only RParen)) Comma ≡ true
unfolding has
args_comma = each (λ a b. has (around a b (only Comma + only RParen)) Comma ≡ true) refl refl refl refl

pub line_ends : Ends (only Semicolon) Semicolon
unfolding has
line_ends = record {
  ending = each (λ a b. has (around a b (only Semicolon)) Semicolon ≡ true) refl refl refl refl;
  going = each (λ a b. goes_on a b (around a b (only Semicolon)) ≡ true) refl refl refl refl;
}

pub first_ends : Ends (only Semicolon + assigns) Semicolon
unfolding has
first_ends = record {
  ending = each (λ a b. has (around a b (only Semicolon + assigns)) Semicolon ≡ true) refl refl refl refl;
  going = each (λ a b. goes_on a b (around a b (only Semicolon + assigns)) ≡ true) refl refl refl refl;
}

pub first_assigns : (a b : Bool)
    → (has (around a b (only Semicolon + assigns)) Equals ≡ true) × (has (around a b (only Semicolon + assigns)) PlusEquals ≡ true)
unfolding has
first_assigns =
    each (λ a b. (has (around a b (only Semicolon + assigns)) Equals ≡ true)
    × (has (around a b (only Semicolon + assigns)) PlusEquals ≡ true))
    (refl, refl) (refl, refl) (refl, refl) (refl, refl)

-- what a set holds that holds what goes on
pub record Going (a b : Bool) (s : ℕ) : Type 0 where
  pub dot : has s Dot ≡ true
  pub muls : (k : ℕ) → is_mul k ≡ true → has s k ≡ true
  pub adds : (k : ℕ) → is_add k ≡ true → has s k ≡ true
  pub shifts : a ≡ false → (k : ℕ) → is_shift k ≡ true → has s k ≡ true
  pub paren : b ≡ true → has s LParen ≡ true

going_of : (a b : Bool) (s : ℕ) → goes_on a b s ≡ true → Going a b s
going_of a b s e =
    let x : (has s Dot && ((has s Star && has s Slash) && has s Percent) ≡ true)
    × ((has s Plus && has s Minus) && ((a || (has s Shl && has s Shr)) && (not b || has s LParen)) ≡ true) = (and-eq-true_iff _ _).0 e in
    let y : (has s Dot ≡ true) × ((has s Star && has s Slash) && has s Percent ≡ true) = (and-eq-true_iff _ _).0 x.0 in
    let m : (has s Star && has s Slash ≡ true) × (has s Percent ≡ true) = (and-eq-true_iff _ _).0 y.1 in
    let n : (has s Star ≡ true) × (has s Slash ≡ true) = (and-eq-true_iff _ _).0 m.0 in
    let z : (has s Plus && has s Minus ≡ true) × ((a || (has s Shl && has s Shr)) && (not b || has s LParen) ≡ true) =
    (and-eq-true_iff _ _).0 x.1 in
    let p : (has s Plus ≡ true) × (has s Minus ≡ true) = (and-eq-true_iff _ _).0 z.0 in
    let q : (a || (has s Shl && has s Shr) ≡ true) × (not b || has s LParen ≡ true) = (and-eq-true_iff _ _).0 z.1 in
    record {
      dot = y.0;
      muls = λ k c. three_kinds (λ x. has s x ≡ true) k Star Slash Percent c n.0 n.1 m.1;
      adds = λ k c. either_kind (λ x. has s x ≡ true) k Plus Minus c p.0 p.1;
      shifts =
          λ f k c. let r : (has s Shl ≡ true) × (has s Shr ≡ true) =
          (and-eq-true_iff _ _).0 (sym (ap (λ (x : Bool). x || (has s Shl && has s Shr)) f) ∙ q.0) in
          either_kind (λ x. has s x ≡ true) k Shl Shr c r.0 r.1;
      paren = λ f. sym (ap (λ (x : Bool). not x || has s LParen) f) ∙ q.1;
    }

-- ---- trees that are no sum

pub basic_no_sum : {b : Bool} {d : ℕ} {t : Tree} → Is b Basic d t → is_sum t ≡ false
unfolding is_sum
basic_no_sum i_num = refl
basic_no_sum i_var = refl
basic_no_sum (i_group h) = refl
basic_no_sum (i_field h) = refl
basic_no_sum (i_bare h q) = refl
basic_no_sum (i_call h q a) = refl

unary_no_sum : {b : Bool} {d : ℕ} {t : Tree} → Is b Unary d t → is_sum t ≡ false
unfolding is_sum
unary_no_sum (i_prim h) = basic_no_sum h
unary_no_sum (i_star h) = refl

pub mul_no_sum : {b : Bool} {d : ℕ} {t : Tree} → Is b Mul d t → is_sum t ≡ false
unfolding is_sum
mul_no_sum (i_unary h) = unary_no_sum h
mul_no_sum (i_mul {k = k} l e r) = three_kinds (λ x. is_add x ≡ false) k Star Slash Percent e refl refl refl

shift_no_sum : {b : Bool} {d : ℕ} {t : Tree} → Is b Shift d t → is_sum t ≡ false
unfolding is_sum
shift_no_sum (i_lone h) = mul_no_sum h
shift_no_sum (i_shift {k = k} l e r) = either_kind (λ x. is_add x ≡ false) k Shl Shr e refl refl

-- ---- what begins a number, a name or a group

abbrev Begins : Lead → Type 0
Begins number = Unit {0}
Begins identifier = Unit {0}
Begins paren = Unit {0}
Begins other = ⊥

lead_begins : (k : ℕ) → is_basic k ≡ true → Begins (lead k)
unfolding lead
lead_begins k b = go (eqb k Number) (eqb k LParen) (eqb k Identifier) b
  where
    go : (x y z : Bool) → (x || z) || y ≡ true → Begins (cond x number (cond y paren (cond z identifier other)))
    go true y z b = tt
    go false true z b = tt
    go false false true b = tt
    go false false false b = absurd (true≢false (sym b))

-- what begins an expression is in these sets
pub in_operands : (k : ℕ) → is_start k ≡ true → has operands k ≡ true
unfolding has
in_operands k b = start_case (λ x. has operands x ≡ true) k b refl refl refl refl

in_arguments : (k : ℕ) → is_start k ≡ true → has first_arguments k ≡ true
unfolding has
in_arguments k b = start_case (λ x. has first_arguments x ≡ true) k b refl refl refl refl

paren_in_arguments : has first_arguments RParen ≡ true
unfolding has
paren_in_arguments = refl

module _ {ts ts' : List Tok} {n : ℕ} (agreed : Alike ts ts' n) where
  -- ---- what must not go on, at row n, with what was read: a field or a call, a product, a shift, a sum

  abbrev pub PrimEnd : Type 0
  PrimEnd = Off ts ts' n (λ x. eqb x Dot) × (dot_name ts n ≡ true → Off ts ts' n (λ x. eqb x LParen))

  abbrev pub MulEnd : Type 0
  MulEnd = PrimEnd × Off ts ts' n is_mul

  abbrev ShiftEnd : Type 0
  ShiftEnd = MulEnd × Off ts ts' n is_shift

  -- no shift stands behind a sum
  abbrev pub AddEnd : Tree → Type 0
  AddEnd t = MulEnd × (is_sum t ≡ false → Off ts ts' n is_shift) × Off ts ts' n is_add

  pub add_end : (s k : ℕ) (t : Tree) → Ends s k → Spared ts ts' n (Parse.onward ts t n + s) → AddEnd t
  unfolding Parse.onward
  add_end s k t e p =
      let x : Going (is_sum t) (dot_name ts n) (around (is_sum t) (dot_name ts n) s) =
      going_of (is_sum t) (dot_name ts n) _ (e.going (is_sum t) (dot_name ts n)) in
      let set : ℕ = around (is_sum t) (dot_name ts n) s in (
        ((off_kind set Dot x.dot p, λ f. off_kind set LParen (x.paren f) p), off set is_mul x.muls p),
        λ f. off set is_shift (x.shifts f) p,
        off set is_add x.adds p,
      )

  -- ---- a row that is looked at

  -- row i in front of row q, which is near
  pub look : {B : Type 0} {F : Tree → Type 0} (i q : ℕ) → i < q → (φ : Tok → B) (G G' : B → Out)
      → ((b : B) → φ (tok_at ts i) ≡ b → Held ts ts' n F q (G b) (G' b)) → Held ts ts' n F q (G (φ (tok_at ts i))) (G' (φ (tok_at ts' i)))
  look i q l φ G G' h =
      let x : Held ts ts' n _ q (G (φ (tok_at ts i))) (G' (φ (tok_at ts i))) = h (φ (tok_at ts i)) refl in
      record {
        near = x.near;
        again = λ a f.
            subst (λ (y : Tok). Again (G (φ (tok_at ts i))) (G' (φ y))) (agreed.agree i (omega (arith, x.near a))) (x.again a f);
      }

  -- row i itself, where row n of the other table is found the same
  pub look_at : {B : Type 0} {F : Tree → Type 0} (i : ℕ) (φ : Tok → B) (G G' : B → Out)
      → ((b : B) → φ (tok_at ts i) ≡ b → Held ts ts' n F i (G b) (G' b))
      → (i ≡ n → Near ts n (G (φ (tok_at ts i))) → Free ts ts' n F (G (φ (tok_at ts i))) → φ (tok_at ts n) ≡ φ (tok_at ts' n))
      → Held ts ts' n F i (G (φ (tok_at ts i))) (G' (φ (tok_at ts' i)))
  look_at {B} {F} i φ G G' h k =
      let x : Held ts ts' n F i (G (φ (tok_at ts i))) (G' (φ (tok_at ts i))) = h (φ (tok_at ts i)) refl in
      record {
        near = x.near;
        again = λ a f. subst (λ (b : B). Again (G (φ (tok_at ts i))) (G' b)) (go (eq-or-lt_of_le (x.near a)) a f) (x.again a f);
      }
    where
      go : (i ≡ n) ⊎ (i < n) → Near ts n (G (φ (tok_at ts i))) → Free ts ts' n F (G (φ (tok_at ts i))) → φ (tok_at ts i) ≡ φ (tok_at ts' i)
      go (inl q) a f = ap (λ (m : ℕ). φ (tok_at ts m)) q ∙ k q a f ∙ ap (λ (m : ℕ). φ (tok_at ts' m)) (sym q)
      go (inr l) a f = ap φ (agreed.agree i l)

  -- ---- a wanted row

  module _ {F : Tree → Type 0} where
    pub want_in_held : (s s' k : ℕ) (f f' : P) (i : ℕ) → has s k ≡ true
        → (kind_at ts i ≡ k → Held ts ts' n F (i + 1) (f (i + 1)) (f' (i + 1)))
        → Held ts ts' n F i (Parse.want_in ts s k f i) (Parse.want_in ts' s' k f' i)
    unfolding Parse.want_in Parse.want_by lost is_misfit
    want_in_held s s' k f f' i m h =
        look_at i (λ x. eqb (kind_of x) k) (λ b. Parse.want_by ts b s f i) (λ b. Parse.want_by ts' b s' f' i) by_kind
        (λ q a x. there (eqb (kind_at ts i) k) refl q a x)
      where
        by_kind : (b : Bool) → eqb (kind_at ts i) k ≡ b → Held ts ts' n F i (Parse.want_by ts b s f i) (Parse.want_by ts' b s' f' i)
        by_kind true e = held_from (omega arith) (h (eqb-true (kind_at ts i) k e))
        by_kind false e = record { near = λ a. omega (arith, a.1); again = λ a x. refl }

        there : (b : Bool) → eqb (kind_at ts i) k ≡ b → i ≡ n → Near ts n (Parse.want_by ts b s f i)
            → Free ts ts' n F (Parse.want_by ts b s f i)
            → eqb (kind_at ts n) k ≡ eqb (kind_at ts' n) k
        there true e q a x = absurd (omega (arith, (h (eqb-true (kind_at ts i) k e)).near a))
        there false e q a x =
            let c : eqb (kind_at ts n) k ≡ false = ap (λ (m : ℕ). eqb (kind_at ts m) k) (sym q) ∙ e in
            c ∙ sym ((off_kind s k m (spared_of s x)).fails c)

    pub want_held : (k : ℕ) (f f' : P) (i : ℕ) → (kind_at ts i ≡ k → Held ts ts' n F (i + 1) (f (i + 1)) (f' (i + 1)))
        → Held ts ts' n F i (Parse.want ts k f i) (Parse.want ts' k f' i)
    unfolding Parse.want
    want_held k f f' i h = want_in_held (only k) (only k) k f f' i (only_has k) h

    pub named_held : (f f' : List ℕ → P) (i : ℕ)
        → ((w : List ℕ) → kind_at ts i ≡ Identifier → Held ts ts' n F (i + 1) (f w (i + 1)) (f' w (i + 1)))
        → Held ts ts' n F i (Parse.named ts f i) (Parse.named ts' f' i)
    unfolding Parse.named
    named_held f f' i h =
        want_held Identifier (f (spelling_of (tok_at ts i))) (f' (spelling_of (tok_at ts' i))) i
        (λ e. look i (i + 1) (omega arith) spelling_of (λ w. f w (i + 1)) (λ w. f' w (i + 1)) (λ w q. h w e))

    -- where a name stands
    pub name_on : (f f' : List ℕ → P) (i : ℕ) → kind_at ts i ≡ Identifier
        → ((w : List ℕ) → Held ts ts' n F (i + 1) (f w (i + 1)) (f' w (i + 1)))
        → Held ts ts' n F (i + 1) (Parse.named ts f i) (Parse.named ts' f' i)
    unfolding Parse.named Parse.want Parse.want_in Parse.want_by
    name_on f f' i e h =
        look i (i + 1) (omega arith) (λ x. x) (λ x. Parse.want_by ts (eqb (kind_of x) Identifier) (only Identifier) (f (spelling_of x)) i)
        (λ x. Parse.want_by ts' (eqb (kind_of x) Identifier) (only Identifier) (f' (spelling_of x)) i)
        (λ x q. subst (λ (b : Bool). Held ts ts' n F (i + 1) (Parse.want_by ts b (only Identifier) (f (spelling_of x)) i)
        (Parse.want_by ts' b (only Identifier) (f' (spelling_of x)) i))
        (sym (eq-eqb (kind_of x) Identifier (ap kind_of (sym q) ∙ e))) (h (spelling_of x)))

    pub quoted_held : (f f' : List ℕ → P) (i : ℕ) → ((w : List ℕ) → Held ts ts' n F (i + 1) (f w (i + 1)) (f' w (i + 1)))
        → Held ts ts' n F i (Parse.quoted ts f i) (Parse.quoted ts' f' i)
    unfolding Parse.quoted
    quoted_held f f' i h =
        want_held StringLiteral (f (spelling_of (tok_at ts i))) (f' (spelling_of (tok_at ts' i))) i
        (λ e. look i (i + 1) (omega arith) spelling_of (λ w. f w (i + 1)) (λ w. f' w (i + 1)) (λ w q. h w))

    pub valued_held : (f f' : ℕ → P) (i : ℕ) → ((v : ℕ) → Held ts ts' n F (i + 1) (f v (i + 1)) (f' v (i + 1)))
        → Held ts ts' n F i (Parse.valued ts f i) (Parse.valued ts' f' i)
    unfolding Parse.valued
    valued_held f f' i h =
        want_held Number (f (bits_in (tok_at ts i))) (f' (bits_in (tok_at ts' i))) i
        (λ e. look i (i + 1) (omega arith) bits_in (λ v. f v (i + 1)) (λ v. f' v (i + 1)) (λ v q. h v))

    pub need_held : (k : ℕ) (f f' : P) (i : ℕ) → (kind_at ts i ≡ k → Held ts ts' n F (i + 1) (f i) (f' i))
        → Held ts ts' n F i (Parse.need ts k f i) (Parse.need ts' k f' i)
    unfolding Parse.need Parse.need_by lost is_misfit
    need_held k f f' i h =
        look_at i (λ x. eqb (kind_of x) k) (λ b. Parse.need_by ts b k f i) (λ b. Parse.need_by ts' b k f' i) by_kind
        (λ q a x. there (eqb (kind_at ts i) k) refl q a x)
      where
        by_kind : (b : Bool) → eqb (kind_at ts i) k ≡ b → Held ts ts' n F i (Parse.need_by ts b k f i) (Parse.need_by ts' b k f' i)
        by_kind true e = held_from (omega arith) (h (eqb-true (kind_at ts i) k e))
        by_kind false e = record { near = λ a. omega (arith, a.1); again = λ a x. refl }

        there : (b : Bool) → eqb (kind_at ts i) k ≡ b → i ≡ n → Near ts n (Parse.need_by ts b k f i)
            → Free ts ts' n F (Parse.need_by ts b k f i)
            → eqb (kind_at ts n) k ≡ eqb (kind_at ts' n) k
        there true e q a x = absurd (omega (arith, (h (eqb-true (kind_at ts i) k e)).near a))
        there false e q a x =
            let c : eqb (kind_at ts n) k ≡ false = ap (λ (m : ℕ). eqb (kind_at ts m) k) (sym q) ∙ e in
            c ∙ sym ((off_kind (only k) k (only_has k) (spared_of (only k) x)).fails c)

    -- ---- the row behind an expression or arguments t

    pub end_in_held : (s k : ℕ) (t : Tree) (f f' : P) (i : ℕ) → Ends s k
        → (kind_at ts i ≡ k → Held ts ts' n F (i + 1) (f (i + 1)) (f' (i + 1)))
        → Held ts ts' n F i (Parse.end_in ts s k t f i) (Parse.end_in ts' s k t f' i)
    unfolding Parse.end_in Parse.onward
    end_in_held s k t f f' i e h = want_in_held _ _ k f f' i (e.ending (is_sum t) (dot_name ts i)) h

    pub end_held : (k : ℕ) (t : Tree) (f f' : P) (i : ℕ) → Ends (only k) k
        → (kind_at ts i ≡ k → Held ts ts' n F (i + 1) (f (i + 1)) (f' (i + 1)))
        → Held ts ts' n F i (Parse.end ts k t f i) (Parse.end ts' k t f' i)
    unfolding Parse.end
    end_held k t f f' i e h = end_in_held (only k) k t f f' i e h

    -- refused, it spares all that goes on with t
    pub want_spared : (s k : ℕ) (f : P) {o' : Out} → (kind_at ts n ≡ k → Held ts ts' n F (n + 1) (f (n + 1)) o')
        → Near ts n (Parse.want_in ts s k f n)
        → Free ts ts' n F (Parse.want_in ts s k f n) → Spared ts ts' n s
    unfolding Parse.want_in Parse.want_by
    want_spared s k f h a x = go (eqb (kind_at ts n) k) refl a x
      where
        go : (b : Bool) → eqb (kind_at ts n) k ≡ b → Near ts n (Parse.want_by ts b s f n) → Free ts ts' n F (Parse.want_by ts b s f n)
            → Spared ts ts' n s
        go true e a x = absurd (omega (arith, (h (eqb-true (kind_at ts n) k e)).near a))
        go false e a x = spared_of s x

    pub end_spared : (s k : ℕ) (t : Tree) (f : P) {o' : Out} → (kind_at ts n ≡ k → Held ts ts' n F (n + 1) (f (n + 1)) o')
        → Near ts n (Parse.end_in ts s k t f n) → Free ts ts' n F (Parse.end_in ts s k t f n) → Spared ts ts' n (Parse.onward ts t n + s)
    unfolding Parse.end_in
    end_spared s k t f h a x = want_spared (Parse.onward ts t n + s) k f h a x

    pub end_free : (k : ℕ) (t : Tree) (f : P) {o' : Out} → Ends (only k) k → (kind_at ts n ≡ k → Held ts ts' n F (n + 1) (f (n + 1)) o')
        → Near ts n (Parse.end ts k t f n) → Free ts ts' n F (Parse.end ts k t f n) → AddEnd t
    unfolding Parse.end
    end_free k t f e h a x = add_end (only k) k t e (end_spared (only k) k t f h a x)

  -- ---- expressions

  -- something that begins with an operand, at row i
  pub operand_held : {F : Tree → Type 0} (o o' : Out) (i : ℕ) → (is_start (kind_at ts i) ≡ true → Held ts ts' n F (i + 1) o o')
      → (is_start (kind_at ts i) ≡ false → o ≡ no (wrong operands) i) → (is_start (kind_at ts' i) ≡ false → o' ≡ no (wrong operands) i)
      → Held ts ts' n F i o o'
  unfolding is_misfit lost
  operand_held {F} o o' i h u u' = go (is_start (kind_at ts i)) refl
    where
      unread : i ≡ n → is_start (kind_at ts i) ≡ false → Spared ts ts' n operands → Misfit o'
      unread q e p =
          let c : is_start (kind_at ts' n) ≡ false =
          (off operands is_start in_operands p).fails (ap (λ (m : ℕ). is_start (kind_at ts m)) (sym q) ∙ e) in
          subst Misfit (sym (u' (ap (λ (m : ℕ). is_start (kind_at ts' m)) q ∙ c))) refl

      go : (b : Bool) → is_start (kind_at ts i) ≡ b → Held ts ts' n F i o o'
      go true e = held_from (omega arith) (h e)
      go false e =
          subst (λ (x : Out). Held ts ts' n F i x o') (sym (u e))
          (record { near = λ a. omega (arith, a.1); again = λ a x. unread a.1 e (spared_of operands x) })

  abbrev SortEnd : Sort → Tree → Type 0
  SortEnd operand t = PrimEnd
  SortEnd whole t = AddEnd t

  -- what is read behind an opening row, with d constructs left; and where the row behind it begins nothing
  record Inner (d : ℕ) : Type 0 where
    under : (s : Sort) (o : ℕ) → Held ts ts' n (SortEnd s) (o + 1) (Parse.inner ts d s o) (Parse.inner ts' d s o)
    first : (o : ℕ) → o + 1 ≡ n → Near ts n (Parse.inner ts d whole o)
        → (Parse.inner ts d whole o ≡ no (wrong operands) (o + 1)) × (is_start (kind_at ts' n) ≡ false → Misfit (Parse.inner ts' d whole o))

  module _ (d : ℕ) (inner : Inner d) where
    abbrev g : Sort → P
    g = Parse.inner ts d

    abbrev g' : Sort → P
    g' = Parse.inner ts' d

    atom_by : (l : Lead) (i : ℕ) → Begins l → Held ts ts' n (λ t. Unit {0}) (i + 1) (Parse.atom_by ts g l i) (Parse.atom_by ts' g' l i)
    unfolding Parse.atom_by
    atom_by number i f =
        look i (i + 1) (omega arith) bits_in (λ v. ok (num v) (i + 1)) (λ v. ok (num v) (i + 1))
        (λ v e. ok_held (i + 1) (num v) (i + 1) (omega arith))
    atom_by identifier i f =
        look i (i + 1) (omega arith) spelling_of (λ w. ok (var w) (i + 1)) (λ w. ok (var w) (i + 1))
        (λ w e. ok_held (i + 1) (var w) (i + 1) (omega arith))
    atom_by paren i f =
        then_held AddEnd (λ t. Unit {0}) (g whole i) (g' whole i) _ _ (inner.under whole i)
        (λ t j. end_held RParen t (ok (group t)) (ok (group t)) j group_ends (λ e. ok_held (j + 1) (group t) (j + 1) (omega arith)))
        (λ t a x. end_free RParen t (ok (group t)) group_ends (λ e. ok_held (n + 1) (group t) (n + 1) (omega arith)) a x)
    atom_by other i f = absurd f

    atom_held : (i : ℕ) → is_basic (kind_at ts i) ≡ true → Held ts ts' n (λ t. Unit {0}) (i + 1) (Parse.atom ts g i) (Parse.atom ts' g' i)
    unfolding Parse.atom
    atom_held i b =
        look i (i + 1) (omega arith) (λ x. lead (kind_of x)) (λ l. Parse.atom_by ts g l i) (λ l. Parse.atom_by ts' g' l i)
        (λ l e. atom_by l i (subst Begins e (lead_begins (kind_at ts i) b)))

    -- ---- arguments

    abbrev ArgsEnd : Tree → Type 0
    ArgsEnd a = AddEnd a × Off ts ts' n (λ x. eqb x Comma)

    arg_held : (a : Tree) (j : ℕ) → Held ts ts' n ArgsEnd (j + 1) (Parse.arg_step ts g a j) (Parse.arg_step ts' g' a j)
    unfolding Parse.arg_step is_sum
    arg_held a j =
        then_held AddEnd ArgsEnd (g whole j) (g' whole j) _ _ (inner.under whole j) (λ t k. ok_held k (more a t) k (omega arith))
        (λ t _ x. (x refl).0)

    args_loop : Loop ts ts' n (λ x. eqb x Comma) (Parse.arg_step ts g) (Parse.arg_step ts' g') ArgsEnd
    args_loop =
        steps_held agreed (λ x. eqb x Comma) (Parse.arg_step ts g) (Parse.arg_step ts' g') ArgsEnd
        (λ a j b. upward ts n j (Parse.arg_step ts g a j) (Parse.arg_step ts' g' a j)
        (arg_step ts ts' n agreed g g' (inner_local ts ts' n agreed d) a j b))
        (λ a j b. arg_held a j) (λ a x. x.1)

    args_held : (o : ℕ) → Held ts ts' n ArgsEnd (o + 1) (Parse.args ts g o) (Parse.args ts' g' o)
    unfolding Parse.args is_sum
    args_held o =
        then_held AddEnd ArgsEnd (or first_arguments (o + 1) (g whole o)) (or first_arguments (o + 1) (g' whole o)) _ _
        (or_held first_arguments (o + 1) (g whole o) (g' whole o) (inner.under whole o)
        (λ a q e. (inner.first o q a).1 (unmet first_arguments is_start in_arguments (kind_at ts' n) e)))
        (λ t j. args_loop.held (one t) j) (λ t a x. (args_loop.free (one t) a x).0)

    -- arguments whose first row is refused
    args_unread : (o : ℕ) → o + 1 ≡ n → Near ts n (Parse.args ts g o) → Parse.args ts g o ≡ no (wrong first_arguments) (o + 1)
    unfolding Parse.args retold
    args_unread o q a =
        let b : Near ts n (or first_arguments (o + 1) (g whole o)) =
        then_near ts n (or first_arguments (o + 1) (g whole o)) _ (λ t j. (args_loop.held (one t) j).near) a in
        let e : g whole o ≡ no (wrong operands) (o + 1) = (inner.first o q (or_near ts n first_arguments (o + 1) (g whole o) b)).0 in
        then_no (or first_arguments (o + 1) (g whole o)) _ (wrong first_arguments) (o + 1)
        (ap (or first_arguments (o + 1)) e ∙ or_here first_arguments (o + 1) (wrong operands))

    args_end : (a : Tree) → Spared ts ts' n (Parse.onward ts a n + (only Comma + only RParen)) → ArgsEnd a
    unfolding Parse.onward
    args_end a p = (
      add_end (only Comma + only RParen) RParen a args_ends p,
      off_kind (around (is_sum a) (dot_name ts n) (only Comma + only RParen)) Comma (args_comma (is_sum a) (dot_name ts n)) p,
    )

    -- ---- calls and fields

    called_held : {F : Tree → Type 0} (t : Tree) (w : List ℕ) (a : Tree) (m k : ℕ)
        → Held ts ts' n F k (Parse.called ts t w a m k) (Parse.called ts' t w a m k)
    unfolding Parse.called is_misfit
    called_held {F} t w a m k = go (is_variable t)
      where
        go : (b : Bool) → Held ts ts' n F k (pick b (ok (call t w a) k) (no CallOnOther m)) (pick b (ok (call t w a) k) (no CallOnOther m))
        go true = ok_held k (call t w a) k (omega arith)
        go false = other_held refl

    module _ (t : Tree) (w : List ℕ) (m k : ℕ) where
      call_by : (b : Bool) → Held ts ts' n (λ t. PrimEnd) (k + 1) (Parse.call_by ts g b t w m k) (Parse.call_by ts' g' b t w m k)
      unfolding Parse.call_by
      call_by true = held_from (omega arith) (called_held t w none m (k + 1 + 1))
      call_by false =
          then_held ArgsEnd (λ t. PrimEnd) (Parse.args ts g k) (Parse.args ts' g' k) _ _ (args_held k)
          (λ a r. end_in_held (only Comma + only RParen) RParen a (Parse.called ts t w a m) (Parse.called ts' t w a m) r args_ends
          (λ e. called_held t w a m (r + 1)))
          (λ a y x. args_end a (end_spared (only Comma + only RParen) RParen a (Parse.called ts t w a m)
          (λ e. called_held t w a m (n + 1)) y x))

      -- at the row behind the parenthesis both tables close the call, or neither does
      closes : (b : Bool) → eqb (kind_at ts n) RParen ≡ b → k + 1 ≡ n → Near ts n (Parse.call_by ts g b t w m k)
          → Free ts ts' n (λ t. PrimEnd) (Parse.call_by ts g b t w m k) → eqb (kind_at ts' n) RParen ≡ b
      unfolding Parse.call_by
      closes true e q a x = absurd (omega (arith, (called_held {F = λ t. PrimEnd} t w none m (k + 1 + 1)).near a))
      closes false e q a x =
          let near : Near ts n (Parse.args ts g k) = then_near ts n (Parse.args ts g k) _
          (λ u r. (end_in_held {F = λ t. PrimEnd} (only Comma + only RParen) RParen u (Parse.called ts t w u m)
          (Parse.called ts' t w u m) r args_ends (λ e. called_held t w u m (r + 1))).near) a in
          let y : Free ts ts' n (λ t. PrimEnd) (no (wrong first_arguments) (k + 1)) =
          subst (Free ts ts' n (λ t. PrimEnd)) (then_no (Parse.args ts g k) _ (wrong first_arguments) (k + 1) (args_unread k q near)) x in
          (off_kind first_arguments RParen paren_in_arguments (spared_of first_arguments y)).fails e

      call_held : Held ts ts' n (λ t. PrimEnd) (k + 1) (Parse.call_by ts g (eqb (kind_at ts (k + 1)) RParen) t w m k)
          (Parse.call_by ts' g' (eqb (kind_at ts' (k + 1)) RParen) t w m k)
      call_held =
          look_at (k + 1) (λ x. eqb (kind_of x) RParen) (λ b. Parse.call_by ts g b t w m k) (λ b. Parse.call_by ts' g' b t w m k)
          (λ b e. call_by b)
          (λ q a x. ap (λ (r : ℕ). eqb (kind_at ts r) RParen) (sym q)
          ∙ sym (closes (eqb (kind_at ts (k + 1)) RParen) (ap (λ (r : ℕ). eqb (kind_at ts r) RParen) (sym q)) q a x))

    -- a field or a call, whose dot is at row j and whose name behind it
    module _ (t : Tree) (w : List ℕ) (j : ℕ) (dotted : kind_at ts j ≡ Dot) (named : kind_at ts (j + 1) ≡ Identifier) where
      dot_name_lem : j + 1 + 1 ≡ n → dot_name ts n ≡ true
      dot_name_lem q =
          let a : n - 1 ≡ j + 1 = omega arith in
          let b : n - 2 ≡ j = omega arith in
          rw (a, b, named, dotted)

      open_by : (b : Bool) → eqb (kind_at ts (j + 1 + 1)) LParen ≡ b
          → Held ts ts' n (λ t. PrimEnd) (j + 1 + 1) (Parse.open_by ts g b t w (j + 1) (j + 1 + 1))
          (Parse.open_by ts' g' b t w (j + 1) (j + 1 + 1))
      unfolding Parse.open_by
      open_by true e = held_from (omega arith) (call_held t w (j + 1) (j + 1 + 1))
      open_by false e = ok_held (j + 1 + 1) (field t w) (j + 1 + 1) (omega arith)

      -- at the row behind the name both tables open a call, or neither does
      opens : (b : Bool) → eqb (kind_at ts n) LParen ≡ b → j + 1 + 1 ≡ n → Near ts n (Parse.open_by ts g b t w (j + 1) (j + 1 + 1))
          → Free ts ts' n (λ t. PrimEnd) (Parse.open_by ts g b t w (j + 1) (j + 1 + 1)) → eqb (kind_at ts' n) LParen ≡ b
      unfolding Parse.open_by
      opens true e q a x = absurd (omega (arith, (call_held t w (j + 1) (j + 1 + 1)).near a))
      opens false e q a x = ((x q).1 (dot_name_lem q)).fails e

      open_held : Held ts ts' n (λ t. PrimEnd) (j + 1 + 1) (Parse.open_by ts g (eqb (kind_at ts (j + 1 + 1)) LParen) t w (j + 1) (j + 1 + 1))
          (Parse.open_by ts' g' (eqb (kind_at ts' (j + 1 + 1)) LParen) t w (j + 1) (j + 1 + 1))
      open_held =
          look_at (j + 1 + 1) (λ x. eqb (kind_of x) LParen) (λ b. Parse.open_by ts g b t w (j + 1) (j + 1 + 1))
          (λ b. Parse.open_by ts' g' b t w (j + 1) (j + 1 + 1)) open_by
          (λ q a x. ap (λ (r : ℕ). eqb (kind_at ts r) LParen) (sym q)
          ∙ sym (opens (eqb (kind_at ts (j + 1 + 1)) LParen) (ap (λ (r : ℕ). eqb (kind_at ts r) LParen) (sym q)) q a x))

    post_held : (t : Tree) (j : ℕ) → eqb (kind_at ts j) Dot ≡ true
        → Held ts ts' n (λ t. PrimEnd) (j + 1) (Parse.post ts g t j) (Parse.post ts' g' t j)
    unfolding Parse.post
    post_held t j b = named_held _ _ (j + 1) (λ w e. open_held t w j (eqb-true (kind_at ts j) Dot b) e)

    posts : Loop ts ts' n (λ x. eqb x Dot) (Parse.post ts g) (Parse.post ts' g') (λ t. PrimEnd)
    posts =
        steps_held agreed (λ x. eqb x Dot) (Parse.post ts g) (Parse.post ts' g') (λ t. PrimEnd)
        (λ t j b. upward ts n j (Parse.post ts g t j) (Parse.post ts' g' t j)
        (post_local ts ts' n agreed g g' (inner_local ts ts' n agreed d) t j))
        post_held (λ t x. x.0)

    -- ---- operands and what joins them

    prim_held : (i : ℕ) → is_basic (kind_at ts i) ≡ true → Held ts ts' n (λ t. PrimEnd) (i + 1) (Parse.prim ts g i) (Parse.prim ts' g' i)
    unfolding Parse.prim
    prim_held i b =
        then_held (λ t. Unit {0}) (λ t. PrimEnd) (Parse.atom ts g i) (Parse.atom ts' g' i) _ _ (atom_held i b) posts.held (λ t a x. tt)

    unary_by : (c : Bool) (i : ℕ) → is_basic (kind_at ts i) || c ≡ true
        → Held ts ts' n (λ t. PrimEnd) (i + 1) (Parse.unary_by ts g c i) (Parse.unary_by ts' g' c i)
    unfolding Parse.unary_by
    unary_by true i b =
        then_held (λ t. PrimEnd) (λ t. PrimEnd) (g operand i) (g' operand i) _ _ (inner.under operand i)
        (λ t j. ok_held j (star t) j (omega arith)) (λ t a x. x refl)
    unary_by false i b = prim_held i (basic (is_basic (kind_at ts i)) b)
      where
        basic : (x : Bool) → x || false ≡ true → x ≡ true
        basic true e = refl
        basic false e = e

    unary_on : (i : ℕ) → is_start (kind_at ts i) ≡ true → Held ts ts' n (λ t. PrimEnd) (i + 1) (Parse.unary ts g i) (Parse.unary ts' g' i)
    unfolding Parse.unary
    unary_on i b =
        look i (i + 1) (omega arith) (λ x. eqb (kind_of x) Star) (λ c. Parse.unary_by ts g c i) (λ c. Parse.unary_by ts' g' c i)
        (λ c e. unary_by c i (sym (ap (λ (x : Bool). is_basic (kind_at ts i) || x) e) ∙ b))

    unary_held : (i : ℕ) → Held ts ts' n (λ t. PrimEnd) i (Parse.unary ts g i) (Parse.unary ts' g' i)
    unary_held i = operand_held (Parse.unary ts g i) (Parse.unary ts' g' i) i (unary_on i) (unary_unread ts g i) (unary_unread ts' g' i)

    -- operands p, joined by operators `is_op` to trees that go on as E tells
    module _ (is_op : ℕ → Bool) (p p' : P) (F : Type 0) (E : Tree → Type 0) (p_held : (i : ℕ) → Held ts ts' n (λ t. F) i (p i) (p' i))
        (p_local : (i : ℕ) → Local ts n i (i + 1) (p i) (p' i)) (part : (t : Tree) → E t → F)
        (ends : (t : Tree) → E t → Off ts ts' n is_op) where
      joined : (t : Tree) (j : ℕ) → Held ts ts' n E (j + 1) (Parse.bin_step ts g p t j) (Parse.bin_step ts' g' p' t j)
      unfolding Parse.bin_step
      joined t j =
          look j (j + 1) (omega arith) kind_of (λ x. then (p (j + 1)) (λ u k. ok (bin x t u) k))
          (λ x. then (p' (j + 1)) (λ u k. ok (bin x t u) k))
          (λ x e. then_held (λ t. F) E (p (j + 1)) (p' (j + 1)) _ _ (p_held (j + 1)) (λ u k. ok_held k (bin x t u) k (omega arith))
          (λ u a y. part (bin x t u) (y refl)))

      ladder : Loop ts ts' n is_op (Parse.bin_step ts g p) (Parse.bin_step ts' g' p') E
      ladder =
          steps_held agreed is_op (Parse.bin_step ts g p) (Parse.bin_step ts' g' p') E
          (λ t j b. upward ts n j (Parse.bin_step ts g p t j) (Parse.bin_step ts' g' p' t j)
          (bin_step ts ts' n agreed g g' (inner_local ts ts' n agreed d) is_op p p' p_local t j))
          (λ t j b. joined t j) ends

    muls : Loop ts ts' n is_mul (Parse.bin_step ts g (Parse.unary ts g)) (Parse.bin_step ts' g' (Parse.unary ts' g')) (λ t. MulEnd)
    muls =
        ladder is_mul (Parse.unary ts g) (Parse.unary ts' g') PrimEnd (λ t. MulEnd) unary_held
        (unary_local ts ts' n agreed g g' (inner_local ts ts' n agreed d))
        (λ t x. x.0) (λ t x. x.1)

    mul_on : (i : ℕ) → is_start (kind_at ts i) ≡ true → Held ts ts' n (λ t. MulEnd) (i + 1) (Parse.mul ts g i) (Parse.mul ts' g' i)
    unfolding Parse.mul
    mul_on i b =
        then_held (λ t. PrimEnd) (λ t. MulEnd) (Parse.unary ts g i) (Parse.unary ts' g' i) _ _ (unary_on i b) muls.held
        (λ t a x. (muls.free t a x).0)

    mul_held : (i : ℕ) → Held ts ts' n (λ t. MulEnd) i (Parse.mul ts g i) (Parse.mul ts' g' i)
    mul_held i = operand_held (Parse.mul ts g i) (Parse.mul ts' g' i) i (mul_on i) (mul_unread ts g i) (mul_unread ts' g' i)

    shifts_loop : Loop ts ts' n is_shift (Parse.bin_step ts g (Parse.mul ts g)) (Parse.bin_step ts' g' (Parse.mul ts' g')) (λ t. ShiftEnd)
    shifts_loop =
        ladder is_shift (Parse.mul ts g) (Parse.mul ts' g') MulEnd (λ t. ShiftEnd) mul_held
        (mul_local ts ts' n agreed g g' (inner_local ts ts' n agreed d))
        (λ t x. x.0) (λ t x. x.1)

    shift_on : (i : ℕ) → is_start (kind_at ts i) ≡ true → Held ts ts' n (λ t. ShiftEnd) (i + 1) (Parse.shift ts g i) (Parse.shift ts' g' i)
    unfolding Parse.shift
    shift_on i b =
        then_held (λ t. MulEnd) (λ t. ShiftEnd) (Parse.mul ts g i) (Parse.mul ts' g' i) _ _ (mul_on i b) shifts_loop.held
        (λ t a x. (shifts_loop.free t a x).0)

    adds : Loop ts ts' n is_add (Parse.bin_step ts g (Parse.mul ts g)) (Parse.bin_step ts' g' (Parse.mul ts' g')) AddEnd
    adds =
        ladder is_add (Parse.mul ts g) (Parse.mul ts' g') MulEnd AddEnd mul_held
        (mul_local ts ts' n agreed g g' (inner_local ts ts' n agreed d))
        (λ t x. x.0) (λ t x. x.2)

    add_on : (i : ℕ) → is_start (kind_at ts i) ≡ true → Held ts ts' n AddEnd (i + 1) (Parse.add ts g i) (Parse.add ts' g' i)
    unfolding Parse.add
    add_on i b =
        then_known (λ t. ShiftEnd) AddEnd (λ t. is_sum t ≡ false) (Parse.shift ts g i) (Parse.shift ts' g' i) _ _
        (map_all (Reads ts Shift d i) (λ t j. is_sum t ≡ false) (Parse.shift ts g i) (shift_sound ts d g (inner_sound ts d) i)
        (λ t j r. shift_no_sum r.is))
        (shift_on i b) (λ t j c. adds.held t j) (λ t c a x. let y : AddEnd t = adds.free t a x in (y.0, y.1 c))

    add_held : (i : ℕ) → Held ts ts' n AddEnd i (Parse.add ts g i) (Parse.add ts' g' i)
    add_held i = operand_held (Parse.add ts g i) (Parse.add ts' g' i) i (add_on i) (add_unread ts g i) (add_unread ts' g' i)

  inner_next : (d : ℕ) → Inner d → Inner (suc d)
  unfolding Parse.inner is_misfit
  inner_next d inner = record { under = under; first = first }
    where
      under : (s : Sort) (o : ℕ) → Held ts ts' n (SortEnd s) (o + 1) (Parse.inner ts (suc d) s o) (Parse.inner ts' (suc d) s o)
      under operand o = unary_held d inner (o + 1)
      under whole o = add_held d inner (o + 1)

      begun : (o : ℕ) → o + 1 ≡ n → Near ts n (Parse.inner ts (suc d) whole o) → (b : Bool) → is_start (kind_at ts (o + 1)) ≡ b
          → Parse.inner ts (suc d) whole o ≡ no (wrong operands) (o + 1)
      begun o q a true e = absurd (omega (arith, (add_on d inner (o + 1) e).near a))
      begun o q a false e = whole_unread ts d o e

      first : (o : ℕ) → o + 1 ≡ n → Near ts n (Parse.inner ts (suc d) whole o)
          → (Parse.inner ts (suc d) whole o ≡ no (wrong operands) (o + 1))
          × (is_start (kind_at ts' n) ≡ false → Misfit (Parse.inner ts' (suc d) whole o))
      first o q a = (
        begun o q a (is_start (kind_at ts (o + 1))) refl,
        λ e. subst Misfit (sym (whole_unread ts' d o (ap (λ (r : ℕ). is_start (kind_at ts' r)) q ∙ e))) refl,
      )

  inner_held : (d : ℕ) → Inner d
  unfolding Parse.inner is_misfit
  inner_held zero = record { under = λ s o. other_held refl; first = λ o q a. absurd (true≢false (sym a.0)) }
  inner_held (suc d) = inner_next d (inner_held d)

  -- an expression, where something begins one, and at any row
  pub expr_on : (d i : ℕ) → is_start (kind_at ts i) ≡ true → Held ts ts' n AddEnd (i + 1) (Parse.expr ts d i) (Parse.expr ts' d i)
  unfolding Parse.expr
  expr_on d i b = add_on d (inner_held d) i b

  pub expr_held : (d i : ℕ) → Held ts ts' n AddEnd i (Parse.expr ts d i) (Parse.expr ts' d i)
  unfolding Parse.expr
  expr_held d i = add_held d (inner_held d) i
