-- A refusal rests on the rows up to the lost one: tables that have these rows alike are refused alike, so no program begins with them.
-- Two refusals stand far behind their row: 31, which is told behind the call's `)`, and 32 of an `if`, at its brace. A table that has the
-- rows up to the call's `(`, or up to the `if`, is refused too, in one way or another.
use mathlib.Core.Path.{◌≡◌, refl, sym, ap, ◌∙◌, subst}
use mathlib.Core.Bool.{Bool, true, false, not, cond, ◌&&◌, true≢false}
use mathlib.Core.List.{List, [], append-nil}
use mathlib.Core.Logic.{◌⊎◌, inl, inr}
use Prim.Native.Nat.{ℕ, zero, suc, ◌+◌, ◌-◌, ◌^◌, ◌≤◌, ◌<◌, min}
use native.Mathlib.Omega.{arith}
use lib.Dec.{eqb, leb, ltb}
use lib.ListN.{length, get_or, take, length-take}
use lib.Seq.{take_all, get_or-take}
use borrow.Author.Tests.{eqb-true, leb-true, leb-false, ltb-true, ltb-false, not-true, not-false}
use Rattle.rules.specs.declared.Syntax.{Syntax}
use Rattle.rules.specs.declared.Syntax.TheVariants.{NotType, MaxNegative, OutOfRange, ShiftCount, MapTypeUnknown, NotMapField, MapLacks, NotEventType, NotTopLevel, CallOnOther, TooDeep}
use Rattle.rules.specs.Kinds.{KeywordElse, KeywordGuard, KeywordKey, KeywordValue, LBrace, RBrace, LParen, RParen, Colon, Dot, Comma, Semicolon, LBracket, RBracket, Equals, Identifier, StringLiteral, Number, Star, Shr, Shl, Eof}
use Rattle.rules.specs.Fits.{only, operands, ons, assigns, shifts, body_things, unit_things, event_fields, tops, map_fields, first_arguments, wrong, retold}
use Rattle.rules.specs.Tree.{Tok, sign, kind_of, spelling_of, bits_in, Tree, none, num, var, group, call, bin, one, decl, ret, plain, assign, then_body, text, typed, limit, first, shifted, plain_field, array_field, is_variable, is_sum, map_type_number, max_bits, type_of, typed_by, limit_of, lacking, yield}
use Rattle.rules.specs.Nodes.{width}
use Rattle.rules.specs.Parse
use Rattle.rules.specs.Parse.{Out, ok, no, P, then, or, pick, many, is_add, is_shift, is_mul, is_assign, is_text, is_type, is_typed, most32, Lead, number, identifier, paren, other, lead, StmtLead, declaring, returning, branching, expression, stmt_lead, FieldLead, typing, keying, limiting, nothing, field_lead, EventLead, type_lead, bytes_lead, no_lead, event_lead, TopLead, map_lead, unit_lead, event_top, no_top, top_lead, Sort, operand, whole, tok_at, kind_at}
use Rattle.theory_grammar.specs.Lost.{is_misfit, is_check, lost, GoesOn}
use Rattle.theory_grammar.proofs.Laws.{either_kind}
use Rattle.theory_grammar.proofs.Cases.{or_no, retold_misfit, retold_check, retold_lost}
use Rattle.theory_grammar.proofs.Leads.{LeadIs, lead_is, FieldIs, field_is}
use Rattle.theory_grammar.proofs.Runs.{All, all_any, loop_all, valued_all}
use Rattle.theory_grammar.proofs.Complete.{Gives, gives, checked, nested, program_given}

-- ---- what is refused whatever stands there

-- a refusal, and by no check where `why` is none
abbrev pub Dead : Syntax → Out → Type 0
Dead why (ok t j) = ⊥
Dead why (no why' r') = is_check why ≡ false → is_check why' ≡ false

pub dead_then : (why : Syntax) (o : Out) (f : Tree → P) → Dead why o → Dead why (then o f)
unfolding then
dead_then why (ok t j) f d = absurd d
dead_then why (no why' r) f d = d

then_dead : (why : Syntax) (o : Out) (f : Tree → P) → is_check why ≡ true → ((t : Tree) (j : ℕ) → Dead why (f t j)) → Dead why (then o f)
unfolding then
then_dead why (ok t j) f c h = h t j
then_dead why (no why' r) f c h = λ e. absurd (true≢false (sym c ∙ e))

want_in_dead : (why : Syntax) (ts : List Tok) (s k : ℕ) (f : P) (i : ℕ) → Dead why (f (i + 1)) → Dead why (Parse.want_in ts s k f i)
unfolding Parse.want_in Parse.want_by is_check
want_in_dead why ts s k f i h = go (eqb (kind_at ts i) k)
  where
    go : (b : Bool) → Dead why (Parse.want_by ts b s f i)
    go true = h
    go false = λ e. refl

want_dead : (why : Syntax) (ts : List Tok) (k : ℕ) (f : P) (i : ℕ) → Dead why (f (i + 1)) → Dead why (Parse.want ts k f i)
unfolding Parse.want
want_dead why ts k f i h = want_in_dead why ts (only k) k f i h

end_in_dead : (why : Syntax) (ts : List Tok) (s k : ℕ) (t : Tree) (f : P) (i : ℕ) → Dead why (f (i + 1))
    → Dead why (Parse.end_in ts s k t f i)
unfolding Parse.end_in
end_in_dead why ts s k t f i h = want_in_dead why ts (Parse.onward ts t i + s) k f i h

pub or_dead : (why : Syntax) (s i : ℕ) (o : Out) → Dead why o → Dead why (or s i o)
unfolding or
or_dead why s i (ok t j) d = d
or_dead why s i (no why' r) d = or_no (λ x n. is_check why ≡ false → is_check x ≡ false) s i why' r (λ e. retold_check s why' ∙ d e) d

-- a call on something else than a variable is refused, whatever stands in it
module _ (ts : List Tok) (g : Sort → P) (t : Tree) (w : List ℕ) (m : ℕ) (other : is_variable t ≡ false) where
  called_dead : (a : Tree) (k : ℕ) → Dead CallOnOther (Parse.called ts t w a m k)
  unfolding Parse.called is_check
  called_dead a k = rw other (λ e. e)

  pub call_dead : (b : Bool) (k : ℕ) → Dead CallOnOther (Parse.call_by ts g b t w m k)
  unfolding Parse.call_by is_check
  call_dead true k = called_dead none (k + 1 + 1)
  call_dead false k =
      then_dead CallOnOther (Parse.args ts g k) _ refl
      (λ a r. end_in_dead CallOnOther ts _ RParen a (Parse.called ts t w a m) r (called_dead a (r + 1)))

-- a body where none is left
no_body : (ts : List Tok) (w : List ℕ) (j : ℕ)
    → Parse.bodies ts zero (Parse.body ts zero) w j ≡ pick (eqb (kind_at ts j) LBrace) (no TooDeep j) (no (wrong (only LBrace)) j)
unfolding Parse.bodies Parse.need Parse.need_by Parse.body then
no_body ts w j = go (eqb (kind_at ts j) LBrace)
  where
    go : (b : Bool) → then (Parse.need_by ts b LBrace (Parse.body ts zero) j) (λ b k. Parse.else_by ts zero (Parse.body ts zero) (eqb (kind_at ts k) KeywordElse) w (then_body b) k)
        ≡ pick b (no TooDeep j) (no (wrong (only LBrace)) j)
    go true = refl
    go false = refl

-- an `if` where none is left
branch_dead : (ts : List Tok) (i : ℕ) → Dead TooDeep (Parse.stmt_by ts zero (Parse.body ts zero) branching i)
unfolding Parse.stmt_by Parse.named is_check
branch_dead ts i =
    want_dead TooDeep ts KeywordGuard _ (i + 1) (want_dead TooDeep ts LParen _ (i + 1 + 1) (want_dead TooDeep ts Identifier _ (i + 1 + 1 + 1)
    (want_dead TooDeep ts RParen _ (i + 1 + 1 + 1 + 1) (subst (Dead TooDeep) (sym (no_body ts _ (i + 1 + 1 + 1 + 1 + 1)))
    (go (eqb (kind_at ts (i + 1 + 1 + 1 + 1 + 1)) LBrace))))))
  where
    go : (b : Bool) → Dead TooDeep (pick b (no TooDeep (i + 1 + 1 + 1 + 1 + 1)) (no (wrong (only LBrace)) (i + 1 + 1 + 1 + 1 + 1)))
    go true = λ e. refl
    go false = λ e. refl

-- ---- two answers

module _ (ts : List Tok) (n : ℕ) where
  -- an answer that may rest on a row behind the first n
  abbrev pub Behind : Out → Type 0
  Behind (ok t j) = n ≤ j
  Behind (no why r) = n ≤ lost ts why r

  -- a tree ends at row m or behind
  abbrev pub Up : ℕ → Out → Type 0
  Up m (ok t j) = m ≤ j
  Up m (no why r) = Unit {0}

  -- a refusal of which more is known
  abbrev pub Told : (Syntax → ℕ → Type 0) → Out → Type 0
  Told L (ok t j) = ⊥
  Told L (no why r) = L why r

  -- Answers from row i on, of a table and of one with the same first n rows: they are the same, or rest on a row behind these, or both are
  -- refused. Of refusals that L tells nothing is said: they stand behind the row that is lost.
  pub data LocalBut (L : Syntax → ℕ → Type 0) (i m : ℕ) (o o' : Out) : Type 0 where
    same : i < n → o ≡ o' → Up m o → LocalBut L i m o o'
    behind : Behind o → Up m o → LocalBut L i m o o'
    both : i < n → Told (λ why r. (is_misfit why ≡ false) × Dead why o') o → LocalBut L i m o o'
    late : Told L o → LocalBut L i m o o'

  abbrev pub Local : ℕ → ℕ → Out → Out → Type 0
  Local i m o o' = LocalBut (λ why r. ⊥) i m o o'

  ease_up : (o : Out) (q m : ℕ) → q ≤ m → Up m o → Up q o
  ease_up (ok t j) q m h u = omega arith
  ease_up (no why r) q m h u = tt

  ease : {L : Syntax → ℕ → Type 0} {i j q m : ℕ} {o o' : Out} → i ≤ j → q ≤ m → LocalBut L j m o o' → LocalBut L i q o o'
  ease {i = i} {j} {q} {m} {o} h k (same l e u) = same (omega arith) e (ease_up o q m k u)
  ease {i = i} {j} {q} {m} {o} h k (behind b u) = behind b (ease_up o q m k u)
  ease h k (both l d) = both (omega arith) d
  ease h k (late p) = late p

  -- nothing is left out
  sure : {L : Syntax → ℕ → Type 0} {i m : ℕ} {o o' : Out} → Local i m o o' → LocalBut L i m o o'
  sure (same l e u) = same l e u
  sure (behind b u) = behind b u
  sure (both l d) = both l d
  sure {o = ok t j} (late p) = absurd p
  sure {o = no why r} (late p) = absurd p

  -- what was left out is lost at row i: there the other table is doomed
  abbrev LostAs : ℕ → Out → Syntax → ℕ → Type 0
  LostAs i o' why r = (lost ts why r ≡ i) × (is_misfit why ≡ false) × Dead why o'

  lost_as : (i : ℕ) (o' : Out) (why why' : Syntax) (r r' : ℕ) → why ≡ why' → r ≡ r' → LostAs i o' why' r' → LostAs i o' why r
  lost_as i o' why why' r r' e f h = subst (λ (x : Syntax). LostAs i o' x r) (sym e) (subst (λ (x : ℕ). LostAs i o' why' x) (sym f) h)

  settle : {L : Syntax → ℕ → Type 0} {i m : ℕ} (o o' : Out) → ((why : Syntax) (r : ℕ) → L why r → LostAs i o' why r)
      → LocalBut L i m o o' → Local i m o o'
  settle o o' h (same l e u) = same l e u
  settle o o' h (behind b u) = behind b u
  settle o o' h (both l d) = both l d
  settle {i = i} {m} (ok t j) o' h (late p) = absurd p
  settle {i = i} {m} (no why r) o' h (late p) = go (ltb i n) refl (h why r p)
    where
      go : (c : Bool) → ltb i n ≡ c → LostAs i o' why r → Local i m (no why r) o'
      go true c x = both (ltb-true i n c) (x.1, x.2)
      go false c x = behind (omega (arith, ltb-false i n c, x.0)) tt

  -- the same answers, written otherwise
  along : {L : Syntax → ℕ → Type 0} {i m : ℕ} {o o' a a' : Out} → o ≡ a → o' ≡ a' → LocalBut L i m a a' → LocalBut L i m o o'
  along {L} {i} {m} {o} {o'} {a} {a'} e e' h = subst (λ (x : Out). LocalBut L i m x o') (sym e) (subst (λ (x : Out). LocalBut L i m a x) (sym e') h)

  pub ok_local : {L : Syntax → ℕ → Type 0} (i m : ℕ) (t : Tree) (k : ℕ) → i ≤ k → m ≤ k → LocalBut L i m (ok t k) (ok t k)
  ok_local {L} i m t k h l = go (ltb i n) refl
    where
      go : (c : Bool) → ltb i n ≡ c → LocalBut L i m (ok t k) (ok t k)
      go true c = same (ltb-true i n c) refl l
      go false c = let z : n ≤ i = ltb-false i n c in behind (omega arith) l

  no_local : {L : Syntax → ℕ → Type 0} (i m : ℕ) (why : Syntax) (r : ℕ) → i ≤ lost ts why r → LocalBut L i m (no why r) (no why r)
  no_local {L} i m why r h = go (ltb i n) refl
    where
      go : (c : Bool) → ltb i n ≡ c → LocalBut L i m (no why r) (no why r)
      go true c = same (ltb-true i n c) refl tt
      go false c = behind (omega (arith, ltb-false i n c, h)) tt

  -- one answer and then the next, with what else is known of the tree
  then_known : {L : Syntax → ℕ → Type 0} {i m q : ℕ} (C : Tree → ℕ → Type 0) (o o' : Out) (f f' : Tree → P) → All C o → LocalBut L i m o o'
      → ((t : Tree) (j : ℕ) → C t j → m ≤ j → LocalBut L j q (f t j) (f' t j)) → LocalBut L i q (then o f) (then o' f')
  unfolding then
  then_known {L} {i} {m} {q} C (ok t j) o' f f' a (same l e u) h = go (f t j) (h t j a u)
    where
      go : (x : Out) → LocalBut L j q x (f' t j) → LocalBut L i q x (then o' f')
      go x (same v y z) = same l (y ∙ ap (λ (x : Out). then x f') e) z
      go x (behind b z) = behind b z
      go x (both v d) = both l (subst (λ (y : Out). Told (λ why r. (is_misfit why ≡ false) × Dead why y) x) (ap (λ (x : Out). then x f') e) d)
      go x (late p) = late p
  then_known {L} {i} {m} {q} C (ok t j) o' f f' a (behind b u) h = go (f t j) (h t j a u)
    where
      go : (x : Out) → LocalBut L j q x (f' t j) → LocalBut L i q x (then o' f')
      go x (same v y z) = absurd (omega (arith, b, v))
      go x (behind b z) = behind b z
      go x (both v d) = absurd (omega (arith, b, v))
      go x (late p) = late p
  then_known C (ok t j) o' f f' a (both l d) h = absurd d
  then_known C (ok t j) o' f f' a (late p) h = absurd p
  then_known C (no why r) o' f f' a (same l e u) h = same l (ap (λ (x : Out). then x f') e) tt
  then_known C (no why r) o' f f' a (behind b u) h = behind b tt
  then_known C (no why r) o' f f' a (both l d) h = both l (d.0, dead_then why o' f' d.1)
  then_known C (no why r) o' f f' a (late p) h = late p

  pub then_local : {L : Syntax → ℕ → Type 0} {i m q : ℕ} (o o' : Out) (f f' : Tree → P) → LocalBut L i m o o'
      → ((t : Tree) (j : ℕ) → m ≤ j → LocalBut L j q (f t j) (f' t j)) → LocalBut L i q (then o f) (then o' f')
  then_local o o' f f' h k = then_known (λ t j. Unit {0}) o o' f f' (all_any o) h (λ t j a l. k t j l)

  -- the set that is told where row q itself is refused
  pub or_local : {i m : ℕ} (s q : ℕ) (o o' : Out) → Local i m o o' → Local i m (or s q o) (or s q o')
  unfolding or
  or_local s q (ok t j) o' (same l e u) = same l (ap (or s q) e) u
  or_local s q (ok t j) o' (behind b u) = behind b u
  or_local s q (ok t j) o' (both l d) = absurd d
  or_local s q (ok t j) o' (late p) = absurd p
  or_local s q (no why r) o' (same l e u) = same l (ap (or s q) e) tt
  or_local s q (no why r) o' (behind b u) =
      behind (or_no (λ x k. n ≤ lost ts x k) s q why r (omega (arith, b, retold_lost ts s why r)) b) tt
  or_local s q (no why r) o' (both l d) =
      both l (or_no (λ x k. (is_misfit x ≡ false) × Dead x (or s q o')) s q why r
      (retold_misfit s why ∙ d.0, dead_as (retold s why) why (or s q o') (retold_check s why) (or_dead why s q o' d.1))
      (d.0, or_dead why s q o' d.1))
    where
      dead_as : (x y : Syntax) (a : Out) → is_check x ≡ is_check y → Dead y a → Dead x a
      dead_as x y (ok t j) e d = d
      dead_as x y (no why r) e d = λ c. d (sym e ∙ c)
  or_local s q (no why r) o' (late p) = absurd p

  -- ---- loops

  module _ (test : ℕ → Bool) (step : Tree → P) (test' : ℕ → Bool) (step' : Tree → P)
      (alike : (j : ℕ) → j < n → test j ≡ test' j) (s : (t : Tree) (j : ℕ) → test j ≡ true → Local j (j + 1) (step t j) (step' t j)) where
    many_past : (f : ℕ) (b : Bool) (t : Tree) (j : ℕ) (o' : Out) → test j ≡ b → n ≤ j → Local j j (many test step f b t j) o'
    unfolding many then
    many_past zero b t j o' e h = behind h (omega arith)
    many_past (suc f) false t j o' e h = behind h (omega arith)
    many_past (suc f) true t j o' e h = go (step t j) (s t j e) (λ u k l. many_past f (test k) u k o' refl l)
      where
        go : (o : Out) → Local j (j + 1) o (step' t j) → ((u : Tree) (k : ℕ) → n ≤ k → Local k k (many test step f (test k) u k) o')
            → Local j j (then o (λ u k. many test step f (test k) u k)) o'
        go (ok u k) (same l e x) r = absurd (omega (arith, h, l))
        go (ok u k) (behind b x) r = ease (omega arith) (omega arith) (r u k b)
        go (ok u k) (both l d) r = absurd d
        go (ok u k) (late p) r = absurd p
        go (no why p) (same l e x) r = absurd (omega (arith, h, l))
        go (no why p) (behind b x) r = behind b tt
        go (no why p) (both l d) r = absurd (omega (arith, h, l))
        go (no why p) (late x) r = late x

    many_local : (f f' : ℕ) (t : Tree) (j : ℕ) → n ≤ f + j → n ≤ f' + j → Local j j (many test step f (test j) t j) (many test' step' f' (test' j) t j)
    unfolding many
    many_local zero f' t j h h' = behind (omega arith) (omega arith)
    many_local (suc f) zero t j h h' = many_past (suc f) (test j) t j _ refl (omega arith)
    many_local (suc f) (suc f') t j h h' =
        go (ltb j n) refl (λ u k l. ease (omega arith) (omega arith) (many_local f f' u k (omega arith) (omega arith)))
      where
        turn : (b : Bool) → test j ≡ b → j < n → ((u : Tree) (k : ℕ) → j + 1 ≤ k → Local k j (many test step f (test k) u k) (many test' step' f' (test' k) u k))
            → Local j j (many test step (suc f) b t j) (many test' step' (suc f') b t j)
        turn true e l r = then_local (step t j) (step' t j) _ _ (s t j e) r
        turn false e l r = same l refl (omega arith)

        go : (c : Bool) → ltb j n ≡ c → ((u : Tree) (k : ℕ) → j + 1 ≤ k → Local k j (many test step f (test k) u k) (many test' step' f' (test' k) u k))
            → Local j j (many test step (suc f) (test j) t j) (many test' step' (suc f') (test' j) t j)
        go true c r =
            let l : j < n = ltb-true j n c in
            subst (λ (b : Bool). Local j j (many test step (suc f) (test j) t j) (many test' step' (suc f') b t j)) (alike j l) (turn (test j) refl l r)
        go false c r = many_past (suc f) (test j) t j _ refl (ltb-false j n c)

-- the row that is lost with 25: two behind the key at row i, whether it is Eof (c) or not
module _ (ts : List Tok) (i : ℕ) where
  pub type_lost : is_typed (kind_at ts i) ≡ true → kind_at ts (i + 1) ≡ Colon → (c : Bool) → lost ts NotType (cond c (i + 1 + 1) (i + 1 + 1 + 1)) ≡ i + 1 + 1
  unfolding lost
  type_lost e f true =
      ap (λ (r : ℕ). cond (eqb (kind_at ts r) Colon) (i + 1 + 1 - 1) (i + 1 + 1)) (omega arith)
      ∙ ap (λ (b : Bool). cond b (i + 1 + 1 - 1) (i + 1 + 1)) (either_kind (λ x. eqb x Colon ≡ false) (kind_at ts i) KeywordKey KeywordValue e refl refl)
  type_lost e f false =
      ap (λ (r : ℕ). cond (eqb (kind_at ts r) Colon) (i + 1 + 1 + 1 - 1) (i + 1 + 1 + 1)) (omega arith)
      ∙ ap (λ (x : ℕ). cond (eqb x Colon) (i + 1 + 1 + 1 - 1) (i + 1 + 1 + 1)) f ∙ omega arith

-- a wanted row, as a choice
module _ (ts : List Tok) (s k : ℕ) (f : P) (i : ℕ) where
  want_pick : Parse.want_in ts s k f i ≡ pick (eqb (kind_at ts i) k) (f (i + 1)) (no (wrong s) i)
  unfolding Parse.want_in Parse.want_by
  want_pick = go (eqb (kind_at ts i) k)
    where
      go : (b : Bool) → Parse.want_by ts b s f i ≡ pick b (f (i + 1)) (no (wrong s) i)
      go true = refl
      go false = refl

need_pick : (ts : List Tok) (k : ℕ) (f : P) (i : ℕ) → Parse.need ts k f i ≡ pick (eqb (kind_at ts i) k) (f i) (no (wrong (only k)) i)
unfolding Parse.need Parse.need_by
need_pick ts k f i = go (eqb (kind_at ts i) k)
  where
    go : (b : Bool) → Parse.need_by ts b k f i ≡ pick b (f i) (no (wrong (only k)) i)
    go true = refl
    go false = refl

-- ---- rows that open a construct where none is left

module _ (ts : List Tok) where
  -- any but a body's brace is lost itself, or the row behind it
  pub deep_row : (o : ℕ) → eqb (kind_at ts o) LBrace ≡ false → o ≤ lost ts TooDeep o
  unfolding lost
  deep_row o b = rw b (go (eqb (kind_at ts (o - 1)) Identifier))
    where
      go : (c : Bool) → o ≤ cond c (o + 1) o
      go true = omega arith
      go false = omega arith

  -- a group's parenthesis or a star, behind no name
  pub group_row : (o : ℕ) → eqb (kind_at ts o) LBrace ≡ false → eqb (kind_at ts (o - 1)) Identifier ≡ false → lost ts TooDeep o ≡ o
  unfolding lost
  group_row o b c = rw (b, c)

  -- an argument list's parenthesis, behind the name at row j
  pub list_row : (j : ℕ) → kind_at ts j ≡ Identifier → kind_at ts (j + 1) ≡ LParen → lost ts TooDeep (j + 1) ≡ j + 1 + 1
  unfolding lost
  list_row j e f =
      let n : j + 1 - 1 ≡ j = omega arith in
      rw (f, n, e)

  -- the brace of the `if` at row i
  pub brace_row : (i : ℕ) → kind_at ts (i + 1 + 1 + 1 + 1 + 1) ≡ LBrace → lost ts TooDeep (i + 1 + 1 + 1 + 1 + 1) ≡ i
  unfolding lost
  brace_row i e = rw e (omega arith)

-- ---- the row behind a chain, which is lost where its value is too large

abbrev pub ChainEnd : List Tok → Tree → ℕ → Type 0
ChainEnd ts c k = lost ts OutOfRange (k - 1) ≡ k

-- a number behind row j, which is no bracket
number_end : (ts : List Tok) (j : ℕ) → eqb (kind_at ts j) LBracket ≡ false → lost ts OutOfRange (j + 1 + 1 - 1) ≡ j + 1 + 1
unfolding lost
number_end ts j b =
    ap (λ (x : ℕ). cond (eqb (kind_at ts x) LBracket) (j + 1 + 1 - 1) (j + 1 + 1 - 1 + 1)) (omega arith)
    ∙ ap (λ (x : Bool). cond x (j + 1 + 1 - 1) (j + 1 + 1 - 1 + 1)) b ∙ omega arith

pub chain_end : (ts : List Tok) (j : ℕ) → kind_at ts j ≡ Colon → All (ChainEnd ts) (Parse.chain ts (j + 1))
unfolding Parse.chain Parse.chain_step Parse.count_by
chain_end ts j e =
    valued_all ts (ChainEnd ts) _ (j + 1) (λ f.
    loop_all ts (ChainEnd ts) (λ r. is_shift (kind_at ts r)) (Parse.chain_step ts)
    (λ c k x b. valued_all ts (ChainEnd ts) _ (k + 1) (λ q. go c k b (leb (bits_in (tok_at ts (k + 1))) 63)))
    (first (bits_in (tok_at ts (j + 1)))) (j + 1 + 1) (number_end ts j (ap (λ (x : ℕ). eqb x LBracket) e)))
  where
    go : (c : Tree) (k : ℕ) → is_shift (kind_at ts k) ≡ true → (b : Bool) → All (ChainEnd ts) (Parse.count_by ts b c k (bits_in (tok_at ts (k + 1))) (k + 1 + 1))
    go c k s true = number_end ts k (either_kind (λ x. eqb x LBracket ≡ false) (kind_at ts k) Shl Shr s refl refl)
    go c k s false = tt

-- ---- two tables whose first n rows are alike

pub record Alike (ts ts' : List Tok) (n : ℕ) : Type 0 where
  pub fit : n ≤ length ts
  pub fit' : n ≤ length ts'
  pub agree : (i : ℕ) → i < n → tok_at ts i ≡ tok_at ts' i

module _ (ts ts' : List Tok) (n : ℕ) (agreed : Alike ts ts' n) where
  loop_local : (test : ℕ → Bool) (step : Tree → P) (step' : Tree → P)
      → ((t : Tree) (j : ℕ) → test (kind_at ts j) ≡ true → Local ts n j (j + 1) (step t j) (step' t j))
      → (t : Tree) (j : ℕ) → Local ts n j j (Parse.loop ts (λ r. test (kind_at ts r)) step t j) (Parse.loop ts' (λ r. test (kind_at ts' r)) step' t j)
  unfolding Parse.loop
  loop_local test step step' s t j =
      many_local ts n (λ r. test (kind_at ts r)) step (λ r. test (kind_at ts' r)) step' (λ r l. ap (λ (x : Tok). test (kind_of x)) (agreed.agree r l)) s
      (suc (length ts)) (suc (length ts')) t j (omega (arith, agreed.fit)) (omega (arith, agreed.fit'))

  -- ---- a row that is looked at

  -- row k, at row i or before
  look_back : {L : Syntax → ℕ → Type 0} {B : Type 0} (k i m : ℕ) → k ≤ i → (φ : Tok → B) (F F' : B → Out)
      → ((b : B) → φ (tok_at ts k) ≡ b → LocalBut ts n L i m (F b) (F' b)) → LocalBut ts n L i m (F (φ (tok_at ts k))) (F' (φ (tok_at ts' k)))
  look_back {L} k i m q φ F F' h = go (ltb i n) refl (F (φ (tok_at ts k))) (h (φ (tok_at ts k)) refl)
    where
      go : (c : Bool) → ltb i n ≡ c → (o : Out) → LocalBut ts n L i m o (F' (φ (tok_at ts k))) → LocalBut ts n L i m o (F' (φ (tok_at ts' k)))
      go true c o x = subst (λ (y : Tok). LocalBut ts n L i m o (F' (φ y))) (agreed.agree k (omega (arith, q, ltb-true i n c))) x
      go false c o (same l e u) = absurd (omega (arith, ltb-false i n c, l))
      go false c o (behind b u) = behind b u
      go false c o (both l d) = absurd (omega (arith, ltb-false i n c, l))
      go false c o (late p) = late p

  look : {L : Syntax → ℕ → Type 0} {B : Type 0} (i m : ℕ) (φ : Tok → B) (F F' : B → Out) → ((b : B) → φ (tok_at ts i) ≡ b → LocalBut ts n L i m (F b) (F' b))
      → LocalBut ts n L i m (F (φ (tok_at ts i))) (F' (φ (tok_at ts' i)))
  look i m φ F F' h = look_back i i m (omega arith) φ F F' h

  -- what goes on with a tree goes by the rows in front
  onward_alike : (t : Tree) (i : ℕ) → i < n → Parse.onward ts t i ≡ Parse.onward ts' t i
  unfolding Parse.onward
  onward_alike t i h =
      ap (λ (x : Tok). told (eqb (kind_of x) Identifier && eqb (kind_at ts (i - 2)) Dot)) (agreed.agree (i - 1) (omega arith))
      ∙ ap (λ (x : Tok). told (eqb (kind_at ts' (i - 1)) Identifier && eqb (kind_of x) Dot)) (agreed.agree (i - 2) (omega arith))
    where
      told : Bool → ℕ
      told b = ons + cond (is_sum t) 0 shifts + cond b (only LParen) 0

  module _ {L : Syntax → ℕ → Type 0} where
    -- 21, with sets that are the same where the row is among the first n
    wanted : (s s' i m : ℕ) → (i < n → s ≡ s') → LocalBut ts n L i m (no (wrong s) i) (no (wrong s') i)
    unfolding lost
    wanted s s' i m q = go (ltb i n) refl
      where
        go : (c : Bool) → ltb i n ≡ c → LocalBut ts n L i m (no (wrong s) i) (no (wrong s') i)
        go true c = same (ltb-true i n c) (ap (λ (x : ℕ). no (wrong x) i) (q (ltb-true i n c))) tt
        go false c = behind (ltb-false i n c) tt

    -- a where the row i is of kind k, and 21 where it is not
    pick_local : (s s' k i m : ℕ) (a a' : Out) → (i < n → s ≡ s') → (kind_at ts i ≡ k → LocalBut ts n L i m a a')
        → LocalBut ts n L i m (pick (eqb (kind_at ts i) k) a (no (wrong s) i)) (pick (eqb (kind_at ts' i) k) a' (no (wrong s') i))
    pick_local s s' k i m a a' q h =
        look i m kind_of (λ x. pick (eqb x k) a (no (wrong s) i)) (λ x. pick (eqb x k) a' (no (wrong s') i)) (λ x e. go (eqb x k) x refl e)
      where
        go : (b : Bool) (x : ℕ) → eqb x k ≡ b → kind_at ts i ≡ x
            → LocalBut ts n L i m (pick b a (no (wrong s) i)) (pick b a' (no (wrong s') i))
        go true x y e = h (e ∙ eqb-true x k y)
        go false x y e = wanted s s' i m q

    -- a row of kind k, and what is read behind it, which may rest on that row alone
    want_in_at : (s s' k : ℕ) (f f' : P) (i m : ℕ) → (i < n → s ≡ s') → (kind_at ts i ≡ k → LocalBut ts n L i m (f (i + 1)) (f' (i + 1)))
        → LocalBut ts n L i m (Parse.want_in ts s k f i) (Parse.want_in ts' s' k f' i)
    want_in_at s s' k f f' i m q h =
        along ts n (want_pick ts s k f i) (want_pick ts' s' k f' i) (pick_local s s' k i m (f (i + 1)) (f' (i + 1)) q h)

    want_at : (k : ℕ) (f f' : P) (i m : ℕ) → (kind_at ts i ≡ k → LocalBut ts n L i m (f (i + 1)) (f' (i + 1)))
        → LocalBut ts n L i m (Parse.want ts k f i) (Parse.want ts' k f' i)
    unfolding Parse.want
    want_at k f f' i m h = want_in_at (only k) (only k) k f f' i m (λ _. refl) h

    -- the same behind an expression or arguments t
    end_in_local : (s k : ℕ) (t : Tree) (f f' : P) (i m : ℕ) → LocalBut ts n L (i + 1) m (f (i + 1)) (f' (i + 1))
        → LocalBut ts n L i m (Parse.end_in ts s k t f i) (Parse.end_in ts' s k t f' i)
    unfolding Parse.end_in
    end_in_local s k t f f' i m h =
        want_in_at (Parse.onward ts t i + s) (Parse.onward ts' t i + s) k f f' i m (λ l. ap (λ (x : ℕ). x + s) (onward_alike t i l))
        (λ e. ease ts n (omega arith) (omega arith) h)

    want_known : (k : ℕ) (f f' : P) (i m : ℕ) → (kind_at ts i ≡ k → LocalBut ts n L (i + 1) m (f (i + 1)) (f' (i + 1)))
        → LocalBut ts n L i m (Parse.want ts k f i) (Parse.want ts' k f' i)
    want_known k f f' i m h = want_at k f f' i m (λ e. ease ts n (omega arith) (omega arith) (h e))

    want_local : (k : ℕ) (f f' : P) (i m : ℕ) → LocalBut ts n L (i + 1) m (f (i + 1)) (f' (i + 1))
        → LocalBut ts n L i m (Parse.want ts k f i) (Parse.want ts' k f' i)
    want_local k f f' i m h = want_known k f f' i m (λ e. h)

    need_local : (k : ℕ) (f f' : P) (i m : ℕ) → LocalBut ts n L i m (f i) (f' i) → LocalBut ts n L i m (Parse.need ts k f i) (Parse.need ts' k f' i)
    need_local k f f' i m h =
        along ts n (need_pick ts k f i) (need_pick ts' k f' i) (pick_local (only k) (only k) k i m (f i) (f' i) (λ _. refl) (λ e. h))

    -- a name, which what is read behind it may rest on alone
    named_at : (f f' : List ℕ → P) (i m : ℕ) → ((w : List ℕ) → kind_at ts i ≡ Identifier → LocalBut ts n L i m (f w (i + 1)) (f' w (i + 1)))
        → LocalBut ts n L i m (Parse.named ts f i) (Parse.named ts' f' i)
    unfolding Parse.named
    named_at f f' i m h =
        look i m spelling_of (λ w. Parse.want ts Identifier (f w) i) (λ w. Parse.want ts' Identifier (f' w) i) (λ w e. want_at Identifier (f w) (f' w) i m (h w))

    named_local : (f f' : List ℕ → P) (i m : ℕ) → ((w : List ℕ) → LocalBut ts n L (i + 1) m (f w (i + 1)) (f' w (i + 1)))
        → LocalBut ts n L i m (Parse.named ts f i) (Parse.named ts' f' i)
    named_local f f' i m h = named_at f f' i m (λ w e. ease ts n (omega arith) (omega arith) (h w))

    quoted_local : (f f' : List ℕ → P) (i m : ℕ) → ((w : List ℕ) → LocalBut ts n L (i + 1) m (f w (i + 1)) (f' w (i + 1)))
        → LocalBut ts n L i m (Parse.quoted ts f i) (Parse.quoted ts' f' i)
    unfolding Parse.quoted
    quoted_local f f' i m h =
        look i m spelling_of (λ w. Parse.want ts StringLiteral (f w) i) (λ w. Parse.want ts' StringLiteral (f' w) i)
        (λ w e. want_local StringLiteral (f w) (f' w) i m (h w))

    valued_local : (f f' : ℕ → P) (i m : ℕ) → ((v : ℕ) → LocalBut ts n L i m (f v (i + 1)) (f' v (i + 1)))
        → LocalBut ts n L i m (Parse.valued ts f i) (Parse.valued ts' f' i)
    unfolding Parse.valued
    valued_local f f' i m h =
        look i m bits_in (λ v. Parse.want ts Number (f v) i) (λ v. Parse.want ts' Number (f' v) i) (λ v e. want_at Number (f v) (f' v) i m (λ q. h v))

    -- a row of kind k, and a tree behind it
    want_ok : (k : ℕ) (t : Tree) (i m : ℕ) → m ≤ i + 1 → LocalBut ts n L i m (Parse.want ts k (ok t) i) (Parse.want ts' k (ok t) i)
    want_ok k t i m h = want_local k (ok t) (ok t) i m (ok_local ts n (i + 1) m t (i + 1) (omega arith) h)

    want_in_ok : (s k : ℕ) (t : Tree) (i m : ℕ) → m ≤ i + 1
        → LocalBut ts n L i m (Parse.want_in ts s k (ok t) i) (Parse.want_in ts' s k (ok t) i)
    want_in_ok s k t i m h =
        want_in_at s s k (ok t) (ok t) i m (λ _. refl)
        (λ e. ease ts n (omega arith) (omega arith) (ok_local ts n (i + 1) m t (i + 1) (omega arith) h))

    end_in_ok : (s k : ℕ) (e t : Tree) (i m : ℕ) → m ≤ i + 1
        → LocalBut ts n L i m (Parse.end_in ts s k e (ok t) i) (Parse.end_in ts' s k e (ok t) i)
    end_in_ok s k e t i m h = end_in_local s k e (ok t) (ok t) i m (ok_local ts n (i + 1) m t (i + 1) (omega arith) h)

    end_ok : (k : ℕ) (e t : Tree) (i m : ℕ) → m ≤ i + 1 → LocalBut ts n L i m (Parse.end ts k e (ok t) i) (Parse.end ts' k e (ok t) i)
    unfolding Parse.end
    end_ok k e t i m h = end_in_ok (only k) k e t i m h

  -- ---- expressions

  -- what is left open of a call whose method's name is at row m: 31, on anything but a variable
  abbrev Other : Tree → ℕ → Syntax → ℕ → Type 0
  Other t m why r = (why ≡ CallOnOther) × (r ≡ m) × (is_variable t ≡ false)

  called_local : (t : Tree) (w : List ℕ) (a : Tree) (m k q : ℕ) → q ≤ k
      → LocalBut ts n (Other t m) k q (Parse.called ts t w a m k) (Parse.called ts' t w a m k)
  unfolding Parse.called
  called_local t w a m k q h = go (is_variable t) refl
    where
      go : (b : Bool) → is_variable t ≡ b
          → LocalBut ts n (Other t m) k q (pick b (ok (call t w a) k) (no CallOnOther m)) (pick b (ok (call t w a) k) (no CallOnOther m))
      go true e = ok_local ts n k q (call t w a) k (omega arith) h
      go false e = late (refl, refl, e)

  -- what is read behind an opening row o, from row q on, where it is lost there if none is left
  module _ (g g' : Sort → P) (under : (s : Sort) (o q : ℕ) → q ≤ lost ts TooDeep o → q ≤ o + 1 → Local ts n q (o + 1) (g s o) (g' s o)) where
    atom_by : (l : Lead) (i : ℕ) → LeadIs (kind_at ts i) l → Local ts n i (i + 1) (Parse.atom_by ts g l i) (Parse.atom_by ts' g' l i)
    unfolding Parse.atom_by
    atom_by number i f =
        look i (i + 1) bits_in (λ v. ok (num v) (i + 1)) (λ v. ok (num v) (i + 1)) (λ v e. ok_local ts n i (i + 1) (num v) (i + 1) (omega arith) (omega arith))
    atom_by identifier i f =
        look i (i + 1) spelling_of (λ w. ok (var w) (i + 1)) (λ w. ok (var w) (i + 1)) (λ w e. ok_local ts n i (i + 1) (var w) (i + 1) (omega arith) (omega arith))
    atom_by paren i f =
        then_local ts n (g whole i) (g' whole i) _ _ (under whole i i (deep_row ts i (ap (λ (x : ℕ). eqb x LBrace) f)) (omega arith))
        (λ t j l. end_ok RParen t (group t) j (i + 1) (omega arith))
    atom_by other i f = wanted operands operands i (i + 1) (λ _. refl)

    pub atom_local : (i : ℕ) → Local ts n i (i + 1) (Parse.atom ts g i) (Parse.atom ts' g' i)
    unfolding Parse.atom
    atom_local i =
        look i (i + 1) (λ x. lead (kind_of x)) (λ l. Parse.atom_by ts g l i) (λ l. Parse.atom_by ts' g' l i)
        (λ l e. atom_by l i (subst (LeadIs (kind_at ts i)) e (lead_is (kind_at ts i))))

    pub arg_step : (a : Tree) (j : ℕ) → eqb (kind_at ts j) Comma ≡ true → Local ts n j (j + 1) (Parse.arg_step ts g a j) (Parse.arg_step ts' g' a j)
    unfolding Parse.arg_step
    arg_step a j b =
        then_local ts n (g whole j) (g' whole j) _ _
        (under whole j j (deep_row ts j (ap (λ (x : ℕ). eqb x LBrace) (eqb-true (kind_at ts j) Comma b))) (omega arith))
        (λ t k l. ok_local ts n k (j + 1) _ k (omega arith) l)

    args_local : (o : ℕ) → o + 1 ≤ lost ts TooDeep o → Local ts n (o + 1) (o + 1) (Parse.args ts g o) (Parse.args ts' g' o)
    unfolding Parse.args
    args_local o h =
        then_local ts n (or first_arguments (o + 1) (g whole o)) (or first_arguments (o + 1) (g' whole o)) _ _
        (or_local ts n first_arguments (o + 1) (g whole o) (g' whole o) (under whole o (o + 1) h (omega arith)))
        (λ t k l. ease ts n (omega arith) l (loop_local (λ x. eqb x Comma) (Parse.arg_step ts g) (Parse.arg_step ts' g') arg_step (one t) k))

    -- a call whose method's name is at row m, and whose parenthesis at row k
    call_by : (b : Bool) (t : Tree) (w : List ℕ) (m k q : ℕ) → k + 1 ≤ lost ts TooDeep k → q ≤ k + 1
        → LocalBut ts n (Other t m) (k + 1) q (Parse.call_by ts g b t w m k) (Parse.call_by ts' g' b t w m k)
    unfolding Parse.call_by
    call_by true t w m k q d h = ease ts n (omega arith) (omega arith) (called_local t w none m (k + 1 + 1) q (omega arith))
    call_by false t w m k q d h =
        then_local ts n (Parse.args ts g k) (Parse.args ts' g' k) _ _ (sure ts n (args_local k d))
        (λ a r l. end_in_local _ RParen a (Parse.called ts t w a m) (Parse.called ts' t w a m) r q
        (called_local t w a m (r + 1) q (omega arith)))

    open_by : (b : Bool) (t : Tree) (w : List ℕ) (m q : ℕ) → kind_at ts m ≡ Identifier → eqb (kind_at ts (m + 1)) LParen ≡ b → q ≤ m + 1
        → Local ts n (m + 1) q (Parse.open_by ts g b t w m (m + 1)) (Parse.open_by ts' g' b t w m (m + 1))
    unfolding Parse.open_by lost is_misfit
    open_by true t w m q e f h =
        settle ts n (Parse.call_by ts g (eqb (kind_at ts (m + 1 + 1)) RParen) t w m (m + 1)) (Parse.call_by ts' g' (eqb (kind_at ts' (m + 1 + 1)) RParen) t w m (m + 1))
        (λ why r x. lost_as ts n (m + 1) (Parse.call_by ts' g' (eqb (kind_at ts' (m + 1 + 1)) RParen) t w m (m + 1)) why CallOnOther r m x.0 x.1
        (refl, refl, call_dead ts' g' t w m x.2 (eqb (kind_at ts' (m + 1 + 1)) RParen) (m + 1)))
        (ease ts n (omega arith) (omega arith)
        (look (m + 1 + 1) q (λ x. eqb (kind_of x) RParen) (λ b. Parse.call_by ts g b t w m (m + 1)) (λ b. Parse.call_by ts' g' b t w m (m + 1))
        (λ b c. call_by b t w m (m + 1) q (omega (arith, list_row ts m e (eqb-true (kind_at ts (m + 1)) LParen f))) (omega arith))))
    open_by false t w m q e f h = ok_local ts n (m + 1) q _ (m + 1) (omega arith) h

    pub post_local : (t : Tree) (j : ℕ) → Local ts n j (j + 1) (Parse.post ts g t j) (Parse.post ts' g' t j)
    unfolding Parse.post
    post_local t j =
        ease ts n (omega arith) (omega arith) (named_at _ _ (j + 1) (j + 1)
        (λ w e. ease ts n (omega arith) (omega arith) (look (j + 1 + 1) (j + 1) (λ x. eqb (kind_of x) LParen) (λ b. Parse.open_by ts g b t w (j + 1) (j + 1 + 1))
        (λ b. Parse.open_by ts' g' b t w (j + 1) (j + 1 + 1))
        (λ b f. open_by b t w (j + 1) (j + 1) e f (omega arith)))))

    prim_local : (i : ℕ) → Local ts n i (i + 1) (Parse.prim ts g i) (Parse.prim ts' g' i)
    unfolding Parse.prim
    prim_local i =
        then_local ts n (Parse.atom ts g i) (Parse.atom ts' g' i) _ _ (atom_local i)
        (λ t j l. ease ts n (omega arith) l (loop_local (λ x. eqb x Dot) (Parse.post ts g) (Parse.post ts' g') (λ u k b. post_local u k) t j))

    unary_by : (b : Bool) (i : ℕ) → eqb (kind_at ts i) Star ≡ b → Local ts n i (i + 1) (Parse.unary_by ts g b i) (Parse.unary_by ts' g' b i)
    unfolding Parse.unary_by
    unary_by true i b =
        then_local ts n (g operand i) (g' operand i) _ _
        (under operand i i (deep_row ts i (ap (λ (x : ℕ). eqb x LBrace) (eqb-true (kind_at ts i) Star b))) (omega arith))
        (λ t j l. ok_local ts n j (i + 1) _ j (omega arith) l)
    unary_by false i b = prim_local i

    pub unary_local : (i : ℕ) → Local ts n i (i + 1) (Parse.unary ts g i) (Parse.unary ts' g' i)
    unfolding Parse.unary
    unary_local i = look i (i + 1) (λ x. eqb (kind_of x) Star) (λ b. Parse.unary_by ts g b i) (λ b. Parse.unary_by ts' g' b i) (λ b e. unary_by b i e)

    -- operands p, joined by operators `is_op`
    module _ (is_op : ℕ → Bool) (p p' : P) (s : (i : ℕ) → Local ts n i (i + 1) (p i) (p' i)) where
      pub bin_step : (t : Tree) (j : ℕ) → Local ts n j (j + 1) (Parse.bin_step ts g p t j) (Parse.bin_step ts' g' p' t j)
      unfolding Parse.bin_step
      bin_step t j =
          look j (j + 1) kind_of (λ x. then (p (j + 1)) (λ u k. ok (bin x t u) k)) (λ x. then (p' (j + 1)) (λ u k. ok (bin x t u) k))
          (λ x e. ease ts n (omega arith) (omega arith)
          (then_local ts n (p (j + 1)) (p' (j + 1)) _ _ (s (j + 1)) (λ u k l. ok_local ts n k (j + 1) (bin x t u) k (omega arith) (omega arith))))

      ladder : (i : ℕ) (o o' : Out) → Local ts n i (i + 1) o o'
          → Local ts n i (i + 1) (then o (λ t j. Parse.loop ts (λ r. is_op (kind_at ts r)) (Parse.bin_step ts g p) t j))
          (then o' (λ t j. Parse.loop ts' (λ r. is_op (kind_at ts' r)) (Parse.bin_step ts' g' p') t j))
      ladder i o o' h =
          then_local ts n o o' _ _ h (λ t j l. ease ts n (omega arith) l (loop_local is_op (Parse.bin_step ts g p) (Parse.bin_step ts' g' p') (λ u k b. bin_step u k) t j))

    pub mul_local : (i : ℕ) → Local ts n i (i + 1) (Parse.mul ts g i) (Parse.mul ts' g' i)
    unfolding Parse.mul
    mul_local i = ladder is_mul (Parse.unary ts g) (Parse.unary ts' g') unary_local i (Parse.unary ts g i) (Parse.unary ts' g' i) (unary_local i)

    pub shift_local : (i : ℕ) → Local ts n i (i + 1) (Parse.shift ts g i) (Parse.shift ts' g' i)
    unfolding Parse.shift
    shift_local i = ladder is_shift (Parse.mul ts g) (Parse.mul ts' g') mul_local i (Parse.mul ts g i) (Parse.mul ts' g' i) (mul_local i)

    add_local : (i : ℕ) → Local ts n i (i + 1) (Parse.add ts g i) (Parse.add ts' g' i)
    unfolding Parse.add
    add_local i = ladder is_add (Parse.mul ts g) (Parse.mul ts' g') mul_local i (Parse.shift ts g i) (Parse.shift ts' g' i) (shift_local i)

  pub inner_local : (d : ℕ) (s : Sort) (o q : ℕ) → q ≤ lost ts TooDeep o → q ≤ o + 1 → Local ts n q (o + 1) (Parse.inner ts d s o) (Parse.inner ts' d s o)
  unfolding Parse.inner
  inner_local zero s o q h l = no_local ts n q (o + 1) TooDeep o h
  inner_local (suc d) operand o q h l = ease ts n l (omega arith) (unary_local (Parse.inner ts d) (Parse.inner ts' d) (inner_local d) (o + 1))
  inner_local (suc d) whole o q h l = ease ts n l (omega arith) (add_local (Parse.inner ts d) (Parse.inner ts' d) (inner_local d) (o + 1))

  pub expr_local : (d i : ℕ) → Local ts n i (i + 1) (Parse.expr ts d i) (Parse.expr ts' d i)
  unfolding Parse.expr
  expr_local d i = add_local (Parse.inner ts d) (Parse.inner ts' d) (inner_local d) i

  -- ---- lists, up to a row of kind `stop`

  pub list_local : (stop also : ℕ) (p p' : P) → ((i : ℕ) → Local ts n i (i + 1) (p i) (p' i)) → (j : ℕ)
      → Local ts n j j (Parse.list_to ts stop also p j) (Parse.list_to ts' stop also p' j)
  unfolding Parse.list_to Parse.list_step Parse.else_behind
  list_local stop also p p' s j =
      loop_local (λ x. not (eqb x stop)) (Parse.list_step ts also p) (Parse.list_step ts' also p')
      (λ l k b. then_local ts n (or (also + Parse.else_behind ts l) k (p k)) (or (also + Parse.else_behind ts' l) k (p' k)) _ _
      (or_local ts n (also + Parse.else_behind ts l) k (p k) (p' k) (s k)) (λ t r m. ok_local ts n r (k + 1) _ r (omega arith) m)) none j

  braced_local : (also : ℕ) (p p' : P) (f f' : List ℕ → Tree → P) → ((i : ℕ) → Local ts n i (i + 1) (p i) (p' i)) → (i : ℕ)
      → ((w : List ℕ) (l : Tree) (k : ℕ) → i + 1 ≤ k → Local ts n k (i + 1) (f w l (k + 1)) (f' w l (k + 1)))
      → Local ts n i (i + 1) (Parse.braced ts also p f i) (Parse.braced ts' also p' f' i)
  unfolding Parse.braced
  braced_local also p p' f f' s i h =
      ease ts n (omega arith) (omega arith) (named_local _ _ (i + 1) (i + 1) (λ w. want_local LBrace _ _ (i + 1 + 1) (i + 1)
      (then_local ts n (Parse.list_to ts RBrace also p (i + 1 + 1 + 1)) (Parse.list_to ts' RBrace also p' (i + 1 + 1 + 1)) _ _
      (list_local RBrace also p p' s (i + 1 + 1 + 1))
      (λ l k m. h w l k (omega arith)))))

  -- ---- statements, over what is read behind a brace

  module _ (d : ℕ) (p p' : P) (under : (o : ℕ) → Local ts n (o + 1) (o + 1) (p o) (p' o)) where
    -- a body at its brace
    pub body_at : (i : ℕ) → Local ts n i (i + 1) (Parse.need ts LBrace p i) (Parse.need ts' LBrace p' i)
    body_at i = need_local LBrace p p' i (i + 1) (ease ts n (omega arith) (omega arith) (under i))

    else_by : (c : Bool) (w : List ℕ) (b : Tree) (k q : ℕ) → q ≤ k → Local ts n k q (Parse.else_by ts d p c w b k) (Parse.else_by ts' d p' c w b k)
    unfolding Parse.else_by
    else_by true w b k q h =
        ease ts n (omega arith) (omega arith)
        (then_local ts n (Parse.need ts LBrace p (k + 1)) (Parse.need ts' LBrace p' (k + 1)) _ _ (body_at (k + 1))
        (λ t r l. ok_local ts n r q _ r (omega arith) (omega arith)))
    else_by false w b k q h = ok_local ts n k q _ k (omega arith) h

    bodies_local : (w : List ℕ) (j q : ℕ) → q ≤ j → Local ts n j q (Parse.bodies ts d p w j) (Parse.bodies ts' d p' w j)
    unfolding Parse.bodies
    bodies_local w j q h =
        then_local ts n (Parse.need ts LBrace p j) (Parse.need ts' LBrace p' j) _ _ (body_at j)
        (λ b k l. look k q (λ x. eqb (kind_of x) KeywordElse) (λ c. Parse.else_by ts d p c w (then_body b) k) (λ c. Parse.else_by ts' d p' c w (then_body b) k)
        (λ c e. else_by c w (then_body b) k q (omega arith)))

  -- an `if` at row i, over what is read behind its parentheses
  branch_by : {L : Syntax → ℕ → Type 0} (d : ℕ) (p p' : P) (i : ℕ)
      → ((w : List ℕ) → LocalBut ts n L (i + 1 + 1 + 1 + 1 + 1) (i + 1) (Parse.bodies ts d p w (i + 1 + 1 + 1 + 1 + 1)) (Parse.bodies ts' d p' w (i + 1 + 1 + 1 + 1 + 1)))
      → LocalBut ts n L i (i + 1) (Parse.stmt_by ts d p branching i) (Parse.stmt_by ts' d p' branching i)
  unfolding Parse.stmt_by
  branch_by d p p' i h =
      ease ts n (omega arith) (omega arith) (want_local KeywordGuard _ _ (i + 1) (i + 1) (want_local LParen _ _ (i + 1 + 1) (i + 1)
      (named_local _ _ (i + 1 + 1 + 1) (i + 1) (λ w. want_local RParen _ _ (i + 1 + 1 + 1 + 1) (i + 1) (h w)))))

  -- an `if` where none is left
  module _ (i : ℕ) where
    abbrev Brace : Syntax → ℕ → Type 0
    Brace why r = (why ≡ TooDeep) × (r ≡ i + 1 + 1 + 1 + 1 + 1) × (kind_at ts (i + 1 + 1 + 1 + 1 + 1) ≡ LBrace)

    bodies_none : (w : List ℕ) → LocalBut ts n Brace (i + 1 + 1 + 1 + 1 + 1) (i + 1) (Parse.bodies ts zero (Parse.body ts zero) w (i + 1 + 1 + 1 + 1 + 1))
        (Parse.bodies ts' zero (Parse.body ts' zero) w (i + 1 + 1 + 1 + 1 + 1))
    bodies_none w =
        along ts n (no_body ts w (i + 1 + 1 + 1 + 1 + 1)) (no_body ts' w (i + 1 + 1 + 1 + 1 + 1))
        (pick_local (only LBrace) (only LBrace) LBrace (i + 1 + 1 + 1 + 1 + 1) (i + 1) _ _ (λ _. refl) (λ e. late (refl, refl, e)))

    branch_none : Local ts n i (i + 1) (Parse.stmt_by ts zero (Parse.body ts zero) branching i) (Parse.stmt_by ts' zero (Parse.body ts' zero) branching i)
    unfolding is_misfit
    branch_none =
        settle ts n (Parse.stmt_by ts zero (Parse.body ts zero) branching i) (Parse.stmt_by ts' zero (Parse.body ts' zero) branching i)
        (λ why r x. lost_as ts n i (Parse.stmt_by ts' zero (Parse.body ts' zero) branching i) why TooDeep r (i + 1 + 1 + 1 + 1 + 1) x.0 x.1
        (brace_row ts i x.2, refl, branch_dead ts' i))
        (branch_by zero (Parse.body ts zero) (Parse.body ts' zero) i bodies_none)

  -- statements, over their ifs
  module _ (d : ℕ) (p p' : P)
      (branch : (i : ℕ) → Local ts n i (i + 1) (Parse.stmt_by ts d p branching i) (Parse.stmt_by ts' d p' branching i)) where
    assign_by : (c : Bool) (t : Tree) (j q : ℕ) → q ≤ j → Local ts n j q (Parse.assign_by ts d p c t j) (Parse.assign_by ts' d p' c t j)
    unfolding Parse.assign_by
    assign_by true t j q h =
        look j q kind_of (λ x. then (Parse.expr ts d (j + 1)) (λ u k. Parse.end ts Semicolon u (ok (assign x t u)) k))
        (λ x. then (Parse.expr ts' d (j + 1)) (λ u k. Parse.end ts' Semicolon u (ok (assign x t u)) k))
        (λ x e. ease ts n (omega arith) (omega arith) (then_local ts n (Parse.expr ts d (j + 1)) (Parse.expr ts' d (j + 1)) _ _ (expr_local d (j + 1))
        (λ u k l. end_ok Semicolon u (assign x t u) k q (omega arith))))
    assign_by false t j q h = end_in_ok (only Semicolon + assigns) Semicolon t (plain t) j q (omega arith)

    stmt_by : (l : StmtLead) (i : ℕ) → Local ts n i (i + 1) (Parse.stmt_by ts d p l i) (Parse.stmt_by ts' d p' l i)
    unfolding Parse.stmt_by
    stmt_by declaring i =
        look i (i + 1) kind_of
        (λ x. Parse.named ts (λ w. Parse.want ts Equals
        (λ j. then (Parse.expr ts d j) (λ e k. Parse.end ts Semicolon e (ok (decl x w e)) k))) (i + 1))
        (λ x. Parse.named ts' (λ w. Parse.want ts' Equals
        (λ j. then (Parse.expr ts' d j) (λ e k. Parse.end ts' Semicolon e (ok (decl x w e)) k))) (i + 1))
        (λ x e. ease ts n (omega arith) (omega arith) (named_local _ _ (i + 1) (i + 1) (λ w. want_local Equals _ _ (i + 1 + 1) (i + 1)
        (then_local ts n (Parse.expr ts d (i + 1 + 1 + 1)) (Parse.expr ts' d (i + 1 + 1 + 1)) _ _ (expr_local d (i + 1 + 1 + 1))
        (λ t k l. end_ok Semicolon t (decl x w t) k (i + 1) (omega arith))))))
    stmt_by returning i =
        ease ts n (omega arith) (omega arith)
        (then_local ts n (Parse.expr ts d (i + 1)) (Parse.expr ts' d (i + 1)) _ _ (expr_local d (i + 1))
        (λ t k l. end_ok Semicolon t (ret t) k (i + 1) (omega arith)))
    stmt_by branching i = branch i
    stmt_by expression i =
        then_local ts n (Parse.expr ts d i) (Parse.expr ts' d i) _ _ (expr_local d i)
        (λ t j l. look j (i + 1) (λ x. is_assign (kind_of x)) (λ c. Parse.assign_by ts d p c t j) (λ c. Parse.assign_by ts' d p' c t j)
        (λ c e. assign_by c t j (i + 1) l))

    pub stmt_over : (i : ℕ) → Local ts n i (i + 1) (Parse.stmt ts d p i) (Parse.stmt ts' d p' i)
    unfolding Parse.stmt
    stmt_over i = look i (i + 1) (λ x. stmt_lead (kind_of x)) (λ l. Parse.stmt_by ts d p l i) (λ l. Parse.stmt_by ts' d p' l i) (λ l e. stmt_by l i)

  -- the statements of a body whose brace is at row o
  pub body_over : (d : ℕ)
      → ((i : ℕ) → Local ts n i (i + 1) (Parse.stmt_by ts d (Parse.body ts d) branching i) (Parse.stmt_by ts' d (Parse.body ts' d) branching i))
      → (o : ℕ) → Local ts n (o + 1) (o + 1) (Parse.body ts (suc d) o) (Parse.body ts' (suc d) o)
  unfolding Parse.body
  body_over d branch o =
      then_local ts n (Parse.list_to ts RBrace body_things (Parse.stmt ts d (Parse.body ts d)) (o + 1))
      (Parse.list_to ts' RBrace body_things (Parse.stmt ts' d (Parse.body ts' d)) (o + 1)) _ _
      (list_local RBrace body_things (Parse.stmt ts d (Parse.body ts d)) (Parse.stmt ts' d (Parse.body ts' d))
      (stmt_over d (Parse.body ts d) (Parse.body ts' d) branch) (o + 1))
      (λ l j m. ok_local ts n j (o + 1) l (j + 1) (omega arith) (omega arith))

  pub branch_local : (d i : ℕ) → Local ts n i (i + 1) (Parse.stmt_by ts d (Parse.body ts d) branching i) (Parse.stmt_by ts' d (Parse.body ts' d) branching i)
  branch_local zero i = branch_none i
  branch_local (suc d) i =
      branch_by (suc d) (Parse.body ts (suc d)) (Parse.body ts' (suc d)) i
      (λ w. bodies_local (suc d) (Parse.body ts (suc d)) (Parse.body ts' (suc d)) (body_over d (branch_local d)) w (i + 1 + 1 + 1 + 1 + 1) (i + 1) (omega arith))

  -- ---- units

  item_by : (c : Bool) (i : ℕ) → Local ts n i (i + 1) (Parse.item_by ts c i) (Parse.item_by ts' c i)
  unfolding Parse.item_by
  item_by true i =
      look i (i + 1) kind_of (λ x. Parse.quoted ts (λ w. Parse.want ts Semicolon (ok (text x w))) (i + 1))
      (λ x. Parse.quoted ts' (λ w. Parse.want ts' Semicolon (ok (text x w))) (i + 1))
      (λ x e. ease ts n (omega arith) (omega arith) (quoted_local _ _ (i + 1) (i + 1) (λ w. want_ok Semicolon (text x w) (i + 1 + 1) (i + 1) (omega arith))))
  item_by false i = stmt_over 64 (Parse.body ts 64) (Parse.body ts' 64) (branch_local 64) i

  pub item_local : (i : ℕ) → Local ts n i (i + 1) (Parse.item ts i) (Parse.item ts' i)
  unfolding Parse.item
  item_local i = look i (i + 1) (λ x. is_text (kind_of x)) (λ c. Parse.item_by ts c i) (λ c. Parse.item_by ts' c i) (λ c e. item_by c i)

  unit_local : (i : ℕ) → Local ts n i (i + 1) (Parse.unit_at ts i) (Parse.unit_at ts' i)
  unfolding Parse.unit_at
  unit_local i =
      braced_local unit_things (Parse.item ts) (Parse.item ts') _ _ item_local i
      (λ w l k h. ok_local ts n k (i + 1) _ (k + 1) (omega arith) (omega arith))

  -- ---- maps

  -- behind the name at row j
  type_by : (b : Bool) (w : List ℕ) (j q : ℕ) → q ≤ j → Local ts n j q (Parse.type_by ts b w (j + 1)) (Parse.type_by ts' b w (j + 1))
  unfolding Parse.type_by lost
  type_by true w j q h = no_local ts n j q MapTypeUnknown (j + 1) (omega arith)
  type_by false w j q h = ease ts n (omega arith) (omega arith) (want_ok Semicolon _ (j + 1) q (omega arith))

  key_by : (b : Bool) (k j q : ℕ) → lost ts NotType (cond (eqb (kind_at ts j) Eof) j (j + 1)) ≡ j → q ≤ j + 1 + 1
      → Local ts n j q (Parse.key_by ts b k j) (Parse.key_by ts' b k j)
  unfolding Parse.key_by
  key_by true k j q s h =
      look j q kind_of (λ x. Parse.want ts Semicolon (ok (typed k x)) (j + 1)) (λ x. Parse.want ts' Semicolon (ok (typed k x)) (j + 1))
      (λ x e. ease ts n (omega arith) (omega arith) (want_ok Semicolon (typed k x) (j + 1) q h))
  key_by false k j q s h =
      look j q kind_of (λ x. no NotType (cond (eqb x Eof) j (j + 1))) (λ x. no NotType (cond (eqb x Eof) j (j + 1)))
      (λ x e. no_local ts n j q NotType (cond (eqb x Eof) j (j + 1)) (omega (arith, subst (λ (y : ℕ). lost ts NotType (cond (eqb y Eof) j (j + 1)) ≡ j) e s)))

  count_by : (b : Bool) (c : Tree) (k v q : ℕ) → q ≤ k + 1 + 1 → Local ts n (k + 1) q (Parse.count_by ts b c k v (k + 1 + 1)) (Parse.count_by ts' b c k v (k + 1 + 1))
  unfolding Parse.count_by lost
  count_by true c k v q h =
      look_back k (k + 1) q (omega arith) kind_of (λ x. ok (shifted x c v) (k + 1 + 1)) (λ x. ok (shifted x c v) (k + 1 + 1))
      (λ x e. ok_local ts n (k + 1) q (shifted x c v) (k + 1 + 1) (omega arith) h)
  count_by false c k v q h = no_local ts n (k + 1) q ShiftCount (k + 1) (omega arith)

  pub chain_step : (c : Tree) (k : ℕ) → Local ts n k (k + 1) (Parse.chain_step ts c k) (Parse.chain_step ts' c k)
  unfolding Parse.chain_step
  chain_step c k =
      ease ts n (omega arith) (omega arith) (valued_local _ _ (k + 1) (k + 1) (λ v. count_by (leb v 63) c k v (k + 1) (omega arith)))

  chain_local : (j : ℕ) → Local ts n j (j + 1) (Parse.chain ts j) (Parse.chain ts' j)
  unfolding Parse.chain
  chain_local j =
      valued_local _ _ j (j + 1) (λ v. ease ts n (omega arith) (omega arith)
      (loop_local is_shift (Parse.chain_step ts) (Parse.chain_step ts') (λ c k b. chain_step c k) (first v) (j + 1)))

  -- the end of a chain at row k: its last number stands in front, behind a colon or a shift
  limit_by : (a b : Bool) (c : Tree) (k q : ℕ) → lost ts OutOfRange (k - 1) ≡ k → q ≤ k → Local ts n k q (Parse.limit_by ts a b c k) (Parse.limit_by ts' a b c k)
  unfolding Parse.limit_by lost
  limit_by true b c k q l h = no_local ts n k q MaxNegative k (omega arith)
  limit_by false true c k q l h = no_local ts n k q OutOfRange (k - 1) (omega arith)
  limit_by false false c k q l h = want_in_ok (only Semicolon + shifts) Semicolon (limit c) k q (omega arith)

  field_by : (l : FieldLead) (i : ℕ) → FieldIs (kind_at ts i) l → Local ts n i (i + 1) (Parse.map_field_by ts l i) (Parse.map_field_by ts' l i)
  unfolding Parse.map_field_by lost
  field_by typing i f =
      ease ts n (omega arith) (omega arith) (want_local Colon _ _ (i + 1) (i + 1) (want_local Dot _ _ (i + 1 + 1) (i + 1)
      (named_at _ _ (i + 1 + 1 + 1) (i + 1) (λ w e. type_by (eqb (map_type_number w) 0) w (i + 1 + 1 + 1) (i + 1) (omega arith)))))
  field_by keying i f =
      look i (i + 1) kind_of (λ k. Parse.want ts Colon (λ j. Parse.key_by ts (is_type (kind_at ts j)) k j) (i + 1))
      (λ k. Parse.want ts' Colon (λ j. Parse.key_by ts' (is_type (kind_at ts' j)) k j) (i + 1))
      (λ k e. ease ts n (omega arith) (omega arith) (want_known Colon _ _ (i + 1) (i + 1)
      (λ c. look (i + 1 + 1) (i + 1) (λ x. is_type (kind_of x)) (λ b. Parse.key_by ts b k (i + 1 + 1)) (λ b. Parse.key_by ts' b k (i + 1 + 1))
      (λ b t. key_by b k (i + 1 + 1) (i + 1) (type_lost ts i f c (eqb (kind_at ts (i + 1 + 1)) Eof)) (omega arith)))))
  field_by limiting i f =
      ease ts n (omega arith) (omega arith) (want_known Colon _ _ (i + 1) (i + 1)
      (λ e. then_known ts n (ChainEnd ts) (Parse.chain ts (i + 1 + 1)) (Parse.chain ts' (i + 1 + 1)) _ _ (chain_end ts (i + 1) e) (chain_local (i + 1 + 1))
      (λ c k x l. limit_by (leb (2 ^ 63) (max_bits c)) (not (leb (max_bits c) most32)) c k (i + 1) x (omega arith))))
  field_by nothing i f = no_local ts n i (i + 1) NotMapField i (omega arith)

  pub map_field_local : (i : ℕ) → Local ts n i (i + 1) (Parse.map_field ts i) (Parse.map_field ts' i)
  unfolding Parse.map_field
  map_field_local i =
      look i (i + 1) (λ x. field_lead (kind_of x)) (λ l. Parse.map_field_by ts l i) (λ l. Parse.map_field_by ts' l i)
      (λ l e. field_by l i (subst (FieldIs (kind_at ts i)) e (field_is (kind_at ts i))))

  -- behind the brace at row k
  map_end : (f : ℕ) (w : List ℕ) (l : Tree) (k q : ℕ) → q ≤ k → Local ts n k q (Parse.map_end ts f w l (k + 1)) (Parse.map_end ts' f w l (k + 1))
  unfolding Parse.map_end lost
  map_end zero w l k q h = ok_local ts n k q _ (k + 1) (omega arith) (omega arith)
  map_end (suc f) w l k q h = no_local ts n k q (MapLacks (suc f)) (k + 1) (omega arith)

  map_local : (i : ℕ) → Local ts n i (i + 1) (Parse.map_at ts i) (Parse.map_at ts' i)
  unfolding Parse.map_at
  map_local i =
      braced_local map_fields (Parse.map_field ts) (Parse.map_field ts') _ _ map_field_local i
      (λ w l k h. map_end (lacking (type_of l) (typed_by KeywordKey l) (typed_by KeywordValue l) (limit_of l)) w l k (i + 1) h)

  -- ---- events

  length_by : (b : Bool) (f : ℕ → Tree) (v k q : ℕ) → q ≤ k → Local ts n k q (Parse.length_by ts b f v k (k + 1)) (Parse.length_by ts' b f v k (k + 1))
  unfolding Parse.length_by lost
  length_by true f v k q h =
      ease ts n (omega arith) (omega arith) (want_local RBracket _ _ (k + 1) q (want_ok Semicolon (f v) (k + 1 + 1) q (omega arith)))
  length_by false f v k q h = no_local ts n k q OutOfRange k (go (eqb (kind_at ts (k - 1)) LBracket))
    where
      go : (c : Bool) → k ≤ cond c k (k + 1)
      go true = omega arith
      go false = omega arith

  length_local : (f : ℕ → Tree) (k q : ℕ) → q ≤ k → Local ts n k q (Parse.length_at ts f k) (Parse.length_at ts' f k)
  unfolding Parse.length_at
  length_local f k q h = valued_local _ _ k q (λ v. length_by (leb v most32) f v k q h)

  array_by : (c : Bool) (w : List ℕ) (j q : ℕ) → q ≤ j → Local ts n (j + 1) q (Parse.array_by ts c w j) (Parse.array_by ts' c w j)
  unfolding Parse.array_by
  array_by true w j q h =
      look_back j (j + 1) q (omega arith) kind_of (λ x. Parse.length_at ts (λ v. array_field w x v) (j + 1 + 1))
      (λ x. Parse.length_at ts' (λ v. array_field w x v) (j + 1 + 1))
      (λ x e. ease ts n (omega arith) (omega arith) (length_local _ (j + 1 + 1) q (omega arith)))
  array_by false w j q h =
      look_back j (j + 1) q (omega arith) kind_of
      (λ x. Parse.want_in ts (only Semicolon + only LBracket) Semicolon (ok (plain_field w x)) (j + 1))
      (λ x. Parse.want_in ts' (only Semicolon + only LBracket) Semicolon (ok (plain_field w x)) (j + 1))
      (λ x e. want_in_ok (only Semicolon + only LBracket) Semicolon (plain_field w x) (j + 1) q (omega arith))

  event_by : (l : EventLead) (w : List ℕ) (j q : ℕ) → q ≤ j → Local ts n j q (Parse.event_type_by ts l w j) (Parse.event_type_by ts' l w j)
  unfolding Parse.event_type_by lost
  event_by type_lead w j q h =
      ease ts n (omega arith) (omega arith)
      (look (j + 1) q (λ x. eqb (kind_of x) LBracket) (λ c. Parse.array_by ts c w j) (λ c. Parse.array_by ts' c w j) (λ c e. array_by c w j q h))
  event_by bytes_lead w j q h =
      ease ts n (omega arith) (omega arith) (want_local LBracket _ _ (j + 1) q (length_local _ (j + 1 + 1) q (omega arith)))
  event_by no_lead w j q h = no_local ts n j q NotEventType j (omega arith)

  pub event_field_local : (i : ℕ) → Local ts n i (i + 1) (Parse.event_field ts i) (Parse.event_field ts' i)
  unfolding Parse.event_field
  event_field_local i =
      named_local _ _ i (i + 1) (λ w. want_local Colon _ _ (i + 1) (i + 1)
      (look (i + 1 + 1) (i + 1) (λ x. event_lead (kind_of x)) (λ l. Parse.event_type_by ts l w (i + 1 + 1)) (λ l. Parse.event_type_by ts' l w (i + 1 + 1))
      (λ l e. event_by l w (i + 1 + 1) (i + 1) (omega arith))))

  event_local : (i : ℕ) → Local ts n i (i + 1) (Parse.event_at ts i) (Parse.event_at ts' i)
  unfolding Parse.event_at
  event_local i =
      braced_local event_fields (Parse.event_field ts) (Parse.event_field ts') _ _ event_field_local i
      (λ w l k h. ok_local ts n k (i + 1) _ (k + 1) (omega arith) (omega arith))

  -- ---- programs

  top_by : (l : TopLead) (i : ℕ) → Local ts n i (i + 1) (Parse.top_by ts l i) (Parse.top_by ts' l i)
  unfolding Parse.top_by lost
  top_by map_lead i = map_local i
  top_by unit_lead i = unit_local i
  top_by event_top i = event_local i
  top_by no_top i = no_local ts n i (i + 1) NotTopLevel i (omega arith)

  pub top_local : (i : ℕ) → Local ts n i (i + 1) (Parse.top ts i) (Parse.top ts' i)
  unfolding Parse.top
  top_local i = look i (i + 1) (λ x. top_lead (kind_of x)) (λ l. Parse.top_by ts l i) (λ l. Parse.top_by ts' l i) (λ l e. top_by l i)

  parse_local : Local ts n 0 0 (Parse.parse ts) (Parse.parse ts')
  unfolding Parse.parse
  parse_local =
      then_local ts n (Parse.list_to ts Eof tops (Parse.top ts) 0) (Parse.list_to ts' Eof tops (Parse.top ts') 0) _ _
      (list_local Eof tops (Parse.top ts) (Parse.top ts') top_local 0)
      (λ l j h. ok_local ts n j 0 _ (j + 1) (omega arith) (omega arith))

-- ---- what is read of a table is read of one that has the rows up to its end alike

module _ (ts : List Tok) (n i m : ℕ) (o o' : Out) (t : Tree) (j : ℕ) (e : o ≡ ok t j) where
  pub kept : Local ts n i m o o' → j < n → o' ≡ ok t j
  kept (same l q u) h = sym q ∙ e
  kept (behind b u) h = let x : n ≤ j = subst (Behind ts n) e b in absurd (omega arith)
  kept (both l d) h = absurd (subst (Told ts n (λ why r. (is_misfit why ≡ false) × Dead why o')) e d)
  kept (late x) h = absurd (subst (Told ts n (λ why r. ⊥)) e x)

  pub later : Local ts n i m o o' → m ≤ j
  later (same l q u) = subst (Up ts n m) e u
  later (behind b u) = subst (Up ts n m) e u
  later (both l d) = absurd (subst (Told ts n (λ why r. (is_misfit why ≡ false) × Dead why o')) e d)
  later (late x) = absurd (subst (Told ts n (λ why r. ⊥)) e x)

pub upward : (ts : List Tok) (n i : ℕ) (o o' : Out) → Local ts n i (i + 1) o o' → All (λ t j. i < j) o
upward ts n i (ok t j) o' h = let l : i + 1 ≤ j = later ts n i (i + 1) (ok t j) o' t j refl h in omega arith
upward ts n i (no why r) o' h = tt

-- ---- the same first rows

-- either both tables have n rows, or they are the same
pub alike : (ts ts' : List Tok) (n : ℕ) → take n ts' ≡ take n ts → Alike ts ts' n ⊎ (ts' ≡ ts)
alike ts ts' n e = go (leb n (length ts)) (leb n (length ts')) refl refl
  where
    long : min n (length ts') ≡ min n (length ts)
    long = sym (length-take n ts') ∙ ap length e ∙ length-take n ts

    rows : (i : ℕ) → i < n → tok_at ts i ≡ tok_at ts' i
    rows i h = sym (get_or-take n ts i (sign Eof) h) ∙ ap (λ (l : List Tok). get_or l i (sign Eof)) (sym e) ∙ get_or-take n ts' i (sign Eof) h

    go : (a b : Bool) → leb n (length ts) ≡ a → leb n (length ts') ≡ b → Alike ts ts' n ⊎ (ts' ≡ ts)
    go true true a b = inl (record { fit = leb-true n (length ts) a; fit' = leb-true n (length ts') b; agree = rows })
    go true false a b = absurd (omega (arith, long, leb-true n (length ts) a, leb-false n (length ts') b))
    go false true a b = absurd (omega (arith, long, leb-false n (length ts) a, leb-true n (length ts') b))
    go false false a b =
        let h : length ts < n = leb-false n (length ts) a in
        let h' : length ts' < n = leb-false n (length ts') b in
        inr (sym (take_all n ts' (omega arith)) ∙ e ∙ take_all n ts (omega arith))

-- The theorem: a refusal rests on the rows up to the lost one. A table that has them too is refused with the same, at the same row; or, where it
-- is 31 or 32 of an `if`, it is refused in some way, of an `if` by no check.
pub settled : (ts ts' : List Tok) (why : Syntax) (r : ℕ) → Parse.parse ts ≡ no why r → take (lost ts why r + 1) ts' ≡ take (lost ts why r + 1) ts
    → (Parse.parse ts' ≡ no why r) ⊎ ((is_misfit why ≡ false) × Dead why (Parse.parse ts'))
settled ts ts' why r f e = go (alike ts ts' (lost ts why r + 1) e)
  where
    told : Local ts (lost ts why r + 1) 0 0 (no why r) (Parse.parse ts') → (Parse.parse ts' ≡ no why r) ⊎ ((is_misfit why ≡ false) × Dead why (Parse.parse ts'))
    told (same l q u) = inl (sym q)
    told (behind b u) = absurd (omega (arith, b))
    told (both l d) = inr d
    told (late p) = absurd p

    go : Alike ts ts' (lost ts why r + 1) ⊎ (ts' ≡ ts)
        → (Parse.parse ts' ≡ no why r) ⊎ ((is_misfit why ≡ false) × Dead why (Parse.parse ts'))
    go (inl h) =
        told (subst (λ (o : Out). Local ts (lost ts why r + 1) 0 0 o (Parse.parse ts')) f (parse_local ts ts' (lost ts why r + 1) h))
    go (inr q) = inl (ap Parse.parse q ∙ f)

-- So no program begins with the rows up to there: of 24, 26 to 29 and 31 none within the checks and the nesting, of 32 none within the
-- nesting, and of the others none at all.
pub none_goes_on : (ts : List Tok) (why : Syntax) (r : ℕ) → Parse.parse ts ≡ no why r → (n : ℕ) → (is_misfit why ≡ false → n ≡ 64)
    → GoesOn (is_check why) n ts (lost ts why r + 1) → ⊥
none_goes_on ts why r f n d g =
    go (Parse.parse (yield g.tree)) (settled ts (yield g.tree) why r f g.begins)
    (program_given (yield g.tree) (is_check why) (not (is_misfit why)) n g.tree [] (sym (append-nil (yield g.tree))) g.is
    (λ e. omega (arith, d (not-true (is_misfit why) e))))
  where
    go : (o : Out) → (o ≡ no why r) ⊎ ((is_misfit why ≡ false) × Dead why o) → Gives (is_check why) (not (is_misfit why)) o (ok g.tree (width g.tree)) → ⊥
    go (ok u j) (inl e) h = let z : ◌≡◌ {A = ℕ} 0 1 = cc in omega arith
    go (ok u j) (inr x) h = x.1
    go (no why' r') s (gives e) = let z : ◌≡◌ {A = ℕ} 0 1 = cc in omega arith
    go (no why' r') (inl e) (checked a c) = let q : why' ≡ why = cc in true≢false (sym c ∙ ap is_check q ∙ a)
    go (no why' r') (inr x) (checked a c) = true≢false (sym c ∙ x.1 a)
    go (no why' r') (inl e) (nested a c) = let q : why' ≡ why = cc in true≢false (sym (not-false (is_misfit why) a) ∙ ap is_misfit (sym q) ∙ c.0)
    go (no why' r') (inr x) (nested a c) = true≢false (sym (not-false (is_misfit why) a) ∙ x.0)
