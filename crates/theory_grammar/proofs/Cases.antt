-- The parser's definitions, case by case, as the code and the grammar go through them.
use mathlib.Core.Path.{◌≡◌, refl, ap, ◌∙◌}
use mathlib.Core.Bool.{Bool, true, false, cond, not, true≢false}
use mathlib.Core.List.{List}
use Prim.Native.Nat.{ℕ, zero, suc, ◌+◌, ◌-◌, ◌^◌}
use native.Mathlib.Numerals.{sub-one}
use lib.Dec.{eqb, leb}
use lib.ListN.{length}
use borrow.Author.Tests.{ne_eqb, eq-eqb}
use Rattle.rules.specs.declared.Syntax.{Syntax}
use Rattle.rules.specs.declared.Syntax.TheVariants.{Wanted, NotTopLevel, NotMapField, MapTypeUnknown, NotType, MaxNegative, OutOfRange, ShiftCount, MapLacks, NotEventType, CallOnOther, TooDeep}
use Rattle.rules.specs.Kinds.{KeywordUnit, KeywordReturn, KeywordMap, KeywordType, KeywordKey, KeywordValue, KeywordMax, KeywordIf, KeywordElse, KeywordGuard, KeywordEvent, LBrace, RBrace, LParen, RParen, Colon, Dot, Comma, Semicolon, LBracket, RBracket, Equals, Star, Identifier, StringLiteral, Number, KeywordBytes, Eof}
use Rattle.rules.specs.Fits.{only, operands, shifts, assigns, body_things, unit_things, event_fields, tops, map_fields, first_arguments, wrong, retold}
use Rattle.rules.specs.Tree.{Tok, spelling_of, bits_in, Tree, none, num, var, star, group, field, call, bin, one, more, decl, ret, plain, assign, guard, then_body, else_body, seq, text, unit, map_type, typed, limit, first, shifted, map_decl, plain_field, bytes_field, array_field, event, program, is_variable, map_type_number, max_bits, type_of, typed_by, limit_of, lacking}
use Rattle.rules.specs.Parse
use Rattle.rules.specs.Parse.{Out, ok, no, P, then, or, many, is_add, is_shift, is_mul, is_assign, is_declaring, is_text, is_type, is_typed, most32, declaring, returning, branching, expression, Sort, operand, whole, tok_at, kind_at}
use Rattle.theory_grammar.specs.Lost.{is_misfit, is_check, lost}
use Rattle.theory_grammar.proofs.Laws.{either_kind}

-- ---- answers and loops

pub then_ok : (o : Out) (f : Tree → P) (t : Tree) (j : ℕ) → o ≡ ok t j → then o f ≡ f t j
unfolding then
then_ok o f t j e = rw e

pub then_no : (o : Out) (f : Tree → P) (why : Syntax) (r : ℕ) → o ≡ no why r → then o f ≡ no why r
unfolding then
then_no o f why r e = rw e

-- `or` leaves a tree as it is; of a refusal it keeps the row, and all that is asked of why but its set
pub or_ok : (s i : ℕ) (o : Out) (t : Tree) (j : ℕ) → o ≡ ok t j → or s i o ≡ ok t j
unfolding or
or_ok s i o t j e = rw e

pub retold_misfit : (s : ℕ) (why : Syntax) → is_misfit (retold s why) ≡ is_misfit why
unfolding retold is_misfit
retold_misfit s (Wanted low high) = refl
retold_misfit s NotTopLevel = refl
retold_misfit s NotMapField = refl
retold_misfit s MapTypeUnknown = refl
retold_misfit s NotType = refl
retold_misfit s MaxNegative = refl
retold_misfit s OutOfRange = refl
retold_misfit s ShiftCount = refl
retold_misfit s (MapLacks m) = refl
retold_misfit s NotEventType = refl
retold_misfit s CallOnOther = refl
retold_misfit s TooDeep = refl

pub retold_check : (s : ℕ) (why : Syntax) → is_check (retold s why) ≡ is_check why
unfolding retold is_check
retold_check s (Wanted low high) = refl
retold_check s NotTopLevel = refl
retold_check s NotMapField = refl
retold_check s MapTypeUnknown = refl
retold_check s NotType = refl
retold_check s MaxNegative = refl
retold_check s OutOfRange = refl
retold_check s ShiftCount = refl
retold_check s (MapLacks m) = refl
retold_check s NotEventType = refl
retold_check s CallOnOther = refl
retold_check s TooDeep = refl

pub retold_lost : (ts : List Tok) (s : ℕ) (why : Syntax) (r : ℕ) → lost ts (retold s why) r ≡ lost ts why r
unfolding retold lost
retold_lost ts s (Wanted low high) r = refl
retold_lost ts s NotTopLevel r = refl
retold_lost ts s NotMapField r = refl
retold_lost ts s MapTypeUnknown r = refl
retold_lost ts s NotType r = refl
retold_lost ts s MaxNegative r = refl
retold_lost ts s OutOfRange r = refl
retold_lost ts s ShiftCount r = refl
retold_lost ts s (MapLacks m) r = refl
retold_lost ts s NotEventType r = refl
retold_lost ts s CallOnOther r = refl
retold_lost ts s TooDeep r = refl

-- what holds of a refusal, retold or not, holds of what `or` makes of it
pub or_no : (C : Syntax → ℕ → Type 0) (s i : ℕ) (why : Syntax) (r : ℕ) → C (retold s why) r → C why r
    → C (cond (eqb r i) (retold s why) why) r
or_no C s i why r a b = go (eqb r i)
  where
    go : (c : Bool) → C (cond c (retold s why) why) r
    go true = a
    go false = b

-- where row i itself is refused
pub or_here : (s i : ℕ) (why : Syntax) → or s i (no why i) ≡ no (retold s why) i
unfolding or
or_here s i why = rw (eq-eqb i i refl)

module _ (test : ℕ → Bool) (step : Tree → P) (f : ℕ) (t : Tree) (j : ℕ) where
  pub many_stop : test j ≡ false → many test step f (test j) t j ≡ ok t j
  unfolding many
  many_stop b = go f (test j) b
    where
      go : (f : ℕ) (b : Bool) → b ≡ false → many test step f b t j ≡ ok t j
      go zero b e = refl
      go (suc f) false e = refl
      go (suc f) true e = absurd (true≢false e)

  pub many_step : test j ≡ true → many test step (suc f) (test j) t j ≡ then (step t j) (λ u k. many test step f (test k) u k)
  unfolding many
  many_step b = rw b

module _ (ts : List Tok) where
  -- ---- a row of a kind

  module _ (s k : ℕ) (f : P) (i : ℕ) where
    pub want_in_yes : kind_at ts i ≡ k → Parse.want_in ts s k f i ≡ f (i + 1)
    unfolding Parse.want_in Parse.want_by
    want_in_yes e = rw (eq-eqb (kind_at ts i) k e)

    pub want_in_no : (kind_at ts i ≡ k → ⊥) → Parse.want_in ts s k f i ≡ no (wrong s) i
    unfolding Parse.want_in Parse.want_by
    want_in_no h = rw (ne_eqb (kind_at ts i) k h)

    -- behind an expression or arguments t
    pub end_in_yes : (t : Tree) → kind_at ts i ≡ k → Parse.end_in ts s k t f i ≡ f (i + 1)
    unfolding Parse.end_in Parse.want_in Parse.want_by
    end_in_yes t e = rw (eq-eqb (kind_at ts i) k e)

    pub end_in_no : (t : Tree) → (kind_at ts i ≡ k → ⊥) → Parse.end_in ts s k t f i ≡ no (wrong (Parse.onward ts t i + s)) i
    unfolding Parse.end_in Parse.want_in Parse.want_by
    end_in_no t h = rw (ne_eqb (kind_at ts i) k h)

  module _ (k : ℕ) (f : P) (i : ℕ) where
    pub want_yes : kind_at ts i ≡ k → Parse.want ts k f i ≡ f (i + 1)
    unfolding Parse.want
    want_yes e = want_in_yes (only k) k f i e

    pub want_no : (kind_at ts i ≡ k → ⊥) → Parse.want ts k f i ≡ no (wrong (only k)) i
    unfolding Parse.want
    want_no h = want_in_no (only k) k f i h

    pub end_yes : (t : Tree) → kind_at ts i ≡ k → Parse.end ts k t f i ≡ f (i + 1)
    unfolding Parse.end
    end_yes t e = end_in_yes (only k) k f i t e

    pub end_no : (t : Tree) → (kind_at ts i ≡ k → ⊥) → Parse.end ts k t f i ≡ no (wrong (Parse.onward ts t i + only k)) i
    unfolding Parse.end
    end_no t h = end_in_no (only k) k f i t h

    pub need_yes : kind_at ts i ≡ k → Parse.need ts k f i ≡ f i
    unfolding Parse.need Parse.need_by
    need_yes e = rw (eq-eqb (kind_at ts i) k e)

    pub need_no : (kind_at ts i ≡ k → ⊥) → Parse.need ts k f i ≡ no (wrong (only k)) i
    unfolding Parse.need Parse.need_by
    need_no h = rw (ne_eqb (kind_at ts i) k h)

  module _ (f : List ℕ → P) (i : ℕ) where
    pub named_yes : kind_at ts i ≡ Identifier → Parse.named ts f i ≡ f (spelling_of (tok_at ts i)) (i + 1)
    unfolding Parse.named
    named_yes e = want_yes Identifier (f (spelling_of (tok_at ts i))) i e

    pub named_no : (kind_at ts i ≡ Identifier → ⊥) → Parse.named ts f i ≡ no (wrong (only Identifier)) i
    unfolding Parse.named
    named_no h = want_no Identifier (f (spelling_of (tok_at ts i))) i h

    pub quoted_yes : kind_at ts i ≡ StringLiteral → Parse.quoted ts f i ≡ f (spelling_of (tok_at ts i)) (i + 1)
    unfolding Parse.quoted
    quoted_yes e = want_yes StringLiteral (f (spelling_of (tok_at ts i))) i e

  module _ (f : ℕ → P) (i : ℕ) where
    pub valued_yes : kind_at ts i ≡ Number → Parse.valued ts f i ≡ f (bits_in (tok_at ts i)) (i + 1)
    unfolding Parse.valued
    valued_yes e = want_yes Number (f (bits_in (tok_at ts i))) i e

  -- ---- loops and lists

  pub list_is : (stop also : ℕ) (p : P) (j : ℕ)
      → Parse.list_to ts stop also p j ≡ many (λ r. not (eqb (kind_at ts r) stop)) (Parse.list_step ts also p) (suc (length ts))
      (not (eqb (kind_at ts j) stop)) none j
  unfolding Parse.list_to Parse.loop
  list_is stop also p j = refl

  pub list_step : (s : ℕ) (p : P) (l : Tree) (j : ℕ)
      → Parse.list_step ts s p l j ≡ then (or (s + Parse.else_behind ts l) j (p j)) (λ t k. ok (seq l t) k)
  unfolding Parse.list_step
  list_step s p l j = refl

  pub braced_is : (also : ℕ) (p : P) (f : List ℕ → Tree → P) (i : ℕ)
      → Parse.braced ts also p f i ≡ Parse.named ts
      (λ w. Parse.want ts LBrace (λ j. then (Parse.list_to ts RBrace also p j) (λ l k. f w l (k + 1)))) (i + 1)
  unfolding Parse.braced
  braced_is also p f i = refl

  -- ---- expressions

  pub inner_none : (s : Sort) (o d : ℕ) → d ≡ 0 → Parse.inner ts d s o ≡ no TooDeep o
  unfolding Parse.inner
  inner_none s o d e = rw e

  pub inner_operand : (o d : ℕ) → (d ≡ 0 → ⊥) → Parse.inner ts d operand o ≡ Parse.unary ts (Parse.inner ts (d - 1)) (o + 1)
  unfolding Parse.inner
  inner_operand o zero h = absurd (h refl)
  inner_operand o (suc d) h = rw sub-one

  pub inner_whole : (o d : ℕ) → (d ≡ 0 → ⊥) → Parse.inner ts d whole o ≡ Parse.add ts (Parse.inner ts (d - 1)) (o + 1)
  unfolding Parse.inner
  inner_whole o zero h = absurd (h refl)
  inner_whole o (suc d) h = rw sub-one

  pub called_yes : (t : Tree) (w : List ℕ) (a : Tree) (m k : ℕ) → is_variable t ≡ true → Parse.called ts t w a m k ≡ ok (call t w a) k
  unfolding Parse.called
  called_yes t w a m k e = rw e

  pub called_no : (t : Tree) (w : List ℕ) (a : Tree) (m k : ℕ) → is_variable t ≡ false → Parse.called ts t w a m k ≡ no CallOnOther m
  unfolding Parse.called
  called_no t w a m k e = rw e

  module _ (g : Sort → P) where
    module _ (i : ℕ) where
      pub atom_num : kind_at ts i ≡ Number → Parse.atom ts g i ≡ ok (num (bits_in (tok_at ts i))) (i + 1)
      unfolding Parse.atom Parse.atom_by Parse.lead
      atom_num e = rw e

      pub atom_var : kind_at ts i ≡ Identifier → Parse.atom ts g i ≡ ok (var (spelling_of (tok_at ts i))) (i + 1)
      unfolding Parse.atom Parse.atom_by Parse.lead
      atom_var e = rw e

      pub atom_paren : kind_at ts i ≡ LParen → Parse.atom ts g i ≡ then (g whole i) (λ t j. Parse.end ts RParen t (ok (group t)) j)
      unfolding Parse.atom Parse.atom_by Parse.lead
      atom_paren e = rw e

      pub atom_else : (kind_at ts i ≡ Number → ⊥) → (kind_at ts i ≡ LParen → ⊥) → (kind_at ts i ≡ Identifier → ⊥)
          → Parse.atom ts g i ≡ no (wrong operands) i
      unfolding Parse.atom Parse.atom_by Parse.lead
      atom_else a b c = rw (ne_eqb (kind_at ts i) Number a, ne_eqb (kind_at ts i) LParen b, ne_eqb (kind_at ts i) Identifier c)

      pub unary_star : kind_at ts i ≡ Star → Parse.unary ts g i ≡ then (g operand i) (λ t j. ok (star t) j)
      unfolding Parse.unary Parse.unary_by
      unary_star e = rw e

      pub unary_else : (kind_at ts i ≡ Star → ⊥) → Parse.unary ts g i ≡ Parse.prim ts g i
      unfolding Parse.unary Parse.unary_by
      unary_else h = rw (ne_eqb (kind_at ts i) Star h)

      pub args_is : Parse.args ts g i
          ≡ then (or first_arguments (i + 1) (g whole i))
          (λ t k. many (λ r. eqb (kind_at ts r) Comma) (Parse.arg_step ts g) (suc (length ts)) (eqb (kind_at ts k) Comma) (one t) k)
      unfolding Parse.args Parse.loop
      args_is = refl

      pub prim_is : Parse.prim ts g i
          ≡ then (Parse.atom ts g i) (λ t j. many (λ r. eqb (kind_at ts r) Dot) (Parse.post ts g) (suc (length ts)) (eqb (kind_at ts j) Dot) t j)
      unfolding Parse.prim Parse.loop
      prim_is = refl

      pub mul_is : Parse.mul ts g i
          ≡ then (Parse.unary ts g i) (λ t j. many (λ r. is_mul (kind_at ts r)) (Parse.bin_step ts g (Parse.unary ts g)) (suc (length ts)) (is_mul (kind_at ts j)) t j)
      unfolding Parse.mul Parse.loop
      mul_is = refl

      pub shift_is : Parse.shift ts g i
          ≡ then (Parse.mul ts g i) (λ t j. many (λ r. is_shift (kind_at ts r)) (Parse.bin_step ts g (Parse.mul ts g)) (suc (length ts)) (is_shift (kind_at ts j)) t j)
      unfolding Parse.shift Parse.loop
      shift_is = refl

      pub add_is : Parse.add ts g i
          ≡ then (Parse.shift ts g i) (λ t j. many (λ r. is_add (kind_at ts r)) (Parse.bin_step ts g (Parse.mul ts g)) (suc (length ts)) (is_add (kind_at ts j)) t j)
      unfolding Parse.add Parse.loop
      add_is = refl

    module _ (t : Tree) (j : ℕ) where
      pub arg_step : Parse.arg_step ts g t j ≡ then (g whole j) (λ u k. ok (more t u) k)
      unfolding Parse.arg_step
      arg_step = refl

      pub bin_step : (p : P) → Parse.bin_step ts g p t j ≡ then (p (j + 1)) (λ u k. ok (bin (kind_at ts j) t u) k)
      unfolding Parse.bin_step
      bin_step p = refl

      -- a field or a call, whose dot is at row j
      pub post_nameless : (kind_at ts (j + 1) ≡ Identifier → ⊥) → Parse.post ts g t j ≡ no (wrong (only Identifier)) (j + 1)
      unfolding Parse.post
      post_nameless h = named_no _ (j + 1) h

      pub post_field : kind_at ts (j + 1) ≡ Identifier → (kind_at ts (j + 1 + 1) ≡ LParen → ⊥)
          → Parse.post ts g t j ≡ ok (field t (spelling_of (tok_at ts (j + 1)))) (j + 1 + 1)
      unfolding Parse.post Parse.open_by
      post_field e h = named_yes _ (j + 1) e ∙ rw (ne_eqb (kind_at ts (j + 1 + 1)) LParen h)

      pub post_bare : kind_at ts (j + 1) ≡ Identifier → kind_at ts (j + 1 + 1) ≡ LParen → kind_at ts (j + 1 + 1 + 1) ≡ RParen
          → Parse.post ts g t j ≡ Parse.called ts t (spelling_of (tok_at ts (j + 1))) none (j + 1) (j + 1 + 1 + 1 + 1)
      unfolding Parse.post Parse.open_by Parse.call_by
      post_bare e f h = named_yes _ (j + 1) e ∙ rw (f, h)

      pub post_args : kind_at ts (j + 1) ≡ Identifier → kind_at ts (j + 1 + 1) ≡ LParen → (kind_at ts (j + 1 + 1 + 1) ≡ RParen → ⊥)
          → Parse.post ts g t j ≡ then (Parse.args ts g (j + 1 + 1)) (λ a r.
          Parse.end_in ts (only Comma + only RParen) RParen a (Parse.called ts t (spelling_of (tok_at ts (j + 1))) a (j + 1)) r)
      unfolding Parse.post Parse.open_by Parse.call_by
      post_args e f h = named_yes _ (j + 1) e ∙ rw (f, ne_eqb (kind_at ts (j + 1 + 1 + 1)) RParen h)

  -- ---- statements

  module _ (d : ℕ) (p : P) where
    pub else_yes : (w : List ℕ) (b : Tree) (k : ℕ) → kind_at ts k ≡ KeywordElse
        → Parse.else_by ts d p (eqb (kind_at ts k) KeywordElse) w b k ≡ then (Parse.need ts LBrace p (k + 1)) (λ e r. ok (guard w b (else_body e)) r)
    unfolding Parse.else_by
    else_yes w b k e = rw e

    pub else_no : (w : List ℕ) (b : Tree) (k : ℕ) → (kind_at ts k ≡ KeywordElse → ⊥)
        → Parse.else_by ts d p (eqb (kind_at ts k) KeywordElse) w b k ≡ ok (guard w b none) k
    unfolding Parse.else_by
    else_no w b k h = rw (ne_eqb (kind_at ts k) KeywordElse h)

    pub bodies_is : (w : List ℕ) (j : ℕ)
        → Parse.bodies ts d p w j ≡ then (Parse.need ts LBrace p j) (λ b k. Parse.else_by ts d p (eqb (kind_at ts k) KeywordElse) w (then_body b) k)
    unfolding Parse.bodies
    bodies_is w j = refl

    pub assign_yes : (e : Tree) (j : ℕ) → is_assign (kind_at ts j) ≡ true
        → Parse.assign_by ts d p (is_assign (kind_at ts j)) e j ≡ then (Parse.expr ts d (j + 1))
        (λ r k. Parse.end ts Semicolon r (ok (assign (kind_at ts j) e r)) k)
    unfolding Parse.assign_by
    assign_yes e j b = rw b

    pub assign_no : (e : Tree) (j : ℕ) → is_assign (kind_at ts j) ≡ false
        → Parse.assign_by ts d p (is_assign (kind_at ts j)) e j ≡ Parse.end_in ts (only Semicolon + assigns) Semicolon e (ok (plain e)) j
    unfolding Parse.assign_by
    assign_no e j b = rw b

    module _ (i : ℕ) where
      pub stmt_declaring : is_declaring (kind_at ts i) ≡ true → Parse.stmt ts d p i
          ≡ Parse.named ts (λ w. Parse.want ts Equals
          (λ j. then (Parse.expr ts d j) (λ e k. Parse.end ts Semicolon e (ok (decl (kind_at ts i) w e)) k))) (i + 1)
      unfolding Parse.stmt Parse.stmt_by Parse.stmt_lead
      stmt_declaring b = rw b

      pub stmt_returning : kind_at ts i ≡ KeywordReturn
          → Parse.stmt ts d p i ≡ then (Parse.expr ts d (i + 1)) (λ e k. Parse.end ts Semicolon e (ok (ret e)) k)
      unfolding Parse.stmt Parse.stmt_by Parse.stmt_lead
      stmt_returning e = rw e

      pub stmt_branching : kind_at ts i ≡ KeywordIf → Parse.stmt ts d p i
          ≡ Parse.want ts KeywordGuard (Parse.want ts LParen (Parse.named ts (λ w. Parse.want ts RParen (Parse.bodies ts d p w)))) (i + 1)
      unfolding Parse.stmt Parse.stmt_by Parse.stmt_lead
      stmt_branching e = rw e

      pub stmt_expression : is_declaring (kind_at ts i) ≡ false → (kind_at ts i ≡ KeywordReturn → ⊥) → (kind_at ts i ≡ KeywordIf → ⊥)
          → Parse.stmt ts d p i ≡ then (Parse.expr ts d i) (λ e j. Parse.assign_by ts d p (is_assign (kind_at ts j)) e j)
      unfolding Parse.stmt Parse.stmt_by Parse.stmt_lead
      stmt_expression a b c = rw (a, ne_eqb (kind_at ts i) KeywordReturn b, ne_eqb (kind_at ts i) KeywordIf c)

      -- the same, by the lead alone
      pub lead_declaring : is_declaring (kind_at ts i) ≡ true → Parse.stmt ts d p i ≡ Parse.stmt_by ts d p declaring i
      unfolding Parse.stmt Parse.stmt_lead
      lead_declaring b = rw b

      pub lead_returning : kind_at ts i ≡ KeywordReturn → Parse.stmt ts d p i ≡ Parse.stmt_by ts d p returning i
      unfolding Parse.stmt Parse.stmt_lead
      lead_returning e = rw e

      pub lead_branching : kind_at ts i ≡ KeywordIf → Parse.stmt ts d p i ≡ Parse.stmt_by ts d p branching i
      unfolding Parse.stmt Parse.stmt_lead
      lead_branching e = rw e

      pub lead_expression : is_declaring (kind_at ts i) ≡ false → (kind_at ts i ≡ KeywordReturn → ⊥) → (kind_at ts i ≡ KeywordIf → ⊥)
          → Parse.stmt ts d p i ≡ Parse.stmt_by ts d p expression i
      unfolding Parse.stmt Parse.stmt_lead
      lead_expression a b c = rw (a, ne_eqb (kind_at ts i) KeywordReturn b, ne_eqb (kind_at ts i) KeywordIf c)

      pub declaring_is : Parse.stmt_by ts d p declaring i
          ≡ Parse.named ts (λ w. Parse.want ts Equals
          (λ j. then (Parse.expr ts d j) (λ e k. Parse.end ts Semicolon e (ok (decl (kind_at ts i) w e)) k))) (i + 1)
      unfolding Parse.stmt_by
      declaring_is = refl

      pub returning_is : Parse.stmt_by ts d p returning i ≡ then (Parse.expr ts d (i + 1)) (λ e k. Parse.end ts Semicolon e (ok (ret e)) k)
      unfolding Parse.stmt_by
      returning_is = refl

      pub branching_is : Parse.stmt_by ts d p branching i
          ≡ Parse.want ts KeywordGuard (Parse.want ts LParen (Parse.named ts (λ w. Parse.want ts RParen (Parse.bodies ts d p w)))) (i + 1)
      unfolding Parse.stmt_by
      branching_is = refl

      pub expression_is : Parse.stmt_by ts d p expression i ≡ then (Parse.expr ts d i) (λ e j. Parse.assign_by ts d p (is_assign (kind_at ts j)) e j)
      unfolding Parse.stmt_by
      expression_is = refl

  pub body_none : (o d : ℕ) → d ≡ 0 → Parse.body ts d o ≡ no TooDeep o
  unfolding Parse.body
  body_none o d e = rw e

  pub body_some : (o d : ℕ) → (d ≡ 0 → ⊥)
      → Parse.body ts d o ≡ then (Parse.list_to ts RBrace body_things (Parse.stmt ts (d - 1) (Parse.body ts (d - 1))) (o + 1))
      (λ l j. ok l (j + 1))
  unfolding Parse.body
  body_some o zero h = absurd (h refl)
  body_some o (suc d) h = rw sub-one

  -- ---- units

  pub item_text : (i : ℕ) → is_text (kind_at ts i) ≡ true
      → Parse.item ts i ≡ Parse.quoted ts (λ w. Parse.want ts Semicolon (ok (text (kind_at ts i) w))) (i + 1)
  unfolding Parse.item Parse.item_by
  item_text i b = rw b

  pub item_stmt : (i : ℕ) → is_text (kind_at ts i) ≡ false → Parse.item ts i ≡ Parse.stmt ts 64 (Parse.body ts 64) i
  unfolding Parse.item Parse.item_by
  item_stmt i b = rw b

  pub unit_is : (i : ℕ) → Parse.unit_at ts i ≡ Parse.braced ts unit_things (Parse.item ts) (λ w l k. ok (unit w l) k) i
  unfolding Parse.unit_at
  unit_is i = refl

  -- ---- maps

  pub type_unknown : (w : List ℕ) (j : ℕ) → map_type_number w ≡ 0 → Parse.type_by ts (eqb (map_type_number w) 0) w j ≡ no MapTypeUnknown j
  unfolding Parse.type_by
  type_unknown w j e = rw e

  pub type_known : (w : List ℕ) (j : ℕ) → (map_type_number w ≡ 0 → ⊥)
      → Parse.type_by ts (eqb (map_type_number w) 0) w j ≡ Parse.want ts Semicolon (ok (map_type w)) j
  unfolding Parse.type_by
  type_known w j h = rw (ne_eqb (map_type_number w) 0 h)

  pub key_yes : (k j : ℕ) → is_type (kind_at ts j) ≡ true
      → Parse.key_by ts (is_type (kind_at ts j)) k j ≡ Parse.want ts Semicolon (ok (typed k (kind_at ts j))) (j + 1)
  unfolding Parse.key_by
  key_yes k j b = rw b

  pub key_end : (k j : ℕ) → kind_at ts j ≡ Eof → Parse.key_by ts (is_type (kind_at ts j)) k j ≡ no NotType j
  unfolding Parse.key_by
  key_end k j e = rw (ap is_type e, e)

  pub key_no : (k j : ℕ) → is_type (kind_at ts j) ≡ false → (kind_at ts j ≡ Eof → ⊥) → Parse.key_by ts (is_type (kind_at ts j)) k j ≡ no NotType (j + 1)
  unfolding Parse.key_by
  key_no k j b h = rw (b, ne_eqb (kind_at ts j) Eof h)

  pub count_yes : (c : Tree) (k v r : ℕ) → leb v 63 ≡ true → Parse.count_by ts (leb v 63) c k v r ≡ ok (shifted (kind_at ts k) c v) r
  unfolding Parse.count_by
  count_yes c k v r b = rw b

  pub count_no : (c : Tree) (k v r : ℕ) → leb v 63 ≡ false → Parse.count_by ts (leb v 63) c k v r ≡ no ShiftCount (k + 1)
  unfolding Parse.count_by
  count_no c k v r b = rw b

  pub chain_step : (c : Tree) (k : ℕ) → Parse.chain_step ts c k ≡ Parse.valued ts (λ v. Parse.count_by ts (leb v 63) c k v) (k + 1)
  unfolding Parse.chain_step
  chain_step c k = refl

  pub chain_is : (j : ℕ) → Parse.chain ts j
      ≡ Parse.valued ts (λ v k. many (λ r. is_shift (kind_at ts r)) (Parse.chain_step ts) (suc (length ts)) (is_shift (kind_at ts k)) (first v) k) j
  unfolding Parse.chain Parse.loop
  chain_is j = refl

  module _ (c : Tree) (k : ℕ) where
    pub limit_negative : leb (2 ^ 63) (max_bits c) ≡ true
        → Parse.limit_by ts (leb (2 ^ 63) (max_bits c)) (not (leb (max_bits c) most32)) c k ≡ no MaxNegative k
    unfolding Parse.limit_by
    limit_negative b = rw b

    pub limit_large : leb (2 ^ 63) (max_bits c) ≡ false → leb (max_bits c) most32 ≡ false
        → Parse.limit_by ts (leb (2 ^ 63) (max_bits c)) (not (leb (max_bits c) most32)) c k ≡ no OutOfRange (k - 1)
    unfolding Parse.limit_by
    limit_large a b = rw (a, b)

    pub limit_fine : leb (2 ^ 63) (max_bits c) ≡ false → leb (max_bits c) most32 ≡ true
        → Parse.limit_by ts (leb (2 ^ 63) (max_bits c)) (not (leb (max_bits c) most32)) c k ≡ Parse.want_in ts
        (only Semicolon + shifts) Semicolon (ok (limit c)) k
    unfolding Parse.limit_by
    limit_fine a b = rw (a, b)

  module _ (i : ℕ) where
    pub field_typing : kind_at ts i ≡ KeywordType → Parse.map_field ts i
        ≡ Parse.want ts Colon (Parse.want ts Dot (Parse.named ts (λ w. Parse.type_by ts (eqb (map_type_number w) 0) w))) (i + 1)
    unfolding Parse.map_field Parse.map_field_by Parse.field_lead
    field_typing e = rw e

    pub field_keying : is_typed (kind_at ts i) ≡ true
        → Parse.map_field ts i ≡ Parse.want ts Colon (λ j. Parse.key_by ts (is_type (kind_at ts j)) (kind_at ts i) j) (i + 1)
    unfolding Parse.map_field Parse.map_field_by Parse.field_lead
    field_keying b = rw (either_kind (λ x. eqb x KeywordType ≡ false) (kind_at ts i) KeywordKey KeywordValue b refl refl, b)

    pub field_limiting : kind_at ts i ≡ KeywordMax → Parse.map_field ts i
        ≡ Parse.want ts Colon (λ j. then (Parse.chain ts j) (λ c k. Parse.limit_by ts (leb (2 ^ 63) (max_bits c)) (not (leb (max_bits c) most32)) c k)) (i + 1)
    unfolding Parse.map_field Parse.map_field_by Parse.field_lead
    field_limiting e = rw e

    pub field_nothing : (kind_at ts i ≡ KeywordType → ⊥) → is_typed (kind_at ts i) ≡ false → (kind_at ts i ≡ KeywordMax → ⊥)
        → Parse.map_field ts i ≡ no NotMapField i
    unfolding Parse.map_field Parse.map_field_by Parse.field_lead
    field_nothing a b c = rw (ne_eqb (kind_at ts i) KeywordType a, b, ne_eqb (kind_at ts i) KeywordMax c)

  pub map_end_whole : (w : List ℕ) (l : Tree) (k f : ℕ) → f ≡ 0 → Parse.map_end ts f w l k ≡ ok (map_decl w l) k
  unfolding Parse.map_end
  map_end_whole w l k f e = rw e

  pub map_end_lacks : (w : List ℕ) (l : Tree) (k f : ℕ) → (f ≡ 0 → ⊥) → Parse.map_end ts f w l k ≡ no (MapLacks f) k
  unfolding Parse.map_end
  map_end_lacks w l k zero h = absurd (h refl)
  map_end_lacks w l k (suc f) h = refl

  pub map_is : (i : ℕ) → Parse.map_at ts i
      ≡ Parse.braced ts map_fields (Parse.map_field ts)
      (λ w l k. Parse.map_end ts (lacking (type_of l) (typed_by KeywordKey l) (typed_by KeywordValue l) (limit_of l)) w l k) i
  unfolding Parse.map_at
  map_is i = refl

  -- ---- events

  module _ (f : ℕ → Tree) (v k r : ℕ) where
    pub length_yes : leb v most32 ≡ true → Parse.length_by ts (leb v most32) f v k r ≡ Parse.want ts RBracket (Parse.want ts Semicolon (ok (f v))) r
    unfolding Parse.length_by
    length_yes b = rw b

    pub length_no : leb v most32 ≡ false → Parse.length_by ts (leb v most32) f v k r ≡ no OutOfRange k
    unfolding Parse.length_by
    length_no b = rw b

  pub length_is : (f : ℕ → Tree) (k : ℕ) → Parse.length_at ts f k ≡ Parse.valued ts (λ v. Parse.length_by ts (leb v most32) f v k) k
  unfolding Parse.length_at
  length_is f k = refl

  module _ (w : List ℕ) (j : ℕ) where
    pub array_yes : kind_at ts (j + 1) ≡ LBracket
        → Parse.array_by ts (eqb (kind_at ts (j + 1)) LBracket) w j ≡ Parse.length_at ts (λ v. array_field w (kind_at ts j) v) (j + 1 + 1)
    unfolding Parse.array_by
    array_yes e = rw e

    pub array_no : (kind_at ts (j + 1) ≡ LBracket → ⊥)
        → Parse.array_by ts (eqb (kind_at ts (j + 1)) LBracket) w j ≡ Parse.want_in ts (only Semicolon + only LBracket) Semicolon
        (ok (plain_field w (kind_at ts j))) (j + 1)
    unfolding Parse.array_by
    array_no h = rw (ne_eqb (kind_at ts (j + 1)) LBracket h)

    pub event_type : is_type (kind_at ts j) ≡ true
        → Parse.event_type_by ts (Parse.event_lead (kind_at ts j)) w j ≡ Parse.array_by ts (eqb (kind_at ts (j + 1)) LBracket) w j
    unfolding Parse.event_type_by Parse.event_lead
    event_type b = rw b

    pub event_bytes : kind_at ts j ≡ KeywordBytes
        → Parse.event_type_by ts (Parse.event_lead (kind_at ts j)) w j ≡ Parse.want ts LBracket (Parse.length_at ts (λ v. bytes_field w v)) (j + 1)
    unfolding Parse.event_type_by Parse.event_lead
    event_bytes e = rw e

    pub event_other : is_type (kind_at ts j) ≡ false → (kind_at ts j ≡ KeywordBytes → ⊥)
        → Parse.event_type_by ts (Parse.event_lead (kind_at ts j)) w j ≡ no NotEventType j
    unfolding Parse.event_type_by Parse.event_lead
    event_other b h = rw (b, ne_eqb (kind_at ts j) KeywordBytes h)

  pub event_field_is : (i : ℕ)
      → Parse.event_field ts i ≡ Parse.named ts (λ w. Parse.want ts Colon (λ j. Parse.event_type_by ts (Parse.event_lead (kind_at ts j)) w j)) i
  unfolding Parse.event_field
  event_field_is i = refl

  pub event_is : (i : ℕ) → Parse.event_at ts i ≡ Parse.braced ts event_fields (Parse.event_field ts) (λ w l k. ok (event w l) k) i
  unfolding Parse.event_at
  event_is i = refl

  -- ---- program

  module _ (i : ℕ) where
    pub top_map : kind_at ts i ≡ KeywordMap → Parse.top ts i ≡ Parse.map_at ts i
    unfolding Parse.top Parse.top_by Parse.top_lead
    top_map e = rw e

    pub top_unit : kind_at ts i ≡ KeywordUnit → Parse.top ts i ≡ Parse.unit_at ts i
    unfolding Parse.top Parse.top_by Parse.top_lead
    top_unit e = rw e

    pub top_event : kind_at ts i ≡ KeywordEvent → Parse.top ts i ≡ Parse.event_at ts i
    unfolding Parse.top Parse.top_by Parse.top_lead
    top_event e = rw e

    pub top_other : (kind_at ts i ≡ KeywordMap → ⊥) → (kind_at ts i ≡ KeywordUnit → ⊥) → (kind_at ts i ≡ KeywordEvent → ⊥) → Parse.top ts i ≡ no NotTopLevel i
    unfolding Parse.top Parse.top_by Parse.top_lead
    top_other a b c = rw (ne_eqb (kind_at ts i) KeywordMap a, ne_eqb (kind_at ts i) KeywordUnit b, ne_eqb (kind_at ts i) KeywordEvent c)

  pub parse_is : Parse.parse ts ≡ then (Parse.list_to ts Eof tops (Parse.top ts) 0) (λ l j. ok (program l) (j + 1))
  unfolding Parse.parse
  parse_is = refl
