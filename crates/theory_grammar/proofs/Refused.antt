-- Where a refusal stands: in a table with an Eof at row e, no refusal stands behind row e, and nothing is read past it.
use mathlib.Core.Path.{◌≡◌, refl, sym, ap, ◌∙◌}
use mathlib.Core.Bool.{Bool, true, false, not, cond, true≢false}
use mathlib.Core.List.{List}
use mathlib.Core.Logic.{◌⊎◌, inl, inr}
use Prim.Native.Nat.{ℕ, zero, suc, ◌+◌, ◌-◌, ◌^◌, ◌≤◌, ◌<◌}
use native.Mathlib.Nat.{eq-or-lt_of_le}
use native.Mathlib.Omega.{arith}
use lib.Dec.{eqb, leb}
use lib.ListN.{length}
use borrow.Author.Tests.{eqb-true}
use Rattle.rules.specs.declared.Syntax.{Syntax}
use Rattle.rules.specs.declared.Syntax.TheVariants.{CallOnOther}
use Rattle.rules.specs.Kinds.{KeywordUnit, KeywordReturn, KeywordMap, KeywordKey, KeywordValue, KeywordIf, KeywordElse, KeywordGuard, KeywordEvent, KeywordType, KeywordMax, KeywordBytes, LBrace, RBrace, LParen, RParen, Colon, Dot, Comma, Semicolon, LBracket, RBracket, Equals, Star, Identifier, StringLiteral, Number, Eof}
use Rattle.rules.specs.Fits.{only, body_things, unit_things, event_fields, tops, map_fields, first_arguments}
use Rattle.rules.specs.Tree.{Tok, spelling_of, bits_in, Tree, none, group, call, then_body, is_variable, map_type_number, max_bits, type_of, typed_by, limit_of, lacking, program}
use Rattle.rules.specs.Parse
use Rattle.rules.specs.Parse.{Out, ok, no, P, then, or, pick, many, is_add, is_shift, is_mul, is_assign, is_text, is_type, most32, Lead, number, identifier, paren, other, lead, StmtLead, declaring, returning, branching, expression, stmt_lead, FieldLead, typing, keying, limiting, nothing, field_lead, EventLead, type_lead, bytes_lead, no_lead, event_lead, TopLead, map_lead, unit_lead, event_top, no_top, top_lead, Sort, operand, whole, tok_at, kind_at}
use Rattle.theory_grammar.proofs.Runs.{All, is_mark}
use Rattle.theory_grammar.proofs.Leads.{LeadIs, lead_is, StmtIs, stmt_is, FieldIs, field_is, EventIs, event_is, TopIs, top_is, add_mark, shift_mark, mul_mark, assign_mark, declaring_mark, text_mark, typed_mark, type_mark}
use Rattle.theory_grammar.proofs.Ends.{Ends, ends_stmts, ends_items, ends_map_fields, ends_event_fields}

-- an answer's row, behind the tree or of the refusal, is not past row e
abbrev pub Within : ℕ → Out → Type 0
Within e (ok t j) = j ≤ e
Within e (no why r) = r ≤ e

module _ (e : ℕ) where
  then_within : (o : Out) (f : Tree → P) → Within e o → ((t : Tree) (j : ℕ) → j ≤ e → Within e (f t j)) → Within e (then o f)
  unfolding then
  then_within (ok t j) f h k = k t j h
  then_within (no why r) f h k = h

  -- the same, with what else is known of the tree
  then_known : (C : Tree → ℕ → Type 0) (o : Out) (f : Tree → P) → All C o → Within e o → ((t : Tree) (j : ℕ) → C t j → j ≤ e → Within e (f t j)) → Within e (then o f)
  unfolding then
  then_known C (ok t j) f a h k = k t j a h
  then_known C (no why r) f a h k = h

  or_within : (s i : ℕ) (o : Out) → Within e o → Within e (or s i o)
  unfolding or
  or_within s i (ok t j) h = h
  or_within s i (no why r) h = h

  many_within : (test : ℕ → Bool) (step : Tree → P) → ((t : Tree) (j : ℕ) → j ≤ e → test j ≡ true → Within e (step t j))
      → (f : ℕ) (b : Bool) (t : Tree) (j : ℕ) → test j ≡ b → j ≤ e → Within e (many test step f b t j)
  unfolding many
  many_within test step s zero b t j q h = h
  many_within test step s (suc f) false t j q h = h
  many_within test step s (suc f) true t j q h =
      then_within (step t j) (λ u k. many test step f (test k) u k) (s t j h q) (λ u k h'. many_within test step s f (test k) u k refl h')

module _ (ts : List Tok) (e : ℕ) (eof : kind_at ts e ≡ Eof) (short : e < length ts) where
  -- a row that is not Eof has one behind it
  onward : (i k : ℕ) → kind_at ts i ≡ k → eqb k Eof ≡ false → i ≤ e → i + 1 ≤ e
  onward i k q b h = go (eq-or-lt_of_le h)
    where
      go : (i ≡ e) ⊎ (i < e) → i + 1 ≤ e
      go (inl z) = let x : true ≡ false = ap (λ (n : ℕ). eqb n Eof) (sym eof ∙ ap (λ (n : ℕ). kind_at ts n) (sym z) ∙ q) ∙ b in absurd (true≢false x)
      go (inr l) = omega arith

  -- a row whose kind says all of it
  mark_onward : (i : ℕ) → is_mark (kind_at ts i) ≡ true → i ≤ e → i + 1 ≤ e
  mark_onward i b h = go (eq-or-lt_of_le h)
    where
      go : (i ≡ e) ⊎ (i < e) → i + 1 ≤ e
      go (inl z) = let x : true ≡ false = sym b ∙ ap (λ (n : ℕ). is_mark (kind_at ts n)) z ∙ ap is_mark eof in absurd (true≢false x)
      go (inr l) = omega arith

  loop_within : (test : ℕ → Bool) (step : Tree → P) → ((t : Tree) (j : ℕ) → j ≤ e → test j ≡ true → Within e (step t j))
      → (t : Tree) (j : ℕ) → j ≤ e → Within e (Parse.loop ts test step t j)
  unfolding Parse.loop
  loop_within test step s t j h = many_within e test step s (suc (length ts)) (test j) t j refl h

  want_in_within : (s k : ℕ) (f : P) (i : ℕ) → eqb k Eof ≡ false → i ≤ e → (i + 1 ≤ e → Within e (f (i + 1)))
      → Within e (Parse.want_in ts s k f i)
  unfolding Parse.want_in Parse.want_by
  want_in_within s k f i b h q = go (eqb (kind_at ts i) k) refl
    where
      go : (c : Bool) → eqb (kind_at ts i) k ≡ c → Within e (Parse.want_by ts c s f i)
      go true c = q (onward i k (eqb-true (kind_at ts i) k c) b h)
      go false c = h

  want_within : (k : ℕ) (f : P) (i : ℕ) → eqb k Eof ≡ false → i ≤ e → (i + 1 ≤ e → Within e (f (i + 1))) → Within e (Parse.want ts k f i)
  unfolding Parse.want
  want_within k f i b h s = want_in_within (only k) k f i b h s

  end_in_within : (s k : ℕ) (t : Tree) (f : P) (i : ℕ) → eqb k Eof ≡ false → i ≤ e → (i + 1 ≤ e → Within e (f (i + 1)))
      → Within e (Parse.end_in ts s k t f i)
  unfolding Parse.end_in
  end_in_within s k t f i b h q = want_in_within (Parse.onward ts t i + s) k f i b h q

  end_within : (k : ℕ) (t : Tree) (f : P) (i : ℕ) → eqb k Eof ≡ false → i ≤ e → (i + 1 ≤ e → Within e (f (i + 1)))
      → Within e (Parse.end ts k t f i)
  unfolding Parse.end
  end_within k t f i b h q = end_in_within (only k) k t f i b h q

  need_within : (k : ℕ) (f : P) (i : ℕ) → eqb k Eof ≡ false → i ≤ e → (i + 1 ≤ e → Within e (f i)) → Within e (Parse.need ts k f i)
  unfolding Parse.need Parse.need_by
  need_within k f i b h s = go (eqb (kind_at ts i) k) refl
    where
      go : (c : Bool) → eqb (kind_at ts i) k ≡ c → Within e (Parse.need_by ts c k f i)
      go true c = s (onward i k (eqb-true (kind_at ts i) k c) b h)
      go false c = h

  named_within : (f : List ℕ → P) (i : ℕ) → i ≤ e → ((w : List ℕ) → i + 1 ≤ e → Within e (f w (i + 1))) → Within e (Parse.named ts f i)
  unfolding Parse.named
  named_within f i h s = want_within Identifier (f (spelling_of (tok_at ts i))) i refl h (s (spelling_of (tok_at ts i)))

  quoted_within : (f : List ℕ → P) (i : ℕ) → i ≤ e → ((w : List ℕ) → i + 1 ≤ e → Within e (f w (i + 1))) → Within e (Parse.quoted ts f i)
  unfolding Parse.quoted
  quoted_within f i h s = want_within StringLiteral (f (spelling_of (tok_at ts i))) i refl h (s (spelling_of (tok_at ts i)))

  valued_within : (f : ℕ → P) (i : ℕ) → i ≤ e → ((v : ℕ) → i + 1 ≤ e → Within e (f v (i + 1))) → Within e (Parse.valued ts f i)
  unfolding Parse.valued
  valued_within f i h s = want_within Number (f (bits_in (tok_at ts i))) i refl h (s (bits_in (tok_at ts i)))

  -- ---- expressions

  called_within : (t : Tree) (w : List ℕ) (a : Tree) (m k : ℕ) → m ≤ e → k ≤ e → Within e (Parse.called ts t w a m k)
  unfolding Parse.called
  called_within t w a m k p q = go (is_variable t)
    where
      go : (b : Bool) → Within e (pick b (ok (call t w a) k) (no CallOnOther m))
      go true = q
      go false = p

  module _ (g : Sort → P) (under : (s : Sort) (o : ℕ) → o + 1 ≤ e → Within e (g s o)) where
    atom_by : (l : Lead) (i : ℕ) → LeadIs (kind_at ts i) l → i ≤ e → Within e (Parse.atom_by ts g l i)
    unfolding Parse.atom_by
    atom_by number i f h = onward i Number f refl h
    atom_by identifier i f h = onward i Identifier f refl h
    atom_by paren i f h =
        then_within e (g whole i) _ (under whole i (onward i LParen f refl h))
        (λ t j l. end_within RParen t (ok (group t)) j refl l (λ n. n))
    atom_by other i f h = h

    atom_within : (i : ℕ) → i ≤ e → Within e (Parse.atom ts g i)
    unfolding Parse.atom
    atom_within i h = atom_by (lead (kind_at ts i)) i (lead_is (kind_at ts i)) h

    args_within : (o : ℕ) → o + 1 ≤ e → Within e (Parse.args ts g o)
    unfolding Parse.args Parse.arg_step
    args_within o h =
        then_within e (or first_arguments (o + 1) (g whole o)) _ (or_within e first_arguments (o + 1) (g whole o) (under whole o h))
        (λ t k l. loop_within (λ r. eqb (kind_at ts r) Comma) (Parse.arg_step ts g)
        (λ a j m b. then_within e (g whole j) _ (under whole j (onward j Comma (eqb-true (kind_at ts j) Comma b) refl m)) (λ u r n. n)) _ k l)

    call_by : (b : Bool) (t : Tree) (w : List ℕ) (m k : ℕ) → m ≤ e → k + 1 ≤ e → eqb (kind_at ts (k + 1)) RParen ≡ b → Within e (Parse.call_by ts g b t w m k)
    unfolding Parse.call_by
    call_by true t w m k p h b = called_within t w none m (k + 1 + 1) p (onward (k + 1) RParen (eqb-true (kind_at ts (k + 1)) RParen b) refl h)
    call_by false t w m k p h b =
        then_within e (Parse.args ts g k) _ (args_within k h)
        (λ a r l. end_in_within _ RParen a (Parse.called ts t w a m) r refl l (λ n. called_within t w a m (r + 1) p n))

    open_by : (b : Bool) (t : Tree) (w : List ℕ) (m k : ℕ) → m ≤ e → k ≤ e → eqb (kind_at ts k) LParen ≡ b → Within e (Parse.open_by ts g b t w m k)
    unfolding Parse.open_by
    open_by true t w m k p h b = call_by (eqb (kind_at ts (k + 1)) RParen) t w m k p (onward k LParen (eqb-true (kind_at ts k) LParen b) refl h) refl
    open_by false t w m k p h b = h

    post_within : (t : Tree) (j : ℕ) → j ≤ e → eqb (kind_at ts j) Dot ≡ true → Within e (Parse.post ts g t j)
    unfolding Parse.post
    post_within t j h b =
        let n : j + 1 ≤ e = onward j Dot (eqb-true (kind_at ts j) Dot b) refl h in
        named_within _ (j + 1) n (λ w m. open_by (eqb (kind_at ts (j + 1 + 1)) LParen) t w (j + 1) (j + 1 + 1) n m refl)

    prim_within : (i : ℕ) → i ≤ e → Within e (Parse.prim ts g i)
    unfolding Parse.prim
    prim_within i h = then_within e (Parse.atom ts g i) _ (atom_within i h) (λ t j l. loop_within (λ r. eqb (kind_at ts r) Dot) (Parse.post ts g) post_within t j l)

    unary_by : (b : Bool) (i : ℕ) → eqb (kind_at ts i) Star ≡ b → i ≤ e → Within e (Parse.unary_by ts g b i)
    unfolding Parse.unary_by
    unary_by true i b h = then_within e (g operand i) _ (under operand i (onward i Star (eqb-true (kind_at ts i) Star b) refl h)) (λ t j l. l)
    unary_by false i b h = prim_within i h

    unary_within : (i : ℕ) → i ≤ e → Within e (Parse.unary ts g i)
    unfolding Parse.unary
    unary_within i h = unary_by (eqb (kind_at ts i) Star) i refl h

    -- operands p, joined by operators `is_op`
    ladder : (is_op : ℕ → Bool) → ((k : ℕ) → is_op k ≡ true → is_mark k ≡ true) → (p : P) → ((i : ℕ) → i ≤ e → Within e (p i))
        → (t : Tree) (j : ℕ) → j ≤ e → Within e (Parse.loop ts (λ r. is_op (kind_at ts r)) (Parse.bin_step ts g p) t j)
    unfolding Parse.bin_step
    ladder is_op mark p s t j h =
        loop_within (λ r. is_op (kind_at ts r)) (Parse.bin_step ts g p)
        (λ u k l b. then_within e (p (k + 1)) _ (s (k + 1) (mark_onward k (mark (kind_at ts k) b) l)) (λ v r m. m)) t j h

    mul_within : (i : ℕ) → i ≤ e → Within e (Parse.mul ts g i)
    unfolding Parse.mul
    mul_within i h = then_within e (Parse.unary ts g i) _ (unary_within i h) (ladder is_mul mul_mark (Parse.unary ts g) unary_within)

    shift_within : (i : ℕ) → i ≤ e → Within e (Parse.shift ts g i)
    unfolding Parse.shift
    shift_within i h = then_within e (Parse.mul ts g i) _ (mul_within i h) (ladder is_shift shift_mark (Parse.mul ts g) mul_within)

    add_within : (i : ℕ) → i ≤ e → Within e (Parse.add ts g i)
    unfolding Parse.add
    add_within i h = then_within e (Parse.shift ts g i) _ (shift_within i h) (ladder is_add add_mark (Parse.mul ts g) mul_within)

  inner_within : (d : ℕ) (s : Sort) (o : ℕ) → o + 1 ≤ e → Within e (Parse.inner ts d s o)
  unfolding Parse.inner
  inner_within zero s o h = omega arith
  inner_within (suc d) operand o h = unary_within (Parse.inner ts d) (inner_within d) (o + 1) h
  inner_within (suc d) whole o h = add_within (Parse.inner ts d) (inner_within d) (o + 1) h

  pub expr_within : (d i : ℕ) → i ≤ e → Within e (Parse.expr ts d i)
  unfolding Parse.expr
  expr_within d i h = add_within (Parse.inner ts d) (inner_within d) i h

  -- ---- lists, up to a row of kind `stop`

  list_within : (stop also : ℕ) (p : P) → ((i : ℕ) → i ≤ e → Within e (p i)) → (j : ℕ) → j ≤ e → Within e (Parse.list_to ts stop also p j)
  unfolding Parse.list_to Parse.list_step
  list_within stop also p s j h =
      loop_within (λ r. not (eqb (kind_at ts r) stop)) (Parse.list_step ts also p)
      (λ l k m b. then_within e (or (also + Parse.else_behind ts l) k (p k)) _ (or_within e _ k (p k) (s k m)) (λ t r n. n)) none j h

  -- the same in braces, with the brace taken
  closed_within : (also : ℕ) (p : P) → ((i : ℕ) → i ≤ e → Within e (p i))
      → ((i : ℕ) → i ≤ length ts → All (λ l j. Ends ts i l j × (kind_at ts j ≡ RBrace)) (Parse.list_to ts RBrace also p i))
      → (f : Tree → P) → ((l : Tree) (k : ℕ) → k ≤ e → Within e (f l k)) → (j : ℕ) → j ≤ e
      → Within e (then (Parse.list_to ts RBrace also p j) (λ l k. f l (k + 1)))
  closed_within also p s ends f t j h =
      then_known e (λ l k. Ends ts j l k × (kind_at ts k ≡ RBrace)) (Parse.list_to ts RBrace also p j) _ (ends j (omega arith))
      (list_within RBrace also p s j h)
      (λ l k c m. t l (k + 1) (onward k RBrace c.1 refl m))

  braced_within : (also : ℕ) (p : P) → ((i : ℕ) → i ≤ e → Within e (p i))
      → ((i : ℕ) → i ≤ length ts → All (λ l j. Ends ts i l j × (kind_at ts j ≡ RBrace)) (Parse.list_to ts RBrace also p i))
      → (f : List ℕ → Tree → P) → ((w : List ℕ) (l : Tree) (k : ℕ) → k ≤ e → Within e (f w l k)) → (i : ℕ) → i + 1 ≤ e
      → Within e (Parse.braced ts also p f i)
  unfolding Parse.braced
  braced_within also p s ends f t i h =
      named_within _ (i + 1) h (λ w m. want_within LBrace _ (i + 1 + 1) refl m
      (λ n. closed_within also p s ends (f w) (t w) (i + 1 + 1 + 1) n))

  -- ---- statements, over what is read behind a brace

  module _ (d : ℕ) (p : P) (under : (o : ℕ) → o + 1 ≤ e → Within e (p o)) where
    else_by : (c : Bool) (w : List ℕ) (b : Tree) (k : ℕ) → k ≤ e → eqb (kind_at ts k) KeywordElse ≡ c → Within e (Parse.else_by ts d p c w b k)
    unfolding Parse.else_by
    else_by true w b k h c =
        let n : k + 1 ≤ e = onward k KeywordElse (eqb-true (kind_at ts k) KeywordElse c) refl h in
        then_within e (Parse.need ts LBrace p (k + 1)) _ (need_within LBrace p (k + 1) refl n (under (k + 1))) (λ t r l. l)
    else_by false w b k h c = h

    bodies_within : (w : List ℕ) (j : ℕ) → j ≤ e → Within e (Parse.bodies ts d p w j)
    unfolding Parse.bodies
    bodies_within w j h =
        then_within e (Parse.need ts LBrace p j) _ (need_within LBrace p j refl h (under j)) (λ b k l. else_by (eqb (kind_at ts k) KeywordElse) w (then_body b) k l refl)

    assign_by : (c : Bool) (t : Tree) (j : ℕ) → j ≤ e → is_assign (kind_at ts j) ≡ c → Within e (Parse.assign_by ts d p c t j)
    unfolding Parse.assign_by
    assign_by true t j h c =
        then_within e (Parse.expr ts d (j + 1)) _ (expr_within d (j + 1) (mark_onward j (assign_mark (kind_at ts j) c) h))
        (λ u k l. end_within Semicolon u _ k refl l (λ n. n))
    assign_by false t j h c = end_in_within _ Semicolon t _ j refl h (λ n. n)

    stmt_by : (l : StmtLead) (i : ℕ) → StmtIs (kind_at ts i) l → i ≤ e → Within e (Parse.stmt_by ts d p l i)
    unfolding Parse.stmt_by
    stmt_by declaring i b h =
        named_within _ (i + 1) (mark_onward i (declaring_mark (kind_at ts i) b) h) (λ w m. want_within Equals _ (i + 1 + 1) refl m (λ n.
        then_within e (Parse.expr ts d (i + 1 + 1 + 1)) _ (expr_within d (i + 1 + 1 + 1) n)
        (λ t k l. end_within Semicolon t _ k refl l (λ r. r))))
    stmt_by returning i b h =
        then_within e (Parse.expr ts d (i + 1)) _ (expr_within d (i + 1) (onward i KeywordReturn b refl h))
        (λ t k l. end_within Semicolon t _ k refl l (λ r. r))
    stmt_by branching i b h =
        want_within KeywordGuard _ (i + 1) refl (onward i KeywordIf b refl h) (λ m. want_within LParen _ (i + 1 + 1) refl m (λ n.
        named_within _ (i + 1 + 1 + 1) n (λ w r. want_within RParen _ (i + 1 + 1 + 1 + 1) refl r (λ q. bodies_within w (i + 1 + 1 + 1 + 1 + 1) q))))
    stmt_by expression i b h = then_within e (Parse.expr ts d i) _ (expr_within d i h) (λ t j l. assign_by (is_assign (kind_at ts j)) t j l refl)

    stmt_over : (i : ℕ) → i ≤ e → Within e (Parse.stmt ts d p i)
    unfolding Parse.stmt
    stmt_over i h = stmt_by (stmt_lead (kind_at ts i)) i (stmt_is (kind_at ts i)) h

  body_within : (d o : ℕ) → o + 1 ≤ e → Within e (Parse.body ts d o)
  unfolding Parse.body
  body_within zero o h = omega arith
  body_within (suc d) o h =
      closed_within body_things (Parse.stmt ts d (Parse.body ts d)) (stmt_over d (Parse.body ts d) (body_within d)) (ends_stmts ts d)
      (λ l k. ok l k) (λ l k m. m) (o + 1) h

  pub stmt_within : (d i : ℕ) → i ≤ e → Within e (Parse.stmt ts d (Parse.body ts d) i)
  stmt_within d i h = stmt_over d (Parse.body ts d) (body_within d) i h

  -- ---- units

  item_by : (c : Bool) (i : ℕ) → is_text (kind_at ts i) ≡ c → i ≤ e → Within e (Parse.item_by ts c i)
  unfolding Parse.item_by
  item_by true i c h = quoted_within _ (i + 1) (mark_onward i (text_mark (kind_at ts i) c) h) (λ w m. want_within Semicolon _ (i + 1 + 1) refl m (λ n. n))
  item_by false i c h = stmt_within 64 i h

  item_within : (i : ℕ) → i ≤ e → Within e (Parse.item ts i)
  unfolding Parse.item
  item_within i h = item_by (is_text (kind_at ts i)) i refl h

  pub unit_within : (i : ℕ) → i + 1 ≤ e → Within e (Parse.unit_at ts i)
  unfolding Parse.unit_at
  unit_within i h = braced_within unit_things (Parse.item ts) item_within (ends_items ts) _ (λ w l k m. m) i h

  -- ---- maps

  type_by : (b : Bool) (w : List ℕ) (j : ℕ) → j ≤ e → Within e (Parse.type_by ts b w j)
  unfolding Parse.type_by
  type_by true w j h = h
  type_by false w j h = want_within Semicolon _ j refl h (λ n. n)

  key_no : (c : Bool) (j : ℕ) → j ≤ e → eqb (kind_at ts j) Eof ≡ c → cond c j (j + 1) ≤ e
  key_no true j h c = h
  key_no false j h c = onward j (kind_at ts j) refl c h

  key_by : (b : Bool) (k j : ℕ) → j ≤ e → is_type (kind_at ts j) ≡ b → Within e (Parse.key_by ts b k j)
  unfolding Parse.key_by
  key_by true k j h b = want_within Semicolon _ (j + 1) refl (mark_onward j (type_mark (kind_at ts j) b) h) (λ n. n)
  key_by false k j h b = key_no (eqb (kind_at ts j) Eof) j h refl

  count_by : (b : Bool) (c : Tree) (k v r : ℕ) → k + 1 ≤ e → r ≤ e → Within e (Parse.count_by ts b c k v r)
  unfolding Parse.count_by
  count_by true c k v r p q = q
  count_by false c k v r p q = p

  chain_within : (j : ℕ) → j ≤ e → Within e (Parse.chain ts j)
  unfolding Parse.chain Parse.chain_step
  chain_within j h =
      valued_within _ j h (λ v m. loop_within (λ r. is_shift (kind_at ts r)) (Parse.chain_step ts)
      (λ c k l b. let n : k + 1 ≤ e = mark_onward k (shift_mark (kind_at ts k) b) l in valued_within _ (k + 1) n (λ x q. count_by (leb x 63) c k x (k + 1 + 1) n q)) _ (j + 1) m)

  limit_by : (a b : Bool) (c : Tree) (k : ℕ) → k ≤ e → Within e (Parse.limit_by ts a b c k)
  unfolding Parse.limit_by
  limit_by true b c k h = h
  limit_by false true c k h = omega arith
  limit_by false false c k h = want_in_within _ Semicolon _ k refl h (λ n. n)

  field_by : (l : FieldLead) (i : ℕ) → FieldIs (kind_at ts i) l → i ≤ e → Within e (Parse.map_field_by ts l i)
  unfolding Parse.map_field_by
  field_by typing i b h =
      want_within Colon _ (i + 1) refl (onward i KeywordType b refl h) (λ m. want_within Dot _ (i + 1 + 1) refl m (λ n.
      named_within _ (i + 1 + 1 + 1) n (λ w r. type_by (eqb (map_type_number w) 0) w (i + 1 + 1 + 1 + 1) r)))
  field_by keying i b h =
      want_within Colon _ (i + 1) refl (mark_onward i (typed_mark (kind_at ts i) b) h) (λ m. key_by (is_type (kind_at ts (i + 1 + 1))) (kind_at ts i) (i + 1 + 1) m refl)
  field_by limiting i b h =
      want_within Colon _ (i + 1) refl (onward i KeywordMax b refl h) (λ m.
      then_within e (Parse.chain ts (i + 1 + 1)) _ (chain_within (i + 1 + 1) m) (λ c k l. limit_by (leb (2 ^ 63) (max_bits c)) (not (leb (max_bits c) most32)) c k l))
  field_by nothing i b h = h

  map_field_within : (i : ℕ) → i ≤ e → Within e (Parse.map_field ts i)
  unfolding Parse.map_field
  map_field_within i h = field_by (field_lead (kind_at ts i)) i (field_is (kind_at ts i)) h

  map_end : (f : ℕ) (w : List ℕ) (l : Tree) (k : ℕ) → k ≤ e → Within e (Parse.map_end ts f w l k)
  unfolding Parse.map_end
  map_end zero w l k h = h
  map_end (suc f) w l k h = h

  pub map_within : (i : ℕ) → i + 1 ≤ e → Within e (Parse.map_at ts i)
  unfolding Parse.map_at
  map_within i h =
      braced_within map_fields (Parse.map_field ts) map_field_within (ends_map_fields ts) _
      (λ w l k m. map_end (lacking (type_of l) (typed_by KeywordKey l) (typed_by KeywordValue l) (limit_of l)) w l k m) i h

  -- ---- events

  length_by : (b : Bool) (f : ℕ → Tree) (v k r : ℕ) → k ≤ e → r ≤ e → Within e (Parse.length_by ts b f v k r)
  unfolding Parse.length_by
  length_by true f v k r p q = want_within RBracket _ r refl q (λ m. want_within Semicolon _ (r + 1) refl m (λ n. n))
  length_by false f v k r p q = p

  length_within : (f : ℕ → Tree) (k : ℕ) → k ≤ e → Within e (Parse.length_at ts f k)
  unfolding Parse.length_at
  length_within f k h = valued_within _ k h (λ v m. length_by (leb v most32) f v k (k + 1) h m)

  array_by : (c : Bool) (w : List ℕ) (j : ℕ) → j + 1 ≤ e → eqb (kind_at ts (j + 1)) LBracket ≡ c → Within e (Parse.array_by ts c w j)
  unfolding Parse.array_by
  array_by true w j h c = length_within _ (j + 1 + 1) (onward (j + 1) LBracket (eqb-true (kind_at ts (j + 1)) LBracket c) refl h)
  array_by false w j h c = want_in_within _ Semicolon _ (j + 1) refl h (λ n. n)

  event_by : (l : EventLead) (w : List ℕ) (j : ℕ) → EventIs (kind_at ts j) l → j ≤ e → Within e (Parse.event_type_by ts l w j)
  unfolding Parse.event_type_by
  event_by type_lead w j b h = array_by (eqb (kind_at ts (j + 1)) LBracket) w j (mark_onward j (type_mark (kind_at ts j) b) h) refl
  event_by bytes_lead w j b h = want_within LBracket _ (j + 1) refl (onward j KeywordBytes b refl h) (λ m. length_within _ (j + 1 + 1) m)
  event_by no_lead w j b h = h

  event_field_within : (i : ℕ) → i ≤ e → Within e (Parse.event_field ts i)
  unfolding Parse.event_field
  event_field_within i h =
      named_within _ i h (λ w m. want_within Colon _ (i + 1) refl m (λ n. event_by (event_lead (kind_at ts (i + 1 + 1))) w (i + 1 + 1) (event_is (kind_at ts (i + 1 + 1))) n))

  pub event_within : (i : ℕ) → i + 1 ≤ e → Within e (Parse.event_at ts i)
  unfolding Parse.event_at
  event_within i h = braced_within event_fields (Parse.event_field ts) event_field_within (ends_event_fields ts) _ (λ w l k m. m) i h

  -- ---- programs

  top_by : (l : TopLead) (i : ℕ) → TopIs (kind_at ts i) l → i ≤ e → Within e (Parse.top_by ts l i)
  unfolding Parse.top_by
  top_by map_lead i b h = map_within i (onward i KeywordMap b refl h)
  top_by unit_lead i b h = unit_within i (onward i KeywordUnit b refl h)
  top_by event_top i b h = event_within i (onward i KeywordEvent b refl h)
  top_by no_top i b h = h

  pub top_within : (i : ℕ) → i ≤ e → Within e (Parse.top ts i)
  unfolding Parse.top
  top_within i h = top_by (top_lead (kind_at ts i)) i (top_is (kind_at ts i)) h

  decls_within : Within e (Parse.list_to ts Eof tops (Parse.top ts) 0)
  decls_within = list_within Eof tops (Parse.top ts) top_within 0 (omega arith)

  -- The theorem: a refused parse is refused at a row of the table, up to its Eof.
  pub refused_inside : (why : Syntax) (r : ℕ) → Parse.parse ts ≡ no why r → r ≤ e
  unfolding Parse.parse then
  refused_inside why r q = go (Parse.list_to ts Eof tops (Parse.top ts) 0) decls_within q
    where
      go : (o : Out) → Within e o → then o (λ l j. ok (program l) (j + 1)) ≡ no why r → r ≤ e
      go (ok t j) h z = let x : ◌≡◌ {A = ℕ} 0 1 = cc in absurd (omega arith)
      go (no w s) h z = let x : s ≡ r = cc in omega (arith, h)
