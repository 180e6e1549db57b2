-- The bound of `Parse.many` never runs out: each loop of the parser is the loop with no bound. So any larger bound gives the same answer.
use mathlib.Core.Path.{◌≡◌, refl, sym, ◌∙◌, subst}
use mathlib.Core.Bool.{Bool, true, false, not, true≢false}
use mathlib.Core.List.{List}
use Prim.Native.Nat.{ℕ, zero, suc, ◌+◌, ◌≤◌, ◌<◌}
use native.Mathlib.Omega.{arith}
use lib.Dec.{eqb, leb}
use lib.ListN.{length}
use borrow.Author.Tests.{eqb-true}
use Rattle.rules.specs.Kinds.{RBrace, Dot, Comma, Number, Eof}
use Rattle.rules.specs.Fits.{body_things, unit_things, event_fields, tops, map_fields}
use Rattle.rules.specs.Tree.{Tok, bits_in, Tree, none, bin, seq, one, first, yield}
use Rattle.rules.specs.Parse
use Rattle.rules.specs.Parse.{Out, ok, no, P, then, many, is_add, is_shift, is_mul, whole, tok_at, kind_at}
use Rattle.rules.specs.Grammar.{Nt, Add, Shift, Mul, Unary, Basic, Args, Stmt, Stmts, Item, Items, Chain, MapField, MapFields, EventField, EventFields, Decl, Decls, Is, i_mul, i_shift, i_add, i_unary, i_lone, i_up, i_no_stmts, i_stmts, i_no_items, i_items, i_first, i_no_fields, i_fields, i_no_event_fields, i_event_fields, i_no_decls, i_decls}
use Rattle.theory_grammar.specs.Loops.{Runs, ends, refuses, steps}
use Rattle.theory_grammar.proofs.Laws.{here, fewest}
use Rattle.theory_grammar.proofs.Leads.{add_mark, shift_mark, mul_mark}
use Rattle.theory_grammar.proofs.Runs.{is_mark, run_none, value_row, All, all_ok, all_both, then_all, map_all, valued_all}
use Rattle.theory_grammar.proofs.Sound.{Reads, Under, reads, taken_as, ones, atom_sound, arg_step, post_sound, unary_sound, mul_sound, shift_sound, bin_step, inner_sound, list_next, stmt_sound, item_sound, chain_next, map_field_sound, event_field_sound, top_sound}
use Rattle.theory_grammar.proofs.Ends.{On, ends_post}

-- ---- a loop whose steps go on through the rows

module _ {test : ℕ → Bool} {step : Tree → P} where
  runs_at : {t u : Tree} {j k : ℕ} {o : Out} → t ≡ u → j ≡ k → Runs test step t j o → Runs test step u k o
  runs_at {t} {u} {j} {k} {o} e f r = subst (λ (x : Tree). Runs test step x k o) e (subst (λ (n : ℕ). Runs test step t n o) f r)

  -- the loop comes to one answer
  pub runs_once : {t : Tree} {j : ℕ} {o o' : Out} → Runs test step t j o → Runs test step t j o' → o ≡ o'
  runs_once (ends x) (ends y) = refl
  runs_once (ends x) (refuses y f) = absurd (true≢false (sym y ∙ x))
  runs_once (ends x) (steps y f b) = absurd (true≢false (sym y ∙ x))
  runs_once (refuses x e) (ends y) = absurd (true≢false (sym x ∙ y))
  runs_once (refuses x e) (refuses y f) = sym e ∙ f
  runs_once (refuses x e) (steps y f b) = let z : ◌≡◌ {A = ℕ} 0 1 = cc in absurd (omega arith)
  runs_once (steps x e a) (ends y) = absurd (true≢false (sym x ∙ y))
  runs_once (steps x e a) (refuses y f) = let z : ◌≡◌ {A = ℕ} 0 1 = cc in absurd (omega arith)
  runs_once (steps {u = u} {k = k} x e a) (steps {u = v} {k = l} y f b) = runs_once a (runs_at (cc) (cc) b)

module _ (ts : List Tok) (C : Tree → ℕ → Type 0) (test : ℕ → Bool) (step : Tree → P) (inside : (t : Tree) (j : ℕ) → C t j → j ≤ length ts)
    (s : (t : Tree) (j : ℕ) → C t j → test j ≡ true → All (λ u k. C u k × (j < k)) (step t j)) where
  pub many_runs : (f : ℕ) (b : Bool) (t : Tree) (j : ℕ) → test j ≡ b → length ts < f + j → C t j → Runs test step t j (many test step f b t j)
  unfolding many then
  many_runs zero b t j e l h = absurd (omega (arith, inside t j h))
  many_runs (suc f) false t j e l h = ends e
  many_runs (suc f) true t j e l h = go (step t j) refl (s t j h e) (λ u k x. many_runs f (test k) u k refl (omega (arith, x.1)) x.0)
    where
      go : (o : Out) → step t j ≡ o → All (λ u k. C u k × (j < k)) o
          → ((u : Tree) (k : ℕ) → C u k × (j < k) → Runs test step u k (many test step f (test k) u k))
          → Runs test step t j (then o (λ u k. many test step f (test k) u k))
      go (ok u k) q a r = steps e q (r u k a)
      go (no why p) q a r = refuses e q

  -- any bound that reaches behind the table gives the same answer
  pub many_enough : (f f' : ℕ) (t : Tree) (j : ℕ) → length ts < f + j → length ts < f' + j → C t j
      → many test step f (test j) t j ≡ many test step f' (test j) t j
  many_enough f f' t j l l' h = runs_once (many_runs f (test j) t j refl l h) (many_runs f' (test j) t j refl l' h)

  loop_runs : (t : Tree) (j : ℕ) → C t j → Runs test step t j (Parse.loop ts test step t j)
  unfolding Parse.loop
  loop_runs t j h = many_runs (suc (length ts)) (test j) t j refl (omega arith) h

-- ---- the loops of the parser

module _ (ts : List Tok) where
  -- things p of the nonterminal M, up to a row of kind `stop`
  module _ (Ns M : Nt) (d : ℕ) (nil : Is true Ns d none) (join : (l s : Tree) → Is true Ns d l → Is true M d s → Is true Ns d (seq l s)) (wide : 1 ≤ fewest M)
      (stop also : ℕ) (p : P) (p_sound : (i : ℕ) → All (Reads ts M d i) (p i)) where
    list_runs : (i : ℕ) → i ≤ length ts
        → Runs (λ r. not (eqb (kind_at ts r) stop)) (Parse.list_step ts also p) none i (Parse.list_to ts stop also p i)
    unfolding Parse.list_to yield
    list_runs i h =
        loop_runs ts (Reads ts Ns d i) (λ r. not (eqb (kind_at ts r) stop)) (Parse.list_step ts also p) (λ l j r. r.inside)
        (λ l j r b. list_next ts Ns M d nil join wide stop also p p_sound i l j r) none i (reads nil (run_none ts i h))

  pub stmts_run : (d i : ℕ) → i ≤ length ts
      → Runs (λ r. not (eqb (kind_at ts r) RBrace)) (Parse.list_step ts body_things (Parse.stmt ts d (Parse.body ts d))) none i
      (Parse.list_to ts RBrace body_things (Parse.stmt ts d (Parse.body ts d)) i)
  stmts_run d i h =
      list_runs Stmts Stmt d i_no_stmts (λ l s a b. i_stmts a b) (omega arith) RBrace body_things (Parse.stmt ts d (Parse.body ts d))
      (stmt_sound ts d) i h

  pub items_run : (i : ℕ) → i ≤ length ts
      → Runs (λ r. not (eqb (kind_at ts r) RBrace)) (Parse.list_step ts unit_things (Parse.item ts)) none i
      (Parse.list_to ts RBrace unit_things (Parse.item ts) i)
  items_run i h =
      list_runs Items Item 64 i_no_items (λ l s a b. i_items a b) (omega arith) RBrace unit_things (Parse.item ts) (item_sound ts) i h

  pub map_fields_run : (i : ℕ) → i ≤ length ts
      → Runs (λ r. not (eqb (kind_at ts r) RBrace)) (Parse.list_step ts map_fields (Parse.map_field ts)) none i
      (Parse.list_to ts RBrace map_fields (Parse.map_field ts) i)
  map_fields_run i h =
      list_runs MapFields MapField 64 i_no_fields (λ l s a b. i_fields a b) (omega arith) RBrace map_fields (Parse.map_field ts)
      (map_field_sound ts) i h

  pub event_fields_run : (i : ℕ) → i ≤ length ts
      → Runs (λ r. not (eqb (kind_at ts r) RBrace)) (Parse.list_step ts event_fields (Parse.event_field ts)) none i
      (Parse.list_to ts RBrace event_fields (Parse.event_field ts) i)
  event_fields_run i h =
      list_runs EventFields EventField 64 i_no_event_fields (λ l s a b. i_event_fields a b) (omega arith) RBrace event_fields
      (Parse.event_field ts) (event_field_sound ts) i h

  pub decls_run : Runs (λ r. not (eqb (kind_at ts r) Eof)) (Parse.list_step ts tops (Parse.top ts)) none 0
      (Parse.list_to ts Eof tops (Parse.top ts) 0)
  decls_run =
      list_runs Decls Decl 64 i_no_decls (λ l s a b. i_decls a b) (omega arith) Eof tops (Parse.top ts) (top_sound ts) 0 (omega arith)

  -- fields and calls behind an atom
  pub posts_run : (d i : ℕ) (t : Tree) (j : ℕ) → Parse.atom ts (Parse.inner ts d) i ≡ ok t j
      → Runs (λ r. eqb (kind_at ts r) Dot) (Parse.post ts (Parse.inner ts d)) t j (Parse.loop ts (λ r. eqb (kind_at ts r) Dot) (Parse.post ts (Parse.inner ts d)) t j)
  posts_run d i t j e =
      loop_runs ts (Reads ts Basic d i) (λ r. eqb (kind_at ts r) Dot) (Parse.post ts (Parse.inner ts d)) (λ u k r. r.inside)
      (λ u k r b. all_both (Reads ts Basic d i) (λ v m. k < m) (Parse.post ts (Parse.inner ts d) u k) (post_sound ts d (Parse.inner ts d) (inner_sound ts d) i u k r b)
      (map_all (On ts i k) (λ v m. k < m) (Parse.post ts (Parse.inner ts d) u k) (ends_post ts d i u k r.next) (λ v m x. x.3)))
      t j (all_ok (Reads ts Basic d i) (Parse.atom ts (Parse.inner ts d) i) t j (atom_sound ts d (Parse.inner ts d) (inner_sound ts d) i) e)

  under_inside : (N : Nt) (d o : ℕ) (t : Tree) (k : ℕ) → Under ts N d o t k → (o < k) × (k ≤ length ts)
  under_inside N zero o t k u = absurd u
  under_inside N (suc d) o t k u = (omega (arith, u.next), u.inside)

  -- arguments behind the first
  pub args_run : (d o : ℕ) (t : Tree) (k : ℕ) → o < length ts → Parse.inner ts d whole o ≡ ok t k
      → Runs (λ r. eqb (kind_at ts r) Comma) (Parse.arg_step ts (Parse.inner ts d)) (one t) k
      (Parse.loop ts (λ r. eqb (kind_at ts r) Comma) (Parse.arg_step ts (Parse.inner ts d)) (one t) k)
  unfolding Parse.arg_step
  args_run d o t k l e =
      loop_runs ts (Under ts Args d o) (λ r. eqb (kind_at ts r) Comma) (Parse.arg_step ts (Parse.inner ts d)) (λ a j u. (under_inside Args d o a j u).1)
      (λ a j u b. all_both (Under ts Args d o) (λ v m. j < m) (Parse.arg_step ts (Parse.inner ts d) a j) (arg_step ts d (Parse.inner ts d) (inner_sound ts d) o a j u b)
      (then_all (Under ts Add d j) (λ v m. j < m) (Parse.inner ts d whole j) _
      (inner_sound ts d whole j (here ts j Comma (eqb-true (kind_at ts j) Comma b) refl)) (λ v m x. (under_inside Add d j v m x).0)))
      (one t) k (ones ts d o t k (all_ok (Under ts Add d o) (Parse.inner ts d whole o) t k (inner_sound ts d whole o l) e))

  -- operands p of the nonterminal M behind the first, whose rows of operators `is_op` join them to the nonterminal N
  module _ (d : ℕ) (N M : Nt) (is_op : ℕ → Bool) (mark : (k : ℕ) → is_op k ≡ true → is_mark k ≡ true) (p : P) (p_sound : (i : ℕ) → All (Reads ts M d i) (p i))
      (joins : (k : ℕ) (l r : Tree) → Is true N d l → is_op k ≡ true → Is true M d r → Is true N d (bin k l r)) where
    ladder_runs : (i : ℕ) (t : Tree) (j : ℕ) → Reads ts N d i t j
        → Runs (λ r. is_op (kind_at ts r)) (Parse.bin_step ts (Parse.inner ts d) p) t j (Parse.loop ts (λ r. is_op (kind_at ts r)) (Parse.bin_step ts (Parse.inner ts d) p) t j)
    unfolding Parse.bin_step
    ladder_runs i t j r =
        loop_runs ts (Reads ts N d i) (λ r. is_op (kind_at ts r)) (Parse.bin_step ts (Parse.inner ts d) p) (λ u k v. v.inside)
        (λ u k v b. all_both (Reads ts N d i) (λ w m. k < m) (Parse.bin_step ts (Parse.inner ts d) p u k)
        (bin_step ts d (Parse.inner ts d) (inner_sound ts d) N M is_op mark p p_sound joins i u k v b)
        (then_all (Reads ts M d (k + 1)) (λ w m. k < m) (p (k + 1)) _ (p_sound (k + 1)) (λ w m x. omega (arith, x.next)))) t j r

  module _ (d i : ℕ) (t : Tree) (j : ℕ) where
    pub muls_run : Parse.unary ts (Parse.inner ts d) i ≡ ok t j
        → Runs (λ r. is_mul (kind_at ts r)) (Parse.bin_step ts (Parse.inner ts d) (Parse.unary ts (Parse.inner ts d))) t j
        (Parse.loop ts (λ r. is_mul (kind_at ts r)) (Parse.bin_step ts (Parse.inner ts d) (Parse.unary ts (Parse.inner ts d))) t j)
    muls_run e =
        ladder_runs d Mul Unary is_mul mul_mark (Parse.unary ts (Parse.inner ts d)) (unary_sound ts d (Parse.inner ts d) (inner_sound ts d)) (λ k l r a e b. i_mul a e b) i t j
        (taken_as i_unary (all_ok (Reads ts Unary d i) (Parse.unary ts (Parse.inner ts d) i) t j (unary_sound ts d (Parse.inner ts d) (inner_sound ts d) i) e))

    pub shifts_run : Parse.mul ts (Parse.inner ts d) i ≡ ok t j
        → Runs (λ r. is_shift (kind_at ts r)) (Parse.bin_step ts (Parse.inner ts d) (Parse.mul ts (Parse.inner ts d))) t j
        (Parse.loop ts (λ r. is_shift (kind_at ts r)) (Parse.bin_step ts (Parse.inner ts d) (Parse.mul ts (Parse.inner ts d))) t j)
    shifts_run e =
        ladder_runs d Shift Mul is_shift shift_mark (Parse.mul ts (Parse.inner ts d)) (mul_sound ts d (Parse.inner ts d) (inner_sound ts d)) (λ k l r a e b. i_shift a e b) i t j
        (taken_as i_lone (all_ok (Reads ts Mul d i) (Parse.mul ts (Parse.inner ts d) i) t j (mul_sound ts d (Parse.inner ts d) (inner_sound ts d) i) e))

    pub adds_run : Parse.shift ts (Parse.inner ts d) i ≡ ok t j
        → Runs (λ r. is_add (kind_at ts r)) (Parse.bin_step ts (Parse.inner ts d) (Parse.mul ts (Parse.inner ts d))) t j
        (Parse.loop ts (λ r. is_add (kind_at ts r)) (Parse.bin_step ts (Parse.inner ts d) (Parse.mul ts (Parse.inner ts d))) t j)
    adds_run e =
        ladder_runs d Add Mul is_add add_mark (Parse.mul ts (Parse.inner ts d)) (mul_sound ts d (Parse.inner ts d) (inner_sound ts d)) (λ k l r a e b. i_add a e b) i t j
        (taken_as i_up (all_ok (Reads ts Shift d i) (Parse.shift ts (Parse.inner ts d) i) t j (shift_sound ts d (Parse.inner ts d) (inner_sound ts d) i) e))

  -- the shifts of a `max`, behind its first number at row i
  chain_later : (c : Tree) (k : ℕ) → All (λ u m. k < m) (Parse.chain_step ts c k)
  unfolding Parse.chain_step Parse.count_by
  chain_later c k = valued_all ts (λ u m. k < m) _ (k + 1) (λ e. go (leb (bits_in (tok_at ts (k + 1))) 63))
    where
      go : (b : Bool) → All (λ u m. k < m) (Parse.count_by ts b c k (bits_in (tok_at ts (k + 1))) (k + 1 + 1))
      go true = omega arith
      go false = tt

  pub chain_run : (i : ℕ) → kind_at ts i ≡ Number
      → Runs (λ r. is_shift (kind_at ts r)) (Parse.chain_step ts) (first (bits_in (tok_at ts i))) (i + 1)
      (Parse.loop ts (λ r. is_shift (kind_at ts r)) (Parse.chain_step ts) (first (bits_in (tok_at ts i))) (i + 1))
  unfolding yield
  chain_run i e =
      loop_runs ts (Reads ts Chain 64 i) (λ r. is_shift (kind_at ts r)) (Parse.chain_step ts) (λ c k r. r.inside)
      (λ c k r b. all_both (Reads ts Chain 64 i) (λ u m. k < m) (Parse.chain_step ts c k) (chain_next ts i c k r b) (chain_later c k))
      (first (bits_in (tok_at ts i))) (i + 1) (reads i_first (value_row ts i e))
