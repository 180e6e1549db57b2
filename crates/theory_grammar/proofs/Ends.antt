-- Where what the parser reads ends: for each function of the parser, the row behind its tree, whatever the tokens hold.
use mathlib.Core.Path.{◌≡◌, refl}
use mathlib.Core.Bool.{Bool, true, false}
use mathlib.Core.List.{List}
use Prim.Native.Nat.{ℕ, zero, suc, ◌+◌, ◌≤◌, ◌<◌}
use native.Mathlib.Omega.{arith}
use lib.Dec.{eqb}
use lib.ListN.{length}
use borrow.Author.Tests.{eqb-true}
use Rattle.rules.specs.declared.Syntax.TheVariants.{CallOnOther}
use Rattle.rules.specs.Kinds.{RBrace, LParen, RParen, Identifier, Eof}
use Rattle.rules.specs.Fits.{body_things, unit_things, event_fields, map_fields}
use Rattle.rules.specs.Tree.{Tok, spelling_of, Tree, none, call, is_variable, count}
use Rattle.rules.specs.Nodes.{width}
use Rattle.rules.specs.Parse
use Rattle.rules.specs.Parse.{Out, ok, no, pick, tok_at, kind_at}
use Rattle.rules.specs.Grammar.{Nt, Args, Stmt, Stmts, Item, Items, Chain, MapField, MapFields, EventField, EventFields, Decl, i_no_stmts, i_stmts, i_no_items, i_items, i_no_fields, i_fields, i_no_event_fields, i_event_fields}
use Rattle.theory_grammar.proofs.Laws.{here, fewest, is_wide, is_count}
use Rattle.theory_grammar.proofs.Runs.{All, then_all, map_all, end_in_all, named_all}
use Rattle.theory_grammar.proofs.Sound.{Reads, Under, BodyUnder, args_sound, inner_sound, list_sound, stmt_sound, body_sound, item_sound, chain_sound, map_field_sound, event_field_sound, top_sound, Accepts, program_sound}

-- where a tree ends, of what is read from row i on
abbrev pub Ends : List Tok → ℕ → Tree → ℕ → Type 0
Ends ts i t j = (j ≡ i + width t) × (j ≤ length ts) × (count t ≤ width t)

-- the same of a tree that is read from row i on, its last part behind row j
abbrev pub On : List Tok → ℕ → ℕ → Tree → ℕ → Type 0
On ts i j t k = (k ≡ i + width t) × (k ≤ length ts) × (count t ≤ width t) × (j < k)

reads_ends : (ts : List Tok) (N : Nt) (d i : ℕ) (o : Out) → All (Reads ts N d i) o → All (Ends ts i) o
reads_ends ts N d i o h = map_all (Reads ts N d i) (Ends ts i) o h (λ t j r. (r.next, r.inside, is_count r.is))

reads_wide : (ts : List Tok) (N : Nt) (d i : ℕ) (o : Out) → 1 ≤ fewest N → All (Reads ts N d i) o → All (λ t j. 1 ≤ width t) o
reads_wide ts N d i o w h = map_all (Reads ts N d i) (λ t j. 1 ≤ width t) o h (λ t j r. omega (arith, is_wide r.is))

list_ends : (ts : List Tok) (Ns : Nt) (d i stop : ℕ) (o : Out) → All (λ l j. Reads ts Ns d i l j × (kind_at ts j ≡ stop)) o
    → All (λ l j. Ends ts i l j × (kind_at ts j ≡ stop)) o
list_ends ts Ns d i stop o h =
    map_all (λ l j. Reads ts Ns d i l j × (kind_at ts j ≡ stop)) (λ l j. Ends ts i l j × (kind_at ts j ≡ stop)) o h
    (λ l j r. ((r.0.next, r.0.inside, is_count r.0.is), r.1))

under_ends : (ts : List Tok) (d o : ℕ) (t : Tree) (j : ℕ) → Under ts Args d o t j → Ends ts (o + 1) t j
under_ends ts zero o t j u = absurd u
under_ends ts (suc d) o t j u = (u.next, u.inside, is_count u.is)

-- ---- expressions

module _ (ts : List Tok) (d : ℕ) where
  -- arguments, behind the parenthesis at row o
  pub ends_args : (o : ℕ) → o < length ts → All (Ends ts (o + 1)) (Parse.args ts (Parse.inner ts d) o)
  ends_args o h =
      map_all (Under ts Args d o) (Ends ts (o + 1)) (Parse.args ts (Parse.inner ts d) o) (args_sound ts d (Parse.inner ts d) (inner_sound ts d) o h) (λ t j u. under_ends ts d o t j u)

  -- a field or a call of a tree t that is read from row i on, its dot at row j
  module _ (i : ℕ) (t : Tree) (j : ℕ) (at : j ≡ i + width t) where
    called_on : (w : List ℕ) (a : Tree) (m k : ℕ) → k ≡ i + (width t + 3 + width a + 1) → k ≤ length ts → All (On ts i j) (Parse.called ts t w a m k)
    unfolding Parse.called width count
    called_on w a m k e l = go (is_variable t)
      where
        go : (b : Bool) → All (On ts i j) (pick b (ok (call t w a) k) (no CallOnOther m))
        go true = (e, l, omega arith, omega arith)
        go false = tt

    call_on : (b : Bool) (w : List ℕ) (k : ℕ) → k ≡ j + 1 + 1 → k < length ts → eqb (kind_at ts (k + 1)) RParen ≡ b
        → All (On ts i j) (Parse.call_by ts (Parse.inner ts d) b t w (j + 1) k)
    unfolding Parse.call_by width
    call_on true w k n h b =
        called_on w none (j + 1) (k + 1 + 1) (omega arith) (omega (arith, here ts (k + 1) RParen (eqb-true (kind_at ts (k + 1)) RParen b) refl))
    call_on false w k n h b =
        then_all (Ends ts (k + 1)) (On ts i j) (Parse.args ts (Parse.inner ts d) k) _ (ends_args k h)
        (λ a r u. end_in_all ts (On ts i j) _ RParen a (Parse.called ts t w a (j + 1)) r
        (λ e. called_on w a (j + 1) (r + 1) (omega (arith, u.0)) (omega (arith, here ts r RParen e refl))))

    open_on : (b : Bool) (w : List ℕ) (k : ℕ) → k ≡ j + 1 + 1 → k ≤ length ts → eqb (kind_at ts k) LParen ≡ b
        → All (On ts i j) (Parse.open_by ts (Parse.inner ts d) b t w (j + 1) k)
    unfolding Parse.open_by width count
    open_on true w k n h b = call_on (eqb (kind_at ts (k + 1)) RParen) w k n (here ts k LParen (eqb-true (kind_at ts k) LParen b) refl) refl
    open_on false w k n h b = (omega arith, omega arith, omega arith, omega arith)

    pub ends_post : All (On ts i j) (Parse.post ts (Parse.inner ts d) t j)
    unfolding Parse.post
    ends_post =
        named_all ts (On ts i j) _ (j + 1)
        (λ e. open_on (eqb (kind_at ts (j + 1 + 1)) LParen) (spelling_of (tok_at ts (j + 1))) (j + 1 + 1) refl (omega (arith, here ts (j + 1) Identifier e refl)) refl)

-- ---- statements

body_ends : (ts : List Tok) (d o : ℕ) (l : Tree) (j : ℕ) → BodyUnder ts d o l j → (j ≡ o + (1 + width l + 1)) × (j ≤ length ts) × (count l ≤ width l)
body_ends ts zero o l j u = absurd u
body_ends ts (suc d) o l j u =
    (omega (arith, u.next, u.reads.next), omega (arith, u.next, here ts u.last RBrace u.brace refl), is_count u.reads.is)

module _ (ts : List Tok) (d : ℕ) where
  -- a body whose brace is at row o: its statements, and the braces around them
  pub ends_body : (o : ℕ) → o < length ts → All (λ l j. (j ≡ o + (1 + width l + 1)) × (j ≤ length ts) × (count l ≤ width l)) (Parse.body ts d o)
  ends_body o h =
      map_all (BodyUnder ts d o) (λ l j. (j ≡ o + (1 + width l + 1)) × (j ≤ length ts) × (count l ≤ width l)) (Parse.body ts d o) (body_sound ts d o h) (λ l j u. body_ends ts d o l j u)

  pub ends_stmts : (i : ℕ) → i ≤ length ts
      → All (λ l j. Ends ts i l j × (kind_at ts j ≡ RBrace)) (Parse.list_to ts RBrace body_things (Parse.stmt ts d (Parse.body ts d)) i)
  ends_stmts i h =
      list_ends ts Stmts d i RBrace (Parse.list_to ts RBrace body_things (Parse.stmt ts d (Parse.body ts d)) i)
      (list_sound ts Stmts Stmt d i_no_stmts (λ l s a b. i_stmts a b) (omega arith) RBrace body_things (Parse.stmt ts d (Parse.body ts d))
      (stmt_sound ts d) i h)

-- ---- units, maps, events and programs

module _ (ts : List Tok) where
  pub ends_item : (i : ℕ) → All (Ends ts i) (Parse.item ts i)
  ends_item i = reads_ends ts Item 64 i (Parse.item ts i) (item_sound ts i)

  pub wide_item : (i : ℕ) → All (λ t j. 1 ≤ width t) (Parse.item ts i)
  wide_item i = reads_wide ts Item 64 i (Parse.item ts i) (omega arith) (item_sound ts i)

  pub ends_chain : (i : ℕ) → All (Ends ts i) (Parse.chain ts i)
  ends_chain i = reads_ends ts Chain 64 i (Parse.chain ts i) (chain_sound ts i)

  pub ends_map_field : (i : ℕ) → All (Ends ts i) (Parse.map_field ts i)
  ends_map_field i = reads_ends ts MapField 64 i (Parse.map_field ts i) (map_field_sound ts i)

  pub wide_map_field : (i : ℕ) → All (λ t j. 1 ≤ width t) (Parse.map_field ts i)
  wide_map_field i = reads_wide ts MapField 64 i (Parse.map_field ts i) (omega arith) (map_field_sound ts i)

  pub ends_event_field : (i : ℕ) → All (Ends ts i) (Parse.event_field ts i)
  ends_event_field i = reads_ends ts EventField 64 i (Parse.event_field ts i) (event_field_sound ts i)

  pub wide_event_field : (i : ℕ) → All (λ t j. 1 ≤ width t) (Parse.event_field ts i)
  wide_event_field i = reads_wide ts EventField 64 i (Parse.event_field ts i) (omega arith) (event_field_sound ts i)

  pub ends_top : (i : ℕ) → All (Ends ts i) (Parse.top ts i)
  ends_top i = reads_ends ts Decl 64 i (Parse.top ts i) (top_sound ts i)

  pub wide_top : (i : ℕ) → All (λ t j. 1 ≤ width t) (Parse.top ts i)
  wide_top i = reads_wide ts Decl 64 i (Parse.top ts i) (omega arith) (top_sound ts i)

  -- lists, up to the row that stops them
  pub ends_items : (i : ℕ) → i ≤ length ts
      → All (λ l j. Ends ts i l j × (kind_at ts j ≡ RBrace)) (Parse.list_to ts RBrace unit_things (Parse.item ts) i)
  ends_items i h =
      list_ends ts Items 64 i RBrace (Parse.list_to ts RBrace unit_things (Parse.item ts) i)
      (list_sound ts Items Item 64 i_no_items (λ l s a b. i_items a b) (omega arith) RBrace unit_things (Parse.item ts) (item_sound ts) i h)

  pub ends_map_fields : (i : ℕ) → i ≤ length ts
      → All (λ l j. Ends ts i l j × (kind_at ts j ≡ RBrace)) (Parse.list_to ts RBrace map_fields (Parse.map_field ts) i)
  ends_map_fields i h =
      list_ends ts MapFields 64 i RBrace (Parse.list_to ts RBrace map_fields (Parse.map_field ts) i)
      (list_sound ts MapFields MapField 64 i_no_fields (λ l s a b. i_fields a b) (omega arith) RBrace map_fields (Parse.map_field ts)
      (map_field_sound ts) i h)

  pub ends_event_fields : (i : ℕ) → i ≤ length ts
      → All (λ l j. Ends ts i l j × (kind_at ts j ≡ RBrace)) (Parse.list_to ts RBrace event_fields (Parse.event_field ts) i)
  ends_event_fields i h =
      list_ends ts EventFields 64 i RBrace (Parse.list_to ts RBrace event_fields (Parse.event_field ts) i)
      (list_sound ts EventFields EventField 64 i_no_event_fields (λ l s a b. i_event_fields a b) (omega arith) RBrace event_fields
      (Parse.event_field ts) (event_field_sound ts) i h)

  -- a program, where the table has an Eof: its rows are in the table
  pub ends_parse : (e : ℕ) → e < length ts → kind_at ts e ≡ Eof → All (λ t j. (j ≡ width t) × (j ≤ length ts)) (Parse.parse ts)
  ends_parse e h f = map_all (Accepts ts) (λ t j. (j ≡ width t) × (j ≤ length ts)) (Parse.parse ts) (program_sound ts e h f) (λ t j a. (a.next, a.inside))
