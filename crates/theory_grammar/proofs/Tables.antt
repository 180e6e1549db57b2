-- The tokens of a table: what their kinds are, that they are given as such, and that a well-formed table with no refused ending has one
-- Eof, its last row. So the parse call accepts exactly the programs of the grammar, and refuses at the first row with which none goes on.
use mathlib.Core.Path.{◌≡◌, refl, sym, ◌∙◌, subst}
use mathlib.Core.Bool.{Bool, true, false, not, cond, ◌&&◌, true≢false, and-eq-true_iff}
use mathlib.Core.List.{List, [], ◌∷◌, map}
use mathlib.Core.Logic.{◌↔◌}
use Prim.Native.Nat.{ℕ, zero, suc, ◌*◌, ◌<◌}
use native.Mathlib.Nat.{le_of_suc-le-suc}
use native.Mathlib.Omega.{arith}
use lib.Dec.{eqb, leb}
use lib.ListN.{length, length-map}
use borrow.Author.Tests.{eqb-true, eqb-false, not-true}
use Rattle.std.specs.declared.option.Option.TheVariants.{None}
use Rattle.rules.specs.declared.Syntax.{Syntax}
use Rattle.rules.specs.declared.Table.{Table}
use Rattle.rules.specs.Text.{most_bytes}
use Rattle.rules.specs.Kinds.{Identifier, StringLiteral, Number, Eof}
use Rattle.rules.specs.Rows.{Row, rows_in, every, chained, follows, gaps_fit, row_fits, is_eof, eof_last, ending_fits, rows_fit, well_formed, spelling, value_bits}
use Rattle.rules.specs.Tree.{Tok, sign, name, string, value, kind_of, tok_of, Tree, yield}
use Rattle.rules.specs.Parse.{ok, no, tok_at, kind_at}
use Rattle.rules.specs.Calls.{tokens, reading}
use Rattle.rules.specs.Grammar.{Program, Is}
use Rattle.laws.proofs.Rows.{rows_length}
use Rattle.theory_grammar.specs.Lost.{is_misfit, First}
use Rattle.theory_grammar.specs.Fitting.{ToldExactly}
use Rattle.theory_grammar.specs.Tokens.{is_proper, Proper, Whole}
use Rattle.theory_grammar.proofs.Same.{accepts_exactly}
use Rattle.theory_grammar.proofs.Place.{refused_first}
use Rattle.theory_grammar.proofs.Fitting.{told_exactly}

-- ---- one row

-- a token has its row's kind, and is given as what that kind says
module _ (t : List ℕ) (r : Row) where
  by_kind : (C : Tok → Type 0) → (r.kind ≡ Identifier → C (name (spelling t r))) → (r.kind ≡ StringLiteral → C (string (spelling t r)))
      → (r.kind ≡ Number → C (value (value_bits r)))
      → (eqb r.kind Identifier ≡ false → eqb r.kind StringLiteral ≡ false → eqb r.kind Number ≡ false → C (sign r.kind)) → C (tok_of t r)
  unfolding tok_of
  by_kind C a b c d = go (eqb r.kind Identifier) (eqb r.kind StringLiteral) (eqb r.kind Number) refl refl refl
    where
      go : (x y z : Bool) → eqb r.kind Identifier ≡ x → eqb r.kind StringLiteral ≡ y → eqb r.kind Number ≡ z
          → C (cond x (name (spelling t r)) (cond y (string (spelling t r)) (cond z (value (value_bits r)) (sign r.kind))))
      go true y z p q s = a (eqb-true r.kind Identifier p)
      go false true z p q s = b (eqb-true r.kind StringLiteral q)
      go false false true p q s = c (eqb-true r.kind Number s)
      go false false false p q s = d p q s

  pub token_kind : kind_of (tok_of t r) ≡ r.kind
  unfolding kind_of
  token_kind = by_kind (λ x. kind_of x ≡ r.kind) sym sym sym (λ p q s. refl)

  pub token_proper : is_proper (tok_of t r) ≡ true
  unfolding is_proper
  token_proper = by_kind (λ x. is_proper x ≡ true) (λ e. refl) (λ e. refl) (λ e. refl) (λ p q s. rw (p, q, s))

-- ---- a table

module _ (t : List ℕ) where
  pub tokens_proper : (rows : List Row) → Proper (tokens t rows)
  unfolding tokens is_proper
  tokens_proper rows = record { at = go rows }
    where
      go : (rows : List Row) (i : ℕ) → is_proper (tok_at (map (tok_of t) rows) i) ≡ true
      go [] i = refl
      go (r ∷ rs) zero = token_proper t r
      go (r ∷ rs) (suc i) = go rs i

  -- a first row that is no Eof, before rows whose one Eof is their last
  whole_cons : (r : Row) (rows : List Row) → is_eof r ≡ false → Whole (tokens t rows) → Whole (tokens t (r ∷ rows))
  unfolding tokens is_eof
  whole_cons r rows b w = record {
    proper = tokens_proper (r ∷ rows);
    last = suc w.last;
    long = omega (arith, w.long);
    closed = w.closed;
    only = go;
  }
    where
      go : (i : ℕ) → i < suc w.last → kind_at (tok_of t r ∷ map (tok_of t) rows) i ≡ Eof → ⊥
      go zero h e = eqb-false r.kind Eof b (sym (token_kind t r) ∙ e)
      go (suc i) h e = w.only i (le_of_suc-le-suc h) e

  whole_last : (r : Row) → is_eof r ≡ true → Whole (tokens t (r ∷ []))
  unfolding tokens is_eof
  whole_last r b = record {
    proper = tokens_proper (r ∷ []);
    last = 0;
    long = refl;
    closed = token_kind t r ∙ eqb-true r.kind Eof b;
    only = λ i h e. omega arith;
  }

  pub tokens_whole : (n : ℕ) (rows : List Row) → eof_last n rows ≡ true → Whole (tokens t rows)
  unfolding eof_last
  tokens_whole n [] e = absurd (true≢false (sym e))
  tokens_whole n (r ∷ []) e = whole_last r ((and-eq-true_iff (is_eof r) (eqb r.start n)).0 e).0
  tokens_whole n (r ∷ q ∷ rs) e =
      let h : (not (is_eof r) ≡ true) × (eof_last n (q ∷ rs) ≡ true) = (and-eq-true_iff (not (is_eof r)) (eof_last n (q ∷ rs))).0 e in
      whole_cons r (q ∷ rs) (not-true (is_eof r) h.0) (tokens_whole n (q ∷ rs) h.1)

pub tokens_length : (t : List ℕ) (n : ℕ) (ws : List ℕ) → length (tokens t (rows_in n ws)) ≡ n
unfolding tokens
tokens_length t n ws = length-map (rows_in n ws) (tok_of t) ∙ rows_length n ws

-- ---- a well-formed table with no refused ending

module _ (t ws : List ℕ) (tbl : Table) (good : well_formed ws tbl ≡ true) (fine : tbl.ending ≡ None) where
  pub table_whole : Whole (tokens t (rows_in tbl.count ws))
  unfolding well_formed rows_fit ending_fits
  table_whole =
      let rows : List Row = rows_in tbl.count ws in
      let fits : rows_fit tbl.length rows tbl.ending ≡ true = ((and-eq-true_iff (leb (tbl.count * 8) (length ws) && leb tbl.length most_bytes) (rows_fit tbl.length rows tbl.ending)).0 good).1 in
      let ending : Bool = ending_fits tbl.length rows tbl.ending in
      let placed : (chained follows rows && (gaps_fit 0 rows && ending)) ≡ true = ((and-eq-true_iff (every row_fits rows) _).0 fits).1 in
      let spaced : (gaps_fit 0 rows && ending) ≡ true = ((and-eq-true_iff (chained follows rows) _).0 placed).1 in
      let ends : ending ≡ true = ((and-eq-true_iff (gaps_fit 0 rows) ending).0 spaced).1 in
      tokens_whole t tbl.length rows (subst (λ x. ending_fits tbl.length rows x ≡ true) fine ends)

  -- The theorem: the table is read to a tree exactly if the tree is a program and the rows' tokens are its.
  pub reads_exactly : (p : Tree) → (reading t ws tbl ≡ ok p tbl.count) ↔ (Is true Program 64 p × (tokens t (rows_in tbl.count ws) ≡ yield p))
  unfolding reading
  reads_exactly p =
      subst (λ (n : ℕ). (reading t ws tbl ≡ ok p n) ↔ (Is true Program 64 p × (tokens t (rows_in tbl.count ws) ≡ yield p))) (tokens_length t tbl.count ws)
      (accepts_exactly (tokens t (rows_in tbl.count ws)) p table_whole)

  -- The theorem: what is refused, with any of 21 to 32, is refused for the first row of the table with which no program goes on.
  pub refuses_first : (why : Syntax) (r : ℕ) → reading t ws tbl ≡ no why r → First (tokens t (rows_in tbl.count ws)) why r
  unfolding reading
  refuses_first why r e = refused_first (tokens t (rows_in tbl.count ws)) why r table_whole.proper e

  -- The theorem: what is refused with 21, 22, 23, 25 or 30 tells exactly the kinds that would have fitted.
  pub tells_exactly : (why : Syntax) (r : ℕ) → reading t ws tbl ≡ no why r → is_misfit why ≡ true
      → ToldExactly (tokens t (rows_in tbl.count ws)) why r
  unfolding reading
  tells_exactly why r e m = told_exactly (tokens t (rows_in tbl.count ws)) why r table_whole.proper e m
