-- The tokens of a table and its text, as the definitions have them, are those that the rows and the text tell.
use mathlib.Core.Path.{◌≡◌, refl, ap, ◌∙◌}
use mathlib.Core.List.{List}
use Prim.Native.Nat.{ℕ, zero, suc, ◌+◌, ◌-◌, ◌*◌, ◌^◌, ◌<◌}
use native.Mathlib.Nat.{not-suc-le-zero, le_of_suc-le-suc, add-zero}
use native.Mathlib.Omega.{arith}
use lib.ListN.{get_or, take, drop}
use lib.Seq.{drop-drop, get_or-drop}
use Rattle.rules.specs.Kinds.{Identifier, StringLiteral, Number, Eof}
use Rattle.rules.specs.Rows.{Row, row_in, rows_in, spelling, value_bits}
use Rattle.rules.specs.Tree.{sign, kind_of, spelling_of, bits_in, tok_of}
use Rattle.rules.specs.Calls.{tokens}
use Rattle.theory_grammar.proofs.Tables.{token_kind, tokens_length}
use Rattle.parse_nodes.specs.Names.{Names}

-- ---- a row's token

module _ (t : List ℕ) (r : Row) where
  pub tok_value : r.kind ≡ Number → bits_in (tok_of t r) ≡ value_bits r
  unfolding tok_of bits_in
  tok_value e = rw e

  pub tok_name : r.kind ≡ Identifier → spelling_of (tok_of t r) ≡ spelling t r
  unfolding tok_of spelling_of
  tok_name e = rw e

  pub tok_string : r.kind ≡ StringLiteral → spelling_of (tok_of t r) ≡ spelling t r
  unfolding tok_of spelling_of
  tok_string e = rw e

-- ---- the tokens of a table

pub tokens_at : (t : List ℕ) (n : ℕ) (ws : List ℕ) (i : ℕ) → i < n → get_or (tokens t (rows_in n ws)) i (sign Eof) ≡ tok_of t (row_in (drop (i * 8) ws))
unfolding tokens rows_in
tokens_at t zero ws i h = absurd (not-suc-le-zero h)
tokens_at t (suc n) ws zero h = refl
tokens_at t (suc n) ws (suc i) h =
    let e : 8 + i * 8 ≡ suc i * 8 = omega arith in
    tokens_at t n (drop 8 ws) i (le_of_suc-le-suc h) ∙ ap (λ (l : List ℕ). tok_of t (row_in l)) (drop-drop (i * 8) 8 ws ∙ ap (λ (k : ℕ). drop k ws) e)

pub kind_word : (ws : List ℕ) (i : ℕ) → (row_in (drop i ws)).kind ≡ get_or ws i 0
unfolding row_in
kind_word ws i = get_or-drop i ws 0 0 ∙ ap (λ (k : ℕ). get_or ws k 0) (add-zero i)

pub value_words : (ws : List ℕ) (i : ℕ) → value_bits (row_in (drop i ws)) ≡ get_or ws (i + 6) 0 * 2 ^ 32 + get_or ws (i + 5) 0
unfolding row_in value_bits
value_words ws i = rw (get_or-drop i ws 6 0, get_or-drop i ws 5 0)

pub spelling_words : (t ws : List ℕ) (i : ℕ) → spelling t (row_in (drop i ws)) ≡ take (get_or ws (i + 2) 0 - get_or ws (i + 1) 0) (drop (get_or ws (i + 1) 0) t)
unfolding row_in spelling
spelling_words t ws i = rw (get_or-drop i ws 2 0, get_or-drop i ws 1 0)

pub names_told : (t ws : List ℕ) (n : ℕ) → Names (tokens t (rows_in n ws)) t ws n
names_told t ws n = record {
  tells = record {
    long = tokens_length t n ws;
    kinds = λ i h. ap kind_of (tokens_at t n ws i h) ∙ token_kind t (row_in (drop (i * 8) ws)) ∙ kind_word ws (i * 8);
    values = λ i h e. ap bits_in (tokens_at t n ws i h) ∙ tok_value t (row_in (drop (i * 8) ws)) (kind_word ws (i * 8) ∙ e) ∙ value_words ws (i * 8);
  };
  names = λ i h e. ap spelling_of (tokens_at t n ws i h) ∙ tok_name t (row_in (drop (i * 8) ws)) (kind_word ws (i * 8) ∙ e) ∙ spelling_words t ws (i * 8);
  strings = λ i h e. ap spelling_of (tokens_at t n ws i h) ∙ tok_string t (row_in (drop (i * 8) ws)) (kind_word ws (i * 8) ∙ e) ∙ spelling_words t ws (i * 8);
}
