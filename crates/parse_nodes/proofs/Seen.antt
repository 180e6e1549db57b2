-- What the code sees in a row's words, and what the parser makes of that row.
use mathlib.Core.Path.{◌≡◌, refl, sym, ap, ◌∙◌}
use mathlib.Core.Bool.{true, and-eq-true_iff}
use mathlib.Core.List.{List}
use Prim.Native.Nat.{ℕ, ◌+◌, ◌*◌, ◌^◌, ◌≤◌, ◌<◌}
use lib.Dec.{leb}
use lib.ListN.{get_or}
use borrow.Author.Tests.{leb-true}
use Rattle.rules.specs.Parse
use Rattle.rules.specs.Fits.{only, wrong}
use Rattle.rules.specs.Kinds.{Identifier, Number}
use Rattle.rules.specs.Tree.{Tok, spelling_of, bits_in}
use Rattle.rules.specs.Parse.{no, P, tok_at, kind_at, is_type}
use Rattle.theory_grammar.proofs.Cases.{want_yes, want_no, valued_yes}
use Rattle.parse_nodes.specs.Post.{kind_word, Tells}
use Rattle.parse_nodes.proofs.Rows.{tells_kind, tells_value, word_at_lem, word_here}

-- row i, of n rows that stand in ws, has the kind x
module _ (ts : List Tok) (ws : List ℕ) (n : ℕ) (tells : Tells ts ws n) (i x : ℕ) (e : x ≡ kind_word ws n i) where
  pub seen : x ≡ kind_at ts i
  seen = e ∙ tells_kind ts ws n tells i

  module _ (k : ℕ) (f : P) where
    pub want_met : x ≡ k → Parse.want ts k f i ≡ f (i + 1)
    want_met q = want_yes ts k f i (sym seen ∙ q)

    pub want_unmet : (x ≡ k → ⊥) → Parse.want ts k f i ≡ no (wrong (only k)) i
    want_unmet h = want_no ts k f i (λ q. h (seen ∙ q))

  pub named_met : (f : List ℕ → P) → x ≡ Identifier → Parse.named ts f i ≡ f (spelling_of (tok_at ts i)) (i + 1)
  unfolding Parse.named
  named_met f q = want_met Identifier (f (spelling_of (tok_at ts i))) q

  pub named_unmet : (f : List ℕ → P) → (x ≡ Identifier → ⊥) → Parse.named ts f i ≡ no (wrong (only Identifier)) i
  unfolding Parse.named
  named_unmet f h = want_unmet Identifier (f (spelling_of (tok_at ts i))) h

  pub valued_met : (f : ℕ → P) → x ≡ Number → Parse.valued ts f i ≡ f (get_or ws (i * 8 + 6) 0 * 2 ^ 32 + get_or ws (i * 8 + 5) 0) (i + 1)
  valued_met f q =
      let h : i < n = word_here ws n i Number (sym e ∙ q) refl in
      valued_yes ts f i (sym seen ∙ q) ∙ ap (λ (v : ℕ). f v (i + 1)) (tells_value ts ws n tells i h (sym (word_at_lem ws n i h) ∙ sym e ∙ q))

  pub valued_unmet : (f : ℕ → P) → (x ≡ Number → ⊥) → Parse.valued ts f i ≡ no (wrong (only Number)) i
  unfolding Parse.valued
  valued_unmet f h = want_unmet Number (f (bits_in (tok_at ts i))) h

-- the kinds of types begin at 21
pub type_low : (k : ℕ) → is_type k ≡ true → 21 ≤ k
type_low k e = leb-true 21 k ((and-eq-true_iff (leb 21 k) (leb k 24)).0 e).0
