-- A string and `;` behind the word.
use mathlib.Core.Path.{◌≡◌, refl, sym, ap, ◌∙◌}
use mathlib.Core.Bool.{true}
use mathlib.Core.List.{List}
use Prim.Native.Nat.{ℕ, ◌+◌}
use native.Mathlib.Omega.{arith}
use Rattle.std.proofs.lemmas.Result.{err_from_is_err_and}
use Rattle.rules.specs.Kinds.{StringLiteral, Semicolon}
use Rattle.rules.specs.Tree.{Tok, text, spelling_of}
use Rattle.rules.specs.Parse
use Rattle.rules.specs.Parse.{ok, kind_at, is_text, tok_at}
use Rattle.theory_grammar.proofs.Cases.{item_text}
use Rattle.parse_nodes.specs.Post.{kind_word}
use Rattle.parse_nodes.specs.Names.{Names}
use Rattle.parse_nodes.proofs.Rows.{word_here, word_at_lem}
use Rattle.parse_nodes.proofs.Seen.{seen, want_met, want_unmet}
use Rattle.parse_units.proofs.Answers.{quoted_met, quoted_unmet, adds_err, adds_as}
use Rattle.parse_units.proofs.text_item.Goals as goal

-- what the parser does on the way, from the word k at row i on
module _ {ts : List Tok} {t ws : List ℕ} {n : ℕ} (h : Names ts t ws n) (i k : ℕ) (w : k ≡ kind_word ws n i) (b : is_text k ≡ true) where
  begun : Parse.item ts i ≡ Parse.quoted ts (λ s. Parse.want ts Semicolon (ok (text (kind_at ts i) s))) (i + 1)
  begun = item_text ts i (ap is_text (sym (seen ts ws n h.tells i k w)) ∙ b)

  module _ (e : kind_word ws n (i + 1) ≡ StringLiteral) where
    quoted : Parse.item ts i ≡ Parse.want ts Semicolon (ok (text (kind_at ts i) (spelling_of (tok_at ts (i + 1))))) (i + 1 + 1)
    quoted = begun ∙ quoted_met ts ws n h.tells (i + 1) _ refl _ e

pub returns-in_err-want : goal.returns-in_err-want
returns-in_err-want c ts h =
    let a = c.args in
    let x = c.in_err-want.ensures.err in
    let p = err_from_is_err_and c.from_residual.result c.from_residual.ensures.1 in
    rw (p.1, p.2)
    (adds_err a.u _ _ _ _ _ _ _
    (begun h a.u.at.row a.word c.requires.word c.requires.text
    ∙ quoted_unmet ts a.rows.now a.count h.tells (a.u.at.row + 1) _ refl _ x.0)
    refl x.1)

pub returns-in_err-want-2 : goal.returns-in_err-want-2
returns-in_err-want-2 c ts h =
    let a = c.args in
    let x = c.in_err-want-2.ensures.err in
    let p = err_from_is_err_and c.from_residual-in_err-want-2.result c.from_residual-in_err-want-2.ensures.1 in
    rw (p.1, p.2)
    (adds_err a.u _ _ _ _ _ _ _
    (quoted h a.u.at.row a.word c.requires.word c.requires.text c.in_ok-want.ensures.ok
    ∙ want_unmet ts a.rows.now a.count h.tells (a.u.at.row + 1 + 1) _ refl Semicolon _ x.0)
    refl x.1)

pub with_text-requires : goal.with_text-requires
with_text-requires c =
    let a = c.args in
    let p = c.requires in
    let i : ℕ = a.u.at.row + 1 in
    let l = word_here a.rows.now a.count i StringLiteral c.in_ok-want.ensures.ok refl in
    let s = sym (word_at_lem a.rows.now a.count i l) ∙ c.in_ok-want.ensures.ok in
    let e = word_here a.rows.now a.count (i + 1) Semicolon c.in_ok-want-2.ensures.ok refl in
    record {
      string = record {
        lent = omega (arith, p.at.at.lent, l);
        order = p.at.spans.quotes i l s;
        inside = p.at.spans.inside i l;
      };
      text = p.text;
      inside = omega (arith, p.at.at.short, e);
      few = omega (arith, p.at.at);
      things = omega (arith, p.at.at, p.at.things);
    }

pub returns : goal.returns
returns c ts h =
    let a = c.args in
    let r : ℕ = a.u.at.row in
    let i : ℕ = r + 1 in
    let l = word_here a.rows.now a.count i StringLiteral c.in_ok-want.ensures.ok refl in
    let s = sym (word_at_lem a.rows.now a.count i l) ∙ c.in_ok-want.ensures.ok in
    adds_as a.u _ _ _ _ _
    (quoted h r a.word c.requires.word c.requires.text c.in_ok-want.ensures.ok
    ∙ want_met ts a.rows.now a.count h.tells (i + 1) _ refl Semicolon _ c.in_ok-want-2.ensures.ok
    ∙ ap (λ (x : ℕ). ok (text x (spelling_of (tok_at ts i))) (i + 1 + 1)) (sym (seen ts a.rows.now a.count h.tells r a.word c.requires.word))
    ∙ ap (λ (w : List ℕ). ok (text a.word w) (i + 1 + 1)) (h.strings i l s))
    c.with_text.ensures
