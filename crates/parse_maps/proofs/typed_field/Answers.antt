-- A type, and `;`, and the last key or value is this one.
use mathlib.Core.Path.{◌≡◌, refl, sym, ap, ◌∙◌}
use mathlib.Core.Bool.{true, false}
use mathlib.Core.List.{List}
use Prim.Native.Nat.{ℕ, ◌+◌}
use borrow.Author.Rules.{rules}
use Rattle.std.specs.Prelude.{Some}
use Rattle.rules.specs.Parse
use Rattle.rules.specs.Kinds.{Semicolon, Colon, KeywordKey, KeywordValue}
use Rattle.rules.specs.Tree.{Tok, typed}
use Rattle.rules.specs.Parse.{ok, kind_at, is_type, is_typed}
use Rattle.theory_grammar.proofs.Laws.{either_kind}
use Rattle.theory_grammar.proofs.Cases.{field_keying, key_yes, key_end, key_no}
use Rattle.parse_nodes.specs.Post.{kind_word, Tells}
use Rattle.parse_nodes.proofs.Seen.{seen, want_met, want_unmet, type_low}
use Rattle.parse_maps.specs.Steps.{over}
use Rattle.parse_maps.proofs.Answers.{answer_err}
use Rattle.parse_maps.proofs.Last.{facts_at, steps_to, over_key, over_value}
use Rattle.parse_maps.proofs.typed_field.Goals as goal

-- what the parser does on the way
module _ {ts : List Tok} {ws : List ℕ} {n : ℕ} (h : Tells ts ws n) (i kind : ℕ) (w : kind ≡ kind_word ws n i) (b : is_typed kind ≡ true) where
  begun : Parse.map_field ts i ≡ Parse.want ts Colon (λ j. Parse.key_by ts (is_type (kind_at ts j)) (kind_at ts i) j) (i + 1)
  begun = field_keying ts i (ap is_typed (sym (seen ts ws n h i kind w)) ∙ b)

  module _ (e : kind_word ws n (i + 1) ≡ Colon) where
    opened : Parse.map_field ts i ≡ Parse.key_by ts (is_type (kind_at ts (i + 1 + 1))) (kind_at ts i) (i + 1 + 1)
    opened = begun ∙ want_met ts ws n h (i + 1) _ refl Colon _ e

    module _ (t : ℕ) (q : t ≡ kind_word ws n (i + 1 + 1)) (y : is_type t ≡ true) where
      typing : Parse.map_field ts i ≡ Parse.want ts Semicolon (ok (typed (kind_at ts i) (kind_at ts (i + 1 + 1)))) (i + 1 + 1 + 1)
      typing = opened ∙ key_yes ts _ (i + 1 + 1) (ap is_type (sym (seen ts ws n h (i + 1 + 1) t q)) ∙ y)

      -- and the field, of the kind x, ends behind it
      whole : kind_word ws n (i + 1 + 1 + 1) ≡ Semicolon → (x : ℕ) → kind ≡ x
          → Parse.map_field ts i ≡ ok (typed x t) (i + 1 + 1 + 1 + 1)
      whole z x r =
          let k = seen ts ws n h i kind w in
          let u : ok (typed (kind_at ts i) (kind_at ts (i + 1 + 1))) (i + 1 + 1 + 1 + 1) ≡ ok (typed x t) (i + 1 + 1 + 1 + 1) =
          cc (k, r, seen ts ws n h (i + 1 + 1) t q) in
          typing ∙ want_met ts ws n h (i + 1 + 1 + 1) _ refl Semicolon _ z ∙ u

pub returns-then-kind_at-ne-COLON : goal.returns-then-kind_at-ne-COLON
returns-then-kind_at-ne-COLON c ts h =
    let a = c.args in
    answer_err (over a.f) _ _ _ _ _
    (begun h a.f.row a.kind c.requires.0.word c.requires.1
    ∙ want_unmet ts a.rows.now a.count h (a.f.row + 1) _ c.kind_at.ensures Colon _ c.if-kind_at-ne-COLON.true)
    c.wanted.ensures c.new.ensures

pub returns-then-t-eq-EOF : goal.returns-then-t-eq-EOF
returns-then-t-eq-EOF c ts h =
    let a = c.args in
    let q = seen ts a.rows.now a.count h (a.f.row + 1 + 1) _ c.kind_at-t.ensures in
    answer_err (over a.f) _ _ _ _ _
    (opened h a.f.row a.kind c.requires.0.word c.requires.1 (sym c.kind_at.ensures ∙ c.if-kind_at-ne-COLON.false)
    ∙ key_end ts _ (a.f.row + 1 + 1) (sym q ∙ c.if-t-eq-EOF.true))
    refl c.new-then-t-eq-EOF.ensures

pub returns-then-not-matches : goal.returns-then-not-matches
returns-then-not-matches c ts h =
    let a = c.args in
    let q = seen ts a.rows.now a.count h (a.f.row + 1 + 1) _ c.kind_at-t.ensures in
    let b : is_type c.kind_at-t.result ≡ false = search rules in
    answer_err (over a.f) _ _ _ _ _
    (opened h a.f.row a.kind c.requires.0.word c.requires.1 (sym c.kind_at.ensures ∙ c.if-kind_at-ne-COLON.false)
    ∙ key_no ts _ (a.f.row + 1 + 1) (ap is_type (sym q) ∙ b) (λ e. c.if-t-eq-EOF.false (q ∙ e)))
    refl c.new-then-not-matches.ensures

pub returns-then-kind_at-ne-SEMICOLON : goal.returns-then-kind_at-ne-SEMICOLON
returns-then-kind_at-ne-SEMICOLON c ts h =
    let a = c.args in
    let b : is_type c.kind_at-t.result ≡ true = search rules in
    answer_err (over a.f) _ _ _ _ _
    (typing h a.f.row a.kind c.requires.0.word c.requires.1 (sym c.kind_at.ensures ∙ c.if-kind_at-ne-COLON.false) _ c.kind_at-t.ensures b
    ∙ want_unmet ts a.rows.now a.count h (a.f.row + 1 + 1 + 1) _ c.kind_at-2.ensures Semicolon _ c.if-kind_at-ne-SEMICOLON.true)
    c.wanted-then-kind_at-ne-SEMICOLON.ensures c.new-then-kind_at-ne-SEMICOLON.ensures

pub returns-then-kind-eq-KEY : goal.returns-then-kind-eq-KEY
returns-then-kind-eq-KEY c ts h =
    let a = c.args in
    let t : ℕ = c.kind_at-t.result in
    let b : is_type t ≡ true = search rules in
    let j : ℕ = a.f.row + 1 + 1 + 1 + 1 in
    steps_to a.f _ (typed KeywordKey t) j _
    (whole h a.f.row a.kind c.requires.0.word c.requires.1 (sym c.kind_at.ensures ∙ c.if-kind_at-ne-COLON.false) t c.kind_at-t.ensures b
    (sym c.kind_at-2.ensures ∙ c.if-kind_at-ne-SEMICOLON.false) KeywordKey c.if-kind-eq-KEY.true)
    (over_key a.f j t (type_low t b) ∙ ap (λ (x : ℕ). facts_at j a.f.maptype (Some x) a.f.value a.f.max) (sym c.type_number.ensures))

pub returns : goal.returns
returns c ts h =
    let a = c.args in
    let t : ℕ = c.kind_at-t.result in
    let b : is_type t ≡ true = search rules in
    let j : ℕ = a.f.row + 1 + 1 + 1 + 1 in
    let v : a.kind ≡ KeywordValue =
    either_kind (λ x. (x ≡ KeywordKey → ⊥) → x ≡ KeywordValue) a.kind KeywordKey KeywordValue c.requires.1
    (λ z. absurd (z refl)) (λ z. refl) c.if-kind-eq-KEY.false in
    steps_to a.f _ (typed KeywordValue t) j _
    (whole h a.f.row a.kind c.requires.0.word c.requires.1 (sym c.kind_at.ensures ∙ c.if-kind_at-ne-COLON.false) t c.kind_at-t.ensures b
    (sym c.kind_at-2.ensures ∙ c.if-kind_at-ne-SEMICOLON.false) KeywordValue v)
    (over_value a.f j t (type_low t b) ∙ ap (λ (x : ℕ). facts_at j a.f.maptype a.f.key (Some x) a.f.max) (sym c.type_number.ensures))
