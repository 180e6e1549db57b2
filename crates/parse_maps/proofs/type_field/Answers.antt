-- A dot and a name that is a map type, and `;`.
use mathlib.Core.Path.{◌≡◌, refl, sym, ap, ◌∙◌}
use mathlib.Core.Bool.{true, false}
use mathlib.Core.List.{List}
use Prim.Native.Nat.{ℕ, ◌+◌, ◌*◌, ◌-◌}
use native.Mathlib.Omega.{arith}
use lib.Dec.{eqb}
use lib.ListN.{get_or, take, drop}
use Rattle.std.specs.Prelude.{Option, is_none}
use Rattle.rules.specs.Parse
use Rattle.rules.specs.Kinds.{Semicolon, Identifier, Colon, Dot, KeywordType}
use Rattle.rules.specs.Tree.{Tok, map_type, spelling_of, map_type_number}
use Rattle.rules.specs.declared.Syntax.TheVariants.{MapTypeUnknown}
use Rattle.rules.specs.Parse.{Out, ok, no, tok_at}
use Rattle.theory_grammar.proofs.Cases.{field_typing, type_unknown, type_known}
use Rattle.parse_nodes.specs.Post.{kind_word}
use Rattle.parse_nodes.specs.Names.{Names}
use Rattle.parse_nodes.proofs.Rows.{word_here, word_at_lem}
use Rattle.parse_nodes.proofs.Seen.{seen, want_met, want_unmet, named_met, named_unmet}
use Rattle.parse_maps.specs.Steps.{told, over}
use Rattle.parse_maps.proofs.Answers.{answer_err}
use Rattle.parse_maps.proofs.Limits.{none_told, told_is_none, told_is_some}
use Rattle.parse_maps.proofs.Last.{steps_to, over_type}
use Rattle.parse_maps.proofs.type_field.Goals as goal

-- the type behind the dot, of the name w
abbrev type_of : List Tok → List ℕ → ℕ → Out
type_of ts w j = Parse.type_by ts (eqb (map_type_number w) 0) w j

abbrev spelt : List Tok → ℕ → List ℕ
spelt ts i = spelling_of (tok_at ts (i + 1 + 1 + 1))

-- the spelling in the text of the name behind row i
abbrev word : List ℕ → List ℕ → ℕ → List ℕ
word t ws i =
    let r : ℕ = (i + 1 + 1 + 1) * 8 in
    take (get_or ws (r + 2) 0 - get_or ws (r + 1) 0) (drop (get_or ws (r + 1) 0) t)

-- what the parser does on the way
module _ {ts : List Tok} {t ws : List ℕ} {n : ℕ} (h : Names ts t ws n) (i : ℕ) (k : KeywordType ≡ kind_word ws n i) where
  begun : Parse.map_field ts i ≡ Parse.want ts Colon (Parse.want ts Dot (Parse.named ts (type_of ts))) (i + 1)
  begun = field_typing ts i (sym (seen ts ws n h.tells i KeywordType k))

  module _ (e : kind_word ws n (i + 1) ≡ Colon) where
    opened : Parse.map_field ts i ≡ Parse.want ts Dot (Parse.named ts (type_of ts)) (i + 1 + 1)
    opened = begun ∙ want_met ts ws n h.tells (i + 1) _ refl Colon _ e

    module _ (d : kind_word ws n (i + 1 + 1) ≡ Dot) where
      dotted : Parse.map_field ts i ≡ Parse.named ts (type_of ts) (i + 1 + 1 + 1)
      dotted = opened ∙ want_met ts ws n h.tells (i + 1 + 1) _ refl Dot _ d

      module _ (w : kind_word ws n (i + 1 + 1 + 1) ≡ Identifier) where
        called : Parse.map_field ts i ≡ type_of ts (spelt ts i) (i + 1 + 1 + 1 + 1)
        called = dotted ∙ named_met ts ws n h.tells (i + 1 + 1 + 1) _ refl _ w

        module _ (o : Option ℕ) (q : o ≡ told (map_type_number (word t ws i))) where
          -- the number is that of the name
          number : o ≡ told (map_type_number (spelt ts i))
          number =
              let l = word_here ws n (i + 1 + 1 + 1) Identifier w refl in
              q ∙ ap (λ x. told (map_type_number x)) (sym (h.names (i + 1 + 1 + 1) l (sym (word_at_lem ws n (i + 1 + 1 + 1) l) ∙ w)))

          known : is_none o ≡ false → Parse.map_field ts i ≡ Parse.want ts Semicolon (ok (map_type (spelt ts i))) (i + 1 + 1 + 1 + 1)
          known z = called ∙ type_known ts _ (i + 1 + 1 + 1 + 1) (told_is_some _ o number z)

          unknown : is_none o ≡ true → Parse.map_field ts i ≡ no MapTypeUnknown (i + 1 + 1 + 1 + 1)
          unknown z = called ∙ type_unknown ts _ (i + 1 + 1 + 1 + 1) (told_is_none _ o number z)

pub returns-then-kind_at-ne-COLON : goal.returns-then-kind_at-ne-COLON
returns-then-kind_at-ne-COLON c ts h =
    let a = c.args in
    answer_err (over a.f) _ _ _ _ _
    (begun h a.f.row c.requires.0.word
    ∙ want_unmet ts a.rows.now a.count h.tells (a.f.row + 1) _ c.kind_at.ensures Colon _ c.if-kind_at-ne-COLON.true)
    c.wanted.ensures c.new.ensures

pub returns-then-kind_at-ne-DOT : goal.returns-then-kind_at-ne-DOT
returns-then-kind_at-ne-DOT c ts h =
    let a = c.args in
    answer_err (over a.f) _ _ _ _ _
    (opened h a.f.row c.requires.0.word (sym c.kind_at.ensures ∙ c.if-kind_at-ne-COLON.false)
    ∙ want_unmet ts a.rows.now a.count h.tells (a.f.row + 1 + 1) _ c.kind_at-2.ensures Dot _ c.if-kind_at-ne-DOT.true)
    c.wanted-then-kind_at-ne-DOT.ensures c.new-then-kind_at-ne-DOT.ensures

pub returns-then-kind_at-ne-IDENTIFIER : goal.returns-then-kind_at-ne-IDENTIFIER
returns-then-kind_at-ne-IDENTIFIER c ts h =
    let a = c.args in
    answer_err (over a.f) _ _ _ _ _
    (dotted h a.f.row c.requires.0.word (sym c.kind_at.ensures ∙ c.if-kind_at-ne-COLON.false)
    (sym c.kind_at-2.ensures ∙ c.if-kind_at-ne-DOT.false)
    ∙ named_unmet ts a.rows.now a.count h.tells (a.f.row + 1 + 1 + 1) _ c.kind_at-3.ensures _ c.if-kind_at-ne-IDENTIFIER.true)
    c.wanted-then-kind_at-ne-IDENTIFIER.ensures c.new-then-kind_at-ne-IDENTIFIER.ensures

pub bounds-rows-words : goal.bounds-rows-words
bounds-rows-words c =
    let a = c.args in
    let l = word_here a.rows.now a.count (a.f.row + 1 + 1 + 1) Identifier (sym c.kind_at-3.ensures ∙ c.if-kind_at-ne-IDENTIFIER.false) refl in
    omega (arith, l, c.requires.0.at.lent)

pub bounds-rows-words-2 : goal.bounds-rows-words-2
bounds-rows-words-2 c =
    let a = c.args in
    let l = word_here a.rows.now a.count (a.f.row + 1 + 1 + 1) Identifier (sym c.kind_at-3.ensures ∙ c.if-kind_at-ne-IDENTIFIER.false) refl in
    omega (arith, l, c.requires.0.at.lent)

pub slice_bounds-type_number-count : goal.slice_bounds-type_number-count
slice_bounds-type_number-count c =
    let a = c.args in
    let l = word_here a.rows.now a.count (a.f.row + 1 + 1 + 1) Identifier (sym c.kind_at-3.ensures ∙ c.if-kind_at-ne-IDENTIFIER.false) refl in
    c.requires.1.order (a.f.row + 1 + 1 + 1) l

pub slice_bounds-type_number-start : goal.slice_bounds-type_number-start
slice_bounds-type_number-start c =
    let a = c.args in
    let l = word_here a.rows.now a.count (a.f.row + 1 + 1 + 1) Identifier (sym c.kind_at-3.ensures ∙ c.if-kind_at-ne-IDENTIFIER.false) refl in
    c.requires.1.order (a.f.row + 1 + 1 + 1) l

pub slice_bounds-type_number-end : goal.slice_bounds-type_number-end
slice_bounds-type_number-end c =
    let a = c.args in
    let l = word_here a.rows.now a.count (a.f.row + 1 + 1 + 1) Identifier (sym c.kind_at-3.ensures ∙ c.if-kind_at-ne-IDENTIFIER.false) refl in
    c.requires.1.inside (a.f.row + 1 + 1 + 1) l

pub returns-then-is_none : goal.returns-then-is_none
returns-then-is_none c ts h =
    let a = c.args in
    answer_err (over a.f) _ _ _ _ _
    (unknown h a.f.row c.requires.0.word (sym c.kind_at.ensures ∙ c.if-kind_at-ne-COLON.false)
    (sym c.kind_at-2.ensures ∙ c.if-kind_at-ne-DOT.false) (sym c.kind_at-3.ensures ∙ c.if-kind_at-ne-IDENTIFIER.false)
    _ c.type_number-maptype.ensures (none_told _ true c.if-is_none.ensures))
    refl c.new-then-is_none.ensures

pub returns-then-kind_at-ne-SEMICOLON : goal.returns-then-kind_at-ne-SEMICOLON
returns-then-kind_at-ne-SEMICOLON c ts h =
    let a = c.args in
    answer_err (over a.f) _ _ _ _ _
    (known h a.f.row c.requires.0.word (sym c.kind_at.ensures ∙ c.if-kind_at-ne-COLON.false)
    (sym c.kind_at-2.ensures ∙ c.if-kind_at-ne-DOT.false) (sym c.kind_at-3.ensures ∙ c.if-kind_at-ne-IDENTIFIER.false)
    _ c.type_number-maptype.ensures (none_told _ false c.if-is_none.ensures)
    ∙ want_unmet ts a.rows.now a.count h.tells (a.f.row + 1 + 1 + 1 + 1) _ c.kind_at-4.ensures Semicolon _ c.if-kind_at-ne-SEMICOLON.true)
    c.wanted-then-kind_at-ne-SEMICOLON.ensures c.new-then-kind_at-ne-SEMICOLON.ensures

pub returns : goal.returns
returns c ts h =
    let a = c.args in
    let i : ℕ = a.f.row in
    let o = c.type_number-maptype.result in
    let e1 = sym c.kind_at.ensures ∙ c.if-kind_at-ne-COLON.false in
    let e2 = sym c.kind_at-2.ensures ∙ c.if-kind_at-ne-DOT.false in
    let e3 = sym c.kind_at-3.ensures ∙ c.if-kind_at-ne-IDENTIFIER.false in
    steps_to a.f _ (map_type (spelt ts i)) (i + 1 + 1 + 1 + 1 + 1) _
    (known h i c.requires.0.word e1 e2 e3 o c.type_number-maptype.ensures (none_told _ false c.if-is_none.ensures)
    ∙ want_met ts a.rows.now a.count h.tells (i + 1 + 1 + 1 + 1) _ c.kind_at-4.ensures Semicolon _ c.if-kind_at-ne-SEMICOLON.false)
    (over_type a.f (i + 1 + 1 + 1 + 1 + 1) (spelt ts i) o
    (number h i c.requires.0.word e1 e2 e3 o c.type_number-maptype.ensures) (none_told _ false c.if-is_none.ensures))
