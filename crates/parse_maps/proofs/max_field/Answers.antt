-- A chain whose value fits a word, and `;`.
use mathlib.Core.Path.{◌≡◌, refl, sym, ap, ◌∙◌}
use mathlib.Core.Bool.{not}
use mathlib.Core.List.{List}
use Prim.Native.Nat.{ℕ, ◌+◌, ◌^◌}
use native.Mathlib.Omega.{arith}
use lib.Dec.{leb}
use borrow.Author.Tests.{le-leb, lt-leb}
use Rattle.std.specs.Prelude.{Some}
use Rattle.std.proofs.lemmas.Result.{err_from_is_err_and}
use Rattle.rules.specs.Parse
use Rattle.rules.specs.Kinds.{Semicolon, Colon, KeywordMax}
use Rattle.rules.specs.Fits.{only, shifts}
use Rattle.rules.specs.Tree.{Tok, Tree, max_bits, limit}
use Rattle.rules.specs.Parse.{then, Out, ok, most32}
use Rattle.theory_grammar.proofs.Cases.{field_limiting, then_ok, then_no, want_in_yes, want_in_no, limit_negative, limit_large, limit_fine}
use Rattle.theory_grammar.proofs.Ends.{ends_chain}
use Rattle.theory_grammar.proofs.Runs.{all_ok}
use Rattle.parse_nodes.specs.Post.{kind_word, Tells}
use Rattle.parse_nodes.proofs.Rows.{word_here, tokens, tells_some}
use Rattle.parse_nodes.proofs.Seen.{seen, want_met, want_unmet}
use Rattle.parse_maps.specs.declared.Sum.{Sum}
use Rattle.parse_maps.specs.Steps.{over, sum_of}
use Rattle.parse_maps.proofs.Answers.{Summing, answer_err, answer_refused, sum_gave}
use Rattle.parse_maps.proofs.Last.{facts_at, steps_to, over_limit}
use Rattle.parse_maps.proofs.max_field.Goals as goal

-- the bounds of what is read
abbrev bounded : List Tok → Tree → ℕ → Out
bounded ts c k = Parse.limit_by ts (leb (2 ^ 63) (max_bits c)) (not (leb (max_bits c) most32)) c k

-- the row that ends it
abbrev closing : List Tok → Tree → ℕ → Out
closing ts c k = Parse.want_in ts (only Semicolon + shifts) Semicolon (ok (limit c)) k

-- what stands behind the colon
abbrev behind : List Tok → ℕ → Out
behind ts j = then (Parse.chain ts j) (λ c k. bounded ts c k)

-- what the parser does on the way
module _ {ts : List Tok} {ws : List ℕ} {n : ℕ} (h : Tells ts ws n) (i : ℕ) (k : KeywordMax ≡ kind_word ws n i) where
  begun : Parse.map_field ts i ≡ Parse.want ts Colon (behind ts) (i + 1)
  begun = field_limiting ts i (sym (seen ts ws n h i KeywordMax k))

  module _ (e : kind_word ws n (i + 1) ≡ Colon) where
    opened : Parse.map_field ts i ≡ behind ts (i + 1 + 1)
    opened = begun ∙ want_met ts ws n h (i + 1) _ refl Colon _ e

    module _ (s : Sum) (g : Summing (Parse.chain ts (i + 1 + 1)) s) where
      limited : Parse.map_field ts i ≡ bounded ts g.tree s.row
      limited = opened ∙ then_ok _ _ g.tree s.row g.is

pub returns-then-kind_at-ne-COLON : goal.returns-then-kind_at-ne-COLON
returns-then-kind_at-ne-COLON c ts h =
    let a = c.args in
    answer_err (over a.f) _ _ _ _ _
    (begun h a.f.row c.requires.word
    ∙ want_unmet ts a.rows.now a.count h (a.f.row + 1) _ c.kind_at.ensures Colon _ c.if-kind_at-ne-COLON.true)
    c.wanted.ensures c.new.ensures

pub chain-requires : goal.chain-requires
chain-requires c =
    let a = c.args in
    let p = c.requires.at in
    let h = word_here a.rows.now a.count (a.f.row + 1) Colon (sym c.kind_at.ensures ∙ c.if-kind_at-ne-COLON.false) refl in
    record { lent = p.lent; inside = omega arith; few = omega arith; short = p.short; nest = p.nest }

pub returns-in_err-s : goal.returns-in_err-s
returns-in_err-s c ts h =
    let a = c.args in
    let p = err_from_is_err_and c.from_residual.result c.from_residual.ensures.1 in
    rw (p.1, p.2)
    (answer_err (over a.f) _ _ _ _ _
    (opened h a.f.row c.requires.word (sym c.kind_at.ensures ∙ c.if-kind_at-ne-COLON.false)
    ∙ then_no _ _ _ _ (answer_refused sum_of (Parse.chain ts (a.f.row + 1 + 1)) _ _ (c.chain.ensures ts h) c.in_err-s.was))
    refl refl)

pub returns-then-s-ge-SIGN_BIT : goal.returns-then-s-ge-SIGN_BIT
returns-then-s-ge-SIGN_BIT c ts h =
    let a = c.args in
    let s = c.in_ok-s.s in
    let g = sum_gave (Parse.chain ts (a.f.row + 1 + 1)) _ s (c.chain.ensures ts h) c.in_ok-s.was in
    answer_err (over a.f) _ _ _ _ _
    (limited h a.f.row c.requires.word (sym c.kind_at.ensures ∙ c.if-kind_at-ne-COLON.false) s g
    ∙ limit_negative ts g.tree s.row (le-leb (2 ^ 63) (max_bits g.tree) (rw g.bits c.if-s-ge-SIGN_BIT.true)))
    refl c.new-then-s-ge-SIGN_BIT.ensures

pub overflow_sub-end : goal.overflow_sub-end
overflow_sub-end c =
    let a = c.args in
    let ts : List Tok = tokens a.rows.now a.count in
    let s = c.in_ok-s.s in
    let g = sum_gave (Parse.chain ts (a.f.row + 1 + 1)) _ s (c.chain.ensures ts (tells_some a.rows.now a.count)) c.in_ok-s.was in
    omega (arith, (all_ok _ _ g.tree s.row (ends_chain ts (a.f.row + 1 + 1)) g.is).0)

pub returns-then-s-gt-MOST_WORD : goal.returns-then-s-gt-MOST_WORD
returns-then-s-gt-MOST_WORD c ts h =
    let a = c.args in
    let s = c.in_ok-s.s in
    let g = sum_gave (Parse.chain ts (a.f.row + 1 + 1)) _ s (c.chain.ensures ts h) c.in_ok-s.was in
    let b = lt-leb (2 ^ 63) (max_bits g.tree) (rw g.bits c.if-s-ge-SIGN_BIT.false) in
    let e = lt-leb (max_bits g.tree) most32 (rw g.bits c.if-s-gt-MOST_WORD.true) in
    answer_err (over a.f) _ _ _ _ _
    (limited h a.f.row c.requires.word (sym c.kind_at.ensures ∙ c.if-kind_at-ne-COLON.false) s g ∙ limit_large ts g.tree s.row b e)
    refl c.new-then-s-gt-MOST_WORD.ensures

pub returns-then-kind_at-ne-SEMICOLON : goal.returns-then-kind_at-ne-SEMICOLON
returns-then-kind_at-ne-SEMICOLON c ts h =
    let a = c.args in
    let s = c.in_ok-s.s in
    let g = sum_gave (Parse.chain ts (a.f.row + 1 + 1)) _ s (c.chain.ensures ts h) c.in_ok-s.was in
    let b = lt-leb (2 ^ 63) (max_bits g.tree) (rw g.bits c.if-s-ge-SIGN_BIT.false) in
    let e = le-leb (max_bits g.tree) most32 (rw g.bits c.if-s-gt-MOST_WORD.false) in
    let k = seen ts a.rows.now a.count h s.row _ c.kind_at-2.ensures in
    answer_err (over a.f) _ _ _ _ _
    (limited h a.f.row c.requires.word (sym c.kind_at.ensures ∙ c.if-kind_at-ne-COLON.false) s g ∙ limit_fine ts g.tree s.row b e
    ∙ want_in_no ts _ Semicolon _ s.row (λ z. c.if-kind_at-ne-SEMICOLON.true (k ∙ z)))
    c.wrong.ensures c.new-then-kind_at-ne-SEMICOLON.ensures

pub overflow_add-result : goal.overflow_add-result
overflow_add-result c =
    let a = c.args in
    let e = sym c.kind_at-2.ensures ∙ c.if-kind_at-ne-SEMICOLON.false in
    omega (arith, word_here a.rows.now a.count c.in_ok-s.s.row Semicolon e refl, c.requires.at.short)

pub returns : goal.returns
returns c ts h =
    let a = c.args in
    let f = a.f in
    let s = c.in_ok-s.s in
    let g = sum_gave (Parse.chain ts (f.row + 1 + 1)) _ s (c.chain.ensures ts h) c.in_ok-s.was in
    let b = lt-leb (2 ^ 63) (max_bits g.tree) (rw g.bits c.if-s-ge-SIGN_BIT.false) in
    let e = le-leb (max_bits g.tree) most32 (rw g.bits c.if-s-gt-MOST_WORD.false) in
    let k = seen ts a.rows.now a.count h s.row _ c.kind_at-2.ensures in
    steps_to f _ (limit g.tree) (s.row + 1) _
    (limited h f.row c.requires.word (sym c.kind_at.ensures ∙ c.if-kind_at-ne-COLON.false) s g ∙ limit_fine ts g.tree s.row b e
    ∙ want_in_yes ts _ Semicolon _ s.row (sym k ∙ c.if-kind_at-ne-SEMICOLON.false))
    (over_limit f (s.row + 1) g.tree ∙ ap (λ (x : ℕ). facts_at (s.row + 1) f.maptype f.key f.value (Some x)) g.bits)
