-- A number of one word, then `]` and `;`.
use mathlib.Core.Path.{◌≡◌, refl, sym, ◌∙◌}
use mathlib.Core.List.{List}
use Prim.Native.Nat.{ℕ, ◌+◌, ◌*◌, ◌^◌, ◌≤◌}
use native.Mathlib.Omega.{arith}
use lib.Dec.{leb}
use lib.ListN.{get_or}
use borrow.Author.Tests.{le-leb, lt-leb}
use Rattle.rules.specs.Parse
use Rattle.rules.specs.Kinds.{Number, RBracket, Semicolon}
use Rattle.rules.specs.Tree.{Tok, Tree}
use Rattle.rules.specs.Parse.{ok, most32}
use Rattle.theory_grammar.proofs.Cases.{length_is, length_yes, length_no}
use Rattle.parse_nodes.specs.Post.{kind_word, Tells}
use Rattle.parse_nodes.proofs.Rows.{word_here}
use Rattle.parse_nodes.proofs.Seen.{want_met, want_unmet, valued_met, valued_unmet}
use Rattle.parse_events.proofs.Nodes.{found_ok, found_err}
use Rattle.parse_events.proofs.length_at.Goals as goal

-- the number's two words, and its value
abbrev low : List ℕ → ℕ → ℕ
low ws i = get_or ws (i * 8 + 5) 0

abbrev bits : List ℕ → ℕ → ℕ
bits ws i = get_or ws (i * 8 + 6) 0 * 2 ^ 32 + low ws i

-- what the parser does on the way
module _ {ts : List Tok} {ws : List ℕ} {n : ℕ} (h : Tells ts ws n) (f : ℕ → Tree) (i : ℕ) (k : kind_word ws n i ≡ Number) where
  value : Parse.length_at ts f i ≡ Parse.length_by ts (leb (bits ws i) most32) f (bits ws i) i (i + 1)
  value = length_is ts f i ∙ valued_met ts ws n h i _ refl _ k

  module _ (z : get_or ws (i * 8 + 6) 0 ≡ 0) (b : low ws i ≤ most32) where
    -- a number of one word is in range
    bounded : Parse.length_at ts f i ≡ Parse.want ts RBracket (Parse.want ts Semicolon (ok (f (low ws i)))) (i + 1)
    bounded =
        let e : bits ws i ≡ low ws i = omega (arith, z) in
        value ∙ rw e (length_yes ts f (low ws i) _ _ (le-leb (low ws i) most32 b))

    -- and behind it stands `]`
    closed : kind_word ws n (i + 1) ≡ RBracket → Parse.length_at ts f i ≡ Parse.want ts Semicolon (ok (f (low ws i))) (i + 1 + 1)
    closed r = bounded ∙ want_met ts ws n h (i + 1) _ refl RBracket _ r

pub returns-then-kind_at-ne-NUMBER : goal.returns-then-kind_at-ne-NUMBER
returns-then-kind_at-ne-NUMBER c ts h f g =
    let a = c.args in
    found_err _ _ _ _ _
    (length_is ts f a.row ∙ valued_unmet ts a.rows.now a.count h a.row _ c.kind_at.ensures _ c.if-kind_at-ne-NUMBER.true)
    c.wanted.ensures c.new.ensures

pub bounds-rows-at : goal.bounds-rows-at
bounds-rows-at c =
    let a = c.args in
    let i = word_here a.rows.now a.count a.row Number (sym c.kind_at.ensures ∙ c.if-kind_at-ne-NUMBER.false) refl in
    omega (arith, i)

pub returns-then-rows-at-ne0 : goal.returns-then-rows-at-ne0
returns-then-rows-at-ne0 c ts h f g =
    let a = c.args in
    let b = bits a.rows.now a.row in
    found_err _ _ _ _ _
    (value h f a.row (sym c.kind_at.ensures ∙ c.if-kind_at-ne-NUMBER.false)
    ∙ length_no ts f b a.row (a.row + 1) (lt-leb b most32 (omega (arith, c.if-rows-at-ne0.true))))
    refl c.new-then-rows-at-ne0.ensures

pub bounds-rows-at-2 : goal.bounds-rows-at-2
bounds-rows-at-2 c =
    let a = c.args in
    let i = word_here a.rows.now a.count a.row Number (sym c.kind_at.ensures ∙ c.if-kind_at-ne-NUMBER.false) refl in
    omega (arith, i)

pub returns-then-kind_at-ne-RBRACKET : goal.returns-then-kind_at-ne-RBRACKET
returns-then-kind_at-ne-RBRACKET c ts h f g =
    let a = c.args in
    let w = c.type_inv.rows (a.row * 8 + 5) in
    found_err _ _ _ _ _
    (bounded h f a.row (sym c.kind_at.ensures ∙ c.if-kind_at-ne-NUMBER.false) c.if-rows-at-ne0.false (omega (arith, w))
    ∙ want_unmet ts a.rows.now a.count h (a.row + 1) _ c.kind_at-2.ensures RBracket _ c.if-kind_at-ne-RBRACKET.true)
    c.wanted-then-kind_at-ne-RBRACKET.ensures c.new-then-kind_at-ne-RBRACKET.ensures

pub returns-then-kind_at-ne-SEMICOLON : goal.returns-then-kind_at-ne-SEMICOLON
returns-then-kind_at-ne-SEMICOLON c ts h f g =
    let a = c.args in
    let w = c.type_inv.rows (a.row * 8 + 5) in
    found_err _ _ _ _ _
    (closed h f a.row (sym c.kind_at.ensures ∙ c.if-kind_at-ne-NUMBER.false) c.if-rows-at-ne0.false (omega (arith, w))
    (sym c.kind_at-2.ensures ∙ c.if-kind_at-ne-RBRACKET.false)
    ∙ want_unmet ts a.rows.now a.count h (a.row + 1 + 1) _ c.kind_at-3.ensures Semicolon _ c.if-kind_at-ne-SEMICOLON.true)
    c.wanted-then-kind_at-ne-SEMICOLON.ensures c.new-then-kind_at-ne-SEMICOLON.ensures

pub returns : goal.returns
returns c ts h f g =
    let a = c.args in
    let w = c.type_inv.rows (a.row * 8 + 5) in
    found_ok _ (f (low a.rows.now a.row)) _ _ _ _
    (closed h f a.row (sym c.kind_at.ensures ∙ c.if-kind_at-ne-NUMBER.false) c.if-rows-at-ne0.false (omega (arith, w))
    (sym c.kind_at-2.ensures ∙ c.if-kind_at-ne-RBRACKET.false)
    ∙ want_met ts a.rows.now a.count h (a.row + 1 + 1) _ c.kind_at-3.ensures Semicolon _ c.if-kind_at-ne-SEMICOLON.false)
    (g (low a.rows.now a.row))
