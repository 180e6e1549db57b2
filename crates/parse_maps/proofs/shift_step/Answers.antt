-- A number up to 63 behind the sign.
use mathlib.Core.Path.{◌≡◌, refl, sym, ◌∙◌, subst}
use mathlib.Core.List.{List}
use Prim.Native.Nat.{ℕ, ◌+◌}
use native.Mathlib.Omega.{arith}
use lib.Dec.{leb}
use borrow.Author.Tests.{le-leb, lt-leb}
use Rattle.std.specs.Prelude.{Ok}
use Rattle.rules.specs.Parse
use Rattle.rules.specs.Tree.{Tok, Tree, max_bits, shifted}
use Rattle.rules.specs.Kinds.{Number}
use Rattle.rules.specs.Parse.{kind_at, most_shift}
use Rattle.theory_grammar.proofs.Cases.{chain_step, count_yes, count_no}
use Rattle.parse_nodes.specs.Post.{kind_word, Tells}
use Rattle.parse_nodes.proofs.Rows.{word_here}
use Rattle.parse_nodes.proofs.Seen.{seen, valued_met, valued_unmet}
use Rattle.parse_maps.specs.Steps.{Adds, bits_at, sum_of}
use Rattle.parse_maps.proofs.Answers.{answer_ok, answer_err}
use Rattle.parse_maps.proofs.shift_step.Goals as goal

-- the count behind the sign at row i
valued : {ts : List Tok} {ws : List ℕ} {n : ℕ} → Tells ts ws n → (t : Tree) (i : ℕ) → kind_word ws n (i + 1) ≡ Number
    → Parse.chain_step ts t i ≡ Parse.count_by ts (leb (bits_at ws (i + 1)) most_shift) t i (bits_at ws (i + 1)) (i + 1 + 1)
valued {ts} {ws} {n} h t i k = chain_step ts t i ∙ valued_met ts ws n h (i + 1) _ refl _ k

pub returns-then-kind_at-ne-NUMBER : goal.returns-then-kind_at-ne-NUMBER
returns-then-kind_at-ne-NUMBER c ts h t q =
    let a = c.args in
    answer_err sum_of _ _ _ _ _
    (chain_step ts t a.s.row
    ∙ valued_unmet ts a.rows.now a.count h (a.s.row + 1) _ c.kind_at.ensures _ c.if-kind_at-ne-NUMBER.true)
    c.wanted.ensures c.new.ensures

pub bits_at-c-requires : goal.bits_at-c-requires
bits_at-c-requires c =
    let a = c.args in
    let h = word_here a.rows.now a.count (a.s.row + 1) Number (sym c.kind_at.ensures ∙ c.if-kind_at-ne-NUMBER.false) refl in
    omega (arith, h, c.requires.at.lent)

pub returns-then-c-gt-MOST_SHIFT : goal.returns-then-c-gt-MOST_SHIFT
returns-then-c-gt-MOST_SHIFT c ts h t q =
    let a = c.args in
    let i : ℕ = a.s.row in
    let v : ℕ = bits_at a.rows.now (i + 1) in
    answer_err sum_of _ _ _ _ _
    (valued h t i (sym c.kind_at.ensures ∙ c.if-kind_at-ne-NUMBER.false)
    ∙ count_no ts t i v (i + 1 + 1) (lt-leb v most_shift (rw (← c.bits_at-c.ensures) c.if-c-gt-MOST_SHIFT.true)))
    refl c.new-then-c-gt-MOST_SHIFT.ensures

pub returns : goal.returns
unfolding max_bits
returns c ts h t q =
    let a = c.args in
    let i : ℕ = a.s.row in
    let v : ℕ = bits_at a.rows.now (i + 1) in
    let k = seen ts a.rows.now a.count h i a.kind c.requires.word in
    let e : c.shifted.result ≡ max_bits (shifted (kind_at ts i) t v) = cc (c.shifted.ensures, k, q, c.bits_at-c.ensures) in
    subst (λ (x : ℕ). Adds (Parse.chain_step ts t i) (Ok (record { row = i + 1 + 1; bits = x }))) (sym e)
    (answer_ok sum_of _ (shifted (kind_at ts i) t v) (i + 1 + 1)
    (valued h t i (sym c.kind_at.ensures ∙ c.if-kind_at-ne-NUMBER.false)
    ∙ count_yes ts t i v (i + 1 + 1) (le-leb v most_shift (rw (← c.bits_at-c.ensures) c.if-c-gt-MOST_SHIFT.false))))
