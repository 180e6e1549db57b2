-- The row's kind says which field it is.
use mathlib.Core.Path.{◌≡◌, refl, sym, ap, ◌∙◌}
use mathlib.Core.Bool.{false}
use Prim.Native.Nat.{ℕ}
use native.Mathlib.Omega.{arith}
use borrow.Author.Rules.{rules}
use Rattle.rules.specs.Parse.{is_typed}
use Rattle.theory_grammar.proofs.Cases.{field_nothing}
use Rattle.parse_nodes.proofs.Seen.{seen}
use Rattle.parse_maps.specs.Steps.{over}
use Rattle.parse_maps.proofs.Answers.{answer_err}
use Rattle.parse_maps.proofs.field.Goals as goal

pub returns-in_default : goal.returns-in_default
returns-in_default c ts h =
    let a = c.args in
    let i : ℕ = a.f.row in
    let q = seen ts a.rows.now a.count h.tells i _ c.kind_at-k.ensures in
    let b : is_typed c.kind_at-k.result ≡ false = search rules in
    answer_err (over a.f) _ _ _ _ _
    (field_nothing ts i (λ e. absurd (omega (arith, q, e))) (ap is_typed (sym q) ∙ b) (λ e. absurd (omega (arith, q, e))))
    refl c.new.ensures
