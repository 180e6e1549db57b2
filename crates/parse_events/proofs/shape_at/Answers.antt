-- `bytes` with a length, a type, or neither.
use mathlib.Core.Path.{◌≡◌, refl, sym, ap, ◌∙◌}
use mathlib.Core.Bool.{true, false}
use Prim.Native.Nat.{◌+◌}
use native.Mathlib.Omega.{arith}
use borrow.Author.Rules.{rules}
use Rattle.rules.specs.Kinds.{LBracket}
use Rattle.rules.specs.Tree.{bytes_field}
use Rattle.rules.specs.Parse.{is_type}
use Rattle.theory_grammar.proofs.Cases.{event_type, event_bytes, event_other}
use Rattle.parse_nodes.proofs.Rows.{word_here}
use Rattle.parse_nodes.proofs.Seen.{seen, want_met, want_unmet}
use Rattle.parse_events.specs.Shapes.{bytes}
use Rattle.parse_events.proofs.Nodes.{found_err, found_as}
use Rattle.parse_events.proofs.shape_at.Goals as goal

pub returns-then-kind_at-ne-LBRACKET : goal.returns-then-kind_at-ne-LBRACKET
returns-then-kind_at-ne-LBRACKET c ts h w =
    let a = c.args in
    let k = seen ts a.rows.now a.count h a.row _ c.kind_at-k.ensures in
    found_err _ _ _ _ _
    (event_bytes ts w a.row (sym k ∙ c.if-k-eq-BYTES.true)
    ∙ want_unmet ts a.rows.now a.count h (a.row + 1) _ c.kind_at.ensures LBracket _ c.if-kind_at-ne-LBRACKET.true)
    c.wanted.ensures c.new.ensures

pub length_at-requires : goal.length_at-requires
length_at-requires c =
    let a = c.args in
    let p = c.requires in
    let h = word_here a.rows.now a.count (a.row + 1) LBracket (sym c.kind_at.ensures ∙ c.if-kind_at-ne-LBRACKET.false) refl in
    record { lent = p.lent; inside = omega arith; few = omega arith; short = p.short; nest = p.nest }

pub returns-then-k-eq-BYTES : goal.returns-then-k-eq-BYTES
returns-then-k-eq-BYTES c ts h w =
    let a = c.args in
    let k = seen ts a.rows.now a.count h a.row _ c.kind_at-k.ensures in
    found_as _ _ _
    (event_bytes ts w a.row (sym k ∙ c.if-k-eq-BYTES.true)
    ∙ want_met ts a.rows.now a.count h (a.row + 1) _ c.kind_at.ensures LBracket _ c.if-kind_at-ne-LBRACKET.false)
    (c.length_at.ensures ts h (λ v. bytes_field w v) (λ v. bytes w v))

pub returns-then-matches : goal.returns-then-matches
returns-then-matches c ts h w =
    let a = c.args in
    let k = seen ts a.rows.now a.count h a.row _ c.kind_at-k.ensures in
    let b : is_type c.kind_at-k.result ≡ true = search rules in
    found_as _ _ _ (event_type ts w a.row (ap is_type (sym k) ∙ b)) (c.typed_at.ensures ts h w)

pub returns : goal.returns
returns c ts h w =
    let a = c.args in
    let k = seen ts a.rows.now a.count h a.row _ c.kind_at-k.ensures in
    let b : is_type c.kind_at-k.result ≡ false = search rules in
    found_err _ _ _ _ _ (event_other ts w a.row (ap is_type (sym k) ∙ b) (λ e. c.if-k-eq-BYTES.false (k ∙ e))) refl c.new-2.ensures
