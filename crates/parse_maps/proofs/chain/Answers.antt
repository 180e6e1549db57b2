-- A number, and behind it shift by shift.
use mathlib.Core.Path.{◌≡◌, refl, sym, ap, ◌∙◌, subst}
use mathlib.Core.List.{List}
use Prim.Native.Nat.{ℕ, ◌+◌, ◌<◌, ◌≤◌}
use native.Mathlib.Omega.{arith}
use lib.ListN.{length}
use Rattle.std.specs.Prelude.{Result, Ok}
use Rattle.std.proofs.lemmas.Result.{err_from_is_err_and}
use Rattle.rules.specs.Parse
use Rattle.rules.specs.Kinds.{Number}
use Rattle.rules.specs.Tree.{Tok, max_bits, first}
use Rattle.rules.specs.Parse.{is_shift}
use Rattle.theory_grammar.proofs.Cases.{chain_is}
use Rattle.theory_grammar.proofs.Runs.{all_ok}
use Rattle.parse_nodes.specs.Post.{Tells}
use Rattle.parse_nodes.specs.declared.Refusal.{Refusal}
use Rattle.parse_nodes.proofs.Rows.{word_here, tells_some}
use Rattle.parse_nodes.proofs.Seen.{seen, valued_met, valued_unmet}
use Rattle.parse_maps.specs.declared.Sum.{Sum}
use Rattle.parse_maps.specs.Steps.{bits_at, sum_of, Adds, ShiftFound}
use Rattle.parse_maps.proofs.Answers.{Summing, answer_ok, answer_err, answer_refused, sum_gave}
use Rattle.parse_maps.proofs.Loops.{begins, ends, fails, goes_on}
use Rattle.parse_maps.proofs.Limits.{shift_on}
use Rattle.parse_maps.proofs.chain.Invariants.{Shifting}
use Rattle.parse_maps.proofs.chain.Goals as goal

-- one shift more of what v has read, and how far it goes
stepped : (i : ℕ) {ts : List Tok} {ws : List ℕ} {n : ℕ} {s : Sum} (h : Tells ts ws n) (v : Shifting ts i s) (r : Result Sum Refusal) (t : Sum)
    → ShiftFound ws n s r → r ≡ Ok t → Summing (Parse.chain_step ts v.tree s.row) t × ((s.row < t.row) × (t.row ≤ length ts))
stepped i {ts} {s = s} h v r t f e =
    let g = sum_gave (Parse.chain_step ts v.tree s.row) r t (f ts h v.tree v.known) e in
    (g, all_ok (λ u k. (s.row < k) × (k ≤ length ts)) _ g.tree t.row (shift_on ts v.tree s.row) g.is)

pub returns-then-kind_at-ne-NUMBER : goal.returns-then-kind_at-ne-NUMBER
returns-then-kind_at-ne-NUMBER c ts h =
    let a = c.args in
    answer_err sum_of _ _ _ _ _
    (chain_is ts a.row ∙ valued_unmet ts a.rows.now a.count h a.row _ c.kind_at.ensures _ c.if-kind_at-ne-NUMBER.true)
    c.wanted.ensures c.new.ensures

pub bits_at-requires : goal.bits_at-requires
bits_at-requires c =
    let a = c.args in
    let i = word_here a.rows.now a.count a.row Number (sym c.kind_at.ensures ∙ c.if-kind_at-ne-NUMBER.false) refl in
    omega (arith, i, c.requires)

pub loop-s-init : goal.loop-s-init
unfolding max_bits
loop-s-init c ts h =
    let a = c.args in
    let i = word_here a.rows.now a.count a.row Number (sym c.kind_at.ensures ∙ c.if-kind_at-ne-NUMBER.false) refl in
    begins _ ts _ _ _ (a.row + 1) (first (bits_at a.rows.now a.row))
    (chain_is ts a.row ∙ valued_met ts a.rows.now a.count h a.row _ c.kind_at.ensures _ c.if-kind_at-ne-NUMBER.false)
    (omega (arith, i, h.long)) (sym c.bits_at.ensures)

pub returns-then-not-is_shift : goal.returns-then-not-is_shift
returns-then-not-is_shift c ts h =
    let a = c.args in
    let s = c.loop-s.s in
    let v = c.loop-s.invariant ts h in
    let q = seen ts a.rows.now a.count h s.row _ c.kind_at-sign.ensures in
    subst (λ (x : ℕ). Adds (Parse.chain ts a.row) (Ok (record { row = s.row; bits = x }))) v.known
    (answer_ok sum_of _ v.tree s.row (ends _ ts _ _ _ s.row v (ap is_shift (sym q) ∙ sym c.if-not-is_shift.ensures)))

pub shift_step-requires : goal.shift_step-requires
shift_step-requires c =
    let p = c.requires in
    let t = tells_some c.args.rows.now c.args.count in
    let l = (c.loop-s.invariant _ t).inside in
    record {
      at = record { lent = p.lent; inside = omega (arith, l, t.long); few = omega arith; short = p.short; nest = p.nest };
      word = c.kind_at-sign.ensures;
    }

pub returns-in_err-s : goal.returns-in_err-s
returns-in_err-s c ts h =
    let a = c.args in
    let s = c.loop-s.s in
    let v = c.loop-s.invariant ts h in
    let q = seen ts a.rows.now a.count h s.row _ c.kind_at-sign.ensures in
    let p = err_from_is_err_and c.from_residual.result c.from_residual.ensures.1 in
    rw (p.1, p.2)
    (answer_err sum_of _ _ _ _ _
    (fails _ ts _ _ _ s.row v (ap is_shift (sym q) ∙ sym c.if-not-is_shift.ensures) _ _
    (answer_refused sum_of (Parse.chain_step ts v.tree s.row) _ _ (c.shift_step.ensures ts h v.tree v.known) c.in_err-s.was))
    refl refl)

pub loop-s-smaller : goal.loop-s-smaller
loop-s-smaller c =
    let h = tells_some c.args.rows.now c.args.count in
    let g = stepped c.args.row h (c.loop-s.invariant _ h) c.shift_step.result c.in_ok-s.s c.shift_step.ensures c.in_ok-s.was in
    omega (arith, g.1, h.long)

pub loop-s-preserved : goal.loop-s-preserved
loop-s-preserved c ts h =
    let a = c.args in
    let s = c.loop-s.s in
    let v = c.loop-s.invariant ts h in
    let q = seen ts a.rows.now a.count h s.row _ c.kind_at-sign.ensures in
    let g = stepped c.args.row h v c.shift_step.result c.in_ok-s.s c.shift_step.ensures c.in_ok-s.was in
    goes_on _ ts _ _ _ s.row v (ap is_shift (sym q) ∙ sym c.if-not-is_shift.ensures) _ g.0.tree c.in_ok-s.s.row
    g.0.is g.1.0 g.1.1 g.0.bits
