-- One byte more.
use Rattle.std.proofs.Common.{◌≡◌, refl, sym, ap, ◌∙◌, List, ℕ, suc, ◌+◌, ◌-◌, ◌<◌, length, take, get_or, arith, add-one}
use lib.Seq.{take-suc}
use Rattle.std.proofs.lemmas.List.{length-take, get_or-take}
use Rattle.rules.specs.declared.Cursor.{Cursor}
use Rattle.rules.specs.Text.{over, moved}
use Rattle.laws.proofs.Places.{over_append, over_one, roomy_less, roomy_step}
use Rattle.scan_place.proofs.pass.Goals as goal

step : (t : List ℕ) (c : Cursor) (i : ℕ) → i < length t → moved (over c (take i t)) (get_or t i 0) ≡ over c (take (i + 1) t)
step t c i h = rw (add-one i, take-suc t i 0 h) (sym (over_append c (take i t) _ ∙ over_one _ _))

pub loop-b-init : goal.loop-b-init
unfolding over
loop-b-init c = record { within = omega arith; roomy = roomy_less c.args.n (c.args.n - 0) _ (omega arith) c.requires.1; passed = refl }

pub loop-b-preserved : goal.loop-b-preserved
loop-b-preserved c =
    let l = c.loop-b in
    let n = c.args.n in
    let t = c.args.text.now in
    let b = get_or t l.b-index 0 in
    let h : l.b-index < n = omega (arith, c.loop-b-test.true, length-take n t) in
    let e : n - l.b-index ≡ suc (n - (l.b-index + 1)) = omega arith in
    rw (c.advance-here.ensures, get_or-take n t l.b-index 0 h) record {
      within = omega arith;
      roomy = roomy_step (n - (l.b-index + 1)) b l.here (rw e at l.invariant.roomy);
      passed = ap (λ (x : Cursor). moved x b) l.invariant.passed ∙ step t c.args.from l.b-index (omega arith);
    }
