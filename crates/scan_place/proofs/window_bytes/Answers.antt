-- A law for each way out.
use Rattle.std.proofs.Common.{◌≡◌, ap, sym, ◌∙◌, List, ℕ, Bool, drop, arith}
use Rattle.rules.specs.Text.{is_cut, valid_bytes}
use Rattle.rules.specs.Edit.{window_bytes}
use Rattle.laws.proofs.Valid.{valid_le, window_whole, window_cut, window_broken}
use Rattle.scan_place.proofs.window_bytes.Goals as goal
use Rattle.scan_place.proofs.window_bytes.Goals.{else-not-whole-via-then-not-whole+else-is_cut, else-not-whole-via-else-not-whole}

-- what is asked where the valid bytes end
at_valid : (w : List ℕ) (v : ℕ) (q : Bool) → v ≡ valid_bytes w → q ≡ is_cut (drop v w) → is_cut (drop (valid_bytes w) w) ≡ q
at_valid w v q e f = ap (λ (k : ℕ). is_cut (drop k w)) (sym e) ∙ sym f

pub is_cut-requires : goal.is_cut-requires
is_cut-requires c = omega (arith, c.valid_bytes-valid.ensures, valid_le c.args.window.now)

pub returns-then-is_cut : goal.returns-then-is_cut
returns-then-is_cut c =
    let w = c.args.window.now in
    sym (ap (λ (q : Bool). window_bytes q w) c.if-not-whole.true
    ∙ window_cut w (at_valid w _ _ c.valid_bytes-valid.ensures c.is_cut.ensures ∙ c.if-is_cut.true))

pub returns : goal.returns
returns c =
    let w = c.args.window.now in
    let v = c.valid_bytes-valid.ensures in
    elim c.else-not-whole.branch [
      | else-not-whole-via-then-not-whole+else-is_cut u ↦
          v ∙ sym (ap (λ (q : Bool). window_bytes q w) u.if-not-whole.true
          ∙ window_broken w (at_valid w _ _ v u.is_cut.ensures ∙ u.if-is_cut.false))
      | else-not-whole-via-else-not-whole u ↦ v ∙ sym (ap (λ (q : Bool). window_bytes q w) u.if-not-whole.false ∙ window_whole w)
    ]
