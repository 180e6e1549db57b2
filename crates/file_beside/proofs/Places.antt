-- A place counted on from a place that is not behind it.
use mathlib.Core.Path.{◌≡◌, sym, ap, subst, ◌∙◌}
use mathlib.Core.List.{List}
use Prim.Native.Nat.{ℕ, ◌+◌, ◌-◌, ◌≤◌}
use native.Mathlib.Omega.{arith}
use lib.ListN.{length, take, drop, length-take, length-drop}
use Rattle.laws.proofs.Lists.{lent_tail}
use Rattle.laws.proofs.Places.{over_start, over_take, roomy_over}
use Rattle.rules.specs.declared.Cursor.{Cursor}
use Rattle.rules.specs.Text.{start_place, place_at, over, Roomy}
use Rattle.file_beside.specs.Counting.{Counts}

module _ {text : List ℕ} {here : Cursor} {offset : ℕ} (c : Counts text here offset) where
  -- the place was counted from the start
  here_over : here ≡ over start_place (take here.offset.0 text)
  here_over = c.is ∙ sym (over_start text here.offset.0 (omega (arith, c.on, c.inside)))

  start_fits : here.offset.0 ≤ length text
  start_fits = omega (arith, c.on, c.inside)

  -- what is lent to the counting
  abbrev pub ahead : List ℕ
  ahead = take (length text - here.offset.0) (drop here.offset.0 text)

  ahead_is : ahead ≡ drop here.offset.0 text
  ahead_is = lent_tail text here.offset.0 start_fits

  pub ahead_fits : offset - here.offset.0 ≤ length ahead
  ahead_fits = omega (arith, ap length ahead_is, length-drop here.offset.0 text, c.on, c.inside)

  pub counts_roomy : Roomy (offset - here.offset.0) here
  counts_roomy =
      let n = offset - here.offset.0 in
      let l : length (take here.offset.0 text) ≡ here.offset.0 = length-take here.offset.0 text ∙ omega (arith, start_fits) in
      let r : Roomy (n + length (take here.offset.0 text)) start_place =
      let few = c.few in
      let inside = c.inside in
      record { offset = omega (arith, c.on); line = omega (arith, c.on); column = omega (arith, c.on) } in
      subst (λ (p : Cursor). Roomy n p) (sym here_over) (roomy_over n start_place (take here.offset.0 text) r)

  pub counted : over here (take (offset - here.offset.0) ahead) ≡ place_at text offset
  counted =
      let n = offset - here.offset.0 in
      let k : here.offset.0 + n ≡ offset = omega (arith, c.on) in
      let a : over here (take n (drop here.offset.0 text)) ≡ over start_place (take (here.offset.0 + n) text) =
      ap (λ (p : Cursor). over p (take n (drop here.offset.0 text))) here_over
      ∙ sym (over_take start_place here.offset.0 n text) in
      rw ahead_is (a ∙ ap (λ (j : ℕ). over start_place (take j text)) k ∙ over_start text offset c.inside)
