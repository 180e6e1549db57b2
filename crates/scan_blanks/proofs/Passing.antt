-- Laws of spots that are moved over what was told: over bytes of a line, and over bytes of which the last alone may be a newline.
use mathlib.Core.Path.{◌≡◌, sym, ap, ◌∙◌}
use mathlib.Core.List.{List}
use Prim.Native.Nat.{ℕ, ◌+◌, ◌-◌, ◌≤◌}
use native.Mathlib.Omega.{arith}
use lib.ListN.{length, take, drop, get_or, length-drop}
use lib.Seq.{length-take-le}
use Rattle.rules.specs.Text.{front, not_newline, moved, along, Roomy}
use Rattle.laws.proofs.Places.{over_front, roomy_less, roomy_over}
use Rattle.scan_reader.specs.declared.Spot.{Spot}
use Rattle.scan_reader.specs.Read.{onward, Ahead}
use Rattle.scan_reader.proofs.Moves.{onward_more, onward_one}

module _ (t : List ℕ) (s : Spot) where
  pub over_line : (n : ℕ) → n ≤ front not_newline (drop s.at t) → onward t s n ≡ record { at = s.at + n; cursor = along s.cursor n }
  unfolding onward
  over_line n h = rw (over_front s.cursor (drop s.at t) n h)

  -- all but the last byte are bytes of the line
  module _ (m : ℕ) (some : 1 ≤ m) (inside : s.at + m ≤ length t) (line : m - 1 ≤ front not_newline (drop s.at t)) where
    pub over_last : onward t s m ≡ record { at = s.at + m; cursor = moved (along s.cursor (m - 1)) (get_or t (s.at + (m - 1)) 0) }
    over_last =
        let e : m - 1 + 1 ≡ m = omega arith in
        let f : s.at + (m - 1) + 1 ≡ s.at + m = omega arith in
        ap (onward t s) (sym e) ∙ sym (onward_more t s (m - 1) 1) ∙ ap (λ (x : Spot). onward t x 1) (over_line (m - 1) line)
        ∙ onward_one t (record { at = s.at + (m - 1); cursor = along s.cursor (m - 1) }) (omega arith) ∙ rw f

    pub roomy_last : Ahead t s → Roomy 1 (along s.cursor (m - 1))
    roomy_last a =
        let l : length (take (m - 1) (drop s.at t)) ≡ m - 1 = length-take-le (m - 1) (drop s.at t) (omega (arith, length-drop s.at t)) in
        rw (← over_front s.cursor (drop s.at t) (m - 1) line)
        (roomy_over 1 s.cursor (take (m - 1) (drop s.at t)) (roomy_less (length t - s.at) (1 + length (take (m - 1) (drop s.at t))) s.cursor (omega arith) a.roomy))
