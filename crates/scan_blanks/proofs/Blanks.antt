-- Blanks that are passed over, one at a time and four at a time.
use mathlib.Core.Path.{◌≡◌, refl, sym, ap, ◌∙◌}
use mathlib.Core.Bool.{Bool, true, false, ◌&&◌}
use mathlib.Core.List.{List}
use Prim.Native.Nat.{ℕ, ◌+◌, ◌/◌, ◌%◌, ◌≤◌, ◌<◌}
use native.Mathlib.Nat.{add-zero}
use native.Mathlib.Omega.{arith}
use mathlib.Core.List.{◌++◌}
use lib.ListN.{length, get_or, drop, length-drop}
use Rattle.std.proofs.lemmas.List.{length-take, get_or-take, get_or-drop}
use Rattle.laws.proofs.Chains.{block_is}
use lib.Seq.{drop-drop}
use Rattle.rules.specs.declared.Cursor.{Cursor}
use Rattle.rules.specs.Text.{is_blank, moved, along, front, not_newline}
use Rattle.laws.proofs.Tests.{both_true}
use Rattle.laws.proofs.Fronts.{front_on, front_off, front_end, front_more, front_drop}
use Rattle.scan_reader.specs.declared.Spot.{Spot}
use Rattle.scan_reader.specs.Read.{onward, Ahead}
use Rattle.scan_reader.proofs.Moves.{onward_none, onward_more, onward_one, ahead_more}
use Rattle.scan_blanks.specs.Blanks.{blanks, Blanked, Four}
use Rattle.scan_blanks.proofs.Passing.{over_line}

-- a test of each of the four bytes of a number
abbrev pub four_meet : (ℕ → Bool) → ℕ → Bool
four_meet p n = (p (n % 256) && p (n / 256 % 256)) && (p (n / 65536 % 256) && p (n / 16777216))

pub blanked_start : (t : List ℕ) (from : Spot) → Ahead t from → Blanked t from from
blanked_start t from a = record { ahead = a; behind = omega arith; ends = refl }

module _ {t : List ℕ} {from here : Spot} (g : Blanked t from here) where
  abbrev i : ℕ
  i = here.at

  -- ---- the blanks end here

  stop_here : blanks (drop i t) ≡ 0 → here ≡ onward t from (blanks (drop from.at t))
  stop_here e = sym (onward_none t here) ∙ ap (onward t here) (sym e) ∙ g.ends

  pub blanked_end : length t ≤ i → here ≡ onward t from (blanks (drop from.at t))
  unfolding blanks
  blanked_end h = stop_here (front_end is_blank t i h)

  pub blanked_off : i < length t → is_blank (get_or t i 0) ≡ false → here ≡ onward t from (blanks (drop from.at t))
  unfolding blanks
  blanked_off h e = stop_here (front_off is_blank t i h e)

  -- ---- they go on

  pub blanked_then : {next : Spot} → Blanked t here next → Blanked t from next
  blanked_then n = record { ahead = n.ahead; behind = omega (arith, g.behind, n.behind); ends = n.ends ∙ g.ends }

  -- behind n of them, where the cursor is known
  module _ (n : ℕ) (cursor : Cursor) (inside : i + n ≤ length t) (moves : onward t here n ≡ record { at = i + n; cursor = cursor }) where
    blanked_more : blanks (drop i t) ≡ n + blanks (drop (i + n) t) → Blanked t from (record { at = i + n; cursor = cursor })
    blanked_more e = record {
      ahead = rw moves at (ahead_more t here n inside g.ahead);
      behind = omega (arith, g.behind);
      ends =
          ap (λ (s : Spot). onward t s (blanks (drop (i + n) t))) (sym moves)
          ∙ onward_more t here n _
          ∙ ap (onward t here) (sym e)
          ∙ g.ends;
    }

  pub blanked_on : {cursor : Cursor} → i < length t → is_blank (get_or t i 0) ≡ true → cursor ≡ moved here.cursor (get_or t i 0)
      → Blanked t from (record { at = i + 1; cursor = cursor })
  unfolding blanks
  blanked_on h e m = rw m (blanked_more 1 _ (omega arith) (onward_one t here h) (front_on is_blank t i h e))

  -- four of them, if each of the four bytes of a number is a blank and no newline
  module _ (h : i + 4 ≤ length t) {n : ℕ} (f : Four t i n) where
    byte_0 : get_or t i 0 ≡ n % 256
    byte_0 = let b = f.bytes in omega (arith, f.sum)

    byte_1 : get_or t (i + 1) 0 ≡ n / 256 % 256
    byte_1 = let b = f.bytes in omega (arith, f.sum)

    byte_2 : get_or t (i + 2) 0 ≡ n / 65536 % 256
    byte_2 = let b = f.bytes in omega (arith, f.sum)

    byte_3 : get_or t (i + 3) 0 ≡ n / 16777216
    byte_3 = let b = f.bytes in omega (arith, f.sum)

    four_meet_lem : (p : ℕ → Bool) → four_meet p n ≡ true → 4 ≤ front p (drop i t)
    four_meet_lem p e =
        let d = both_true (p (n % 256) && p (n / 256 % 256)) _ e in
        let x = both_true (p (n % 256)) _ d.0 in
        let y = both_true (p (n / 65536 % 256)) _ d.1 in
        let n1 : 1 ≤ front p (drop i t) = omega (arith, front_on p t i (omega arith) (ap p byte_0 ∙ x.0)) in
        let n2 : 2 ≤ front p (drop i t) = front_more p t i 1 n1 (omega arith) (ap p byte_1 ∙ x.1) in
        let n3 : 3 ≤ front p (drop i t) = front_more p t i 2 n2 (omega arith) (ap p byte_2 ∙ y.0) in
        front_more p t i 3 n3 (omega arith) (ap p byte_3 ∙ y.1)

    pub blanked_four : four_meet is_blank n ≡ true → four_meet not_newline n ≡ true → {cursor : Cursor} → cursor ≡ along here.cursor 4
        → Blanked t from (record { at = i + 4; cursor = cursor })
    unfolding blanks
    blanked_four b o m =
        rw m
        (blanked_more 4 _ h (over_line t here 4 (four_meet_lem not_newline o))
        (front_drop is_blank 4 (drop i t) (four_meet_lem is_blank b) ∙ rw drop-drop))

-- ---- four bytes x at an index, with r behind them

module _ (t : List ℕ) (i : ℕ) (x r : List ℕ) (e : drop i t ≡ x ++ r) (l : length x ≡ 4) where
  pub four_inside : i + 4 ≤ length t
  four_inside = omega (arith, ap length (block_is t i 4 x r e l).0, length-take 4 (drop i t), length-drop i t)

  byte : (k : ℕ) → k < 4 → get_or x k 0 ≡ get_or t (i + k) 0
  byte k h = ap (λ (s : List ℕ). get_or s k 0) (block_is t i 4 x r e l).0 ∙ get_or-take 4 (drop i t) k 0 h ∙ get_or-drop i t k 0

  pub four_at : {n : ℕ} → Four x 0 n → Four t i n
  four_at f =
      let z : get_or x 0 0 ≡ get_or t i 0 = byte 0 (omega arith) ∙ ap (λ (k : ℕ). get_or t k 0) (add-zero i) in
      let a = byte 1 (omega arith) in
      let b = byte 2 (omega arith) in
      let d = byte 3 (omega arith) in
      let q = f.bytes in
      record { sum = omega (arith, f.sum); bytes = (omega arith, omega arith, omega arith, omega arith) }
