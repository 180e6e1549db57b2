-- Laws of bytes that are written into a room, or have none, and of the scratch.
use mathlib.Core.Path.{◌≡◌, refl, sym, ap, ◌∙◌}
use mathlib.Core.Bool.{Bool, true, false, cond, ◌&&◌, and-false}
use mathlib.Core.List.{List, ◌++◌}
use Prim.Native.Nat.{ℕ, ◌-◌, ◌≤◌, ◌<◌}
use native.Mathlib.Omega.{arith}
use lib.Dec.{leb}
use lib.ListN.{length, drop}
use borrow.Author.Tests.{le-leb, lt-leb, leb-true}
use Rattle.rules.specs.declared.Table.{Table}
use Rattle.rules.specs.Text.{most_bytes}
use Rattle.rules.specs.Scan.{scan_leaves}
use Rattle.rules.specs.Calls.{parse_leaves}
use Rattle.rules_layout.specs.declared.Unlaid.TheVariants.{NoRoom}
use Rattle.std.specs.Prelude.{Some, None, Ok, Err}
use Rattle.rules_layout.specs.Layout.{is_scanned, room_told}
use Rattle.laws.proofs.Tests.{true_both}
use Rattle.layout_back.specs.Back.{backed, Wrote}
use Rattle.layout_back.proofs.Back.{backed_first}
use Rattle.layout_judge.specs.Judging.{is_parsed}
use Rattle.layout.specs.Laying.{length_of, room_leaves, scratch_leaves}

module _ (bytes : List ℕ) where
  -- measured back from 65,537 it begins at 0, or further on
  pub measured_none : {start : ℕ} → start ≡ 65537 - length bytes → start ≡ 0 → None ≡ length_of bytes
  measured_none e z = let l : most_bytes < length bytes = omega arith in rw (lt-leb (length bytes) most_bytes l)

  pub measured_some : {start : ℕ} → start ≡ 65537 - length bytes → (start ≡ 0 → ⊥) → Some (65537 - start) ≡ length_of bytes
  measured_some {start} e z =
      let l : length bytes ≤ most_bytes = omega arith in
      let n : 65537 - start ≡ length bytes = omega arith in
      rw (le-leb (length bytes) most_bytes l, n)

module _ (bytes room : List ℕ) where
  abbrev pub fits : Bool
  fits = leb (length bytes) (length room) && leb (length bytes) most_bytes

  pub room_yes : fits ≡ true → (room_told bytes (length room) ≡ Ok (length bytes)) × (room_leaves bytes room ≡ bytes ++ drop (length bytes) room)
  unfolding room_told room_leaves
  room_yes e = (rw e, rw e)

  pub room_no : fits ≡ false → (room_told bytes (length room) ≡ Err NoRoom) × (room_leaves bytes room ≡ room)
  unfolding room_told room_leaves
  room_no e = (rw e, rw e)

  too_short : length room < length bytes → fits ≡ false
  too_short h = rw (lt-leb (length bytes) (length room) h)

  -- the layout is longer than 65,536 bytes, or than the room
  pub refused_long : None ≡ length_of bytes → (Err NoRoom ≡ room_told bytes (length room)) × (room ≡ room_leaves bytes room)
  refused_long e = by (leb (length bytes) most_bytes) refl e
    where
      by : (b : Bool) → leb (length bytes) most_bytes ≡ b → None ≡ cond b (Some (length bytes)) None
          → (Err NoRoom ≡ room_told bytes (length room)) × (room ≡ room_leaves bytes room)
      by true q h = absurd (cc)
      by false q h = let x = room_no (rw q (and-false (leb (length bytes) (length room)))) in (sym x.0, sym x.1)

  pub length_is : {long : ℕ} → Some long ≡ length_of bytes → (long ≡ length bytes) × (length bytes ≤ most_bytes)
  length_is {long} e = by (leb (length bytes) most_bytes) refl e
    where
      by : (b : Bool) → leb (length bytes) most_bytes ≡ b → Some long ≡ cond b (Some (length bytes)) None
          → (long ≡ length bytes) × (length bytes ≤ most_bytes)
      by true q h = (cc, leb-true (length bytes) most_bytes q)
      by false q h = absurd (cc)

  pub refused_short : {long : ℕ} → Some long ≡ length_of bytes → length room < long
      → (Err NoRoom ≡ room_told bytes (length room)) × (room ≡ room_leaves bytes room)
  refused_short e h = let n = length_is e in let x = room_no (too_short (omega (arith, n.0))) in (sym x.0, sym x.1)

  -- it is written so that it ends where it is long
  pub in_room : {long r : ℕ} {room' : List ℕ} → Some long ≡ length_of bytes → long ≤ length room → Wrote bytes room long room' r
      → (Ok long ≡ room_told bytes (length room)) × (room' ≡ room_leaves bytes room)
  in_room {long} e h w =
      let n = length_is e in
      let x = room_yes (true_both (le-leb (length bytes) (length room) (omega (arith, n.0))) (le-leb (length bytes) most_bytes n.1)) in
      (ap Ok n.0 ∙ sym x.0, w.room_is ∙ ap (λ (k : ℕ). backed room k bytes) n.0 ∙ backed_first room bytes (omega (arith, n.0)) ∙ sym x.1)

-- ---- the scratch

module _ (t ws : List ℕ) (tbl : Table) (m : List ℕ) where
  abbrev either : Bool → List ℕ
  either b = cond b (parse_leaves t ws tbl (scan_leaves t m)) (scan_leaves t m)

  pub left_scan : {m' : List ℕ} → is_scanned t ws tbl ≡ false → m' ≡ scan_leaves t m → m' ≡ scratch_leaves t ws tbl m
  unfolding scratch_leaves
  left_scan e l = l ∙ ap either (sym e)

  pub left_parse : {m' m'' : List ℕ} → is_scanned t ws tbl ≡ true → m' ≡ scan_leaves t m → m'' ≡ parse_leaves t ws tbl m' → m'' ≡ scratch_leaves t ws tbl m
  unfolding scratch_leaves
  left_parse e l q = q ∙ ap (parse_leaves t ws tbl) l ∙ ap either (sym e)

module _ (t ws : List ℕ) (tbl : Table) (nodes : List ℕ) (count : ℕ) where
  abbrev and_parsed : Bool → Bool
  and_parsed b = b && is_parsed t ws tbl nodes count

  pub not_scanned : is_scanned t ws tbl ≡ false → false ≡ (is_scanned t ws tbl && is_parsed t ws tbl nodes count)
  not_scanned e = sym (ap and_parsed e)

  pub as_parsed : {x : Bool} → is_scanned t ws tbl ≡ true → x ≡ is_parsed t ws tbl nodes count → x ≡ (is_scanned t ws tbl && is_parsed t ws tbl nodes count)
  as_parsed e q = q ∙ sym (ap and_parsed e)
