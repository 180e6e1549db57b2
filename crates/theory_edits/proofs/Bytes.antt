-- The edit by the machine: from the old rows and a window of the new text it gives the rows and ending of a fresh scan of the new text, and it is
-- short exactly if the window shows nothing.
use Prim.Native.Nat.{ℕ, ◌+◌, ◌-◌, ◌≤◌, ◌<◌}
use native.Mathlib.Nat.{le_refl}
use native.Mathlib.Omega.{arith}
use mathlib.Core.Bool.{Bool, true, false}
use mathlib.Core.List.{List, [], ◌∷◌, ◌++◌, map}
use mathlib.Core.Path.{◌≡◌, refl, ap, sym, ◌∙◌}
use lib.Dec.{ltb}
use lib.ListN.{length}
use borrow.Author.Tests.{lt-leb, ltb-true}
use Rattle.rules.specs.declared.Cursor.{Cursor}
use Rattle.rules.specs.Outcomes.{Ending}
use Rattle.rules.specs.Text.{place_at}
use Rattle.rules.specs.Rows.{Row}
use Rattle.rules.specs.Scan.{Reading, put, read_rows, read_ending, scan}
use Rattle.rules.specs.Edit.{kept, restart, from, first_place, carry_row, carry_ending, recounted, meets, window_place, Seen, sees, over', met, short, is_short, seen_rows, seen_ending}
use Rattle.theory_machine.specs.Machine.{gap, run}
use Rattle.theory_edits.specs.Shows.{Shows, meeting, refusal}
use Rattle.theory_edits.proofs.Stand.{At, at_same, rest, rest_at, puts, puts_rows, puts_ending}
use Rattle.theory_edits.proofs.Places.{place_window}
use Rattle.theory_edits.proofs.Kept.{kept_scan}
use Rattle.theory_edits.proofs.Look.{look_bytes, fill_rows, fill_ending, Says, look_says}
use Rattle.theory_edits.proofs.Flat.{Flat, flat_put, flat_ends, flat_stops, scan_flat}
use Rattle.theory_edits.proofs.Short
use Rattle.theory_edits.proofs.Short.{Quiet, quiet_put, waits, short_quiet, Meets, row_starts, meets_puts, part_meets, quiet_shows}
use Rattle.theory_edits.proofs.Meeting.{restart_place, meets_is, meets_behind, meets_starts, follows, plain}

-- the window's scan by the machine
unfoldable pub seen_bytes : List Row → Ending → (a b n : ℕ) → List ℕ → Bool → Seen
seen_bytes rows e a b n w whole = look_bytes (window_place rows e a b n w) (meets rows e a b n w) whole w 0 (restart rows a).offset.0 0 gap

module _ (rows : List Row) (e : Ending) (a b n : ℕ) (w : List ℕ) where
  abbrev rows_from : (m c : ℕ) → List Row
  rows_from m c =
      recounted c (map (carry_row (first_place (from (m + b - (a + n)) rows)) (window_place rows e a b n w m)) (from (m + b - (a + n)) rows))

  abbrev ending_from : ℕ → Ending
  ending_from m = carry_ending (first_place (from (m + b - (a + n)) rows)) (window_place rows e a b n w m) e

  seen_rows_lem : (s : Seen) → seen_rows rows e a b n w s ≡ fill_rows rows_from s
  unfolding seen_rows fill_rows
  seen_rows_lem (sees r s) = ap (λ (l : List Row). r ∷ l) (seen_rows_lem s)
  seen_rows_lem (over' x) = refl
  seen_rows_lem (met m c) = refl
  seen_rows_lem short = refl

  seen_ending_lem : (s : Seen) → seen_ending rows e a b n w s ≡ fill_ending ending_from s
  unfolding seen_ending fill_ending
  seen_ending_lem (sees r s) = seen_ending_lem s
  seen_ending_lem (over' x) = refl
  seen_ending_lem (met m c) = refl
  seen_ending_lem short = refl

-- the kept rows show nothing: they start before a
quiet_kept : {T : List ℕ} (meet : ℕ → Bool) (hi a : ℕ) → ((m : ℕ) → m < a → meet m ≡ false) → {l : Reading} → Flat T l → (k : Reading)
    → Quiet meet hi k → Quiet meet hi (puts (kept a (read_rows l)) k)
unfolding kept read_rows puts
quiet_kept meet hi a h (flat_put {r} {l} o f x) k y = by (ltb r.end a) refl (quiet_kept meet hi a h x k y)
  where
    by : (q : Bool) → ltb r.end a ≡ q → Quiet meet hi (puts (kept a (read_rows l)) k) → Quiet meet hi (puts (kept a (read_rows (put r l))) k)
    by true q ih = let z : r.end < a = ltb-true r.end a q in rw q (quiet_put (λ i. h r.start (omega arith)) ih)
    by false q ih = rw q y
quiet_kept meet hi a h flat_ends k y = y
quiet_kept meet hi a h flat_stops k y = y

module _ (p o i q w z : List ℕ) where
  abbrev T : List ℕ
  T = p ++ (o ++ q)

  abbrev T' : List ℕ
  T' = p ++ (i ++ q)

  abbrev a : ℕ
  a = length p

  abbrev b : ℕ
  b = length p + length o

  abbrev n : ℕ
  n = length i

  abbrev rows : List Row
  rows = read_rows (scan T)

  abbrev e : Ending
  e = read_ending (scan T)

  -- where the window starts and where it ends
  abbrev pub s0 : ℕ
  s0 = (restart rows a).offset.0

  abbrev pub hi : ℕ
  hi = s0 + length w

  abbrev meet : ℕ → Bool
  meet = meets rows e a b n w

  abbrev pos : ℕ → Cursor
  pos = window_place rows e a b n w

  abbrev pub bytes : Bool → Seen
  bytes whole = seen_bytes rows e a b n w whole

  module _ (d : At T' (w ++ z) s0) where
    agree : (m : ℕ) → s0 ≤ m → m ≤ hi → place_at T' m ≡ pos m
    unfolding window_place
    agree m l h = place_window T' w z s0 d.text _ (restart_place p o i q) m l h

    rows_meet : (m c : ℕ) → s0 ≤ m → m < hi → meet m ≡ true → read_rows (rest T' c m) ≡ rows_from rows e a b n w m c
    rows_meet m c l h t = rw (agree m l (omega arith)) at (follows p o i q w m t c).rows_follow

    ending_meets : (m c : ℕ) → s0 ≤ m → m < hi → meet m ≡ true → read_ending (rest T' c m) ≡ ending_from rows e a b n w m
    ending_meets m c l h t = rw (agree m l (omega arith)) at (follows p o i q w m t c).ending_follows

    -- the scan of the new text from the restart place on, where no comment is counted
    abbrev goes_on : Reading
    goes_on = run (place_at T') (w ++ z) 0 s0 0 gap

    behind_kept : scan T' ≡ puts (kept a rows) goes_on
    behind_kept = kept_scan p (o ++ q) (i ++ q) ∙ ap (puts (kept a rows)) (rest_at 0 d)

    module _ (whole : Bool) (ends_text : whole ≡ true → z ≡ []) where
      says : Says (rows_from rows e a b n w) (ending_from rows e a b n w) (bytes whole) goes_on
      unfolding seen_bytes
      says =
          look_says T' pos s0 hi agree meet _ _ rows_meet ending_meets whole w z ends_text
          0 s0 0 gap (le_refl s0) (omega arith) (at_same d (omega arith))

      pub fresh_rows : is_short (bytes whole) ≡ false
          → kept a rows ++ seen_rows rows e a b n w (bytes whole) ≡ read_rows (scan T')
      fresh_rows h =
          ap (λ (l : List Row). kept a rows ++ l) (seen_rows_lem _ _ _ _ _ w (bytes whole) ∙ sym (says.rows h))
          ∙ sym (puts_rows (kept a rows) goes_on)
          ∙ ap read_rows (sym behind_kept)

      pub fresh_ending : is_short (bytes whole) ≡ false
          → seen_ending rows e a b n w (bytes whole) ≡ read_ending (scan T')
      fresh_ending h =
          seen_ending_lem _ _ _ _ _ w (bytes whole) ∙ sym (says.ending h)
          ∙ sym (puts_ending (kept a rows) goes_on)
          ∙ ap read_ending (sym behind_kept)

    before : (m : ℕ) → m < a → meet m ≡ false
    unfolding meets
    before m h = rw (lt-leb (a + n) m (omega arith))

    abbrev pub Shown : Type 0
    Shown = Shows (scan T) (scan T') a b n hi

    to_shows : Meets meet hi (scan T') → Shown
    to_shows (row_starts m h t s) = meeting m (meets_behind p o i q w m t) h s (meets_starts p o i q w m t)
    to_shows (Short.refusal x h c) = refusal x h c

    of_shows : Shown → Meets meet hi (scan T')
    of_shows (meeting m l h s s') = row_starts m h (meets_is p o i q w m l s') s
    of_shows (refusal x h c) = Short.refusal x h c

    -- a short window shows nothing, and one that is not short, though the text goes on behind it, shows something
    pub short_none : (whole : Bool) → is_short (bytes whole) ≡ true → Shown → ⊥
    unfolding seen_bytes
    short_none whole h x =
        quiet_shows
        (rw behind_kept (quiet_kept meet hi a before (scan_flat T) _
        (short_quiet T' meet hi pos (plain p o i q w) whole w z 0 s0 0 gap (omega arith) (at_same d (omega arith)) (waits refl) h)))
        (of_shows x)

    pub part_shows : is_short (bytes false) ≡ false → Shown
    unfolding seen_bytes
    part_shows h =
        to_shows (rw behind_kept (meets_puts (kept a rows)
        (part_meets T' pos meet hi (λ m t c. (follows p o i q w m t c).starts_there) w z
        0 s0 0 gap (omega arith) (at_same d (omega arith)) h)))
