-- A walk over a text from its start on, which meets no old row, is its scan: the rows, the ending and the answer.
use mathlib.Core.Path.{◌≡◌, refl, sym, ap}
use mathlib.Core.Bool.{Bool, true, false, ◌&&◌}
use mathlib.Core.List.{List, [], ◌∷◌}
use Prim.Native.Nat.{ℕ, zero, suc, pred, ◌+◌, ◌≤◌, ◌<◌, ◌^◌}
use native.Mathlib.Nat.{sub-zero, not-suc-le-zero}
use native.Mathlib.Omega.{arith}
use lib.ListN.{length}
use lib.Dec.{leb}
use Rattle.rules.specs.declared.Cursor.{Cursor}
use Rattle.rules.specs.declared.Unfit.{Unfit}
use Rattle.rules.specs.Outcomes.{halt, unread, unfit}
use Rattle.std.specs.declared.option.Option.TheVariants.{None, Some}
use Rattle.rules.specs.declared.Outer.{Outer}
use Rattle.std.specs.declared.result.Result.TheVariants.{Ok, Err}
use Rattle.rules.specs.Text.{most_bytes, place_at, start_place, text_judged}
use Rattle.rules.specs.Rows.{Row, row_at, rows_in}
use Rattle.rules.specs.Lex.{Piece, blank, comment, row, refused, known, piece, item}
use Rattle.rules.specs.Scan.{Reading, put, ends, stops, read_rows, read_ending, read, scan, room_of, told, laid, scan_told, scan_leaves}
use Rattle.rules.specs.Edit.{Seen, sees, over', look, from, some}
use Rattle.theory_machine.proofs.Spans.{Spans, refused_spans}
use Rattle.theory_machine.proofs.Same.{piece_spans}
use Rattle.laws.proofs.Places.{over_start}
use Rattle.laws.proofs.Rows.{scan_told_refused, scan_leaves_refused, scan_told_lem, scan_leaves_lem, few_rows}
use Rattle.scan_meet.specs.declared.Olds.{Olds}
use Rattle.scan_stop.specs.declared.Stop.TheVariants.{Over}
use Rattle.scan_meet.specs.Meeting.{meets_at}
use Rattle.scan_walk.specs.Walk.{place_in, rows_seen, stop_seen, seen_from, walk_rows, walk_of, Walkable}

-- ---- a reading as what is seen

unfoldable as_seen : Reading → Seen
as_seen (put r l) = sees r (as_seen l)
as_seen ends = over' None
as_seen (stops why p d) = over' (Some (halt why p))

rows_same : (l : Reading) → rows_seen (as_seen l) ≡ read_rows l
unfolding rows_seen as_seen read_rows
rows_same (put r l) = ap (λ (rs : List Row). r ∷ rs) (rows_same l)
rows_same ends = refl
rows_same (stops why p d) = refl

module _ (rows : List Row) (least b : ℕ) (t : List ℕ) (p : Cursor) where
  stop_same : (l : Reading) → stop_seen rows least b t p (as_seen l) ≡ Over (read_ending l)
  unfolding stop_seen as_seen read_ending
  stop_same (put r l) = stop_same l
  stop_same ends = refl
  stop_same (stops why q d) = refl

-- places from the start on are the text's
at_place : (t : List ℕ) (k : ℕ) → k ≤ length t → place_in start_place t k ≡ place_at t k
unfolding place_in
at_place t k h = rw sub-zero (over_start t k h)

module _ (t : List ℕ) (meet : ℕ → Bool) (never : (m : ℕ) → meet m ≡ false) where
  -- what is seen from offset k on, behind c comments, where the first n bytes belong to the piece that was read last
  abbrev seen : (c n k : ℕ) → List ℕ → Seen
  seen c n k s = look (place_in start_place t) meet true c n k s

  -- by the piece at offset k, with s behind its first byte
  step : (c k : ℕ) (s : List ℕ) → k + suc (length s) ≡ length t →
      ((d n : ℕ) → seen d n (suc k) s ≡ as_seen (read (place_at t) d n (suc k) s)) →
      (x : Piece) → Spans 1 0 (suc (length s)) (known x) →
      elim x as (λ _. Seen) [
        | blank ↦ seen c zero (suc k) s
        | comment n d ↦ seen (suc c) (pred n) (suc k) s
        | row kind n bits d ↦ sees (row_at (place_in start_place t k) c kind (k + n) bits) (seen zero (pred n) (suc k) s)
        | refused why p d ↦ over' (Some (halt why (place_in start_place t (k + p))))
      ]
      ≡ as_seen (elim x as (λ _. Reading) [
        | blank ↦ read (place_at t) c zero (suc k) s
        | comment n d ↦ read (place_at t) (suc c) (pred n) (suc k) s
        | row kind n bits d ↦ put (row_at (place_at t k) c kind (k + n) bits) (read (place_at t) zero (pred n) (suc k) s)
        | refused why p d ↦ stops why (place_at t (k + p)) (k + d)
      ])
  unfolding as_seen
  step c k s e h blank f = h c 0
  step c k s e h (comment n d) f = h (suc c) (pred n)
  step c k s e h (row kind n bits d) f = rw (at_place t k (omega arith), h 0 (pred n))
  step c k s e h (refused why p d) (refused_spans _ _ _ l m u) = rw (at_place t (k + p) (omega arith))

  -- Where nothing meets and the bytes end the text, what is seen is what is read.
  seen_read : (c n k : ℕ) (s : List ℕ) → k + length s ≡ length t → seen c n k s ≡ as_seen (read (place_at t) c n k s)
  unfolding look read as_seen item
  seen_read c n k [] e = rw (at_place t k (omega arith))
  seen_read c (suc n) k (b ∷ s) e = seen_read c n (suc k) s (omega arith)
  seen_read c zero k (b ∷ s) e =
      rw (look, never k) (step c k s e (λ d n. seen_read d n (suc k) s (omega arith)) (piece (b ∷ s)) (piece_spans b s))

-- ---- the walk that meets no old row

abbrev pub none : ℕ → Olds
none least = record { count = 0; first = 0; least = least; b = 0 }

module _ (ws : List ℕ) (least : ℕ) (t : List ℕ) where
  no_meeting : (m : ℕ) → meets_at [] least 0 m ≡ false
  unfolding meets_at from some
  no_meeting m = pick (leb least m)
    where
      pick : (q : Bool) → (q && false) ≡ false
      pick true = refl
      pick false = refl

  seen_scan : seen_from [] least 0 t start_place true ≡ as_seen (scan t)
  unfolding seen_from scan
  seen_scan = seen_read t (meets_at [] least 0) no_meeting 0 0 0 t (omega arith)

  pub walk_rows_lem : walk_rows ws (none least) t start_place true ≡ read_rows (scan t)
  unfolding walk_rows rows_in
  walk_rows_lem = rw seen_scan (rows_same (scan t))

  pub walk_told : walk_of ws (none least) t start_place true
      ≡ record { count = length (read_rows (scan t)); stop = Over (read_ending (scan t)) }
  unfolding walk_of rows_in
  walk_told = rw (walk_rows_lem, seen_scan, stop_same)

  pub walkable : length t ≤ most_bytes → Walkable ws (none least) t start_place
  walkable h =
      record {
        lent = omega arith;
        few = omega arith;
        rising = record { rises = λ i j p q. absurd (not-suc-le-zero q) };
        passed = record { below = λ j m p q u. absurd (not-suc-le-zero p) };
        roomy = record { offset = omega arith; line = omega arith; column = omega arith };
      }

  pub count_fits : length t ≤ most_bytes → (walk_of ws (none least) t start_place true).count < 2 ^ 32
  unfolding scan
  count_fits h = rw walk_told (omega (arith, few_rows (place_at t) 0 0 0 t))

-- ---- the answer

module _ (t ws : List ℕ) where
  pub refused_text : {e : Unfit} → text_judged t ≡ Err e →
      (Err (unread e.why e.at 0) ≡ scan_told t (room_of ws)) × (ws ≡ scan_leaves t ws)
  refused_text e = (sym (scan_told_refused t e (room_of ws)), sym (scan_leaves_refused t e ws))

  pub all_rows : text_judged t ≡ Ok tt →
      (told (length t) (room_of ws) (read_rows (scan t)) (read_ending (scan t)) ≡ scan_told t (room_of ws))
      × (laid (read_rows (scan t)) ws ≡ scan_leaves t ws)
  all_rows e = (sym (scan_told_lem t e (room_of ws)), sym (scan_leaves_lem t e ws))
