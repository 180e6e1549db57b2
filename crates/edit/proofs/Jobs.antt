-- An edit whose numbers are sensible: what its parts ask of it holds, and what is written is what is seen, by how the walk stops.
use mathlib.Core.Path.{◌≡◌, sym, ap, subst, ◌∙◌}
use mathlib.Core.Bool.{Bool, true, false}
use mathlib.Core.List.{List, [], ◌++◌}
use Prim.Native.Nat.{ℕ, zero, suc, ◌+◌, ◌*◌, ◌^◌, ◌≤◌, ◌<◌}
use native.Mathlib.Omega.{arith}
use lib.ListN.{length, take, drop}
use lib.Seq.{drop-cons, length-take-le}
use Rattle.rules.specs.declared.Cursor.{Cursor}
use Rattle.rules.specs.Outcomes.{Ending}
use Rattle.rules.specs.Text.{most_bytes, start_place, Roomy}
use Rattle.rules.specs.Rows.{Row, row_in, rows_in, row_place, words_of}
use Rattle.rules.specs.Scan.{room_of, laid}
use Rattle.rules.specs.Edit.{is_short, kept, end_place, last_end, restart, first_place, meets, window_place, seen}
use Rattle.laws.proofs.Places.{roomy_less, roomy_over}
use Rattle.laws.proofs.Rows.{rows_length, rows_at, take_rows, laid_all}
use Rattle.scan_reader.specs.Read.{onward}
use Rattle.rows.specs.Shape.{row_no}
use Rattle.rows.proofs.Inside
use Rattle.rows.proofs.Inside.{Fine, fine, row_sound, few_rows}
use Rattle.edit_kept.proofs.Kept.{kept_count, kept_inside, kept_rows, kept_below, behind_rows}
use Rattle.scan_meet.specs.declared.Olds.{Olds}
use Rattle.scan_stop.specs.declared.Stop.TheVariants.{Met, Over}
use Rattle.scan_stop.specs.declared.Walked.{Walked}
use Rattle.scan_meet.specs.Meeting.{meets_at}
use Rattle.scan_walk.specs.Walk.{Walkable, place_in, rows_seen, seen_from, walk_seen, walk_rows, walk_of}
use Rattle.edit.specs.declared.Job.{Job}
use Rattle.std.specs.Prelude.{None}
use Rattle.edit.specs.Job.{Ready, Follows, old_rows, olds_of, job_seen, job_rows, job_ending, tail_told, rows_behind, ending_behind}
use Rattle.edit.proofs.Facts.{rising, moves_row, moves_ending}
use Rattle.edit.proofs.Tails.{full_before}
use Rattle.scan_stop.specs.Stop.{is_lacking}
use Rattle.edit.proofs.Seens.{Shown, shown, shown_few, shown_whole, meets_of, stop_of, seen_few, begins, by_lacking, by_over, Meeting, by_met}

-- a place whose counters are small has room
roomy : (n : ℕ) (c : Cursor) → n ≤ 2 ^ 31 + most_bytes → c.offset.0 ≤ most_bytes + 1 → c.line.0 ≤ most_bytes + 1 → c.column.0 ≤ most_bytes + 1 → Roomy n c
roomy n c h a b d = record { offset = omega arith; line = omega arith; column = omega arith }

module _ {ws : List ℕ} {j : Job} {w : List ℕ} (r : Ready ws j w) where
  sound : Fine ws j.table
  sound = fine ws j.table r.fine

  pub few_kept : j.kept ≤ j.table.count
  few_kept = omega (arith, kept_inside j.a ws j.table.count, r.kept)

  -- the restart place is behind the kept rows
  begin_rows : j.begin ≡ last_end start_place (rows_in j.kept ws)
  unfolding restart
  begin_rows =
      r.begin ∙ ap (last_end start_place) (kept_rows j.a ws j.table.count) ∙ ap (λ (k : ℕ). last_end start_place (rows_in k ws)) (sym r.kept)

  -- the kept rows
  kept_list : kept j.a (old_rows ws j) ≡ rows_in j.kept ws
  kept_list = kept_rows j.a ws j.table.count ∙ ap (λ (k : ℕ). rows_in k ws) (sym r.kept)

  pub lent_old : j.table.count * 8 ≤ length ws
  lent_old = sound.lent

  -- they are copied, all or as many as there is room for
  pub copied : (new : List ℕ) → j.kept ≤ room_of new → words_of (rows_in j.kept ws) ++ drop (8 * j.kept) new ≡ laid (kept j.a (old_rows ws j)) new
  copied new h =
      let l : length (kept j.a (old_rows ws j)) ≡ j.kept = sym r.kept in
      sym (laid_all (kept j.a (old_rows ws j)) new (rw l h) ∙ rw (l, kept_list))

  pub copied_part : (m : ℕ) → m ≤ j.kept → words_of (rows_in m ws) ≡ words_of (take m (kept j.a (old_rows ws j)))
  copied_part m h = ap words_of (sym (ap (take m) kept_list ∙ take_rows j.kept ws m h))

  -- its counters are small
  small : (n : ℕ) → n ≤ 2 ^ 31 + most_bytes → Roomy n (last_end start_place (rows_in j.kept ws))
  unfolding last_end rows_in end_place
  small n h = pick j.kept few_kept
    where
      pick : (k : ℕ) → k ≤ j.table.count → Roomy n (last_end start_place (rows_in k ws))
      pick zero l = roomy n start_place h (omega arith) (omega arith) (omega arith)
      pick (suc k) l =
          let s = row_sound sound k l in
          let e = Inside.within sound k l in
          subst (Roomy n) (sym (behind_rows k ws start_place))
          (roomy n (end_place (row_no ws k)) h (omega (arith, e, sound.short)) (omega (arith, s.ordered, s.line_high, e, sound.short))
          (omega (arith, s.ordered, s.column_high, e, sound.short)))

  short_window : length w ≤ most_bytes
  short_window = omega (arith, r.fits, r.short)

  pub room_begin : Roomy (2 ^ 31 + length w) j.begin
  room_begin = subst (Roomy (2 ^ 31 + length w)) (sym begin_rows) (small (2 ^ 31 + length w) (omega (arith, short_window)))

  room_window : Roomy (length w) j.begin
  room_window = roomy_less (2 ^ 31 + length w) (length w) j.begin (omega arith) room_begin

  can_walk : Walkable ws (olds_of j) w j.begin
  can_walk =
      record {
        lent = sound.lent;
        few = few_kept;
        rising = rising sound;
        passed = record {
          below = λ i m h k l.
              let z : i < kept_count j.a ws j.table.count = omega (arith, r.kept) in
              omega (arith, kept_below j.a ws j.table.count i z, (row_sound sound i (omega (arith, few_kept))).ordered, r.order);
        };
        roomy = room_window;
      }

  pub walkable : (o : Olds) → o ≡ olds_of j → Walkable ws o w j.begin
  walkable o d = rw d can_walk

  -- ---- what is seen

  module _ (whole : Bool) where
    abbrev begin : ℕ
    begin = j.begin.offset.0

    abbrev end : ℕ
    end = j.begin.offset.0 + length w

    -- a walk over the window sees it
    seen_same : walk_seen ws (olds_of j) w j.begin whole ≡ job_seen ws j w whole
    unfolding job_seen seen meets window_place seen_from meets_at place_in
    seen_same = rw r.begin

    is_shown : Shown (meets_of ws j w) whole begin end (job_seen ws j w whole)
    unfolding seen_from
    is_shown = subst (Shown (meets_of ws j w) whole begin end) seen_same (shown (place_in j.begin w) (meets_of ws j w) whole 0 0 begin w)

    -- a window that ends the text is not short
    pub whole_long : whole ≡ true → is_short (job_seen ws j w whole) ≡ false
    whole_long e = shown_whole (meets_of ws j w) whole begin end (job_seen ws j w whole) is_shown e

    -- so many rows fit a count
    pub few_all : j.kept + length (job_rows ws j w whole) < 2 ^ 32
    unfolding job_rows
    few_all =
        let x = job_seen ws j w whole in
        let z = shown_few (meets_of ws j w) whole begin end x (omega arith) is_shown in
        omega (arith, seen_few ws j w x, z, rows_length j.table.count ws, few_rows sound, sound.short, few_kept, short_window)

    -- ---- by how the walk stops

    -- the rows that it writes
    abbrev pub ours : List Row
    ours = walk_rows ws (olds_of j) w j.begin whole

    pub walked_by : (o : Olds) → o ≡ olds_of j → (x : Walked) (tail left : List ℕ) →
        (x ≡ walk_of ws o w j.begin whole) × (left ≡ laid (walk_rows ws o w j.begin whole) tail) →
        (x ≡ walk_of ws (olds_of j) w j.begin whole) × (left ≡ laid ours tail)
    walked_by o d x tail left q = rw d at q

    module _ (x : Walked) (e : x ≡ walk_of ws (olds_of j) w j.begin whole) where
      pub counted : x.count ≡ length ours
      unfolding walk_of
      counted = ap (λ (z : Walked). z.count) e

      stopped : stop_of ws j w (job_seen ws j w whole) ≡ x.stop
      unfolding walk_of
      stopped = ap (stop_of ws j w) (sym seen_same) ∙ sym (ap (λ (z : Walked). z.stop) e)

      ours_seen : rows_seen (job_seen ws j w whole) ≡ ours
      unfolding walk_rows
      ours_seen = ap rows_seen (sym seen_same)

      pub short_by : is_short (job_seen ws j w whole) ≡ is_lacking x.stop
      short_by = by_lacking ws j w (job_seen ws j w whole) ∙ ap is_lacking stopped

      -- they found no room
      pub full_by : (tail : List ℕ) → room_of tail < length ours →
          (None ≡ tail_told (room_of tail) (job_rows ws j w whole) (job_ending ws j w whole))
          × (laid ours tail ≡ laid (job_rows ws j w whole) tail)
      unfolding job_rows
      full_by tail h =
          let q = begins ws j w (job_seen ws j w whole) in
          rw (q.all, ours_seen) (full_before ours q.others (job_ending ws j w whole) tail h)

      -- the text is over
      pub over_by : (y : Ending) → x.stop ≡ Over y → (job_rows ws j w whole ≡ ours) × (job_ending ws j w whole ≡ y)
      unfolding job_rows job_ending
      over_by y f = let q = by_over ws j w (job_seen ws j w whole) y (stopped ∙ f) in (q.0 ∙ ours_seen, q.1)

      -- an old row meets, with c comments before it
      module _ (p : Cursor) (row c : ℕ) (f : x.stop ≡ Met p row c) where
        there : Meeting ws j w (job_seen ws j w whole) p row c
        there = by_met ws j w r.begin whole begin (job_seen ws j w whole) (omega arith) is_shown p row c (stopped ∙ f)

        row_there : row < j.table.count
        row_there = rw (rows_length j.table.count ws) at there.there

        place_old : first_place (drop row (old_rows ws j)) ≡ row_place (row_no ws row)
        unfolding first_place
        place_old =
            ap first_place (drop-cons (old_rows ws j) row (row_in []) there.there)
            ∙ ap row_place (rows_at j.table.count ws (row_in []) row row_there)

        pub met_rows : job_rows ws j w whole ≡ ours ++ rows_behind ws j.table row p c
        unfolding job_rows rows_behind
        met_rows = there.rows_met ∙ rw (place_old, ours_seen)

        pub met_ending : job_ending ws j w whole ≡ ending_behind ws j.table row p
        unfolding job_ending ending_behind
        met_ending = there.ending_met ∙ rw place_old

        room_place : Roomy (2 ^ 31) p
        unfolding onward
        room_place =
            let t = take there.at w in
            let n : 2 ^ 31 + length t ≡ 2 ^ 31 + there.at = rw (length-take-le there.at w (omega (arith, there.inside))) in
            subst (Roomy (2 ^ 31)) (sym there.place)
            (roomy_over (2 ^ 31) j.begin t
            (roomy_less (2 ^ 31 + length w) (2 ^ 31 + length t) j.begin (omega (arith, n, there.inside)) room_begin))

        pub met_follows : Follows ws j.table row p
        met_follows =
            record {
              lent = sound.lent;
              there = row_there;
              rows = moves_row sound row row_there p room_place;
              ending = moves_ending sound row row_there p room_place;
            }
