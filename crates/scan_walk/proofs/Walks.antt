-- Laws of the walk's loop over plain values: what holds at its head, and that each way through a turn keeps it or gives the answer.
use mathlib.Core.Path.{◌≡◌, refl, sym, ap, subst, ◌∙◌}
use mathlib.Core.Bool.{Bool, true, false}
use mathlib.Core.List.{List, [], ◌∷◌, ◌++◌, append_assoc, append-nil}
use Prim.Native.Nat.{ℕ, ◌+◌, ◌-◌, ◌^◌, ◌≤◌, ◌<◌}
use native.Mathlib.Nat.{add-zero, add_assoc, zero-add}
use native.Mathlib.Decide.{dec_le, ℕ_discrete}
use native.Mathlib.Omega.{arith}
use lib.ListN.{length, take, drop, length-append, length-drop}
use lib.Seq.{drop-drop, length-take-le}
use Rattle.rules.specs.declared.Cursor.{Cursor}
use Rattle.rules.specs.Outcomes.{halt}
use Rattle.std.specs.declared.option.Option.TheVariants.{None, Some}
use Rattle.rules.specs.Text.{front, is_blank, not_newline, over, along, Roomy}
use Rattle.rules.specs.Rows.{Row, row_at, eof_row, rows_in}
use Rattle.rules.specs.Lex.{Item, Piece, comment, row as row₀, refused, known, end, unknown, item}
use Rattle.rules.specs.Scan.{laid}
use Rattle.rules.specs.Edit.{Seen, met, look}
use Rattle.laws.proofs.Fronts.{front_le, front_drop, front_more}
use Rattle.laws.proofs.Places.{over_offset, over_take, over_front, roomy_less, roomy_over}
use Rattle.laws.proofs.Rows.{rows_length, laid_none}
use Rattle.scan_reader.specs.declared.Spot.{Spot}
use Rattle.scan_reader.specs.Read.{onward, Ahead}
use Rattle.scan_reader.proofs.Moves.{onward_more}
use Rattle.scan_reader.specs.declared.Brief.{Brief}
use Rattle.scan_reader.specs.Brief.{Blank, Line, End, Unknown, told}
use Rattle.scan_reader.proofs.Told.{CommentTold, by_row, by_blank, by_comment, by_end, by_unknown, by_refused}
use Rattle.std.specs.Prelude.{Result, is_ok}
use Rattle.scan_meet.specs.declared.Olds.{Olds}
use Rattle.scan_stop.specs.declared.Stop.{Stop}
use Rattle.scan_stop.specs.declared.Stop.TheVariants.{Met, Over, Short}
use Rattle.scan_stop.specs.declared.Walked.{Walked}
use Rattle.scan_meet.specs.Meeting.{Passed, Finds, passed_by, meets_at, stops_at}
use Rattle.scan_blanks.specs.Blanks.{blanks}
use Rattle.scan_puts.specs.Put.{row_of, placed}
use Rattle.scan_stop.specs.Stop.{Last, Finished}
use Rattle.scan_walk.specs.Walk.{start_of, place_in, rows_seen, stop_seen, seen_from, walk_seen, walk_rows, walk_of, Walkable, Passable}
use Rattle.scan_puts.proofs.Laid.{laid_more}
use Rattle.scan_walk.proofs.Looks.{look_by, look_met, look_by_lem, look_blanks}

module _ (ws : List ℕ) (o : Olds) (t : List ℕ) (p : Cursor) (whole : Bool) (lent : List ℕ) where
  abbrev olds_of : List Row
  olds_of = rows_in o.count ws

  -- what is seen from index i on, behind c comments
  abbrev seen_of : (c i : ℕ) → Seen
  seen_of c i = look (place_in p t) (meets_at olds_of o.least o.b) whole c 0 (p.offset.0 + i) (drop i t)

  abbrev stop_by : Seen → Stop
  stop_by s = stop_seen olds_of o.least o.b t p s

  -- The rows `done`, n of them, are passed, and c comments behind the last; the walk stands at index i, and what is seen from there on is
  -- the rest.
  pub record Walking (us : List ℕ) (here : Spot) (i row n c : ℕ) : Type 0 where
    pub done : List Row
    pub spot : here ≡ onward t (start_of p) i
    pub inside : i ≤ length t
    pub few : row ≤ o.count
    pub passed : Passed ws o.least o.b row (p.offset.0 + i)
    pub counted : length done ≡ n
    pub small : n ≤ i
    pub small_gap : c ≤ i
    pub words : us ≡ laid done lent
    pub rest : walk_rows ws o t p whole ≡ done ++ rows_seen (seen_of c i)
    pub stops : stop_by (walk_seen ws o t p whole) ≡ stop_by (seen_of c i)

  -- the answer and the words together
  abbrev pub Answer : Walked → List ℕ → Type 0
  Answer r us = (r ≡ walk_of ws o t p whole) × (us ≡ laid (walk_rows ws o t p whole) lent)

  pub walking_start : Walkable ws o t p → Walking lent (start_of p) 0 o.first 0 0
  unfolding onward over seen_from walk_rows
  walking_start ready =
      record {
        done = [];
        spot = refl;
        inside = omega arith;
        few = ready.few;
        passed = record { below = λ j m h e f. ready.passed.below j m h (omega arith) f };
        counted = refl;
        small = omega arith;
        small_gap = omega arith;
        words = sym (laid_none lent);
        rest = rw add-zero;
        stops = rw add-zero;
      }

-- the walk stands there
module _ {ws : List ℕ} {o : Olds} {t : List ℕ} {p : Cursor} {whole : Bool} {lent us : List ℕ} {here : Spot} {i row n c : ℕ}
    (g : Walking ws o t p whole lent us here i row n c) where
  abbrev olds : List Row
  olds = olds_of ws o t p whole lent

  abbrev meet : ℕ → Bool
  meet = meets_at olds o.least o.b

  abbrev seen_at : (c i : ℕ) → Seen
  seen_at = seen_of ws o t p whole lent

  abbrev stop_of : Seen → Stop
  stop_of = stop_by ws o t p whole lent

  abbrev Stands : List ℕ → Spot → (i row n c : ℕ) → Type 0
  Stands = Walking ws o t p whole lent

  abbrev Answers : Walked → List ℕ → Type 0
  Answers = Answer ws o t p whole lent

  pub at_index : here.at ≡ i
  unfolding onward
  at_index = ap (λ (s : Spot). s.at) g.spot ∙ zero-add i

  at_cursor : here.cursor ≡ over p (take i t)
  unfolding onward
  at_cursor = ap (λ (s : Spot). s.cursor) g.spot

  pub at_offset : here.cursor.offset.0 ≡ p.offset.0 + i
  at_offset = ap (λ (x : Cursor). x.offset.0) at_cursor ∙ over_offset p (take i t) ∙ rw (length-take-le i t g.inside)

  pub ahead : Roomy (length t) p → Ahead t here
  ahead ready =
      record {
        inside = rw at_index g.inside;
        roomy = rw (at_index, at_cursor) (roomy_over (length t - i) p (take i t) (rw room ready));
      }
    where
      room : length t - i + length (take i t) ≡ length t
      room = rw (length-take-le i t g.inside) (omega (arith, g.inside))

  -- the place m bytes on
  place_on : (m : ℕ) → place_in p t (p.offset.0 + i + m) ≡ over here.cursor (take m (drop i t))
  unfolding place_in
  place_on m =
      let e : p.offset.0 + i + m - p.offset.0 ≡ i + m = omega arith in
      rw (e, over_take, at_cursor)

  place_here : place_in p t (p.offset.0 + i) ≡ here.cursor
  unfolding over
  place_here = ap (place_in p t) (sym (add-zero (p.offset.0 + i))) ∙ place_on 0

  -- m bytes on
  seen_on : (d m : ℕ) → look (place_in p t) meet whole d 0 (p.offset.0 + i + m) (drop m (drop i t)) ≡ seen_at d (i + m)
  seen_on d m = rw (drop-drop, add_assoc)

  passed_on : (m r : ℕ) → Passed ws o.least o.b r (p.offset.0 + i) → Passed ws o.least o.b r (p.offset.0 + (i + m))
  passed_on m r f = record { below = λ j k x y u. f.below j k x (omega arith) u }

  spot_on : (m : ℕ) → onward t here m ≡ onward t (start_of p) (i + m)
  spot_on m = ap (λ (s : Spot). onward t s m) g.spot ∙ onward_more t (start_of p) i m

  -- the spot s is m bytes on
  module _ (s : Spot) (m : ℕ) (q : s ≡ onward t here m) where
    on_at : s.at ≡ i + m
    unfolding onward
    on_at = ap (λ (x : Spot). x.at) q ∙ rw at_index

    -- no row stands between, and then d comments are passed
    goes_on : (d : ℕ) → d ≤ i + m → m ≤ length (drop i t) → seen_at c i ≡ seen_at d (i + m) → Stands us s s.at row n d
    goes_on d l h e =
        subst (λ (j : ℕ). Stands us s j row n d) (sym on_at)
        (record {
          done = g.done;
          spot = q ∙ spot_on m;
          inside = omega (arith, length-drop i t, g.inside);
          few = g.few;
          passed = passed_on m row g.passed;
          counted = g.counted;
          small = omega (arith, g.small);
          small_gap = l;
          words = g.words;
          rest = g.rest ∙ rw e;
          stops = g.stops ∙ ap stop_of e;
        })

  -- ---- behind blanks

  module _ (s : Spot) (q : s ≡ onward t here (blanks (drop here.at t))) where
    to_there : s ≡ onward t here (blanks (drop i t))
    to_there = q ∙ ap (λ (k : ℕ). onward t here (blanks (drop k t))) at_index

    pub blanks_more : i ≤ s.at
    blanks_more = omega (arith, on_at s (blanks (drop i t)) to_there)

    pub walking_blanks : Stands us s s.at row n c
    unfolding blanks
    walking_blanks =
        let m = front is_blank (drop i t) in
        goes_on s m to_there c (omega (arith, g.small_gap)) (front_le is_blank (drop i t))
        (look_blanks (place_in p t) meet whole c m (p.offset.0 + i) (drop i t) (omega arith) ∙ seen_on c m)

    -- no blank is left
    pub blanks_none : blanks (drop s.at t) ≡ 0
    unfolding blanks
    blanks_none =
        let m = front is_blank (drop i t) in
        let e : front is_blank (drop m (drop i t)) ≡ 0 = omega (arith, front_drop is_blank m (drop i t) (omega arith)) in
        rw (on_at s m to_there, ← drop-drop m i t) e

  -- ---- an old row is looked for

  module _ (r : Result ℕ ℕ) (f : Finds ws o.count o.least o.b row here.cursor.offset.0 (drop here.at t) r) where
    pub walking_found : Stands us here i (passed_by r) n c
    walking_found =
        record {
          done = g.done;
          spot = g.spot;
          inside = g.inside;
          few = f.high;
          passed = rw at_offset at f.passed;
          counted = g.counted;
          small = g.small;
          small_gap = g.small_gap;
          words = g.words;
          rest = g.rest;
          stops = g.stops;
        }

    pub tells : is_ok r ≡ stops_at olds o.least o.b (p.offset.0 + i) (drop i t)
    tells = rw (at_index, at_offset) at f.tells

  -- ---- the answers

  -- the walk is over
  over_with : (x : Stop) → rows_seen (seen_at c i) ≡ [] → stop_of (seen_at c i) ≡ x → Answers (record { count = n; stop = x }) us
  unfolding walk_of
  over_with x e f =
      let q : walk_rows ws o t p whole ≡ g.done = g.rest ∙ rw (e, append-nil) in
      (rw (q, g.counted, g.stops, f), rw q g.words)

  -- a row comes last
  over_behind : (r : Row) (x : Stop) → rows_seen (seen_at c i) ≡ r ∷ [] → stop_of (seen_at c i) ≡ x →
      Answers (record { count = n + 1; stop = x }) (placed n r us)
  unfolding walk_of
  over_behind r x e f =
      let q : walk_rows ws o t p whole ≡ g.done ++ (r ∷ []) = g.rest ∙ rw e in
      let l : length (g.done ++ (r ∷ [])) ≡ n + 1 = rw (length-append, g.counted) in
      (rw (q, l, g.stops, f), rw (q, g.words) (laid_more g.done r lent n g.counted))

  pub walking_met : (r : Result ℕ ℕ) → Finds ws o.count o.least o.b row here.cursor.offset.0 (drop here.at t) r →
      is_ok r ≡ true → Answers (record { count = n; stop = Met here.cursor (passed_by r) c }) us
  unfolding stop_seen rows_seen stops_at
  walking_met r f e =
      let k = p.offset.0 in
      let s : seen_at c i ≡ met (k + i) c = look_met (place_in p t) meet whole (drop i t) c (k + i) (sym (tells r f) ∙ e) in
      let q = rw at_offset at (f.there e) in
      let m : k + i - k ≡ i = omega arith in
      let d : length olds - length (drop (passed_by r) olds) ≡ passed_by r =
      omega (arith, length-drop (passed_by r) olds, rows_length o.count ws, f.high) in
      over_with (Met here.cursor (passed_by r) c) (rw s) (ap stop_of s ∙ rw (q, d, m, g.spot))

  -- ---- nothing meets, no blank stands there, and r was told

  module _ (off : stops_at olds o.least o.b (p.offset.0 + i) (drop i t) ≡ false) (none : blanks (drop i t) ≡ 0)
      (r : Brief) (q : r ≡ told (drop here.at t) (item whole (drop here.at t))) where
    told_here : r ≡ told (drop i t) (item whole (drop i t))
    told_here = q ∙ ap (λ (k : ℕ). told (drop k t) (item whole (drop k t))) at_index

    seen_by : (x : Item) → item whole (drop i t) ≡ x → seen_at c i ≡ look_by (place_in p t) meet whole x c (p.offset.0 + i) (drop i t)
    unfolding stops_at
    seen_by x e = look_by_lem (place_in p t) meet whole (drop i t) c (p.offset.0 + i) off ∙ rw e

    -- it is the last

    pub last : End ≤ r.kind → i + 1 < 2 ^ 64 → Roomy (length t) p → Last n here.cursor r
    unfolding told
    last h l ready =
        record {
          few = omega (arith, g.small);
          roomy = roomy_less (length t - here.at) r.size here.cursor short_size (ahead ready).roomy;
        }
      where
        by : Dec (r.kind ≡ End) → Dec (r.kind ≡ Unknown) → r.size ≤ length (drop i t)
        by (yes e) d = let s = by_end whole (drop i t) r told_here e in rw (told_here, s) (omega arith)
        by (no e) (yes d) = let s = by_unknown whole (drop i t) r told_here d in rw (told_here, s) (omega arith)
        by (no e) (no d) =
            let s = by_refused whole (drop i t) r told_here (omega arith) in
            omega (arith, s.line, front_le not_newline (drop i t))

        short_size : r.size ≤ length t - here.at
        short_size = omega (arith, by (ℕ_discrete r.kind End) (ℕ_discrete r.kind Unknown), length-drop i t, at_index)

    pub walking_last : End ≤ r.kind → (x : Walked) (vs : List ℕ) → Finished n here.cursor c r x us vs → Answers x vs
    unfolding look_by rows_seen stop_seen
    walking_last h x vs f = by (ℕ_discrete r.kind End) (ℕ_discrete r.kind Unknown)
      where
        by : Dec (r.kind ≡ End) → Dec (r.kind ≡ Unknown) → Answers x vs
        by (yes e) d =
            let s = seen_by end (by_end whole (drop i t) r told_here e) in
            rw ((f.end e).0, (f.end e).1)
            (over_behind (eof_row here.cursor c) (Over None) (ap rows_seen s ∙ rw place_here) (ap stop_of s))
        by (no e) (yes d) =
            let s = seen_by unknown (by_unknown whole (drop i t) r told_here d) in
            rw ((f.unknown d).0, (f.unknown d).1) (over_with Short (ap rows_seen s) (ap stop_of s))
        by (no e) (no d) =
            let b = by_refused whole (drop i t) r told_here (omega arith) in
            let s = seen_by (known (refused b.why r.size b.decided)) b.item_is in
            let z = f.refused b.why b.code in
            rw (z.0, z.1)
            (over_with (Over (Some (halt b.why (along here.cursor r.size)))) (ap rows_seen s)
            (ap stop_of s ∙ rw (place_on r.size, over_front here.cursor (drop i t) r.size b.line)))

    -- ---- it is passed

    no_blank : r.kind ≡ Blank → ⊥
    unfolding blanks
    no_blank e =
        let b = by_blank whole (drop i t) r told_here e in
        omega (arith, none, front_more is_blank (drop i t) 0 0 (omega arith) b.inside b.blank_is)

    is_comment : Blank ≤ r.kind → r.kind < End → CommentTold (drop i t) (item whole (drop i t)) r
    is_comment h k = by (ℕ_discrete r.kind Blank)
      where
        by : Dec (r.kind ≡ Blank) → CommentTold (drop i t) (item whole (drop i t)) r
        by (yes e) = absurd (no_blank e)
        by (no e) = by_comment whole (drop i t) r told_here (omega arith) k

    pub passable : r.kind < End → Roomy (length t) p → Passable t here r
    passable h ready = by (dec_le Blank r.kind)
      where
        fits : r.size ≤ length (drop i t) → here.at + r.size ≤ length t
        fits k = omega (arith, at_index, length-drop i t, g.inside)

        of_comment : Blank ≤ r.kind → CommentTold (drop i t) (item whole (drop i t)) r → Passable t here r
        of_comment l b =
            record {
              ahead = ahead ready;
              some = b.some;
              inside = fits b.inside;
              row = λ d. absurd (not_both l d);
              line = λ d. rw at_index (b.line (is_line d));
            }
          where
            not_both : Blank ≤ r.kind → r.kind < Blank → ⊥
            not_both l d = omega arith

            is_line : r.kind ≤ Line → r.kind ≡ Line
            is_line d = by (ℕ_discrete r.kind Blank)
              where
                by : Dec (r.kind ≡ Blank) → r.kind ≡ Line
                by (yes e) = absurd (no_blank e)
                by (no e) = omega arith

        by : Dec (Blank ≤ r.kind) → Passable t here r
        by (yes l) = of_comment l (is_comment l h)
        by (no l) =
            let k = by_row whole (drop i t) r told_here (omega arith) in
            let e : r.size ≤ front not_newline (drop here.at t) = rw at_index k.line in
            record { ahead = ahead ready; some = k.some; inside = fits k.inside; row = λ d. e; line = λ d. omega arith }

    module _ (s : Spot) (z : s ≡ onward t here r.size) where
      pub walking_comment : Blank ≤ r.kind → r.kind < End → Stands us s s.at row n (c + 1)
      unfolding look_by
      walking_comment h k =
          let b = is_comment h k in
          goes_on s r.size z (c + 1) (omega (arith, g.small_gap, b.some)) b.inside
          (seen_by (known (comment r.size b.decided)) b.item_is ∙ seen_on (c + 1) r.size)

      pub walking_row : r.kind < Blank → Stands (placed n (row_of here.cursor c r) us) s s.at row (n + 1) 0
      unfolding look_by rows_seen stop_seen row_of
      walking_row h =
          let b = by_row whole (drop i t) r told_here h in
          let e = seen_by (known (row' b.decided)) b.item_is in
          let k : row_at (place_in p t (p.offset.0 + i)) c r.kind (p.offset.0 + i + r.size) r.bits ≡ row_of here.cursor c r =
          rw (place_here, at_offset) in
          subst (λ (j : ℕ). Stands (placed n (row_of here.cursor c r) us) s j row (n + 1) 0) (sym (on_at s r.size z))
          (record {
            done = g.done ++ (row_of here.cursor c r ∷ []);
            spot = z ∙ spot_on r.size;
            inside = omega (arith, length-drop i t, g.inside, b.inside);
            few = g.few;
            passed = passed_on r.size row g.passed;
            counted = rw (length-append, g.counted);
            small = omega (arith, g.small, b.some);
            small_gap = omega arith;
            words = rw g.words (laid_more g.done (row_of here.cursor c r) lent n g.counted);
            rest =
                g.rest ∙ ap (λ (l : List Row). g.done ++ l) (ap rows_seen e ∙ rw (k, seen_on 0 r.size))
                ∙ sym (append_assoc g.done _ _);
            stops = g.stops ∙ ap stop_of e ∙ rw (seen_on 0 r.size);
          })
        where
          row' : ℕ → Piece
          row' d = row₀ r.kind r.size r.bits d

      pub walking_less : r.kind < End → (i < s.at) × (s.at ≤ length t)
      walking_less h = by (dec_le Blank r.kind)
        where
          by : Dec (Blank ≤ r.kind) → (i < s.at) × (s.at ≤ length t)
          by (yes l) =
              let b = is_comment l h in
              (omega (arith, on_at s r.size z, b.some), omega (arith, on_at s r.size z, b.inside, length-drop i t, g.inside))
          by (no l) =
              let b = by_row whole (drop i t) r told_here (omega arith) in
              (omega (arith, on_at s r.size z, b.some), omega (arith, on_at s r.size z, b.inside, length-drop i t, g.inside))
