-- Laws of the loop over plain values: what holds at its head, and that each way through a turn keeps it or gives the answer.
use mathlib.Core.Path.{◌≡◌, refl, sym, ap, ◌∙◌}
use mathlib.Core.Bool.{true}
use mathlib.Core.List.{List, [], ◌∷◌, ◌++◌, append-nil}
use Prim.Native.Nat.{ℕ, ◌+◌, ◌-◌, ◌*◌, ◌≤◌, ◌<◌}
use native.Mathlib.Nat.{add-zero}
use native.Mathlib.Decide.{dec_le, ℕ_discrete}
use native.Mathlib.Omega.{arith}
use lib.ListN.{length, take, drop, length-append, length-take, length-drop}
use lib.Seq.{drop-drop, length-take-le, take_all, take_at}
use Rattle.rules.specs.declared.Cursor.{Cursor}
use Rattle.rules.specs.Outcomes.{Ending, halt}
use Rattle.std.specs.declared.option.Option.TheVariants.{None, Some}
use Rattle.rules.specs.Text.{front, is_blank, place_at, start_place, over, along, Roomy}
use Rattle.rules.specs.Rows.{Row, row_at, eof_row, words_of, words_per_row}
use Rattle.rules.specs.Lex.{Item, comment, row, refused, known, end, unknown, item}
use Rattle.rules.specs.Scan.{Reading, read_rows, read_ending, read, room_of, laid}
use Rattle.laws.proofs.Fronts.{front_le, front_drop, front_more}
use Rattle.laws.proofs.Places.{over_start, over_take, over_front, roomy_less, roomy_over}
use Rattle.laws.proofs.Rows.{words_length, laid_none, laid_all}
use Rattle.scan_reader.specs.declared.Spot.{Spot}
use Rattle.scan_reader.specs.Read.{onward, Ahead}
use Rattle.scan_reader.specs.declared.Brief.{Brief}
use Rattle.scan_reader.specs.Brief.{Blank, Line, End, Unknown, told}
use Rattle.scan_reader.proofs.Told.{CommentTold, by_row, by_blank, by_comment, by_end, by_unknown, by_refused}
use Rattle.scan_stop.specs.declared.Stop.TheVariants as stop
use Rattle.scan_stop.specs.declared.Walked.{Walked}
use Rattle.scan_blanks.specs.Blanks.{blanks}
use Rattle.scan_puts.specs.Put.{row_of, placed}
use Rattle.scan_stop.specs.Stop.{Last, Finished, IsOver}
use Rattle.scan_walk.specs.Walk.{Passable}
use Rattle.scan_puts.proofs.Laid.{laid_more}
use Rattle.scan_part.specs.declared.Next.{Next}
use Rattle.scan_part.specs.declared.Next.TheVariants.{On, Over}
use Rattle.scan_part.specs.declared.Part.{Part}
use Rattle.scan_part.specs.Part.{read_from, put_all, part_rows, Begun, PartOf}
use Rattle.scan_part.proofs.Readings.{put_rows, put_ending, put_one, read_by, read_by_lem, read_blanks}

-- ---- spots at which a reading can begin

-- the place m bytes on
place_on : (t : List ℕ) (i m : ℕ) → i + m ≤ length t → over (place_at t i) (take m (drop i t)) ≡ place_at t (i + m)
place_on t i m h =
    ap (λ (c : Cursor). over c (take m (drop i t))) (sym (over_start t i (omega arith)))
    ∙ sym (over_take start_place i m t)
    ∙ over_start t (i + m) h

module _ {t : List ℕ} {here : Spot} (b : Begun t here) where
  -- its counters have room for what is ahead
  pub begun_ahead : Ahead t here
  begun_ahead =
      record {
        inside = b.inside;
        roomy =
            rw (b.cursor, ← over_start t here.at b.inside)
            (roomy_over (length t - here.at) start_place (take here.at t) (rw room start_roomy));
      }
    where
      room : length t - here.at + length (take here.at t) ≡ length t
      room = rw (length-take-le here.at t b.inside) (omega (arith, b.inside))

      start_roomy : Roomy (length t) start_place
      start_roomy = record { offset = omega (arith, b.few); line = omega (arith, b.few); column = omega (arith, b.few) }

  -- the spot s is m bytes on
  module _ (s : Spot) (m : ℕ) (q : s ≡ onward t here m) where
    on_at : s.at ≡ here.at + m
    unfolding onward
    on_at = ap (λ (x : Spot). x.at) q

    begun_on : m ≤ length (drop here.at t) → Begun t s
    unfolding onward
    begun_on h =
        let l : here.at + m ≤ length t = omega (arith, length-drop here.at t, b.inside) in
        record {
          inside = rw on_at l;
          cursor = ap (λ (x : Spot). x.cursor) q ∙ rw (b.cursor, on_at) (place_on t here.at m l);
          few = b.few;
        }

-- in a text that ends everything is known
no_unknown : (s : List ℕ) → item true s ≡ unknown → ⊥
unfolding item
no_unknown [] f = let z : ◌≡◌ {A = ℕ} 0 1 = cc in omega arith
no_unknown (b ∷ s) f = let z : ◌≡◌ {A = ℕ} 0 1 = cc in omega arith

-- ---- the loop's head

-- what is read from index i on, behind c comments
abbrev rest_of : List ℕ → (c i : ℕ) → Reading
rest_of t c i = read (place_at t) c 0 i (drop i t)

-- The rows `done`, n of them, are read from offset k on, and c comments behind the last, none where they are all that were asked for;
-- what is read from the spot on is the rest.
pub record Going (t : List ℕ) (k most : ℕ) (lent us : List ℕ) (here : Spot) (n c : ℕ) : Type 0 where
  pub done : List Row
  pub begun : Begun t here
  pub far : k + n ≤ here.at
  pub counted : length done ≡ n
  pub asked : n ≤ most
  pub small_gap : c ≤ here.at
  pub closed : most ≤ n → c ≡ 0
  pub words : us ≡ laid done lent
  pub rest : read_from t k ≡ put_all done (rest_of t c here.at)

-- the answer and the words together
abbrev pub Answer : List ℕ → (k most : ℕ) → List ℕ → Part → List ℕ → Type 0
Answer t k most lent r us = PartOf t k most r × (us ≡ words_of (part_rows t k most) ++ drop (words_per_row * r.count) lent)

-- it has as many words as were lent
pub answer_length : {t : List ℕ} {k most : ℕ} (lent : List ℕ) (r : Part) {us : List ℕ} → words_per_row * most ≤ length lent →
    Answer t k most lent r us → length us ≡ length lent
unfolding part_rows
answer_length {t} {k} {most} lent r room a =
    let n : length (part_rows t k most) ≤ most = rw length-take (omega arith) in
    rw (a.1, length-append, words_length, length-drop) (omega (arith, a.0.counted))

-- it holds where the reading begins
pub going_start : (t : List ℕ) (most : ℕ) (lent : List ℕ) (s : Spot) → Begun t s → Going t s.at most lent lent s 0 0
unfolding read_from put_all
going_start t most lent s b =
    record {
      done = [];
      begun = b;
      far = omega arith;
      counted = refl;
      asked = omega arith;
      small_gap = omega arith;
      closed = λ h. refl;
      words = sym (laid_none lent);
      rest = refl;
    }

module _ {t : List ℕ} {k most : ℕ} {lent us : List ℕ} {here : Spot} {n c : ℕ} (g : Going t k most lent us here n c) where
  abbrev i : ℕ
  i = here.at

  abbrev Stands : List ℕ → Spot → (n c : ℕ) → Type 0
  Stands = Going t k most lent

  abbrev Answers : Part → List ℕ → Type 0
  Answers = Answer t k most lent

  -- m bytes on
  rest_on : (d m : ℕ) → read (place_at t) d 0 (i + m) (drop m (drop i t)) ≡ rest_of t d (i + m)
  rest_on d m = rw drop-drop

  -- no row stands between, and then d comments are passed
  goes_on : (s : Spot) (m : ℕ) → s ≡ onward t here m → (d : ℕ) → d ≤ i + m → m ≤ length (drop i t) → (most ≤ n → d ≡ 0) →
      rest_of t c i ≡ rest_of t d (i + m) → Stands us s n d
  goes_on s m q d l h z e =
      let a : s.at ≡ i + m = on_at g.begun s m q in
      record {
        done = g.done;
        begun = begun_on g.begun s m q h;
        far = omega (arith, g.far);
        counted = g.counted;
        asked = g.asked;
        small_gap = omega arith;
        closed = z;
        words = g.words;
        rest = g.rest ∙ ap (put_all g.done) (e ∙ ap (rest_of t d) (sym a));
      }

  -- ---- behind blanks

  module _ (s : Spot) (q : s ≡ onward t here (blanks (drop i t))) where
    -- the spot behind them does not stand in front of them
    pub blanks_more : i ≤ s.at
    blanks_more = omega (arith, on_at g.begun s (blanks (drop i t)) q)

    -- the loop goes on from there with the same rows and comments
    pub going_blanks : Stands us s n c
    unfolding blanks
    going_blanks =
        let m = front is_blank (drop i t) in
        goes_on s m q c (omega (arith, g.small_gap)) (front_le is_blank (drop i t)) g.closed
        (read_blanks (place_at t) c m i (drop i t) (omega arith) ∙ rest_on c m)

    -- no blank is left
    pub blanks_none : blanks (drop s.at t) ≡ 0
    unfolding blanks
    blanks_none =
        let m = front is_blank (drop i t) in
        let e : front is_blank (drop m (drop i t)) ≡ 0 = omega (arith, front_drop is_blank m (drop i t) (omega arith)) in
        rw (on_at g.begun s m q, ← drop-drop m i t) e

  -- ---- the answers

  -- so many rows were asked for
  pub going_full : 1 ≤ most → words_per_row * most ≤ length lent → most ≤ n → Answers (record { count = n; next = On here }) us
  unfolding read_from part_rows room_of
  going_full one room h =
      let e : read_from t k ≡ put_all g.done (read_from t i) = g.rest ∙ rw (g.closed h) in
      let f : part_rows t k most ≡ g.done =
      ap (λ (l : Reading). take most (read_rows l)) e
      ∙ rw (put_rows g.done (read_from t i)) (take_at g.done (read_rows (read_from t i)) most (omega (arith, g.counted, g.asked))) in
      let m : n ≡ most = omega (arith, g.asked) in (
        record {
          counted = rw (f, g.counted);
          on = λ s z.
              let w : here ≡ s = cc in
              rw (← w, f) (((g.begun, omega (arith, g.far)), m), e);
          over = λ x z. absurd (let w : ◌≡◌ {A = ℕ} 0 1 = cc in omega arith);
        },
        rw (f, ← g.counted) (g.words ∙ laid_all g.done lent (omega (arith, g.counted, g.asked))),
      )

  -- the rows xs come last, and the text is over
  over_with : (xs : List Row) (x : Ending) (vs : List ℕ) → n + length xs ≤ most → words_per_row * most ≤ length lent →
      read_rows (rest_of t c i) ≡ xs → read_ending (rest_of t c i) ≡ x → vs ≡ laid (g.done ++ xs) lent →
      Answers (record { count = n + length xs; next = Over x }) vs
  unfolding part_rows room_of
  over_with xs x vs few room e f w =
      let l : length (g.done ++ xs) ≡ n + length xs = rw (length-append, g.counted) in
      let a : read_rows (read_from t k) ≡ g.done ++ xs = ap read_rows g.rest ∙ rw (put_rows, e) in
      let z : read_ending (read_from t k) ≡ x = ap read_ending g.rest ∙ rw (put_ending, f) in
      let p : part_rows t k most ≡ g.done ++ xs = rw a (take_all most (g.done ++ xs) (omega arith)) in (
        record {
          counted = rw (p, l);
          on = λ s y. absurd (let v : ◌≡◌ {A = ℕ} 0 1 = cc in omega arith);
          over = λ y u. (a ∙ sym p, let v : x ≡ y = cc in z ∙ v);
        },
        w ∙ laid_all (g.done ++ xs) lent (omega arith) ∙ rw (p, l),
      )

  -- ---- no blank stands there, and r was told

  module _ (none : blanks (drop i t) ≡ 0) (r : Brief) (q : r ≡ told (drop i t) (item true (drop i t))) where
    read_here : (x : Item) → item true (drop i t) ≡ x → rest_of t c i ≡ read_by (place_at t) x c i (drop i t)
    read_here x e = read_by_lem (place_at t) (drop i t) c i ∙ rw e

    -- ---- it is the last

    never_unknown : r.kind ≡ Unknown → ⊥
    never_unknown e = no_unknown (drop i t) (by_unknown true (drop i t) r q e)

    is_refusal : End ≤ r.kind → (r.kind ≡ End → ⊥) → Unknown < r.kind
    is_refusal h e = by never_unknown
      where
        by : (r.kind ≡ Unknown → ⊥) → Unknown < r.kind
        by d = omega arith

    -- the walk can finish there
    pub last : End ≤ r.kind → Last n here.cursor r
    unfolding told
    last h =
        record {
          few = omega (arith, g.far, g.begun.inside, g.begun.few);
          roomy = roomy_less (length t - i) r.size here.cursor short_size (begun_ahead g.begun).roomy;
        }
      where
        by : Dec (r.kind ≡ End) → r.size ≤ length (drop i t)
        by (yes e) = let s = by_end true (drop i t) r q e in rw (q, s) (omega arith)
        by (no e) = (by_refused true (drop i t) r q (is_refusal h e)).inside

        short_size : r.size ≤ length t - i
        short_size = omega (arith, by (ℕ_discrete r.kind End), length-drop i t)

    -- the answer is what the finish tells, where y has its ending
    pub going_last : End ≤ r.kind → n < most → words_per_row * most ≤ length lent → (x : Walked) (vs : List ℕ) →
        Finished n here.cursor c r x us vs →
        (y : Next) → ((e : Ending) → x.stop ≡ stop.Over e → y ≡ Over e) → Answers (record { count = x.count; next = y }) vs
    unfolding read_by read_rows read_ending
    going_last h left room x vs f y o = by (ℕ_discrete r.kind End)
      where
        by : Dec (r.kind ≡ End) → Answers (record { count = x.count; next = y }) vs
        by (yes e) =
            let s = read_here end (by_end true (drop i t) r q e) in
            let z = f.end e in
            rw (o None (rw z.0), z.0)
            (over_with (eof_row here.cursor c ∷ []) None vs (omega arith) room
            (ap read_rows s ∙ rw g.begun.cursor) (ap read_ending s)
            (z.1 ∙ rw g.words (laid_more g.done (eof_row here.cursor c) lent n g.counted)))
        by (no e) =
            let b = by_refused true (drop i t) r q (is_refusal h e) in
            let s = read_here (known (refused b.why r.size b.decided)) b.item_is in
            let z = f.refused b.why b.code in
            let p : place_at t (i + r.size) ≡ along here.cursor r.size =
            sym (place_on t i r.size (omega (arith, b.inside, length-drop i t, g.begun.inside)))
            ∙ rw (← g.begun.cursor) (over_front here.cursor (drop i t) r.size b.line) in
            let u : x.count ≡ n + 0 = rw (z.0, add-zero) in
            rw (o (Some (halt b.why (along here.cursor r.size))) (rw z.0), u)
            (over_with [] (Some (halt b.why (along here.cursor r.size))) vs (omega arith) room
            (ap read_rows s) (ap read_ending s ∙ rw p) (z.1 ∙ g.words ∙ rw append-nil))

    -- the walk is over there
    pub going_over : End ≤ r.kind → (x : Walked) (vs : List ℕ) → Finished n here.cursor c r x us vs → IsOver x.stop
    going_over h x vs f = by (ℕ_discrete r.kind End)
      where
        by : Dec (r.kind ≡ End) → IsOver x.stop
        by (yes e) = rw (f.end e).0 tt
        by (no e) =
            let b = by_refused true (drop i t) r q (is_refusal h e) in
            rw (f.refused b.why b.code).0 tt

    -- ---- it is passed

    no_blank : r.kind ≡ Blank → ⊥
    unfolding blanks
    no_blank e =
        let b = by_blank true (drop i t) r q e in
        omega (arith, none, front_more is_blank (drop i t) 0 0 (omega arith) b.inside b.blank_is)

    is_comment : Blank ≤ r.kind → r.kind < End → CommentTold (drop i t) (item true (drop i t)) r
    is_comment h l = by_comment true (drop i t) r q (above no_blank) l
      where
        above : (r.kind ≡ Blank → ⊥) → Blank < r.kind
        above e = omega arith

    fits : r.size ≤ length (drop i t) → i + r.size ≤ length t
    fits h = omega (arith, length-drop i t, g.begun.inside)

    -- what was told can be passed
    pub passable : r.kind < End → Passable t here r
    passable h = by (dec_le Blank r.kind)
      where
        not_both : Blank ≤ r.kind → r.kind < Blank → ⊥
        not_both l d = omega arith

        is_line : (r.kind ≡ Blank → ⊥) → Blank ≤ r.kind → r.kind ≤ Line → r.kind ≡ Line
        is_line e l d = omega arith

        by : Dec (Blank ≤ r.kind) → Passable t here r
        by (yes l) =
            let b = is_comment l h in
            record {
              ahead = begun_ahead g.begun;
              some = b.some;
              inside = fits b.inside;
              row = λ d. absurd (not_both l d);
              line = λ d. b.line (is_line no_blank l d);
            }
        by (no l) =
            let b = by_row true (drop i t) r q (omega arith) in
            record {
              ahead = begun_ahead g.begun;
              some = b.some;
              inside = fits b.inside;
              row = λ d. b.line;
              line = λ d. omega (arith, b.line);
            }

    module _ (s : Spot) (z : s ≡ onward t here r.size) where
      -- behind a comment one more is counted
      pub going_comment : Blank ≤ r.kind → r.kind < End → n < most → Stands us s n (c + 1)
      unfolding read_by
      going_comment h l left =
          let b = is_comment h l in
          goes_on s r.size z (c + 1) (omega (arith, g.small_gap, b.some)) b.inside (λ m. absurd (not_both m))
          (read_here (known (comment r.size b.decided)) b.item_is ∙ rest_on (c + 1) r.size)
        where
          not_both : most ≤ n → ⊥
          not_both m = omega arith

      -- behind a row one more is written, and the count of comments begins anew
      pub going_row : r.kind < Blank → n < most → Stands (placed n (row_of here.cursor c r) us) s (n + 1) 0
      unfolding read_by row_of place_at
      going_row h left =
          let b = by_row true (drop i t) r q h in
          let e = read_here (known (row r.kind r.size r.bits b.decided)) b.item_is in
          let a : s.at ≡ i + r.size = on_at g.begun s r.size z in
          let w = row_of here.cursor c r in
          let o : here.cursor.offset.0 ≡ i = ap (λ (x : Cursor). x.offset.0) g.begun.cursor in
          let k : row_at (place_at t i) c r.kind (i + r.size) r.bits ≡ w = rw (← g.begun.cursor, o) in
          record {
            done = g.done ++ (w ∷ []);
            begun = begun_on g.begun s r.size z b.inside;
            far = omega (arith, g.far, b.some);
            counted = rw (length-append, g.counted);
            asked = omega arith;
            small_gap = omega arith;
            closed = λ m. refl;
            words = rw g.words (laid_more g.done w lent n g.counted);
            rest =
                g.rest ∙ ap (put_all g.done) (e ∙ rw (k, rest_on 0 r.size, ← a))
                ∙ sym (put_one g.done w (rest_of t 0 s.at));
          }

      -- either way less of the text is left
      pub going_less : r.kind < End → (i < s.at) × (s.at ≤ length t)
      going_less h =
          let p = passable h in
          (omega (arith, on_at g.begun s r.size z, p.some), omega (arith, on_at g.begun s r.size z, p.inside))
