-- Old bytes o between p and q become i. Where an old row starts, moved, at an offset behind the inserted bytes, the scan of the new text goes
-- on as the old one did, moved, but for the comments before that row; and reading restarts at a place of the new text.
use Prim.Native.Nat.{ℕ, ◌+◌, ◌-◌, ◌≤◌, ◌<◌}
use native.Mathlib.Nat.{add_assoc}
use native.Mathlib.Omega.{arith}
use mathlib.Core.Bool.{Bool, true, false, true≢false}
use mathlib.Core.List.{List, ◌∷◌, ◌++◌, map}
use mathlib.Core.Path.{◌≡◌, refl, ap, sym, ◌∙◌}
use lib.Dec.{leb, ltb, eqb}
use lib.ListN.{length, drop}
use lib.Seq.{drop-append-add}
use borrow.Author.Tests.{leb-true, le-leb, ltb-true, eqb-true, eq-eqb}
use Rattle.rules.specs.declared.Cursor.{Cursor}
use Rattle.rules.specs.Outcomes.{Ending}
use Rattle.rules.specs.Text.{front, newlines, line_at, column_at, place_at, start_place}
use Rattle.rules.specs.Rows.{Row, row_place}
use Rattle.rules.specs.Scan.{Reading, put, read_rows, read_ending, scan}
use Rattle.rules.specs.Edit.{kept, end_place, last_end, restart, opens, from, some, first_place, carry, carry_row, carry_ending, recounted, meets}
use Rattle.theory_machine.specs.Machine.{gap}
use Rattle.theory_edits.specs.Shows.{Starts, first, later}
use Rattle.laws.proofs.Tests.{both_true}
use Rattle.theory_edits.proofs.Stand.{At, rest}
use Rattle.theory_edits.proofs.Places.{place_carried}
use Rattle.theory_edits.proofs.Kept.{place_agree}
use Rattle.theory_edits.proofs.Moved.{carried, carried_rows, carried_ending, run_carried}
use Rattle.theory_edits.proofs.From.{some_starts, starts_some, Found, nowhere, found, scan_found}
use Rattle.theory_edits.proofs.Flat.{Flat, flat_put, flat_ends, flat_stops, scan_flat}
use Rattle.theory_edits.proofs.Gap.{opens_none, recount, recount_rows, recount_ending, starts_recounted, rest_recount}

-- ---- the place where reading restarts

restart_run : (T X : List ℕ) (a : ℕ) → ((n : ℕ) → n ≤ a → place_at T n ≡ place_at X n) → {l : Reading} → Flat T l → (c : Cursor)
    → c ≡ place_at X c.offset.0
    → last_end c (kept a (read_rows l)) ≡ place_at X (last_end c (kept a (read_rows l))).offset.0
unfolding kept last_end read_rows end_place
restart_run T X a g (flat_put {r} {l} h f x) c i = by (ltb r.end a) refl (restart_run T X a g x (end_place r))
  where
    by : (q : Bool) → ltb r.end a ≡ q
        → (end_place r ≡ place_at X r.end → last_end (end_place r) (kept a (read_rows l)) ≡ place_at X (last_end (end_place r) (kept a (read_rows l))).offset.0)
        → last_end c (kept a (read_rows (put r l))) ≡ place_at X (last_end c (kept a (read_rows (put r l)))).offset.0
    by true q ih = let y : r.end < a = ltb-true r.end a q in rw q (ih (f ∙ g r.end (omega arith)))
    by false q ih = rw q i
restart_run T X a g flat_ends c i = i
restart_run T X a g flat_stops c i = i

place_zero : (X : List ℕ) → start_place ≡ place_at X 0
unfolding place_at line_at column_at newlines front
place_zero X = refl

starts_carried : {m m' : ℕ} (o p : Cursor) → m + p.offset.0 - o.offset.0 ≡ m' → {rs : List Row} → Starts m rs
    → Starts m' (map (carry_row o p) (from m rs))
unfolding from carry_row carry row_place
starts_carried {m} o p e (first {r} {rs} s) = rw (eq-eqb r.start m s) (first (ap (λ (x : ℕ). x + p.offset.0 - o.offset.0) s ∙ e))
starts_carried {m} {m'} o p e (later {r} {rs} s) = by (eqb r.start m) refl (starts_carried o p e s)
  where
    by : (q : Bool) → eqb r.start m ≡ q → Starts m' (map (carry_row o p) (from m rs)) → Starts m' (map (carry_row o p) (from m (r ∷ rs)))
    by true q ih = rw q (first (ap (λ (x : ℕ). x + p.offset.0 - o.offset.0) (eqb-true r.start m q) ∙ e))
    by false q ih = rw q ih

module _ (p o i q : List ℕ) where
  abbrev pub T : List ℕ
  T = p ++ (o ++ q)

  abbrev pub T' : List ℕ
  T' = p ++ (i ++ q)

  abbrev pub a : ℕ
  a = length p

  abbrev pub b : ℕ
  b = length p + length o

  abbrev pub n : ℕ
  n = length i

  abbrev pub rows : List Row
  rows = read_rows (scan T)

  abbrev pub e : Ending
  e = read_ending (scan T)

  abbrev old : ℕ → ℕ
  old m = m + b - (a + n)

  pub restart_place : restart rows a ≡ place_at T' (restart rows a).offset.0
  unfolding restart
  restart_place = restart_run T T' a (place_agree p (o ++ q) (i ++ q)) (scan_flat T) start_place (place_zero T')

  drop_behind : (x : List ℕ) (j : ℕ) → drop (length p + length x + j) (p ++ (x ++ q)) ≡ drop j q
  drop_behind x j = rw (add_assoc (length p) (length x) j, drop-append-add p (x ++ q) (length x + j), drop-append-add x q j)

  same_rest : (m : ℕ) → a + n ≤ m → drop (old m) T ≡ drop m T'
  same_rest m h =
      let e₁ : old m ≡ b + (m - (a + n)) = omega arith in
      let e₂ : m ≡ (a + n) + (m - (a + n)) = omega arith in
      ap (λ (k : ℕ). drop k T) e₁ ∙ drop_behind o (m - (a + n)) ∙ sym (ap (λ (k : ℕ). drop k T') e₂ ∙ drop_behind i (m - (a + n)))

  slides : (m : ℕ) → a + n ≤ m → (k : ℕ) → old m ≤ k → place_at T' (k + m - old m) ≡ carry (place_at T (old m)) (place_at T' m) (place_at T k)
  slides m h k l =
      let e₁ : k + m - old m ≡ m + (k - old m) = omega arith in
      let e₂ : k ≡ old m + (k - old m) = omega arith in
      ap (place_at T') e₁ ∙ place_carried T T' m (old m) (k - old m) (same_rest m h) ∙ ap (λ (x : ℕ). carry (place_at T (old m)) (place_at T' m) (place_at T x)) (sym e₂)

  rest_carried : (c m : ℕ) → a + n ≤ m → rest T' c m ≡ carried (place_at T (old m)) (place_at T' m) (rest T c (old m))
  unfolding rest place_at
  rest_carried c m h =
      let k : old m + m - old m ≡ m = omega arith in
      rw (same_rest m h)
      (rw k at (run_carried T T' (place_at T (old m)) (place_at T' m) (slides m h) (drop m T') c (old m) 0 gap (omega arith)))

  -- what a meeting place is
  pub meets_is : (w : List ℕ) (m : ℕ) → a + n ≤ m → Starts (old m) rows → meets rows e a b n w m ≡ true
  unfolding meets
  meets_is w m h s = rw (le-leb (a + n) m h) (starts_some s)

  pub meets_behind : (w : List ℕ) (m : ℕ) → meets rows e a b n w m ≡ true → a + n ≤ m
  unfolding meets
  meets_behind w m h = leb-true (a + n) m (both_true (leb (a + n) m) (some (from (old m) rows)) h).0

  pub meets_starts : (w : List ℕ) (m : ℕ) → meets rows e a b n w m ≡ true → Starts (old m) rows
  unfolding meets
  meets_starts w m h = some_starts (old m) rows (both_true (leb (a + n) m) (some (from (old m) rows)) h).1

  -- what follows at m: the old rows and ending, moved
  abbrev rows_at : ℕ → List Row
  rows_at m = map (carry_row (first_place (from (old m) rows)) (place_at T' m)) (from (old m) rows)

  abbrev ending_at : ℕ → Ending
  ending_at m = carry_ending (first_place (from (old m) rows)) (place_at T' m) e

  -- behind as many comments as the old row at m tells of, the scan of the new text gives just that
  record Old (m : ℕ) : Type 0 where
    count : ℕ
    rows_same : read_rows (rest T' count m) ≡ rows_at m
    ending_same : read_ending (rest T' count m) ≡ ending_at m
    starts_same : Starts m (read_rows (rest T' count m))

  old_follows : (w : List ℕ) (m : ℕ) → meets rows e a b n w m ≡ true → Old m
  unfolding some place_at
  old_follows w m h = by (scan_found T (old m))
    where
      l : a + n ≤ m
      l = meets_behind w m h

      by : Found T (old m) (scan T) → Old m
      by (nowhere g) = absurd (true≢false (sym (starts_some (meets_starts w m h)) ∙ ap some g))
      by (found c g d f) =
          let r : read_rows (rest T' c m) ≡ rows_at m = rw (f, g, rest_carried c m l) (carried_rows _ _ (rest T c (old m))) in
          record {
            count = c;
            rows_same = r;
            ending_same = rw (f, d, rest_carried c m l) (carried_ending _ _ (rest T c (old m)));
            starts_same = rw r (starts_carried _ (place_at T' m) (rw f (omega arith)) (meets_starts w m h));
          }

  -- behind c comments of the new gap it gives the same, the first row told of c
  pub record Follows (c m : ℕ) : Type 0 where
    pub rows_follow : read_rows (rest T' c m) ≡ recounted c (rows_at m)
    pub ending_follows : read_ending (rest T' c m) ≡ ending_at m
    pub starts_there : Starts m (read_rows (rest T' c m))

  pub follows : (w : List ℕ) (m : ℕ) → meets rows e a b n w m ≡ true → (c : ℕ) → Follows c m
  follows w m h c =
      let o : Old m = old_follows w m h in
      let f : rest T' c m ≡ recount c (rest T' o.count m) = rest_recount T' m o.count c o.starts_same in
      record {
        rows_follow = ap read_rows f ∙ recount_rows c _ ∙ ap (recounted c) o.rows_same;
        ending_follows = ap read_ending f ∙ recount_ending c _ ∙ o.ending_same;
        starts_there = rw (f, recount_rows) (starts_recounted c o.starts_same);
      }

  -- no gap goes on at a meeting place
  pub plain : (w : List ℕ) (m x : ℕ) (s : List ℕ) → At T' (x ∷ s) m → meets rows e a b n w m ≡ true → opens (x ∷ s) ≡ false
  unfolding some
  plain w m x s d h = by (opens (x ∷ s)) refl
    where
      by : (t : Bool) → opens (x ∷ s) ≡ t → opens (x ∷ s) ≡ false
      by true t = absurd (true≢false (sym (starts_some (follows w m h 0).starts_there) ∙ ap some (opens_none T' s m x 0 d t)))
      by false t = t
