-- When a window is short: exactly if it shows nothing.
use Prim.Native.Nat.{ℕ, suc, ◌+◌, ◌≤◌, ◌<◌}
use native.Mathlib.Omega.{arith}
use mathlib.Core.Bool.{Bool, true, false, cond, not, ◌&&◌, true≢false}
use mathlib.Core.List.{List, [], ◌∷◌, ◌++◌}
use mathlib.Core.Path.{◌≡◌, refl, ap, sym, ◌∙◌, subst}
use lib.ListN.{length}
use Rattle.rules.specs.declared.Cursor.{Cursor}
use Rattle.rules.specs.declared.Lexical.{Lexical}
use Rattle.rules.specs.Text.{place_at}
use Rattle.rules.specs.Rows.{Row, row_at, eof_row}
use Rattle.rules.specs.Scan.{Reading, put, ends, stops, read_rows}
use Rattle.rules.specs.Edit.{opens, Seen, met, is_short}
use Rattle.theory_machine.specs.Machine.{Token, St, gap, First, go, clear, over, bad, Move, fresh, on, back, Last, clean, ended, cut, begin, step, finish, passed, after, move, close, run}
use Rattle.theory_edits.specs.Shows.{Starts, first, later, Decided, here, behind}
use Rattle.laws.proofs.Tests.{both_true}
use Rattle.theory_edits.proofs.Steps.{step_gap, finish_gap}
use Rattle.theory_edits.proofs.Stand.{At, at_next, at_same, rest, rest_begin, puts}
use Rattle.theory_edits.proofs.Gap.{opens_more}
use Rattle.theory_edits.proofs.Look.{listed, see_after, see_at, see_move, look_bytes}

-- Before hi no row starts where `meet` says yes, and no byte decides a refusal.
pub data Quiet (meet : ℕ → Bool) (hi : ℕ) : Reading → Type 0 where
  quiet_put : {r : Row} {l : Reading} → (r.start < hi → meet r.start ≡ false) → Quiet meet hi l → Quiet meet hi (put r l)
  quiet_ends : Quiet meet hi ends
  quiet_stops : {why : Lexical} {p : Cursor} {d : ℕ} → hi ≤ d → Quiet meet hi (stops why p d)

pub data Checked (meet : ℕ → Bool) (hi t : ℕ) (st : St) : Type 0 where
  waits : st ≡ gap → Checked meet hi t st
  passes : (t < hi → meet t ≡ false) → Checked meet hi t st

is_fresh : Move → Bool
is_fresh fresh = true
is_fresh (on x) = false
is_fresh (back x) = false

is_clean : Last → Bool
is_clean clean = true
is_clean (ended x) = false
is_clean (cut why x) = false

-- a machine that stands in a gap does nothing but begin
not_gap : (st : St) (k b : ℕ) (m : Move) → step st k b ≡ m → is_fresh m ≡ false → st ≡ gap → ⊥
unfolding is_fresh
not_gap st k b m e h g = true≢false (ap is_fresh (sym (ap (λ (x : St). step x k b) g ∙ step_gap k b) ∙ e) ∙ h)

not_gap_end : (st : St) (k : ℕ) (m : Last) → finish st k ≡ m → is_clean m ≡ false → st ≡ gap → ⊥
unfolding is_clean
not_gap_end st k m e h g = true≢false (ap is_clean (sym (ap (λ (x : St). finish x k) g ∙ finish_gap k) ∙ e) ∙ h)

far : (meet : ℕ → Bool) (n hi : ℕ) → hi ≤ n → n < hi → meet n ≡ false
far meet n hi h l = absurd (let z : ⊥ = omega arith in z)

checked : {meet : ℕ → Bool} {hi t : ℕ} {st : St} → Checked meet hi t st → (st ≡ gap → ⊥) → t < hi → meet t ≡ false
checked (waits g) n = absurd (n g)
checked (passes h) n = h

not_listed : (l : Reading) → is_short (listed l) ≡ false
unfolding is_short listed
not_listed (put r l) = not_listed l
not_listed ends = refl
not_listed (stops why p d) = refl

-- where `meet` says yes, no gap goes on
abbrev pub Plain : List ℕ → (ℕ → Bool) → Type 0
Plain T meet = (m b : ℕ) (s : List ℕ) → At T (b ∷ s) m → meet m ≡ true → opens (b ∷ s) ≡ false

module _ (T : List ℕ) (meet : ℕ → Bool) (hi : ℕ) where
  quiet_row : (c : ℕ) (x : Token) (t e : ℕ) (l : Reading) → (t < hi → meet t ≡ false) → Quiet meet hi l
      → Quiet meet hi (put (row_at (place_at T t) c x.kind e x.bits) l)
  unfolding row_at place_at
  quiet_row c x t e l h q = quiet_put {r = row_at (place_at T t) c x.kind e x.bits} h q

  quiet_eof : (c n : ℕ) → (n < hi → meet n ≡ false) → Quiet meet hi (put (eof_row (place_at T n) c) ends)
  unfolding eof_row row_at place_at
  quiet_eof c n h = quiet_put {r = eof_row (place_at T n) c} h quiet_ends

  -- behind the window
  module _ (r : (c t k : ℕ) → St → Reading)
      (ih : (c t k : ℕ) (st : St) → hi ≤ t + k → Checked meet hi t st → Quiet meet hi (r c t k st)) where
    -- where a piece has ended
    next_beyond : (c n : ℕ) → hi ≤ n → Quiet meet hi (r c n 0 gap)
    next_beyond c n h = ih c n 0 gap (omega arith) (waits refl)

    after_beyond : (c t k : ℕ) (x : First) → hi ≤ t + k → (t < hi → meet t ≡ false) → Quiet meet hi (after (place_at T) r c t k x)
    unfolding after
    after_beyond c t k (go st) h y = ih c t (suc k) st (omega arith) (passes y)
    after_beyond c t k clear h y = next_beyond (passed c k) (t + suc k) (omega arith)
    after_beyond c t k (over x) h y = quiet_row c x t (t + suc k) _ y (next_beyond 0 (t + suc k) (omega arith))
    after_beyond c t k (bad why x) h y = quiet_stops h

    begin_beyond : (b c n : ℕ) → hi ≤ n → Quiet meet hi (after (place_at T) r c n 0 (begin b))
    begin_beyond b c n h = after_beyond c n 0 (begin b) (omega arith) (far meet n hi h)

    move_beyond : (b c t k : ℕ) (st : St) (m : Move) → step st k b ≡ m → hi ≤ t + k → Checked meet hi t st
        → Quiet meet hi (move (place_at T) r b c t k m)
    unfolding move is_fresh
    move_beyond b c t k st fresh e h y = begin_beyond b (passed c k) (t + k) h
    move_beyond b c t k st (on x) e h y = after_beyond c t k x h (checked y (not_gap st k b (on x) e refl))
    move_beyond b c t k st (back x) e h y =
        quiet_row c x t (t + k) _ (checked y (not_gap st k b (back x) e refl)) (begin_beyond b 0 (t + k) h)

  close_beyond : (c t k : ℕ) (st : St) (x : Last) → finish st k ≡ x → hi ≤ t + k → Checked meet hi t st
      → Quiet meet hi (close (place_at T) c t k x)
  unfolding close is_clean
  close_beyond c t k st clean e h y = quiet_eof (passed c k) (t + k) (far meet _ hi h)
  close_beyond c t k st (ended x) e h y =
      quiet_row c x t (t + k) _ (checked y (not_gap_end st k (ended x) e refl)) (quiet_eof 0 (t + k) (far meet _ hi h))
  close_beyond c t k st (cut why x) e h y = quiet_stops h

  beyond : (s : List ℕ) (c t k : ℕ) (st : St) → hi ≤ t + k → Checked meet hi t st → Quiet meet hi (run (place_at T) s c t k st)
  unfolding run
  beyond [] c t k st h y = close_beyond c t k st (finish st k) refl h y
  beyond (b ∷ s) c t k st h y = move_beyond (run (place_at T) s) (beyond s) b c t k st (step st k b) refl h y

  module _ (posw : ℕ → Cursor) (plain : Plain T meet) where
    module _ (w z : List ℕ) (rf : (c t k : ℕ) → St → Reading) (rs : (c t k : ℕ) → St → Seen)
        (ih : (c t k : ℕ) (st : St) → t + k + length w ≡ hi → At T (w ++ z) (t + k) → Checked meet hi t st → is_short (rs c t k st) ≡ true
        → Quiet meet hi (rf c t k st)) where
      next_quiet : (c n : ℕ) → n + length w ≡ hi → At T (w ++ z) n → is_short (rs c n 0 gap) ≡ true → Quiet meet hi (rf c n 0 gap)
      next_quiet c n h d i = ih c n 0 gap (omega arith) (at_same d (omega arith)) (waits refl) i

      after_quiet : (c t k : ℕ) (x : First) → t + suc k + length w ≡ hi → At T (w ++ z) (t + suc k) → (t < hi → meet t ≡ false)
          → is_short (see_after posw meet rs c t k x) ≡ true → Quiet meet hi (after (place_at T) rf c t k x)
      unfolding after see_after is_short
      after_quiet c t k (go st) h d y i = ih c t (suc k) st h d (passes y) i
      after_quiet c t k clear h d y i = next_quiet (passed c k) (t + suc k) h d i
      after_quiet c t k (over x) h d y i = quiet_row c x t (t + suc k) _ y (next_quiet 0 (t + suc k) h d i)
      after_quiet c t k (bad why x) h d y i = absurd (true≢false (sym i))

      at_quiet : (b c m : ℕ) → m + suc (length w) ≡ hi → At T (b ∷ (w ++ z)) m → is_short (see_at posw meet w rs b c m) ≡ true
          → Quiet meet hi (after (place_at T) rf c m 0 (begin b))
      unfolding see_at is_short
      at_quiet b c m h d i = by (meet m) refl (opens (b ∷ w)) refl
        where
          by : (q : Bool) → meet m ≡ q → (o : Bool) → opens (b ∷ w) ≡ o → Quiet meet hi (after (place_at T) rf c m 0 (begin b))
          by true q true o = absurd (true≢false (sym (opens_more b w z o) ∙ plain m b (w ++ z) d q))
          by true q false o = absurd (true≢false (sym (rw (q, o) at i)))
          by false q r o = after_quiet c m 0 (begin b) (omega arith) (at_next d (omega arith)) (λ l. q) (rw q at i)

      move_quiet : (b c t k : ℕ) (st : St) (m : Move) → step st k b ≡ m → t + k + suc (length w) ≡ hi → At T (b ∷ (w ++ z)) (t + k)
          → Checked meet hi t st → is_short (see_move posw meet w rs b c t k m) ≡ true → Quiet meet hi (move (place_at T) rf b c t k m)
      unfolding move see_move is_short is_fresh
      move_quiet b c t k st fresh e h d y i = at_quiet b (passed c k) (t + k) h d i
      move_quiet b c t k st (on x) e h d y i =
          after_quiet c t k x (omega arith) (at_next d (omega arith)) (checked y (not_gap st k b (on x) e refl)) i
      move_quiet b c t k st (back x) e h d y i =
          quiet_row c x t (t + k) _ (checked y (not_gap st k b (back x) e refl)) (at_quiet b 0 (t + k) h d i)

    -- a short window: the text goes on behind it, and nothing was to be seen in it
    pub short_quiet : (whole : Bool) (w z : List ℕ) (c t k : ℕ) (st : St) → t + k + length w ≡ hi → At T (w ++ z) (t + k)
        → Checked meet hi t st → is_short (look_bytes posw meet whole w c t k st) ≡ true
        → Quiet meet hi (run (place_at T) (w ++ z) c t k st)
    unfolding look_bytes run
    short_quiet true [] z c t k st h d y i = absurd (true≢false (sym i ∙ not_listed _))
    short_quiet false [] z c t k st h d y i = beyond z c t k st (omega arith) y
    short_quiet whole (b ∷ w) z c t k st h d y i =
        move_quiet w z (run (place_at T) (w ++ z)) (look_bytes posw meet whole w) (short_quiet whole w z)
        b c t k st (step st k b) refl h d y i

-- a window that ends the text is never short
module _ (posw : ℕ → Cursor) (meet : ℕ → Bool) where
  module _ (w : List ℕ) (rs : (c t k : ℕ) → St → Seen) (ih : (c t k : ℕ) (st : St) → is_short (rs c t k st) ≡ false) where
    after_ends : (c t k : ℕ) (x : First) → is_short (see_after posw meet rs c t k x) ≡ false
    unfolding see_after is_short
    after_ends c t k (go st) = ih c t (suc k) st
    after_ends c t k clear = ih (passed c k) (t + suc k) 0 gap
    after_ends c t k (over x) = ih 0 (t + suc k) 0 gap
    after_ends c t k (bad why x) = refl

    at_ends : (b c m : ℕ) → is_short (see_at posw meet w rs b c m) ≡ false
    unfolding see_at is_short
    at_ends b c m = by (meet m && not (opens (b ∷ w)))
      where
        by : (q : Bool) → is_short (cond q (met m c) (see_after posw meet rs c m 0 (begin b))) ≡ false
        by true = refl
        by false = after_ends c m 0 (begin b)

    move_ends : (b c t k : ℕ) (m : Move) → is_short (see_move posw meet w rs b c t k m) ≡ false
    unfolding see_move is_short
    move_ends b c t k fresh = at_ends b (passed c k) (t + k)
    move_ends b c t k (on x) = after_ends c t k x
    move_ends b c t k (back x) = at_ends b 0 (t + k)

  pub never_short : (w : List ℕ) (c t k : ℕ) (st : St) → is_short (look_bytes posw meet true w c t k st) ≡ false
  unfolding look_bytes
  never_short [] c t k st = not_listed _
  never_short (b ∷ w) c t k st = move_ends w (look_bytes posw meet true w) (never_short w) b c t k (step st k b)

-- Before hi a row starts where `meet` says yes, or a byte decides a refusal.
pub data Meets (meet : ℕ → Bool) (hi : ℕ) (l : Reading) : Type 0 where
  row_starts : (m : ℕ) → m < hi → meet m ≡ true → Starts m (read_rows l) → Meets meet hi l
  refusal : (d : ℕ) → d < hi → Decided d l → Meets meet hi l

pub meets_put : {meet : ℕ → Bool} {hi : ℕ} {l : Reading} (r : Row) → Meets meet hi l → Meets meet hi (put r l)
unfolding read_rows
meets_put r (row_starts m h e s) = row_starts m h e (later s)
meets_put r (refusal d h s) = refusal d h (behind s)

pub meets_puts : {meet : ℕ → Bool} {hi : ℕ} {l : Reading} (rs : List Row) → Meets meet hi l → Meets meet hi (puts rs l)
unfolding puts
meets_puts [] h = h
meets_puts (r ∷ rs) h = meets_put r (meets_puts rs h)

module _ (T : List ℕ) (posw : ℕ → Cursor) (meet : ℕ → Bool) (hi : ℕ)
    (starts : (m : ℕ) → meet m ≡ true → (c : ℕ) → Starts m (read_rows (rest T c m))) where
  module _ (w z : List ℕ) (rf : (c t k : ℕ) → St → Reading) (rs : (c t k : ℕ) → St → Seen) (rf_is : rf ≡ run (place_at T) (w ++ z))
      (ih : (c t k : ℕ) (st : St) → t + k + length w ≡ hi → At T (w ++ z) (t + k) → is_short (rs c t k st) ≡ false
      → Meets meet hi (rf c t k st)) where
    next_meets : (c n : ℕ) → n + length w ≡ hi → At T (w ++ z) n → is_short (rs c n 0 gap) ≡ false → Meets meet hi (rf c n 0 gap)
    next_meets c n h d i = ih c n 0 gap (omega arith) (at_same d (omega arith)) i

    after_meets : (c t k : ℕ) (x : First) → t + suc k + length w ≡ hi → At T (w ++ z) (t + suc k)
        → is_short (see_after posw meet rs c t k x) ≡ false → Meets meet hi (after (place_at T) rf c t k x)
    unfolding after see_after is_short
    after_meets c t k (go st) h d i = ih c t (suc k) st h d i
    after_meets c t k clear h d i = next_meets (passed c k) (t + suc k) h d i
    after_meets c t k (over x) h d i = meets_put _ (next_meets 0 (t + suc k) h d i)
    after_meets c t k (bad why x) h d i = refusal (t + k) (omega arith) (here refl)

    at_meets : (b c m : ℕ) → m + suc (length w) ≡ hi → At T (b ∷ (w ++ z)) m → is_short (see_at posw meet w rs b c m) ≡ false
        → Meets meet hi (after (place_at T) rf c m 0 (begin b))
    unfolding see_at is_short
    at_meets b c m h d i = by (meet m && not (opens (b ∷ w))) refl
      where
        by : (q : Bool) → (meet m && not (opens (b ∷ w))) ≡ q → Meets meet hi (after (place_at T) rf c m 0 (begin b))
        by true q =
            let e : meet m ≡ true = (both_true (meet m) (not (opens (b ∷ w))) q).0 in
            row_starts m (omega arith) e (rw rf_is (rw (rest_begin c d) at (starts m e c)))
        by false q = after_meets c m 0 (begin b) (omega arith) (at_next d (omega arith)) (rw q at i)

    move_meets : (b c t k : ℕ) (x : Move) → t + k + suc (length w) ≡ hi → At T (b ∷ (w ++ z)) (t + k)
        → is_short (see_move posw meet w rs b c t k x) ≡ false
        → Meets meet hi (move (place_at T) rf b c t k x)
    unfolding move see_move is_short
    move_meets b c t k fresh h d i = at_meets b (passed c k) (t + k) h d i
    move_meets b c t k (on x) h d i = after_meets c t k x (omega arith) (at_next d (omega arith)) i
    move_meets b c t k (back x) h d i = meets_put _ (at_meets b 0 (t + k) h d i)

  -- a window that is not short, though the text goes on behind it, shows something
  pub part_meets : (w z : List ℕ) (c t k : ℕ) (st : St) → t + k + length w ≡ hi → At T (w ++ z) (t + k)
      → is_short (look_bytes posw meet false w c t k st) ≡ false → Meets meet hi (run (place_at T) (w ++ z) c t k st)
  unfolding look_bytes run is_short
  part_meets [] z c t k st h d i = absurd (true≢false i)
  part_meets (b ∷ w) z c t k st h d i =
      move_meets w z (run (place_at T) (w ++ z)) (look_bytes posw meet false w) refl (part_meets w z) b c t k (step st k b) h d i

-- ---- what is quiet shows nothing

nowhere : {m : ℕ} → Starts m [] → ⊥
nowhere x = elim x [ ]

quiet_nowhere : {meet : ℕ → Bool} {hi m : ℕ} {l : Reading} → m < hi → meet m ≡ true → Quiet meet hi l → Starts m (read_rows l) → ⊥
unfolding read_rows
quiet_nowhere {meet} {hi} {m} h e (quiet_put {r = r} c q) (first x) = true≢false (sym e ∙ (ap meet (sym x) ∙ c (subst (λ (y : ℕ). y < hi) (sym x) h)))
quiet_nowhere h e (quiet_put c q) (later s) = quiet_nowhere h e q s
quiet_nowhere h e quiet_ends s = nowhere s
quiet_nowhere h e (quiet_stops d) s = nowhere s

quiet_undecided : {meet : ℕ → Bool} {hi d : ℕ} {l : Reading} → d < hi → Quiet meet hi l → Decided d l → ⊥
quiet_undecided h (quiet_put c q) (behind x) = quiet_undecided h q x
quiet_undecided h (quiet_stops g) (here e) = omega arith
quiet_undecided h quiet_ends x = elim x [ ]

pub quiet_shows : {meet : ℕ → Bool} {hi : ℕ} {l : Reading} → Quiet meet hi l → Meets meet hi l → ⊥
quiet_shows q (row_starts m h e s) = quiet_nowhere h e q s
quiet_shows q (refusal d h s) = quiet_undecided h q s
