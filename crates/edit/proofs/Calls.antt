-- What an edit tells and leaves, by the order of its refusals.
use mathlib.Core.Path.{◌≡◌, refl, sym, ap, subst, ◌∙◌}
use mathlib.Core.Bool.{Bool, true, false, not, ◌&&◌}
use mathlib.Core.List.{List, ◌++◌}
use Prim.Native.Nat.{ℕ, suc, ◌+◌, ◌*◌, ◌≤◌, ◌<◌}
use native.Mathlib.Omega.{arith}
use lib.ListN.{length, take}
use lib.Dec.{eqb, leb, ltb}
use borrow.Author.Tests.{lt-ltb, le-ltb, leb-true, eqb-true}
use Rattle.rules.specs.declared.Cursor.{Cursor}
use Rattle.rules.specs.declared.Outer.TheVariants.{TextTooLong, BadByte, NotWellFormed, EditNotSensible, WindowShort}
use Rattle.rules.specs.declared.Table.{Table}
use Rattle.rules.specs.Outcomes.{Told, unread}
use Rattle.std.specs.declared.result.Result.TheVariants.{Err}
use Rattle.rules.specs.Text.{most_bytes, start_place, over}
use Rattle.rules.specs.Rows.{rows_in, well_formed}
use Rattle.rules.specs.Scan.{told, laid}
use Rattle.rules.specs.Edit.{is_short, kept, last_end, restart, new_length, sensible, ends, judging, unjudged, window_bytes, window_short, new_rows, new_ending, edit_told, edit_leaves}
use Rattle.laws.proofs.Tests.{both_true}
use Rattle.rows.specs.Shape.{row_no}
use Rattle.rows.proofs.Inside.{fine}
use Rattle.laws.proofs.Valid.{is_window_valid, is_window_bad}
use Rattle.edit_kept.specs.Kept.{Ended}
use Rattle.edit_kept.proofs.Kept.{kept_inside, kept_rows}
use Rattle.edit.specs.declared.Job.{Job}
use Rattle.edit_parts.specs.Parts.{sensible_at}
use Rattle.edit.specs.Job.{job_of, old_rows, size_after, Tested, Ready, job_seen, job_rows, job_ending, reread_told, reread_leaves}
use Rattle.edit.proofs.Facts.{ended}

-- ---- 7, and then the rows

module _ {ws : List ℕ} {j : Job} {w : List ℕ} (r : Ready ws j w) where
  -- the window ends the text
  abbrev pub whole_of : Bool
  whole_of = ends (old_rows ws j) j.table.length j.a j.b j.n w

  -- the window's end and the text's
  pub whole_by : (x y : ℕ) → x ≡ j.begin.offset.0 → y ≡ size_after j → eqb (x + length w) y ≡ whole_of
  whole_by x y e f = rw (e, f, r.begin)

  -- it shows too little to be judged
  abbrev pub early : Bool
  early = unjudged (old_rows ws j) j.table.length j.a j.b j.n w

  pub early_by : (x y : ℕ) (q : Bool) → x ≡ j.begin.offset.0 → y ≡ j.a + j.n → q ≡ whole_of → (ltb (x + length w) (y + judging) && not q) ≡ early
  unfolding unjudged
  early_by x y q e f g = rw (e, f, g, r.begin)

  module _ (m : ℕ) (new : List ℕ) where
    abbrev Reread : Told → List ℕ → Type 0
    Reread x ys = (x ≡ reread_told ws j w m) × (ys ≡ reread_leaves ws j w new)

    pub reread_early : early ≡ true → Reread (Err (unread WindowShort start_place 0)) new
    unfolding reread_told reread_leaves
    reread_early e = rw e (refl, refl)

    module _ (late : early ≡ false) (whole : Bool) (e : whole ≡ whole_of) where
      pub reread_bad : window_bytes whole w < length w → Reread (Err (unread BadByte (over j.begin (take (window_bytes whole w) w)) 0)) new
      unfolding reread_told reread_leaves
      reread_bad h = rw (late, ← e, is_window_bad whole w h, r.begin) (refl, refl)

      module _ (good : length w ≤ window_bytes whole w) where
        pub reread_short : is_short (job_seen ws j w whole) ≡ true → Reread (Err (unread WindowShort start_place 0)) new
        unfolding reread_told reread_leaves window_short job_seen
        reread_short f = rw (late, ← e, is_window_valid whole w good, f) (refl, refl)

        pub reread_rows : is_short (job_seen ws j w whole) ≡ false → (size : ℕ) → size ≡ size_after j → (x : Told) (ys : List ℕ) →
            (x ≡ told size m (kept j.a (old_rows ws j) ++ job_rows ws j w whole) (job_ending ws j w whole)) × (ys ≡ laid (kept j.a (old_rows ws j) ++ job_rows ws j w whole) new) →
            Reread x ys
        unfolding reread_told reread_leaves window_short new_rows new_ending job_rows job_ending job_seen
        reread_rows f size g x ys q = rw (late, ← e, is_window_valid whole w good, f) (rw (← g) q)

-- ---- the call

-- the kept rows, and the place behind them
module _ (ws : List ℕ) (t : Table) (a : ℕ) where
  pub restart_by : (k : ℕ) → k ≡ length (kept a (rows_in t.count ws)) → last_end start_place (rows_in k ws) ≡ restart (rows_in t.count ws) a
  unfolding restart
  restart_by k e = ap (λ (i : ℕ). last_end start_place (rows_in i ws)) e ∙ ap (last_end start_place) (sym (kept_rows a ws t.count))

  pub kept_lent : well_formed ws t ≡ true → (k : ℕ) → k ≡ length (kept a (rows_in t.count ws)) → (k * 8 ≤ length ws) × ((i : ℕ) → suc i ≡ k → Ended (row_no ws i))
  kept_lent f k e =
      let l : k ≤ t.count = omega (arith, kept_inside a ws t.count) in
      (omega (arith, (fine ws t f).lent), λ i h. ended (fine ws t f) i (omega arith))

module _ (len a b n begin start size : ℕ) where
  pub record Sensible : Type 0 where
    pub order : a ≤ b
    pub inside : b ≤ len
    pub same : start ≡ begin
    pub fits : start + size ≤ new_length len a b n

  pub sensible_by : sensible_at len a b n begin start size ≡ true → Sensible
  unfolding sensible_at
  sensible_by e =
      let x = both_true (leb a b && leb b len) (eqb start begin && leb (start + size) (new_length len a b n)) e in
      let y = both_true (leb a b) (leb b len) x.0 in
      let z = both_true (eqb start begin) (leb (start + size) (new_length len a b n)) x.1 in
      record {
        order = leb-true a b y.0;
        inside = leb-true b len y.1;
        same = eqb-true start begin z.0;
        fits = leb-true (start + size) (new_length len a b n) z.1;
      }

-- what an edit tells and leaves
abbrev pub Edited : List ℕ → Table → (a b n start : ℕ) → List ℕ → ℕ → List ℕ → Told → List ℕ → Type 0
Edited ws t a b n start w m new x ys = (x ≡ edit_told ws t a b n start w m) × (ys ≡ edit_leaves ws t a b n start w new)

module _ (ws : List ℕ) (t : Table) (a b n : ℕ) where
  pub job_by : (k : ℕ) → k ≡ length (kept a (rows_in t.count ws)) → (p : Cursor) → p ≡ restart (rows_in t.count ws) a
      → record { table = t; a = a; b = b; n = n; kept = k; begin = p } ≡ job_of ws t a b n
  job_by k e p f = rw (e, f)

  pub edit_3 : (start : ℕ) (w : List ℕ) (m : ℕ) (new : List ℕ) → well_formed ws t ≡ false
      → Edited ws t a b n start w m new (Err (unread NotWellFormed start_place 0)) new
  unfolding edit_told edit_leaves
  edit_3 start w m new e = rw e (refl, refl)

  -- the job of a tested table serves as the table and the numbers
  module _ (j : Job) (s : j ≡ job_of ws t a b n) where
    pub tested_by : well_formed ws t ≡ true → Tested ws j
    tested_by f = subst (Tested ws) (sym s) (record { fine = f; kept = refl; begin = refl })

    pub edited_by : (start : ℕ) (w : List ℕ) (m : ℕ) (new : List ℕ) (x : Told) (ys : List ℕ)
        → Edited ws j.table j.a j.b j.n start w m new x ys → Edited ws t a b n start w m new x ys
    edited_by start w m new x ys = subst (λ (i : Job). Edited ws i.table i.a i.b i.n start w m new x ys) s

module _ {ws : List ℕ} {j : Job} (t : Tested ws j) (start : ℕ) (w : List ℕ) where
  abbrev JobEdited : ℕ → List ℕ → Told → List ℕ → Type 0
  JobEdited = Edited ws j.table j.a j.b j.n start w

  abbrev pub senses : Bool
  senses = sensible_at j.table.length j.a j.b j.n j.begin.offset.0 start (length w)

  senses_by : sensible (old_rows ws j) j.table.length j.a j.b j.n start w ≡ senses
  unfolding sensible sensible_at
  senses_by = rw t.begin

  pub edit_6 : (m : ℕ) (new : List ℕ) → senses ≡ false → JobEdited m new (Err (unread EditNotSensible start_place 0)) new
  unfolding edit_told edit_leaves
  edit_6 m new e = rw (t.fine, senses_by, e) (refl, refl)

  module _ (s : senses ≡ true) where
    pub edit_1 : (m : ℕ) (new : List ℕ) → most_bytes < size_after j → JobEdited m new (Err (unread TextTooLong start_place 0)) new
    unfolding edit_told edit_leaves
    edit_1 m new h = rw (t.fine, senses_by, s, lt-ltb most_bytes (size_after j) h) (refl, refl)

    module _ (h : size_after j ≤ most_bytes) where
      pub ready_by : Ready ws j w
      ready_by =
          let x = sensible_by j.table.length j.a j.b j.n j.begin.offset.0 start (length w) s in
          record {
            fine = t.fine;
            kept = t.kept;
            begin = t.begin;
            order = x.order;
            inside = x.inside;
            fits = omega (arith, x.same, x.fits);
            short = h;
          }

      pub edit_rest : (m : ℕ) (new : List ℕ) (x : Told) (ys : List ℕ) → (x ≡ reread_told ws j w m) × (ys ≡ reread_leaves ws j w new) → JobEdited m new x ys
      unfolding edit_told edit_leaves reread_told reread_leaves
      edit_rest m new x ys z = rw (t.fine, senses_by, s, le-ltb most_bytes (size_after j) h) z
