-- What follows of demand 3 for calls: when an edit says 7, what it answers for valid texts, that a next edit may be given what it left, and
-- that edits which lead to the same text tell and leave the same.
use Prim.Native.Nat.{ℕ, ◌≤◌}
use native.Mathlib.Omega.{arith}
use mathlib.Core.Bool.{true}
use mathlib.Core.List.{List}
use mathlib.Core.Logic.{◌⊎◌, inl, inr, ◌↔◌}
use mathlib.Core.Path.{◌≡◌, ap, sym, ◌∙◌}
use lib.ListN.{length}
use Rattle.rules.specs.declared.Table.{Table}
use Rattle.rules.specs.Outcomes.{Told, unread}
use Rattle.std.specs.declared.result.Result.TheVariants.{Ok, Err}
use Rattle.rules.specs.declared.Outer.TheVariants.{WindowShort}
use Rattle.rules.specs.Text.{most_bytes, valid, start_place}
use Rattle.rules.specs.Scan.{room_of, told, scan_told, scan_leaves}
use Rattle.laws.proofs.Outcomes.{unread_same}
use Rattle.theory_edits.specs.Scanned.{Scanned}
use Rattle.theory_edits.specs.Change.{Change, old_text, new_text, Window, Unjudged, Unmet, TooShort}
use Rattle.theory_edits.specs.Demand3.{Given, Due, tells, leaves, SaysSeven, IsFresh}
use Rattle.theory_edits.proofs.WellFormed.{Scans, says_1, says_2, says_4, says_rows, scan_says, scan_scanned, scan_valid}
use Rattle.theory_edits.proofs.Demand3.{demand_3}

-- a scan never says 7
scan_no_7 : (t : List ℕ) (m : ℕ) → scan_told t m ≡ Err (unread WindowShort start_place 0) → ⊥
scan_no_7 t m e = by (scan_says t m) e
  where
    by : {x : Told} → Scans t m x → x ≡ Err (unread WindowShort start_place 0) → ⊥
    by says_1 f = let q : ◌≡◌ {A = ℕ} 0 1 = cc (unread_same f).0 in omega arith
    by says_2 f = let q : ◌≡◌ {A = ℕ} 0 1 = cc (unread_same f).0 in omega arith
    by says_4 f = let q : ◌≡◌ {A = ℕ} 0 1 = cc (unread_same f).0 in omega arith
    by (says_rows l v r) f = let q : ◌≡◌ {A = ℕ} 0 1 = cc in omega arith

-- 7 tells no rows
no_rows : {table : Table} → Err (unread WindowShort start_place 0) ≡ Ok table → ⊥
no_rows e = let q : ◌≡◌ {A = ℕ} 0 1 = cc in omega arith

module _ (c : Change) (ws : List ℕ) (table : Table) (w : List ℕ) (g : Given c ws table w) where
  -- The edit says 7 exactly if that is due, whatever the room.
  pub seven_exactly : (m : ℕ) → (tells c ws table w m ≡ Err (unread WindowShort start_place 0)) ↔ Due c w
  seven_exactly m = (to (demand_3 c ws table w g), of (demand_3 c ws table w g))
    where
      to : (Due c w × SaysSeven c ws table w) ⊎ ((Due c w → ⊥) × IsFresh c ws table w) → tells c ws table w m ≡ Err (unread WindowShort start_place 0)
          → Due c w
      to (inl h) e = h.0
      to (inr h) e = absurd (scan_no_7 (new_text c) m (sym (h.1.told m) ∙ e))

      of : (Due c w × SaysSeven c ws table w) ⊎ ((Due c w → ⊥) × IsFresh c ws table w) → Due c w
          → tells c ws table w m ≡ Err (unread WindowShort start_place 0)
      of (inl h) d = h.1.told m
      of (inr h) d = absurd (h.0 d)

  -- Two valid texts of at most 65,536 bytes: a window that is not too short makes the edit fresh, one that is makes it say 7.
  pub long_window : (TooShort c w → ⊥) → IsFresh c ws table w
  long_window h = by (demand_3 c ws table w g)
    where
      way : Unjudged c w ⊎ ((valid (new_text c) ≡ true) × Unmet c w) → TooShort c w
      way (inl u) = inl u
      way (inr u) = inr u.1

      by : (Due c w × SaysSeven c ws table w) ⊎ ((Due c w → ⊥) × IsFresh c ws table w) → IsFresh c ws table w
      by (inl x) = absurd (h (way x.0.short))
      by (inr x) = x.1

  pub short_window : length (new_text c) ≤ most_bytes → valid (new_text c) ≡ true → TooShort c w → SaysSeven c ws table w
  short_window l k h = by (demand_3 c ws table w g)
    where
      way : TooShort c w → Unjudged c w ⊎ ((valid (new_text c) ≡ true) × Unmet c w)
      way (inl u) = inl u
      way (inr u) = inr (k, u)

      by : (Due c w × SaysSeven c ws table w) ⊎ ((Due c w → ⊥) × IsFresh c ws table w) → SaysSeven c ws table w
      by (inl x) = x.1
      by (inr x) = absurd (x.0 (record { not_1 = l; short = way h }))

  -- An edit leaves what a scan of the new text leaves, so the next edit is given as much as this one was.
  pub edit_again : (new : List ℕ) (table' : Table) → tells c ws table w (room_of new) ≡ Ok table'
      → Scanned (new_text c) (leaves c ws table w new) table' × (valid (new_text c) ≡ true)
  edit_again new table' e = by (demand_3 c ws table w g)
    where
      by : (Due c w × SaysSeven c ws table w) ⊎ ((Due c w → ⊥) × IsFresh c ws table w)
          → Scanned (new_text c) (leaves c ws table w new) table' × (valid (new_text c) ≡ true)
      by (inl x) = absurd (no_rows (sym (x.1.told (room_of new)) ∙ e))
      by (inr x) =
          let f : scan_told (new_text c) (room_of new) ≡ Ok table' = sym (x.1.told (room_of new)) ∙ e in
          (rw (x.1.left new) (scan_scanned (new_text c) new table' f), scan_valid (new_text c) (room_of new) table' f)

-- ---- edits that lead to the same text

-- where 7 is not due
pub not_due : (c : Change) (ws : List ℕ) (table : Table) (w : List ℕ) → Given c ws table w → (Due c w → ⊥) → IsFresh c ws table w
not_due c ws table w g h = by (demand_3 c ws table w g)
  where
    by : (Due c w × SaysSeven c ws table w) ⊎ ((Due c w → ⊥) × IsFresh c ws table w) → IsFresh c ws table w
    by (inl x) = absurd (h x.0)
    by (inr x) = x.1

-- Two edits that lead to the same text, from whatever texts, tell and leave the same.
pub same_end : (c d : Change) (ws us : List ℕ) (table utable : Table) (w u : List ℕ) → Given c ws table w → Given d us utable u → (Due c w → ⊥)
    → (Due d u → ⊥)
    → new_text c ≡ new_text d
    → ((m : ℕ) → tells c ws table w m ≡ tells d us utable u m) × ((new : List ℕ) → leaves c ws table w new ≡ leaves d us utable u new)
same_end c d ws us table utable w u g h x y e =
    let f : IsFresh c ws table w = not_due c ws table w g x in
    let k : IsFresh d us utable u = not_due d us utable u h y in
    (λ m. f.told m ∙ ap (λ (t : List ℕ). scan_told t m) e ∙ sym (k.told m), λ new. f.left new ∙ ap (λ (t : List ℕ). scan_leaves t new) e ∙ sym (k.left new))

-- Two edits in a row, of which the second is given what the first left and told, tell and leave what one edit of the whole change does.
pub calls_in_a_row : (c d f : Change) (ws : List ℕ) (table : Table) (w u v : List ℕ) → Given c ws table w → Given f ws table v
    → new_text c ≡ old_text d → new_text d ≡ new_text f
    → (mid : List ℕ) (table' : Table) → tells c ws table w (room_of mid) ≡ Ok table'
    → Window d u → (Due d u → ⊥) → (Due f v → ⊥)
    → ((m : ℕ) → tells d (leaves c ws table w mid) table' u m ≡ tells f ws table v m)
    × ((new : List ℕ) → leaves d (leaves c ws table w mid) table' u new ≡ leaves f ws table v new)
calls_in_a_row c d f ws table w u v g h e e' mid table' t p x y =
    same_end d f (leaves c ws table w mid) ws table' table u v (record { scanned = rw (← e) r.0; good = rw (← e) r.1; window = p }) h x y e'
  where
    r : Scanned (new_text c) (leaves c ws table w mid) table' × (valid (new_text c) ≡ true)
    r = edit_again c ws table w g mid table' t
