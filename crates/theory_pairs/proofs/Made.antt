-- One edit made by a call: it tells and leaves what a scan of the text after it does, so the next may be lent that.
use Prim.Native.Nat.{ℕ, ◌+◌, ◌-◌, ◌≤◌}
use native.Mathlib.Omega.{arith}
use mathlib.Core.Bool.{true}
use mathlib.Core.List.{List, ◌++◌}
use mathlib.Core.Logic.{◌↔◌}
use mathlib.Core.Path.{◌≡◌, ap, sym, subst, ◌∙◌}
use lib.ListN.{length, take, drop, length-drop, take-append-drop}
use lib.Seq.{length-take-le, drop-drop}
use Rattle.rules.specs.declared.Table.{Table}
use Rattle.rules.specs.Outcomes.{Told}
use Rattle.std.specs.declared.result.Result.TheVariants.{Ok}
use Rattle.rules.specs.Text.{valid}
use Rattle.rules.specs.Scan.{read_rows, read_ending, scan, room_of, scan_told, scan_leaves}
use Rattle.rules.specs.Edit.{restart, edit_told, edit_leaves}
use Rattle.rules_pairs.specs.Pairs.{Edit, Lies, after, gone, put}
use Rattle.laws.proofs.Valid.{text_fine}
use Rattle.laws.proofs.Rows as rows
use Rattle.theory_edits.specs.Scanned.{Scanned, table_of}
use Rattle.theory_edits.specs.Change.{Change, old_text, a, b, starts}
use Rattle.theory_edits.specs.Whole.{change_of}
use Rattle.theory_edits.specs.Demand3 as demand3
use Rattle.theory_edits.proofs.WellFormed.{Scans, says_1, says_2, says_4, says_rows, scan_scanned, scan_valid}
use Rattle.theory_edits.proofs.WellFormed as scans
use Rattle.theory_edits.proofs.Calls.{not_due}
use Rattle.theory_edits.proofs.Whole.{whole_window, whole_not_due}
use Rattle.edit_change.specs.Change.{change_told, change_leaves}
use Rattle.edit_change.specs.Fresh.{SaysScan}
use Rattle.edit_change.specs.Fresh as fresh
use Rattle.edit_change.proofs.Demand3.{change_fresh}
use Rattle.theory_pairs.specs.Calls.{ScanCall, scanned, EditCall, edited, ChangeCall, changed}
use Rattle.theory_pairs.specs.Turns.{Premises, Held, start_of, Applied, by_edit, by_change}

-- ---- what each call's contract says

pub scan_says : {text lent : List ℕ} {r : Told} {rows : List ℕ} → ScanCall text lent r rows
    → (r ≡ scan_told text (room_of lent)) × (rows ≡ scan_leaves text lent)
scan_says (scanned κs a r e p) = p

pub edit_says : {old : List ℕ} {table : Table} {a b n start : ℕ} {window lent : List ℕ} {r : Told} {new : List ℕ}
    → EditCall old table a b n start window lent r new
    → (r ≡ edit_told old table a b n start window (room_of lent)) × (new ≡ edit_leaves old table a b n start window lent)
edit_says (edited κs a r e p) = p

pub change_says : {old : List ℕ} {table : Table} {a b n : ℕ} {text lent : List ℕ} {r : Told} {new : List ℕ}
    → ChangeCall old table a b n text lent r new
    → (r ≡ change_told old table a b n text (room_of lent)) × (new ≡ change_leaves old table a b n text lent)
change_says (changed κs a r e p) = p

-- ---- an edit as a change of demand 3's

abbrev pub change_by : List ℕ → Edit → Change
change_by t e = change_of t e.from e.to e.bytes

module _ {t : List ℕ} {e : Edit} (h : Lies e t) where
  begins : length (take e.from t) ≡ e.from
  begins = length-take-le e.from t (omega (arith, h.order, h.inside))

  ends : length (take e.from t) + length (take (gone e) (drop e.from t)) ≡ e.to
  ends =
      let l : length (take (gone e) (drop e.from t)) ≡ gone e
      = length-take-le (gone e) (drop e.from t) (omega (arith, length-drop e.from t, h.order, h.inside)) in
      omega (arith, begins, h.order)

  old_is : take e.from t ++ (take (gone e) (drop e.from t) ++ drop e.to t) ≡ t
  old_is =
      let i : e.from + gone e ≡ e.to = omega (arith, h.order) in
      let j : drop e.to t ≡ drop (gone e) (drop e.from t) = sym (drop-drop (gone e) e.from t ∙ ap (λ (n : ℕ). drop n t) i) in
      rw (j, take-append-drop (gone e) (drop e.from t)) (take-append-drop e.from t)

  starts_is : start_of t e ≡ starts (change_by t e)
  starts_is =
      ap (λ (k : ℕ). (restart (read_rows (scan t)) k).offset.0) (sym begins)
      ∙ ap (λ (s : List ℕ). (restart (read_rows (scan s)) (length (take e.from t))).offset.0) (sym old_is)

  -- what holds of the edit's numbers holds of the change's
  pub of_change : (F : (a b start : ℕ) → Type 0) → F e.from e.to (start_of t e)
      → F (a (change_by t e)) (b (change_by t e)) (starts (change_by t e))
  of_change F x =
      subst (λ (k : ℕ). F k (b (change_by t e)) (starts (change_by t e))) (sym begins)
      (subst (λ (k : ℕ). F e.from k (starts (change_by t e))) (sym ends) (subst (F e.from e.to) starts_is x))

  -- and of the text what holds of the change's old one
  pub of_old : (F : List ℕ → Type 0) → F t → F (old_text (change_by t e))
  of_old F x = subst F (sym old_is) x

  -- ---- the call, lent what is held of the text

  module _ {old : List ℕ} {table : Table} (g : Held t old table) where
    given : demand3.Given (change_by t e) old table (drop (starts (change_by t e)) (after t e))
    given = record {
      scanned = of_old (λ s. Scanned s old table) g.scanned;
      good = of_old (λ s. valid s ≡ true) g.good;
      window = whole_window (change_by t e);
    }

  module _ {old : List ℕ} {table : Table} (g : Held t old table) {lent : List ℕ} {r : Told} {new : List ℕ} where
    made_edit : EditCall old table e.from e.to (put e) (start_of t e) (drop (start_of t e) (after t e)) lent r new
        → SaysScan lent r new (after t e)
    made_edit c =
        let w : List ℕ = drop (starts (change_by t e)) (after t e) in
        let d : EditCall old table (a (change_by t e)) (b (change_by t e)) (put e) (starts (change_by t e)) w lent r new
        = of_change (λ a b k. EditCall old table a b (put e) k (drop k (after t e)) lent r new) c in
        let f : demand3.IsFresh (change_by t e) old table w = not_due (change_by t e) old table w (given g) (whole_not_due (change_by t e)) in
        record { told = (edit_says d).0 ∙ f.told (room_of lent); left = (edit_says d).1 ∙ f.left lent }

    made_change : ChangeCall old table e.from e.to (put e) (after t e) lent r new → SaysScan lent r new (after t e)
    made_change c =
        let d : ChangeCall old table (a (change_by t e)) (b (change_by t e)) (put e) (after t e) lent r new
        = of_change (λ a b k. ChangeCall old table a b (put e) (after t e) lent r new) c in
        let f : fresh.IsFresh (change_by t e) old table
        = change_fresh (change_by t e) old table (of_old (λ s. Scanned s old table) g.scanned) (of_old (λ s. valid s ≡ true) g.good) in
        record { told = (change_says d).0 ∙ f.told (room_of lent); left = (change_says d).1 ∙ f.left lent }

    pub made : Applied t e old table lent r new → SaysScan lent r new (after t e)
    made (by_edit c) = made_edit c
    made (by_change c) = made_change c

-- ---- what says as much as a scan

-- A call that told a table left what is held of its text; so the next may be lent it.
pub says_held : {t lent new : List ℕ} {table : Table} → SaysScan lent (Ok table) new t → Held t new table
says_held {t} {lent} {new} {table} s = record {
  scanned = rw s.left (scan_scanned t lent table (sym s.told));
  good = scan_valid t (room_of lent) table (sym s.told);
}

-- A scan that told a table did.
pub scan_held : {t lent rows : List ℕ} {table : Table} → ScanCall t lent (Ok table) rows → Held t rows table
scan_held c = says_held (record { told = (scan_says c).0; left = (scan_says c).1 })

-- It told a table exactly if demand 3's premises hold of its text.
pub told_exactly : {t lent new : List ℕ} {r : Told} → SaysScan lent r new t → (r ≡ Ok (table_of t)) ↔ Premises t lent
told_exactly {t} {lent} {new} {r} s = (λ e. to (scans.scan_says t (room_of lent)) (sym s.told ∙ e), of)
  where
    to : {x : Told} → Scans t (room_of lent) x → x ≡ Ok (table_of t) → Premises t lent
    to says_1 f = absurd (let z : ◌≡◌ {A = ℕ} 0 1 = cc in let y : ⊥ = omega arith in y)
    to says_2 f = absurd (let z : ◌≡◌ {A = ℕ} 0 1 = cc in let y : ⊥ = omega arith in y)
    to says_4 f = absurd (let z : ◌≡◌ {A = ℕ} 0 1 = cc in let y : ⊥ = omega arith in y)
    to (says_rows l v k) f = record { fits = l; good = v; room = k }

    of : Premises t lent → r ≡ Ok (table_of t)
    of p =
        s.told ∙ rows.scan_told_lem t (text_fine t p.fits p.good) (room_of lent)
        ∙ rows.told_all (length t) (room_of lent) (read_rows (scan t)) (read_ending (scan t)) p.room
