-- Demand 3 at the outer face with the whole new text at hand, and at the call's own contract.
use Prim.Native.Nat.{ℕ}
use native.Mathlib.Omega.{arith}
use mathlib.Core.Bool.{true}
use mathlib.Core.List.{List}
use mathlib.Core.Path.{◌≡◌, refl, ap, sym, ◌∙◌}
use lib.ListN.{get_or}
use contract.Lifetimes.{Lfts}
use borrow.Fn.Kinds.{Dens, ended_of}
use denote.Triple.Clauses.{AtExit}
use Rattle.rules.specs.Outcomes.{Ending, halt, Told, unread}
use Rattle.std.specs.declared.option.Option.TheVariants.{None, Some}
use Rattle.rules.specs.declared.Lexical.{Lexical}
use Rattle.rules.specs.declared.Cursor.{Cursor}
use Rattle.rules.specs.declared.Lexical.TheVariants as lexical
use Rattle.rules.specs.declared.Outer.{Outer}
use Rattle.rules.specs.declared.Outer.TheVariants as outer
use Rattle.rules.specs.declared.Table.{Table}
use Rattle.std.specs.declared.result.Result.TheVariants.{Ok, Err}
use Rattle.rules.specs.Scan.{room_of, scan_told}
use Rattle.theory_edits.specs.Scanned as scanned
use Rattle.theory_edits.specs.Change.{Change, old_text, new_text, a, b, n}
use Rattle.theory_edits.proofs.WellFormed.{scan_scanned, scan_valid}
use Rattle.edit_change.specs.Change.{change_told, change_leaves}
use Rattle.edit_change.specs.Fresh.{NotSeven, IsFresh}
use Rattle.edit_change.proofs.Never.{never_short}
use Rattle.edit_change.proofs.Demand3.{change_fresh}
use Rattle.answers.specs.Layout.{ending_words, told_words, is_ending, table_of}
use Rattle.answers.proofs.Table.{lent_table}
use Rattle.spoonharbor.specs.OuterChange.{OuterTable, outer_tells, outer_leaves}
use Rattle.spoonharbor.specs.OuterParse.{OuterLent}
use Rattle.spoonharbor.proofs.Outer.{rows_told}
use Rattle.spoonharbor.proofs.change.spoonharbor_change.Kinds as of_change
use Rattle.spoonharbor.proofs.change.spoonharbor_change.Reads.{Post as ChangePost}

-- ---- the theorems

module _ (c : Change) (ws answer : List ℕ) (g : OuterTable (old_text c) ws answer) where
  tells_rows : scan_told (old_text c) (room_of g.lent) ≡ Ok (scanned.table_of (old_text c))
  tells_rows = rows_told (old_text c) (room_of g.lent) (rw g.scanned.told at g.table)

  table_is : table_of answer ≡ scanned.table_of (old_text c)
  table_is = lent_table (scanned.table_of (old_text c)) (g.scanned.told ∙ ap (λ (x : Told). told_words x) tells_rows)

  fresh : IsFresh c ws (scanned.table_of (old_text c))
  fresh =
      change_fresh c ws (scanned.table_of (old_text c)) (rw g.scanned.left (scan_scanned (old_text c) g.lent _ tells_rows))
      (scan_valid (old_text c) (room_of g.lent) _ tells_rows)

  -- `spoonharbor_change`, lent what `spoonharbor_scan` of the old text left and told, and the new text, tells and leaves what
  -- `spoonharbor_scan` of the new text does, for every lent memory. So the next change and the parse may be lent it.
  pub outer_change : (new : List ℕ) → OuterLent (new_text c) new (outer_leaves c ws answer new) (outer_tells c ws answer new)
  outer_change new = record {
    told =
        ap (λ (t : Table). told_words (change_told ws t (a c) (b c) (n c) (new_text c) (room_of new))) table_is
        ∙ ap (λ (x : Told). told_words x) (fresh.told (room_of new));
    left = ap (λ (t : Table). change_leaves ws t (a c) (b c) (n c) (new_text c) new) table_is ∙ fresh.left new;
  }

  -- Where its answer is a table's, the next change may be lent what it left and told.
  pub outer_change_again : (new : List ℕ) → is_ending (get_or (outer_tells c ws answer new) 0 0) ≡ true
      → OuterTable (new_text c) (outer_leaves c ws answer new) (outer_tells c ws answer new)
  outer_change_again new h = record { lent = new; scanned = outer_change new; table = h }

-- what is no 7 does not have its number
no_number : (x : Told) → NotSeven x → get_or (told_words x) 0 0 ≡ 7 → ⊥
no_number (Ok t) h e = by t.ending e
  where
    by : (z : Ending) → get_or (ending_words t.count t.length z) 0 0 ≡ 7 → ⊥
    by None f = omega arith
    by (Some z) f = case z.why z.at f
      where
        case : (why : Lexical) (p : Cursor) → get_or (ending_words t.count t.length (Some (halt why p))) 0 0 ≡ 7 → ⊥
        case lexical.NoRowBegins p f = omega arith
        case lexical.LoneSign p f = omega arith
        case lexical.NoHexDigit p f = omega arith
        case lexical.OpenComment p f = omega arith
        case lexical.OpenString p f = omega arith
        case lexical.BadEscape p f = omega arith
        case lexical.NumberTooLarge p f = omega arith
no_number (Err x) h e = by x.why x.at x.rows h e
  where
    by : (why : Outer) (p : Cursor) (k : ℕ) → NotSeven (Err (unread why p k)) → get_or (told_words (Err (unread why p k))) 0 0 ≡ 7 → ⊥
    by outer.TextTooLong p k h e = omega arith
    by outer.BadByte p k h e = omega arith
    by outer.NotWellFormed p k h e = omega arith
    by outer.NoRowRoom p k h e = omega arith
    by outer.NoNodeRoom p k h e = omega arith
    by outer.EditNotSensible p k h e = omega arith
    by outer.WindowShort p k h e = h.never p k refl

-- ---- the call's own contract: `Post` is what it promises of the arguments x, the answer r and the lent memory at exit e

module _ (κs : Lfts 5) (x : Dens κs of_change.ps) (r : Unit {0}) (e : AtExit (ended_of 5 of_change.ps of_change.r) κs) where
  -- Lent the rows and words that a scan of a change's old text left and told, the change's numbers and its new text, it leaves and tells
  -- what a scan of the new text does.
  pub outer_change_call : ChangePost κs x r e → (c : Change) → OuterTable (old_text c) x.0.now x.1.0.now
      → x.1.1.0 ≡ a c → x.1.1.1.0 ≡ b c → x.1.1.1.1.0 ≡ n c → x.1.1.1.1.1.0.now ≡ new_text c
      → OuterLent (new_text c) x.1.1.1.1.1.1.0.now e.1.1.1.1.1.1.0.now e.1.1.1.1.1.1.1.0.now
  outer_change_call p c g ea eb en et =
      let f = outer_change c x.0.now x.1.0.now g x.1.1.1.1.1.1.0.now in
      record { told = rw (ea, eb, en, et) at p.0 ∙ f.told; left = rw (ea, eb, en, et) at p.1 ∙ f.left }

  -- Whatever it is lent, its answer's number is not 7.
  pub outer_change_never_7 : ChangePost κs x r e → get_or e.1.1.1.1.1.1.1.0.now 0 0 ≡ 7 → ⊥
  outer_change_never_7 p q = no_number _ (never_short _ _ _ _ _ _ _) (ap (λ (ws : List ℕ). get_or ws 0 0) (sym p.0) ∙ q)
