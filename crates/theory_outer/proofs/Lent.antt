-- What is known of rows and words that are what a scan of a text tells and leaves, where the words are a table's.
use Prim.Native.Nat.{ℕ, ◌≤◌}
use native.Mathlib.Omega.{arith}
use mathlib.Core.Bool.{true}
use mathlib.Core.List.{List}
use mathlib.Core.Path.{◌≡◌, ap, ◌∙◌}
use lib.ListN.{length, get_or}
use Rattle.rules.specs.Outcomes.{Told}
use Rattle.std.specs.declared.result.Result.TheVariants.{Ok}
use Rattle.rules.specs.Text.{valid}
use Rattle.rules.specs.Scan.{read_rows, scan, room_of, scan_told}
use Rattle.theory_edits.specs.Scanned as scanned
use Rattle.theory_edits.specs.Scanned.{Scanned}
use Rattle.theory_edits.proofs.WellFormed.{Scans, says_1, says_2, says_4, says_rows, scan_says, scan_scanned, scan_valid}
use Rattle.answers.specs.Layout.{told_words, is_ending, table_of}
use Rattle.answers.proofs.Table.{lent_table}
use Rattle.spoonharbor.specs.OuterParse.{OuterLent}
use Rattle.spoonharbor.proofs.Outer.{rows_told}
use Rattle.theory_outer.specs.Calls.{ScanCall}
use Rattle.theory_outer.proofs.Calls as call

-- a scan's rows and words are such
pub scan_lends : {text lent answer rows : List ℕ} → ScanCall text lent answer rows → OuterLent text lent rows answer
scan_lends s = record { told = (call.scan_says s).0; left = (call.scan_says s).1 }

module _ {text lent answer rows : List ℕ} (g : OuterLent text lent rows answer) (h : is_ending (get_or answer 0 0) ≡ true) where
  told_rows : scan_told text (room_of lent) ≡ Ok (scanned.table_of text)
  told_rows = rows_told text (room_of lent) (rw g.told at h)

  -- there was room for all rows
  pub lent_room : length (read_rows (scan text)) ≤ room_of lent
  lent_room = by (scan_says text (room_of lent)) told_rows
    where
      by : {x : Told} → Scans text (room_of lent) x → x ≡ Ok (scanned.table_of text) → length (read_rows (scan text)) ≤ room_of lent
      by says_1 e = absurd (let z : ◌≡◌ {A = ℕ} 0 1 = cc in omega arith)
      by says_2 e = absurd (let z : ◌≡◌ {A = ℕ} 0 1 = cc in omega arith)
      by says_4 e = absurd (let z : ◌≡◌ {A = ℕ} 0 1 = cc in omega arith)
      by (says_rows l v r) e = r

  pub lent_words : answer ≡ told_words (Ok (scanned.table_of text))
  lent_words = g.told ∙ ap (λ (x : Told). told_words x) told_rows

  pub lent_is : table_of answer ≡ scanned.table_of text
  lent_is = lent_table (scanned.table_of text) lent_words

  pub lent_scanned : Scanned text rows (scanned.table_of text)
  lent_scanned = rw g.left (scan_scanned text lent (scanned.table_of text) told_rows)

  pub lent_valid : valid text ≡ true
  lent_valid = scan_valid text (room_of lent) (scanned.table_of text) told_rows
