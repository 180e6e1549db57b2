-- Two edits of one text, over the own contracts of `edit`, `change` and `scan`. The theorems are `either_order` and
-- `in_a_row`, in the same memory and, `-rows`, in memories of their own; `last_ends` says what the last call answers, and
-- `told_exactly` (`Made`) when a call before it tells a table.
use Prim.Native.Nat.{ℕ, ◌*◌, ◌≤◌, ◌<◌}
use native.Mathlib.Omega.{arith}
use native.Mathlib.Decide.{dec_lt}
use mathlib.Core.Bool.{Bool, true, false}
use mathlib.Core.List.{List}
use mathlib.Core.Path.{◌≡◌, ap, sym, ◌∙◌}
use lib.ListN.{length, take}
use lib.Seq.{take_at}
use Rattle.rules.specs.declared.Table.{Table}
use Rattle.rules.specs.Outcomes.{Told}
use Rattle.std.specs.declared.result.Result.TheVariants.{Ok}
use Rattle.rules.specs.Text.{most_bytes, valid, text_judged}
use Rattle.rules.specs.Rows.{words_of}
use Rattle.rules.specs.Scan.{read_rows, read_ending, scan, room_of, scan_told, scan_leaves}
use Rattle.rules_pairs.specs.Pairs.{Edit, Lies, after, Pair, adjusted, both, in_turn, covering, Covers}
use Rattle.laws.proofs.Valid.{text_long, text_fine}
use Rattle.laws.proofs.Rows.{words_length, scan_told_refused, scan_told_lem, told_all, told_full}
use Rattle.theory_edits.specs.Scanned.{Scanned}
use Rattle.edit_change.specs.Fresh.{SaysScan}
use Rattle.theory_pairs.specs.Turns.{Premises, Held, Once, Turns, Alike, AlikeRows, Ends, ends_1, ends_4, ends_rows}
use Rattle.theory_pairs.proofs.Texts.{same_text, byte_between, adjusted_lies, turned, covered, covering_covers, covers_lies}
use Rattle.theory_pairs.proofs.Made.{made, says_held}

-- ---- what the last call says

once_says : {t : List ℕ} {e : Edit} {room : List ℕ} {r : Told} {new : List ℕ} → Lies e t → Once t e room r new
    → SaysScan room r new (after t e)
once_says h o = made h o.held o.call

-- the text after the first edit is held
pub between_held : {t : List ℕ} {e f : Edit} {room : List ℕ} {r : Told} {new : List ℕ} → Lies e t → (w : Turns t e f room r new)
    → Held (after t e) w.rows w.table
between_held h w = says_held (once_says h w.first)

pub turns_say : {t : List ℕ} {e f : Edit} {room : List ℕ} {r : Told} {new : List ℕ} → Lies e t → Lies f (after t e) → Turns t e f room r new
    → SaysScan room r new (in_turn t e f)
turns_say h i w = made i (between_held h w) w.second

-- ---- calls that say what a scan of the same text does

alike : {t u room : List ℕ} {r r' : Told} {new new' : List ℕ} → SaysScan room r new t → SaysScan room r' new' u → t ≡ u
    → Alike r r' new new'
alike {room = room} x y e = record {
  told = x.told ∙ ap (λ (s : List ℕ). scan_told s (room_of room)) e ∙ sym y.told;
  left = x.left ∙ ap (λ (s : List ℕ). scan_leaves s room) e ∙ sym y.left;
}

held_rows : {t old : List ℕ} {table : Table} → Scanned t old table → take (8 * table.count) old ≡ words_of (read_rows (scan t))
held_rows {t} {old} {table} s =
    ap (λ (k : Table). take (8 * k.count) old) s.told ∙ ap (take (8 * length (read_rows (scan t)))) s.words
    ∙ take_at (words_of (read_rows (scan t))) s.spare (8 * length (read_rows (scan t))) (words_length (read_rows (scan t)))

alike_rows : {t u : List ℕ} {table table' : Table} {new new' : List ℕ} → Held t new table → Held u new' table' → t ≡ u
    → AlikeRows table table' new new'
alike_rows {t} {u} {table} {table'} {new} {new'} x y e =
    let z : Held t new' table' = rw e y in
    let f : table ≡ table' = x.scanned.told ∙ sym z.scanned.told in
    record {
      told = f;
      rows = held_rows x.scanned ∙ sym (held_rows z.scanned) ∙ ap (λ (k : Table). take (8 * k.count) new') (sym f);
    }

-- what a scan of a valid text tells
pub valid_ends : (t room : List ℕ) → valid t ≡ true → Ends t room (scan_told t (room_of room))
valid_ends t room v = by (dec_lt most_bytes (length t)) (dec_lt (room_of room) (length (read_rows (scan t))))
  where
    by : Dec (most_bytes < length t) → Dec (room_of room < length (read_rows (scan t))) → Ends t room (scan_told t (room_of room))
    by (yes l) k = rw (scan_told_refused t (text_long t l) (room_of room)) (ends_1 l)
    by (no l) (yes k) =
        let m : length t ≤ most_bytes = omega arith in
        rw (scan_told_lem t (text_fine t m v) (room_of room), told_full (length t) (room_of room) (read_rows (scan t)) (read_ending (scan t)) k)
        (ends_4 m k)
    by (no l) (no k) =
        let m : length t ≤ most_bytes = omega arith in
        let n : length (read_rows (scan t)) ≤ room_of room = omega arith in
        rw (scan_told_lem t (text_fine t m v) (room_of room), told_all (length t) (room_of room) (read_rows (scan t)) (read_ending (scan t)) n)
        (ends_rows (record { fits = m; good = v; room = n }))

-- ---- either order

module _ {t : List ℕ} {e f : Edit} (p : Pair t e f) where
  one_way : {room : List ℕ} {r : Told} {new : List ℕ} → Turns t e (adjusted e f) room r new → SaysScan room r new (both t e f)
  one_way w = turns_say p.one (adjusted_lies p) w

  other_way : {room : List ℕ} {r : Told} {new : List ℕ} → Turns t f (adjusted f e) room r new → SaysScan room r new (both t f e)
  other_way w = turns_say p.other (adjusted_lies (turned p)) w

  -- Either order, lent the same words for the last call: it tells and leaves the same.
  pub either_order : {room : List ℕ} {r r' : Told} {new new' : List ℕ}
      → Turns t e (adjusted e f) room r new → Turns t f (adjusted f e) room r' new'
      → Alike r r' new new'
  either_order v w = alike (one_way v) (other_way w) (same_text p)

  -- Either order, each last call in a memory of its own: the same table, and the same rows.
  pub either_order_rows : {room room' : List ℕ} {table table' : Table} {new new' : List ℕ}
      → Turns t e (adjusted e f) room (Ok table) new → Turns t f (adjusted f e) room' (Ok table') new'
      → AlikeRows table table' new new'
  either_order_rows v w =
      alike_rows (says_held (one_way v)) (says_held (other_way w)) (same_text p)

  -- The last text needs no premise. It is valid, so the last call says 1 if it is too long, its table if there is room, and
  -- else 4; and never 2.
  pub last_ends : {room : List ℕ} {r : Told} {new : List ℕ} → Turns t e (adjusted e f) room r new → valid (after t f) ≡ true
      → Ends (both t e f) room r
  last_ends {room} w g =
      let v : valid (both t e f) ≡ true = byte_between p w.first.held.good (between_held p.one w).good g in
      rw (one_way w).told (valid_ends (both t e f) room v)

-- ---- in a row

module _ {t : List ℕ} {e f : Edit} (h : Lies e t) (i : Lies f (after t e)) where
  -- Two edits in a row, and one that covers both, lent the same words for the last call: it tells and leaves the same.
  pub in_a_row : (g : Edit) → Covers t e f g → {room : List ℕ} {r r' : Told} {new new' : List ℕ}
      → Turns t e f room r new → Once t g room r' new'
      → Alike r r' new new'
  in_a_row g c w o = alike (turns_say h i w) (once_says (covers_lies h i g c) o) (sym (covered h i g c))

  pub in_a_row_rows : (g : Edit) → Covers t e f g → {room room' : List ℕ} {table table' : Table} {new new' : List ℕ}
      → Turns t e f room (Ok table) new → Once t g room' (Ok table') new'
      → AlikeRows table table' new new'
  in_a_row_rows g c w o = alike_rows (says_held (turns_say h i w)) (says_held (once_says (covers_lies h i g c) o)) (sym (covered h i g c))

  -- The covering edit is one that does.
  pub covering_in_a_row : {room : List ℕ} {r r' : Told} {new new' : List ℕ} → Turns t e f room r new → Once t (covering t e f) room r' new'
      → Alike r r' new new'
  covering_in_a_row w o = in_a_row (covering t e f) (covering_covers h i) w o
