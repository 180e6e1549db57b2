-- The machine and the page say the same, of the item at the front of any bytes and of a whole text; and what a part of a text
-- shows of an item, for both. Nothing is assumed of the bytes.
use Prim.Native.Nat.{ℕ, suc, ◌≤◌, ◌<◌}
use native.Mathlib.Nat.{zero-add}
use native.Mathlib.Omega.{arith}
use mathlib.Core.Bool.{Bool, true, false}
use mathlib.Core.List.{List, [], ◌∷◌, ◌++◌}
use mathlib.Core.Path.{◌≡◌, refl, ap, ◌∙◌}
use lib.ListN.{length}
use Rattle.rules.specs.declared.Cursor.{Cursor}
use Rattle.rules.specs.declared.Lexical.{Lexical}
use Rattle.rules.specs.Text.{place_at}
use Rattle.rules.specs.Lex.{Piece, row, refused, piece, decided_at, known, item}
use Rattle.rules.specs.Scan.{read, scan}
use Rattle.theory_machine.specs.Machine.{gap, begin, step, finish, run, scan_bytes}
use Rattle.theory_machine.specs.Items.{item_gap, item_move, item_last, first_bytes, item_bytes, is_known}
use Rattle.theory_machine.proofs.Spans.{Spans, row_decided, first_spans, run_spans}
use Rattle.theory_machine.proofs.Shown.{within, run_within, run_known, run_enough}
use Rattle.theory_machine.proofs.Pieces.{first_same}
use Rattle.theory_machine.proofs.Scans.{run_same}

-- ---- the same item

whole_item : (s : List ℕ) → item_bytes true s ≡ item true s
unfolding item_bytes first_bytes step finish item_move item_last item_gap item
whole_item [] = refl
whole_item (b ∷ s) = first_same b s

within_item : (s : List ℕ) → within (length s) (item true s) ≡ item false s
unfolding within item
within_item [] = refl
within_item (b ∷ s) = refl

part_item : (s : List ℕ) → item_bytes false s ≡ within (length s) (item_bytes true s)
unfolding item_bytes
part_item s = rw zero-add at (run_within s 0 gap)

pub same_item : (whole : Bool) (s : List ℕ) → item_bytes whole s ≡ item whole s
same_item true s = whole_item s
same_item false s = part_item s ∙ ap (within (length s)) (whole_item s) ∙ within_item s

-- ---- the same scan

-- from any offset on, behind so many comments of the gap, whatever gives the places
pub same_read : (pos : ℕ → Cursor) (s : List ℕ) (c k : ℕ) → run pos s c k 0 gap ≡ read pos c 0 k s
same_read pos s c k = run_same pos s c k

pub same_scan : (t : List ℕ) → scan_bytes t ≡ scan t
unfolding scan_bytes scan
same_scan t = same_read (place_at t) t 0 0

-- ---- what a part of a text shows

-- what it shows holds in every text that goes on from it
pub known_bytes : (whole : Bool) (w z : List ℕ) → is_known (item_bytes false w) ≡ true → item_bytes whole (w ++ z) ≡ item_bytes false w
unfolding item_bytes
known_bytes whole w z h = run_known whole w z 0 gap h

pub known_item : (whole : Bool) (w z : List ℕ) → is_known (item false w) ≡ true → item whole (w ++ z) ≡ item false w
known_item whole w z h = rw (same_item whole (w ++ z), same_item false w) at (known_bytes whole w z (rw (same_item false w) h))

-- it shows what stands at its front in a text that goes on from it, if the deciding byte lies in it
pub enough_bytes : (whole : Bool) (u x : List ℕ) (p : Piece) → decided_at p < length u → item_bytes whole (u ++ x) ≡ known p → item_bytes false u ≡ known p
unfolding item_bytes
enough_bytes whole u x p l h = run_enough whole u x p 0 gap (omega arith) h

pub enough_item : (whole : Bool) (u x : List ℕ) (p : Piece) → decided_at p < length u → item whole (u ++ x) ≡ known p → item false u ≡ known p
enough_item whole u x p l h = rw (same_item false u) at (enough_bytes whole u x p l (rw (same_item whole (u ++ x)) h))

-- a row of n bytes is shown with the byte behind it
pub row_bytes : (whole : Bool) (u x : List ℕ) (kind n bits d : ℕ) → n < length u → item_bytes whole (u ++ x) ≡ known (row kind n bits d) →
    item_bytes false u ≡ known (row kind n bits d)
unfolding item_bytes decided_at
row_bytes whole u x kind n bits d l h =
    let f : d ≤ n = row_decided (rw h at (run_spans whole (u ++ x) 0 gap)) in
    enough_bytes whole u x (row kind n bits d) (omega arith) h

pub row_item : (whole : Bool) (u x : List ℕ) (kind n bits d : ℕ) → n < length u → item whole (u ++ x) ≡ known (row kind n bits d) →
    item false u ≡ known (row kind n bits d)
row_item whole u x kind n bits d l h =
    rw (same_item false u) at (row_bytes whole u x kind n bits d l (rw (same_item whole (u ++ x)) h))

-- a refusal is shown with its deciding byte
pub refused_bytes : (whole : Bool) (u x : List ℕ) (why : Lexical) (p d : ℕ) → d < length u → item_bytes whole (u ++ x) ≡ known (refused why p d) →
    item_bytes false u ≡ known (refused why p d)
unfolding decided_at
refused_bytes whole u x why p d l h = enough_bytes whole u x (refused why p d) l h

pub refused_item : (whole : Bool) (u x : List ℕ) (why : Lexical) (p d : ℕ) → d < length u → item whole (u ++ x) ≡ known (refused why p d) →
    item false u ≡ known (refused why p d)
unfolding decided_at
refused_item whole u x why p d l h = enough_item whole u x (refused why p d) l h

-- ---- how far an item reaches

pub item_spans : (whole : Bool) (s : List ℕ) → Spans 0 0 (length s) (item whole s)
unfolding item_bytes
item_spans whole s = rw (same_item whole s, zero-add (length s)) at (run_spans whole s 0 gap)

-- a piece has a byte or more, and lies in its text
pub piece_spans : (b : ℕ) (s : List ℕ) → Spans 1 0 (suc (length s)) (known (piece (b ∷ s)))
piece_spans b s =
    rw (first_same b s, zero-add (suc (length s))) at (first_spans (first_bytes true s) (length s) (run_spans true s) 0 (begin b))
