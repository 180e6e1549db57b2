-- The one item that the machine reads at the front of a list of bytes, as the rules' `Item`: what stands there, the text's end, or
-- unknown where the bytes stop and do not end the text.
use Rattle.std.specs.Prelude.{ℕ, zero, suc, Bool, true, false, cond, List, [], ◌∷◌}
use Rattle.rules.specs.Lex.{Piece, blank, comment, row, refused, Item, known, end, unknown}
use Rattle.theory_machine.specs.Machine.{St, gap, First, go, clear, over, bad, Move, fresh, on, back, Last, clean, ended, cut, spot, begin, step, finish}

-- a gap's piece that the byte behind k others closes
unfoldable pub cleared : ℕ → Piece
cleared zero = blank
cleared (suc k) = comment (suc (suc k)) (suc k)

-- a byte that is taken behind k others; r: what the bytes behind it show
unfoldable pub item_first : (ℕ → St → Item) → ℕ → First → Item
item_first r k (go st) = r (suc k) st
item_first r k clear = known (cleared k)
item_first r k (over x) = known (row x.kind (suc k) x.bits k)
item_first r k (bad why x) = known (refused why (spot x k) k)

-- a gap that ends behind k bytes
unfoldable pub item_gap : Item → ℕ → Item
item_gap i zero = i
item_gap i (suc k) = known (comment (suc k) (suc k))

unfoldable pub item_move : (ℕ → St → Item) → ℕ → ℕ → Move → Item
item_move r b k fresh = item_gap (item_first r 0 (begin b)) k
item_move r b k (on x) = item_first r k x
item_move r b k (back x) = known (row x.kind k x.bits k)

-- at the text's end, behind k bytes
unfoldable pub item_last : ℕ → Last → Item
item_last k clean = item_gap end k
item_last k (ended x) = known (row x.kind k x.bits k)
item_last k (cut why x) = known (refused why (spot x k) k)

-- k bytes have been read, which left the machine in a state; whole: s ends the text
unfoldable pub first_bytes : Bool → List ℕ → ℕ → St → Item
first_bytes whole [] k st = cond whole (item_last k (finish st k)) unknown
first_bytes whole (b ∷ s) k st = item_move (first_bytes whole s) b k (step st k b)

-- from a place behind a row or in a gap
unfoldable pub item_bytes : Bool → List ℕ → Item
item_bytes whole s = first_bytes whole s 0 gap

unfoldable pub is_known : Item → Bool
is_known (known p) = true
is_known end = true
is_known unknown = false
