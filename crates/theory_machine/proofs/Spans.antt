-- How far an item reaches: the machine's item covers what was read of it, stays inside the text, and is decided at its last byte or
-- at the one behind. Nothing is known here of the rules themselves.
use Prim.Native.Nat.{ℕ, zero, suc, ◌+◌, ◌≤◌}
use native.Mathlib.Omega.{arith}
use mathlib.Core.Bool.{Bool, true, false, cond}
use mathlib.Core.List.{List, [], ◌∷◌}
use mathlib.Core.Path.{◌≡◌}
use lib.ListN.{length}
use Rattle.rules.specs.declared.Lexical.{Lexical}
use Rattle.rules.specs.Lex.{Piece, blank, comment, row, refused, decided_at, Item, known, end, unknown}
use Rattle.theory_machine.specs.Machine.{St, Spot, mark, opened, here, before, First, go, clear, over, bad, Move, fresh, on, back, Last, clean, ended, cut, spot, begin, step, finish}
use Rattle.theory_machine.specs.Items.{cleared, item_first, item_gap, item_move, item_last, first_bytes}

-- n bytes of m, of which there are `least` or more, decided at the last or behind it, where `late` or more bytes stand before
pub record Reach (least late m n d : ℕ) : Type 0 where
  pub long : least ≤ n
  pub decided : late ≤ d
  pub behind : d ≤ n
  pub near : n ≤ suc d
  pub inside : n ≤ m

pub data Spans (least late m : ℕ) : Item → Type 0 where
  blank_spans : Reach least late m 1 0 → Spans least late m (known blank)
  comment_spans : (n d : ℕ) → Reach least late m n d → Spans least late m (known (comment n d))
  row_spans : (kind n bits d : ℕ) → Reach least late m n d → Spans least late m (known (row kind n bits d))
  refused_spans : (why : Lexical) (p d : ℕ) → p ≤ d → late ≤ d → d ≤ m → Spans least late m (known (refused why p d))
  end_spans : Spans least late m end
  unknown_spans : Spans least late m unknown

spans_less : {least late m least' late' : ℕ} {x : Item} → least' ≤ least → late' ≤ late → Spans least late m x → Spans least' late' m x
spans_less f g (blank_spans r) = blank_spans (omega arith)
spans_less f g (comment_spans n d r) = comment_spans n d (omega arith)
spans_less f g (row_spans kind n bits d r) = row_spans kind n bits d (omega arith)
spans_less f g (refused_spans why p d a b c) = refused_spans why p d a (omega arith) c
spans_less f g end_spans = end_spans
spans_less f g unknown_spans = unknown_spans

pub decided_late : {least late m : ℕ} {p : Piece} → Spans least late m (known p) → late ≤ decided_at p
unfolding decided_at
decided_late (blank_spans r) = r.decided
decided_late (comment_spans n d r) = r.decided
decided_late (row_spans kind n bits d r) = r.decided
decided_late (refused_spans why p d a b c) = b

pub row_decided : {least late m kind n bits d : ℕ} → Spans least late m (known (row kind n bits d)) → d ≤ n
row_decided (row_spans kind n bits d r) = r.behind

pub spot_le : (x : Spot) (k : ℕ) → spot x k ≤ k
unfolding spot
spot_le mark k = omega arith
spot_le opened k = omega arith
spot_le here k = omega arith
spot_le before k = omega arith

module _ (r : ℕ → St → Item) (n : ℕ) (ih : (k : ℕ) (st : St) → Spans k k (k + n) (r k st)) where
  pub first_spans : (k : ℕ) (x : First) → Spans (suc k) k (k + suc n) (item_first r k x)
  unfolding item_first cleared
  first_spans k (go st) =
      let e : suc k + n ≡ k + suc n = omega arith in
      rw (← e) (spans_less (omega arith) (omega arith) (ih (suc k) st))
  first_spans zero clear = blank_spans (omega arith)
  first_spans (suc k) clear = comment_spans (suc (suc k)) (suc k) (omega arith)
  first_spans k (over x) = row_spans x.kind (suc k) x.bits k (omega arith)
  first_spans k (bad why x) = refused_spans why (spot x k) k (spot_le x k) (omega arith) (omega arith)

  move_spans : (b k : ℕ) (x : Move) → Spans k k (k + suc n) (item_move r b k x)
  unfolding item_move item_gap
  move_spans b zero fresh = spans_less (omega arith) (omega arith) (first_spans 0 (begin b))
  move_spans b (suc k) fresh = comment_spans (suc k) (suc k) (omega arith)
  move_spans b k (on x) = spans_less (omega arith) (omega arith) (first_spans k x)
  move_spans b k (back x) = row_spans x.kind k x.bits k (omega arith)

last_spans : (k : ℕ) (x : Last) → Spans k k (k + 0) (item_last k x)
unfolding item_last item_gap
last_spans zero clean = end_spans
last_spans (suc k) clean = comment_spans (suc k) (suc k) (omega arith)
last_spans k (ended x) = row_spans x.kind k x.bits k (omega arith)
last_spans k (cut why x) = refused_spans why (spot x k) k (spot_le x k) (omega arith) (omega arith)

whole_spans : (whole : Bool) (k : ℕ) (x : Last) → Spans k k (k + 0) (cond whole (item_last k x) unknown)
whole_spans true k x = last_spans k x
whole_spans false k x = unknown_spans

pub run_spans : (whole : Bool) (s : List ℕ) (k : ℕ) (st : St) → Spans k k (k + length s) (first_bytes whole s k st)
unfolding first_bytes
run_spans whole [] k st = whole_spans whole k (finish st k)
run_spans whole (b ∷ s) k st = move_spans (first_bytes whole s) (length s) (run_spans whole s) b k (step st k b)
