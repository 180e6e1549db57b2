-- The rules' scan of a window is the machine's: each takes the same item at every place where one may begin and no old rows follow.
use Prim.Native.Nat.{ℕ, zero, suc, pred, ◌+◌, ◌-◌, ◌≤◌, ◌<◌}
use native.Mathlib.Nat.{add-zero, sub_self}
use native.Mathlib.Omega.{arith}
use mathlib.Core.Bool.{Bool, true, false, cond, not, ◌&&◌, ◌||◌}
use mathlib.Core.List.{List, [], ◌∷◌}
use mathlib.Core.Path.{◌≡◌, refl, ap, sym, ◌∙◌}
use lib.Dec.{ltb}
use lib.ListN.{length}
use Rattle.rules.specs.declared.Cursor.{Cursor}
use Rattle.rules.specs.Outcomes.{halt}
use Rattle.std.specs.declared.option.Option.TheVariants.{None, Some}
use Rattle.rules.specs.Rows.{Row, row_at, eof_row}
use Rattle.rules.specs.Lex.{blank, comment, row, refused, Item, known, end, unknown, piece, decided_at, item}
use Rattle.rules.specs.Edit.{opens, Seen, sees, over', short, look}
use Rattle.theory_machine.specs.Machine.{St, gap, First, go, clear, over, bad, Move, fresh, on, back, Last, clean, ended, cut, begin, step, finish, passed, close}
use Rattle.theory_machine.specs.Items.{cleared, item_first, item_gap, item_move, item_last, first_bytes, item_bytes}
use Rattle.theory_machine.proofs.Spans.{Spans, blank_spans, comment_spans, row_spans, refused_spans, end_spans, unknown_spans, run_spans}
use Rattle.theory_machine.proofs.Same.{same_item, piece_spans}
use Rattle.theory_edits.proofs.Steps.{step_gap, finish_gap}
use Rattle.theory_edits.proofs.Look.{listed, see_after, see_at, see_move, look_bytes}

sees_same : {r : Row} {s s' : Seen} → s ≡ s' → sees r s ≡ sees r s'
sees_same {r} e = ap (sees r) e

module _ (pos : ℕ → Cursor) (meet : ℕ → Bool) (whole : Bool) where
  -- the window from t on, where an item stands, behind c comments of the gap; k bytes have been read of it and s is left
  unfoldable looks : (c t k : ℕ) → List ℕ → Item → Seen
  looks c t k s (known blank) = look pos meet whole c (1 - k) (t + k) s
  looks c t k s (known (comment n d)) = look pos meet whole (suc c) (n - k) (t + k) s
  looks c t k s (known (row kind n bits d)) = sees (row_at (pos t) c kind (t + n) bits) (look pos meet whole 0 (n - k) (t + k) s)
  looks c t k s (known (refused why p d)) = over' (Some (halt why (pos (t + p))))
  looks c t k s end = short
  looks c t k s unknown = short

  record Same (s : List ℕ) : Type 0 where
    inside : (c t k : ℕ) (st : St) → 0 < k → look_bytes pos meet whole s c t k st ≡ looks c t k s (first_bytes whole s k st)
    begins : (c t : ℕ) → look_bytes pos meet whole s c t 0 gap ≡ look pos meet whole c 0 t s

  module _ (b : ℕ) (s : List ℕ) where
    -- a byte of the item is passed over
    pass : (c n t k : ℕ) → k < n → look pos meet whole c (n - suc k) (t + suc k) s ≡ look pos meet whole c (n - k) (t + k) (b ∷ s)
    unfolding look
    pass c n t k h =
        let e : n - k ≡ suc (n - suc k) = omega arith in
        let f : t + suc k ≡ suc (t + k) = omega arith in
        rw (e, f)

    pass_last : (c t k : ℕ) → look pos meet whole c 0 (t + suc k) s ≡ look pos meet whole c (suc k - k) (t + k) (b ∷ s)
    pass_last c t k = rw (sub_self (suc k)) at (pass c (suc k) t k (omega arith))

    looks_on : {m : ℕ} {x : Item} (c t k : ℕ) → Spans (suc k) (suc k) m x → looks c t (suc k) s x ≡ looks c t k (b ∷ s) x
    unfolding looks
    looks_on c t k (blank_spans r) = pass c 1 t k (omega arith)
    looks_on c t k (comment_spans n d r) = pass (suc c) n t k r.long
    looks_on c t k (row_spans kind n bits d r) = sees_same (pass 0 n t k r.long)
    looks_on c t k (refused_spans why p d e f g) = refl
    looks_on c t k end_spans = refl
    looks_on c t k unknown_spans = refl

    first_byte : (c n t : ℕ) → 1 ≤ n → look pos meet whole c (n - 0) (t + 0) (b ∷ s) ≡ look pos meet whole c (pred n) (suc t) s
    first_byte c n t h =
        let e : pred n ≡ n - 1 = omega arith in
        let f : suc t ≡ t + 1 = omega arith in
        rw (e, f) (sym (pass c n t 0 h))

    -- no old rows follow at t
    looks_piece : {m : ℕ} (c t : ℕ) (x : Item) → item whole (b ∷ s) ≡ x → (meet t && not (opens (b ∷ s))) ≡ false → Spans 1 0 m x
        → looks c t 0 (b ∷ s) x ≡ look pos meet whole c 0 t (b ∷ s)
    unfolding looks look
    looks_piece c t x e y (blank_spans r) = rw (look, y, e) (first_byte c 1 t (omega arith))
    looks_piece c t x e y (comment_spans n d r) = rw (look, y, e) (first_byte (suc c) n t r.long)
    looks_piece c t x e y (row_spans kind n bits d r) = rw (look, y, e) (sees_same (first_byte 0 n t r.long))
    looks_piece c t x e y (refused_spans why p d f g h) = rw (look, y, e)
    looks_piece c t x e y end_spans = rw (look, y, e)
    looks_piece c t x e y unknown_spans = rw (look, y, e)

    item_spans : Spans 1 0 (suc (length s)) (item whole (b ∷ s))
    unfolding item
    item_spans = by (whole || ltb (decided_at (piece (b ∷ s))) (length (b ∷ s)))
      where
        by : (q : Bool) → Spans 1 0 (suc (length s)) (cond q (known (piece (b ∷ s))) unknown)
        by true = piece_spans b s
        by false = unknown_spans

    first_item : item_first (first_bytes whole s) 0 (begin b) ≡ item whole (b ∷ s)
    unfolding item_bytes first_bytes item_move item_gap
    first_item = rw (item_bytes, first_bytes, step_gap, item_move, item_gap) at (same_item whole (b ∷ s))

    module _ (ih : Same s) where
      after_looks : (c t k : ℕ) (x : First)
          → see_after pos meet (look_bytes pos meet whole s) c t k x ≡ looks c t k (b ∷ s) (item_first (first_bytes whole s) k x)
      unfolding see_after passed item_first cleared looks
      after_looks c t k (go st) = ih.inside c t (suc k) st (omega arith) ∙ looks_on c t k (run_spans whole s (suc k) st)
      after_looks c t zero clear = ih.begins c (t + 1) ∙ pass_last c t 0
      after_looks c t (suc k) clear = ih.begins (suc c) (t + suc (suc k)) ∙ pass_last (suc c) t (suc k)
      after_looks c t k (over x) = sees_same (ih.begins 0 (t + suc k) ∙ pass_last 0 t k)
      after_looks c t k (bad why x) = refl

      at_looks : (c t : ℕ) → see_at pos meet s (look_bytes pos meet whole s) b c t ≡ look pos meet whole c 0 t (b ∷ s)
      unfolding see_at look
      at_looks c t = by (meet t && not (opens (b ∷ s))) refl
        where
          by : (q : Bool) → (meet t && not (opens (b ∷ s))) ≡ q
              → see_at pos meet s (look_bytes pos meet whole s) b c t ≡ look pos meet whole c 0 t (b ∷ s)
          by true q = rw (see_at, look, q)
          by false q = rw (see_at, q) (after_looks c t 0 (begin b) ∙ rw first_item (looks_piece c t (item whole (b ∷ s)) refl q item_spans))

      move_looks : (c t k : ℕ) (x : Move) → 0 < k
          → see_move pos meet s (look_bytes pos meet whole s) b c t k x ≡ looks c t k (b ∷ s) (item_move (first_bytes whole s) b k x)
      unfolding see_move passed item_move item_gap looks
      move_looks c t zero fresh h = absurd (let y : ⊥ = omega arith in y)
      move_looks c t (suc k) fresh h = rw (sub_self (suc k)) (at_looks (suc c) (t + suc k))
      move_looks c t k (on x) h = after_looks c t k x
      move_looks c t k (back x) h = sees_same (rw (sub_self k) (at_looks 0 (t + k)))

      cons_same : Same (b ∷ s)
      unfolding look_bytes first_bytes see_move passed
      cons_same = record {
        inside = λ c t k st h. move_looks c t k (step st k b) h;
        begins = λ c t. rw (look_bytes, step_gap, see_move, add-zero) (at_looks c t);
      }

  look_end : (c t : ℕ) → look pos meet whole c 0 t [] ≡ cond whole (sees (eof_row (pos t) c) (over' None)) short
  unfolding look
  look_end c t = refl

  close_looks : whole ≡ true → (c t k : ℕ) (x : Last) → 0 < k → listed (close pos c t k x) ≡ looks c t k [] (item_last k x)
  unfolding listed close passed item_last item_gap looks
  close_looks y c t zero clean h = absurd (let z : ⊥ = omega arith in z)
  close_looks y c t (suc k) clean h = rw (sub_self (suc k), look_end (suc c) (t + suc k), y)
  close_looks y c t k (ended x) h = rw (sub_self k, look_end 0 (t + k), y)
  close_looks y c t k (cut why x) h = refl

  nil_same : Same []
  unfolding look_bytes first_bytes listed close passed looks
  nil_same = record {
    inside = λ c t k st h. by whole refl c t k st h;
    begins = λ c t. rw (look_bytes, finish_gap, close, listed, add-zero) (sym (look_end c t));
  }
    where
      by : (q : Bool) → whole ≡ q → (c t k : ℕ) (st : St) → 0 < k
          → cond q (listed (close pos c t k (finish st k))) short ≡ looks c t k [] (cond q (item_last k (finish st k)) unknown)
      by true q c t k st h = close_looks q c t k (finish st k) h
      by false q c t k st h = refl

  same : (s : List ℕ) → Same s
  same [] = nil_same
  same (b ∷ s) = cons_same b s (same s)

  pub same_look : (s : List ℕ) (c t : ℕ) → look pos meet whole c 0 t s ≡ look_bytes pos meet whole s c t 0 gap
  same_look s c t = sym ((same s).begins c t)
