-- The machine's run over a text is the page's reading: each takes the same item at every place where one may begin.
use Prim.Native.Nat.{ℕ, zero, suc, pred, ◌+◌, ◌-◌, ◌≤◌, ◌<◌}
use native.Mathlib.Nat.{add-zero, sub_self}
use native.Mathlib.Omega.{arith}
use mathlib.Core.Bool.{true}
use mathlib.Core.List.{List, [], ◌∷◌}
use mathlib.Core.Path.{◌≡◌, refl, ap, sym, ◌∙◌}
use lib.ListN.{length}
use Rattle.rules.specs.declared.Cursor.{Cursor}
use Rattle.rules.specs.Rows.{Row, row_at, eof_row}
use Rattle.rules.specs.Lex.{Piece, blank, comment, row, refused, Item, known, end, unknown, piece}
use Rattle.rules.specs.Scan.{Reading, put, ends, stops, read}
use Rattle.theory_machine.specs.Machine.{St, gap, First, go, clear, over, bad, Move, fresh, on, back, Last, clean, ended, cut, begin, step, finish, passed, after, move, close, run}
use Rattle.theory_machine.specs.Items.{cleared, item_first, item_gap, item_move, item_last, first_bytes}
use Rattle.theory_machine.proofs.Spans.{Spans, blank_spans, comment_spans, row_spans, refused_spans, end_spans, unknown_spans, first_spans, run_spans}
use Rattle.theory_machine.proofs.Pieces.{first_same}

put_same : {r : Row} {l l' : Reading} → l ≡ l' → put r l ≡ put r l'
put_same {r} e = ap (put r) e

module _ (pos : ℕ → Cursor) where
  -- the reading from t on, where an item of the whole text stands, behind c comments of the gap; k bytes have been read of it and s is left
  unfoldable reads : (c t k : ℕ) → List ℕ → Item → Reading
  reads c t k s (known blank) = read pos c (1 - k) (t + k) s
  reads c t k s (known (comment n d)) = read pos (suc c) (n - k) (t + k) s
  reads c t k s (known (row kind n bits d)) = put (row_at (pos t) c kind (t + n) bits) (read pos 0 (n - k) (t + k) s)
  reads c t k s (known (refused why p d)) = stops why (pos (t + p)) (t + d)
  reads c t k s end = put (eof_row (pos t) c) ends
  reads c t k s unknown = ends

  module _ (b : ℕ) (s : List ℕ) where
    -- a byte of the item is passed over
    pass : (c n t k : ℕ) → k < n → read pos c (n - suc k) (t + suc k) s ≡ read pos c (n - k) (t + k) (b ∷ s)
    unfolding read
    pass c n t k h =
        let e : n - k ≡ suc (n - suc k) = omega arith in
        let f : t + suc k ≡ suc (t + k) = omega arith in
        rw (e, f)

    pass_last : (c t k : ℕ) → read pos c 0 (t + suc k) s ≡ read pos c (suc k - k) (t + k) (b ∷ s)
    pass_last c t k = rw (sub_self (suc k)) at (pass c (suc k) t k (omega arith))

    reads_on : {m : ℕ} {x : Item} (c t k : ℕ) → Spans (suc k) (suc k) m x → reads c t (suc k) s x ≡ reads c t k (b ∷ s) x
    unfolding reads
    reads_on c t k (blank_spans r) = pass c 1 t k (omega arith)
    reads_on c t k (comment_spans n d r) = pass (suc c) n t k r.long
    reads_on c t k (row_spans kind n bits d r) = put_same (pass 0 n t k r.long)
    reads_on c t k (refused_spans why p d e f g) = refl
    reads_on c t k end_spans = refl
    reads_on c t k unknown_spans = refl

    first_byte : (c n t : ℕ) → 1 ≤ n → read pos c (n - 0) (t + 0) (b ∷ s) ≡ read pos c (pred n) (suc t) s
    first_byte c n t h =
        let e : pred n ≡ n - 1 = omega arith in
        let f : suc t ≡ t + 1 = omega arith in
        rw (e, f) (sym (pass c n t 0 h))

    reads_piece : {m : ℕ} (c t : ℕ) (p : Piece) → piece (b ∷ s) ≡ p → Spans 1 0 m (known p) →
        reads c t 0 (b ∷ s) (known p) ≡ read pos c 0 t (b ∷ s)
    unfolding reads read
    reads_piece c t p e (blank_spans r) = rw (read, e) (first_byte c 1 t (omega arith))
    reads_piece c t p e (comment_spans n d r) = rw (read, e) (first_byte (suc c) n t r.long)
    reads_piece c t p e (row_spans kind n bits d r) = rw (read, e) (put_same (first_byte 0 n t r.long))
    reads_piece c t p e (refused_spans why p' d f g h) = rw (read, e)

    -- a place where an item may begin
    reads_first : (c t : ℕ) → reads c t 0 (b ∷ s) (item_first (first_bytes true s) 0 (begin b)) ≡ read pos c 0 t (b ∷ s)
    reads_first c t =
        let h = first_spans (first_bytes true s) (length s) (run_spans true s) 0 (begin b) in
        rw (first_same b s) (reads_piece c t (piece (b ∷ s)) refl (rw (first_same b s) at h))

  reads_here : (c t : ℕ) (s : List ℕ) → reads c t 0 s (first_bytes true s 0 gap) ≡ read pos c 0 t s
  unfolding first_bytes step finish item_move item_last item_gap reads read
  reads_here c t [] = refl
  reads_here c t (b ∷ s) = reads_first b s c t

  module _ (b : ℕ) (s : List ℕ) (ih : (c t k : ℕ) (st : St) → run pos s c t k st ≡ reads c t k s (first_bytes true s k st)) where
    again : (c t : ℕ) → run pos s c t 0 gap ≡ read pos c 0 t s
    again c t = ih c t 0 gap ∙ reads_here c t s

    after_reads : (c t k : ℕ) (x : First) → after pos (run pos s) c t k x ≡ reads c t k (b ∷ s) (item_first (first_bytes true s) k x)
    unfolding after passed item_first cleared reads
    after_reads c t k (go st) = ih c t (suc k) st ∙ reads_on b s c t k (run_spans true s (suc k) st)
    after_reads c t zero clear = again c (t + 1) ∙ pass_last b s c t 0
    after_reads c t (suc k) clear = again (suc c) (t + suc (suc k)) ∙ pass_last b s (suc c) t (suc k)
    after_reads c t k (over x) = put_same (again 0 (t + suc k) ∙ pass_last b s 0 t k)
    after_reads c t k (bad why x) = refl

    begin_reads : (c t : ℕ) → after pos (run pos s) c t 0 (begin b) ≡ read pos c 0 t (b ∷ s)
    begin_reads c t = after_reads c t 0 (begin b) ∙ reads_first b s c t

    move_reads : (c t k : ℕ) (x : Move) → move pos (run pos s) b c t k x ≡ reads c t k (b ∷ s) (item_move (first_bytes true s) b k x)
    unfolding move passed item_move item_gap reads
    move_reads c t zero fresh = rw add-zero (after_reads c t 0 (begin b))
    move_reads c t (suc k) fresh = rw (sub_self (suc k)) (begin_reads (suc c) (t + suc k))
    move_reads c t k (on x) = after_reads c t k x
    move_reads c t k (back x) = put_same (rw (sub_self k) (begin_reads 0 (t + k)))

  close_reads : (c t k : ℕ) (x : Last) → close pos c t k x ≡ reads c t k [] (item_last k x)
  unfolding close passed item_last item_gap reads read
  close_reads c t zero clean = rw add-zero
  close_reads c t (suc k) clean = refl
  close_reads c t k (ended x) = refl
  close_reads c t k (cut why x) = refl

  run_reads : (s : List ℕ) (c t k : ℕ) (st : St) → run pos s c t k st ≡ reads c t k s (first_bytes true s k st)
  unfolding run first_bytes
  run_reads [] c t k st = close_reads c t k (finish st k)
  run_reads (b ∷ s) c t k st = move_reads b s (run_reads s) c t k (step st k b)

  pub run_same : (s : List ℕ) (c k : ℕ) → run pos s c k 0 gap ≡ read pos c 0 k s
  run_same s c k = run_reads s c k 0 gap ∙ reads_here c k s
