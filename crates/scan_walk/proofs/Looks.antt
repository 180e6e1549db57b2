-- What is seen from an index on, piece by piece, and behind blanks.
use mathlib.Core.Path.{◌≡◌, refl, ap, ◌∙◌}
use mathlib.Core.Bool.{Bool, true, false, cond, not, ◌&&◌, ◌||◌}
use mathlib.Core.List.{List, [], ◌∷◌}
use Prim.Native.Nat.{ℕ, zero, suc, ◌+◌, ◌≤◌}
use native.Mathlib.Nat.{not-suc-le-zero, le_of_suc-le-suc, add-zero}
use native.Mathlib.Numerals.{add-one}
use native.Mathlib.Omega.{arith}
use lib.ListN.{length, drop}
use lib.Dec.{ltb}
use borrow.Author.Tests.{lt-ltb}
use Rattle.rules.specs.Text.{front, is_blank}
use Rattle.rules.specs.declared.Cursor.{Cursor}
use Rattle.rules.specs.Outcomes.{halt}
use Rattle.std.specs.declared.option.Option.TheVariants.{None, Some}
use Rattle.rules.specs.Rows.{row_at, eof_row}
use Rattle.rules.specs.Lex.{blank, comment, row, refused, Item, known, end, unknown, item, piece, beginning, decided_at}
use Rattle.rules.specs.Edit.{Seen, sees, over', met, short, look, opens}
use Rattle.theory_machine.proofs.Spans.{Spans, blank_spans, comment_spans, row_spans, refused_spans, end_spans, unknown_spans}
use Rattle.theory_machine.proofs.Same.{piece_spans}

-- a piece at the front has a byte or more, and lies in its text
front_spans : (whole : Bool) (b : ℕ) (s : List ℕ) → Spans 1 0 (suc (length s)) (item whole (b ∷ s))
unfolding item
front_spans whole b s = pick (whole || ltb (decided_at (piece (b ∷ s))) (length (b ∷ s)))
  where
    pick : (p : Bool) → Spans 1 0 (suc (length s)) (cond p (known (piece (b ∷ s))) unknown)
    pick true = piece_spans b s
    pick false = unknown_spans

module _ (pos : ℕ → Cursor) (meet : ℕ → Bool) (whole : Bool) where
  -- the bytes of a piece are passed over
  pub look_skip : (c n k : ℕ) (s : List ℕ) → n ≤ length s → look pos meet whole c n k s ≡ look pos meet whole c 0 (k + n) (drop n s)
  unfolding look
  look_skip c zero k s h = rw add-zero
  look_skip c (suc n) k [] h = absurd (not-suc-le-zero h)
  look_skip c (suc n) k (b ∷ s) h =
      let e : suc k + n ≡ k + suc n = omega arith in
      look_skip c n (suc k) s (le_of_suc-le-suc h) ∙ rw e

  -- what is seen at the front, where nothing meets, behind c comments, by the item there
  unfoldable pub look_by : Item → (c k : ℕ) → List ℕ → Seen
  look_by (known blank) c k s = look pos meet whole c 0 (k + 1) (drop 1 s)
  look_by (known (comment n d)) c k s = look pos meet whole (c + 1) 0 (k + n) (drop n s)
  look_by (known (row kind n bits d)) c k s = sees (row_at (pos k) c kind (k + n) bits) (look pos meet whole 0 0 (k + n) (drop n s))
  look_by (known (refused why p d)) c k s = over' (Some (halt why (pos (k + p))))
  look_by end c k s = sees (eof_row (pos k) c) (over' None)
  look_by unknown c k s = short

  -- behind the first byte n bytes are left of a piece
  behind : (c n k b : ℕ) (s : List ℕ) → suc n ≤ suc (length s) →
      look pos meet whole c n (suc k) s ≡ look pos meet whole c 0 (k + suc n) (drop (suc n) (b ∷ s))
  behind c n k b s h =
      let e : suc k + n ≡ k + suc n = omega arith in
      look_skip c n (suc k) s (le_of_suc-le-suc h) ∙ rw e

  not_end : (b : ℕ) (s : List ℕ) → item whole (b ∷ s) ≡ end → ⊥
  unfolding item
  not_end b s = pick (whole || ltb (decided_at (piece (b ∷ s))) (length (b ∷ s)))
    where
      pick : (q : Bool) → cond q (known (piece (b ∷ s))) unknown ≡ end → ⊥
      pick true e = let z : ◌≡◌ {A = ℕ} 0 1 = cc in omega arith
      pick false e = let z : ◌≡◌ {A = ℕ} 0 1 = cc in omega arith

  look_piece : (b : ℕ) (s : List ℕ) (c k : ℕ) (x : Item) → (meet k && not (opens (b ∷ s))) ≡ false → item whole (b ∷ s) ≡ x →
      Spans 1 0 (suc (length s)) x →
      look pos meet whole c 0 k (b ∷ s) ≡ look_by x c k (b ∷ s)
  unfolding look look_by
  look_piece b s c k x e f (blank_spans r) = rw (e, look) (rw f (rw add-one))
  look_piece b s c k x e f (comment_spans zero d r) = absurd (not-suc-le-zero r.long)
  look_piece b s c k x e f (comment_spans (suc n) d r) = rw (e, look) (rw f (rw (add-one c) (behind (suc c) n k b s r.inside)))
  look_piece b s c k x e f (row_spans kind zero bits d r) = absurd (not-suc-le-zero r.long)
  look_piece b s c k x e f (row_spans kind (suc n) bits d r) =
      rw (e, look) (rw f (ap (sees (row_at (pos k) c kind (k + suc n) bits)) (behind 0 n k b s r.inside)))
  look_piece b s c k x e f (refused_spans why q d p l m) = rw (e, look) (rw f)
  look_piece b s c k x e f end_spans = absurd (not_end b s f)
  look_piece b s c k x e f unknown_spans = rw (e, look) (rw f)

  look_none : (c k : ℕ) → look pos meet whole c 0 k [] ≡ look_by (item whole []) c k []
  unfolding look look_by item
  look_none c k = pick whole
    where
      pick : (q : Bool) → cond q (sees (eof_row (pos k) c) (over' None)) short ≡ look_by (cond q end unknown) c k []
      pick true = refl
      pick false = refl

  -- the walk stops at offset k, before the bytes s
  abbrev pub stops_before : ℕ → List ℕ → Bool
  stops_before k s = ltb 0 (length s) && (meet k && not (opens s))

  pub look_met : (s : List ℕ) (c k : ℕ) → stops_before k s ≡ true → look pos meet whole c 0 k s ≡ met k c
  unfolding look
  look_met [] c k e = absurd (let z : ◌≡◌ {A = ℕ} 0 1 = cc in omega arith)
  look_met (b ∷ s) c k e =
      let f : (meet k && not (opens (b ∷ s))) ≡ true = rw (lt-ltb 0 (suc (length s)) (omega arith)) at e in
      rw (f, look)

  pub look_by_lem : (s : List ℕ) (c k : ℕ) → stops_before k s ≡ false → look pos meet whole c 0 k s ≡ look_by (item whole s) c k s
  look_by_lem [] c k e = look_none c k
  look_by_lem (b ∷ s) c k e =
      let f : (meet k && not (opens (b ∷ s))) ≡ false = rw (lt-ltb 0 (suc (length s)) (omega arith)) at e in
      look_piece b s c k (item whole (b ∷ s)) f refl (front_spans whole b s)

  -- ---- nothing meets at a blank

  blank_item : (b : ℕ) (s : List ℕ) → is_blank b ≡ true → item whole (b ∷ s) ≡ known blank
  unfolding item piece beginning decided_at
  blank_item b s e = rw (e, lt-ltb 0 (suc (length s)) (omega arith)) (pick whole)
    where
      pick : (q : Bool) → cond (q || true) (known blank) unknown ≡ known blank
      pick true = refl
      pick false = refl

  pub look_blanks : (c n k : ℕ) (s : List ℕ) → n ≤ front is_blank s →
      look pos meet whole c 0 k s ≡ look pos meet whole c 0 (k + n) (drop n s)
  unfolding look front opens
  look_blanks c zero k s h = rw add-zero
  look_blanks c (suc n) k [] h = absurd (not-suc-le-zero h)
  look_blanks c (suc n) k (b ∷ s) h = pick (is_blank b) refl (look_blanks c n (suc k) s)
    where
      and_false : (p : Bool) → (p && false) ≡ false
      and_false true = refl
      and_false false = refl

      pick : (q : Bool) → is_blank b ≡ q →
          (n ≤ front is_blank s → look pos meet whole c 0 (suc k) s ≡ look pos meet whole c 0 (suc k + n) (drop n s)) →
          look pos meet whole c 0 k (b ∷ s) ≡ look pos meet whole c 0 (k + suc n) (drop n s)
      pick true e r =
          let m : suc k + n ≡ k + suc n = omega arith in
          rw (look, e, and_false (meet k), blank_item b s e) (r (le_of_suc-le-suc (rw (front, e) at h)) ∙ rw m)
      pick false e r = absurd (not-suc-le-zero (rw (front, e) at h))
