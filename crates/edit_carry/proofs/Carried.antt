-- Moved places, endings and rows, and the loop that writes moved rows.
use mathlib.Core.Path.{◌≡◌, refl, sym, ap, ◌∙◌}
use mathlib.Core.Bool.{cond}
use mathlib.Core.List.{List, [], ◌∷◌, ◌++◌, map, append_assoc, append-nil, map-append}
use Prim.Native.Nat.{ℕ, zero, suc, ◌+◌, ◌-◌, ◌*◌, ◌≤◌, ◌<◌}
use native.Mathlib.Numerals.{add-one}
use native.Mathlib.Omega.{arith}
use lib.ListN.{length, take, drop, length-append, length-drop, length-map}
use lib.Seq.{drop-drop, take_at, drop_at}
use lib.Dec.{eqb}
use borrow.Author.Tests.{eq-eqb, ne_eqb}
use borrow.Rule.Slice.PartMut.{put_mid}
use Rattle.rules.specs.declared.Cursor.{Cursor}
use Rattle.rules.specs.declared.Lexical.{Lexical}
use Rattle.rules.specs.Outcomes.{halt}
use Rattle.std.specs.declared.option.Option.TheVariants.{Some}
use Rattle.rules.specs.Text.{place}
use Rattle.rules.specs.Rows.{Row, rows_in, row_words, words_of}
use Rattle.rules.specs.Edit.{carry, carry_row, with_comments, recounted}
use Rattle.rows.specs.Shape.{row_no}
use Rattle.laws.proofs.Lists.{lent_tail, back_tail}
use Rattle.laws.proofs.Rows.{rows_length, rows_snoc, words_length, words_append}
use Rattle.edit_carry.specs.Moves.{MovesPlace, MovesEnding, refused}

-- ---- a moved place

module _ (o p q : Cursor) where
  pub carry_on : q.line.0 ≡ o.line.0 →
      place (q.offset.0 + p.offset.0 - o.offset.0) (q.line.0 + p.line.0 - o.line.0) (q.column.0 + p.column.0 - o.column.0) ≡ carry o p q
  unfolding carry
  carry_on e = rw (eq-eqb q.line.0 o.line.0 e)

  pub carry_off : (q.line.0 ≡ o.line.0 → ⊥) →
      place (q.offset.0 + p.offset.0 - o.offset.0) (q.line.0 + p.line.0 - o.line.0) q.column.0 ≡ carry o p q
  unfolding carry
  carry_off e = rw (ne_eqb q.line.0 o.line.0 e)

pub refused_moves : {o p q : Cursor} {why : Lexical} → MovesEnding o p (Some (halt why q)) → MovesPlace o p q
refused_moves (refused m) = m

-- ---- the loop over rows

-- row i of them, changed by f: the first has the new count, any other its own
abbrev pub recounted_at : ℕ → (Row → Row) → List ℕ → ℕ → Row
recounted_at c f ws i = with_comments (cond (eqb i 0) c (f (row_no ws i)).comments) (f (row_no ws i))

-- row i, read as r and moved, with a count k that is told by its number
module _ (c : ℕ) (o p : Cursor) (ws : List ℕ) (i : ℕ) (r : Row) (e : r ≡ row_no ws i) where
  pub recounted_row : (k : ℕ) → (i ≡ 0 → k ≡ c) → (0 < i → k ≡ r.comments) →
      with_comments k (carry_row o p r) ≡ recounted_at c (carry_row o p) ws i
  unfolding carry_row
  recounted_row k f g =
      ap (λ (z : ℕ). with_comments z (carry_row o p r)) (told i f g)
      ∙ ap (λ (z : Row). with_comments (cond (eqb i 0) c z.comments) (carry_row o p z)) e
    where
      told : (j : ℕ) → (j ≡ 0 → k ≡ c) → (0 < j → k ≡ r.comments) → k ≡ cond (eqb j 0) c r.comments
      told zero f g = f refl
      told (suc j) f g = rw (ne_eqb (suc j) 0 (λ z. omega arith)) (g (omega arith))

-- one row more behind recounted ones
recounted_snoc : (c : ℕ) (rs : List Row) (q : Row) →
    recounted c (rs ++ (q ∷ [])) ≡ recounted c rs ++ (with_comments (cond (eqb (length rs) 0) c q.comments) q ∷ [])
unfolding recounted with_comments
recounted_snoc c [] q = refl
recounted_snoc c (r ∷ rs) q = rw (ne_eqb (suc (length rs)) 0 (λ e. omega arith))

-- a new count for the first row leaves how many there are
pub recounted_length : (c : ℕ) (rs : List Row) → length (recounted c rs) ≡ length rs
unfolding recounted
recounted_length c [] = refl
recounted_length c (r ∷ rs) = refl

-- the first rows of ws, each changed by f and the first with the count c, stand before what was there
unfoldable pub carried : ℕ → (Row → Row) → List ℕ → ℕ → List ℕ → List ℕ
carried c f ws i new = words_of (recounted c (map f (rows_in i ws))) ++ drop (8 * i) new

module _ (c : ℕ) (f : Row → Row) (ws new : List ℕ) (i : ℕ) where
  mapped_length : length (map f (rows_in i ws)) ≡ i
  mapped_length = length-map (rows_in i ws) f ∙ rows_length i ws

  carried_words : length (words_of (recounted c (map f (rows_in i ws)))) ≡ 8 * i
  carried_words =
      words_length (recounted c (map f (rows_in i ws)))
      ∙ ap (λ (k : ℕ). 8 * k) (recounted_length c (map f (rows_in i ws)) ∙ mapped_length)

  pub carried_length : 8 * i ≤ length new → length (carried c f ws i new) ≡ length new
  unfolding carried
  carried_length h =
      length-append (words_of (recounted c (map f (rows_in i ws)))) (drop (8 * i) new)
      ∙ omega (arith, carried_words, length-drop (8 * i) new)

  -- one row more
  pub carried_more : 8 * (i + 1) ≤ length new →
      take (8 * i) (carried c f ws i new) ++ (row_words (recounted_at c f ws i) ++ drop 8 (drop (8 * i) (carried c f ws i new)))
      ≡ carried c f ws (i + 1) new
  unfolding carried words_of
  carried_more h =
      let w = words_of (recounted c (map f (rows_in i ws))) in
      let e : 8 * i + 8 ≡ 8 * (i + 1) = omega arith in
      rw (take_at w (drop (8 * i) new) (8 * i) carried_words, drop_at w (drop (8 * i) new) (8 * i) carried_words, drop-drop, e)
      (sym (ap (λ (z : List Row). words_of (recounted c (map f z)) ++ drop (8 * (i + 1)) new)
      (ap (λ (k : ℕ). rows_in k ws) (add-one i) ∙ rows_snoc i ws)
      ∙ rw (map-append f (rows_in i ws) (row_no ws i ∷ []), recounted_snoc c (map f (rows_in i ws)) (f (row_no ws i)), mapped_length)
      (rw (words_append, append_assoc, append-nil))))

pub carried_none : (c : ℕ) (f : Row → Row) (ws new : List ℕ) → carried c f ws 0 new ≡ new
unfolding carried recounted rows_in words_of
carried_none c f ws new = refl

-- a turn: the tail from row i on was lent, and came back as ys with a row's words in front
module _ (c : ℕ) (f : Row → Row) (ws new : List ℕ) (i : ℕ) where
  pub carried_step : 8 * (i + 1) ≤ length new → (xs ys : List ℕ) → xs ≡ carried c f ws i new →
      ys ≡ row_words (recounted_at c f ws i) ++ drop 8 (take (length xs - i * 8) (drop (i * 8) xs)) →
      put_mid (i * 8) (length xs - i * 8) xs ys ≡ carried c f ws (i + 1) new
  carried_step h xs ys e q =
      let l : i * 8 ≤ length xs = omega (arith, ap length e, carried_length c f ws new i (omega arith)) in
      let m : i * 8 ≡ 8 * i = omega arith in
      back_tail xs (i * 8) l ys ∙ ap (λ (z : List ℕ). take (i * 8) xs ++ z) q
      ∙ rw (lent_tail xs (i * 8) l, m, e) (carried_more c f ws new i h)
