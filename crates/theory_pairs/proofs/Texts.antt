-- Two edits of one text, told by texts: either order makes the same text if they are apart, and it is valid if the texts in
-- between are; in a row they make what any edit that covers both makes. The theorems are `same_text`, `byte_between`,
-- `covered` and `covering_covers`.
use Prim.Native.Nat.{ℕ, ◌+◌, ◌-◌, ◌≤◌, ◌<◌, min, max}
use native.Mathlib.Omega.{arith}
use mathlib.Core.Bool.{Bool, true, false, cond, ◌||◌}
use mathlib.Core.List.{List, ◌++◌, append_assoc}
use mathlib.Core.Path.{◌≡◌, refl, ap, sym, ◌∙◌}
use lib.Dec.{leb, ltb}
use lib.ListN.{length, take, drop, length-append, length-drop, take-append-drop}
use lib.Seq.{length-take-le, take-take, take-add, drop-drop, take-append-le, drop-append-add, take_at, drop_at}
use borrow.Author.Tests.{ltb-true, ltb-false, le-ltb, leb-true, leb-false}
use Rattle.rules.specs.Text.{valid}
use Rattle.laws.proofs.Tests.{either}
use Rattle.rules_pairs.specs.Pairs.{Edit, Lies, after, gone, put, before, apart, Pair, shift, adjusted, both}
use Rattle.rules_pairs.specs.Pairs.{in_turn, cover_from, cover_to, cover_size, covering, Covers}
use Rattle.theory_pairs.proofs.Tails.{ends_change}

-- ---- the text after an edit: its beginning, its end and its length are the old text's

module _ {t : List ℕ} {e : Edit} (h : Lies e t) where
  lead_long : length (take e.from t) ≡ e.from
  lead_long = length-take-le e.from t (omega (arith, h.order, h.inside))

  pub after_front : (k : ℕ) → k ≤ e.from → take k (after t e) ≡ take k t
  after_front k l =
      take-append-le k (take e.from t) (e.bytes ++ drop e.to t) (omega (arith, lead_long)) ∙ take-take k e.from t l

  pub after_back : (k : ℕ) → e.to ≤ k → drop (shift e k) (after t e) ≡ drop k t
  unfolding shift
  after_back k l =
      let i : k + put e - gone e ≡ length (take e.from t) + (put e + (k - e.to)) = omega (arith, lead_long, h.order) in
      let j : e.to + (k - e.to) ≡ k = omega arith in
      ap (λ (n : ℕ). drop n (after t e)) i
      ∙ drop-append-add (take e.from t) (e.bytes ++ drop e.to t) (put e + (k - e.to))
      ∙ drop-append-add e.bytes (drop e.to t) (k - e.to)
      ∙ drop-drop (k - e.to) e.to t ∙ ap (λ (n : ℕ). drop n t) j

  pub after_long : length (after t e) + gone e ≡ length t + put e
  after_long =
      let l : length (after t e) ≡ length (take e.from t) + (put e + length (drop e.to t)) = simp length-append in
      omega (arith, lead_long, length-drop e.to t, h.order, h.inside)

-- ---- two that do not overlap: the old bytes between them stand in every text

module _ {t : List ℕ} {e f : Edit} (h : Lies e t) (k : Lies f t) (l : e.to ≤ f.from) where
  -- what stands in front of them, behind them and between
  abbrev lead : List ℕ
  lead = take e.from t ++ e.bytes

  abbrev tail : List ℕ
  tail = f.bytes ++ drop f.to t

  abbrev mid : List ℕ
  mid = take (f.from - e.to) (drop e.to t)

  -- f after e
  abbrev next : Edit
  next = record { from = shift e f.from; to = shift e f.to; bytes = f.bytes }

  span : e.to + (f.from - e.to) ≡ f.from
  span = omega arith

  mid_long : length mid ≡ f.from - e.to
  mid_long = length-take-le (f.from - e.to) (drop e.to t) (omega (arith, length-drop e.to t, k.order, k.inside))

  behind : drop e.to t ≡ mid ++ drop f.from t
  behind =
      sym (take-append-drop (f.from - e.to) (drop e.to t))
      ∙ ap (λ (s : List ℕ). mid ++ s) (drop-drop (f.from - e.to) e.to t ∙ ap (λ (n : ℕ). drop n t) span)

  in_front : take f.from t ≡ take e.to t ++ mid
  in_front = ap (λ (n : ℕ). take n t) (sym span) ∙ take-add e.to (f.from - e.to) t

  old_is : t ≡ take e.to t ++ (mid ++ drop f.from t)
  old_is = sym (take-append-drop e.to t) ∙ ap (λ (s : List ℕ). take e.to t ++ s) behind

  first_is : after t e ≡ lead ++ (mid ++ drop f.from t)
  first_is =
      ap (λ (s : List ℕ). take e.from t ++ (e.bytes ++ s)) behind
      ∙ sym (append_assoc (take e.from t) e.bytes (mid ++ drop f.from t))

  second_is : after t f ≡ take e.to t ++ (mid ++ tail)
  second_is = ap (λ (s : List ℕ). s ++ tail) in_front ∙ append_assoc (take e.to t) mid tail

  -- e and then f, f and then e
  forth : after (after t e) next ≡ lead ++ (mid ++ tail)
  unfolding shift
  forth =
      let n : length (lead ++ mid) ≡ shift e f.from
      = length-append lead mid ∙ (
      let i : length lead ≡ length (take e.from t) + put e = length-append (take e.from t) e.bytes in
      omega (arith, lead_long h, mid_long, h.order)
      ) in
      let i : take (shift e f.from) (after t e) ≡ lead ++ mid
      = ap (take (shift e f.from)) (first_is ∙ sym (append_assoc lead mid (drop f.from t)))
      ∙ take_at (lead ++ mid) (drop f.from t) (shift e f.from) n in
      let j : drop (shift e f.to) (after t e) ≡ drop f.to t = after_back h f.to (omega (arith, k.order)) in
      rw (i, j) (append_assoc lead mid tail)

  back : after (after t f) e ≡ lead ++ (mid ++ tail)
  back =
      let m : length (take e.to t) ≡ e.to = length-take-le e.to t h.inside in
      let i : take e.from (after t f) ≡ take e.from t = after_front k e.from (omega (arith, h.order)) in
      let j : drop e.to (after t f) ≡ mid ++ tail = ap (drop e.to) second_is ∙ drop_at (take e.to t) (mid ++ tail) e.to m in
      rw (i, j) (sym (append_assoc (take e.from t) e.bytes (mid ++ tail)))

  both_valid : e.to < f.from → valid t ≡ true → valid (after t e) ≡ true → valid (after t f) ≡ true → valid (lead ++ (mid ++ tail)) ≡ true
  both_valid g a b c =
      ends_change (take e.to t) lead mid (drop f.from t) tail (omega (arith, mid_long))
      (rw old_is at a) (rw first_is at b) (rw second_is at c)

-- ---- either order

module _ (e f : Edit) where
  is_before : before e f ≡ true → e.to < f.from
  unfolding before
  is_before h = ltb-true e.to f.from h

  -- f after e, where e lies before it; and e after f, which stays where it is
  adjusted_on : before e f ≡ true → adjusted e f ≡ record { from = shift e f.from; to = shift e f.to; bytes = f.bytes }
  unfolding adjusted
  adjusted_on h = rw h

  adjusted_off : before f e ≡ true → e.from ≤ e.to → f.from ≤ f.to → adjusted e f ≡ f
  unfolding adjusted before
  adjusted_off h k l = let i : f.to < e.from = ltb-true f.to e.from h in rw (le-ltb e.to f.from (omega arith))

module _ {t : List ℕ} {e f : Edit} (h : Lies e t) (k : Lies f t) (b : before e f ≡ true) where
  l : e.to ≤ f.from
  l = let i : e.to < f.from = is_before e f b in omega arith

  both_forth : both t e f ≡ lead h k l ++ (mid h k l ++ tail h k l)
  both_forth = ap (after (after t e)) (adjusted_on e f b) ∙ forth h k l

  both_back : both t f e ≡ lead h k l ++ (mid h k l ++ tail h k l)
  both_back = ap (after (after t f)) (adjusted_off f e b k.order h.order) ∙ back h k l

  ordered_same : both t e f ≡ both t f e
  ordered_same = both_forth ∙ sym both_back

  ordered_valid : valid t ≡ true → valid (after t e) ≡ true → valid (after t f) ≡ true → valid (both t e f) ≡ true
  ordered_valid u v w = rw both_forth (both_valid h k l (is_before e f b) u v w)

module _ {t : List ℕ} {e f : Edit} (p : Pair t e f) where
  by_side : {C : Type 0} → (before e f ≡ true → C) → (before f e ≡ true → C) → C
  unfolding apart
  by_side g h = either (before e f) (before f e) p.between g h

  -- Either order makes the same text.
  pub same_text : both t e f ≡ both t f e
  same_text = by_side (ordered_same p.one p.other) (λ b. sym (ordered_same p.other p.one b))

  -- If the old text is valid, and the text after either edit alone, then so is the text after both.
  pub byte_between : valid t ≡ true → valid (after t e) ≡ true → valid (after t f) ≡ true → valid (both t e f) ≡ true
  byte_between u v w =
      by_side (λ b. ordered_valid p.one p.other b u v w) (λ b. rw same_text (ordered_valid p.other p.one b u w v))

  -- The other edit, with its places adjusted, lies in the text after the one.
  pub adjusted_lies : Lies (adjusted e f) (after t e)
  unfolding shift
  adjusted_lies = by_side on off
    where
      on : before e f ≡ true → Lies (adjusted e f) (after t e)
      on b =
          let i : e.to < f.from = is_before e f b in
          rw (adjusted_on e f b) (
          record {
            order = omega (arith, p.one.order, p.other.order);
            inside = omega (arith, p.one.order, p.other.order, p.other.inside, after_long p.one);
          }
          )

      off : before f e ≡ true → Lies (adjusted e f) (after t e)
      off b =
          let i : f.to < e.from = is_before f e b in
          rw (adjusted_off e f b p.one.order p.other.order) (
          record { order = p.other.order; inside = omega (arith, p.one.order, p.one.inside, after_long p.one) }
          )

-- the same two, the other one first
pub turned : {t : List ℕ} {e f : Edit} → Pair t e f → Pair t f e
unfolding apart
turned {t} {e} {f} p = record { one = p.other; other = p.one; between = swap (before e f) (before f e) p.between }
  where
    swap : (x y : Bool) → (x || y) ≡ true → (y || x) ≡ true
    swap true true h = refl
    swap true false h = refl
    swap false y h = rw h

-- ---- in a row

cover_to_lem : (e f : Edit) (q : Bool) → leb f.to (e.from + put e) ≡ q → cover_to e f ≡ cond q e.to (f.to - put e + gone e)
unfolding cover_to
cover_to_lem e f q h = rw h

shift_is : (e : Edit) (k : ℕ) → e.from ≤ e.to → e.to ≤ k → shift e k + gone e ≡ k + put e
unfolding shift
shift_is e k h m = omega arith

sums : (a from size k to last mid gone_e gone_f put_e put_f behind : ℕ) → a ≤ from → to ≤ k → from + size + gone_f ≡ behind + put_f
    → to + put_e ≡ behind + gone_e → mid + gone_e ≡ k + put_e → last + gone_f ≡ mid + put_f → a + (from - a + size + (k - to)) ≡ last
sums a from size k to last mid gone_e gone_f put_e put_f behind h m u v w x = omega arith

-- where the covering edit ends: behind both, and so does any place behind it
record Ends (e f : Edit) (k : ℕ) : Type 0 where
  first : e.to ≤ k
  second : f.to ≤ shift e k

module _ {t : List ℕ} {e f : Edit} (h : Lies e t) (i : Lies f (after t e)) where
  ends : (k : ℕ) → cover_to e f ≤ k → Ends e f k
  unfolding shift
  ends k l = by (leb f.to (e.from + put e)) refl
    where
      by : (q : Bool) → leb f.to (e.from + put e) ≡ q → Ends e f k
      by true b =
          let m : f.to ≤ e.from + put e = leb-true _ _ b in
          let c : cover_to e f ≡ e.to = cover_to_lem e f true b in
          record { first = omega arith; second = omega (arith, h.order) }
      by false b =
          let m : e.from + put e < f.to = leb-false _ _ b in
          let c : cover_to e f ≡ f.to - put e + gone e = cover_to_lem e f false b in
          record { first = omega (arith, h.order); second = omega (arith, h.order) }

  -- it lies in the text
  to_inside : cover_to e f ≤ length t
  to_inside = by (leb f.to (e.from + put e)) refl
    where
      by : (q : Bool) → leb f.to (e.from + put e) ≡ q → cover_to e f ≤ length t
      by true b = let c : cover_to e f ≡ e.to = cover_to_lem e f true b in omega (arith, h.inside)
      by false b =
          let m : e.from + put e < f.to = leb-false _ _ b in
          let c : cover_to e f ≡ f.to - put e + gone e = cover_to_lem e f false b in
          omega (arith, h.order, i.inside, after_long h)

  -- the place behind both in the text after the first, by where the covering edit ends
  end_is : cover_to e f + put e ≡ max (e.from + put e) f.to + gone e
  end_is = by (leb f.to (e.from + put e)) refl
    where
      by : (q : Bool) → leb f.to (e.from + put e) ≡ q → cover_to e f + put e ≡ max (e.from + put e) f.to + gone e
      by true b =
          let n : f.to ≤ e.from + put e = leb-true _ _ b in
          let c : cover_to e f ≡ e.to = cover_to_lem e f true b in
          omega (arith, h.order)
      by false b =
          let n : e.from + put e < f.to = leb-false _ _ b in
          let c : cover_to e f ≡ f.to - put e + gone e = cover_to_lem e f false b in
          omega (arith, h.order)

  -- and by how many new bytes it has
  size_is : cover_from e f + cover_size e f + gone f ≡ max (e.from + put e) f.to + put f
  unfolding cover_from cover_size
  size_is = omega (arith, i.order)

  -- the place behind an edit from a to k that covers both, in the last text, by its new bytes and by its end
  span_is : (a k : ℕ) → a ≤ cover_from e f → cover_to e f ≤ k
      → a + (cover_from e f - a + cover_size e f + (k - cover_to e f)) ≡ shift f (shift e k)
  span_is a k m n =
      let z : Ends e f k = ends k n in
      sums a (cover_from e f) (cover_size e f) k (cover_to e f) (shift f (shift e k)) (shift e k) (gone e) (gone f) (put e) (put f)
      (max (e.from + put e) f.to) m n size_is end_is
      (shift_is e k h.order z.first) (shift_is f (shift e k) i.order z.second)

  from_first : cover_from e f ≤ e.from
  unfolding cover_from
  from_first = omega arith

  from_second : cover_from e f ≤ f.from
  unfolding cover_from
  from_second = omega arith

  -- An edit that covers both makes the last text.
  pub covered : (g : Edit) → Covers t e f g → after t g ≡ in_turn t e f
  covered g c =
      let size : ℕ = cover_from e f - g.from + cover_size e f + (g.to - cover_to e f) in
      let z : Ends e f g.to = ends g.to c.late in
      let x : take g.from (in_turn t e f) ≡ take g.from t
      = after_front i g.from (omega (arith, c.early, from_second)) ∙ after_front h g.from (omega (arith, c.early, from_first)) in
      let y : drop size (drop g.from (in_turn t e f)) ≡ drop g.to t
      = drop-drop size g.from (in_turn t e f)
      ∙ ap (λ (n : ℕ). drop n (in_turn t e f)) (span_is g.from g.to c.early c.late)
      ∙ after_back i (shift e g.to) z.second ∙ after_back h g.to z.first in
      rw (c.bytes, ← x, ← y, take-append-drop size (drop g.from (in_turn t e f))) (take-append-drop g.from (in_turn t e f))

  -- The covering edit does, and lies in the text.
  pub covering_covers : Covers t e f (covering t e f)
  unfolding covering
  covering_covers =
      let n : cover_from e f - cover_from e f + cover_size e f + (cover_to e f - cover_to e f) ≡ cover_size e f = omega arith in
      record { early = omega arith; late = omega arith; inside = to_inside; bytes = rw n }

  pub covers_lies : (g : Edit) → Covers t e f g → Lies g t
  covers_lies g c =
      let z : Ends e f g.to = ends g.to c.late in
      record { order = omega (arith, c.early, from_first, h.order, z.first); inside = c.inside }
