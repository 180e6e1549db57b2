-- Laws of lists of rows: a test of every row, of each row and the next, of the gaps, and of the last row, said for each number of a row.
use Rattle.std.proofs.Common.{◌≡◌, ℕ, zero, suc, ◌<◌, Bool, true, false, not, eqb, List, [], ◌∷◌, length, get_or, refl, ap, le_of_suc-le-suc, not-suc-le-zero, arith, eq-eqb, eqb-true}
use borrow.Author.Tests.{not-true}
use Rattle.rules.specs.declared.Cursor.{Cursor}
use Rattle.rules.specs.Rows.{Row, every, chained, gap_fits, gaps_fit, last_row, ends_behind, is_eof, eof_last}
use Rattle.laws.proofs.Tests.{both_true, true_both}
use Rattle.rows.specs.Shape.{behind}

-- ---- every row

pub every_at : (p : Row → Bool) (d : Row) (rs : List Row) → every p rs ≡ true → (i : ℕ) → i < length rs → p (get_or rs i d) ≡ true
unfolding every
every_at p d [] e i h = absurd (not-suc-le-zero h)
every_at p d (r ∷ rs) e zero h = (both_true (p r) (every p rs) e).0
every_at p d (r ∷ rs) e (suc i) h = every_at p d rs (both_true (p r) (every p rs) e).1 i (le_of_suc-le-suc h)

pub every_by : (p : Row → Bool) (d : Row) (rs : List Row) → ((i : ℕ) → i < length rs → p (get_or rs i d) ≡ true) → every p rs ≡ true
unfolding every
every_by p d [] f = refl
every_by p d (r ∷ rs) f =
    true_both (f 0 (omega arith)) (every_by p d rs (λ i h. f (suc i) (omega arith)))

-- ---- each row and the next

pub chained_at : (p : Row → Row → Bool) (d : Row) (rs : List Row) → chained p rs ≡ true → (i : ℕ) → suc i < length rs → p (get_or rs i d) (get_or rs (suc i) d) ≡ true
unfolding chained
chained_at p d [] e i h = absurd (not-suc-le-zero h)
chained_at p d (r ∷ []) e i h = absurd (not-suc-le-zero (le_of_suc-le-suc h))
chained_at p d (r ∷ q ∷ rs) e zero h = (both_true (p r q) (chained p (q ∷ rs)) e).0
chained_at p d (r ∷ q ∷ rs) e (suc i) h = chained_at p d (q ∷ rs) (both_true (p r q) (chained p (q ∷ rs)) e).1 i (le_of_suc-le-suc h)

pub chained_by : (p : Row → Row → Bool) (d : Row) (rs : List Row) → ((i : ℕ) → suc i < length rs → p (get_or rs i d) (get_or rs (suc i) d) ≡ true) → chained p rs ≡ true
unfolding chained
chained_by p d [] f = refl
chained_by p d (r ∷ []) f = refl
chained_by p d (r ∷ q ∷ rs) f =
    true_both (f 0 (omega arith)) (chained_by p d (q ∷ rs) (λ i h. f (suc i) (omega arith)))

-- ---- the gap before each row

-- the first gap starts at e, any other where the row before it ends
module _ (d : Row) where
  pub gap_first : (e : ℕ) (rs : List Row) → gaps_fit e rs ≡ true → 0 < length rs → gap_fits e (get_or rs 0 d) ≡ true
  unfolding gaps_fit
  gap_first e [] g h = absurd (not-suc-le-zero h)
  gap_first e (r ∷ rs) g h = (both_true (gap_fits e r) (gaps_fit r.end rs) g).0

  pub gaps_chain : (e : ℕ) (rs : List Row) → gaps_fit e rs ≡ true → chained (λ r q. gap_fits r.end q) rs ≡ true
  unfolding gaps_fit chained
  gaps_chain e [] g = refl
  gaps_chain e (r ∷ []) g = refl
  gaps_chain e (r ∷ q ∷ rs) g =
      let b = (both_true (gap_fits e r) (gaps_fit r.end (q ∷ rs)) g).1 in
      true_both (both_true (gap_fits r.end q) (gaps_fit q.end rs) b).0 (gaps_chain r.end (q ∷ rs) b)

  pub gaps_by : (e : ℕ) (rs : List Row) → (0 < length rs → gap_fits e (get_or rs 0 d) ≡ true) →
      chained (λ r q. gap_fits r.end q) rs ≡ true → gaps_fit e rs ≡ true
  unfolding gaps_fit chained
  gaps_by e [] f c = refl
  gaps_by e (r ∷ []) f c = true_both (f (omega arith)) refl
  gaps_by e (r ∷ q ∷ rs) f c =
      let b = both_true (gap_fits r.end q) (chained (λ x y. gap_fits x.end y) (q ∷ rs)) c in
      true_both (f (omega arith)) (gaps_by r.end (q ∷ rs) (λ h. b.0) b.1)

-- ---- the last row

-- Eof is the last row, at n, and no other row
pub record Closed (n : ℕ) (d : Row) (rs : List Row) : Type 0 where
  pub some : 0 < length rs
  pub middle : (i : ℕ) → suc i < length rs → is_eof (get_or rs i d) ≡ false
  pub last : (i : ℕ) → suc i ≡ length rs → is_eof (get_or rs i d) ≡ true
  pub start : (i : ℕ) → suc i ≡ length rs → (get_or rs i d).start ≡ n

not_self : {i : ℕ} → suc (suc i) ≡ 1 → ⊥
not_self e = omega arith

pub closed : (n : ℕ) (d : Row) (rs : List Row) → eof_last n rs ≡ true → Closed n d rs
unfolding eof_last
closed n d [] e = absurd (let z : ◌≡◌ {A = ℕ} 0 1 = cc in omega arith)
closed n d (r ∷ []) e =
    let b = both_true (is_eof r) (eqb r.start n) e in
    record {
      some = omega arith;
      middle = λ i h. absurd (not-suc-le-zero (le_of_suc-le-suc h));
      last = elim [ zero ↦ λ h. b.0 | suc i ↦ λ h. absurd (not_self h) ];
      start = elim [ zero ↦ λ h. eqb-true r.start n b.1 | suc i ↦ λ h. absurd (not_self h) ];
    }
closed n d (r ∷ q ∷ rs) e =
    let b = both_true (not (is_eof r)) (eof_last n (q ∷ rs)) e in
    let c = closed n d (q ∷ rs) b.1 in
    record {
      some = omega arith;
      middle = elim [ zero ↦ λ h. not-true (is_eof r) b.0 | suc i ↦ λ h. c.middle i (omega arith) ];
      last = elim [ zero ↦ λ h. absurd (omega arith) | suc i ↦ λ h. c.last i (omega arith) ];
      start = elim [ zero ↦ λ h. absurd (omega arith) | suc i ↦ λ h. c.start i (omega arith) ];
    }

pub closes : (n : ℕ) (d : Row) (rs : List Row) → Closed n d rs → eof_last n rs ≡ true
unfolding eof_last
closes n d [] c = absurd (not-suc-le-zero c.some)
closes n d (r ∷ []) c =
    true_both (c.last 0 refl) (eq-eqb r.start n (c.start 0 refl))
closes n d (r ∷ q ∷ rs) c =
    true_both (ap not (c.middle 0 (omega arith)))
    (closes n d (q ∷ rs) (record {
      some = omega arith;
      middle = λ i h. c.middle (suc i) (omega arith);
      last = λ i h. c.last (suc i) (omega arith);
      start = λ i h. c.start (suc i) (omega arith);
    }))

module _ (p : Cursor) (d : Row) where
  pub behind_at : (rs : List Row) → ends_behind (last_row rs) p ≡ true → (i : ℕ) → suc i ≡ length rs → behind (get_or rs i d) p ≡ true
  unfolding last_row ends_behind behind
  behind_at [] e i h = absurd (omega arith)
  behind_at (r ∷ []) e zero h = e
  behind_at (r ∷ []) e (suc i) h = absurd (not_self h)
  behind_at (r ∷ q ∷ rs) e zero h = absurd (omega arith)
  behind_at (r ∷ q ∷ rs) e (suc i) h = behind_at (q ∷ rs) e i (omega arith)

  pub behind_by : (rs : List Row) → ((i : ℕ) → suc i ≡ length rs → behind (get_or rs i d) p ≡ true) → ends_behind (last_row rs) p ≡ true
  unfolding last_row ends_behind behind
  behind_by [] f = refl
  behind_by (r ∷ []) f = f 0 refl
  behind_by (r ∷ q ∷ rs) f = behind_by (q ∷ rs) (λ i h. f (suc i) (omega arith))
