-- Laws of a table's tests: each case of what stands at a row, and the test of a table from the tests of its rows and its ending.
use Rattle.std.proofs.Common.{◌≡◌, ℕ, zero, suc, ◌+◌, ◌-◌, ◌*◌, ◌<◌, ◌≤◌, Bool, true, false, cond, not, ◌&&◌, eqb, leb, List, [], length, sym, refl, ◌∙◌, add-one, arith, below_more, eq-eqb, ne_eqb, eqb-true, le-leb, leb-true}
use mathlib.Core.Bool.{and_assoc}
use borrow.Author.Tests.{lt-leb, not-true}
use Rattle.rules.specs.declared.Cursor.{Cursor}
use Rattle.rules.specs.declared.Lexical.{Lexical}
use Rattle.rules.specs.Outcomes.{halt}
use Rattle.std.specs.declared.option.Option.TheVariants.{None, Some}
use Rattle.rules.specs.declared.Table.{Table}
use Rattle.rules.specs.Text.{most_bytes}
use Rattle.rules.specs.Kinds.{Eof}
use Rattle.rules.specs.Rows.{Row, row_in, row_place, row_fits, follows, gap_fits, lines_fit, place_fits, is_eof, well_formed}
use Rattle.laws.specs.Tests.{all_below}
use Rattle.rows.specs.Shape.{row_no, behind, row_before, fits_after, stands_on, joined, stands, closes, breaks}
use Rattle.laws.proofs.Tests.{both_true, true_both, same_bool, below, below_by}
use Rattle.rows.proofs.Inside.{sound, clean, broken, Fine, fine, well, not_well, clean_of, broken_of}

-- ---- a row and the row before it

module _ (ws : List ℕ) (i : ℕ) where
  pub joined_first : i ≡ 0 → joined ws i ≡ gap_fits 0 (row_no ws i)
  unfolding joined
  joined_first e = rw (eq-eqb i 0 e)

  pub joined_next : (i ≡ 0 → ⊥) → joined ws i ≡ fits_after (row_no ws (i - 1)) (row_no ws i)
  unfolding joined
  joined_next e = rw (ne_eqb i 0 e)

join_next : (ws : List ℕ) (i : ℕ) → joined ws (suc i) ≡ fits_after (row_no ws i) (row_no ws (suc i))
join_next ws i = joined_next ws (suc i) (λ e. omega arith) ∙ (let j : suc i - 1 ≡ i = omega arith in rw j)

module _ (ws : List ℕ) (i : ℕ) where
  pub before_first : i ≡ 0 → row_before ws i ≡ row_in []
  unfolding row_before
  before_first e = rw (eq-eqb i 0 e)

  pub before_next : (i ≡ 0 → ⊥) → row_before ws i ≡ row_no ws (i - 1)
  unfolding row_before
  before_next e = rw (ne_eqb i 0 e)

pub before_on : (ws : List ℕ) (i : ℕ) → row_before ws (i + 1) ≡ row_no ws i
before_on ws i = before_next ws (i + 1) (λ e. omega arith) ∙ (let j : i + 1 - 1 ≡ i = omega arith in rw j)

-- a row that fits fits after the row before it just where it is joined to it; the first has a line, so it follows the row of zeros
fits_before : (ws : List ℕ) (i : ℕ) → row_fits (row_no ws i) ≡ true → fits_after (row_before ws i) (row_no ws i) ≡ joined ws i
unfolding row_in follows fits_after lines_fit row_place
fits_before ws zero f = rw (before_first ws 0 refl) (go (sound q f).line_low)
  where
    q : Row
    q = row_no ws 0

    go : 1 ≤ q.line → fits_after (row_in []) q ≡ joined ws 0
    go h = rw (joined_first ws 0 refl, le-leb 0 q.start (omega arith), le-leb 0 q.line (omega arith), ne_eqb 0 q.line (λ z. omega arith))
fits_before ws (suc i) f = rw (← add-one i, before_on ws i) (rw add-one (sym (join_next ws i)))

both_same : (b c d : Bool) → (b ≡ true → c ≡ d) → (b && c) ≡ (b && d)
both_same false c d f = refl
both_same true c d f = f refl

-- the facts of a row that stands
record Stands (ws : List ℕ) (i : ℕ) : Type 0 where
  plain : is_eof (row_no ws i) ≡ false
  fit : row_fits (row_no ws i) ≡ true
  join : joined ws i ≡ true

stands_of : (ws : List ℕ) (i : ℕ) → stands ws i ≡ true → Stands ws i
unfolding stands
stands_of ws i e =
    let a = both_true (not (is_eof (row_no ws i)) && row_fits (row_no ws i)) (joined ws i) e in
    let b = both_true (not (is_eof (row_no ws i))) (row_fits (row_no ws i)) a.0 in
    record { plain = not-true (is_eof (row_no ws i)) b.0; fit = b.1; join = a.1 }

of_stands : (ws : List ℕ) (i : ℕ) → Stands ws i → stands ws i ≡ true
unfolding stands
of_stands ws i s = rw (s.plain, s.fit, s.join)

-- row i, read as q
module _ (ws : List ℕ) (i : ℕ) (q : Row) (e : q ≡ row_no ws i) where
  fits_joined : (row_fits q && fits_after (row_before ws i) q) ≡ (row_fits q && joined ws i)
  fits_joined =
      rw e (both_same (row_fits (row_no ws i)) (fits_after (row_before ws i) (row_no ws i)) (joined ws i) (fits_before ws i))

  -- it stands just where it stands on the row before it
  pub stands_next : (last : Row) → last ≡ row_before ws i → stands_on last q ≡ stands ws i
  unfolding stands stands_on
  stands_next last f = rw (f, fits_joined) (rw e (sym (and_assoc (not (is_eof (row_no ws i))) (row_fits (row_no ws i)) (joined ws i))))

  module _ (n : ℕ) where
    pub closes_plain : (q.kind ≡ Eof → ⊥) → closes ws n i ≡ false
    unfolding closes is_eof
    closes_plain k = rw (← e, ne_eqb q.kind Eof k)

    pub closes_apart : q.kind ≡ Eof → (q.start ≡ n → ⊥) → closes ws n i ≡ false
    unfolding closes is_eof
    closes_apart k s = rw (← e, eq-eqb q.kind Eof k, ne_eqb q.start n s)

    pub closes_fit : q.kind ≡ Eof → q.start ≡ n → (row_fits q && fits_after (row_before ws i) q) ≡ closes ws n i
    unfolding closes is_eof
    closes_fit k s = fits_joined ∙ rw (← e, eq-eqb q.kind Eof k, eq-eqb q.start n s)

-- ---- a place behind the rows

module _ (ws : List ℕ) (n count : ℕ) (p : Cursor) where
  pub breaks_over : n < p.offset.0 → breaks ws n count p ≡ false
  unfolding breaks
  breaks_over h = rw (lt-leb p.offset.0 n h)

  pub breaks_not : p.offset.0 ≤ n → place_fits p ≡ false → breaks ws n count p ≡ false
  unfolding breaks
  breaks_not h f = rw (le-leb p.offset.0 n h, f)

  pub breaks_none : p.offset.0 ≤ n → place_fits p ≡ true → count ≡ 0 → breaks ws n count p ≡ true
  unfolding breaks
  breaks_none h f e = rw (le-leb p.offset.0 n h, f, eq-eqb count 0 e)

  pub breaks_last : p.offset.0 ≤ n → place_fits p ≡ true → (count ≡ 0 → ⊥) → breaks ws n count p ≡ behind (row_no ws (count - 1)) p
  unfolding breaks
  breaks_last h f e = rw (le-leb p.offset.0 n h, f, ne_eqb count 0 e)

-- ---- the rows of a table

-- the facts of a row that closes
record Closes (ws : List ℕ) (n i : ℕ) : Type 0 where
  eof : is_eof (row_no ws i) ≡ true
  start : (row_no ws i).start ≡ n
  fit : row_fits (row_no ws i) ≡ true
  join : joined ws i ≡ true

closes_of : (ws : List ℕ) (n i : ℕ) → closes ws n i ≡ true → Closes ws n i
unfolding closes
closes_of ws n i e =
    let a = both_true ((is_eof (row_no ws i) && eqb (row_no ws i).start n) && row_fits (row_no ws i)) (joined ws i) e in
    let b = both_true (is_eof (row_no ws i) && eqb (row_no ws i).start n) (row_fits (row_no ws i)) a.0 in
    let c = both_true (is_eof (row_no ws i)) (eqb (row_no ws i).start n) b.0 in
    record { eof = c.0; start = eqb-true (row_no ws i).start n c.1; fit = b.1; join = a.1 }

of_closes : (ws : List ℕ) (n i : ℕ) → Closes ws n i → closes ws n i ≡ true
unfolding closes
of_closes ws n i s = rw (s.eof, eq-eqb (row_no ws i).start n s.start, s.fit, s.join)

record Breaks (ws : List ℕ) (n count : ℕ) (p : Cursor) : Type 0 where
  within : p.offset.0 ≤ n
  place : place_fits p ≡ true
  last : (i : ℕ) → suc i ≡ count → behind (row_no ws i) p ≡ true

breaks_of : (ws : List ℕ) (n count : ℕ) (p : Cursor) → breaks ws n count p ≡ true → Breaks ws n count p
unfolding breaks
breaks_of ws n count p e =
    let a = both_true (leb p.offset.0 n && place_fits p) (cond (eqb count 0) true (behind (row_no ws (count - 1)) p)) e in
    let b = both_true (leb p.offset.0 n) (place_fits p) a.0 in
    record { within = leb-true p.offset.0 n b.0; place = b.1; last = λ i h. last i h a.1 }
  where
    last : (i : ℕ) → suc i ≡ count → cond (eqb count 0) true (behind (row_no ws (count - 1)) p) ≡ true → behind (row_no ws i) p ≡ true
    last i h f =
        let z : eqb count 0 ≡ false = ne_eqb count 0 (λ q. omega arith) in
        let j : count - 1 ≡ i = omega arith in
        rw (z, j) at f

of_breaks : (ws : List ℕ) (n count : ℕ) (p : Cursor) → Breaks ws n count p → breaks ws n count p ≡ true
of_breaks ws n zero p b = breaks_none ws n 0 p b.within b.place refl
of_breaks ws n (suc i) p b =
    breaks_last ws n (suc i) p b.within b.place (λ e. omega arith)
    ∙ (let j : suc i - 1 ≡ i = omega arith in rw j (b.last i refl))

-- the rows of a well-formed table are joined
join_by : (ws : List ℕ) (t : Table) → Fine ws t → (i : ℕ) → i < t.count → joined ws i ≡ true
unfolding fits_after
join_by ws t f zero h = joined_first ws 0 refl ∙ f.first h
join_by ws t f (suc i) h = join_next ws i ∙ true_both (f.chain i h) (f.gaps i h)

-- what it says of a row that it is joined to the row before it
join_first : (ws : List ℕ) → joined ws 0 ≡ true → gap_fits 0 (row_no ws 0) ≡ true
join_first ws j = sym (joined_first ws 0 refl) ∙ j

join_parts : (ws : List ℕ) (i : ℕ) → joined ws (suc i) ≡ true →
    (follows (row_no ws i) (row_no ws (suc i)) ≡ true) × (gap_fits (row_no ws i).end (row_no ws (suc i)) ≡ true)
unfolding fits_after
join_parts ws i j =
    both_true (follows (row_no ws i) (row_no ws (suc i))) (gap_fits (row_no ws i).end (row_no ws (suc i))) (sym (join_next ws i) ∙ j)

-- ---- the test of a table

module _ (ws : List ℕ) (t : Table) where
  pub well_unlent : length ws < t.count * 8 → well_formed ws t ≡ false
  well_unlent h = not_well ws t (λ f. omega (arith, f.lent))

  pub well_long : most_bytes < t.length → well_formed ws t ≡ false
  well_long h = not_well ws t (λ f. omega (arith, f.short))

  module _ (lent : t.count * 8 ≤ length ws) (short : t.length ≤ most_bytes) where
    -- the ending is none, and row i is the last
    module _ (e : t.ending ≡ None) (i : ℕ) (h : suc i ≡ t.count) where
      none_to : Fine ws t → (all_below (stands ws) i && closes ws t.length i) ≡ true
      none_to f =
          let c = clean_of f e in
          let join = join_by ws t f in
          true_both (below_by (stands ws) i (λ k l. of_stands ws k (record { plain = c.middle k (omega arith); fit = f.fit k (omega arith); join = join k (omega arith) })))
          (of_closes ws t.length i (record { eof = c.last i h; start = c.start i h; fit = f.fit i (omega arith); join = join i (omega arith) }))

      none_from : (all_below (stands ws) i && closes ws t.length i) ≡ true → Fine ws t
      none_from b =
          let a = both_true (all_below (stands ws) i) (closes ws t.length i) b in
          let z = closes_of ws t.length i a.1 in
          let s : (k : ℕ) → k < i → Stands ws k = λ k l. stands_of ws k (below (stands ws) i a.0 k l) in
          let join : (k : ℕ) → k < t.count → joined ws k ≡ true = upto (λ (m : ℕ). joined ws m ≡ true) (λ m o. (s m o).join) z.join in
          record {
            lent = lent;
            short = short;
            fit = λ k l. upto (λ (m : ℕ). row_fits (row_no ws m) ≡ true) (λ m o. (s m o).fit) z.fit k l;
            chain = λ k l. (join_parts ws k (join (suc k) l)).0;
            first = λ l. join_first ws (join 0 l);
            gaps = λ k l. (join_parts ws k (join (suc k) l)).1;
            ends = rw e (clean (record {
              some = omega arith;
              middle = λ k l. (s k (omega arith)).plain;
              last = λ k l. let o : k ≡ i = omega arith in rw o z.eof;
              start = λ k l. let o : k ≡ i = omega arith in rw o z.start;
            }));
          }
        where
          upto : (P : ℕ → Type 0) → ((k : ℕ) → k < i → P k) → P i → (k : ℕ) → k < t.count → P k
          upto P f g k l = below_more P i f g k (omega arith)

      pub well_none : well_formed ws t ≡ (all_below (stands ws) i && closes ws t.length i)
      well_none =
          same_bool (well_formed ws t) (all_below (stands ws) i && closes ws t.length i) (λ w. none_to (fine ws t w)) (λ b. well ws t (none_from b))

    -- the ending is refused at p
    module _ (why : Lexical) (p : Cursor) (e : t.ending ≡ Some (halt why p)) where
      refused_to : Fine ws t → (all_below (stands ws) t.count && breaks ws t.length t.count p) ≡ true
      refused_to f =
          let b = broken_of f e in
          let join = join_by ws t f in
          true_both (below_by (stands ws) t.count (λ k l. of_stands ws k (record { plain = b.plain k l; fit = f.fit k l; join = join k l })))
          (of_breaks ws t.length t.count p (record { within = b.within; place = b.place; last = b.last }))

      refused_from : (all_below (stands ws) t.count && breaks ws t.length t.count p) ≡ true → Fine ws t
      refused_from b =
          let a = both_true (all_below (stands ws) t.count) (breaks ws t.length t.count p) b in
          let z = breaks_of ws t.length t.count p a.1 in
          let s : (k : ℕ) → k < t.count → Stands ws k = λ k l. stands_of ws k (below (stands ws) t.count a.0 k l) in
          record {
            lent = lent;
            short = short;
            fit = λ k l. (s k l).fit;
            chain = λ k l. (join_parts ws k (s (suc k) l).join).0;
            first = λ l. join_first ws (s 0 l).join;
            gaps = λ k l. (join_parts ws k (s (suc k) l).join).1;
            ends = rw e (broken (record { plain = λ k l. (s k l).plain; within = z.within; place = z.place; last = z.last }));
          }

      pub well_refused : well_formed ws t ≡ (all_below (stands ws) t.count && breaks ws t.length t.count p)
      well_refused =
          same_bool (well_formed ws t) (all_below (stands ws) t.count && breaks ws t.length t.count p) (λ w. refused_to (fine ws t w)) (λ b. well ws t (refused_from b))

    pub well_empty : t.ending ≡ None → t.count ≡ 0 → well_formed ws t ≡ false
    well_empty e h = not_well ws t (λ f. omega (arith, (clean_of f e).some))
