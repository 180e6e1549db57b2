-- The first name that was declared before, by what is so of each row: no name before it was, and it was itself.
use mathlib.Core.Path.{◌≡◌, refl, sym, ap, ◌∙◌}
use mathlib.Core.Bool.{Bool, true, false, cond, ◌||◌, true≢false}
use mathlib.Core.List.{List, [], ◌∷◌, map}
use Prim.Native.Nat.{ℕ, zero, suc, ◌+◌, ◌≤◌, ◌<◌}
use native.Mathlib.Decide.{ℕ_discrete}
use native.Mathlib.Omega.{arith}
use Rattle.rules.specs.Kinds.{same_bytes}
use Rattle.std.specs.Prelude.{Option, None, Some, IfSome}
use Rattle.rules_program.specs.Names.{Name, has_name, twin_rows}
use Rattle.laws.proofs.Tests.{either}
use Rattle.laws.proofs.Spelled.{same_eq, same_self}
use Rattle.program_names.specs.declared.Both.{Both}
use Rattle.program_names.specs.Heads.{kept_if, rows_where, first_of, name_after, head_names}
use Rattle.program_names.specs.Both.{heads, spelled, rows_of}
use Rattle.program_twins.specs.Given.{Before, Twin, TwinRow, AtMost, First, twin_of}

-- the names seen are those of the heads before row i
record Seen (head : ℕ → Bool) (spelled : ℕ → List ℕ) (i : ℕ) (seen : List Name) : Type 0 where
  sound : (w : List ℕ) → has_name w seen ≡ true → Before head spelled i w
  whole : (w : List ℕ) → Before head spelled i w → has_name w seen ≡ true

-- row r - 1 is the twin that is looked for, one of n rows from row i on
record Ahead (head : ℕ → Bool) (spelled : ℕ → List ℕ) (i n r : ℕ) : Type 0 where
  row : ℕ
  low : i ≤ row
  below : row < i + n
  told : r ≡ row + 1
  twin : Twin head spelled row

pub or_left : (p q : Bool) → p ≡ true → (p || q) ≡ true
or_left p q e = rw e

pub or_right : (p q : Bool) → q ≡ true → (p || q) ≡ true
or_right true q e = refl
or_right false q e = e

module _ (head : ℕ → Bool) (spelled : ℕ → List ℕ) where
  wider : (i : ℕ) (w : List ℕ) → Before head spelled i w → Before head spelled (i + 1) w
  wider i w b = record { row = b.row; earlier = let l = b.earlier in omega arith; is = b.is; spells = b.spells }

  seen_none : Seen head spelled 0 []
  unfolding has_name
  seen_none = record {
    sound = λ w e. absurd (true≢false (sym e));
    whole = λ w b. let l = b.earlier in absurd (omega arith);
  }

  module _ (i : ℕ) (seen : List Name) (s : Seen head spelled i seen) where
    seen_skip : head i ≡ false → Seen head spelled (i + 1) seen
    seen_skip d = record {
      sound = λ w e. wider i w (s.sound w e);
      whole = λ w b. s.whole w (narrow w b);
    }
      where
        narrow : (w : List ℕ) → Before head spelled (i + 1) w → Before head spelled i w
        narrow w b =
            let l = b.earlier in
            let ne : b.row ≡ i → ⊥ = λ e. true≢false (sym b.is ∙ (ap head e ∙ d)) in
            record { row = b.row; earlier = omega arith; is = b.is; spells = b.spells }

    seen_more : head i ≡ true → Seen head spelled (i + 1) (name_after spelled i ∷ seen)
    unfolding has_name
    seen_more d = record {
      sound = λ w e. either (same_bytes w (spelled (i + 1))) (has_name w seen) e
          (λ f. record { row = i; earlier = omega arith; is = d; spells = sym (same_eq w (spelled (i + 1)) f) })
          (λ f. wider i w (s.sound w f));
      whole = λ w b. go w b (ℕ_discrete b.row i);
    }
      where
        go : (w : List ℕ) (b : Before head spelled (i + 1) w) → Dec (b.row ≡ i) → (same_bytes w (spelled (i + 1)) || has_name w seen) ≡ true
        go w b (yes e) =
            let f : spelled (i + 1) ≡ w = ap (λ (k : ℕ). spelled (k + 1)) (sym e) ∙ b.spells in
            or_left (same_bytes w (spelled (i + 1))) (has_name w seen) (rw f (same_self w))
        go w b (no h) =
            let l = b.earlier in
            or_right (same_bytes w (spelled (i + 1))) (has_name w seen)
            (s.whole w (record { row = b.row; earlier = omega arith; is = b.is; spells = b.spells }))

  -- one row: what is told of the rows after it, r, is what is told of all
  module _ (i n : ℕ) (r : Option ℕ) (seen : List Name) (s : Seen head spelled i seen)
      (lower : Twin head spelled i → AtMost r (i + 1))
      (is : IfSome r (Ahead head spelled i (suc n)))
      (rest : List ℕ)
      (onward : (more : List Name) → Seen head spelled (i + 1) more → IfSome r (Ahead head spelled (i + 1) n) →
      first_of (twin_rows more (map (name_after spelled) rest)) ≡ r) where
    later : (Twin head spelled i → ⊥) → IfSome r (Ahead head spelled (i + 1) n)
    later h = go r is
      where
        go : (o : Option ℕ) → IfSome o (Ahead head spelled i (suc n)) → IfSome o (Ahead head spelled (i + 1) n)
        go None e = e
        go (Some x) a =
            let ne : a.row ≡ i → ⊥ = λ e. h (rw e at a.twin) in
            let l = a.low in
            let m = a.below in
            record { row = a.row; low = omega arith; below = omega arith; told = a.told; twin = a.twin }

    here : Twin head spelled i → Some (i + 1) ≡ r
    here t = go r is (lower t)
      where
        go : (o : Option ℕ) → IfSome o (Ahead head spelled i (suc n)) → AtMost o (i + 1) → Some (i + 1) ≡ o
        go None e l = absurd l
        go (Some x) a l = let m = a.low in ap Some (omega (arith, a.told, l))

    at_head : head i ≡ true → (u : Bool) → has_name (spelled (i + 1)) seen ≡ u →
        first_of (cond u ((i + 1) ∷ twin_rows (name_after spelled i ∷ seen) (map (name_after spelled) rest)) (twin_rows (name_after spelled i ∷ seen) (map (name_after spelled) rest))) ≡ r
    unfolding first_of
    at_head d true e = here (record { is = d; before = s.sound (spelled (i + 1)) e })
    at_head d false e =
        onward (name_after spelled i ∷ seen) (seen_more i seen s d)
        (later (λ t. true≢false (sym (s.whole (spelled (i + 1)) t.before) ∙ e)))

    at_row : (t : Bool) → head i ≡ t → first_of (twin_rows seen (map (name_after spelled) (kept_if t i rest))) ≡ r
    unfolding kept_if twin_rows
    at_row true d = at_head d (has_name (spelled (i + 1)) seen) refl
    at_row false d = onward seen (seen_skip i seen s d) (later (λ t. true≢false (sym t.is ∙ d)))

  answer : (n i : ℕ) (r : Option ℕ) (seen : List Name) → Seen head spelled i seen →
      ((j : ℕ) → i ≤ j → j < i + n → Twin head spelled j → AtMost r (j + 1)) → IfSome r (Ahead head spelled i n) →
      first_of (twin_rows seen (map (name_after spelled) (rows_where head i n))) ≡ r
  unfolding rows_where twin_rows first_of
  answer zero i None seen s lower is = refl
  answer zero i (Some x) seen s lower a = let l = a.low in let m = a.below in absurd (omega arith)
  answer (suc n) i r seen s lower is =
      at_row i n r seen s (lower i (omega arith) (omega arith)) is (rows_where head (i + 1) n)
      (λ more t f. answer n (i + 1) r more t (λ j l m w. lower j (omega arith) (omega arith) w) f)
      (head i) refl

  pub first_answer : (n : ℕ) (r : Option ℕ) → First head spelled n r → first_of (twin_rows [] (map (name_after spelled) (rows_where head 0 n))) ≡ r
  first_answer n r f = answer n 0 r [] seen_none (λ j l m t. f.lower j (omega arith) t) (go r f.is)
    where
      go : (o : Option ℕ) → IfSome o (TwinRow head spelled n) → IfSome o (Ahead head spelled 0 n)
      go None e = e
      go (Some x) t = let l = t.below in record { row = t.row; low = omega arith; below = omega arith; told = t.told; twin = t.twin }

-- of two texts
pub twin_answer : (b : Both) (r : Option ℕ) → First (heads b) (spelled b) (rows_of b) r → r ≡ twin_of b
unfolding head_names
twin_answer b r f = sym (first_answer (heads b) (spelled b) (rows_of b) r f)
