-- What holds at each turn of the loops that read operators: those of one level, and the two levels that `add` reads in one loop.
use mathlib.Core.Path.{◌≡◌, refl, sym, ap, ◌∙◌}
use mathlib.Core.Bool.{Bool, true, false, not, ◌&&◌, ◌||◌, true≢false}
use mathlib.Core.List.{List}
use Prim.Native.Nat.{ℕ, ◌+◌, ◌≤◌, ◌<◌}
use native.Mathlib.Omega.{arith}
use lib.ListN.{length}
use Rattle.rules.specs.Kinds.{Plus, Minus}
use Rattle.rules.specs.Tree.{Tok, Tree, bin, count}
use Rattle.rules.specs.Nodes.{width}
use Rattle.rules.specs.Parse
use Rattle.rules.specs.Parse.{Out, ok, P, is_add, is_shift, is_mul, kind_at}
use Rattle.rules.specs.Grammar.{Mul, Unary}
use Rattle.theory_grammar.proofs.Laws.{either_kind}
use Rattle.theory_grammar.proofs.Cases.{then_ok, then_no, mul_is, shift_is, add_is}
use Rattle.theory_grammar.proofs.Sound.{Reads}
use Rattle.theory_grammar.proofs.AgainExpr.{mul_no_sum}
use Rattle.parse_nodes.specs.Post.{kind_word, Met, Stands}
use Rattle.parse_nodes.proofs.Rows.{word_test}
use Rattle.parse_nodes.specs.declared.At.{At}
use Rattle.parse_nodes.specs.declared.Refusal.{Refusal}
use Rattle.std.specs.Prelude.{Result, Ok, Err, Option, Some, None}
use Rattle.parse_nodes.proofs.Turn.{Any, Came, met_ok, met_no, Turn, start, ends, fails, again}
use Rattle.parse_signs.specs.Joined.{Joint, Joined}
use Rattle.parse_expr.proofs.Trees.{stands_bin}
use Rattle.parse_expr.proofs.Given.{was_refused, Fit, turn_fit}

-- ---- the operand that is read next

-- It is read at row `at`, its nodes behind those of s: the first, or one behind the operator k, with which what R says of s goes on.
pub data Next (ts : List Tok) (R : At → List ℕ → Type 0) (on : ℕ → Bool) (i n : ℕ) (m : List ℕ) (s : At) (k : Option ℕ) (at : ℕ) (m' : List ℕ)
    : Type 0 where
  first : s.node ≡ n → k ≡ None → at ≡ i → m' ≡ m → Next ts R on i n m s k at m'
  further : R s m' → k ≡ Some (kind_at ts s.row) → on (kind_at ts s.row) ≡ true → at ≡ s.row + 1 → s.row < length ts → Next ts R on i n m s k at m'

-- There is room for it: no more nodes than rows, all inside the table, memory as long as it was.
pub record Room (ts : List Tok) (i n : ℕ) (m : List ℕ) (s : At) (at : ℕ) (m' : List ℕ) : Type 0 where
  pub few : s.node + i ≤ at + n
  pub inside : at ≤ length ts
  pub long : length m' ≡ length m

pub next_room : {ts : List Tok} {R : At → List ℕ → Type 0} {on : ℕ → Bool} {i n : ℕ} {m : List ℕ} {s : At} {k : Option ℕ} {at : ℕ} {m' : List ℕ}
    → (R s m' → Fit ts i n m s m') → i ≤ length ts → Next ts R on i n m s k at m' → Room ts i n m s at m'
next_room fit l (first e ek ea em) = record { few = omega arith; inside = omega arith; long = ap length em }
next_room fit l (further w ek b ea h) =
    let f = fit w in
    record { few = omega (arith, f.few); inside = omega arith; long = f.long }

-- a state that was joined or not stands at the row of its last operand
pub joined_row : (k : Option ℕ) (s t : At) (m m' : List ℕ) (r : At) → Joined k s t m m' r → r.row ≡ t.row
joined_row None s t m m' r j = ap (λ (x : At). x.row) j.0
joined_row (Some k) s t m m' r j = ap (λ (x : At). x.row) j.state

-- ---- operators `is_op` of one level, with operands p

-- the loop that is to give `all` has read operands up to s
pub record Level (ts : List Tok) (d : ℕ) (is_op : ℕ → Bool) (p : P) (all : Out) (i n : ℕ) (m : List ℕ) (s : At) (m' : List ℕ) : Type 0 where
  pub turn : Turn Any ts (λ r. is_op (kind_at ts r)) (Parse.bin_step ts (Parse.inner ts d) p) all i n m s m'

level_start : {ts : List Tok} {d : ℕ} {is_op : ℕ → Bool} {p : P} {all : Out} {i n : ℕ} {m : List ℕ} {s : At} {m' : List ℕ} (t : Tree)
    → all ≡ Parse.loop ts (λ r. is_op (kind_at ts r)) (Parse.bin_step ts (Parse.inner ts d) p) t s.row
    → Stands i n t m s m' → s.row ≤ length ts → count t ≤ width t → Level ts d is_op p all i n m s m'
unfolding Parse.loop
level_start t e st l k = record { turn = start Any _ _ _ _ _ _ _ _ _ t e st l k tt }

module _ {ts : List Tok} {d : ℕ} {is_op : ℕ → Bool} {p : P} {all : Out} {i n : ℕ} {m : List ℕ} {s : At} {m' : List ℕ}
    (w : Level ts d is_op p all i n m s m') where
  pub level_fit : Fit ts i n m s m'
  level_fit = turn_fit w.turn

  -- no operator at the row: the tree is the answer
  level_ends : is_op (kind_at ts s.row) ≡ false → all ≡ ok w.turn.tree s.row
  level_ends b = ends Any ts _ _ all i n m s m' w.turn b

  pub level_done : is_op (kind_at ts s.row) ≡ false → Met all i n m m' (Ok s)
  level_done b = met_ok all i n w.turn.tree m m' s (level_ends b) w.turn.stands

  module _ (b : is_op (kind_at ts s.row) ≡ true) where
    pub level_fails : {r : Result At Refusal} {x : Refusal} (m'' : List ℕ) → Met (p (s.row + 1)) (s.row + 1) s.node m' m'' r
        → r ≡ Err x → Met all i n m m'' (Err x)
    unfolding Parse.bin_step
    level_fails {x = x} m'' h e =
        fails Any ts _ _ all i n m s m' w.turn b x.why x.row m'' (then_no (p (s.row + 1)) _ x.why x.row (was_refused (s.row + 1) s.node m' m'' h e))

    pub level_again : {C : Tree → ℕ → Type 0} {k : ℕ} {s₂ : At} {m₂ : List ℕ} {s₃ : At} {m₃ : List ℕ} → k ≡ kind_at ts s.row
        → Came C ts (p (s.row + 1)) (s.row + 1) s.node m' s₂ m₂ → Joint s s₂ k m₂ m₃ s₃ → Level ts d is_op p all i n m s₃ m₃
    unfolding Parse.bin_step count width
    level_again {k = k} {s₂ = s₂} {m₂ = m₂} {s₃ = s₃} {m₃ = m₃} ek v e =
        let r : s₃.row ≡ s₂.row = ap (λ (x : At). x.row) e.state in
        let u : Tree = bin k w.turn.tree v.tree in
        record {
          turn =
              again Any ts _ _ all i n m s m' w.turn b Any u s₃ m₃
              (rw (← ek) (then_ok (p (s.row + 1)) _ v.tree s₂.row v.is ∙ ap (ok u) (sym r)))
              (stands_bin i n m m' s w.turn.tree s₂ m₂ v.tree s₃ m₃ k w.turn.stands v.stands e)
              (omega (arith, r, v.stands.rows)) (omega (arith, r, v.inside)) (omega arith) tt;
        }

-- `mul` has read operands up to s
abbrev pub Products : List Tok → (d i n : ℕ) → List ℕ → At → List ℕ → Type 0
Products ts d i n m s m' = Level ts d is_mul (Parse.unary ts (Parse.inner ts d)) (Parse.mul ts (Parse.inner ts d) i) i n m s m'

pub products_start : {ts : List Tok} {d i n : ℕ} {m : List ℕ} {s : At} {m' : List ℕ}
    → Came (Reads ts Unary d i) ts (Parse.unary ts (Parse.inner ts d) i) i n m s m' → Products ts d i n m s m'
unfolding Parse.loop
products_start {ts} {d} {i} w =
    level_start w.tree (mul_is ts (Parse.inner ts d) i ∙ then_ok _ _ w.tree _ w.is) w.stands w.inside w.counts

pub products_refused : {r : Result At Refusal} {x : Refusal} (ts : List Tok) (d i n : ℕ) (m m'' : List ℕ)
    → Met (Parse.unary ts (Parse.inner ts d) i) i n m m'' r → r ≡ Err x
    → Met (Parse.mul ts (Parse.inner ts d) i) i n m m'' (Err x)
products_refused {x = x} ts d i n m m'' h e =
    met_no _ i n x.why x.row m m'' (mul_is ts (Parse.inner ts d) i ∙ then_no _ _ x.why x.row (was_refused i n m m'' h e))

-- a row of such an operator is in the table
pub mul_here : (ws : List ℕ) (n i k : ℕ) (r : Bool) → k ≡ kind_word ws n i → r ≡ is_mul k → r ≡ true → i < n
mul_here ws n i k r e q h = word_test ws n i is_mul refl (ap is_mul (sym e) ∙ sym q ∙ h)

-- the factor that it reads next
abbrev pub Factors : List Tok → (d i n : ℕ) → List ℕ → At → Option ℕ → ℕ → List ℕ → Type 0
Factors ts d i n m s k at m' = Next ts (Products ts d i n m) is_mul i n m s k at m'

module _ {ts : List Tok} {d i n : ℕ} {m : List ℕ} {s : At} {k : Option ℕ} {at : ℕ} {m' : List ℕ} where
  pub factors_fail : {r : Result At Refusal} {x : Refusal} (m'' : List ℕ) → Factors ts d i n m s k at m'
      → Met (Parse.unary ts (Parse.inner ts d) at) at s.node m' m'' r → r ≡ Err x
      → Met (Parse.mul ts (Parse.inner ts d) i) i n m m'' (Err x)
  factors_fail m'' (first en ek ea em) h e = products_refused ts d i n m m'' (rw (en, ea, em) at h) e
  factors_fail m'' (further w ek b ea l) h e = level_fails w b m'' (rw ea at h) e

  pub factors_read : {t : At} {m₂ : List ℕ} {s₃ : At} {m₃ : List ℕ} → Factors ts d i n m s k at m'
      → Came (Reads ts Unary d at) ts (Parse.unary ts (Parse.inner ts d) at) at s.node m' t m₂
      → Joined k s t m₂ m₃ s₃ → Products ts d i n m s₃ m₃
  factors_read {t = t} {m₂ = m₂} {s₃ = s₃} {m₃ = m₃} (first en ek ea em) v j =
      let g : (s₃ ≡ t) × (m₃ ≡ m₂) = rw ek at j in
      rw (g.0, g.1) (products_start (rw (en, ea, em) at v))
  factors_read {t = t} {m₂ = m₂} {s₃ = s₃} {m₃ = m₃} (further w ek b ea l) v j =
      let g : Joint s t (kind_at ts s.row) m₂ m₃ s₃ = rw ek at j in
      level_again w b refl (rw ea at v) g

-- ---- shifts, and from the first sign on signs alone

abbrev Shifts : List Tok → (d i n : ℕ) → List ℕ → At → List ℕ → Type 0
Shifts ts d i n m s m' = Level ts d is_shift (Parse.mul ts (Parse.inner ts d)) (Parse.shift ts (Parse.inner ts d) i) i n m s m'

abbrev Signs : List Tok → (d i n : ℕ) → List ℕ → At → List ℕ → Type 0
Signs ts d i n m s m' = Level ts d is_add (Parse.mul ts (Parse.inner ts d)) (Parse.add ts (Parse.inner ts d) i) i n m s m'

-- `add` has read operands up to s: while no sign was read it is about to give a shift, and from then on the whole
pub data Sums (ts : List Tok) (d i n : ℕ) (m : List ℕ) (s : At) (m' : List ℕ) : Type 0 where
  shifting : s.summed ≡ false → Shifts ts d i n m s m' → Sums ts d i n m s m'
  summing : s.summed ≡ true → Signs ts d i n m s m' → Sums ts d i n m s m'

pub sums_start : {ts : List Tok} {d i n : ℕ} {m : List ℕ} {s : At} {m' : List ℕ}
    → Came (Reads ts Mul d i) ts (Parse.mul ts (Parse.inner ts d) i) i n m s m' → Sums ts d i n m s m'
unfolding Parse.loop
sums_start {ts} {d} {i} w =
    shifting (w.stands.summed ∙ mul_no_sum w.known.is)
    (level_start w.tree (shift_is ts (Parse.inner ts d) i ∙ then_ok _ _ w.tree _ w.is) w.stands w.inside w.counts)

pub sums_refused : {r : Result At Refusal} {x : Refusal} (ts : List Tok) (d i n : ℕ) (m m'' : List ℕ)
    → Met (Parse.mul ts (Parse.inner ts d) i) i n m m'' r → r ≡ Err x
    → Met (Parse.add ts (Parse.inner ts d) i) i n m m'' (Err x)
sums_refused {x = x} ts d i n m m'' h e =
    met_no _ i n x.why x.row m m''
    (add_is ts (Parse.inner ts d) i ∙ then_no _ _ x.why x.row (shift_is ts (Parse.inner ts d) i ∙ then_no _ _ x.why x.row (was_refused i n m m'' h e)))

-- whether a row of kind k goes on with it
abbrev pub joins : ℕ → Bool → Bool
joins k summed = is_add k || (is_shift k && not summed)

-- such a row is in the table
pub joins_here : (ws : List ℕ) (n i k : ℕ) (b r : Bool) → k ≡ kind_word ws n i → r ≡ joins k b → r ≡ true → i < n
joins_here ws n i k b r e q h = word_test ws n i (λ x. joins x b) refl (ap (λ x. joins x b) (sym e) ∙ sym q ∙ h)

left_true : (a b : Bool) → a && b ≡ true → a ≡ true
left_true true b h = refl
left_true false b h = h

add_no_shift : (k : ℕ) → is_add k ≡ true → is_shift k ≡ false
add_no_shift k e = either_kind (λ x. is_shift x ≡ false) k Plus Minus e refl refl

module _ {ts : List Tok} {d i n : ℕ} {m : List ℕ} {s : At} {m' : List ℕ} where
  pub sums_fit : Sums ts d i n m s m' → Fit ts i n m s m'
  sums_fit (shifting e w) = level_fit w
  sums_fit (summing e w) = level_fit w

  -- no shift goes on: what is read so far is what signs go on with
  signs_now : Sums ts d i n m s m' → is_shift (kind_at ts s.row) && not s.summed ≡ false → Signs ts d i n m s m'
  unfolding Parse.loop
  signs_now (summing e w) h = w
  signs_now (shifting e w) h =
      let t = w.turn in
      let stop = alone (is_shift (kind_at ts s.row)) s.summed h e in
      level_start t.tree (add_is ts (Parse.inner ts d) i ∙ then_ok _ _ t.tree s.row (level_ends w stop))
      t.stands t.inside t.counts
    where
      alone : (a b : Bool) → a && not b ≡ false → b ≡ false → a ≡ false
      alone true true h e = absurd (true≢false e)
      alone true false h e = h
      alone false b h e = refl

  -- a shift goes on: no sign was read
  shifts_now : Sums ts d i n m s m' → is_shift (kind_at ts s.row) && not s.summed ≡ true → Shifts ts d i n m s m'
  shifts_now (shifting e w) h = w
  shifts_now (summing e w) h = absurd (never (is_shift (kind_at ts s.row)) s.summed h e)
    where
      never : (a b : Bool) → a && not b ≡ true → b ≡ true → ⊥
      never true true h e = true≢false (sym h)
      never true false h e = true≢false (sym e)
      never false b h e = true≢false (sym h)

  pub sums_done : Sums ts d i n m s m' → joins (kind_at ts s.row) s.summed ≡ false
      → Met (Parse.add ts (Parse.inner ts d) i) i n m m' (Ok s)
  sums_done w h = let b = neither (is_add (kind_at ts s.row)) _ h in level_done (signs_now w b.1) b.0
    where
      neither : (a b : Bool) → a || b ≡ false → (a ≡ false) × (b ≡ false)
      neither true b h = absurd (true≢false h)
      neither false b h = (refl, h)

  pub sums_fails : {r : Result At Refusal} {x : Refusal} (m'' : List ℕ) → Sums ts d i n m s m' → joins (kind_at ts s.row) s.summed ≡ true
      → Met (Parse.mul ts (Parse.inner ts d) (s.row + 1)) (s.row + 1) s.node m' m'' r → r ≡ Err x
      → Met (Parse.add ts (Parse.inner ts d) i) i n m m'' (Err x)
  sums_fails {x = x} m'' w h f e = go (is_add (kind_at ts s.row)) refl
    where
      go : (b : Bool) → is_add (kind_at ts s.row) ≡ b → Met (Parse.add ts (Parse.inner ts d) i) i n m m'' (Err x)
      go true g = level_fails (signs_now w (rw (add_no_shift (kind_at ts s.row) g))) g m'' f e
      go false g =
          let v = level_fails (shifts_now w (rw g at h)) (left_true (is_shift (kind_at ts s.row)) _ (rw g at h)) m'' f e in
          met_no _ i n x.why x.row m m'' (add_is ts (Parse.inner ts d) i ∙ then_no _ _ x.why x.row (was_refused i n m m'' v refl))

  pub sums_again : {C : Tree → ℕ → Type 0} {k : ℕ} {s₂ : At} {m₂ : List ℕ} {s₃ : At} {m₃ : List ℕ} → Sums ts d i n m s m'
      → joins (kind_at ts s.row) s.summed ≡ true → k ≡ kind_at ts s.row
      → Came C ts (Parse.mul ts (Parse.inner ts d) (s.row + 1)) (s.row + 1) s.node m' s₂ m₂
      → Joint s s₂ k m₂ m₃ s₃ → Sums ts d i n m s₃ m₃
  sums_again {k = k} {s₃ = s₃} {m₃ = m₃} w h ek v e = go (is_add (kind_at ts s.row)) refl
    where
      summed : (b : Bool) → is_add (kind_at ts s.row) ≡ b → s₃.summed ≡ b
      summed b f = ap (λ (x : At). x.summed) e.state ∙ ap is_add ek ∙ f

      go : (b : Bool) → is_add (kind_at ts s.row) ≡ b → Sums ts d i n m s₃ m₃
      go true f = summing (summed true f) (level_again (signs_now w (rw (add_no_shift (kind_at ts s.row) f))) f ek v e)
      go false f =
          let g = left_true (is_shift (kind_at ts s.row)) _ (rw f at h) in
          shifting (summed false f) (level_again (shifts_now w (rw f at h)) g ek v e)

-- the term that `add` reads next
abbrev pub Terms : List Tok → (d i n : ℕ) → List ℕ → At → Option ℕ → ℕ → List ℕ → Type 0
Terms ts d i n m s k at m' = Next ts (Sums ts d i n m) (λ x. joins x s.summed) i n m s k at m'

module _ {ts : List Tok} {d i n : ℕ} {m : List ℕ} {s : At} {k : Option ℕ} {at : ℕ} {m' : List ℕ} where
  pub terms_fail : {r : Result At Refusal} {x : Refusal} (m'' : List ℕ) → Terms ts d i n m s k at m'
      → Met (Parse.mul ts (Parse.inner ts d) at) at s.node m' m'' r → r ≡ Err x
      → Met (Parse.add ts (Parse.inner ts d) i) i n m m'' (Err x)
  terms_fail m'' (first en ek ea em) h e = sums_refused ts d i n m m'' (rw (en, ea, em) at h) e
  terms_fail m'' (further w ek b ea l) h e = sums_fails m'' w b (rw ea at h) e

  pub terms_read : {t : At} {m₂ : List ℕ} {s₃ : At} {m₃ : List ℕ} → Terms ts d i n m s k at m'
      → Came (Reads ts Mul d at) ts (Parse.mul ts (Parse.inner ts d) at) at s.node m' t m₂
      → Joined k s t m₂ m₃ s₃ → Sums ts d i n m s₃ m₃
  terms_read {t = t} {m₂ = m₂} {s₃ = s₃} {m₃ = m₃} (first en ek ea em) v j =
      let g : (s₃ ≡ t) × (m₃ ≡ m₂) = rw ek at j in
      rw (g.0, g.1) (sums_start (rw (en, ea, em) at v))
  terms_read {t = t} {m₂ = m₂} {s₃ = s₃} {m₃ = m₃} (further w ek b ea l) v j =
      let g : Joint s t (kind_at ts s.row) m₂ m₃ s₃ = rw ek at j in
      sums_again w b refl (rw ea at v) g
