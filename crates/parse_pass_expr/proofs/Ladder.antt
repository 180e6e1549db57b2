-- What holds at each turn of the loops that read operators or commas: what was seen before the row at which they stand.
use mathlib.Core.Path.{◌≡◌, refl, ap, ◌∙◌, subst}
use mathlib.Core.Bool.{Bool, true, false, not, ◌||◌}
use mathlib.Core.List.{List}
use Prim.Native.Nat.{ℕ, ◌+◌, ◌<◌}
use native.Mathlib.Omega.{arith}
use lib.Dec.{eqb}
use borrow.Author.Tests.{not-true, eqb-true}
use Rattle.rules.specs.Kinds.{Comma, Eof}
use Rattle.rules.specs.Tree.{Tok}
use Rattle.rules.specs.Parse.{is_add, is_shift, is_mul, kind_at}
use Rattle.rules.specs.Grammar.{Nt, Add, Shift, Mul, Unary, Args}
use Rattle.laws.proofs.Tests.{both_true}
use Rattle.theory_grammar.proofs.Leads.{add_mark, shift_mark, mul_mark}
use Rattle.theory_grammar.proofs.Runs.{is_mark}
use Rattle.theory_grammar.specs.Tokens.{is_sign}
use Rattle.parse_pass_expr.specs.Seen.{kind_in, Read, Looks, Seen}
use Rattle.parse_pass_expr.proofs.Built.{row_behind}
use Rattle.parse_pass_expr.proofs.Parts as Parts
use Rattle.parse_pass_expr.proofs.Passes.{seen_as}

-- nothing, or what begins at row i and ends at a row of an operator
pub data Before (N : Nt) (is_op : ℕ → Bool) (d : ℕ) (ws : List ℕ) (n i at : ℕ) : Type 0 where
  nothing : at ≡ i → Before N is_op d ws n i at
  operator : (j : ℕ) → Seen N d ws n i j → is_op (kind_in ws j) ≡ true → at ≡ j + 1 → Before N is_op d ws n i at

pub record Turn (N : Nt) (is_op : ℕ → Bool) (d : ℕ) (ws : List ℕ) (n i at : ℕ) : Type 0 where
  pub before : Before N is_op d ws n i at
  pub inside : at < n

-- at first
pub turn_first : {N : Nt} {is_op : ℕ → Bool} {d : ℕ} {ws : List ℕ} {n i : ℕ} → i < n → Turn N is_op d ws n i i
turn_first h = record { before = nothing refl; inside = h }

-- A ladder of N: an M, or an N with an operator and an M behind it. No operator is Eof.
pub record Ladder (N M : Nt) (is_op : ℕ → Bool) : Type 0 where
  pub lift : {ts : List Tok} {d i j : ℕ} → Read ts M d i j → Read ts N d i j
  pub join : {ts : List Tok} {d i j k : ℕ} → Read ts N d i j → is_op (kind_at ts j) ≡ true → Read ts M d (j + 1) k → Read ts N d i k
  pub mark : (k : ℕ) → is_op k ≡ true → eqb k Eof ≡ false

module _ {N M : Nt} {is_op : ℕ → Bool} (s : Ladder N M is_op) {d : ℕ} {ws : List ℕ} {n i : ℕ} where
  -- with an M that is seen at the turn's row
  pub turn_seen : {at r : ℕ} → Turn N is_op d ws n i at → Seen M d ws n at r → Seen N d ws n i r
  turn_seen {at} {r} t m = go t.before
    where
      go : Before N is_op d ws n i at → Seen N d ws n i r
      go (nothing e) = seen_as (λ ts r. s.lift r) (subst (λ (x : ℕ). Seen M d ws n x r) e m)
      go (operator j l b e) =
          let u : Seen M d ws n (j + 1) r = subst (λ (x : ℕ). Seen M d ws n x r) e m in
          record {
            up = omega (arith, l.up, u.up);
            inside = u.inside;
            read = λ ts tl. s.join (l.read ts tl) (ap is_op (tl.kinds j l.inside) ∙ b) (u.read ts tl);
          }

  -- behind an operator
  pub turn_again : {d' j : ℕ} → Looks ws n i d' → Seen N d ws n i j → is_op (kind_in ws j) ≡ true → Turn N is_op d ws n i (j + 1)
  turn_again {j = j} l m b = record {
    before = operator j m b refl;
    inside = row_behind ws n j (kind_in ws j) l.closed m.inside refl (s.mark (kind_in ws j) b);
  }

-- ---- the ladders

not_eof : (k : ℕ) → is_mark k ≡ true → eqb k Eof ≡ false
not_eof k b = not-true (eqb k Eof) (both_true (is_sign k) (not (eqb k Eof)) b).1

pub products : Ladder Mul Unary is_mul
products = record { lift = Parts.unary; join = Parts.mul; mark = λ k b. not_eof k (mul_mark k b) }

pub shifts : Ladder Shift Mul is_shift
shifts = record { lift = Parts.lone; join = Parts.shift; mark = λ k b. not_eof k (shift_mark k b) }

pub sums : Ladder Add Mul is_add
sums = record { lift = λ r. Parts.up (Parts.lone r); join = Parts.add; mark = λ k b. not_eof k (add_mark k b) }

abbrev pub is_comma : ℕ → Bool
is_comma k = eqb k Comma

pub lists : Ladder Args Add is_comma
lists = record {
  lift = Parts.one;
  join = λ a b r. Parts.more a (eqb-true _ Comma b) r;
  mark = λ k b. ap (λ (x : ℕ). eqb x Eof) (eqb-true k Comma b);
}

-- ---- expressions: shifts, and from the first sign on signs alone

abbrev pub level_of : Bool → Nt
level_of false = Shift
level_of true = Add

abbrev pub op_of : Bool → ℕ → Bool
op_of false = is_shift
op_of true = is_add

pub level : (b : Bool) → Ladder (level_of b) Mul (op_of b)
level false = shifts
level true = sums

module _ {d : ℕ} {ws : List ℕ} {n i j : ℕ} where
  -- what is seen is an expression
  pub level_whole : (b : Bool) → Seen (level_of b) d ws n i j → Seen Add d ws n i j
  level_whole false s = seen_as (λ ts r. Parts.up r) s
  level_whole true s = s

  -- behind a sign, or behind a shift where no sign was read
  pub level_again : (b sign shift : Bool) {d' : ℕ} → Looks ws n i d' → Seen (level_of b) d ws n i j → is_add (kind_in ws j) ≡ sign
      → is_shift (kind_in ws j) ≡ shift → sign || shift ≡ true → (b ≡ true → shift ≡ true → ⊥)
      → Turn (level_of (b || sign)) (op_of (b || sign)) d ws n i (j + 1)
  level_again false true shift l s p q e f = turn_again sums l (seen_as (λ ts r. Parts.up r) s) p
  level_again false false shift l s p q e f = turn_again shifts l s (q ∙ e)
  level_again true true shift l s p q e f = turn_again sums l s p
  level_again true false shift l s p q e f = absurd (f refl e)
