-- What the first pass has seen, put together: the rows that may be asked for, and what a call's answer says with the rows around it.
use mathlib.Core.Path.{◌≡◌, refl, sym, ap, ◌∙◌, subst}
use mathlib.Core.Bool.{true, false, not, ◌||◌}
use mathlib.Core.List.{List}
use Prim.Native.Nat.{ℕ, suc, ◌+◌, ◌*◌, ◌≤◌, ◌<◌}
use Rattle.std.specs.Prelude.{Option, Some, None}
use native.Mathlib.Omega.{arith}
use lib.Dec.{eqb}
use lib.ListN.{length}
use Rattle.rules.specs.Kinds.{LParen, RParen, Dot, Star, Identifier, Number, Eof}
use Rattle.rules.specs.Tree.{Tok}
use Rattle.rules.specs.Parse.{kind_at}
use Rattle.rules.specs.Grammar.{Nt, Add, Unary, Basic, Args}
use Rattle.theory_grammar.proofs.Laws.{either_kind}
use Rattle.laws.proofs.Tests.{both_true}
use Rattle.parse_nodes.specs.Post.{Tells}
use Rattle.parse_pass_expr.specs.Seen.{kind_in, Read, Looks, Seen, Sees, SeenOn, SeesOn, is_alone}
use Rattle.parse_pass_expr.proofs.Built.{told_kind, row_behind}
use Rattle.parse_pass_expr.proofs.Parts as Parts
use Rattle.parse_pass_expr.proofs.Parts.{read_to}

-- the token of a row that is written otherwise
told_at : {ts : List Tok} {ws : List ℕ} {n k : ℕ} (i j : ℕ) → Tells ts ws n → j ≡ i → i < n → kind_in ws i ≡ k → kind_at ts j ≡ k
told_at {ts} {ws} i j tl q h e = ap (kind_at ts) q ∙ told_kind ws i tl h e

-- ---- the rows that may be asked for

module _ {ws : List ℕ} {n i d : ℕ} (l : Looks ws n i d) where
  -- a row's words are lent
  pub lent_here : i * 8 + 8 ≤ length ws
  lent_here = omega (arith, l.lent, l.inside)

  -- another row of the same table
  pub looks_at : {j : ℕ} → j < n → Looks ws n j d
  looks_at h = record { lent = l.lent; inside = h; short = l.short; closed = l.closed; nest = l.nest }

  -- no more constructs may be opened
  pub looks_less : {e : ℕ} → e ≤ d → Looks ws n i e
  looks_less h = record { lent = l.lent; inside = l.inside; short = l.short; closed = l.closed; nest = omega (arith, l.nest) }

  -- behind a row that is not Eof
  pub behind : {k : ℕ} (j : ℕ) → j ≡ i + 1 → kind_in ws i ≡ k → eqb k Eof ≡ false → Looks ws n j d
  behind {k} j q e f = looks_at (omega (arith, row_behind ws n i k l.closed l.inside e f))

-- ---- fields

module _ {ws : List ℕ} {n j : ℕ} where
  -- none
  pub on_none : j < n → SeenOn ws n j j
  on_none h = record { up = omega arith; inside = h; read = λ ts tl d i r. r }

  -- one more, at row k
  pub on_field : {k r : ℕ} → SeenOn ws n j k → kind_in ws k ≡ Dot → kind_in ws (k + 1) ≡ Identifier → r ≡ k + 1 + 1 → r < n → SeenOn ws n j r
  on_field {k} {r} s e f q h = record {
    up = omega (arith, s.up);
    inside = h;
    read = λ ts tl d i r.
        read_to (sym q)
        (Parts.field (s.read ts tl d i r) (told_kind ws k tl s.inside e) (told_kind ws (k + 1) tl (omega arith) f));
  }

  -- the fields of what was seen
  pub with_fields : {d i : ℕ} (o : Option ℕ) → Seen Basic d ws n i j → SeesOn ws n j o → Sees Basic d ws n i o
  with_fields None s g = tt
  with_fields {d} {i} (Some r) s g =
      record { up = omega (arith, s.up, g.up); inside = g.inside; read = λ ts tl. g.read ts tl d i (s.read ts tl) }

-- ---- operands, from row i on

-- the same rows, of another nonterminal
pub seen_as : {N M : Nt} {ws : List ℕ} {n d i r : ℕ} → ((ts : List Tok) → Read ts N d i r → Read ts M d i r) → Seen N d ws n i r
    → Seen M d ws n i r
seen_as f s = record { up = s.up; inside = s.inside; read = λ ts tl. f ts (s.read ts tl) }

-- an operand behind no star
pub sees_prim : (ws : List ℕ) (n d i : ℕ) (o : Option ℕ) → Sees Basic d ws n i o → Sees Unary d ws n i o
sees_prim ws n d i None s = tt
sees_prim ws n d i (Some r) s = seen_as (λ ts r. Parts.prim r) s

module _ {ws : List ℕ} {n i d : ℕ} (l : Looks ws n i d) where
  -- one row
  one_row : {k : ℕ} → kind_in ws i ≡ k → eqb k Eof ≡ false → ((ts : List Tok) → kind_at ts i ≡ k → Read ts Basic d i (i + 1))
      → Seen Basic d ws n i (i + 1)
  one_row e f g = record {
    up = omega arith;
    inside = (behind l (i + 1) refl e f).inside;
    read = λ ts tl. g ts (told_kind ws i tl l.inside e);
  }

  pub seen_number : kind_in ws i ≡ Number → Seen Basic d ws n i (i + 1)
  seen_number e = one_row e refl (λ ts h. Parts.number h)

  pub seen_variable : kind_in ws i ≡ Identifier → Seen Basic d ws n i (i + 1)
  seen_variable e = one_row e refl (λ ts h. Parts.variable h)

  -- what stands alone
  pub seen_alone : is_alone ws i ≡ true → Seen Unary d ws n i (i + 1)
  unfolding is_alone
  seen_alone b =
      let k = kind_in ws i in
      let h = (both_true (eqb k Identifier || eqb k Number) (not (eqb (kind_in ws (i + 1)) Dot)) b).0 in
      seen_as (λ ts r. Parts.prim r)
      (either_kind (λ x. k ≡ x → Seen Basic d ws n i (i + 1)) k Identifier Number h seen_variable seen_number refl)

  -- a variable, a dot, a name: each row behind them may be asked for
  module _ (v : kind_in ws i ≡ Identifier) where
    pub looks_dot : Looks ws n (i + 1) d
    looks_dot = behind l (i + 1) refl v refl

    module _ (e : kind_in ws (i + 1) ≡ Dot) where
      pub looks_name : Looks ws n (i + 1 + 1) d
      looks_name = behind looks_dot (i + 1 + 1) refl e refl

      module _ (f : kind_in ws (i + 1 + 1) ≡ Identifier) {o : ℕ} (q : o ≡ i + 1 + 1 + 1) where
        pub looks_open : Looks ws n o d
        looks_open = behind looks_name o q f refl

        pub seen_field : Seen Basic d ws n i o
        seen_field =
            let s = seen_variable v in
            let g = on_field (on_none s.inside) e f q looks_open.inside in
            record { up = omega arith; inside = g.inside; read = λ ts tl. g.read ts tl d i (s.read ts tl) }

        -- and a parenthesis, in which the arguments stand
        module _ (h : kind_in ws o ≡ LParen) where
          pub looks_inner : Looks ws n (o + 1) d
          looks_inner = behind looks_open (o + 1) refl h refl

          pub seen_bare : kind_in ws (o + 1) ≡ RParen → Seen Basic d ws n i (o + 2)
          seen_bare c = record {
            up = omega arith;
            inside = (behind looks_inner (o + 2) (omega arith) c refl).inside;
            read = λ ts tl.
                read_to (omega arith)
                (Parts.bare (told_kind ws i tl l.inside v) (told_kind ws (i + 1) tl looks_dot.inside e)
                (told_kind ws (i + 1 + 1) tl looks_name.inside f)
                (told_at o (i + 1 + 1 + 1) tl (omega arith) looks_open.inside h)
                (told_at (o + 1) (i + 1 + 1 + 1 + 1) tl (omega arith) looks_inner.inside c));
          }

          pub seen_call : {u j r : ℕ} → suc u ≡ d → Seen Args u ws n (o + 1) j → kind_in ws j ≡ RParen → r ≡ j + 1
              → Seen Basic d ws n i r
          seen_call {u} {j} z s c p = record {
            up = omega (arith, s.up);
            inside = (behind (looks_at l s.inside) _ p c refl).inside;
            read = λ ts tl.
                let g : o + 1 ≡ i + 1 + 1 + 1 + 1 = omega arith in
                read_to (sym p)
                (Parts.call z (told_kind ws i tl l.inside v) (told_kind ws (i + 1) tl looks_dot.inside e)
                (told_kind ws (i + 1 + 1) tl looks_name.inside f)
                (told_at o (i + 1 + 1 + 1) tl (omega arith) looks_open.inside h)
                (subst (λ (x : ℕ). Read ts Args u x j) g (s.read ts tl)) (told_kind ws j tl s.inside c));
          }

  -- behind a parenthesis, up to another
  pub seen_group : {u a j r : ℕ} → suc u ≡ d → kind_in ws i ≡ LParen → a ≡ i + 1 → Seen Add u ws n a j → kind_in ws j ≡ RParen
      → r ≡ j + 1 → Seen Basic d ws n i r
  seen_group {u} {a} {j} z e b s c p = record {
    up = omega (arith, s.up);
    inside = (behind (looks_at l s.inside) _ p c refl).inside;
    read = λ ts tl.
        read_to (sym p)
        (Parts.group z (told_kind ws i tl l.inside e) (subst (λ (x : ℕ). Read ts Add u x j) b (s.read ts tl))
        (told_kind ws j tl s.inside c));
  }

  -- behind a star, if it is told
  pub seen_star : {u : ℕ} (o : Option ℕ) → suc u ≡ d → kind_in ws i ≡ Star → Sees Unary u ws n (i + 1) o → Sees Unary d ws n i o
  seen_star None z e s = tt
  seen_star (Some r) z e s = record {
    up = omega (arith, s.up);
    inside = s.inside;
    read = λ ts tl. Parts.star z (told_kind ws i tl l.inside e) (s.read ts tl);
  }

-- ---- stars

-- What is told from row at on, with at most e constructs open, is told from row i on too, with at most d. So it is where stars stand
-- between the two, each of which opens one construct.
pub record Stars (d e : ℕ) (ws : List ℕ) (n i at : ℕ) : Type 0 where
  pub less : e ≤ d
  pub inside : at < n
  pub told : (o : Option ℕ) → Sees Unary e ws n at o → Sees Unary d ws n i o

module _ {ws : List ℕ} {n i d : ℕ} where
  -- the row behind them may be asked for
  pub stars_look : {e j : ℕ} → Looks ws n i d → Stars d e ws n i j → Looks ws n j e
  stars_look l s = looks_less (looks_at l s.inside) s.less

  -- one more, at row j
  pub stars_more : {e u j : ℕ} → Looks ws n i d → Stars d e ws n i j → suc u ≡ e → kind_in ws j ≡ Star → Stars d u ws n i (j + 1)
  stars_more {j = j} l s z f =
      let here = stars_look l s in
      record {
        less = omega (arith, s.less);
        inside = (behind here (j + 1) refl f refl).inside;
        told = λ o t. s.told o (seen_star here o z f t);
      }
