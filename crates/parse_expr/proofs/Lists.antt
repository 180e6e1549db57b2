-- What holds at each turn of the loops that read fields and calls behind an atom, and arguments.
use mathlib.Core.Path.{◌≡◌, refl, sym, ap, ◌∙◌}
use mathlib.Core.Bool.{Bool, true, false, cond}
use mathlib.Core.List.{List}
use Prim.Native.Nat.{ℕ, ◌+◌, ◌-◌, ◌<◌}
use native.Mathlib.Omega.{arith}
use lib.Dec.{eqb}
use borrow.Author.Tests.{eq-eqb, ne_eqb}
use Rattle.rules.specs.declared.Syntax.TheVariants.{TooDeep}
use Rattle.rules.specs.Kinds.{Dot, Comma, LParen, RParen}
use Rattle.rules.specs.Fits.{only, first_arguments, retold}
use Rattle.rules.specs.Tree.{Tok, Tree, group, one, more, count}
use Rattle.rules.specs.Nodes.{width}
use Rattle.rules.specs.Parse
use Rattle.rules.specs.Parse.{ok, no, then, or, kind_at, whole}
use Rattle.rules.specs.Grammar.{Add, Basic}
use Rattle.theory_grammar.proofs.Laws.{is_wide}
use Rattle.theory_grammar.proofs.Cases.{then_ok, then_no, or_ok, inner_none, inner_whole, atom_paren, args_is, arg_step, prim_is}
use Rattle.theory_grammar.proofs.Runs.{all_ok}
use Rattle.theory_grammar.proofs.Sound.{Reads, post_sound, inner_sound}
use Rattle.theory_grammar.proofs.Ends.{On, ends_post}
use Rattle.parse_nodes.specs.Post.{counted_at, refused_at, Met, Stands}
use Rattle.parse_nodes.specs.Fitting.{retold_at}
use Rattle.parse_nodes.specs.declared.At.{At}
use Rattle.parse_nodes.specs.declared.Refusal.{Refusal}
use Rattle.std.specs.Prelude.{Result, Ok, Err}
use Rattle.parse_nodes.proofs.Turn.{Any, Came, came_reads, met_ok, met_no, Turn, start, ends, fails, again}
use Rattle.parse_expr.proofs.Trees.{stands_one, stands_more}
use Rattle.parse_expr.proofs.Given.{was_refused, Fit, turn_fit}

-- ---- fields and calls

-- `prim` has read an atom with its fields and calls up to s
pub record Dotted (ts : List Tok) (d i n : ℕ) (m : List ℕ) (s : At) (m' : List ℕ) : Type 0 where
  pub turn : Turn (λ u. Reads ts Basic d i u s.row) ts (λ r. eqb (kind_at ts r) Dot) (Parse.post ts (Parse.inner ts d))
      (Parse.prim ts (Parse.inner ts d) i) i n m s m'

pub dotted_start : {ts : List Tok} {d i n : ℕ} {m : List ℕ} {s : At} {m' : List ℕ}
    → Came (Reads ts Basic d i) ts (Parse.atom ts (Parse.inner ts d) i) i n m s m' → Dotted ts d i n m s m'
dotted_start {ts} {d} {i} w = record {
  turn =
      start _ _ _ _ _ _ _ _ _ _ w.tree (prim_is ts (Parse.inner ts d) i ∙ then_ok _ _ w.tree _ w.is)
      w.stands w.inside w.counts w.known;
}

module _ {ts : List Tok} {d i n : ℕ} {m : List ℕ} {s : At} {m' : List ℕ} (w : Dotted ts d i n m s m') where
  pub dotted_fit : Fit ts i n m s m'
  dotted_fit = turn_fit w.turn

  pub dotted_done : (kind_at ts s.row ≡ Dot → ⊥) → Met (Parse.prim ts (Parse.inner ts d) i) i n m m' (Ok s)
  dotted_done h =
      met_ok _ i n w.turn.tree m m' s (ends _ _ _ _ _ _ _ _ _ _ w.turn (ne_eqb (kind_at ts s.row) Dot h)) w.turn.stands

  -- `post` answers r, whatever tree s stands behind
  module _ (b : kind_at ts s.row ≡ Dot) (m₂ : List ℕ) (r : Result At Refusal)
      (h : (t : Tree) → Stands i n t m s m' → Met (Parse.post ts (Parse.inner ts d) t s.row) i n m m₂ r) where
    dot : eqb (kind_at ts s.row) Dot ≡ true
    dot = eq-eqb (kind_at ts s.row) Dot b

    pub dotted_fails : {x : Refusal} → r ≡ Err x → Met (Parse.prim ts (Parse.inner ts d) i) i n m m₂ (Err x)
    dotted_fails {x} e =
        fails _ _ _ _ _ _ _ _ _ _ w.turn dot x.why x.row m₂ (was_refused i n m m₂ (h w.turn.tree w.turn.stands) e)

    module _ {s₂ : At} (e : r ≡ Ok s₂) where
      dotted_came : Came (Reads ts Basic d i) ts (Parse.post ts (Parse.inner ts d) w.turn.tree s.row) i n m s₂ m₂
      dotted_came =
          came_reads ts Basic d _ i n m m₂ r s₂
          (post_sound ts d (Parse.inner ts d) (inner_sound ts d) i w.turn.tree s.row w.turn.known dot)
          (h w.turn.tree w.turn.stands) e

      pub dotted_on : s.row < s₂.row
      dotted_on =
          (all_ok (On ts i s.row) (Parse.post ts (Parse.inner ts d) w.turn.tree s.row) dotted_came.tree s₂.row
          (ends_post ts d i w.turn.tree s.row w.turn.stands.rows) dotted_came.is).3

      pub dotted_again : Dotted ts d i n m s₂ m₂
      dotted_again =
          let v = dotted_came in
          record {
            turn =
                again _ _ _ _ _ _ _ _ _ _ w.turn dot (λ u. Reads ts Basic d i u s₂.row) v.tree s₂ m₂
                v.is v.stands dotted_on v.inside v.counts v.known;
          }

-- ---- a group, whose expression ends in front of row j

pub grouped : (ts : List Tok) (d i : ℕ) (u : Tree) (j : ℕ) → kind_at ts i ≡ LParen → (d ≡ 0 → ⊥)
    → Parse.add ts (Parse.inner ts (d - 1)) (i + 1) ≡ ok u j
    → Parse.atom ts (Parse.inner ts d) i ≡ Parse.end_in ts (only RParen) RParen u (ok (group u)) j
unfolding Parse.end
grouped ts d i u j k h e = atom_paren ts (Parse.inner ts d) i k ∙ then_ok _ _ u j (inner_whole ts i d h ∙ e)

-- ---- arguments, behind the parenthesis at row o

-- 32 is told no set
or_deep : (s i r : ℕ) → or s i (no TooDeep r) ≡ no TooDeep r
unfolding or retold
or_deep s i r = go (eqb r i)
  where
    go : (b : Bool) → no (cond b TooDeep TooDeep) r ≡ no TooDeep r
    go true = refl
    go false = refl

module _ (ts : List Tok) (d o n : ℕ) (m : List ℕ) where
  pub args_deep : d ≡ 0 → Met (Parse.args ts (Parse.inner ts d) o) (o + 1) n m m (refused_at TooDeep o)
  args_deep e =
      met_no _ (o + 1) n TooDeep o m m
      (args_is ts (Parse.inner ts d) o ∙ then_no _ _ TooDeep o (rw (inner_none ts whole o d e) (or_deep first_arguments (o + 1) o)))

  -- the first one is refused
  pub args_refused : {r : Result At Refusal} {x : Refusal} (m'' : List ℕ) → (d ≡ 0 → ⊥)
      → Met (Parse.add ts (Parse.inner ts (d - 1)) (o + 1)) (o + 1) n m m'' r → r ≡ Err x
      → Met (Parse.args ts (Parse.inner ts d) o) (o + 1) n m m'' (refused_at (retold_at first_arguments (o + 1) x.why x.row) x.row)
  unfolding or then retold_at
  args_refused {x = x} m'' h f e =
      let f : Parse.add ts (Parse.inner ts (d - 1)) (o + 1) ≡ no x.why x.row = was_refused (o + 1) n m m'' f e in
      met_no _ (o + 1) n _ x.row m m'' (args_is ts (Parse.inner ts d) o ∙ rw (inner_whole ts o d h, f))

-- `args` has read arguments up to s
pub record Argued (ts : List Tok) (d o n : ℕ) (m : List ℕ) (s : At) (m' : List ℕ) : Type 0 where
  pub turn : Turn Any ts (λ r. eqb (kind_at ts r) Comma) (Parse.arg_step ts (Parse.inner ts d))
      (Parse.args ts (Parse.inner ts d) o) (o + 1) n m s m'

module _ {ts : List Tok} {d o n : ℕ} {m : List ℕ} {s : At} {m' : List ℕ} where
  pub argued_start : {s₂ : At} → (d ≡ 0 → ⊥)
      → Came (Reads ts Add (d - 1) (o + 1)) ts (Parse.add ts (Parse.inner ts (d - 1)) (o + 1)) (o + 1) n m s m'
      → s₂ ≡ counted_at s s.place 1 → Argued ts d o n m s₂ m'
  unfolding count width
  argued_start {s₂ = s₂} h w e =
      let r : s₂.row ≡ s.row = ap (λ (x : At). x.row) e in
      record {
        turn =
            start Any ts _ _ _ (o + 1) n m s₂ m' (one w.tree)
            (args_is ts (Parse.inner ts d) o
            ∙ then_ok _ _ w.tree s₂.row (or_ok _ _ _ w.tree s₂.row (inner_whole ts o d h ∙ w.is ∙ ap (ok w.tree) (sym r))))
            (stands_one (o + 1) n m m' s w.tree s₂ w.stands e) (omega (arith, r, w.inside)) (is_wide w.known.is) tt;
      }

module _ {ts : List Tok} {d o n : ℕ} {m : List ℕ} {s : At} {m' : List ℕ} (w : Argued ts d o n m s m') where
  pub argued_fit : Fit ts (o + 1) n m s m'
  argued_fit = turn_fit w.turn

  pub argued_done : (kind_at ts s.row ≡ Comma → ⊥) → Met (Parse.args ts (Parse.inner ts d) o) (o + 1) n m m' (Ok s)
  argued_done h =
      met_ok _ (o + 1) n w.turn.tree m m' s (ends _ _ _ _ _ _ _ _ _ _ w.turn (ne_eqb (kind_at ts s.row) Comma h)) w.turn.stands

  module _ (b : kind_at ts s.row ≡ Comma) (h : d ≡ 0 → ⊥) where
    comma : eqb (kind_at ts s.row) Comma ≡ true
    comma = eq-eqb (kind_at ts s.row) Comma b

    pub argued_fails : {r : Result At Refusal} {x : Refusal} (m'' : List ℕ)
        → Met (Parse.add ts (Parse.inner ts (d - 1)) (s.row + 1)) (s.row + 1) s.node m' m'' r → r ≡ Err x
        → Met (Parse.args ts (Parse.inner ts d) o) (o + 1) n m m'' (Err x)
    argued_fails {x = x} m'' f e =
        fails _ _ _ _ _ _ _ _ _ _ w.turn comma x.why x.row m''
        (arg_step ts (Parse.inner ts d) w.turn.tree s.row
        ∙ then_no _ _ x.why x.row (inner_whole ts s.row d h ∙ was_refused (s.row + 1) s.node m' m'' f e))

    pub argued_again : {C : Tree → ℕ → Type 0} {s₂ : At} {m₂ : List ℕ} {s₃ : At}
        → Came C ts (Parse.add ts (Parse.inner ts (d - 1)) (s.row + 1)) (s.row + 1) s.node m' s₂ m₂
        → s₃ ≡ counted_at s₂ s.place (s.things + 1) → Argued ts d o n m s₃ m₂
    unfolding count width
    argued_again {s₂ = s₂} {m₂ = m₂} {s₃ = s₃} v e =
        let r : s₃.row ≡ s₂.row = ap (λ (x : At). x.row) e in
        let u : Tree = more w.turn.tree v.tree in
        record {
          turn =
              again Any ts _ _ _ _ _ _ _ _ w.turn comma Any u s₃ m₂
              (arg_step ts (Parse.inner ts d) w.turn.tree s.row
              ∙ then_ok _ _ v.tree s₂.row (inner_whole ts s.row d h ∙ v.is) ∙ ap (ok u) (sym r))
              (stands_more (o + 1) n m m' s w.turn.tree s₂ m₂ v.tree s₃ w.turn.stands v.stands e)
              (omega (arith, r, v.stands.rows)) (omega (arith, r, v.inside)) (omega (arith, w.turn.counts)) tt;
        }
