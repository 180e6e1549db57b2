-- A body's statements, which its loop reads; a body's node kind; and what is read behind `else`.
use mathlib.Core.Path.{◌≡◌, ap, ◌∙◌, subst}
use mathlib.Core.List.{List}
use Prim.Native.Nat.{ℕ, ◌+◌, ◌-◌}
use native.Mathlib.Omega.{arith}
use Rattle.std.specs.Prelude.{Result, Ok}
use Rattle.rules.specs.Kinds.{KeywordElse, LBrace, RBrace, RParen}
use Rattle.rules.specs.Fits.{body_things}
use Rattle.rules.specs.Tree.{Tok, Tree, guard, then_body, else_body}
use Rattle.rules.specs.Nodes.{NodeThen, NodeElse}
use Rattle.rules.specs.Parse
use Rattle.rules.specs.Parse.{Out, P, ok, then, kind_at}
use Rattle.rules.specs.Grammar.{Stmt}
use Rattle.theory_grammar.proofs.Cases.{need_yes, else_yes}
use Rattle.theory_grammar.proofs.Sound.{Reads, stmt_sound}
use Rattle.parse_nodes.specs.Post.{kind_word, Met}
use Rattle.parse_nodes.specs.declared.At.{At}
use Rattle.parse_nodes.specs.declared.Refusal.{Refusal}
use Rattle.parse_nodes.proofs.Turn.{Any, Came, came_reads}
use Rattle.parse_nodes.proofs.Steps.{Listing}
use Rattle.parse_stmt.specs.Bodies.{body_node, BodyMet, else_at}

-- a statement of a body, which is one of the d constructs left
abbrev pub statement : List Tok → ℕ → P
statement ts d = Parse.stmt ts (d - 1) (Parse.body ts (d - 1))

-- all of them, behind the brace at row o
abbrev pub listing : List Tok → ℕ → ℕ → Out
listing ts d o = Parse.list_to ts RBrace body_things (statement ts d) (o + 1)

-- what is read of those of a body whose brace is at row o, its first node at n
abbrev pub Reading : List Tok → ℕ → ℕ → ℕ → List ℕ → At → List ℕ → Type 0
Reading ts o n d m s m' = Listing Any ts RBrace body_things (statement ts d) (listing ts d o) (o + 1) n m s m'

-- a call for one gave s
pub statement_came : (ts : List Tok) (d i n : ℕ) (m m' : List ℕ) (r : Result At Refusal) (s : At) → Met (statement ts d i) i n m m' r → r ≡ Ok s
    → Came (Reads ts Stmt (d - 1) i) ts (statement ts d i) i n m s m'
statement_came ts d i n m m' r s h e = came_reads ts Stmt (d - 1) (statement ts d i) i n m m' r s (stmt_sound ts (d - 1) i) h e

-- ---- a body's node kind: the row in front of the brace is the `)` of a guard, or `else`

module _ (ws : List ℕ) (n i : ℕ) where
  pub then_kind : (o : ℕ) → o ≡ i + 5 → kind_word ws n (i + 4) ≡ RParen → body_node (kind_word ws n (o - 1)) ≡ NodeThen
  unfolding body_node
  then_kind o e k = let z : o - 1 ≡ i + 4 = omega (arith, e) in ap (λ (x : ℕ). body_node (kind_word ws n x)) z ∙ ap body_node k

  pub else_kind : kind_word ws n i ≡ KeywordElse → body_node (kind_word ws n (i + 1 - 1)) ≡ NodeElse
  unfolding body_node
  else_kind k = let z : i + 1 - 1 ≡ i = omega arith in ap (λ (x : ℕ). body_node (kind_word ws n x)) z ∙ ap body_node k

pub met_kind : (o : Out) (k k' i n : ℕ) (m m' : List ℕ) (r : Result At Refusal) → k ≡ k' → BodyMet o k i n m m' r → BodyMet o k' i n m m' r
met_kind o k k' i n m m' r e h = subst (λ (x : ℕ). BodyMet o x i n m m' r) e h

-- ---- behind `else` at row k, behind the name w and the statements l

pub opened : (ts : List Tok) (d : ℕ) (w : List ℕ) (l : Tree) (k : ℕ) → kind_at ts k ≡ KeywordElse → kind_at ts (k + 1) ≡ LBrace
    → else_at ts d (Parse.body ts d) w l k ≡ then (Parse.body ts d (k + 1)) (λ e r. ok (guard w (then_body l) (else_body e)) r)
opened ts d w l k e b =
    else_yes ts d (Parse.body ts d) w (then_body l) k e
    ∙ ap (λ (x : Out). then x (λ e r. ok (guard w (then_body l) (else_body e)) r)) (need_yes ts LBrace (Parse.body ts d) (k + 1) b)
