-- Statements: what a call for an expression or a body gives, and the state and the memory behind each tree, from those behind its parts.
use mathlib.Core.Path.{◌≡◌, refl, sym, ap, ◌∙◌, subst}
use mathlib.Core.Bool.{true, false}
use mathlib.Core.List.{List, ◌++◌, append_assoc}
use Prim.Native.Nat.{ℕ, ◌+◌, ◌*◌, ◌≤◌}
use native.Mathlib.Omega.{arith}
use lib.ListN.{length}
use lib.Seq.{sets}
use borrow.Author.Tests.{ne_eqb}
use Rattle.rules.specs.declared.Syntax.{Syntax}
use Rattle.rules.specs.Kinds.{Semicolon}
use Rattle.rules.specs.Fits.{only, wrong}
use Rattle.rules.specs.Tree.{Tok, Tree, none, decl, ret, plain, assign, guard, then_body, else_body, yield, is_variable, is_sum, hangs, count}
use Rattle.rules.specs.Nodes.{node, missing, width, size, place_of, decl_node, assign_node, node_words, tree_words}
use Rattle.rules.specs.Parse
use Rattle.rules.specs.Parse.{Out, ok, no, P, then, kind_at}
use Rattle.rules.specs.Grammar.{Add}
use Rattle.theory_grammar.proofs.Laws.{sets_append, sets_tree, tree_length, nodes_within_rows, words_none, words_decl, words_ret}
use Rattle.theory_grammar.proofs.Laws.{words_plain, words_assign, words_guard, words_then, words_else}
use Rattle.theory_grammar.proofs.Cases.{then_ok, then_no}
use Rattle.theory_grammar.proofs.Runs.{All}
use Rattle.theory_grammar.proofs.Sound.{Reads, expr_sound}
use Rattle.parse_nodes.specs.Post.{kind_word, Tells, state_at, hanging_at, refused_at, Met, Stands}
use Rattle.parse_nodes.specs.Fitting.{onward_words}
use Rattle.parse_nodes.specs.declared.At.{At}
use Rattle.parse_nodes.specs.declared.Refusal.{Refusal}
use Rattle.std.specs.Prelude.{Result, Ok, Err}
use Rattle.parse_nodes.proofs.Turn.{Came, came_reads, refused, told}
use Rattle.parse_nodes.proofs.Steps.{stands_at, mem_over, mem_both}
use Rattle.parse_nodes.proofs.Fitting.{end_met, end_unmet}
use Rattle.parse_stmt.specs.Bodies.{BodyMet, Guarded}

-- ---- expressions

-- the call for an expression at row i, its first node at n, with d constructs left
module _ {ts : List Tok} {d i n : ℕ} {m m' : List ℕ} {r : Result At Refusal} (h : Met (Parse.add ts (Parse.inner ts d) i) i n m m' r) where
  pub expr_came : {s : At} → r ≡ Ok s → Came (Reads ts Add d i) ts (Parse.expr ts d i) i n m s m'
  unfolding Parse.expr
  expr_came {s} e = came_reads ts Add d (Parse.expr ts d i) i n m m' r s (expr_sound ts d i) h e

-- it refused
pub expr_refused : (ts : List Tok) (d i n : ℕ) (m m' : List ℕ) (r : Result At Refusal) (x : Refusal)
    → Met (Parse.add ts (Parse.inner ts d) i) i n m m' r → r ≡ Err x → (f : Tree → P) → then (Parse.expr ts d i) f ≡ no x.why x.row
unfolding Parse.expr
expr_refused ts d i n m m' r x h e f = then_no _ f x.why x.row (refused (Parse.expr ts d i) i n m m' r x h e)

-- it gave s: the row behind it is `;`, or is not
module _ {ts : List Tok} {ws : List ℕ} {k : ℕ} (tells : Tells ts ws k) {C : Tree → ℕ → Type 0} (d : ℕ) {i n : ℕ} {m m' : List ℕ} {s : At}
    (v : Came C ts (Parse.expr ts d i) i n m s m') (f : Tree → Tree) where
  pub expr_ends : kind_word ws k s.row ≡ Semicolon
      → then (Parse.expr ts d i) (λ e j. Parse.end ts Semicolon e (ok (f e)) j) ≡ ok (f v.tree) (s.row + 1)
  unfolding Parse.end
  expr_ends q = then_ok _ _ v.tree s.row v.is ∙ end_met ts ws k tells _ Semicolon v.tree _ s.row q

  pub expr_open : (kind_word ws k s.row ≡ Semicolon → ⊥)
      → then (Parse.expr ts d i) (λ e j. Parse.end ts Semicolon e (ok (f e)) j)
      ≡ no (wrong (onward_words ws k s.summed s.row + only Semicolon)) s.row
  unfolding Parse.end
  expr_open q =
      then_ok _ _ v.tree s.row v.is
      ∙ end_unmet ts ws k tells _ Semicolon v.tree _ s.row s.summed v.stands.summed q

-- behind a target and its sign at row j
pub assign_is : (ts : List Tok) (d : ℕ) (p : P) (e : Tree) (j : ℕ)
    → Parse.assign_by ts d p true e j ≡ then (Parse.expr ts d (j + 1)) (λ r k. Parse.end ts Semicolon r (ok (assign (kind_at ts j) e r)) k)
unfolding Parse.assign_by
assign_is ts d p e j = refl

-- ---- the state and the memory behind a statement with no body

module _ (i n : ℕ) (m m₁ : List ℕ) (s : At) (t : Tree) (s₂ : At) (m₂ : List ℕ) where
  pub stands_decl : (k : ℕ) (w : List ℕ) → Stands (i + 1 + 1 + 1) n t m s m₁ → s₂ ≡ state_at (s.row + 1) (s.node + 1) (i + 1)
      → m₂ ≡ sets m₁ (8 * s.node) (node_words (node (decl_node k) (i + 1) (i + 1) 1)) → Stands i n (decl k w t) m s₂ m₂
  unfolding width size place_of is_variable is_sum hangs count
  stands_decl k w a e q =
      let r : i + 3 ≡ i + 1 + 1 + 1 = omega arith in
      stands_at i n (decl k w t) m m₂ s₂ e (omega (arith, a.rows)) (omega (arith, a.nodes)) refl refl refl refl refl
      (rw (words_decl i k w t, r) (mem_over m (i + 1 + 1 + 1) n t s m₁ a m₂ _ q))

  pub stands_ret : Stands (i + 1) n t m s m₁ → s₂ ≡ state_at (s.row + 1) (s.node + 1) (i + 1)
      → m₂ ≡ sets m₁ (8 * s.node) (node_words (node 19 (i + 1) missing 1)) → Stands i n (ret t) m s₂ m₂
  unfolding width size place_of is_variable is_sum hangs count
  stands_ret a e q =
      stands_at i n (ret t) m m₂ s₂ e (omega (arith, a.rows)) (omega (arith, a.nodes)) refl refl refl refl refl
      (rw (words_ret i t) (mem_over m (i + 1) n t s m₁ a m₂ _ q))

  pub stands_plain : Stands i n t m s m₁ → s₂ ≡ state_at (s.row + 1) (s.node + 1) s.place
      → m₂ ≡ sets m₁ (8 * s.node) (node_words (node 13 s.place missing 1)) → Stands i n (plain t) m s₂ m₂
  unfolding width size place_of is_variable is_sum hangs count
  stands_plain a e q =
      stands_at i n (plain t) m m₂ s₂ e (omega (arith, a.rows)) (omega (arith, a.nodes)) a.place refl refl refl refl
      (rw (words_plain i t, ← a.place) (mem_over m i n t s m₁ a m₂ _ q))

  -- a target, a sign's row and a value
  pub stands_assign : (u : Tree) (s₃ : At) (m₃ : List ℕ) (k : ℕ) → Stands i n t m s m₁ → Stands (s.row + 1) s.node u m₁ s₂ m₂
      → s₃ ≡ state_at (s₂.row + 1) (s₂.node + 1) s.place
      → m₃ ≡ sets m₂ (8 * s₂.node) (node_words (node (assign_node k) s.place missing 2)) → Stands i n (assign k t u) m s₃ m₃
  unfolding width size place_of is_variable is_sum hangs count
  stands_assign u s₃ m₃ k a b e q =
      stands_at i n (assign k t u) m m₃ s₃ e (omega (arith, a.rows, b.rows)) (omega (arith, a.nodes, b.nodes)) a.place
      refl refl refl refl
      (rw (words_assign i k t u, ← a.rows, ← a.place) (mem_both m i n t s m₁ a (s.row + 1) u s₂ m₂ b m₃ _ q))

-- ---- a body

-- a call gave s, behind the statements of the body whose brace is at row i, and its node of a kind
pub record Bodied (ts : List Tok) (o : Out) (kind i n : ℕ) (m : List ℕ) (s : At) (m' : List ℕ) : Type 0 where
  pub list : Tree
  pub is : o ≡ ok list s.row
  pub rows : s.row ≡ i + (1 + width list + 1)
  pub nodes : s.node ≡ n + size list + 1
  pub mem : m' ≡ sets m (8 * n) (tree_words (i + 1) list ++ node_words (node kind i missing (count list)))
  pub inside : s.row ≤ length ts
  pub few : size list ≤ width list

pub bodied : (ts : List Tok) (o : Out) (kind i n : ℕ) (m m' : List ℕ) (r : Result At Refusal) (s : At)
    → All (λ l j. (j ≡ i + (1 + width l + 1)) × (j ≤ length ts) × (count l ≤ width l)) o
    → BodyMet o kind i n m m' r → r ≡ Ok s → Bodied ts o kind i n m s m'
bodied ts (ok l j) kind i n m m' r s a h e =
    let q : s ≡ state_at j (n + size l + 1) i = cc (h.0, e) in
    let row : s.row ≡ j = ap (λ (x : At). x.row) q in
    record {
      list = l;
      is = ap (λ (k : ℕ). ok l k) (sym row);
      rows = row ∙ a.0;
      nodes = ap (λ (x : At). x.node) q;
      mem = h.1;
      inside = omega (arith, row, a.1);
      few = nodes_within_rows l;
    }
bodied ts (no why p) kind i n m m' r s a h e = let z : ◌≡◌ {A = ℕ} 0 1 = cc (h, e) in absurd (omega arith)

pub body_refused : (o : Out) (kind i n : ℕ) (m m' : List ℕ) (r : Result At Refusal) (x : Refusal)
    → BodyMet o kind i n m m' r → r ≡ Err x → o ≡ no x.why x.row
body_refused (ok l j) kind i n m m' r x h e = let z : ◌≡◌ {A = ℕ} 0 1 = cc (h.0, e) in absurd (omega arith)
body_refused (no why p) kind i n m m' r x h e = told why p x (sym h ∙ e)

-- an answer, from what the parser says
pub body_ok : (o : Out) (kind i n : ℕ) (l : Tree) (j : ℕ) (m m' : List ℕ) (s : At) → o ≡ ok l j → s ≡ state_at j (n + size l + 1) i
    → m' ≡ sets m (8 * n) (tree_words (i + 1) l ++ node_words (node kind i missing (count l))) → BodyMet o kind i n m m' (Ok s)
body_ok o kind i n l j m m' s e q h = subst (λ (x : Out). BodyMet x kind i n m m' (Ok s)) (sym e) (ap Ok q, h)

pub body_no : (o : Out) (kind i n : ℕ) (why : Syntax) (p : ℕ) (m m' : List ℕ) → o ≡ no why p → BodyMet o kind i n m m' (refused_at why p)
body_no o kind i n why p m m' e = subst (λ (y : Out). BodyMet y kind i n m m' (refused_at why p)) (sym e) refl

-- ---- a guard

-- with an else body it does not hang
else_shuts : (w : List ℕ) (b l : Tree) → hangs (guard w b (else_body l)) ≡ false
unfolding hangs yield
else_shuts w b l = ne_eqb (length (yield (else_body l))) 0 (λ e. omega (arith, e))

-- the name's node, and words behind it
name_over : (m : List ℕ) (n p : ℕ) (ws : List ℕ)
    → sets m (8 * n) (node_words (node 1 p p 0) ++ ws) ≡ sets (sets m (8 * n) (node_words (node 1 p p 0))) (8 * (n + 1)) ws
unfolding node_words
name_over m n p ws =
    sets_append (node_words (node 1 p p 0)) m ws (8 * n)
    ∙ ap (λ (k : ℕ). sets (sets m (8 * n) (node_words (node 1 p p 0))) k ws) (omega arith)

module _ (ts : List Tok) (i n : ℕ) (m m₁ : List ℕ) (s : At) where
  -- behind the then body
  pub guarded : (o : Out) (b : ℕ) (m₀ : List ℕ) (v : Bodied ts o 21 b (n + 1) m₀ s m₁) → b ≡ i + 5
      → m₀ ≡ sets m (8 * n) (node_words (node 1 (i + 3) (i + 3) 0)) → Guarded i n v.list m s m₁
  unfolding width size
  guarded o b m₀ v e q = record {
    rows = omega (arith, v.rows, e);
    nodes = omega (arith, v.nodes);
    mem =
        v.mem
        ∙ rw (e, q)
        (sym (ap (λ (ws : List ℕ). sets m (8 * n) (node_words (node 1 (i + 3) (i + 3) 0) ++ ws)) (words_then (i + 5) v.list)
        ∙ name_over m n (i + 3) (tree_words (i + 5 + 1) v.list ++ node_words (node 21 (i + 5) missing (count v.list)))));
  }

  module _ (l : Tree) (a : Guarded i n l m s m₁) where
    -- words behind it
    guarded_over : (m₂ ws : List ℕ) → m₂ ≡ sets m₁ (8 * s.node) ws
        → m₂ ≡ sets m (8 * n) (node_words (node 1 (i + 3) (i + 3) 0) ++ (tree_words (i + 5) (then_body l) ++ ws))
    unfolding node_words
    guarded_over m₂ ws q =
        let k : List ℕ = node_words (node 1 (i + 3) (i + 3) 0) in
        let b : List ℕ = tree_words (i + 5) (then_body l) in
        let e : 8 * s.node ≡ 8 * n + length (k ++ b) = omega (arith, a.nodes, tree_length (i + 5) (then_body l)) in
        q ∙ ap (λ (x : List ℕ). sets x (8 * s.node) ws) a.mem ∙ ap (λ (x : ℕ). sets (sets m (8 * n) (k ++ b)) x ws) e
        ∙ sym (sets_append (k ++ b) m ws (8 * n)) ∙ ap (λ (x : List ℕ). sets m (8 * n) x) (append_assoc k b ws)

    pub stands_guard : (w : List ℕ) (s₂ : At) (m₂ : List ℕ) → s₂ ≡ hanging_at s.row (s.node + 1) (i + 1)
        → m₂ ≡ sets m₁ (8 * s.node) (node_words (node 20 (i + 1) missing 2)) → Stands i n (guard w (then_body l) none) m s₂ m₂
    unfolding width size place_of is_variable is_sum hangs yield count
    stands_guard w s₂ m₂ e q =
        stands_at i n (guard w (then_body l) none) m m₂ s₂ e (omega (arith, a.rows)) (omega (arith, a.nodes)) refl refl refl refl refl
        (rw (words_guard i w (then_body l) none, words_none) (guarded_over m₂ _ q))

    -- with an else body
    module _ (w : List ℕ) (o : Out) (s₂ : At) (m₂ : List ℕ) (v : Bodied ts o 22 (s.row + 1) s.node m₁ s₂ m₂) where
      -- words behind that
      else_over : (m₃ ws : List ℕ) → m₃ ≡ sets m₂ (8 * s₂.node) ws
          → m₃ ≡ sets m₁ (8 * s.node) (tree_words s.row (else_body v.list) ++ ws)
      unfolding size
      else_over m₃ ws q =
          let b : Tree = else_body v.list in
          let two : s.row + 2 ≡ s.row + 1 + 1 = omega arith in
          let e : m₂ ≡ sets m₁ (8 * s.node) (tree_words s.row b) = rw (words_else s.row v.list, two) v.mem in
          let k : s₂.node ≡ s.node + size b = omega (arith, v.nodes) in
          q ∙ rw (e, k) (sym (sets_tree m₁ s.node s.row b ws))

      pub stands_otherwise : (s₃ : At) (m₃ : List ℕ) → s₃ ≡ state_at s₂.row (s₂.node + 1) (i + 1)
          → m₃ ≡ sets m₂ (8 * s₂.node) (node_words (node 20 (i + 1) missing 3))
          → Stands i n (guard w (then_body l) (else_body v.list)) m s₃ m₃
      unfolding width size place_of is_variable is_sum count
      stands_otherwise s₃ m₃ e q =
          let r : i + 5 + width (then_body l) ≡ s.row = sym a.rows in
          stands_at i n (guard w (then_body l) (else_body v.list)) m m₃ s₃ e
          (omega (arith, a.rows, v.rows)) (omega (arith, a.nodes, v.nodes)) refl refl refl refl
          (sym (else_shuts w (then_body l) v.list))
          (rw (words_guard i w (then_body l) (else_body v.list), r) (guarded_over m₃ _ (else_over m₃ _ q)))
