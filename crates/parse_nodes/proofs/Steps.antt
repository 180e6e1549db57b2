-- The state and the memory behind a tree, from those behind its parts; and the loops that read a list of things.
use mathlib.Core.Path.{◌≡◌, refl, ap, ◌∙◌, subst}
use mathlib.Core.Bool.{Bool, true, false, not, cond}
use mathlib.Core.List.{List, ◌++◌}
use Prim.Native.Nat.{ℕ, ◌+◌, ◌*◌, ◌≤◌, ◌<◌}
use native.Mathlib.Omega.{arith}
use lib.Dec.{eqb}
use lib.ListN.{length}
use lib.Seq.{sets}
use borrow.Author.Tests.{eq-eqb, ne_eqb}
use Rattle.rules.specs.declared.Syntax.{Syntax}
use Rattle.rules.specs.Kinds.{KeywordElse}
use Rattle.rules.specs.Fits.{only}
use Rattle.rules.specs.Tree.{Tok, Tree, none, seq, is_variable, is_sum, hangs, count}
use Rattle.rules.specs.Nodes.{width, size, place_of, tree_words}
use Rattle.rules.specs.Parse
use Rattle.rules.specs.Parse.{Out, ok, no, P, then, kind_at}
use Rattle.theory_grammar.proofs.Laws.{sets_tree, words_none, words_seq}
use Rattle.parse_nodes.specs.Post.{state_at, counted_at, refused_at, Met, Stands}
use Rattle.parse_nodes.specs.Fitting.{retold_at}
use Rattle.parse_nodes.specs.declared.At.{At}
use Rattle.parse_nodes.proofs.Turn.{Came, Turn, start, ends, fails, again}

-- the state by its parts
pub stands_at : (i n : ℕ) (t : Tree) (m m' : List ℕ) (s : At) {r k p g : ℕ} {v b h : Bool}
    → s ≡ record { row = r; node = k; place = p; things = g; variable = v; summed = b; hanging = h }
    → r ≡ i + width t → k ≡ n + size t → p ≡ place_of i t → g ≡ count t → v ≡ is_variable t → b ≡ is_sum t → h ≡ hangs t
    → m' ≡ sets m (8 * n) (tree_words i t) → Stands i n t m s m'
stands_at i n t m m' s e r k p g v b h q = record {
  rows = ap (λ (x : At). x.row) e ∙ r;
  nodes = ap (λ (x : At). x.node) e ∙ k;
  place = ap (λ (x : At). x.place) e ∙ p;
  things = ap (λ (x : At). x.things) e ∙ g;
  variable = ap (λ (x : At). x.variable) e ∙ v;
  summed = ap (λ (x : At). x.summed) e ∙ b;
  hanging = ap (λ (x : At). x.hanging) e ∙ h;
  mem = q;
}

-- ---- memory: words behind one tree, and behind two of which the second's first node is the first's next

module _ (m : List ℕ) (i n : ℕ) (t : Tree) (s : At) (m₁ : List ℕ) (a : Stands i n t m s m₁) where
  pub mem_over : (m₂ ws : List ℕ) → m₂ ≡ sets m₁ (8 * s.node) ws → m₂ ≡ sets m (8 * n) (tree_words i t ++ ws)
  mem_over m₂ ws q = rw (q, a.mem, a.nodes, sets_tree m n i t)

  module _ (j : ℕ) (u : Tree) (s₂ : At) (m₂ : List ℕ) (b : Stands j s.node u m₁ s₂ m₂) where
    pub mem_both : (m₃ ws : List ℕ) → m₃ ≡ sets m₂ (8 * s₂.node) ws → m₃ ≡ sets m (8 * n) (tree_words i t ++ (tree_words j u ++ ws))
    mem_both m₃ ws q = mem_over m₃ (tree_words j u ++ ws) (rw (q, b.mem, b.nodes, sets_tree m₁ s.node j u))

    pub mem_join : m₂ ≡ sets m (8 * n) (tree_words i t ++ tree_words j u)
    mem_join = mem_over m₂ (tree_words j u) b.mem

-- ---- no `else` may stand behind a tree

abbrev pub Flat : Tree → Type 0
Flat t = hangs t ≡ false

pub flat_none : Flat none
unfolding hangs
flat_none = refl

-- behind a list it is as behind its last thing
pub flat_seq : (l t : Tree) → Flat t → Flat (seq l t)
unfolding hangs
flat_seq l t h = h

-- ---- lists

module _ (i n : ℕ) (m : List ℕ) (s : At) where
  pub stands_none : s ≡ state_at i n i → Stands i n none m s m
  unfolding width size place_of is_variable is_sum hangs count
  stands_none e = stands_at i n none m m s e (omega arith) (omega arith) refl refl refl refl refl (rw (words_none i))

  -- one thing more
  pub stands_seq : (m₁ : List ℕ) (t : Tree) (s₂ : At) (m₂ : List ℕ) (u : Tree) (s₃ : At) → Stands i n t m s m₁ → Stands s.row s.node u m₁ s₂ m₂
      → s₃ ≡ counted_at s₂ s.place (s.things + 1) → place_of i t ≡ i → Stands i n (seq t u) m s₃ m₂
  unfolding width size place_of is_variable is_sum hangs count
  stands_seq m₁ t s₂ m₂ u s₃ a b e p =
      stands_at i n (seq t u) m m₂ s₃ e (omega (arith, a.rows, b.rows)) (omega (arith, a.nodes, b.nodes)) (a.place ∙ p) (omega (arith, a.things)) refl b.summed b.hanging
      (rw (words_seq i t u, ← a.rows) (mem_join m i n t s m₁ a s.row u s₂ m₂ b))

-- a list with the property Q
pub record Listed (i : ℕ) (Q : Tree → Type 0) (t : Tree) : Type 0 where
  pub place : place_of i t ≡ i
  pub known : Q t

-- the loop that is to give `whole` has read a list with the property Q, and has things p to read up to a row of the kind `stop`, the set
-- a being told where the first row of one is refused
abbrev pub Listing : (Tree → Type 0) → List Tok → (stop a : ℕ) → P → Out → ℕ → ℕ → List ℕ → At → List ℕ → Type 0
Listing Q ts stop a p whole i n m s m' = Turn (Listed i Q) ts (λ r. not (eqb (kind_at ts r) stop)) (Parse.list_step ts a p) whole i n m s m'

module _ (Q : Tree → Type 0) (ts : List Tok) (stop a : ℕ) (p : P) (whole : Out) (i n : ℕ) (m : List ℕ) (s : At) where
  pub list_start : whole ≡ Parse.list_to ts stop a p i → i ≤ length ts → s ≡ state_at i n i → Q none → Listing Q ts stop a p whole i n m s m
  unfolding Parse.list_to Parse.loop width place_of count
  list_start e h q g =
      let r : s.row ≡ i = ap (λ (x : At). x.row) q in
      start (Listed i Q) ts _ _ whole i n m s m none (rw r e) (stands_none i n m s q) (omega (arith, r)) (omega arith) (record { place = refl; known = g })

  module _ (m' : List ℕ) (c : Listing Q ts stop a p whole i n m s m') where
    -- the loop ends at the row that stops it
    pub list_ends : kind_at ts s.row ≡ stop → whole ≡ ok c.tree s.row
    list_ends e = ends (Listed i Q) ts _ _ whole i n m s m' c (rw (eq-eqb (kind_at ts s.row) stop e))

    module _ (e : kind_at ts s.row ≡ stop → ⊥) where
      goes_on : not (eqb (kind_at ts s.row) stop) ≡ true
      goes_on = rw (ne_eqb (kind_at ts s.row) stop e)

      pub list_fails : (why : Syntax) (q : ℕ) (m'' : List ℕ) → p s.row ≡ no why q
          → Met whole i n m m'' (refused_at (retold_at (a + cond s.hanging (only KeywordElse) 0) s.row why q) q)
      unfolding Parse.list_step Parse.else_behind Parse.or then retold_at
      list_fails why q m'' f = fails (Listed i Q) ts _ _ whole i n m s m' c goes_on _ q m'' (rw (f, c.stands.hanging))

      -- the same behind a thing without an open `if`
      pub list_fails_flat : s.hanging ≡ false → (why : Syntax) (q : ℕ) (m'' : List ℕ) → p s.row ≡ no why q
          → Met whole i n m m'' (refused_at (retold_at a s.row why q) q)
      list_fails_flat g why q m'' f =
          let e : a + cond s.hanging (only KeywordElse) 0 ≡ a = ap (λ (b : Bool). a + cond b (only KeywordElse) 0) g ∙ omega arith in
          subst (λ (x : ℕ). Met whole i n m m'' (refused_at (retold_at x s.row why q) q)) e (list_fails why q m'' f)

      -- one thing more, with which the list has the property R
      pub list_again : (R : Tree → Type 0) (C : Tree → ℕ → Type 0) (s₂ : At) (m₂ : List ℕ) (s₃ : At) → (v : Came C ts (p s.row) s.row s.node m' s₂ m₂) → s.row < s₂.row
          → s₃ ≡ counted_at s₂ s.place (s.things + 1) → R (seq c.tree v.tree) → Listing R ts stop a p whole i n m s₃ m₂
      unfolding Parse.list_step Parse.or then width count place_of
      list_again R C s₂ m₂ s₃ v up f g =
          let r : s₃.row ≡ s₂.row = ap (λ (x : At). x.row) f in
          again (Listed i Q) ts _ _ whole i n m s m' c goes_on (Listed i R) (seq c.tree v.tree) s₃ m₂ (rw (v.is, r))
          (stands_seq i n m s m' c.tree s₂ m₂ v.tree s₃ c.stands v.stands f c.known.place)
          (omega (arith, r)) (omega (arith, r, v.inside)) (omega (arith, c.counts, v.stands.rows)) (record { place = refl; known = g })
