-- Expressions: the state and the memory behind each tree, from those behind its parts; and a call's end.
use mathlib.Core.Path.{◌≡◌, refl, sym, ap, ◌∙◌}
use mathlib.Core.Bool.{Bool, true, false}
use mathlib.Core.List.{List}
use Prim.Native.Nat.{ℕ, ◌+◌, ◌*◌, ◌/◌, ◌%◌, ◌^◌, ◌<◌}
use native.Mathlib.Omega.{arith}
use lib.ListN.{get_or}
use lib.Seq.{sets}
use Rattle.rules.specs.declared.Syntax.TheVariants.{CallOnOther}
use Rattle.rules.specs.Kinds.{Number}
use Rattle.rules.specs.Tree.{Tok, bits_in, Tree, none, num, var, star, group, field, call, bin, one, more, is_variable, is_sum, hangs, count}
use Rattle.rules.specs.Nodes.{NodeVariable, NodeNumber, NodeDereference, NodeCall, node, fact_node, missing, width, size, place_of, node_words}
use Rattle.rules.specs.Parse
use Rattle.rules.specs.Parse.{ok, no, pick, tok_at}
use Rattle.theory_grammar.proofs.Laws.{words_none, words_num, words_var, words_star, words_group, words_field, words_call, words_bin, words_one, words_more}
use Rattle.parse_nodes.specs.Post.{kind_word, Tells, state_at, variable_at, counted_at, Met, Stands}
use Rattle.parse_nodes.specs.declared.At.{At}
use Rattle.parse_nodes.specs.declared.Refusal.{Refusal}
use Rattle.std.specs.Prelude.{Result}
use Rattle.parse_nodes.proofs.Rows.{tells_value, word_at_lem, word_here, low_word, high_word}
use Rattle.parse_nodes.proofs.Turn.{met_ok}
use Rattle.parse_nodes.proofs.Steps.{stands_at, mem_over, mem_both, mem_join}
use Rattle.parse_signs.specs.Joined.{Joint}
use Rattle.parse_expr.specs.Written.{CallEnd, FieldEnd}

-- the state behind a group, from the one in front of its `)`
abbrev pub group_at : At → At
group_at s =
    record { row = s.row + 1; node = s.node; place = s.place; things = 0; variable = s.variable; summed = false; hanging = false }

-- ---- the state and the memory behind a tree

module _ (i n : ℕ) (m m₁ : List ℕ) (s : At) where
  stands_num : (v low high : ℕ) → v % 2 ^ 32 ≡ low → v / 2 ^ 32 ≡ high → s ≡ state_at (i + 1) (n + 1) i
      → m₁ ≡ sets m (8 * n) (node_words (fact_node NodeNumber i missing 0 low high 0 0)) → Stands i n (num v) m s m₁
  unfolding width size place_of is_variable is_sum hangs count
  stands_num v low high a b e q = stands_at i n (num v) m m₁ s e refl refl refl refl refl refl refl (rw (words_num i v, a, b) q)

  -- a number's row, by its words
  pub stands_number : (ts : List Tok) (ws : List ℕ) (c : ℕ) → Tells ts ws c → kind_word ws c i ≡ Number → get_or ws (i * 8 + 5) 0 < 2 ^ 32
      → s ≡ state_at (i + 1) (n + 1) i
      → m₁ ≡ sets m (8 * n) (node_words (fact_node NodeNumber i missing 0 (get_or ws (i * 8 + 5) 0) (get_or ws (i * 8 + 6) 0) 0 0))
      → Stands i n (num (bits_in (tok_at ts i))) m s m₁
  stands_number ts ws c tl k f e q =
      let low = get_or ws (i * 8 + 5) 0 in
      let high = get_or ws (i * 8 + 6) 0 in
      let h : i < c = word_here ws c i Number k refl in
      let v : bits_in (tok_at ts i) ≡ high * 2 ^ 32 + low = tells_value ts ws c tl i h (sym (word_at_lem ws c i h) ∙ k) in
      stands_num (bits_in (tok_at ts i)) low high
      (ap (λ (x : ℕ). x % 2 ^ 32) v ∙ low_word high low f)
      (ap (λ (x : ℕ). x / 2 ^ 32) v ∙ high_word high low f) e q

  pub stands_var : (w : List ℕ) → s ≡ variable_at (i + 1) (n + 1) i → m₁ ≡ sets m (8 * n) (node_words (node NodeVariable i i 0))
      → Stands i n (var w) m s m₁
  unfolding width size place_of is_variable is_sum hangs count
  stands_var w e q = stands_at i n (var w) m m₁ s e refl refl refl refl refl refl refl (rw (words_var i w) q)

  module _ (t : Tree) (s₂ : At) (m₂ : List ℕ) where
    pub stands_star : Stands (i + 1) n t m s m₁ → s₂ ≡ state_at s.row (s.node + 1) s.place
        → m₂ ≡ sets m₁ (8 * s.node) (node_words (node NodeDereference s.place missing 1)) → Stands i n (star t) m s₂ m₂
    unfolding width size place_of is_variable is_sum hangs count
    stands_star a e q =
        stands_at i n (star t) m m₂ s₂ e (omega (arith, a.rows)) (omega (arith, a.nodes)) a.place refl refl refl refl
        (rw (words_star i t, ← a.place) (mem_over m (i + 1) n t s m₁ a m₂ _ q))

    pub stands_field : (w : List ℕ) → Stands i n t m s m₁ → FieldEnd s m₁ m₂ s₂ → Stands i n (field t w) m s₂ m₂
    unfolding width size place_of is_variable is_sum hangs count
    stands_field w a e =
        stands_at i n (field t w) m m₂ s₂ e.state (omega (arith, a.rows)) (omega (arith, a.nodes)) (omega (arith, a.rows))
        refl refl refl refl
        (rw (words_field i t w, ← a.rows) (mem_over m i n t s m₁ a m₂ _ e.memory))

    pub stands_bare : (w : List ℕ) → Stands i n t m s m₁ → s₂ ≡ state_at (s.row + 1 + 1 + 1 + 1) (s.node + 1) s.place
        → m₂ ≡ sets m₁ (8 * s.node) (node_words (node NodeCall s.place (s.row + 1) (0 + 1))) → Stands i n (call t w none) m s₂ m₂
    unfolding width size place_of is_variable is_sum hangs count
    stands_bare w a e q =
        stands_at i n (call t w none) m m₂ s₂ e (omega (arith, a.rows)) (omega (arith, a.nodes)) a.place refl refl refl refl
        (rw (words_call i t w none, words_none, ← a.rows, ← a.place) (mem_over m i n t s m₁ a m₂ _ q))

    module _ (u : Tree) (s₃ : At) (m₃ : List ℕ) where
      -- two operands and an operator's row between them
      pub stands_bin : (k : ℕ) → Stands i n t m s m₁ → Stands (s.row + 1) s.node u m₁ s₂ m₂ → Joint s s₂ k m₂ m₃ s₃
          → Stands i n (bin k t u) m s₃ m₃
      unfolding width size place_of is_variable is_sum hangs count
      stands_bin k a b e =
          stands_at i n (bin k t u) m m₃ s₃ e.state (omega (arith, a.rows, b.rows)) (omega (arith, a.nodes, b.nodes)) a.place
          refl refl refl refl
          (rw (words_bin i k t u, ← a.rows, ← a.place) (mem_both m i n t s m₁ a (s.row + 1) u s₂ m₂ b m₃ _ e.memory))

      -- a receiver and arguments
      pub stands_call : (w : List ℕ) → Stands i n t m s m₁ → Stands (s.row + 1 + 1 + 1) s.node u m₁ s₂ m₂
          → s₃ ≡ state_at (s₂.row + 1) (s₂.node + 1) s.place
          → m₃ ≡ sets m₂ (8 * s₂.node) (node_words (node NodeCall s.place (s.row + 1) (s₂.things + 1)))
          → Stands i n (call t w u) m s₃ m₃
      unfolding width size place_of is_variable is_sum hangs count
      stands_call w a b e q =
          let r : i + width t + 3 ≡ s.row + 1 + 1 + 1 = omega (arith, a.rows) in
          stands_at i n (call t w u) m m₃ s₃ e (omega (arith, a.rows, b.rows)) (omega (arith, a.nodes, b.nodes)) a.place
          refl refl refl refl
          (rw (words_call i t w u, r, ← a.rows, ← a.place, ← b.things) (mem_both m i n t s m₁ a (s.row + 1 + 1 + 1) u s₂ m₂ b m₃ _ q))

  -- trees that write no node of their own: a group, a first argument, arguments and one more
  module _ (t : Tree) (s₂ : At) where
    pub stands_group : Stands (i + 1) n t m s m₁ → s₂ ≡ group_at s → Stands i n (group t) m s₂ m₁
    unfolding width size place_of is_variable is_sum hangs count
    stands_group a e =
        stands_at i n (group t) m m₁ s₂ e (omega (arith, a.rows)) a.nodes a.place refl a.variable refl refl
        (rw (words_group i t) a.mem)

    pub stands_one : Stands i n t m s m₁ → s₂ ≡ counted_at s s.place 1 → Stands i n (one t) m s₂ m₁
    unfolding width size place_of is_variable is_sum hangs count
    stands_one a e =
        stands_at i n (one t) m m₁ s₂ e a.rows a.nodes a.place refl refl a.summed a.hanging (rw (words_one i t) a.mem)

    pub stands_more : (m₂ : List ℕ) (u : Tree) (s₃ : At) → Stands i n t m s m₁ → Stands (s.row + 1) s.node u m₁ s₂ m₂
        → s₃ ≡ counted_at s₂ s.place (s.things + 1) → Stands i n (more t u) m s₃ m₂
    unfolding width size place_of is_variable is_sum hangs count
    stands_more m₂ u s₃ a b e =
        stands_at i n (more t u) m m₂ s₃ e (omega (arith, a.rows, b.rows)) (omega (arith, a.nodes, b.nodes)) a.place
        (omega (arith, a.things)) refl b.summed b.hanging
        (rw (words_more i t u, ← a.rows) (mem_join m i n t s m₁ a (s.row + 1) u s₂ m₂ b))

-- ---- a call's end

-- what `call_end` answers is what the parser says of a call's end
pub met_called : (ts : List Tok) (i n : ℕ) (t : Tree) (w : List ℕ) (a : Tree) (m₀ m₁ m₂ m₃ : List ℕ) (s : At) (k count' next : ℕ) (r : Result At Refusal)
    → Stands i n t m₀ s m₁
    → (m₃ ≡ sets m₂ (8 * k) (node_words (node NodeCall s.place (s.row + 1) (count' + 1)))
    → Stands i n (call t w a) m₀ (state_at next (k + 1) s.place) m₃)
    → CallEnd s.variable s k count' next m₂ m₃ r → Met (Parse.called ts t w a (s.row + 1) next) i n m₀ m₃ r
unfolding Parse.called
met_called ts i n t w a m₀ m₁ m₂ m₃ s k count' next r st build h =
    rw (← st.variable) (go s.variable h)
  where
    go : (b : Bool) → CallEnd b s k count' next m₂ m₃ r → Met (pick b (ok (call t w a) next) (no CallOnOther (s.row + 1))) i n m₀ m₃ r
    go true c = rw c.0 (met_ok (ok (call t w a) next) i n (call t w a) m₀ m₃ (state_at next (k + 1) s.place) refl (build c.1))
    go false c = c
