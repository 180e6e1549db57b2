-- What a call of a reading function gives its caller, and what holds at each turn of a loop.
use mathlib.Core.Path.{◌≡◌, refl, sym, ap, ◌∙◌, subst}
use mathlib.Core.Bool.{Bool, true, false, true≢false}
use mathlib.Core.List.{List}
use Prim.Native.Nat.{ℕ, zero, suc, ◌+◌, ◌*◌, ◌≤◌, ◌<◌}
use native.Mathlib.Omega.{arith}
use lib.ListN.{length}
use lib.Seq.{length-sets}
use Rattle.std.specs.Prelude.{Result, Ok, Err}
use Rattle.rules.specs.declared.Syntax.{Syntax}
use Rattle.rules.specs.Tree.{Tok, Tree, count}
use Rattle.rules.specs.Nodes.{width, size, place_of, tree_words}
use Rattle.rules.specs.Parse.{Out, ok, no, P, then, many}
use Rattle.rules.specs.Grammar.{Nt}
use Rattle.theory_grammar.proofs.Laws.{nodes_within_rows, place_width, is_count}
use Rattle.theory_grammar.proofs.Runs.{All}
use Rattle.theory_grammar.proofs.Sound.{Reads}
use Rattle.theory_grammar.proofs.Ends.{Ends}
use Rattle.parse_nodes.specs.Post.{behind, refusal, refused_at, Met, Stands}
use Rattle.parse_nodes.specs.declared.At.{At}
use Rattle.parse_nodes.specs.declared.Refusal.{Refusal}

-- the node memory keeps its length
pub same_len : (i n : ℕ) (t : Tree) (m : List ℕ) (s : At) (m' : List ℕ) → Stands i n t m s m' → length m' ≡ length m
same_len i n t m s m' h = ap length h.mem ∙ length-sets m (8 * n) (tree_words i t)

-- ---- a call's answer, taken apart

-- the call gave s, and behind it stands a tree with the property C
pub record Came (C : Tree → ℕ → Type 0) (ts : List Tok) (o : Out) (i n : ℕ) (m : List ℕ) (s : At) (m' : List ℕ) : Type 0 where
  pub tree : Tree
  pub is : o ≡ ok tree s.row
  pub stands : Stands i n tree m s m'
  pub inside : s.row ≤ length ts
  pub few : size tree ≤ width tree
  pub near : place_of i tree ≤ i + width tree
  pub counts : count tree ≤ width tree
  pub known : C tree s.row

pub came : (C : Tree → ℕ → Type 0) (ts : List Tok) (o : Out) (i n : ℕ) (m m' : List ℕ) (r : Result At Refusal) (s : At) → All C o → ((t : Tree) (j : ℕ) → C t j → Ends ts i t j)
    → Met o i n m m' r → r ≡ Ok s → Came C ts o i n m s m'
came C ts (ok t j) i n m m' r s a g h e =
    let f : Ends ts i t j = g t j a in
    let q : s ≡ behind i n t j = cc (h.0, e) in
    let row : s.row ≡ j = ap (λ (x : At). x.row) q in
    record {
      tree = t;
      is = ap (λ (k : ℕ). ok t k) (sym row);
      stands = record {
        rows = row ∙ f.0;
        nodes = ap (λ (x : At). x.node) q;
        place = ap (λ (x : At). x.place) q;
        things = ap (λ (x : At). x.things) q;
        variable = ap (λ (x : At). x.variable) q;
        summed = ap (λ (x : At). x.summed) q;
        hanging = ap (λ (x : At). x.hanging) q;
        mem = h.1;
      };
      inside = omega (arith, row, f.1);
      few = nodes_within_rows t;
      near = place_width i t;
      counts = f.2;
      known = subst (C t) (sym row) a;
    }
came C ts (no why p) i n m m' r s a g h e = let z : ◌≡◌ {A = ℕ} 0 1 = cc (h, e) in absurd (omega arith)

-- the same where only its end is known, and where it is a tree of the grammar
pub came_ends : (ts : List Tok) (o : Out) (i n : ℕ) (m m' : List ℕ) (r : Result At Refusal) (s : At) → All (Ends ts i) o → Met o i n m m' r → r ≡ Ok s → Came (Ends ts i) ts o i n m s m'
came_ends ts o i n m m' r s a h e = came (Ends ts i) ts o i n m m' r s a (λ t j f. f) h e

pub came_reads : (ts : List Tok) (N : Nt) (d : ℕ) (o : Out) (i n : ℕ) (m m' : List ℕ) (r : Result At Refusal) (s : At) → All (Reads ts N d i) o → Met o i n m m' r → r ≡ Ok s
    → Came (Reads ts N d i) ts o i n m s m'
came_reads ts N d o i n m m' r s a h e = came (Reads ts N d i) ts o i n m m' r s a (λ t j f. (f.next, f.inside, is_count f.is)) h e

-- a refusal by its parts
pub told : (why : Syntax) (p : ℕ) (e : Refusal) → refused_at {A = At} why p ≡ Err e → no why p ≡ no e.why e.row
told why p e q = let z : refusal why p ≡ e = cc q in ap (λ (x : Refusal). no x.why x.row) z

pub refused : (o : Out) (i n : ℕ) (m m' : List ℕ) (r : Result At Refusal) (e : Refusal) → Met o i n m m' r → r ≡ Err e → o ≡ no e.why e.row
refused (ok t j) i n m m' r e h q = let z : ◌≡◌ {A = ℕ} 0 1 = cc (h.0, q) in absurd (omega arith)
refused (no why p) i n m m' r e h q = told why p e (sym h ∙ q)

-- an answer, from what the parser says
pub met_ok : (o : Out) (i n : ℕ) (t : Tree) (m m' : List ℕ) (s : At) → o ≡ ok t s.row → Stands i n t m s m' → Met o i n m m' (Ok s)
met_ok o i n t m m' s e h =
    subst (λ (x : Out). Met x i n m m' (Ok s)) (sym e) (
      ap Ok
          (λ j. record {
            row = s.row;
            node = h.nodes j;
            place = h.place j;
            things = h.things j;
            variable = h.variable j;
            summed = h.summed j;
            hanging = h.hanging j;
          }),
      h.mem,
    )

pub met_no : (o : Out) (i n : ℕ) (why : Syntax) (p : ℕ) (m m' : List ℕ) → o ≡ no why p → Met o i n m m' (refused_at why p)
met_no o i n why p m m' e = subst (λ (x : Out). Met x i n m m' (refused_at why p)) (sym e) refl

-- the same where the refusal is what a function gave
pub met_told : (o : Out) (i n : ℕ) (why x : Syntax) (p : ℕ) (m m' : List ℕ) → o ≡ no why p → x ≡ why → Met o i n m m' (refused_at x p)
met_told o i n why x p m m' e q = subst (λ (y : Syntax). Met o i n m m' (refused_at y p)) (sym q) (met_no o i n why p m m' e)

-- the same of another answer that is equal
pub met_as : (o o' : Out) (i n : ℕ) (m m' : List ℕ) (r : Result At Refusal) → o ≡ o' → Met o' i n m m' r → Met o i n m m' r
met_as o o' i n m m' r e h = subst (λ (x : Out). Met x i n m m' r) (sym e) h

-- ---- a loop

-- nothing is said of the tree
abbrev pub Any : Tree → Type 0
Any t = Unit {0}

-- the loop that is to give `whole` has read a tree with the property Q, and has the rest to do
pub record Turn (Q : Tree → Type 0) (ts : List Tok) (test : ℕ → Bool) (step : Tree → P) (whole : Out) (i n : ℕ) (m : List ℕ) (s : At) (m' : List ℕ) : Type 0 where
  pub tree : Tree
  pub fuel : ℕ
  pub rest : whole ≡ many test step fuel (test s.row) tree s.row
  pub enough : length ts < fuel + s.row
  pub stands : Stands i n tree m s m'
  pub inside : s.row ≤ length ts
  pub few : size tree ≤ width tree
  pub near : place_of i tree ≤ i + width tree
  pub counts : count tree ≤ width tree
  pub known : Q tree

module _ (Q : Tree → Type 0) (ts : List Tok) (test : ℕ → Bool) (step : Tree → P) (whole : Out) (i n : ℕ) (m : List ℕ) (s : At) (m' : List ℕ) where
  pub start : (t : Tree) → whole ≡ many test step (suc (length ts)) (test s.row) t s.row → Stands i n t m s m' → s.row ≤ length ts → count t ≤ width t → Q t → Turn Q ts test step whole i n m s m'
  start t e h l g q = record {
    tree = t;
    fuel = suc (length ts);
    rest = e;
    enough = omega arith;
    stands = h;
    inside = l;
    few = nodes_within_rows t;
    near = place_width i t;
    counts = g;
    known = q;
  }

  module _ (c : Turn Q ts test step whole i n m s m') where
    -- the test fails: the tree is the answer
    pub ends : test s.row ≡ false → whole ≡ ok c.tree s.row
    unfolding many
    ends b = c.rest ∙ go c.fuel (test s.row) b
      where
        go : (f : ℕ) (b : Bool) → b ≡ false → many test step f b c.tree s.row ≡ ok c.tree s.row
        go zero b e = refl
        go (suc f) false e = refl
        go (suc f) true e = absurd (true≢false e)

    pub done : test s.row ≡ false → Met whole i n m m' (Ok s)
    done b = met_ok whole i n c.tree m m' s (ends b) c.stands

    -- the test holds: a step, and on
    pub steps : test s.row ≡ true → (f : ℕ) × (c.fuel ≡ suc f) × (whole ≡ then (step c.tree s.row) (λ u k. many test step f (test k) u k))
    unfolding many
    steps b = go c.fuel refl
      where
        go : (f : ℕ) → c.fuel ≡ f → (f : ℕ) × (c.fuel ≡ suc f) × (whole ≡ then (step c.tree s.row) (λ u k. many test step f (test k) u k))
        go zero e = absurd (omega (arith, c.enough, c.inside))
        go (suc f) e = (f, e, c.rest ∙ rw (e, b))

    pub fails : test s.row ≡ true → (why : Syntax) (p : ℕ) (m'' : List ℕ) → step c.tree s.row ≡ no why p → Met whole i n m m'' (refused_at why p)
    unfolding then
    fails b why p m'' e = met_no whole i n why p m m'' ((steps b).2 ∙ rw e)

    pub again : test s.row ≡ true → (R : Tree → Type 0) (u : Tree) (s' : At) (m'' : List ℕ) → step c.tree s.row ≡ ok u s'.row
        → Stands i n u m s' m'' → s.row < s'.row → s'.row ≤ length ts → count u ≤ width u → R u → Turn R ts test step whole i n m s' m''
    unfolding then
    again b R u s' m'' e st up l g q = record {
      tree = u;
      fuel = (steps b).0;
      rest = (steps b).2 ∙ rw e;
      enough = omega (arith, c.enough, (steps b).1);
      stands = st;
      inside = l;
      few = nodes_within_rows u;
      near = place_width i u;
      counts = g;
      known = q;
    }
