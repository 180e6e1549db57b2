-- The shapes of fields: what is found, and the node of a field.
-- ---- answers
use mathlib.Core.Path.{◌≡◌, refl, sym, ap, ◌∙◌, subst}
use mathlib.Core.Bool.{true, false}
use mathlib.Core.List.{List}
use Prim.Native.Nat.{ℕ, ◌+◌, ◌*◌, ◌≤◌, ◌<◌}
use native.Mathlib.Omega.{arith}
use lib.Seq.{sets}
use Rattle.rules.specs.Parse
use Rattle.rules.specs.declared.Syntax.{Syntax}
use Rattle.rules.specs.Tree.{Tok, Tree, event, is_variable, is_sum, hangs, count}
use Rattle.rules.specs.Nodes.{node, fact_node, node_words, width, size, place_of, tree_words}
use Rattle.rules.specs.Parse.{Out, ok, no}
use Rattle.theory_grammar.proofs.Laws.{words_plain_field, words_bytes_field, words_array_field, words_event}
use Rattle.rules.specs.Grammar.{EventField, Is, i_plain_field, i_bytes_field, i_array_field}
use Rattle.theory_grammar.proofs.Runs.{All, all_ok, all_both, map_all}
use Rattle.theory_grammar.proofs.Sound.{Reads, event_field_sound}
use Rattle.theory_grammar.proofs.Ends.{Ends, ends_event_field, wide_event_field}
use Rattle.std.specs.Prelude.{Result, Ok, Err}
use Rattle.parse_nodes.specs.Post.{state_at, refusal, refused_at, Met, Stands}
use Rattle.parse_nodes.specs.declared.At.{At}
use Rattle.parse_nodes.specs.declared.Refusal.{Refusal}
use Rattle.parse_nodes.proofs.Turn.{Came, came}
use Rattle.parse_nodes.proofs.Steps.{Flat, stands_at, mem_over}
use Rattle.parse_events.specs.Shapes.{Shows, plain, bytes, array, Found}
use Rattle.parse_events.specs.declared.Shape.{Shape}

pub found_ok : (o : Out) (t : Tree) (j a b v : ℕ) → o ≡ ok t j → Shows t a b v → Found o (Ok (record { row = j; form = a; element = b; length = v }))
found_ok o t j a b v e s = subst (λ (x : Out). Found x (Ok (record { row = j; form = a; element = b; length = v }))) (sym e) (a, b, v, s, refl)

-- a refusal that a function made, for a reason that a function gave
pub found_err : (o : Out) (why x : Syntax) (p : ℕ) (e : Refusal) → o ≡ no why p → x ≡ why → e ≡ refusal x p → Found o (Err e)
found_err o why x p e q s r =
    subst (λ (y : Out). Found y (Err e)) (sym q) (ap Err r ∙ ap (λ (y : Syntax). refused_at y p) s)

pub found_as : (o o' : Out) (r : Result Shape Refusal) → o ≡ o' → Found o' r → Found o r
found_as o o' r e h = subst (λ (x : Out). Found x r) (sym e) h

-- what an answer says of the parser
pub record Gave (o : Out) (s : Shape) : Type 0 where
  pub tree : Tree
  pub is : o ≡ ok tree s.row
  pub shows : Shows tree s.form s.element s.length

pub gave : (o : Out) (r : Result Shape Refusal) (s : Shape) → Found o r → r ≡ Ok s → Gave o s
gave (ok t j) r s h e =
    let q : s ≡ record { row = j; form = h.0; element = h.1; length = h.2 } = cc (h.4, e) in
    subst (λ (x : Shape). Gave (ok t j) x) (sym q) (record { tree = t; is = refl; shows = h.3 })
gave (no why p) r s h e = let z : ◌≡◌ {A = ℕ} 0 1 = cc (h, e) in absurd (omega arith)

pub refuses : (o : Out) (r : Result Shape Refusal) (x : Refusal) → Found o r → r ≡ Err x → o ≡ no x.why x.row
refuses (ok t j) r x h e = let z : ◌≡◌ {A = ℕ} 0 1 = cc (h.4, e) in absurd (omega arith)
refuses (no why p) r x h e = let z : refusal why p ≡ x = cc (h, e) in ap (λ (y : Refusal). no y.why y.row) z

-- ---- a field's node

pub shows_words : (i : ℕ) {t : Tree} {a b v : ℕ} → Shows t a b v → tree_words i t ≡ node_words (fact_node 26 i i 0 a b v 0)
shows_words i (plain w k) = words_plain_field i w k
shows_words i (bytes w v) = words_bytes_field i w v
shows_words i (array w k v) = words_array_field i w k v

pub shows_size : {t : Tree} {a b v : ℕ} → Shows t a b v → size t ≡ 1
unfolding size
shows_size (plain w k) = refl
shows_size (bytes w v) = refl
shows_size (array w k v) = refl

pub shows_place : (i : ℕ) {t : Tree} {a b v : ℕ} → Shows t a b v → place_of i t ≡ i
unfolding place_of
shows_place i (plain w k) = refl
shows_place i (bytes w v) = refl
shows_place i (array w k v) = refl

pub shows_one : {t : Tree} {a b v : ℕ} → Shows t a b v → (count t ≡ 0) × (is_variable t ≡ false) × (is_sum t ≡ false) × (hangs t ≡ false)
unfolding is_variable is_sum hangs count
shows_one (plain w k) = (refl, refl, refl, refl)
shows_one (bytes w v) = (refl, refl, refl, refl)
shows_one (array w k v) = (refl, refl, refl, refl)

-- the answer of a field whose node is written
pub field_met : (o : Out) (i n : ℕ) (m m' : List ℕ) (s : Shape) → Gave o s → m' ≡ sets m (8 * n) (node_words (fact_node 26 i i 0 s.form s.element s.length 0))
    → Met o i n m m' (Ok (state_at s.row (n + 1) i))
field_met o i n m m' s g q =
    subst (λ (x : Out). Met x i n m m' (Ok (state_at s.row (n + 1) i))) (sym g.is)
    (let e = shows_one g.shows in
    (rw (shows_size g.shows, shows_place i g.shows, e.0, e.1, e.2, e.3), rw (shows_words i g.shows) q))

-- ---- a field's call, and the event behind its fields

flat_field : {d : ℕ} {t : Tree} → Is true EventField d t → Flat t
unfolding hangs
flat_field (i_plain_field k) = refl
flat_field (i_bytes_field k) = refl
flat_field (i_array_field k l) = refl

-- where a field ends
abbrev pub FieldEnds : List Tok → ℕ → Tree → ℕ → Type 0
FieldEnds ts i t j = Ends ts i t j × Flat t

field_ends : (ts : List Tok) (i : ℕ) → All (FieldEnds ts i) (Parse.event_field ts i)
field_ends ts i =
    all_both (Ends ts i) (λ t j. Flat t) (Parse.event_field ts i) (ends_event_field ts i)
    (map_all (Reads ts EventField 64 i) (λ t j. Flat t) (Parse.event_field ts i) (event_field_sound ts i) (λ t j r. flat_field r.is))

module _ (ts : List Tok) (i n : ℕ) (m : List ℕ) (s : At) (m' : List ℕ) where
  pub field_came : (r : Result At Refusal) → Met (Parse.event_field ts i) i n m m' r → r ≡ Ok s → Came (FieldEnds ts i) ts (Parse.event_field ts i) i n m s m'
  field_came r h e = came (FieldEnds ts i) ts (Parse.event_field ts i) i n m m' r s (field_ends ts i) (λ t j f. f.0) h e

  -- a field has a row or more
  pub field_up : Came (FieldEnds ts i) ts (Parse.event_field ts i) i n m s m' → i < s.row
  field_up v = omega (arith, all_ok (λ t j. 1 ≤ width t) (Parse.event_field ts i) v.tree s.row (wide_event_field ts i) v.is, v.stands.rows)

pub stands_event : (i n : ℕ) (m m₁ m₂ : List ℕ) (s s' : At) (t : Tree) (w : List ℕ) → Stands (i + 1 + 1 + 1) n t m s m₁
    → s' ≡ state_at (s.row + 1) (s.node + 1) (i + 1) → m₂ ≡ sets m₁ (8 * s.node) (node_words (node 27 (i + 1) (i + 1) s.things))
    → Stands i n (event w t) m s' m₂
unfolding width size place_of is_variable is_sum hangs count
stands_event i n m m₁ m₂ s s' t w a e q =
    let three : i + 1 + 1 + 1 ≡ i + 3 = omega arith in
    stands_at i n (event w t) m m₂ s' e (omega (arith, a.rows)) (omega (arith, a.nodes)) refl refl refl refl refl
    (rw (words_event i w t, ← three, ← a.things) (mem_over m (i + 1 + 1 + 1) n t s m₁ a m₂ (node_words (node 27 (i + 1) (i + 1) s.things)) q))
