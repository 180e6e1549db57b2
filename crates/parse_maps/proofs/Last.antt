-- What holds behind each field: its own fact is the new one, and the others are as they were.
use mathlib.Core.Path.{◌≡◌, refl, sym, ap, ◌∙◌, subst}
use mathlib.Core.Bool.{Bool, true, false, cond, true≢false}
use mathlib.Core.List.{List}
use Prim.Native.Nat.{ℕ, pred, ◌+◌, ◌-◌, ◌*◌, ◌≤◌}
use native.Mathlib.Numerals.{sub-one}
use lib.Dec.{eqb}
use Rattle.std.specs.Prelude.{Option, Some, None, is_none, Ok}
use Rattle.std.specs.Option.{unwrap_or}
use native.Mathlib.Omega.{arith}
use lib.Seq.{sets}
use borrow.Author.Tests.{eqb-true, ne_eqb}
use Rattle.rules.specs.Kinds.{KeywordKey, KeywordValue}
use Rattle.rules.specs.Tree.{Tree, is_variable, is_sum, hangs, count, map_decl, limit, typed, map_type, map_type_number, max_bits, type_of, typed_by, limit_of}
use Rattle.rules.specs.Nodes.{width, size, place_of, fact_node, node_words}
use Rattle.rules.specs.Parse.{Out, ok}
use Rattle.theory_grammar.proofs.Laws.{words_map}
use Rattle.parse_nodes.specs.Post.{state_at, Stands}
use Rattle.parse_nodes.specs.declared.At.{At}
use Rattle.parse_nodes.proofs.Steps.{stands_at}
use Rattle.parse_maps.specs.Steps.{told, told_less, later, over, Steps, facts_of, map_written}
use Rattle.parse_maps.specs.declared.Facts.{Facts}
use Rattle.parse_maps.proofs.Answers.{answer_ok}

told_some : (n : ℕ) → (n ≡ 0 → ⊥) → told n ≡ Some n
told_some n h = rw (ne_eqb n 0 h)

abbrev pub facts_at : (row : ℕ) (maptype key value max : Option ℕ) → Facts
facts_at j t k v m = record { row = j; maptype = t; key = k; value = v; max = m }

-- the answer of a field that gives these facts
pub steps_to : (f : Facts) (o : Out) (t : Tree) (j : ℕ) (g : Facts) → o ≡ ok t j → over f t j ≡ g → Steps f o (Ok g)
steps_to f o t j g e q = subst (λ (x : Facts). Steps f o (Ok x)) q (answer_ok (over f) o t j e)

module _ (f : Facts) (j : ℕ) where
  pub over_type : (w : List ℕ) (o : Option ℕ) → o ≡ told (map_type_number w) → is_none o ≡ false
      → over f (map_type w) j ≡ facts_at j o f.key f.value f.max
  unfolding type_of typed_by limit_of
  over_type w None e n = absurd (true≢false n)
  over_type w (Some t) e n = ap (λ (x : Option ℕ). facts_at j (later f.maptype x) f.key f.value f.max) (sym e)

  pub over_key : (t : ℕ) → 21 ≤ t → over f (typed KeywordKey t) j ≡ facts_at j f.maptype (Some (t - 20)) f.value f.max
  unfolding type_of typed_by limit_of
  over_key t h =
      ap (λ (x : Option ℕ). facts_at j f.maptype (later f.key x) f.value f.max) (told_some (t - 20) (λ e. omega arith))

  pub over_value : (t : ℕ) → 21 ≤ t → over f (typed KeywordValue t) j ≡ facts_at j f.maptype f.key (Some (t - 20)) f.max
  unfolding type_of typed_by limit_of
  over_value t h =
      ap (λ (x : Option ℕ). facts_at j f.maptype f.key (later f.value x) f.max) (told_some (t - 20) (λ e. omega arith))

  pub over_limit : (c : Tree) → over f (limit c) j ≡ facts_at j f.maptype f.key f.value (Some (max_bits c))
  unfolding type_of typed_by limit_of
  over_limit c =
      let n : ℕ = max_bits c + 1 in
      let e : n - 1 ≡ max_bits c = omega arith in
      let q : told_less n ≡ Some (max_bits c) = rw (ne_eqb n 0 (λ z. omega arith)) (ap Some e) in
      ap (λ (x : Option ℕ). facts_at j f.maptype f.key f.value (later f.max x)) q

-- what is told, or 0
or_told : (n : ℕ) → unwrap_or (told n) 0 ≡ n
or_told n = go (eqb n 0) refl
  where
    go : (b : Bool) → eqb n 0 ≡ b → unwrap_or (cond b None (Some n)) 0 ≡ n
    go true e = sym (eqb-true n 0 e)
    go false e = refl

or_less : (n : ℕ) → unwrap_or (told_less n) 0 ≡ pred n
or_less n = go (eqb n 0) refl
  where
    go : (b : Bool) → eqb n 0 ≡ b → unwrap_or (cond b None (Some (n - 1))) 0 ≡ pred n
    go true e = sym (ap pred (eqb-true n 0 e))
    go false e = sub-one n

-- ---- a map behind its fields

pub stands_map : (i n : ℕ) (m m' : List ℕ) (s : At) (l : Tree) (f : Facts) (w : List ℕ)
    → f ≡ facts_of l f.row → f.row ≡ i + 1 + 1 + 1 + width l
    → s ≡ state_at (f.row + 1) (n + 1) (i + 1) → m' ≡ map_written (i + 1) n m f → Stands i n (map_decl w l) m s m'
unfolding width size place_of is_variable is_sum hangs count
stands_map i n m m' s l f w k r e q =
    stands_at i n (map_decl w l) m m' s e (omega arith) refl refl refl refl refl refl
    (q ∙ ap (map_written (i + 1) n m) k
    ∙ ap (sets m (8 * n))
    ((λ k. node_words
    (fact_node 28 (i + 1) (i + 1) 0 (or_told (type_of l) k) (or_told (typed_by KeywordKey l) k) (or_told (typed_by KeywordValue l) k)
    (or_less (limit_of l) k)))
    ∙ sym (words_map i w l)))
