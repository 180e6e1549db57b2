-- An index that has the entries of the nodes in front, and not yet those of the others.
use mathlib.Core.Path.{◌≡◌, refl, sym, ap, ◌∙◌}
use mathlib.Core.Bool.{Bool, true, false, cond}
use mathlib.Core.List.{List, [], ◌∷◌, ◌++◌, append_assoc, append-nil}
use Prim.Native.Nat.{ℕ, ◌+◌, ◌*◌, ◌≤◌, ◌<◌}
use native.Mathlib.Numerals.{add-one}
use native.Mathlib.Omega.{arith}
use lib.ListN.{length, get_or, set, take, drop, length-append, length-drop}
use lib.Seq.{take_at, drop_at, drop-drop, get_or-append-add, sets-eq}
use Rattle.rules.specs.Nodes.{Node, missing, node_words, words_of_nodes}
use Rattle.theory_grammar.proofs.Laws.{words_length, words_append}
use Rattle.theory_entries.specs.Entries.{has_name, entries_in}
use Rattle.theory_entries.proofs.Entries.{entries_append}
use Rattle.program_index.specs.Write.{AsksEntry, put_at, EntryPut, AsksEntries, Entries}

-- Of the nodes ns the first n have their entries.
pub record Filling (ns : List Node) (x₀ : List ℕ) (n : ℕ) (x : List ℕ) (made : ℕ) : Type 0 where
  pub done : List Node
  pub left : List Node
  pub split : ns ≡ done ++ left
  pub here : length done ≡ n
  pub many : made * 2 ≡ length (entries_in 0 done)
  pub few : made ≤ n
  pub words : x ≡ entries_in 0 done ++ drop (made * 2) x₀

-- the same, where one is left
pub record Next (ns : List Node) (x₀ : List ℕ) (n : ℕ) (x : List ℕ) (made : ℕ) : Type 0 where
  pub done : List Node
  pub first : Node
  pub more : List Node
  pub split : ns ≡ done ++ (first ∷ more)
  pub here : length done ≡ n
  pub many : made * 2 ≡ length (entries_in 0 done)
  pub few : made ≤ n
  pub words : x ≡ entries_in 0 done ++ drop (made * 2) x₀

pub filling_start : (ns : List Node) (x₀ : List ℕ) → Filling ns x₀ 0 x₀ 0
unfolding entries_in
filling_start ns x₀ = record { done = []; left = ns; split = refl; here = refl; many = refl; few = omega arith; words = refl }

-- the entry of a first node
one_named : (n : ℕ) (y : Node) → has_name y.kind ≡ true → entries_in n (y ∷ []) ≡ y.name ∷ n ∷ []
unfolding entries_in
one_named n y e = rw e

one_other : (n : ℕ) (y : Node) → has_name y.kind ≡ false → entries_in n (y ∷ []) ≡ []
unfolding entries_in
one_other n y e = rw e

two_more : (n : ℕ) (y : Node) (ys : List Node) → has_name y.kind ≡ true → 2 ≤ length (entries_in n (y ∷ ys))
unfolding entries_in
two_more n y ys e = rw e (omega arith)

module _ (ns : List Node) (x₀ : List ℕ) (n : ℕ) (x : List ℕ) (made : ℕ) where
  -- the entries of all
  pub filling_ends : Filling ns x₀ n x made → length ns ≤ n → Entries (entries_in 0 ns) x₀ x made
  filling_ends f h = go f.left f.split
    where
      go : (left : List Node) → ns ≡ f.done ++ left → Entries (entries_in 0 ns) x₀ x made
      go [] s =
          let e : ns ≡ f.done = s ∙ append-nil f.done in
          record { many = f.many ∙ ap (λ (l : List Node). length (entries_in 0 l)) (sym e); words = rw e f.words }
      go (y ∷ left) s = absurd (omega (arith, f.here, ap length s, length-append f.done (y ∷ left)))

  pub filling_next : Filling ns x₀ n x made → n < length ns → Next ns x₀ n x made
  filling_next f h = go f.left f.split
    where
      go : (left : List Node) → ns ≡ f.done ++ left → Next ns x₀ n x made
      go [] s = absurd (omega (arith, f.here, ap length s, length-append f.done []))
      go (y ∷ left) s = record {
        done = f.done;
        first = y;
        more = left;
        split = s;
        here = f.here;
        many = f.many;
        few = f.few;
        words = f.words;
      }

  module _ (g : Next ns x₀ n x made) (m rest : List ℕ) (w : m ≡ words_of_nodes ns ++ rest) where
    behind : List ℕ
    behind = node_words g.first ++ (words_of_nodes g.more ++ rest)

    split_words : m ≡ words_of_nodes g.done ++ behind
    unfolding behind words_of_nodes
    split_words =
        w
        ∙ (ap (λ (l : List Node). words_of_nodes l ++ rest) g.split
        ∙ rw (words_append g.done (g.first ∷ g.more), append_assoc, append_assoc))

    front_length : length (words_of_nodes g.done) ≡ n * 8
    front_length = omega (arith, words_length g.done, g.here)

    pub node_lent : n * 8 + 8 ≤ length m
    unfolding behind node_words
    node_lent = omega (arith, ap length split_words, length-append (words_of_nodes g.done) behind, front_length)

    word_at_lem : (i : ℕ) → get_or m (n * 8 + i) 0 ≡ get_or behind i 0
    word_at_lem i =
        ap (λ (l : List ℕ). get_or l (n * 8 + i) 0) split_words
        ∙ (ap (λ (k : ℕ). get_or (words_of_nodes g.done ++ behind) (k + i) 0) (sym front_length)
        ∙ get_or-append-add (words_of_nodes g.done) behind i 0)

    pub kind_at : get_or m (n * 8) 0 ≡ g.first.kind
    unfolding behind node_words
    kind_at = let e : n * 8 ≡ n * 8 + 0 = omega arith in ap (λ (k : ℕ). get_or m k 0) e ∙ word_at_lem 0

    pub name_at : get_or m (n * 8 + 2) 0 ≡ g.first.name
    unfolding behind node_words
    name_at = word_at_lem 2

    -- room for all is room for this one
    pub next_room : length (entries_in 0 ns) ≤ length x₀ → has_name (get_or m (n * 8) 0) ≡ true → made * 2 + 2 ≤ length x
    next_room h e =
        let l : length (entries_in 0 ns) ≡ length (entries_in 0 (g.done ++ (g.first ∷ g.more))) =
        ap (λ (k : List Node). length (entries_in 0 k)) g.split in
        let k = ap length (entries_append 0 g.done (g.first ∷ g.more)) in
        omega (
          arith,
          l,
          k,
          length-append (entries_in 0 g.done) (entries_in (0 + length g.done) (g.first ∷ g.more)),
          g.many,
          two_more (0 + length g.done) g.first g.more (ap has_name (sym kind_at) ∙ e),
          ap length g.words,
          length-append (entries_in 0 g.done) (drop (made * 2) x₀),
          length-drop (made * 2) x₀,
        )

    -- one entry more, if there is one
    module _ (x' : List ℕ) (r : ℕ) (p : EntryPut m n x made x' r) (room : has_name (get_or m (n * 8) 0) ≡ true → made * 2 + 2 ≤ length x) where
      all : List Node
      all = g.done ++ (g.first ∷ [])

      entries_all : entries_in 0 all ≡ entries_in 0 g.done ++ entries_in n (g.first ∷ [])
      unfolding all
      entries_all =
          let e : 0 + length g.done ≡ n = omega (arith, g.here) in
          entries_append 0 g.done (g.first ∷ []) ∙ ap (λ (i : ℕ). entries_in 0 g.done ++ entries_in i (g.first ∷ [])) e

      put_words : made * 2 + 2 ≤ length x
          → put_at made g.first.name n x ≡ entries_in 0 g.done ++ (g.first.name ∷ n ∷ drop ((made + 1) * 2) x₀)
      put_words h =
          let e : made * 2 + 2 ≡ (made + 1) * 2 = omega arith in
          let t : take (made * 2) x ≡ entries_in 0 g.done =
          ap (take (made * 2)) g.words ∙ take_at (entries_in 0 g.done) (drop (made * 2) x₀) (made * 2) (sym g.many) in
          let d : drop (made * 2) x ≡ drop (made * 2) x₀ =
          ap (drop (made * 2)) g.words ∙ drop_at (entries_in 0 g.done) (drop (made * 2) x₀) (made * 2) (sym g.many) in
          ap (λ (i : ℕ). set (set x (made * 2) g.first.name) i n) (add-one (made * 2))
          ∙ (sets-eq (g.first.name ∷ n ∷ []) x (made * 2) h
          ∙ (append_assoc (take (made * 2) x) (g.first.name ∷ n ∷ []) (drop (made * 2 + 2) x)
          ∙ (ap (λ (l : List ℕ). l ++ (g.first.name ∷ n ∷ drop (made * 2 + 2) x)) t
          ∙ ap (λ (l : List ℕ). entries_in 0 g.done ++ (g.first.name ∷ n ∷ l))
          (sym (drop-drop 2 (made * 2) x) ∙ (ap (drop 2) d ∙ (drop-drop 2 (made * 2) x₀ ∙ ap (λ (i : ℕ). drop i x₀) e))))))

      pub filling_more : Filling ns x₀ (n + 1) x' r
      unfolding all
      filling_more = go (has_name g.first.kind) refl
        where
          told : r ≡ cond (has_name g.first.kind) (made + 1) made
          told = p.told ∙ ap (λ (k : ℕ). cond (has_name k) (made + 1) made) kind_at

          left : x' ≡ cond (has_name g.first.kind) (put_at made g.first.name n x) x
          left =
              p.left
              ∙ (ap (λ (k : ℕ). cond (has_name k) (put_at made (get_or m (n * 8 + 2) 0) n x) x) kind_at
              ∙ ap (λ (k : ℕ). cond (has_name g.first.kind) (put_at made k n x) x) name_at)

          go : (b : Bool) → has_name g.first.kind ≡ b → Filling ns x₀ (n + 1) x' r
          go true e =
              let q : r ≡ made + 1 = rw e at told in
              let y : x' ≡ put_at made g.first.name n x = rw e at left in
              let a : entries_in 0 all ≡ entries_in 0 g.done ++ (g.first.name ∷ n ∷ []) =
              entries_all ∙ ap (λ (l : List ℕ). entries_in 0 g.done ++ l) (one_named n g.first e) in
              record {
                done = all;
                left = g.more;
                split = g.split ∙ sym (append_assoc g.done (g.first ∷ []) g.more);
                here = omega (arith, length-append g.done (g.first ∷ []), g.here);
                many = omega (arith, q, g.many, ap length a, length-append (entries_in 0 g.done) (g.first.name ∷ n ∷ []));
                few = omega (arith, q, g.few);
                words =
                    y
                    ∙ (put_words (room (ap has_name kind_at ∙ e))
                    ∙ rw (a, q, append_assoc));
              }
          go false e =
              let q : r ≡ made = rw e at told in
              let y : x' ≡ x = rw e at left in
              let a : entries_in 0 all ≡ entries_in 0 g.done =
              entries_all
              ∙ (ap (λ (l : List ℕ). entries_in 0 g.done ++ l) (one_other n g.first e) ∙ append-nil (entries_in 0 g.done)) in
              record {
                done = all;
                left = g.more;
                split = g.split ∙ sym (append_assoc g.done (g.first ∷ []) g.more);
                here = omega (arith, length-append g.done (g.first ∷ []), g.here);
                many = omega (arith, q, g.many, ap length a);
                few = omega (arith, q, g.few);
                words = y ∙ (g.words ∙ rw (a, q));
              }

-- what was asked for all serves for the next node, the n-th
pub asks_next : {m : List ℕ} {count : ℕ} {x₀ : List ℕ} → AsksEntries m count x₀ → (n : ℕ) (x : List ℕ) (made : ℕ) → n < count → count ≤ missing
    → ((ns : List Node) (rest : List ℕ) → length ns ≡ count → m ≡ words_of_nodes ns ++ rest → Filling ns x₀ n x made) → AsksEntry m n x made
asks_next {m} {count} {x₀} a n x made l b f =
    let g : Next a.nodes x₀ n x made = filling_next a.nodes x₀ n x made (f a.nodes a.rest a.many a.words) (omega (arith, a.many)) in
    record {
      lent = node_lent a.nodes x₀ n x made g m a.rest a.words;
      room = next_room a.nodes x₀ n x made g m a.rest a.words a.room;
      few = let k = g.few in omega arith;
    }
