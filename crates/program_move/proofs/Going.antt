-- A list of nodes of which those in front are moved, and the others not yet.
use mathlib.Core.Path.{◌≡◌, refl, sym, ap, ◌∙◌}
use mathlib.Core.List.{List, [], ◌∷◌, ◌++◌, map, map-append, append_assoc, append-nil}
use Prim.Native.Nat.{ℕ, ◌+◌, ◌-◌, ◌*◌, ◌≤◌, ◌<◌}
use native.Mathlib.Omega.{arith}
use lib.ListN.{length, take, drop, length-append, length-map}
use lib.Seq.{take_at, drop_at}
use borrow.Rule.Slice.PartMut.{put_mid}
use Rattle.rules.specs.Nodes.{Node, node_words, words_of_nodes}
use Rattle.laws.proofs.Lists.{lent_tail, back_tail}
use Rattle.theory_grammar.proofs.Laws.{words_length, words_append}
use Rattle.theory_moved.specs.Moved.{moved}
use Rattle.theory_within.specs.Within.{Within, AllWithin, and_more}
use Rattle.program_move.specs.Move.{AsksFirst, FirstMoved, AsksMove}

-- Of the nodes ns those in front, up to word `at`, are moved by k.
pub record Going (ns : List Node) (rest : List ℕ) (k at : ℕ) (m : List ℕ) : Type 0 where
  pub done : List Node
  pub left : List Node
  pub split : ns ≡ done ++ left
  pub here : at ≡ 8 * length done
  pub words : m ≡ words_of_nodes (map (moved k) done) ++ (words_of_nodes left ++ rest)

-- the same, where one is left
pub record Next (ns : List Node) (rest : List ℕ) (k at : ℕ) (m : List ℕ) : Type 0 where
  pub done : List Node
  pub first : Node
  pub more : List Node
  pub split : ns ≡ done ++ (first ∷ more)
  pub here : at ≡ 8 * length done
  pub words : m ≡ words_of_nodes (map (moved k) done) ++ (node_words first ++ (words_of_nodes more ++ rest))

-- a node of a list
within_at : {b : ℕ} (xs : List Node) (x : Node) (ys : List Node) → AllWithin b (xs ++ (x ∷ ys)) → Within b x
within_at [] x ys (and_more n p) = n
within_at (y ∷ xs) x ys (and_more n p) = within_at xs x ys p

moved_length : (k : ℕ) (ns : List Node) → length (words_of_nodes (map (moved k) ns)) ≡ 8 * length ns
moved_length k ns = words_length (map (moved k) ns) ∙ ap (λ (n : ℕ). 8 * n) (length-map ns (moved k))

module _ (ns : List Node) (rest : List ℕ) (k : ℕ) where
  pub going_start : (m : List ℕ) → m ≡ words_of_nodes ns ++ rest → Going ns rest k 0 m
  unfolding words_of_nodes
  going_start m e = record { done = []; left = ns; split = refl; here = refl; words = e }

  module _ (at : ℕ) (m : List ℕ) where
    -- all are moved
    pub going_ends : Going ns rest k at m → length ns * 8 ≤ at → m ≡ words_of_nodes (map (moved k) ns) ++ rest
    unfolding words_of_nodes
    going_ends g h = go g.left g.split g.words
      where
        go : (left : List Node) → ns ≡ g.done ++ left → m ≡ words_of_nodes (map (moved k) g.done) ++ (words_of_nodes left ++ rest)
            → m ≡ words_of_nodes (map (moved k) ns) ++ rest
        go [] s w = rw (s, append-nil) w
        go (x ∷ left) s w = absurd (omega (arith, g.here, ap length s, length-append g.done (x ∷ left)))

    -- one is left
    pub going_next : Going ns rest k at m → at < length ns * 8 → Next ns rest k at m
    unfolding words_of_nodes
    going_next g h = go g.left g.split g.words
      where
        go : (left : List Node) → ns ≡ g.done ++ left → m ≡ words_of_nodes (map (moved k) g.done) ++ (words_of_nodes left ++ rest)
            → Next ns rest k at m
        go [] s w = absurd (omega (arith, g.here, ap length s, length-append g.done []))
        go (x ∷ left) s w = record {
          done = g.done;
          first = x;
          more = left;
          split = s;
          here = g.here;
          words =
              w ∙ ap (λ (l : List ℕ). words_of_nodes (map (moved k) g.done) ++ l) (append_assoc (node_words x) (words_of_nodes left) rest);
        }

    module _ (g : Next ns rest k at m) where
      front : List ℕ
      front = words_of_nodes (map (moved k) g.done)

      behind : List ℕ
      behind = node_words g.first ++ (words_of_nodes g.more ++ rest)

      front_length : length front ≡ at
      unfolding front
      front_length = moved_length k g.done ∙ sym g.here

      pub inside : at ≤ length m
      unfolding front behind
      inside = omega (arith, ap length g.words, length-append front behind, front_length)

      -- the tail that is lent
      pub next_lent : take (length m - at) (drop at m) ≡ node_words g.first ++ (words_of_nodes g.more ++ rest)
      unfolding front behind
      next_lent = lent_tail m at inside ∙ (ap (drop at) g.words ∙ drop_at front behind at front_length)

      pub next_within : (last : ℕ) → AllWithin last ns → Within last g.first
      next_within last w = within_at g.done g.first g.more (rw g.split at w)

      -- and the whole after it came back
      pub next_back : (ys : List ℕ) → FirstMoved (take (length m - at) (drop at m)) k ys
          → Going ns rest k (at + 8) (put_mid at (length m - at) m ys)
      unfolding front behind words_of_nodes
      next_back ys f = record {
        done = g.done ++ (g.first ∷ []);
        left = g.more;
        split = g.split ∙ sym (append_assoc g.done (g.first ∷ []) g.more);
        here = omega (arith, g.here, length-append g.done (g.first ∷ []));
        words =
            back_tail m at inside ys
            ∙ (ap (λ (l : List ℕ). l ++ ys) (ap (take at) g.words ∙ take_at front behind at front_length)
            ∙ (ap (λ (l : List ℕ). front ++ l) (f g.first (words_of_nodes g.more ++ rest) next_lent)
            ∙ rw (
              map-append (moved k) g.done (g.first ∷ []),
              words_append (map (moved k) g.done) (moved k g.first ∷ []),
              append-nil,
              append_assoc,
            )));
      }

-- what was asked for all serves for the next node, the i-th
module _ {m₀ : List ℕ} {n k : ℕ} (a : AsksMove m₀ n k) (i : ℕ) (m : List ℕ) (l : i < n)
    (g : (ns : List Node) (rest : List ℕ) → length ns ≡ n → m₀ ≡ words_of_nodes ns ++ rest → Going ns rest k (i * 8) m) where
  next : Next a.nodes a.rest k (i * 8) m
  next = going_next a.nodes a.rest k (i * 8) m (g a.nodes a.rest a.many a.words) (omega (arith, a.many))

  pub starts : i * 8 ≤ length m
  starts = inside _ _ _ (i * 8) m next

  pub asks_first : AsksFirst (take (length m - i * 8) (drop (i * 8) m)) k
  asks_first = record {
    first = next.first;
    rest = words_of_nodes next.more ++ a.rest;
    words = next_lent _ _ _ (i * 8) m next;
    last = a.last;
    within = next_within _ _ _ (i * 8) m next a.last a.within;
    fits = a.fits;
  }
