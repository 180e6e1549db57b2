-- The words of the first node, read and stored one by one.
use mathlib.Core.Path.{◌≡◌, refl, sym, ◌∙◌}
use mathlib.Core.List.{List, ◌++◌}
use Prim.Native.Nat.{ℕ, ◌+◌, ◌≤◌}
use native.Mathlib.Omega.{arith}
use lib.ListN.{length, get_or, set}
use borrow.Author.Tests.{eq-eqb, ne_eqb}
use Rattle.rules.specs.Nodes.{Node, NodeUnit, missing, node_words}
use Rattle.theory_moved.specs.Moved.{moved_row, moved}
use Rattle.program_move.specs.Move.{AsksFirst, AsksChildren, with_more}

pub row_missing : (k r : ℕ) → r ≡ missing → missing ≡ moved_row k r
unfolding moved_row
row_missing k r e = rw (eq-eqb r missing e)

pub row_there : (k r : ℕ) → (r ≡ missing → ⊥) → r + k ≡ moved_row k r
unfolding moved_row
row_there k r h = rw (ne_eqb r missing h)

-- ---- a node's words, of which the place and the name are stored

-- after the place was, and after both were
abbrev pub placed : List ℕ → ℕ → List ℕ
placed m k = set m 1 (get_or m 1 0 + k)

abbrev pub renamed : List ℕ → ℕ → ℕ → List ℕ
renamed m k r = set (placed m k) 2 r

long : (x : Node) (rest : List ℕ) → 8 ≤ length (node_words x ++ rest)
unfolding node_words
long x rest = omega arith

place_word : (x : Node) (rest : List ℕ) → get_or (node_words x ++ rest) 1 0 ≡ x.place
unfolding node_words
place_word x rest = refl

name_word : (x : Node) (rest : List ℕ) (k : ℕ) → get_or (placed (node_words x ++ rest) k) 2 0 ≡ x.name
unfolding node_words
name_word x rest k = refl

kind_word : (x : Node) (rest : List ℕ) (k r : ℕ) → get_or (renamed (node_words x ++ rest) k r) 0 0 ≡ x.kind
unfolding node_words
kind_word x rest k r = refl

licence_word : (x : Node) (rest : List ℕ) (k r : ℕ) → get_or (renamed (node_words x ++ rest) k r) 5 0 ≡ x.fact1
unfolding node_words
licence_word x rest k r = refl

module _ (m : List ℕ) (x : Node) (rest : List ℕ) (e : m ≡ node_words x ++ rest) where
  pub words_long : 8 ≤ length m
  words_long = rw e (long x rest)

  pub name_of : (k : ℕ) → get_or (placed m k) 2 0 ≡ x.name
  name_of k = rw e (name_word x rest k)

  pub kind_of_lem : (k r : ℕ) → get_or (renamed m k r) 0 0 ≡ x.kind
  kind_of_lem k r = rw e (kind_word x rest k r)

  pub licence_of_lem : (k r : ℕ) → get_or (renamed m k r) 5 0 ≡ x.fact1
  licence_of_lem k r = rw e (licence_word x rest k r)

  -- what is stored is the moved node: of no unit, and of a unit
  pub other_moved : (k r : ℕ) → r ≡ moved_row k x.name → (x.kind ≡ NodeUnit → ⊥) → renamed m k r ≡ node_words (moved k x) ++ rest
  unfolding node_words moved
  other_moved k r q h = rw (e, q, ne_eqb x.kind NodeUnit h)

  pub unit_moved : (k r s : ℕ) → r ≡ moved_row k x.name → x.kind ≡ NodeUnit → s ≡ moved_row k x.fact1
      → set (renamed m k r) 5 s ≡ node_words (moved k x) ++ rest
  unfolding node_words moved
  unit_moved k r s q h f = rw (e, q, f, eq-eqb x.kind NodeUnit h)

  pub place_of : get_or m 1 0 ≡ x.place
  place_of = rw e (place_word x rest)

-- ---- what is asked of the first node

module _ {m : List ℕ} {k : ℕ} (a : AsksFirst m k) where
  pub first_long : 8 ≤ length m
  first_long = words_long m a.first a.rest a.words

  pub place_fits_lem : get_or m 1 0 + k ≤ missing
  place_fits_lem = omega (arith, place_of m a.first a.rest a.words, a.within.place, a.fits)

  pub name_fits : (get_or (placed m k) 2 0 ≡ missing → ⊥) → get_or (placed m k) 2 0 + k ≤ missing
  name_fits h =
      let e = name_of m a.first a.rest a.words k in
      omega (arith, a.within.name (λ z. h (e ∙ z)), a.fits)

  pub licence_fits : (r : ℕ) → get_or (renamed m k r) 0 0 ≡ NodeUnit
      → (get_or (renamed m k r) 5 0 ≡ missing → ⊥) → get_or (renamed m k r) 5 0 + k ≤ missing
  licence_fits r u h =
      let e = licence_of_lem m a.first a.rest a.words k r in
      let w = a.within.licence (sym (kind_of_lem m a.first a.rest a.words k r) ∙ u) (λ z. h (e ∙ z)) in
      omega (arith, w, a.fits)

-- ---- children

children_word : (x : Node) (rest : List ℕ) → get_or (node_words x ++ rest) 3 0 ≡ x.children
unfolding node_words
children_word x rest = refl

module _ {m : List ℕ} {more : ℕ} (a : AsksChildren m more) where
  pub children_long : 8 ≤ length m
  children_long = words_long m a.first a.rest a.words

  pub children_fit : get_or m 3 0 + more ≤ missing
  children_fit =
      let e : get_or m 3 0 ≡ a.first.children = rw a.words (children_word a.first a.rest) in
      omega (arith, e, a.fits)

pub children_added : (m : List ℕ) (more : ℕ) (x : Node) (rest : List ℕ) → m ≡ node_words x ++ rest
    → set m 3 (get_or m 3 0 + more) ≡ node_words (with_more more x) ++ rest
unfolding node_words
children_added m more x rest e = rw e
