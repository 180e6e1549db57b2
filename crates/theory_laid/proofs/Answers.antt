-- What the layout call tells and leaves is one of the three answers; which of them, its number says.
use Prim.Native.Nat.{ℕ, ◌≤◌, ◌<◌}
use native.Mathlib.Nat.{not-le_of_lt}
use native.Mathlib.Omega.{arith}
use mathlib.Core.Bool.{Bool, true, false, cond, ◌&&◌, true≢false}
use mathlib.Core.List.{List, ◌++◌}
use mathlib.Core.Logic.{◌⊎◌, inl, inr, ◌↔◌}
use mathlib.Core.Path.{◌≡◌, refl, sym, ap, ◌∙◌, subst}
use lib.Dec.{leb}
use lib.ListN.{length, drop, get_or}
use borrow.Author.Tests.{leb-true, leb-false}
use Rattle.rules.specs.Text.{most_bytes}
use Rattle.rules.specs.Tree.{Tree}
use Rattle.rules.specs.Parse.{Out, ok, no}
use Rattle.std.specs.Prelude.{Result, Ok, Err}
use Rattle.rules_layout.specs.declared.Unlaid.{Unlaid}
use Rattle.rules_layout.specs.declared.Unlaid.TheVariants.{NotItsTree, NoRoom}
use Rattle.rules_layout.specs.Bytes.{layout}
use Rattle.rules_layout.proofs.Told.{layout_told_by}
use Rattle.rules_layout.specs.Layout.{is_scanned, is_read, reading, room_told, layout_told, laid_of, layout_leaves}
use Rattle.answers.specs.Layout.{words, nowhere, table_of}
use Rattle.layout_answers.specs.Words.{laid_words}
use Rattle.theory_laid.specs.Answer.{ItsTree, LayoutAnswer, layout_3, layout_4, layout_0, Laid}
use Rattle.theory_laid.proofs.Trees.{its_scanned, its_read, is_its_tree, one_tree}

-- ---- what is told, and then what is left

module _ (text rows table nodes : List ℕ) (count : ℕ) (room : List ℕ) where
  abbrev tells : Result ℕ Unlaid
  tells = layout_told text rows (table_of table) nodes count (length room)

  abbrev leaves : List ℕ
  leaves = layout_leaves text rows (table_of table) nodes count room

  abbrev Answers : Type 0
  Answers = LayoutAnswer text rows table nodes count room (laid_words tells) leaves

  left_room : {why : Unlaid} → tells ≡ Err why → leaves ≡ room
  unfolding layout_leaves
  left_room e = rw (layout_leaves, e)

  left_bytes : {n : ℕ} → tells ≡ Ok n → leaves ≡ laid_of (reading text) ++ drop n room
  unfolding layout_leaves
  left_bytes e = rw (layout_leaves, e)

  says : {x : Result ℕ Unlaid} → tells ≡ x → laid_words tells ≡ laid_words x
  says e = ap (λ (x : Result ℕ Unlaid). laid_words x) e

  none : tells ≡ Err NotItsTree → ((p : Tree) → ItsTree text rows table nodes count p → ⊥) → Answers
  none e h = layout_3 h (says e) (left_room e)

  -- ---- by the tests

  told_by : {a b : Bool} → is_scanned text rows (table_of table) ≡ a → is_read (reading text) nodes count ≡ b
      → tells ≡ cond (a && b) (room_told (laid_of (reading text)) (length room)) (Err NotItsTree)
  told_by e f = layout_told_by text rows (table_of table) nodes count (length room) ∙ rw (e, f)

  -- the text's tree, and its layout in the room
  module _ (u : Tree) (j : ℕ) (e : reading text ≡ ok u j) (x : ItsTree text rows table nodes count u)
      (told : tells ≡ room_told (laid_of (reading text)) (length room)) where
    bytes_are : laid_of (reading text) ≡ layout u
    unfolding laid_of
    bytes_are = ap laid_of e

    told_room : tells ≡ room_told (layout u) (length room)
    told_room = told ∙ ap (λ (bytes : List ℕ). room_told bytes (length room)) bytes_are

    by_room : (a b : Bool) → leb (length (layout u)) (length room) ≡ a → leb (length (layout u)) most_bytes ≡ b → Answers
    unfolding room_told
    by_room true true f g =
        let t : tells ≡ Ok (length (layout u)) = told_room ∙ rw (f, g) in
        layout_0 (record {
          tree = u;
          its = x;
          in_room = leb-true (length (layout u)) (length room) f;
          short = leb-true (length (layout u)) most_bytes g;
          told = says t;
          left = left_bytes t ∙ ap (λ (bytes : List ℕ). bytes ++ drop (length (layout u)) room) bytes_are;
        })
    by_room true false f g =
        let t : tells ≡ Err NoRoom = told_room ∙ rw (f, g) in
        layout_4 u x (inr (leb-false (length (layout u)) most_bytes g)) (says t) (left_room t)
    by_room false b f g =
        let t : tells ≡ Err NoRoom = told_room ∙ rw f in
        layout_4 u x (inl (leb-false (length (layout u)) (length room) f)) (says t) (left_room t)

  by_reading : is_scanned text rows (table_of table) ≡ true → is_read (reading text) nodes count ≡ true → (o : Out) → reading text ≡ o
      → is_read o nodes count ≡ true → Answers
  unfolding is_read
  by_reading s r (ok u j) e h =
      by_room u j e (is_its_tree text rows table nodes count s u j e h) (told_by s r) (leb (length (layout u)) (length room)) (leb (length (layout u)) most_bytes)
      refl refl
  by_reading s r (no why k) e h = absurd (true≢false (sym h))

  by_tests : (a b : Bool) → is_scanned text rows (table_of table) ≡ a → is_read (reading text) nodes count ≡ b → Answers
  by_tests true true s r = by_reading s r (reading text) refl r
  by_tests true false s r = none (told_by s r) (λ p x. true≢false (sym (its_read text rows table nodes count p x) ∙ r))
  by_tests false b s r = none (told_by s r) (λ p x. true≢false (sym (its_scanned text rows table nodes count p x) ∙ s))

-- ---- the theorem

-- The layout call, lent whatever it is, answers in one of three ways:
--
-- 3 if the nodes are not the lent text's tree. There is no tree of a text that is too long, no UTF-8, or refused by the scan or the parse.
-- 4 if they are, and the tree's layout is longer than the room or than 65,536 bytes.
-- Else 0 and the layout's length, and the layout stands in the room.
--
-- 3 and 4 leave the room as it was, and so are the bytes behind a layout.
pub layout_answers : (text rows table nodes : List ℕ) (count : ℕ) (room : List ℕ)
    → LayoutAnswer text rows table nodes count room (laid_words (layout_told text rows (table_of table) nodes count (length room)))
    (layout_leaves text rows (table_of table) nodes count room)
layout_answers text rows table nodes count room =
    by_tests text rows table nodes count room (is_scanned text rows (table_of table)) (is_read (reading text) nodes count) refl refl

-- ---- its numbers

number_is : {answer ws : List ℕ} {n : ℕ} → answer ≡ ws → get_or answer 0 0 ≡ n → get_or ws 0 0 ≡ n
number_is e f = ap (λ (l : List ℕ). get_or l 0 0) (sym e) ∙ f

module _ {text rows table nodes : List ℕ} {count : ℕ} {room answer m : List ℕ} where
  -- Its number is 3 exactly if the nodes are not the lent text's tree.
  pub three_exactly : LayoutAnswer text rows table nodes count room answer m
      → (get_or answer 0 0 ≡ 3) ↔ ((p : Tree) → ItsTree text rows table nodes count p → ⊥)
  three_exactly (layout_3 h e l) = (λ f. h, λ g. ap (λ (ws : List ℕ). get_or ws 0 0) e)
  three_exactly (layout_4 p x s e l) = (λ f. absurd (let z = number_is e f in omega (arith, z)), λ g. absurd (g p x))
  three_exactly (layout_0 y) = (λ f. absurd (let z = number_is y.told f in omega (arith, z)), λ g. absurd (g y.tree y.its))

  -- It is 4 exactly if they are, and the tree's layout is longer than the room or than 65,536 bytes.
  pub four_exactly : LayoutAnswer text rows table nodes count room answer m
      → (get_or answer 0 0 ≡ 4)
      ↔ ((p : Tree) × ItsTree text rows table nodes count p × ((length room < length (layout p)) ⊎ (most_bytes < length (layout p))))
  four_exactly (layout_3 h e l) = (λ f. absurd (let z = number_is e f in omega (arith, z)), λ g. absurd (h g.0 g.1))
  four_exactly (layout_4 p x s e l) = (λ f. (p, x, s), λ g. ap (λ (ws : List ℕ). get_or ws 0 0) e)
  four_exactly (layout_0 x) = (λ f. absurd (let z = number_is x.told f in omega (arith, z)), λ g. absurd (by g))
    where
      by : ((q : Tree) × ItsTree text rows table nodes count q × ((length room < length (layout q)) ⊎ (most_bytes < length (layout q)))) → ⊥
      by (q, y, s) =
          long q (one_tree x.its y) s
        where
          long : (q : Tree) → x.tree ≡ q → (length room < length (layout q)) ⊎ (most_bytes < length (layout q)) → ⊥
          long q f (inl h) = not-le_of_lt h (rw f at x.in_room)
          long q f (inr h) = not-le_of_lt h (rw f at x.short)

-- Its number is 0 exactly if a layout was written.
pub laid_exactly : {text rows table nodes : List ℕ} {count : ℕ} {room answer m : List ℕ}
    → LayoutAnswer text rows table nodes count room answer m → (get_or answer 0 0 ≡ 0) ↔ Laid text rows table nodes count room answer m
laid_exactly (layout_3 h e l) = (λ f. absurd (let z = number_is e f in omega (arith, z)), λ y. ap (λ (ws : List ℕ). get_or ws 0 0) y.told)
laid_exactly (layout_4 p x s e l) = (λ f. absurd (let z = number_is e f in omega (arith, z)), λ y. ap (λ (ws : List ℕ). get_or ws 0 0) y.told)
laid_exactly (layout_0 x) = (λ f. x, λ y. ap (λ (ws : List ℕ). get_or ws 0 0) y.told)

-- Lent the text's tree, with room for its layout, the call writes it.
pub writes : {text rows table nodes : List ℕ} {count : ℕ} {room answer m : List ℕ} → LayoutAnswer text rows table nodes count room answer m
    → (p : Tree) → ItsTree text rows table nodes count p → length (layout p) ≤ length room → length (layout p) ≤ most_bytes
    → (answer ≡ words 0 nowhere 0 0 0 (length (layout p))) × (m ≡ layout p ++ drop (length (layout p)) room)
writes (layout_3 h e l) p x a b = absurd (h p x)
writes {room = room} (layout_4 q y s e l) p x a b = absurd (by s)
  where
    n : length (layout q) ≡ length (layout p)
    n = ap (λ (t : Tree). length (layout t)) (one_tree y x)

    by : (length room < length (layout q)) ⊎ (most_bytes < length (layout q)) → ⊥
    by (inl h) = omega (arith, h, n, a)
    by (inr h) = omega (arith, h, n, b)
writes {room = room} {answer} {m} (layout_0 y) p x a b =
    subst (λ (t : Tree). (answer ≡ words 0 nowhere 0 0 0 (length (layout t))) × (m ≡ layout t ++ drop (length (layout t)) room)) (one_tree y.its x)
    (y.told, y.left)
