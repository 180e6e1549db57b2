-- Laws of rows, of a tree's numbers and of node memory.
use mathlib.Core.Path.{◌≡◌, refl, sym, ap, ◌∙◌, subst}
use mathlib.Core.Bool.{Bool, true, false, ◌||◌, true≢false}
use mathlib.Core.List.{List, [], ◌∷◌, ◌++◌, append_assoc}
use Prim.Native.Nat.{ℕ, zero, suc, pred, ◌+◌, ◌*◌, ◌/◌, ◌%◌, ◌^◌, ◌≤◌, ◌<◌, zero-le, suc-le-suc}
use native.Mathlib.Nat.{add-suc, suc-add, not-suc-le-zero, le_of_suc-le-suc, add-zero}
use native.Mathlib.Numerals.{add-one, add-two, add-three, add-four, add_five, add_six, add_seven}
use native.Mathlib.Omega.{arith}
use lib.Dec.{eqb}
use lib.ListN.{length, get_or, drop, set, length-append}
use lib.Seq.{sets, set_out, drop-cons}
use borrow.Author.Tests.{eqb-true, eqb-false}
use Rattle.rules.specs.Kinds.{Eof, KeywordKey, KeywordValue}
use Rattle.rules.specs.Tree.{Tok, sign, kind_of, Tree, none, num, var, star, group, field, call, bin, one, more, decl, ret, plain, assign, guard, then_body, else_body, seq, text, unit, map_type, typed, limit, first, shifted, map_decl, plain_field, bytes_field, array_field, event, program, yield, count, unit_kind, type_number, type_of, typed_by, limit_of}
use Rattle.rules.specs.Nodes.{Node, node, fact_node, missing, width, place_of, licence_row, binary_node, decl_node, assign_node, text_node, nodes_of, size, node_words, words_of_nodes, tree_words}
use Rattle.rules.specs.Parse.{tok_at, kind_at}
use Rattle.rules.specs.Grammar.{Nt, Add, Shift, Mul, Unary, Basic, Args, Stmt, Stmts, Item, Items, Chain, MapField, MapFields, EventField, EventFields, Decl, Decls, Program, Is, i_num, i_var, i_group, i_field, i_bare, i_call, i_one, i_more, i_prim, i_star, i_unary, i_mul, i_lone, i_shift, i_up, i_add, i_decl, i_ret, i_plain, i_assign, i_if, i_if_else, i_no_stmts, i_stmts, i_stmt, i_text, i_no_items, i_items, i_first, i_shifted, i_type, i_typed, i_limit, i_no_fields, i_fields, i_plain_field, i_bytes_field, i_array_field, i_no_event_fields, i_event_fields, i_unit, i_map, i_event, i_no_decls, i_decls, i_program}

-- ---- rows

-- within a list the default does not matter
pub get_d_default {ℓ} : {A : Type ℓ} (l : List A) (i : ℕ) (d e : A) → i < length l → get_or l i d ≡ get_or l i e
get_d_default [] i d e h = absurd (not-suc-le-zero h)
get_d_default (x ∷ xs) zero d e h = refl
get_d_default (x ∷ xs) (suc i) d e h = get_d_default xs i d e (le_of_suc-le-suc h)

-- a row whose kind is not Eof is in the table
pub here : (ts : List Tok) (i k : ℕ) → kind_at ts i ≡ k → eqb k Eof ≡ false → i < length ts
unfolding kind_of
here [] i k e f = absurd (eqb-false k Eof f (sym e))
here (x ∷ xs) zero k e f = suc-le-suc zero-le
here (x ∷ xs) (suc i) k e f = suc-le-suc (here xs i k e f)

-- a row whose kind passes a test that Eof fails is in the table
pub test_here : (ts : List Tok) (i : ℕ) (test : ℕ → Bool) → test Eof ≡ false → test (kind_at ts i) ≡ true → i < length ts
unfolding kind_of
test_here [] i test e b = let z : true ≡ false = sym b ∙ e in absurd (true≢false z)
test_here (x ∷ xs) zero test e b = suc-le-suc zero-le
test_here (x ∷ xs) (suc i) test e b = suc-le-suc (test_here xs i test e b)

-- what stands from a row on
pub from : (ts : List Tok) (i : ℕ) → i < length ts → drop i ts ≡ tok_at ts i ∷ drop (i + 1) ts
from ts i h = drop-cons ts i (sign Eof) h ∙ rw add-one

-- ---- kinds

-- what holds of each kind that a test names holds of a kind that passes it
pub either_kind : (C : ℕ → Type 0) (k x y : ℕ) → eqb k x || eqb k y ≡ true → C x → C y → C k
either_kind C k x y b p q = go (eqb k x) refl b
  where
    go : (c : Bool) → eqb k x ≡ c → c || eqb k y ≡ true → C k
    go true e b = subst C (sym (eqb-true k x e)) p
    go false e b = subst C (sym (eqb-true k y b)) q

pub three_kinds : (C : ℕ → Type 0) (k x y z : ℕ) → (eqb k x || eqb k y) || eqb k z ≡ true → C x → C y → C z → C k
three_kinds C k x y z b p q r = go (eqb k x || eqb k y) refl b
  where
    go : (c : Bool) → eqb k x || eqb k y ≡ c → c || eqb k z ≡ true → C k
    go true e b = either_kind C k x y e p q
    go false e b = subst C (sym (eqb-true k z b)) r

-- ---- memory

module _ {A : Type 0} where
  pub sets_append : (xs l ys : List A) (i : ℕ) → sets l i (xs ++ ys) ≡ sets (sets l i xs) (i + length xs) ys
  sets_append [] l ys i = rw add-zero
  sets_append (x ∷ xs) l ys i = sets_append xs (set l i x) ys (suc i) ∙ rw (suc-add i (length xs), ← add-suc i (length xs))

-- stores behind the end
pub sets_out : (vs l : List ℕ) (i : ℕ) → length l ≤ i → sets l i vs ≡ l
sets_out [] l i h = refl
sets_out (v ∷ vs) l i h = rw (set_out l i v h) (sets_out vs l (suc i) (omega arith))

-- eight stores, one behind the other
pub sets_eight : (m m₁ m₂ m₃ m₄ m₅ m₆ m₇ m₈ : List ℕ) (p a b c d e f g h : ℕ) → m₁ ≡ set m p a → m₂ ≡ set m₁ (p + 1) b → m₃ ≡ set m₂ (p + 2) c
    → m₄ ≡ set m₃ (p + 3) d → m₅ ≡ set m₄ (p + 4) e → m₆ ≡ set m₅ (p + 5) f → m₇ ≡ set m₆ (p + 6) g → m₈ ≡ set m₇ (p + 7) h
    → m₈ ≡ sets m p (node_words (fact_node a b c d e f g h))
unfolding node_words
sets_eight m m₁ m₂ m₃ m₄ m₅ m₆ m₇ m₈ p a b c d e f g h e₁ e₂ e₃ e₄ e₅ e₆ e₇ e₈ =
    rw (e₈, e₇, e₆, e₅, e₄, e₃, e₂, e₁, add-one, add-two, add-three, add-four, add_five, add_six, add_seven)

-- ---- a tree's numbers

pub yield_width : (t : Tree) → length (yield t) ≡ width t
unfolding yield width
yield_width none = refl
yield_width (num v) = refl
yield_width (var w) = refl
yield_width (star t) = omega (arith, yield_width t)
yield_width (group t) = simp length-append (omega (arith, yield_width t))
yield_width (field t w) = simp length-append (omega (arith, yield_width t))
yield_width (call t w a) = simp length-append (omega (arith, yield_width t, yield_width a))
yield_width (bin k l r) = simp length-append (omega (arith, yield_width l, yield_width r))
yield_width (one t) = yield_width t
yield_width (more a t) = simp length-append (omega (arith, yield_width a, yield_width t))
yield_width (decl k w e) = simp length-append (omega (arith, yield_width e))
yield_width (ret e) = simp length-append (omega (arith, yield_width e))
yield_width (plain e) = simp length-append (omega (arith, yield_width e))
yield_width (assign k l r) = simp length-append (omega (arith, yield_width l, yield_width r))
yield_width (guard w b e) = simp length-append (omega (arith, yield_width b, yield_width e))
yield_width (then_body s) = simp length-append (omega (arith, yield_width s))
yield_width (else_body s) = simp length-append (omega (arith, yield_width s))
yield_width (seq l t) = simp length-append (omega (arith, yield_width l, yield_width t))
yield_width (text k w) = refl
yield_width (unit w l) = simp length-append (omega (arith, yield_width l))
yield_width (map_type w) = refl
yield_width (typed k t) = refl
yield_width (limit c) = simp length-append (omega (arith, yield_width c))
yield_width (first v) = refl
yield_width (shifted k c v) = simp length-append (omega (arith, yield_width c))
yield_width (map_decl w l) = simp length-append (omega (arith, yield_width l))
yield_width (plain_field w t) = refl
yield_width (bytes_field w v) = refl
yield_width (array_field w t v) = refl
yield_width (event w l) = simp length-append (omega (arith, yield_width l))
yield_width (program l) = simp length-append (omega (arith, yield_width l))

-- nodes never outnumber rows
pub nodes_within_rows : (t : Tree) → size t ≤ width t
unfolding size width
nodes_within_rows none = omega arith
nodes_within_rows (num v) = omega arith
nodes_within_rows (var w) = omega arith
nodes_within_rows (star t) = omega (arith, nodes_within_rows t)
nodes_within_rows (group t) = omega (arith, nodes_within_rows t)
nodes_within_rows (field t w) = omega (arith, nodes_within_rows t)
nodes_within_rows (call t w a) = omega (arith, nodes_within_rows t, nodes_within_rows a)
nodes_within_rows (bin k l r) = omega (arith, nodes_within_rows l, nodes_within_rows r)
nodes_within_rows (one t) = omega (arith, nodes_within_rows t)
nodes_within_rows (more a t) = omega (arith, nodes_within_rows a, nodes_within_rows t)
nodes_within_rows (decl k w e) = omega (arith, nodes_within_rows e)
nodes_within_rows (ret e) = omega (arith, nodes_within_rows e)
nodes_within_rows (plain e) = omega (arith, nodes_within_rows e)
nodes_within_rows (assign k l r) = omega (arith, nodes_within_rows l, nodes_within_rows r)
nodes_within_rows (guard w b e) = omega (arith, nodes_within_rows b, nodes_within_rows e)
nodes_within_rows (then_body s) = omega (arith, nodes_within_rows s)
nodes_within_rows (else_body s) = omega (arith, nodes_within_rows s)
nodes_within_rows (seq l t) = omega (arith, nodes_within_rows l, nodes_within_rows t)
nodes_within_rows (text k w) = omega arith
nodes_within_rows (unit w l) = omega (arith, nodes_within_rows l)
nodes_within_rows (map_type w) = omega arith
nodes_within_rows (typed k t) = omega arith
nodes_within_rows (limit c) = omega arith
nodes_within_rows (first v) = omega arith
nodes_within_rows (shifted k c v) = omega arith
nodes_within_rows (map_decl w l) = omega arith
nodes_within_rows (plain_field w t) = omega arith
nodes_within_rows (bytes_field w v) = omega arith
nodes_within_rows (array_field w t v) = omega arith
nodes_within_rows (event w l) = omega (arith, nodes_within_rows l)
nodes_within_rows (program l) = omega (arith, nodes_within_rows l)

-- a tree's place is one of its rows, or the next
pub place_width : (i : ℕ) (t : Tree) → place_of i t ≤ i + width t
unfolding place_of width
place_width i none = omega arith
place_width i (num v) = omega arith
place_width i (var w) = omega arith
place_width i (star t) = omega (arith, place_width (i + 1) t)
place_width i (group t) = omega (arith, place_width (i + 1) t)
place_width i (field t w) = omega arith
place_width i (call t w a) = omega (arith, place_width i t)
place_width i (bin k l r) = omega (arith, place_width i l)
place_width i (one t) = omega (arith, place_width i t)
place_width i (more a t) = omega (arith, place_width i a)
place_width i (decl k w e) = omega arith
place_width i (ret e) = omega arith
place_width i (plain e) = omega (arith, place_width i e)
place_width i (assign k l r) = omega (arith, place_width i l)
place_width i (guard w b e) = omega arith
place_width i (then_body s) = omega arith
place_width i (else_body s) = omega arith
place_width i (seq l t) = omega arith
place_width i (text k w) = omega arith
place_width i (unit w l) = omega arith
place_width i (map_type w) = omega arith
place_width i (typed k t) = omega arith
place_width i (limit c) = omega arith
place_width i (first v) = omega arith
place_width i (shifted k c v) = omega arith
place_width i (map_decl w l) = omega arith
place_width i (plain_field w t) = omega arith
place_width i (bytes_field w v) = omega arith
place_width i (array_field w t v) = omega arith
place_width i (event w l) = omega arith
place_width i (program l) = omega arith

-- the fewest rows that a tree of a nonterminal has: a list of statements, items, fields or declarations may be empty
abbrev pub fewest : Nt → ℕ
fewest Add = 1
fewest Shift = 1
fewest Mul = 1
fewest Unary = 1
fewest Basic = 1
fewest Args = 1
fewest Stmt = 1
fewest Stmts = 0
fewest Item = 1
fewest Items = 0
fewest Chain = 1
fewest MapField = 1
fewest MapFields = 0
fewest EventField = 1
fewest EventFields = 0
fewest Decl = 1
fewest Decls = 0
fewest Program = 1

module _ {strict : Bool} where
  pub is_wide : {N : Nt} {d : ℕ} {t : Tree} → Is strict N d t → fewest N ≤ width t
  unfolding width
  is_wide i_num = omega arith
  is_wide i_var = omega arith
  is_wide (i_group h) = omega arith
  is_wide (i_field h) = omega arith
  is_wide (i_bare h q) = omega arith
  is_wide (i_call h q v) = omega arith
  is_wide (i_one h) = is_wide h
  is_wide (i_more h v) = omega arith
  is_wide (i_prim h) = is_wide h
  is_wide (i_star h) = omega arith
  is_wide (i_unary h) = is_wide h
  is_wide (i_mul h b v) = omega arith
  is_wide (i_lone h) = is_wide h
  is_wide (i_shift h b v) = omega arith
  is_wide (i_up h) = is_wide h
  is_wide (i_add h b v) = omega arith
  is_wide (i_decl b h) = omega arith
  is_wide (i_ret h) = omega arith
  is_wide (i_plain h) = omega arith
  is_wide (i_assign b h v) = omega arith
  is_wide (i_if h) = omega arith
  is_wide (i_if_else h v) = omega arith
  is_wide i_no_stmts = omega arith
  is_wide (i_stmts h v) = omega arith
  is_wide (i_stmt h) = is_wide h
  is_wide (i_text b) = omega arith
  is_wide i_no_items = omega arith
  is_wide (i_items h v) = omega arith
  is_wide i_first = omega arith
  is_wide (i_shifted h b q) = omega arith
  is_wide (i_type q) = omega arith
  is_wide (i_typed b c) = omega arith
  is_wide (i_limit h q) = omega arith
  is_wide i_no_fields = omega arith
  is_wide (i_fields h v) = omega arith
  is_wide (i_plain_field b) = omega arith
  is_wide (i_bytes_field q) = omega arith
  is_wide (i_array_field b q) = omega arith
  is_wide i_no_event_fields = omega arith
  is_wide (i_event_fields h v) = omega arith
  is_wide (i_unit h) = omega arith
  is_wide (i_map h q) = omega arith
  is_wide (i_event h) = omega arith
  is_wide i_no_decls = omega arith
  is_wide (i_decls h v) = omega arith
  is_wide (i_program h) = omega arith

  -- a list has no more things than rows
  pub is_count : {N : Nt} {d : ℕ} {t : Tree} → Is strict N d t → count t ≤ width t
  unfolding count width
  is_count i_num = omega arith
  is_count i_var = omega arith
  is_count (i_group h) = omega arith
  is_count (i_field h) = omega arith
  is_count (i_bare h q) = omega arith
  is_count (i_call h q v) = omega arith
  is_count (i_one h) = is_wide h
  is_count (i_more h v) = omega (arith, is_count h, is_wide v)
  is_count (i_prim h) = is_count h
  is_count (i_star h) = omega arith
  is_count (i_unary h) = is_count h
  is_count (i_mul h b v) = omega arith
  is_count (i_lone h) = is_count h
  is_count (i_shift h b v) = omega arith
  is_count (i_up h) = is_count h
  is_count (i_add h b v) = omega arith
  is_count (i_decl b h) = omega arith
  is_count (i_ret h) = omega arith
  is_count (i_plain h) = omega arith
  is_count (i_assign b h v) = omega arith
  is_count (i_if h) = omega arith
  is_count (i_if_else h v) = omega arith
  is_count i_no_stmts = omega arith
  is_count (i_stmts h v) = omega (arith, is_count h, is_wide v)
  is_count (i_stmt h) = is_count h
  is_count (i_text b) = omega arith
  is_count i_no_items = omega arith
  is_count (i_items h v) = omega (arith, is_count h, is_wide v)
  is_count i_first = omega arith
  is_count (i_shifted h b q) = omega arith
  is_count (i_type q) = omega arith
  is_count (i_typed b c) = omega arith
  is_count (i_limit h q) = omega arith
  is_count i_no_fields = omega arith
  is_count (i_fields h v) = omega (arith, is_count h, is_wide v)
  is_count (i_plain_field b) = omega arith
  is_count (i_bytes_field q) = omega arith
  is_count (i_array_field b q) = omega arith
  is_count i_no_event_fields = omega arith
  is_count (i_event_fields h v) = omega (arith, is_count h, is_wide v)
  is_count (i_unit h) = omega arith
  is_count (i_map h q) = omega arith
  is_count (i_event h) = omega arith
  is_count i_no_decls = omega arith
  is_count (i_decls h v) = omega (arith, is_count h, is_wide v)
  is_count (i_program h) = omega arith

-- as many nodes as `size` says
pub nodes_size : (i : ℕ) (t : Tree) → length (nodes_of i t) ≡ size t
unfolding nodes_of size
nodes_size i none = refl
nodes_size i (num v) = refl
nodes_size i (var w) = refl
nodes_size i (star t) = simp length-append (omega (arith, nodes_size (i + 1) t))
nodes_size i (group t) = nodes_size (i + 1) t
nodes_size i (field t w) = simp length-append (omega (arith, nodes_size i t))
nodes_size i (call t w a) = simp length-append (omega (arith, nodes_size i t, nodes_size (i + width t + 3) a))
nodes_size i (bin k l r) = simp length-append (omega (arith, nodes_size i l, nodes_size (i + width l + 1) r))
nodes_size i (one t) = nodes_size i t
nodes_size i (more a t) = simp length-append (omega (arith, nodes_size i a, nodes_size (i + width a + 1) t))
nodes_size i (decl k w e) = simp length-append (omega (arith, nodes_size (i + 3) e))
nodes_size i (ret e) = simp length-append (omega (arith, nodes_size (i + 1) e))
nodes_size i (plain e) = simp length-append (omega (arith, nodes_size i e))
nodes_size i (assign k l r) = simp length-append (omega (arith, nodes_size i l, nodes_size (i + width l + 1) r))
nodes_size i (guard w b e) = simp length-append (omega (arith, nodes_size (i + 5) b, nodes_size (i + 5 + width b) e))
nodes_size i (then_body s) = simp length-append (omega (arith, nodes_size (i + 1) s))
nodes_size i (else_body s) = simp length-append (omega (arith, nodes_size (i + 2) s))
nodes_size i (seq l t) = simp length-append (omega (arith, nodes_size i l, nodes_size (i + width l) t))
nodes_size i (text k w) = refl
nodes_size i (unit w l) = simp length-append (omega (arith, nodes_size (i + 3) l))
nodes_size i (map_type w) = refl
nodes_size i (typed k t) = refl
nodes_size i (limit c) = refl
nodes_size i (first v) = refl
nodes_size i (shifted k c v) = refl
nodes_size i (map_decl w l) = refl
nodes_size i (plain_field w t) = refl
nodes_size i (bytes_field w v) = refl
nodes_size i (array_field w t v) = refl
nodes_size i (event w l) = simp length-append (omega (arith, nodes_size (i + 3) l))
nodes_size i (program l) = simp length-append (omega (arith, nodes_size i l))

-- ---- a tree's words

pub words_length : (ns : List Node) → length (words_of_nodes ns) ≡ 8 * length ns
unfolding words_of_nodes node_words
words_length [] = refl
words_length (n ∷ ns) = omega (arith, words_length ns)

pub tree_length : (i : ℕ) (t : Tree) → length (tree_words i t) ≡ 8 * size t
unfolding tree_words
tree_length i t = words_length (nodes_of i t) ∙ ap (λ (n : ℕ). 8 * n) (nodes_size i t)

pub words_append : (xs ys : List Node) → words_of_nodes (xs ++ ys) ≡ words_of_nodes xs ++ words_of_nodes ys
unfolding words_of_nodes
words_append [] ys = refl
words_append (x ∷ xs) ys = rw (words_append xs ys) (sym (append_assoc (node_words x) (words_of_nodes xs) (words_of_nodes ys)))

-- a tree's nodes, and then more words behind them
pub sets_tree : (m : List ℕ) (n i : ℕ) (t : Tree) (ws : List ℕ)
    → sets m (8 * n) (tree_words i t ++ ws) ≡ sets (sets m (8 * n) (tree_words i t)) (8 * (n + size t)) ws
sets_tree m n i t ws =
    sets_append (tree_words i t) m ws (8 * n)
    ∙ ap (λ (k : ℕ). sets (sets m (8 * n) (tree_words i t)) k ws) (omega (arith, tree_length i t))

-- the words of each tree, from those of its parts

module _ (i : ℕ) where
  pub words_none : tree_words i none ≡ []
  unfolding tree_words nodes_of words_of_nodes node_words
  words_none = refl

  pub words_num : (v : ℕ) → tree_words i (num v) ≡ node_words (fact_node 2 i missing 0 (v % 2 ^ 32) (v / 2 ^ 32) 0 0)
  unfolding tree_words nodes_of words_of_nodes node_words
  words_num v = refl

  pub words_var : (w : List ℕ) → tree_words i (var w) ≡ node_words (node 1 i i 0)
  unfolding tree_words nodes_of words_of_nodes node_words
  words_var w = refl

  pub words_star : (t : Tree) → tree_words i (star t) ≡ tree_words (i + 1) t ++ node_words (node 3 (place_of (i + 1) t) missing 1)
  unfolding tree_words nodes_of words_of_nodes node_words
  words_star t = words_append (nodes_of (i + 1) t) _

  pub words_group : (t : Tree) → tree_words i (group t) ≡ tree_words (i + 1) t
  unfolding tree_words nodes_of words_of_nodes node_words
  words_group t = refl

  pub words_field : (t : Tree) (w : List ℕ) → tree_words i (field t w) ≡ tree_words i t ++ node_words (node 12 (i + width t + 1) (i + width t + 1) 1)
  unfolding tree_words nodes_of words_of_nodes node_words
  words_field t w = words_append (nodes_of i t) _

  pub words_call : (t : Tree) (w : List ℕ) (a : Tree) → tree_words i (call t w a) ≡ tree_words i t ++ (tree_words (i + width t + 3) a ++ node_words (node 11 (place_of i t) (i + width t + 1) (count a + 1)))
  unfolding tree_words nodes_of words_of_nodes node_words
  words_call t w a = words_append (nodes_of i t) _ ∙ ap (λ (ws : List ℕ). tree_words i t ++ ws) (words_append (nodes_of (i + width t + 3) a) _)

  pub words_bin : (k : ℕ) (l r : Tree) → tree_words i (bin k l r) ≡ tree_words i l ++ (tree_words (i + width l + 1) r ++ node_words (node (binary_node k) (place_of i l) missing 2))
  unfolding tree_words nodes_of words_of_nodes node_words
  words_bin k l r = words_append (nodes_of i l) _ ∙ ap (λ (ws : List ℕ). tree_words i l ++ ws) (words_append (nodes_of (i + width l + 1) r) _)

  pub words_one : (t : Tree) → tree_words i (one t) ≡ tree_words i t
  unfolding tree_words nodes_of words_of_nodes node_words
  words_one t = refl

  pub words_more : (a t : Tree) → tree_words i (more a t) ≡ tree_words i a ++ tree_words (i + width a + 1) t
  unfolding tree_words nodes_of words_of_nodes node_words
  words_more a t = words_append (nodes_of i a) (nodes_of (i + width a + 1) t)

  pub words_decl : (k : ℕ) (w : List ℕ) (e : Tree) → tree_words i (decl k w e) ≡ tree_words (i + 3) e ++ node_words (node (decl_node k) (i + 1) (i + 1) 1)
  unfolding tree_words nodes_of words_of_nodes node_words
  words_decl k w e = words_append (nodes_of (i + 3) e) _

  pub words_ret : (e : Tree) → tree_words i (ret e) ≡ tree_words (i + 1) e ++ node_words (node 19 (i + 1) missing 1)
  unfolding tree_words nodes_of words_of_nodes node_words
  words_ret e = words_append (nodes_of (i + 1) e) _

  pub words_plain : (e : Tree) → tree_words i (plain e) ≡ tree_words i e ++ node_words (node 13 (place_of i e) missing 1)
  unfolding tree_words nodes_of words_of_nodes node_words
  words_plain e = words_append (nodes_of i e) _

  pub words_assign : (k : ℕ) (l r : Tree) → tree_words i (assign k l r) ≡ tree_words i l ++ (tree_words (i + width l + 1) r ++ node_words (node (assign_node k) (place_of i l) missing 2))
  unfolding tree_words nodes_of words_of_nodes node_words
  words_assign k l r = words_append (nodes_of i l) _ ∙ ap (λ (ws : List ℕ). tree_words i l ++ ws) (words_append (nodes_of (i + width l + 1) r) _)

  pub words_guard : (w : List ℕ) (b e : Tree)
      → tree_words i (guard w b e) ≡ node_words (node 1 (i + 3) (i + 3) 0) ++ (tree_words (i + 5) b ++ (tree_words (i + 5 + width b) e ++ node_words (node 20 (i + 1) missing (2 + count e))))
  unfolding tree_words nodes_of words_of_nodes node_words
  words_guard w b e = ap (λ (ws : List ℕ). node_words (node 1 (i + 3) (i + 3) 0) ++ ws) (words_append (nodes_of (i + 5) b) _ ∙ ap (λ (ws : List ℕ). tree_words (i + 5) b ++ ws) (words_append (nodes_of (i + 5 + width b) e) _))

  pub words_then : (s : Tree) → tree_words i (then_body s) ≡ tree_words (i + 1) s ++ node_words (node 21 i missing (count s))
  unfolding tree_words nodes_of words_of_nodes node_words
  words_then s = words_append (nodes_of (i + 1) s) _

  pub words_else : (s : Tree) → tree_words i (else_body s) ≡ tree_words (i + 2) s ++ node_words (node 22 (i + 1) missing (count s))
  unfolding tree_words nodes_of words_of_nodes node_words
  words_else s = words_append (nodes_of (i + 2) s) _

  pub words_seq : (l t : Tree) → tree_words i (seq l t) ≡ tree_words i l ++ tree_words (i + width l) t
  unfolding tree_words nodes_of words_of_nodes node_words
  words_seq l t = words_append (nodes_of i l) (nodes_of (i + width l) t)

  pub words_text : (k : ℕ) (w : List ℕ) → tree_words i (text k w) ≡ node_words (node (text_node k) (i + 1) (i + 1) 0)
  unfolding tree_words nodes_of words_of_nodes node_words
  words_text k w = refl

  pub words_unit : (w : List ℕ) (l : Tree) → tree_words i (unit w l) ≡ tree_words (i + 3) l ++ node_words (fact_node 25 i (i + 1) (count l) (unit_kind l) (licence_row (i + 3) l) 0 0)
  unfolding tree_words nodes_of words_of_nodes node_words
  words_unit w l = words_append (nodes_of (i + 3) l) _

  pub words_map : (w : List ℕ) (l : Tree) → tree_words i (map_decl w l) ≡ node_words (fact_node 28 (i + 1) (i + 1) 0 (type_of l) (typed_by KeywordKey l) (typed_by KeywordValue l) (pred (limit_of l)))
  unfolding tree_words nodes_of words_of_nodes node_words
  words_map w l = refl

  pub words_plain_field : (w : List ℕ) (t : ℕ) → tree_words i (plain_field w t) ≡ node_words (fact_node 26 i i 0 1 (type_number t) 0 0)
  unfolding tree_words nodes_of words_of_nodes node_words
  words_plain_field w t = refl

  pub words_bytes_field : (w : List ℕ) (v : ℕ) → tree_words i (bytes_field w v) ≡ node_words (fact_node 26 i i 0 2 0 v 0)
  unfolding tree_words nodes_of words_of_nodes node_words
  words_bytes_field w v = refl

  pub words_array_field : (w : List ℕ) (t v : ℕ) → tree_words i (array_field w t v) ≡ node_words (fact_node 26 i i 0 3 (type_number t) v 0)
  unfolding tree_words nodes_of words_of_nodes node_words
  words_array_field w t v = refl

  pub words_event : (w : List ℕ) (l : Tree) → tree_words i (event w l) ≡ tree_words (i + 3) l ++ node_words (node 27 (i + 1) (i + 1) (count l))
  unfolding tree_words nodes_of words_of_nodes node_words
  words_event w l = words_append (nodes_of (i + 3) l) _

  pub words_program : (l : Tree) → tree_words i (program l) ≡ tree_words i l ++ node_words (node 29 (i + width l) missing (count l))
  unfolding tree_words nodes_of words_of_nodes node_words
  words_program l = words_append (nodes_of i l) _
