-- The entries that the nodes of a program have are those of what it declares: nothing inside a declaration has a name.
use mathlib.Core.Path.{◌≡◌, refl, sym, ap, ◌∙◌}
use mathlib.Core.Bool.{Bool, true, false, cond, true≢false}
use mathlib.Core.List.{List, [], ◌∷◌, ◌++◌, append-nil}
use Prim.Native.Nat.{ℕ, suc, pred, ◌+◌}
use native.Mathlib.Omega.{arith}
use lib.Dec.{eqb}
use lib.ListN.{length}
use Rattle.rules.specs.Kinds.{KeywordSection, KeywordReg, KeywordImm, Equals, Plus, Minus, Star, Slash, Percent, Shl}
use Rattle.rules.specs.Tree.{Tree}
use Rattle.rules.specs.Nodes.{Node, NodeProgram, missing, node, width, size, nodes_of}
use Rattle.rules.specs.Nodes.{binary_node, decl_node, assign_node, text_node}
use Rattle.rules.specs.Grammar.{Nt, Add, Shift, Mul, Unary, Basic, Args, Stmt, Stmts, Item, Items, Chain, MapField, MapFields}
use Rattle.rules.specs.Grammar.{EventField, EventFields, Decl, Decls, Program, Is, i_num, i_var, i_group, i_field, i_bare, i_call}
use Rattle.rules.specs.Grammar.{i_one, i_more, i_prim, i_star, i_unary, i_mul, i_lone, i_shift, i_up, i_add, i_decl, i_ret, i_plain}
use Rattle.rules.specs.Grammar.{i_assign, i_if, i_if_else, i_no_stmts, i_stmts, i_stmt, i_text, i_no_items, i_items, i_first}
use Rattle.rules.specs.Grammar.{i_shifted, i_type, i_typed, i_limit, i_no_fields, i_fields, i_plain_field, i_bytes_field}
use Rattle.rules.specs.Grammar.{i_array_field, i_no_event_fields, i_event_fields, i_unit, i_map, i_event, i_no_decls, i_decls, i_program}
use Rattle.rules_program.specs.Both.{Declared, declarations, size_of_all, nodes_of_all, nodes_of_both, declared_as, declared_in, declared_both}
use Rattle.rules_program.specs.Names.{named, entry_words}
use Rattle.theory_grammar.proofs.Laws.{nodes_size}
use Rattle.theory_program.specs.Lists.{AllDecls, no_more, and_more}
use Rattle.theory_program.proofs.Lists.{program_all}
use Rattle.theory_program.proofs.Nodes.{all_size}
use Rattle.theory_program.proofs.Heads.{named_append}
use Rattle.theory_entries.specs.Entries.{has_name, entries_in}

-- ---- lists that go on

pub entries_append : (n : ℕ) (xs ys : List Node) → entries_in n (xs ++ ys) ≡ entries_in n xs ++ entries_in (n + length xs) ys
unfolding entries_in
entries_append n [] ys = ap (λ (i : ℕ). entries_in i ys) (omega arith)
entries_append n (x ∷ xs) ys =
    go (has_name x.kind) (entries_append (suc n) xs ys ∙ ap (λ (i : ℕ). entries_in (suc n) xs ++ entries_in i ys) (omega arith))
  where
    go : (b : Bool) → entries_in (suc n) (xs ++ ys) ≡ entries_in (suc n) xs ++ entries_in (n + suc (length xs)) ys
        → cond b (x.name ∷ n ∷ entries_in (suc n) (xs ++ ys)) (entries_in (suc n) (xs ++ ys))
        ≡ cond b (x.name ∷ n ∷ entries_in (suc n) xs) (entries_in (suc n) xs) ++ entries_in (n + suc (length xs)) ys
    go true rest = ap (λ (l : List ℕ). x.name ∷ n ∷ l) rest
    go false rest = rest

words_append : (xs ys : List Declared) → entry_words (xs ++ ys) ≡ entry_words xs ++ entry_words ys
unfolding entry_words
words_append [] ys = refl
words_append (x ∷ xs) ys = ap (λ (l : List ℕ). (x.row + 1) ∷ x.node ∷ l) (words_append xs ys)

declared_append : (xs ys : List Declared) → entry_words (named (xs ++ ys)) ≡ entry_words (named xs) ++ entry_words (named ys)
declared_append xs ys = ap entry_words (named_append xs ys) ∙ words_append (named xs) (named ys)

-- ---- nodes without a name for the index

record Nameless (xs : List Node) : Type 0 where
  none_in : (n : ℕ) → entries_in n xs ≡ []

nothing : Nameless []
unfolding entries_in
nothing = record { none_in = λ n. refl }

-- a node of another kind
record Other (x : Node) : Type 0 where
  unnamed : has_name x.kind ≡ false

other : {x : Node} → has_name x.kind ≡ false → Other x
other e = record { unnamed = e }

alone : {x : Node} → Other x → Nameless (x ∷ [])
unfolding entries_in
alone e = record { none_in = λ n. rw e.unnamed }

joins : {xs ys : List Node} → Nameless xs → Nameless ys → Nameless (xs ++ ys)
joins {xs = xs} {ys = ys} p q = record { none_in = λ n. entries_append n xs ys ∙ rw (p.none_in n, q.none_in (n + length xs)) }

ends : {xs : List Node} {x : Node} → Nameless xs → Other x → Nameless (xs ++ (x ∷ []))
ends p e = joins p (alone e)

binary_other : (x : ℕ) → has_name (binary_node x) ≡ false
unfolding binary_node
binary_other x = go (eqb x Plus) (eqb x Minus) (eqb x Star) (eqb x Slash) (eqb x Percent) (eqb x Shl)
  where
    go : (a b c d e f : Bool) → has_name (cond a 4 (cond b 5 (cond c 6 (cond d 7 (cond e 8 (cond f 9 10)))))) ≡ false
    go true b c d e f = refl
    go false true c d e f = refl
    go false false true d e f = refl
    go false false false true e f = refl
    go false false false false true f = refl
    go false false false false false true = refl
    go false false false false false false = refl

decl_other : (x : ℕ) → has_name (decl_node x) ≡ false
unfolding decl_node
decl_other x = go (eqb x KeywordReg) (eqb x KeywordImm)
  where
    go : (a b : Bool) → has_name (cond a 16 (cond b 17 18)) ≡ false
    go true b = refl
    go false true = refl
    go false false = refl

assign_other : (x : ℕ) → has_name (assign_node x) ≡ false
unfolding assign_node
assign_other x = go (eqb x Equals)
  where
    go : (a : Bool) → has_name (cond a 14 15) ≡ false
    go true = refl
    go false = refl

text_other : (x : ℕ) → has_name (text_node x) ≡ false
unfolding text_node
text_other x = go (eqb x KeywordSection)
  where
    go : (a : Bool) → has_name (cond a 23 24) ≡ false
    go true = refl
    go false = refl

-- ---- inside declarations

inner : Nt → Bool
inner Add = true
inner Shift = true
inner Mul = true
inner Unary = true
inner Basic = true
inner Args = true
inner Stmt = true
inner Stmts = true
inner Item = true
inner Items = true
inner Chain = true
inner MapField = true
inner MapFields = true
inner EventField = true
inner EventFields = true
inner Decl = false
inner Decls = false
inner Program = false

module _ {strict : Bool} where
  inside : {N : Nt} {d : ℕ} {t : Tree} (i : ℕ) → Is strict N d t → inner N ≡ true → Nameless (nodes_of i t)
  unfolding nodes_of inner
  inside i i_num h = alone (other refl)
  inside i i_var h = alone (other refl)
  inside i (i_group t) h = inside (i + 1) t refl
  inside i (i_field t) h = ends (inside i t refl) (other refl)
  inside i (i_bare t v) h = joins (inside i t refl) (ends nothing (other refl))
  inside i (i_call t v a) h = joins (inside i t refl) (ends (inside _ a refl) (other refl))
  inside i (i_one t) h = inside i t refl
  inside i (i_more a t) h = joins (inside i a refl) (inside _ t refl)
  inside i (i_prim t) h = inside i t refl
  inside i (i_star t) h = ends (inside (i + 1) t refl) (other refl)
  inside i (i_unary t) h = inside i t refl
  inside i (i_mul {k = k} l e r) h = joins (inside i l refl) (ends (inside _ r refl) (other (binary_other k)))
  inside i (i_lone t) h = inside i t refl
  inside i (i_shift {k = k} l e r) h = joins (inside i l refl) (ends (inside _ r refl) (other (binary_other k)))
  inside i (i_up t) h = inside i t refl
  inside i (i_add {k = k} l e r) h = joins (inside i l refl) (ends (inside _ r refl) (other (binary_other k)))
  inside i (i_decl {k = k} e t) h = ends (inside (i + 3) t refl) (other (decl_other k))
  inside i (i_ret t) h = ends (inside (i + 1) t refl) (other refl)
  inside i (i_plain t) h = ends (inside i t refl) (other refl)
  inside i (i_assign {k = k} e l r) h = joins (inside i l refl) (ends (inside _ r refl) (other (assign_other k)))
  inside i (i_if b) h = joins (alone (other refl)) (joins (ends (inside _ b refl) (other refl)) (ends nothing (other refl)))
  inside i (i_if_else b e) h =
      joins (alone (other refl)) (joins (ends (inside _ b refl) (other refl)) (ends (ends (inside _ e refl) (other refl)) (other refl)))
  inside i i_no_stmts h = nothing
  inside i (i_stmts l s) h = joins (inside i l refl) (inside _ s refl)
  inside i (i_stmt s) h = inside i s refl
  inside i (i_text {k = k} e) h = alone (other (text_other k))
  inside i i_no_items h = nothing
  inside i (i_items l s) h = joins (inside i l refl) (inside _ s refl)
  inside i i_first h = nothing
  inside i (i_shifted c e p) h = nothing
  inside i (i_type p) h = nothing
  inside i (i_typed e f) h = nothing
  inside i (i_limit c p) h = nothing
  inside i i_no_fields h = nothing
  inside i (i_fields l s) h = joins (inside i l refl) (inside _ s refl)
  inside i (i_plain_field e) h = alone (other refl)
  inside i (i_bytes_field p) h = alone (other refl)
  inside i (i_array_field e p) h = alone (other refl)
  inside i i_no_event_fields h = nothing
  inside i (i_event_fields l s) h = joins (inside i l refl) (inside _ s refl)
  inside i (i_unit l) h = absurd (true≢false (sym h))
  inside i (i_map l p) h = absurd (true≢false (sym h))
  inside i (i_event l) h = absurd (true≢false (sym h))
  inside i i_no_decls h = absurd (true≢false (sym h))
  inside i (i_decls l s) h = absurd (true≢false (sym h))
  inside i (i_program l) h = absurd (true≢false (sym h))

  -- ---- declarations

  decl_entries : {d : ℕ} {x : Tree} (i n : ℕ) → Is strict Decl d x → entries_in n (nodes_of i x) ≡ entry_words (named (declared_as i n x))
  unfolding nodes_of declared_as named entry_words entries_in inner
  decl_entries i n (i_unit {l = l} is) = (ends (inside (i + 3) is refl) (other refl)).none_in n
  decl_entries i n (i_map l p) = refl
  decl_entries i n (i_event {l = l} is) =
      entries_append n (nodes_of (i + 3) l) _
      ∙ rw ((inside (i + 3) is refl).none_in n, nodes_size (i + 3) l)

  all_entries : {d : ℕ} {xs : List Tree} (i n : ℕ) → AllDecls strict d xs
      → entries_in n (nodes_of_all i xs) ≡ entry_words (named (declared_in i n xs))
  unfolding nodes_of_all declared_in named entry_words entries_in
  all_entries i n no_more = refl
  all_entries i n (and_more {x = x} {xs = xs} is more) =
      entries_append n (nodes_of i x) (nodes_of_all (i + width x) xs)
      ∙ (ap (λ (m : ℕ). entries_in n (nodes_of i x) ++ entries_in (n + m) (nodes_of_all (i + width x) xs)) (nodes_size i x)
      ∙ (ap (λ (l : List ℕ). l ++ entries_in (n + size x) (nodes_of_all (i + width x) xs)) (decl_entries i n is)
      ∙ (ap (λ (l : List ℕ). entry_words (named (declared_as i n x)) ++ l) (all_entries (i + width x) (n + size x) more)
      ∙ sym (declared_append (declared_as i n x) (declared_in (i + width x) (n + size x) xs)))))

  -- The theorem: the nodes of both have the entries of what both declare.
  pub both_entries : {d : ℕ} {p q : Tree} → Is strict Program d p → Is strict Program d q
      → entries_in 0 (nodes_of_both p q) ≡ entry_words (named (declared_both p q))
  unfolding nodes_of_both declared_both
  both_entries {p = p} {q = q} h k =
      let ds : List Tree = declarations p in
      let es : List Tree = declarations q in
      let end : List Node = node NodeProgram (pred (width p + width q)) missing (length ds + length es) ∷ [] in
      let last : entries_in (size_of_all ds + length (nodes_of_all (width p) es)) end ≡ [] = (alone (other refl)).none_in _ in
      let start : 0 + length (nodes_of_all 0 ds) ≡ size_of_all ds = omega (arith, all_size 0 ds) in
      entries_append 0 (nodes_of_all 0 ds) (nodes_of_all (width p) es ++ end)
      ∙ (ap (λ (m : ℕ). entries_in 0 (nodes_of_all 0 ds) ++ entries_in m (nodes_of_all (width p) es ++ end)) start
      ∙ (ap (λ (l : List ℕ). entries_in 0 (nodes_of_all 0 ds) ++ l)
      (entries_append (size_of_all ds) (nodes_of_all (width p) es) end ∙ rw (last, append-nil))
      ∙ (ap (λ (l : List ℕ). l ++ entries_in (size_of_all ds) (nodes_of_all (width p) es)) (all_entries 0 0 (program_all h))
      ∙ (ap (λ (l : List ℕ). entry_words (named (declared_in 0 0 ds)) ++ l) (all_entries (width p) (size_of_all ds) (program_all k))
      ∙ sym (declared_append (declared_in 0 0 ds) (declared_in (width p) (size_of_all ds) es))))))
