-- The words that stand for numbers: what a kind of row and the kind of its node say alike.
use mathlib.Core.Path.{◌≡◌, refl, sym, ap, ◌∙◌, subst}
use mathlib.Core.Bool.{Bool, true, false, cond, ◌||◌}
use mathlib.Core.List.{List, [], ◌++◌, append_assoc, append-nil}
use Prim.Native.Nat.{ℕ, zero, suc, pred, ◌≤◌}
use native.Mathlib.Omega.{arith}
use lib.Dec.{eqb, leb}
use borrow.Author.Tests.{eqb-true, eqb-false, leb-true}
use Rattle.rules.specs.Text.{bytes}
use Rattle.rules.specs.Kinds.{reserved, signs, KeywordKey, KeywordValue}
use Rattle.rules.specs.Tree.{Tree, none, seq, map_type, typed, limit, first, sign, kind_of, yield, map_types, type_of, typed_by, limit_of, lacking, type_number}
use Rattle.rules.specs.Nodes.{binary_node, decl_node, assign_node, text_node}
use Rattle.rules.specs.Parse.{is_add, is_shift, is_mul, is_assign, is_declaring, is_text, is_type}
use Rattle.rules.specs.Grammar.{MapFields, Is}
use Rattle.laws.proofs.Tests.{both_true, either}
use Rattle.rules_decimal.specs.Decimal.{signed}
use Rattle.rules_layout.specs.Rows.{spelling_in, type_kind, with_typed, type_field, fields_of, level_by, right_of}
use Rattle.rules_layout.specs.Bytes.{spelled, behind, row_bytes, rows_bytes}
use Rattle.theory_layout.proofs.Fields.{said, has_type}
use Rattle.layout_signs.specs.Levels.{node_level, right_place, operator_of}
use Rattle.layout_words.specs.Words.{type_word, map_word, decl_word, assign_sign, text_word, typed_line, map_lines}
use Rattle.layout_write.proofs.Bytes.{rows_append}

-- ---- kinds by their tests

by_two : (P : ℕ → Type 0) (k i j : ℕ) → P i → P j → (eqb k i || eqb k j) ≡ true → P k
by_two P k i j x y e = either (eqb k i) (eqb k j) e (λ f. subst P (sym (eqb-true k i f)) x) (λ f. subst P (sym (eqb-true k j f)) y)

by_three : (P : ℕ → Type 0) (k i j h : ℕ) → P i → P j → P h → ((eqb k i || eqb k j) || eqb k h) ≡ true → P k
by_three P k i j h x y z e = either (eqb k i || eqb k j) (eqb k h) e (λ f. by_two P k i j x y f) (λ f. subst P (sym (eqb-true k h f)) z)

-- an operator's sign and its node
pub record OpOf (k : ℕ) : Type 0 where
  pub low : 4 ≤ binary_node k
  pub high : binary_node k ≤ 10
  pub level : node_level (binary_node k) ≡ level_by k
  pub right : right_place (binary_node k) ≡ right_of k
  pub bytes : operator_of (binary_node k) ≡ row_bytes (sign k)

pub add_op : (k : ℕ) → is_add k ≡ true → OpOf k
unfolding binary_node node_level level_by right_place right_of operator_of row_bytes spelled behind kind_of spelling_in signs reserved
add_op k e =
    by_two OpOf k 41 42
    (record { low = omega arith; high = omega arith; level = refl; right = refl; bytes = refl })
    (record { low = omega arith; high = omega arith; level = refl; right = refl; bytes = refl })
    e

pub shift_op : (k : ℕ) → is_shift k ≡ true → OpOf k
unfolding binary_node node_level level_by right_place right_of operator_of row_bytes spelled behind kind_of spelling_in signs reserved
shift_op k e =
    by_two OpOf k 47 46
    (record { low = omega arith; high = omega arith; level = refl; right = refl; bytes = refl })
    (record { low = omega arith; high = omega arith; level = refl; right = refl; bytes = refl })
    e

pub mul_op : (k : ℕ) → is_mul k ≡ true → OpOf k
unfolding binary_node node_level level_by right_place right_of operator_of row_bytes spelled behind kind_of spelling_in signs reserved
mul_op k e =
    by_three OpOf k 43 44 45
    (record { low = omega arith; high = omega arith; level = refl; right = refl; bytes = refl })
    (record { low = omega arith; high = omega arith; level = refl; right = refl; bytes = refl })
    (record { low = omega arith; high = omega arith; level = refl; right = refl; bytes = refl })
    e

-- a word or a sign and its node, which is from one kind to another
pub record WordOf (node : ℕ → ℕ) (word : ℕ → List ℕ) (low high k : ℕ) : Type 0 where
  pub lo : low ≤ node k
  pub hi : node k ≤ high
  pub bytes : word (node k) ≡ row_bytes (sign k)

pub decl_word_lem : (k : ℕ) → is_declaring k ≡ true → WordOf decl_node decl_word 16 18 k
unfolding decl_node decl_word row_bytes spelled behind kind_of spelling_in signs reserved
decl_word_lem k e =
    by_three (WordOf decl_node decl_word 16 18) k 4 5 14
    (record { lo = omega arith; hi = omega arith; bytes = refl })
    (record { lo = omega arith; hi = omega arith; bytes = refl })
    (record { lo = omega arith; hi = omega arith; bytes = refl })
    e

pub assign_word : (k : ℕ) → is_assign k ≡ true → WordOf assign_node assign_sign 14 15 k
unfolding assign_node assign_sign row_bytes spelled behind kind_of spelling_in signs reserved
assign_word k e =
    by_two (WordOf assign_node assign_sign 14 15) k 35 36
    (record { lo = omega arith; hi = omega arith; bytes = refl })
    (record { lo = omega arith; hi = omega arith; bytes = refl })
    e

pub text_word_lem : (k : ℕ) → is_text k ≡ true → WordOf text_node text_word 23 24 k
unfolding text_node text_word row_bytes spelled behind kind_of spelling_in signs reserved
text_word_lem k e =
    by_two (WordOf text_node text_word 23 24) k 1 2
    (record { lo = omega arith; hi = omega arith; bytes = refl })
    (record { lo = omega arith; hi = omega arith; bytes = refl })
    e

-- ---- types

type_bytes : (n : ℕ) → 1 ≤ n → n ≤ 4 → type_word n ≡ row_bytes (sign (type_kind n))
unfolding type_word row_bytes spelled behind kind_of spelling_in signs reserved
type_bytes zero l h = absurd (omega arith)
type_bytes (suc zero) l h = refl
type_bytes (suc (suc zero)) l h = refl
type_bytes (suc (suc (suc zero))) l h = refl
type_bytes (suc (suc (suc (suc zero)))) l h = refl
type_bytes (suc (suc (suc (suc (suc n))))) l h = absurd (omega arith)

pub type_word_lem : (t : ℕ) → is_type t ≡ true → type_word (type_number t) ≡ row_bytes (sign t)
type_word_lem t e =
    let b = both_true (leb 21 t) (leb t 24) e in
    let l : 21 ≤ t = leb-true 21 t b.0 in
    let h : t ≤ 24 = leb-true t 24 b.1 in
    let f : type_kind (type_number t) ≡ t = omega arith in
    type_bytes (type_number t) (omega arith) (omega arith) ∙ ap (λ (k : ℕ). row_bytes (sign k)) f

map_bytes : (n : ℕ) → 1 ≤ n → n ≤ 5 → spelling_in map_types [] n ++ bytes " " ≡ map_word n
unfolding spelling_in map_types map_word
map_bytes zero l h = absurd (omega arith)
map_bytes (suc zero) l h = refl
map_bytes (suc (suc zero)) l h = refl
map_bytes (suc (suc (suc zero))) l h = refl
map_bytes (suc (suc (suc (suc zero)))) l h = refl
map_bytes (suc (suc (suc (suc (suc zero))))) l h = refl
map_bytes (suc (suc (suc (suc (suc (suc n)))))) l h = absurd (omega arith)

-- ---- a map's lines

head_key : row_bytes (sign KeywordKey) ++ bytes ": " ≡ bytes "key : "
unfolding row_bytes spelled behind kind_of spelling_in signs reserved
head_key = refl

head_value : row_bytes (sign KeywordValue) ++ bytes ": " ≡ bytes "value : "
unfolding row_bytes spelled behind kind_of spelling_in signs reserved
head_value = refl

typed_rows : (f t : ℕ) → rows_bytes (yield (typed f t)) ≡ (row_bytes (sign f) ++ bytes ": ") ++ (row_bytes (sign t) ++ bytes ";\n")
unfolding yield rows_bytes row_bytes spelled behind kind_of spelling_in signs reserved
typed_rows f t = sym (append_assoc (row_bytes (sign f)) (bytes ": ") (row_bytes (sign t) ++ bytes ";\n"))

with_typed_lem : (f n : ℕ) (l : Tree) (head : List ℕ) → row_bytes (sign f) ++ bytes ": " ≡ head → n ≤ 4
    → rows_bytes (yield (with_typed f n l)) ≡ rows_bytes (yield l) ++ typed_line head n
unfolding with_typed typed_line yield
with_typed_lem f n l head h b = go (eqb n 0) refl
  where
    go : (c : Bool) → eqb n 0 ≡ c
        → rows_bytes (yield (cond c l (seq l (typed f (type_kind n))))) ≡ rows_bytes (yield l) ++ cond c []
        (head ++ (type_word n ++ bytes ";\n"))
    go true e = sym (append-nil (rows_bytes (yield l)))
    go false e =
        rows_append (yield l) (yield (typed f (type_kind n)))
        ∙ ap (λ (x : List ℕ). rows_bytes (yield l) ++ x)
        (typed_rows f (type_kind n) ∙ rw (h, ← type_bytes n (omega (arith, eqb-false n 0 e)) b))

type_rows : (w : List ℕ) → rows_bytes (yield (seq none (map_type w))) ≡ bytes "type : . " ++ ((w ++ bytes " ") ++ bytes ";\n")
unfolding yield rows_bytes row_bytes spelled behind kind_of spelling_in signs reserved
type_rows w = refl

max_rows : (v : ℕ) → rows_bytes (yield (limit (first v))) ≡ bytes "max : " ++ ((signed v ++ bytes " ") ++ bytes ";\n")
unfolding yield rows_bytes row_bytes spelled behind kind_of spelling_in signs reserved
max_rows v = refl

lines_join : (a b c d e f g : List ℕ) → (((a ++ (b ++ c)) ++ d) ++ e) ++ (f ++ g) ≡ a ++ (b ++ (c ++ (d ++ (e ++ (f ++ g)))))
lines_join a b c d e f g = simp append_assoc

joined : (x y : Tree) → rows_bytes (yield (seq x y)) ≡ rows_bytes (yield x) ++ rows_bytes (yield y)
unfolding yield
joined x y = rows_append (yield x) (yield y)

-- the fields that are written of a map have the bytes of its facts
pub map_lines_lem : {d : ℕ} (l : Tree) → Is true MapFields d l
    → eqb (lacking (type_of l) (typed_by KeywordKey l) (typed_by KeywordValue l) (limit_of l)) 0 ≡ true
    → rows_bytes (yield (fields_of l)) ≡ map_lines (type_of l) (typed_by KeywordKey l) (typed_by KeywordValue l) (pred (limit_of l))
unfolding fields_of type_field map_lines
map_lines_lem l h q =
    let b = said h in
    let lack = eqb-true (lacking (type_of l) (typed_by KeywordKey l) (typed_by KeywordValue l) (limit_of l)) 0 q in
    let some : 1 ≤ type_of l =
    omega (arith, eqb-false (type_of l) 0 (has_type (type_of l) (typed_by KeywordKey l) (typed_by KeywordValue l) (limit_of l) lack)) in
    let w : List ℕ = spelling_in map_types [] (type_of l) in
    let v : ℕ = pred (limit_of l) in
    let t : Tree = seq none (map_type w) in
    let k : Tree = with_typed KeywordKey (typed_by KeywordKey l) t in
    let x : Tree = with_typed KeywordValue (typed_by KeywordValue l) k in
    joined x (limit (first v))
    ∙ rw (
      with_typed_lem KeywordValue (typed_by KeywordValue l) k (bytes "value : ") head_value
          b.val,
      with_typed_lem KeywordKey (typed_by KeywordKey l) t (bytes "key : ") head_key
          b.key,
      type_rows w,
      max_rows v,
      map_bytes (type_of l) some b.type,
    )
    (lines_join (bytes "type : . ") (map_word (type_of l)) (bytes ";\n") (typed_line (bytes "key : ") (typed_by KeywordKey l))
    (typed_line (bytes "value : ") (typed_by KeywordValue l)) (bytes "max : ") ((signed v ++ bytes " ") ++ bytes ";\n"))
