-- Heads: in a program `map`, `event` and `unit` stand at the first rows of declarations and nowhere else.
use mathlib.Core.Path.{◌≡◌, refl, sym, ap, ◌∙◌}
use mathlib.Core.Bool.{Bool, true, false, cond, not, ◌&&◌, ◌||◌, true≢false}
use mathlib.Core.List.{List, [], ◌∷◌, ◌++◌, append_assoc, append-nil}
use Prim.Native.Nat.{ℕ, zero, suc, ◌+◌, ◌≤◌, ◌<◌}
use native.Mathlib.Nat.{add-suc, add-zero}
use native.Mathlib.Numerals.{add-one}
use native.Mathlib.Omega.{arith}
use lib.Dec.{eqb, leb}
use lib.ListN.{length, get_or, length-append}
use borrow.Author.Tests.{leb-true, ne_eqb}
use Rattle.laws.proofs.Tests.{both_true}
use Rattle.rules.specs.Kinds.{RBrace, KeywordUnit, KeywordMap, KeywordEvent, KeywordReg, KeywordImm, KeywordHeap, KeywordSection, KeywordLicense, KeywordKey, KeywordValue, Equals, PlusEquals, Plus, Minus, Star, Slash, Percent, Shl, Shr, Eof, TypeU32, TypeI64}
use Rattle.rules.specs.Tree.{Tok, sign, name, string, value, kind_of, spelling_of, Tree, none, seq, unit, map_decl, event, program, yield}
use Rattle.rules.specs.Nodes.{width, size}
use Rattle.rules.specs.Parse.{is_type}
use Rattle.rules.specs.Grammar.{Nt, Add, Shift, Mul, Unary, Basic, Args, Stmt, Stmts, Item, Items, Chain, MapField, MapFields, EventField, EventFields, Decl, Decls, Program, Is, i_num, i_var, i_group, i_field, i_bare, i_call, i_one, i_more, i_prim, i_star, i_unary, i_mul, i_lone, i_shift, i_up, i_add, i_decl, i_ret, i_plain, i_assign, i_if, i_if_else, i_no_stmts, i_stmts, i_stmt, i_text, i_no_items, i_items, i_first, i_shifted, i_type, i_typed, i_limit, i_no_fields, i_fields, i_plain_field, i_bytes_field, i_array_field, i_no_event_fields, i_event_fields, i_unit, i_map, i_event, i_no_decls, i_decls, i_program}
use Rattle.theory_grammar.proofs.Laws.{either_kind, three_kinds, yield_width}
use Rattle.rules_program.specs.Both.{Declared, name_row, declarations, rows_of_all, size_of_all, declared_as, declared_in, declared_both}
use Rattle.rules_program.specs.Names.{Name, is_unit, named, names_of, unit_rows}
use Rattle.theory_program.specs.Heads.{is_naming, is_head, names_in, units_in, no_head, is_name, headed}
use Rattle.theory_program.specs.Lists.{Listed}
use Rattle.theory_program.proofs.Lists.{decls_rows, program_listed}

-- ---- tokens without a head

record Quiet (xs : List Tok) : Type 0 where
  is : no_head xs ≡ true

-- a kind that is no head's
abbrev Other : ℕ → Type 0
Other k = not (is_head k) ≡ true

quiet : Quiet []
unfolding no_head
quiet = record { is = refl }

then : {x : Tok} {xs : List Tok} → Other (kind_of x) → Quiet xs → Quiet (x ∷ xs)
unfolding no_head
then e q = record { is = rw (e, q.is) refl }

append_quiet : (xs ys : List Tok) → no_head xs ≡ true → no_head ys ≡ true → no_head (xs ++ ys) ≡ true
unfolding no_head
append_quiet [] ys q r = r
append_quiet (x ∷ xs) ys q r =
    let b : (not (is_head (kind_of x)) ≡ true) × (no_head xs ≡ true) = both_true (not (is_head (kind_of x))) (no_head xs) q in
    rw (b.0, append_quiet xs ys b.1 r) refl

joins : {xs ys : List Tok} → Quiet xs → Quiet ys → Quiet (xs ++ ys)
joins {xs} {ys} q r = record { is = append_quiet xs ys q.is r.is }

-- ---- what stands inside declarations

is_inner : Nt → Bool
is_inner Add = true
is_inner Shift = true
is_inner Mul = true
is_inner Unary = true
is_inner Basic = true
is_inner Args = true
is_inner Stmt = true
is_inner Stmts = true
is_inner Item = true
is_inner Items = true
is_inner Chain = true
is_inner MapField = true
is_inner MapFields = true
is_inner EventField = true
is_inner EventFields = true
is_inner Decl = false
is_inner Decls = false
is_inner Program = false

type_other : (t : ℕ) → is_type t ≡ true → Other t
type_other t e =
    let low : TypeU32 ≤ t = leb-true TypeU32 t (both_true (leb TypeU32 t) (leb t TypeI64) e).0 in
    rw (ne_eqb t KeywordMap (λ (x : t ≡ KeywordMap). absurd (omega arith)), ne_eqb t KeywordEvent (λ (x : t ≡ KeywordEvent). absurd (omega arith)), ne_eqb t KeywordUnit (λ (x : t ≡ KeywordUnit). absurd (omega arith))) refl

module _ {strict : Bool} where
  inside : {N : Nt} {d : ℕ} {t : Tree} → Is strict N d t → is_inner N ≡ true → Quiet (yield t)
  unfolding yield kind_of is_inner
  inside i_num e = then refl quiet
  inside i_var e = then refl quiet
  inside (i_group h) e = then refl (joins (inside h refl) (then refl quiet))
  inside (i_field h) e = joins (inside h refl) (then refl (then refl quiet))
  inside (i_bare h q) e = joins (inside h refl) (then refl (then refl (then refl (then refl quiet))))
  inside (i_call h q v) e = joins (inside h refl) (then refl (then refl (then refl (joins (inside v refl) (then refl quiet)))))
  inside (i_one h) e = inside h refl
  inside (i_more a h) e = joins (inside a refl) (then refl (inside h refl))
  inside (i_prim h) e = inside h refl
  inside (i_star h) e = then refl (inside h refl)
  inside (i_unary h) e = inside h refl
  inside (i_mul {k = k} l x r) e = joins (inside l refl) (then (three_kinds Other k Star Slash Percent x refl refl refl) (inside r refl))
  inside (i_lone h) e = inside h refl
  inside (i_shift {k = k} l x r) e = joins (inside l refl) (then (either_kind Other k Shl Shr x refl refl) (inside r refl))
  inside (i_up h) e = inside h refl
  inside (i_add {k = k} l x r) e = joins (inside l refl) (then (either_kind Other k Plus Minus x refl refl) (inside r refl))
  inside (i_decl {k = k} x h) e =
      then (three_kinds Other k KeywordReg KeywordImm KeywordHeap x refl refl refl) (then refl (then refl (joins (inside h refl) (then refl quiet))))
  inside (i_ret h) e = then refl (joins (inside h refl) (then refl quiet))
  inside (i_plain h) e = joins (inside h refl) (then refl quiet)
  inside (i_assign {k = k} x l r) e = joins (inside l refl) (then (either_kind Other k Equals PlusEquals x refl refl) (joins (inside r refl) (then refl quiet)))
  inside (i_if b) e = then refl (then refl (then refl (then refl (then refl (joins (then refl (joins (inside b refl) (then refl quiet))) quiet)))))
  inside (i_if_else b c) e =
      then refl (then refl (then refl (then refl (then refl
      (joins (then refl (joins (inside b refl) (then refl quiet))) (then refl (then refl (joins (inside c refl) (then refl quiet)))))))))
  inside i_no_stmts e = quiet
  inside (i_stmts l s) e = joins (inside l refl) (inside s refl)
  inside (i_stmt s) e = inside s refl
  inside (i_text {k = k} x) e = then (either_kind Other k KeywordSection KeywordLicense x refl refl) (then refl (then refl quiet))
  inside i_no_items e = quiet
  inside (i_items l s) e = joins (inside l refl) (inside s refl)
  inside i_first e = then refl quiet
  inside (i_shifted {k = k} c x q) e = joins (inside c refl) (then (either_kind Other k Shl Shr x refl refl) (then refl quiet))
  inside (i_type q) e = then refl (then refl (then refl (then refl (then refl quiet))))
  inside (i_typed {k = k} {t = t} x y) e =
      then (either_kind Other k KeywordKey KeywordValue x refl refl) (then refl (then (type_other t y) (then refl quiet)))
  inside (i_limit c q) e = then refl (then refl (joins (inside c refl) (then refl quiet)))
  inside i_no_fields e = quiet
  inside (i_fields l s) e = joins (inside l refl) (inside s refl)
  inside (i_plain_field {t = t} x) e = then refl (then refl (then (type_other t x) (then refl quiet)))
  inside (i_bytes_field q) e = then refl (then refl (then refl (then refl (then refl (then refl (then refl quiet))))))
  inside (i_array_field {t = t} x q) e =
      then refl (then refl (then (type_other t x) (then refl (then refl (then refl (then refl quiet))))))
  inside i_no_event_fields e = quiet
  inside (i_event_fields l s) e = joins (inside l refl) (inside s refl)
  inside (i_unit l) e = absurd (true≢false (sym e))
  inside (i_map l q) e = absurd (true≢false (sym e))
  inside (i_event l) e = absurd (true≢false (sym e))
  inside i_no_decls e = absurd (true≢false (sym e))
  inside (i_decls l s) e = absurd (true≢false (sym e))
  inside (i_program l) e = absurd (true≢false (sym e))

-- ---- passing tokens without a head

other_naming : (k : ℕ) → Other k → is_naming k ≡ false
other_naming k e = go (is_naming k) refl e
  where
    go : (b : Bool) → is_naming k ≡ b → not (b || eqb k KeywordUnit) ≡ true → b ≡ false
    go true f g = absurd (true≢false (sym g))
    go false f g = refl

other_unit : (k : ℕ) → Other k → eqb k KeywordUnit ≡ false
other_unit k e = go (is_naming k) (eqb k KeywordUnit) e
  where
    go : (b c : Bool) → not (b || c) ≡ true → c ≡ false
    go true c g = absurd (true≢false (sym g))
    go false true g = absurd (true≢false (sym g))
    go false false g = refl

names_past : (i : ℕ) (xs ys : List Tok) → no_head xs ≡ true → names_in i (xs ++ ys) ≡ names_in (i + length xs) ys
unfolding no_head names_in
names_past i [] ys q = ap (λ (n : ℕ). names_in n ys) (sym (add-zero i))
names_past i (x ∷ xs) ys q =
    let b : Other (kind_of x) × (no_head xs ≡ true) = both_true (not (is_head (kind_of x))) (no_head xs) q in
    let e : suc i + length xs ≡ i + suc (length xs) = omega arith in
    rw (other_naming (kind_of x) b.0) (names_past (suc i) xs ys b.1 ∙ ap (λ (n : ℕ). names_in n ys) e)

units_past : (i : ℕ) (xs ys : List Tok) → no_head xs ≡ true → units_in i (xs ++ ys) ≡ units_in (i + length xs) ys
unfolding no_head units_in
units_past i [] ys q = ap (λ (n : ℕ). units_in n ys) (sym (add-zero i))
units_past i (x ∷ xs) ys q =
    let b : Other (kind_of x) × (no_head xs ≡ true) = both_true (not (is_head (kind_of x))) (no_head xs) q in
    let e : suc i + length xs ≡ i + suc (length xs) = omega arith in
    rw (other_unit (kind_of x) b.0) (units_past (suc i) xs ys b.1 ∙ ap (λ (n : ℕ). units_in n ys) e)

-- a list, and then a token without a head
closed : {xs : List Tok} (x : Tok) → Quiet xs → Other (kind_of x) → no_head (xs ++ (x ∷ [])) ≡ true
closed x q e = (joins q (then {x = x} e quiet)).is

-- ---- a declaration

-- the rows of what stands in braces after three others
braced : (i : ℕ) (l : Tree) → suc (suc (suc i)) + length (yield l ++ (sign RBrace ∷ [])) ≡ i + (3 + width l + 1)
braced i l = omega (arith, yield_width l, length-append (yield l) (sign RBrace ∷ []))

inner_names : (i : ℕ) (l : Tree) (ys : List Tok) → Quiet (yield l)
    → names_in (suc (suc (suc i))) ((yield l ++ (sign RBrace ∷ [])) ++ ys) ≡ names_in (i + (3 + width l + 1)) ys
unfolding kind_of
inner_names i l ys q =
    names_past (suc (suc (suc i))) (yield l ++ (sign RBrace ∷ [])) ys (closed (sign RBrace) q refl)
    ∙ ap (λ (n : ℕ). names_in n ys) (braced i l)

inner_units : (i : ℕ) (l : Tree) (ys : List Tok) → Quiet (yield l)
    → units_in (suc (suc (suc i))) ((yield l ++ (sign RBrace ∷ [])) ++ ys) ≡ units_in (i + (3 + width l + 1)) ys
unfolding kind_of
inner_units i l ys q =
    units_past (suc (suc (suc i))) (yield l ++ (sign RBrace ∷ [])) ys (closed (sign RBrace) q refl)
    ∙ ap (λ (n : ℕ). units_in n ys) (braced i l)

-- a name and the names after it
onward : (w : List ℕ) (i : ℕ) (ns ms : List Name) → ns ≡ ms → record { name = w; row = suc i } ∷ ns ≡ record { name = w; row = i + 1 } ∷ ms
onward w i ns ms e = rw (e, add-one i) refl

module _ {strict : Bool} where
  decl_names : {d : ℕ} {x : Tree} (i n : ℕ) (ys : List Tok) → Is strict Decl d x
      → names_in i (yield x ++ ys) ≡ names_of (named (declared_as i n x)) ++ names_in (i + width x) ys
  unfolding yield kind_of spelling_of names_in names_of named declared_as width is_inner
  decl_names i n ys (i_unit {l = l} h) = inner_names i l ys (inside h refl)
  decl_names i n ys (i_map {w = w} {l = l} h q) = onward w i _ _ (inner_names i l ys (inside h refl))
  decl_names i n ys (i_event {w = w} {l = l} h) = onward w i _ _ (inner_names i l ys (inside h refl))

  decl_units : {d : ℕ} {x : Tree} (i n : ℕ) (ys : List Tok) → Is strict Decl d x
      → units_in i (yield x ++ ys) ≡ unit_rows (declared_as i n x) ++ units_in (i + width x) ys
  unfolding yield kind_of units_in unit_rows declared_as width is_inner
  decl_units i n ys (i_unit {l = l} h) = ap (λ (ns : List ℕ). i ∷ ns) (inner_units i l ys (inside h refl))
  decl_units i n ys (i_map {l = l} h q) = inner_units i l ys (inside h refl)
  decl_units i n ys (i_event {l = l} h) = inner_units i l ys (inside h refl)

-- ---- lists that go on

pub declared_append : (i n : ℕ) (ds es : List Tree)
    → declared_in i n (ds ++ es) ≡ declared_in i n ds ++ declared_in (i + rows_of_all ds) (n + size_of_all ds) es
unfolding declared_in rows_of_all size_of_all
declared_append i n [] es = rw (add-zero i, add-zero n) refl
declared_append i n (d ∷ ds) es =
    ap (λ (l : List Declared). declared_as i n d ++ l) (declared_append (i + width d) (n + size d) ds es)
    ∙ (sym (append_assoc (declared_as i n d) (declared_in (i + width d) (n + size d) ds)
    (declared_in (i + width d + rows_of_all ds) (n + size d + size_of_all ds) es))
    ∙ ap (λ (m : ℕ). (declared_as i n d ++ declared_in (i + width d) (n + size d) ds) ++ declared_in m (n + size d + size_of_all ds) es) (omega arith)
    ∙ ap (λ (m : ℕ). (declared_as i n d ++ declared_in (i + width d) (n + size d) ds) ++ declared_in (i + (width d + rows_of_all ds)) m es) (omega arith))

pub named_append : (xs ys : List Declared) → named (xs ++ ys) ≡ named xs ++ named ys
unfolding named
named_append [] ys = refl
named_append (x ∷ xs) ys = go (is_unit x) (named_append xs ys)
  where
    go : (b : Bool) → named (xs ++ ys) ≡ named xs ++ named ys
        → cond b (named (xs ++ ys)) (x ∷ named (xs ++ ys)) ≡ cond b (named xs) (x ∷ named xs) ++ named ys
    go true e = e
    go false e = ap (λ (l : List Declared). x ∷ l) e

pub names_append : (xs ys : List Declared) → names_of (xs ++ ys) ≡ names_of xs ++ names_of ys
unfolding names_of
names_append [] ys = refl
names_append (x ∷ xs) ys = ap (λ (l : List Name). record { name = x.name; row = name_row x } ∷ l) (names_append xs ys)

units_append : (xs ys : List Declared) → unit_rows (xs ++ ys) ≡ unit_rows xs ++ unit_rows ys
unfolding unit_rows
units_append [] ys = refl
units_append (x ∷ xs) ys = go (is_unit x) (units_append xs ys)
  where
    go : (b : Bool) → unit_rows (xs ++ ys) ≡ unit_rows xs ++ unit_rows ys
        → cond b (x.row ∷ unit_rows (xs ++ ys)) (unit_rows (xs ++ ys)) ≡ cond b (x.row ∷ unit_rows xs) (unit_rows xs) ++ unit_rows ys
    go true e = ap (λ (l : List ℕ). x.row ∷ l) e
    go false e = e

-- the names that declarations declare
abbrev names_from : (i n : ℕ) → List Tree → List Name
names_from i n ds = names_of (named (declared_in i n ds))

abbrev units_from : (i n : ℕ) → List Tree → List ℕ
units_from i n ds = unit_rows (declared_in i n ds)

declared_last : (i n : ℕ) (ds : List Tree) (d : Tree)
    → declared_in i n (ds ++ (d ∷ [])) ≡ declared_in i n ds ++ declared_as (i + rows_of_all ds) (n + size_of_all ds) d
unfolding declared_in
declared_last i n ds d =
    declared_append i n ds (d ∷ [])
    ∙ ap (λ (l : List Declared). declared_in i n ds ++ l) (append-nil (declared_as (i + rows_of_all ds) (n + size_of_all ds) d))

names_last : (i n : ℕ) (ds : List Tree) (d : Tree)
    → names_from i n (ds ++ (d ∷ [])) ≡ names_from i n ds ++ names_of (named (declared_as (i + rows_of_all ds) (n + size_of_all ds) d))
names_last i n ds d =
    let x : List Declared = declared_in i n ds in
    let y : List Declared = declared_as (i + rows_of_all ds) (n + size_of_all ds) d in
    ap (λ (l : List Declared). names_of (named l)) (declared_last i n ds d) ∙ (ap names_of (named_append x y) ∙ names_append (named x) (named y))

units_last : (i n : ℕ) (ds : List Tree) (d : Tree)
    → units_from i n (ds ++ (d ∷ [])) ≡ units_from i n ds ++ unit_rows (declared_as (i + rows_of_all ds) (n + size_of_all ds) d)
units_last i n ds d =
    ap unit_rows (declared_last i n ds d) ∙ units_append (declared_in i n ds) (declared_as (i + rows_of_all ds) (n + size_of_all ds) d)

nothing_after : (ns : List Name) (m : ℕ) → ns ++ names_in m [] ≡ ns
unfolding names_in
nothing_after ns m = append-nil ns

-- ---- declarations

module _ {strict : Bool} where
  list_names : {d : ℕ} {l : Tree} (i n : ℕ) (ys : List Tok) → Is strict Decls d l
      → names_in i (yield l ++ ys) ≡ names_from i n (declarations l) ++ names_in (i + width l) ys
  unfolding yield width declarations names_of named declared_in
  list_names i n ys i_no_decls = ap (λ (m : ℕ). names_in m ys) (sym (add-zero i))
  list_names i n ys (i_decls {l = l} {s = s} h x) =
      let r : i + width l ≡ i + rows_of_all (declarations l) = ap (λ (m : ℕ). i + m) (decls_rows h) in
      ap (λ (ts : List Tok). names_in i ts) (append_assoc (yield l) (yield s) ys)
      ∙ (list_names i n (yield s ++ ys) h
      ∙ (ap (λ (ns : List Name). names_from i n (declarations l) ++ ns) (decl_names (i + width l) (n + size_of_all (declarations l)) ys x)
      ∙ (sym (append_assoc (names_from i n (declarations l)) (names_of (named (declared_as (i + width l) (n + size_of_all (declarations l)) s)))
      (names_in (i + width l + width s) ys))
      ∙ (ap (λ (m : ℕ). (names_from i n (declarations l) ++ names_of (named (declared_as m (n + size_of_all (declarations l)) s)))
      ++ names_in (i + width l + width s) ys) r
      ∙ (ap (λ (ns : List Name). ns ++ names_in (i + width l + width s) ys) (sym (names_last i n (declarations l) s))
      ∙ ap (λ (m : ℕ). names_from i n (declarations l ++ (s ∷ [])) ++ names_in m ys) (omega arith))))))

  list_units : {d : ℕ} {l : Tree} (i n : ℕ) (ys : List Tok) → Is strict Decls d l
      → units_in i (yield l ++ ys) ≡ units_from i n (declarations l) ++ units_in (i + width l) ys
  unfolding yield width declarations unit_rows declared_in
  list_units i n ys i_no_decls = ap (λ (m : ℕ). units_in m ys) (sym (add-zero i))
  list_units i n ys (i_decls {l = l} {s = s} h x) =
      let r : i + width l ≡ i + rows_of_all (declarations l) = ap (λ (m : ℕ). i + m) (decls_rows h) in
      ap (λ (ts : List Tok). units_in i ts) (append_assoc (yield l) (yield s) ys)
      ∙ (list_units i n (yield s ++ ys) h
      ∙ (ap (λ (ns : List ℕ). units_from i n (declarations l) ++ ns) (decl_units (i + width l) (n + size_of_all (declarations l)) ys x)
      ∙ (sym (append_assoc (units_from i n (declarations l)) (unit_rows (declared_as (i + width l) (n + size_of_all (declarations l)) s))
      (units_in (i + width l + width s) ys))
      ∙ (ap (λ (m : ℕ). (units_from i n (declarations l) ++ unit_rows (declared_as m (n + size_of_all (declarations l)) s))
      ++ units_in (i + width l + width s) ys) r
      ∙ (ap (λ (ns : List ℕ). ns ++ units_in (i + width l + width s) ys) (sym (units_last i n (declarations l) s))
      ∙ ap (λ (m : ℕ). units_from i n (declarations l ++ (s ∷ [])) ++ units_in m ys) (omega arith))))))

  -- the names of a program's maps and events, by the tokens at their heads; more tokens may follow
  pub program_names : {d : ℕ} {p : Tree} (i n : ℕ) (ys : List Tok) → Is strict Program d p
      → names_in i (yield p ++ ys) ≡ names_of (named (declared_in i n (declarations p))) ++ names_in (i + width p) ys
  unfolding yield width declarations names_in kind_of
  program_names i n ys (i_program {l = l} h) =
      ap (λ (ts : List Tok). names_in i ts) (append_assoc (yield l) (sign Eof ∷ []) ys)
      ∙ (list_names i n (sign Eof ∷ ys) h
      ∙ ap (λ (m : ℕ). names_from i n (declarations l) ++ names_in m ys) (omega arith))

  -- the rows of a program's units
  pub program_units : {d : ℕ} {p : Tree} (i n : ℕ) → Is strict Program d p → units_in i (yield p) ≡ unit_rows (declared_in i n (declarations p))
  unfolding yield declarations units_in kind_of
  program_units i n (i_program {l = l} h) = list_units i n (sign Eof ∷ []) h ∙ append-nil (units_from i n (declarations l))

  -- of two programs, one after the other
  pub both_names : {d : ℕ} {p q : Tree} → Is strict Program d p → Is strict Program d q
      → names_in 0 (yield p ++ yield q) ≡ names_of (named (declared_both p q))
  unfolding declared_both
  both_names {p = p} {q = q} h k =
      let x : List Declared = declared_in 0 0 (declarations p) in
      let y : List Declared = declared_in (width p) (size_of_all (declarations p)) (declarations q) in
      let e : names_in (width p) (yield q) ≡ names_of (named y) =
      ap (λ (ts : List Tok). names_in (width p) ts) (sym (append-nil (yield q)))
      ∙ (program_names (width p) (size_of_all (declarations p)) [] k ∙ nothing_after (names_of (named y)) (width p + width q)) in
      program_names 0 0 (yield q) h
      ∙ (ap (λ (ns : List Name). names_of (named x) ++ ns) (ap (λ (m : ℕ). names_in m (yield q)) (omega arith) ∙ e)
      ∙ (sym (names_append (named x) (named y)) ∙ ap names_of (sym (named_append x y))))

-- ---- a name follows each head of a map or an event

headed_past : (xs ys : List Tok) → no_head xs ≡ true → headed ys ≡ true → headed (xs ++ ys) ≡ true
unfolding no_head headed
headed_past [] ys q r = r
headed_past (x ∷ xs) ys q r =
    let b : Other (kind_of x) × (no_head xs ≡ true) = both_true (not (is_head (kind_of x))) (no_head xs) q in
    rw (other_naming (kind_of x) b.0, headed_past xs ys b.1 r) refl

module _ {strict : Bool} where
  decl_headed : {d : ℕ} {x : Tree} (ys : List Tok) → Is strict Decl d x → headed ys ≡ true → headed (yield x ++ ys) ≡ true
  unfolding yield kind_of headed is_name is_inner
  decl_headed ys (i_unit {l = l} h) r = headed_past (yield l ++ (sign RBrace ∷ [])) ys (closed (sign RBrace) (inside h refl) refl) r
  decl_headed ys (i_map {l = l} h q) r = headed_past (yield l ++ (sign RBrace ∷ [])) ys (closed (sign RBrace) (inside h refl) refl) r
  decl_headed ys (i_event {l = l} h) r = headed_past (yield l ++ (sign RBrace ∷ [])) ys (closed (sign RBrace) (inside h refl) refl) r

  list_headed : {d : ℕ} {l : Tree} (ys : List Tok) → Is strict Decls d l → headed ys ≡ true → headed (yield l ++ ys) ≡ true
  unfolding yield
  list_headed ys i_no_decls r = r
  list_headed ys (i_decls {l = l} {s = s} h x) r =
      ap headed (append_assoc (yield l) (yield s) ys) ∙ list_headed (yield s ++ ys) h (decl_headed ys x r)

  pub program_headed : {d : ℕ} {p : Tree} → Is strict Program d p → headed (yield p) ≡ true
  unfolding yield headed kind_of is_name
  program_headed (i_program h) = list_headed (sign Eof ∷ []) h refl
