-- The names after the heads of maps and events among the rows of two tables are those that the two programs declare; and so with units.
use mathlib.Core.Path.{◌≡◌, refl, sym, ap, ◌∙◌, subst}
use mathlib.Core.Bool.{Bool, true, false, cond, not, ◌&&◌, ◌||◌, true≢false}
use mathlib.Core.List.{List, [], ◌∷◌, ◌++◌, map, append-nil}
use Prim.Native.Nat.{ℕ, zero, suc, ◌+◌, ◌-◌, ◌*◌, ◌≤◌, ◌<◌}
use native.Mathlib.Nat.{add-zero}
use native.Mathlib.Numerals.{add-one}
use native.Mathlib.Omega.{arith}
use lib.Dec.{eqb, ltb}
use lib.ListN.{length, get_or, drop, length-append}
use borrow.Author.Tests.{lt-ltb, le-ltb, eqb-true}
use Rattle.laws.proofs.Tests.{both_true}
use Rattle.laws.proofs.Rows.{kind_word, row_from}
use Rattle.rules.specs.Kinds.{Identifier, StringLiteral, Number, KeywordMap, KeywordEvent, KeywordUnit, Eof}
use Rattle.rules.specs.Rows.{Row, row_in, row_no, rows_in, spelling, value_bits}
use Rattle.rules.specs.Tree.{Tok, sign, name, string, value, kind_of, spelling_of, tok_of, Tree, yield}
use Rattle.rules.specs.Grammar.{Program, Is}
use Rattle.rules.specs.Calls.{tokens}
use Rattle.rules_program.specs.Both.{declared_both, declarations, declared_in}
use Rattle.rules_program.specs.Names.{Name, named, names_of, unit_rows}
use Rattle.rules_program.specs.Find.{spelling_of_both}
use Rattle.program_names.specs.Heads.{kept_if, rows_where, is_unit_head, unit_heads, kind_of_both, is_head, name_after, head_names}
use Rattle.theory_program.specs.Heads.{is_naming, names_in, units_in, is_name, headed}
use Rattle.theory_program.proofs.Heads.{both_names, program_units, program_headed}

-- ---- tokens that agree with rows

-- Tokens from row i on have the kinds k, and after each head stands the spelling s.
data Agree (k : ℕ → ℕ) (s : ℕ → List ℕ) : ℕ → List Tok → Type 0 where
  a_none : {i : ℕ} → Agree k s i []
  a_more : {i : ℕ} {x : Tok} {xs : List Tok} → kind_of x ≡ k i
      → (is_naming (kind_of x) ≡ true → spelling_of (get_or xs 0 (sign Eof)) ≡ s (i + 1))
      → Agree k s (i + 1) xs
      → Agree k s i (x ∷ xs)

agree_names : (k : ℕ → ℕ) (s : ℕ → List ℕ) (p : ℕ → Bool) → ((i : ℕ) → p i ≡ is_naming (k i)) → (i : ℕ) (ts : List Tok) → Agree k s i ts
    → map (name_after s) (rows_where p i (length ts)) ≡ names_in i ts
unfolding rows_where names_in kept_if
agree_names k s p f i [] a_none = refl
agree_names k s p f i (x ∷ xs) (a_more e g a) =
    let b : p i ≡ is_naming (kind_of x) = f i ∙ ap (λ (n : ℕ). is_naming n) (sym e) in
    let on : map (name_after s) (rows_where p (i + 1) (length xs)) ≡ names_in (suc i) xs =
    agree_names k s p f (i + 1) xs a ∙ ap (λ (n : ℕ). names_in n xs) (add-one i) in
    ap (λ (t : Bool). map (name_after s) (kept_if t i (rows_where p (i + 1) (length xs)))) b ∙ by_kind (is_naming (kind_of x)) g on
  where
    by_kind : (t : Bool) → (t ≡ true → spelling_of (get_or xs 0 (sign Eof)) ≡ s (i + 1))
        → map (name_after s) (rows_where p (i + 1) (length xs)) ≡ names_in (suc i) xs
        → map (name_after s) (kept_if t i (rows_where p (i + 1) (length xs)))
        ≡ cond t (record { name = spelling_of (get_or xs 0 (sign Eof)); row = suc i } ∷ names_in (suc i) xs) (names_in (suc i) xs)
    by_kind true h on =
        ap (λ (l : List Name). record { name = s (i + 1); row = i + 1 } ∷ l) on
        ∙ (ap (λ (w : List ℕ). record { name = w; row = i + 1 } ∷ names_in (suc i) xs) (sym (h refl))
        ∙ ap (λ (n : ℕ). record { name = spelling_of (get_or xs 0 (sign Eof)); row = n } ∷ names_in (suc i) xs) (add-one i))
    by_kind false h on = on

-- ---- the rows of a table

-- a name's token is spelled as its row
name_spelled : (t : List ℕ) (r : Row) → is_name (tok_of t r) ≡ true → spelling_of (tok_of t r) ≡ spelling t r
unfolding tok_of is_name spelling_of
name_spelled t r h = by_kind (eqb r.kind Identifier) (eqb r.kind StringLiteral) (eqb r.kind Number) h
  where
    by_kind : (a b c : Bool)
        → is_name (cond a (name (spelling t r)) (cond b (string (spelling t r)) (cond c (value (value_bits r)) (sign r.kind)))) ≡ true
        → spelling_of (cond a (name (spelling t r)) (cond b (string (spelling t r)) (cond c (value (value_bits r)) (sign r.kind)))) ≡ spelling t r
    by_kind true b c h = refl
    by_kind false true c h = refl
    by_kind false false true h = absurd (true≢false (sym h))
    by_kind false false false h = absurd (true≢false (sym h))

token_kind : (t : List ℕ) (r : Row) → kind_of (tok_of t r) ≡ r.kind
unfolding tok_of kind_of
token_kind t r = by_kind (eqb r.kind Identifier) refl (eqb r.kind StringLiteral) refl (eqb r.kind Number) refl
  where
    by_kind : (a : Bool) → eqb r.kind Identifier ≡ a → (b : Bool) → eqb r.kind StringLiteral ≡ b → (c : Bool) → eqb r.kind Number ≡ c
        → kind_of (cond a (name (spelling t r)) (cond b (string (spelling t r)) (cond c (value (value_bits r)) (sign r.kind)))) ≡ r.kind
    by_kind true e b f c g = sym (eqb-true r.kind Identifier e)
    by_kind false e true f c g = sym (eqb-true r.kind StringLiteral f)
    by_kind false e false f true g = sym (eqb-true r.kind Number g)
    by_kind false e false f false g = refl

-- a head is followed by a name
next_name : (x : Tok) (xs : List Tok) → headed (x ∷ xs) ≡ true → is_naming (kind_of x) ≡ true → is_name (get_or xs 0 (sign Eof)) ≡ true
unfolding headed
next_name x xs h n =
    let b : _ × _ = both_true (not (is_naming (kind_of x)) || is_name (get_or xs 0 (sign Eof))) (headed xs) h in
    ap (λ (t : Bool). not t || is_name (get_or xs 0 (sign Eof))) (sym n) ∙ b.0

rest_headed : (x : Tok) (xs : List Tok) → headed (x ∷ xs) ≡ true → headed xs ≡ true
unfolding headed
rest_headed x xs h = (both_true (not (is_naming (kind_of x)) || is_name (get_or xs 0 (sign Eof))) (headed xs) h).1

-- row m of what stands after the first row
row_after : (ws : List ℕ) (m : ℕ) → row_no ws (suc m) ≡ row_no (drop 8 ws) m
row_after ws m = let e : suc m ≡ 1 + m = omega arith in ap (λ (n : ℕ). row_no ws n) e ∙ sym (row_from ws 1 m)

-- Tokens of the n rows of a table, which stand from row i on, and then others. The last row is no head.
module _ (k : ℕ → ℕ) (s : ℕ → List ℕ) (t : List ℕ) where
  -- what follows a head is spelled as its row
  next_spelled : (n i : ℕ) (ws : List ℕ) (ys : List Tok) → ((m : ℕ) → m < suc n → s (i + m) ≡ spelling t (row_no ws m))
      → ((m : ℕ) → suc m ≡ suc n → is_naming (row_no ws m).kind ≡ false)
      → headed (tokens t (rows_in (suc n) ws)) ≡ true
      → is_naming (kind_of (tok_of t (row_in ws))) ≡ true
      → spelling_of (get_or (tokens t (rows_in n (drop 8 ws)) ++ ys) 0 (sign Eof)) ≡ s (i + 1)
  unfolding tokens rows_in
  next_spelled zero i ws ys ss last h e =
      absurd (true≢false (sym e ∙ (ap (λ (n : ℕ). is_naming n) (token_kind t (row_in ws)) ∙ last 0 refl)))
  next_spelled (suc n) i ws ys ss last h e =
      name_spelled t (row_in (drop 8 ws)) (next_name (tok_of t (row_in ws)) (tokens t (rows_in (suc n) (drop 8 ws))) h e) ∙ sym (ss 1 (omega arith))

  table_agrees : (n i : ℕ) (ws : List ℕ) (ys : List Tok) → ((m : ℕ) → m < n → k (i + m) ≡ (row_no ws m).kind)
      → ((m : ℕ) → m < n → s (i + m) ≡ spelling t (row_no ws m))
      → ((m : ℕ) → suc m ≡ n → is_naming (row_no ws m).kind ≡ false)
      → headed (tokens t (rows_in n ws)) ≡ true
      → Agree k s (i + n) ys
      → Agree k s i (tokens t (rows_in n ws) ++ ys)
  unfolding tokens rows_in
  table_agrees zero i ws ys ks ss last h a = subst (λ (j : ℕ). Agree k s j ys) (add-zero i) a
  table_agrees (suc n) i ws ys ks ss last h a =
      let on : (m : ℕ) → i + 1 + m ≡ i + suc m = λ (m : ℕ). omega arith in
      let end : i + suc n ≡ i + 1 + n = omega arith in
      a_more (token_kind t (row_in ws) ∙ (sym (ks 0 (omega arith)) ∙ ap k (add-zero i))) (next_spelled n i ws ys ss last h)
      (table_agrees n (i + 1) (drop 8 ws) ys
      (λ (m : ℕ). λ (b : m < n). ap k (on m) ∙ (ks (suc m) (omega arith) ∙ ap (λ (r : Row). r.kind) (row_after ws m)))
      (λ (m : ℕ). λ (b : m < n). ap s (on m) ∙ (ss (suc m) (omega arith) ∙ ap (λ (r : Row). spelling t r) (row_after ws m)))
      (λ (m : ℕ). λ (e : suc m ≡ n). ap (λ (r : Row). is_naming r.kind) (sym (row_after ws m)) ∙ last (suc m) (omega arith))
      (rest_headed (tok_of t (row_in ws)) (tokens t (rows_in n (drop 8 ws))) h) (subst (λ (j : ℕ). Agree k s j ys) end a))

-- ---- two tables

-- a table that ends with Eof
abbrev Closed : List ℕ → ℕ → Type 0
Closed ws n = (i : ℕ) → suc i ≡ n → get_or ws (i * 8) 0 ≡ Eof

closed_last : (ws : List ℕ) (n : ℕ) → Closed ws n → (m : ℕ) → suc m ≡ n → is_naming (row_no ws m).kind ≡ false
closed_last ws n c m e = ap (λ (k : ℕ). is_naming k) (kind_word ws m ∙ c m e)

tokens_long : (t : List ℕ) (n : ℕ) (ws : List ℕ) → length (tokens t (rows_in n ws)) ≡ n
unfolding tokens rows_in
tokens_long t zero ws = refl
tokens_long t (suc n) ws = ap (λ (m : ℕ). suc m) (tokens_long t n (drop 8 ws))

module _ (prelude pws : List ℕ) (count : ℕ) (text ws : List ℕ) (more : ℕ) where
  abbrev kinds : ℕ → ℕ
  kinds row = kind_of_both pws count ws row

  abbrev spells : ℕ → List ℕ
  spells row = spelling_of_both prelude pws count text ws row

  front_kind : (m : ℕ) → m < count → kinds (0 + m) ≡ (row_no pws m).kind
  unfolding kind_of_both
  front_kind m h =
      let e : 0 + m ≡ m = omega arith in
      ap (λ (n : ℕ). kind_of_both pws count ws n) e ∙ (rw (kind_of_both, lt-ltb m count h) (sym (kind_word pws m)))

  front_spelled : (m : ℕ) → m < count → spells (0 + m) ≡ spelling prelude (row_no pws m)
  unfolding spelling_of_both
  front_spelled m h =
      let e : 0 + m ≡ m = omega arith in ap (λ (n : ℕ). spells n) e ∙ (rw (spelling_of_both, lt-ltb m count h) refl)

  back_kind : (m : ℕ) → m < more → kinds (count + m) ≡ (row_no ws m).kind
  unfolding kind_of_both
  back_kind m h =
      let e : count + m - count ≡ m = omega arith in rw (kind_of_both, le-ltb (count + m) count (omega arith), e) (sym (kind_word ws m))

  back_spelled : (m : ℕ) → m < more → spells (count + m) ≡ spelling text (row_no ws m)
  unfolding spelling_of_both
  back_spelled m h =
      let e : count + m - count ≡ m = omega arith in rw (spelling_of_both, le-ltb (count + m) count (omega arith), e) refl

  both_agree : Closed pws count → Closed ws more → headed (tokens prelude (rows_in count pws)) ≡ true → headed (tokens text (rows_in more ws)) ≡ true
      → Agree kinds spells 0 (tokens prelude (rows_in count pws) ++ (tokens text (rows_in more ws) ++ []))
  both_agree c d h g =
      let e : 0 + count ≡ count = omega arith in
      table_agrees kinds spells prelude count 0 pws (tokens text (rows_in more ws) ++ []) front_kind front_spelled (closed_last pws count c) h
      (subst (λ (j : ℕ). Agree kinds spells j (tokens text (rows_in more ws) ++ [])) (sym e)
      (table_agrees kinds spells text more count ws [] back_kind back_spelled (closed_last ws more d) g a_none))

  -- the names after heads are those that the two programs declare
  pub heads_declared : {p q : Tree} → Closed pws count → Closed ws more → Is true Program 64 p → Is true Program 64 q
      → tokens prelude (rows_in count pws) ≡ yield p → tokens text (rows_in more ws) ≡ yield q
      → head_names prelude pws count text ws (count + more) ≡ names_of (named (declared_both p q))
  unfolding head_names is_head
  heads_declared {p = p} {q = q} c d h g e f =
      let ts : List Tok = tokens prelude (rows_in count pws) ++ (tokens text (rows_in more ws) ++ []) in
      let long : length ts ≡ count + more =
      length-append (tokens prelude (rows_in count pws)) (tokens text (rows_in more ws) ++ [])
      ∙ (ap (λ (n : ℕ). n + length (tokens text (rows_in more ws) ++ [])) (tokens_long prelude count pws)
      ∙ ap (λ (n : ℕ). count + n) (ap length (append-nil (tokens text (rows_in more ws))) ∙ tokens_long text more ws)) in
      let a : Agree kinds spells 0 ts = both_agree c d (ap headed e ∙ program_headed h) (ap headed f ∙ program_headed g) in
      ap (λ (n : ℕ). map (name_after spells) (rows_where (is_head pws count ws) 0 n)) (sym long)
      ∙ (agree_names kinds spells (is_head pws count ws) (λ (i : ℕ). refl) 0 ts a
      ∙ (ap (λ (l : List Tok). names_in 0 (tokens prelude (rows_in count pws) ++ l)) (append-nil (tokens text (rows_in more ws)))
      ∙ (ap (λ (l : List Tok). names_in 0 (l ++ tokens text (rows_in more ws))) e
      ∙ (ap (λ (l : List Tok). names_in 0 (yield p ++ l)) f ∙ both_names h g))))

-- ---- units

units_agree : (t : List ℕ) (p : ℕ → Bool) (n i : ℕ) (ws : List ℕ) → ((m : ℕ) → m < n → p (i + m) ≡ eqb (row_no ws m).kind KeywordUnit)
    → rows_where p i n ≡ units_in i (tokens t (rows_in n ws))
unfolding rows_where units_in tokens rows_in kept_if
units_agree t p zero i ws f = refl
units_agree t p (suc n) i ws f =
    let on : (m : ℕ) → i + 1 + m ≡ i + suc m = λ (m : ℕ). omega arith in
    let rest : rows_where p (i + 1) n ≡ units_in (suc i) (tokens t (rows_in n (drop 8 ws))) =
    units_agree t p n (i + 1) (drop 8 ws)
    (λ (m : ℕ). λ (b : m < n). ap p (on m) ∙ (f (suc m) (omega arith) ∙ ap (λ (r : Row). eqb r.kind KeywordUnit) (row_after ws m)))
    ∙ ap (λ (j : ℕ). units_in j (tokens t (rows_in n (drop 8 ws)))) (add-one i) in
    let b : p i ≡ eqb (kind_of (tok_of t (row_in ws))) KeywordUnit =
    ap p (sym (add-zero i)) ∙ (f 0 (omega arith) ∙ ap (λ (k : ℕ). eqb k KeywordUnit) (sym (token_kind t (row_in ws)))) in
    ap (λ (x : Bool). kept_if x i (rows_where p (i + 1) n)) b ∙ by_kind (eqb (kind_of (tok_of t (row_in ws))) KeywordUnit) rest
  where
    by_kind : (x : Bool) → rows_where p (i + 1) n ≡ units_in (suc i) (tokens t (rows_in n (drop 8 ws)))
        → kept_if x i (rows_where p (i + 1) n)
        ≡ cond x (i ∷ units_in (suc i) (tokens t (rows_in n (drop 8 ws)))) (units_in (suc i) (tokens t (rows_in n (drop 8 ws))))
    by_kind true e = ap (λ (l : List ℕ). i ∷ l) e
    by_kind false e = e

-- the rows of units by kinds are those at which the program's units begin
pub units_declared : (t ws : List ℕ) (n : ℕ) {p : Tree} → Is true Program 64 p → tokens t (rows_in n ws) ≡ yield p
    → unit_heads ws n ≡ unit_rows (declared_in 0 0 (declarations p))
unfolding is_unit_head
units_declared t ws n {p = p} h e =
    units_agree t (is_unit_head ws) n 0 ws (λ (m : ℕ). λ (b : m < n). kind_at m) ∙ (ap (units_in 0) e ∙ program_units 0 0 h)
  where
    kind_at : (m : ℕ) → is_unit_head ws (0 + m) ≡ eqb (row_no ws m).kind KeywordUnit
    kind_at m = let z : 0 + m ≡ m = omega arith in ap (is_unit_head ws) z ∙ ap (λ (k : ℕ). eqb k KeywordUnit) (sym (kind_word ws m))
