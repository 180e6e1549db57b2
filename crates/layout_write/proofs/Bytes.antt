-- The bytes of a tree's layout, from those of its parts.
use mathlib.Core.Path.{◌≡◌, refl, sym, ap, ◌∙◌}
use mathlib.Core.Bool.{Bool, true, false, cond}
use mathlib.Core.List.{List, [], ◌∷◌, ◌++◌, append_assoc, append-nil}
use Prim.Native.Nat.{ℕ}
use lib.Dec.{ltb}
use Rattle.rules.specs.Text.{bytes}
use Rattle.rules.specs.Kinds.{reserved, signs, LBrace, RBrace, LParen, RParen, Dot, Comma, Semicolon, Equals, Star, Eof}
use Rattle.rules.specs.Tree.{Tree, none, num, var, star, group, field, call, bin, one, more, decl, ret, plain, assign, guard, then_body, else_body, seq, text, unit, map_decl, plain_field, bytes_field, array_field, event, program, Tok, sign, name, string, value, kind_of, yield}
use Rattle.rules_decimal.specs.Decimal.{signed}
use Rattle.rules_layout.specs.Rows.{spelling_in, fields_of, level, placed, laid, left_of, right_of}
use Rattle.rules_layout.specs.Bytes.{spelled, behind, row_bytes, rows_bytes, layout}
use Rattle.layout_signs.specs.Levels.{put}

-- ---- rows

pub rows_append : (xs ys : List Tok) → rows_bytes (xs ++ ys) ≡ rows_bytes xs ++ rows_bytes ys
unfolding rows_bytes
rows_append [] ys = refl
rows_append (x ∷ xs) ys =
    ap (λ (l : List ℕ). row_bytes x ++ l) (rows_append xs ys) ∙ sym (append_assoc (row_bytes x) (rows_bytes xs) (rows_bytes ys))

pub rows_one : (x : Tok) → rows_bytes (x ∷ []) ≡ row_bytes x
unfolding rows_bytes
rows_one x = append-nil (row_bytes x)

-- rows, and then one more
pub rows_snoc : (xs : List Tok) (x : Tok) → rows_bytes (xs ++ (x ∷ [])) ≡ rows_bytes xs ++ row_bytes x
rows_snoc xs x = rows_append xs (x ∷ []) ∙ ap (λ (l : List ℕ). rows_bytes xs ++ l) (rows_one x)

pub rows_cons : (x : Tok) (xs : List Tok) → rows_bytes (x ∷ xs) ≡ row_bytes x ++ rows_bytes xs
unfolding rows_bytes
rows_cons x xs = refl

pub name_bytes : (w : List ℕ) → row_bytes (name w) ≡ w ++ bytes " "
unfolding row_bytes spelled behind kind_of
name_bytes w = refl

pub string_bytes : (w : List ℕ) → row_bytes (string w) ≡ w ++ bytes " "
unfolding row_bytes spelled behind kind_of
string_bytes w = refl

pub value_bytes : (v : ℕ) → row_bytes (value v) ≡ signed v ++ bytes " "
unfolding row_bytes spelled behind kind_of
value_bytes v = refl

-- the signs

pub lparen_is : row_bytes (sign LParen) ≡ bytes "( "
unfolding row_bytes spelled behind kind_of spelling_in signs reserved
lparen_is = refl

pub rparen_is : row_bytes (sign RParen) ≡ bytes ") "
unfolding row_bytes spelled behind kind_of spelling_in signs reserved
rparen_is = refl

pub dot_is : row_bytes (sign Dot) ≡ bytes ". "
unfolding row_bytes spelled behind kind_of spelling_in signs reserved
dot_is = refl

pub comma_is : row_bytes (sign Comma) ≡ bytes ", "
unfolding row_bytes spelled behind kind_of spelling_in signs reserved
comma_is = refl

pub star_is : row_bytes (sign Star) ≡ bytes "* "
unfolding row_bytes spelled behind kind_of spelling_in signs reserved
star_is = refl

pub semicolon_is : row_bytes (sign Semicolon) ≡ bytes ";\n"
unfolding row_bytes spelled behind kind_of spelling_in signs reserved
semicolon_is = refl

pub lbrace_is : row_bytes (sign LBrace) ≡ bytes "{\n"
unfolding row_bytes spelled behind kind_of spelling_in signs reserved
lbrace_is = refl

pub rbrace_is : row_bytes (sign RBrace) ≡ bytes "}\n"
unfolding row_bytes spelled behind kind_of spelling_in signs reserved
rbrace_is = refl

pub equals_is : row_bytes (sign Equals) ≡ bytes "= "
unfolding row_bytes spelled behind kind_of spelling_in signs reserved
equals_is = refl

-- ---- expressions

pub placed_bytes : (p : ℕ) (t u : Tree) → rows_bytes (yield (placed p t u)) ≡ put p (level t) (rows_bytes (yield u))
unfolding yield put
placed_bytes p t u = go (ltb (level t) p)
  where
    go : (b : Bool) → rows_bytes (yield (cond b (group u) u)) ≡ cond b (bytes "( " ++ (rows_bytes (yield u) ++ bytes ") "))
        (rows_bytes (yield u))
    go true = rows_cons (sign LParen) (yield u ++ (sign RParen ∷ [])) ∙ rw (lparen_is, rows_snoc (yield u) (sign RParen), rparen_is)
    go false = refl

pub lay_num : (v : ℕ) → layout (num v) ≡ signed v ++ bytes " "
unfolding layout laid yield
lay_num v = rows_one (value v) ∙ value_bytes v

pub lay_var : (w : List ℕ) → layout (var w) ≡ w ++ bytes " "
unfolding layout laid yield
lay_var w = rows_one (name w) ∙ name_bytes w

pub lay_star : (t : Tree) → layout (star t) ≡ bytes "* " ++ put 3 (level t) (layout t)
unfolding layout laid yield
lay_star t = rows_cons (sign Star) (yield (placed 3 t (laid t))) ∙ rw (star_is, placed_bytes 3 t (laid t))

pub lay_group : (t : Tree) → layout (group t) ≡ layout t
unfolding layout laid
lay_group t = refl

pub level_group : (t : Tree) → level (group t) ≡ level t
unfolding level
level_group t = refl

-- a dot and a name behind an expression
dotted : (xs : List Tok) (w : List ℕ) (ys : List Tok) → rows_bytes (xs ++ (sign Dot ∷ name w ∷ ys)) ≡ rows_bytes xs ++
    (bytes ". " ++ ((w ++ bytes " ") ++ rows_bytes ys))
dotted xs w ys =
    rows_append xs (sign Dot ∷ name w ∷ ys)
    ∙ ap (λ (l : List ℕ). rows_bytes xs ++ l) (rows_cons (sign Dot) (name w ∷ ys) ∙ rw (dot_is, rows_cons (name w) ys, name_bytes w))

pub lay_field : (t : Tree) (w : List ℕ) → layout (field t w) ≡ put 4 (level t) (layout t) ++ (bytes ". " ++ (w ++ bytes " "))
unfolding layout laid yield rows_bytes
lay_field t w =
    dotted (yield (placed 4 t (laid t))) w [] ∙ rw (placed_bytes 4 t (laid t), append-nil (w ++ bytes " "))

pub lay_call : (t : Tree) (w : List ℕ) (a : Tree)
    → layout (call t w a) ≡ put 4 (level t) (layout t) ++ (bytes ". " ++ ((w ++ bytes " ") ++ (bytes "( " ++ (layout a ++ bytes ") "))))
unfolding layout laid yield
lay_call t w a =
    dotted (yield (placed 4 t (laid t))) w (sign LParen ∷ (yield (laid a) ++ (sign RParen ∷ [])))
    ∙ rw (
      placed_bytes 4 t (laid t),
      rows_cons (sign LParen) (yield (laid a) ++ (sign RParen ∷ [])),
      lparen_is,
      rows_snoc
          (yield (laid a)) (sign RParen),
      rparen_is,
    )

pub lay_bin : (k : ℕ) (l r : Tree) → layout (bin k l r) ≡ put (left_of k) (level l) (layout l) ++
    (row_bytes (sign k) ++ put (right_of k) (level r) (layout r))
unfolding layout laid yield
lay_bin k l r =
    rows_append (yield (placed (left_of k) l (laid l))) (sign k ∷ yield (placed (right_of k) r (laid r)))
    ∙ rw (
      placed_bytes (left_of k) l (laid l),
      rows_cons (sign k) (yield (placed (right_of k) r (laid r))),
      placed_bytes (right_of k) r
          (laid r),
    )

pub lay_none : layout none ≡ []
unfolding layout laid yield rows_bytes
lay_none = refl

pub lay_one : (t : Tree) → layout (one t) ≡ layout t
unfolding layout laid yield
lay_one t = refl

pub lay_more : (a t : Tree) → layout (more a t) ≡ layout a ++ (bytes ", " ++ layout t)
unfolding layout laid yield
lay_more a t = rows_append (yield (laid a)) (sign Comma ∷ yield (laid t)) ∙ rw (rows_cons (sign Comma) (yield (laid t)), comma_is)

-- ---- statements

-- a tree and a semicolon, or a tree in braces
ended : (t : Tree) → rows_bytes (yield (laid t) ++ (sign Semicolon ∷ [])) ≡ layout t ++ bytes ";\n"
unfolding layout
ended t = rows_snoc (yield (laid t)) (sign Semicolon) ∙ rw semicolon_is

braced : (t : Tree) → rows_bytes (sign LBrace ∷ (yield (laid t) ++ (sign RBrace ∷ []))) ≡ bytes "{\n" ++ (layout t ++ bytes "}\n")
unfolding layout
braced t = rows_cons (sign LBrace) (yield (laid t) ++ (sign RBrace ∷ [])) ∙ rw
    (lbrace_is, rows_snoc (yield (laid t)) (sign RBrace), rbrace_is)

pub lay_decl : (k : ℕ) (w : List ℕ) (e : Tree) → layout (decl k w e) ≡ row_bytes (sign k) ++
    ((w ++ bytes " ") ++ (bytes "= " ++ (layout e ++ bytes ";\n")))
unfolding layout laid yield
lay_decl k w e =
    rows_cons (sign k) (name w ∷ sign Equals ∷ (yield (laid e) ++ (sign Semicolon ∷ [])))
    ∙ rw (
      rows_cons (name w) (sign Equals ∷ (yield (laid e) ++ (sign Semicolon ∷ []))),
      name_bytes w,
      rows_cons (sign Equals)
          (yield (laid e) ++ (sign Semicolon ∷ [])),
      equals_is,
      ended e,
    )

pub lay_ret : (e : Tree) → layout (ret e) ≡ bytes "return " ++ (layout e ++ bytes ";\n")
unfolding layout laid yield rows_bytes row_bytes spelled behind kind_of spelling_in signs reserved
lay_ret e = ap (λ (l : List ℕ). bytes "return " ++ l) (ended e)

pub lay_plain : (e : Tree) → layout (plain e) ≡ layout e ++ bytes ";\n"
unfolding layout laid yield
lay_plain e = ended e

pub lay_assign : (k : ℕ) (l r : Tree) → layout (assign k l r) ≡ layout l ++ (row_bytes (sign k) ++ (layout r ++ bytes ";\n"))
unfolding layout laid yield
lay_assign k l r =
    rows_append (yield (laid l)) (sign k ∷ (yield (laid r) ++ (sign Semicolon ∷ [])))
    ∙ rw (rows_cons (sign k) (yield (laid r) ++ (sign Semicolon ∷ [])), ended r)

pub lay_guard : (w : List ℕ) (b e : Tree) → layout (guard w b e) ≡ bytes "if guard ( " ++
    ((w ++ bytes " ") ++ (bytes ") " ++ (layout b ++ layout e)))
unfolding layout laid yield rows_bytes row_bytes spelled behind kind_of spelling_in signs reserved
lay_guard w b e = ap (λ (l : List ℕ). bytes "if guard ( " ++ ((w ++ bytes " ") ++ (bytes ") " ++ l)))
    (rows_append (yield (laid b)) (yield (laid e)))

pub lay_then : (s : Tree) → layout (then_body s) ≡ bytes "{\n" ++ (layout s ++ bytes "}\n")
unfolding layout laid yield
lay_then s = braced s

pub lay_else : (s : Tree) → layout (else_body s) ≡ bytes "else " ++ (bytes "{\n" ++ (layout s ++ bytes "}\n"))
unfolding layout laid yield rows_bytes row_bytes spelled behind kind_of spelling_in signs reserved
lay_else s = ap (λ (l : List ℕ). bytes "else " ++ l) (braced s)

pub lay_seq : (l t : Tree) → layout (seq l t) ≡ layout l ++ layout t
unfolding layout laid yield
lay_seq l t = rows_append (yield (laid l)) (yield (laid t))

pub lay_text : (k : ℕ) (w : List ℕ) → layout (text k w) ≡ row_bytes (sign k) ++ ((w ++ bytes " ") ++ bytes ";\n")
unfolding layout laid yield
lay_text k w =
    rows_cons (sign k) (string w ∷ sign Semicolon ∷ [])
    ∙ rw (rows_cons (string w) (sign Semicolon ∷ []), string_bytes w, rows_one (sign Semicolon), semicolon_is)

-- ---- declarations

pub lay_unit : (w : List ℕ) (l : Tree) → layout (unit w l) ≡ bytes "unit " ++
    ((w ++ bytes " ") ++ (bytes "{\n" ++ (layout l ++ bytes "}\n")))
unfolding layout laid yield rows_bytes row_bytes spelled behind kind_of spelling_in signs reserved
lay_unit w l = ap (λ (x : List ℕ). bytes "unit " ++ ((w ++ bytes " ") ++ x)) (braced l)

pub lay_event : (w : List ℕ) (l : Tree) → layout (event w l) ≡ bytes "event " ++
    ((w ++ bytes " ") ++ (bytes "{\n" ++ (layout l ++ bytes "}\n")))
unfolding layout laid yield rows_bytes row_bytes spelled behind kind_of spelling_in signs reserved
lay_event w l = ap (λ (x : List ℕ). bytes "event " ++ ((w ++ bytes " ") ++ x)) (braced l)

pub lay_map : (w : List ℕ) (l : Tree)
    → layout (map_decl w l) ≡ bytes "map " ++ ((w ++ bytes " ") ++ (bytes "{\n" ++ (rows_bytes (yield (fields_of l)) ++ bytes "}\n")))
unfolding layout laid yield rows_bytes row_bytes spelled behind kind_of spelling_in signs reserved
lay_map w l =
    ap (λ (x : List ℕ). bytes "map " ++ ((w ++ bytes " ") ++ (bytes "{\n" ++ x)))
    (rows_snoc (yield (fields_of l)) (sign RBrace) ∙ rw rbrace_is)

pub lay_plain_field : (w : List ℕ) (t : ℕ) → layout (plain_field w t) ≡ (w ++ bytes " ") ++
    (bytes ": " ++ (row_bytes (sign t) ++ bytes ";\n"))
unfolding layout laid yield rows_bytes row_bytes spelled behind kind_of spelling_in signs reserved
lay_plain_field w t = refl

pub lay_bytes_field : (w : List ℕ) (v : ℕ) → layout (bytes_field w v) ≡ (w ++ bytes " ") ++
    (bytes ": bytes [ " ++ ((signed v ++ bytes " ") ++ bytes "] ;\n"))
unfolding layout laid yield rows_bytes row_bytes spelled behind kind_of spelling_in signs reserved
lay_bytes_field w v = refl

pub lay_array_field : (w : List ℕ) (t v : ℕ)
    → layout (array_field w t v) ≡ (w ++ bytes " ") ++ (bytes ": " ++
    (row_bytes (sign t) ++ (bytes "[ " ++ ((signed v ++ bytes " ") ++ bytes "] ;\n"))))
unfolding layout laid yield rows_bytes row_bytes spelled behind kind_of spelling_in signs reserved
lay_array_field w t v = refl

pub lay_program : (l : Tree) → layout (program l) ≡ layout l
unfolding layout laid yield rows_bytes row_bytes kind_of
lay_program l = rows_append (yield (laid l)) (sign Eof ∷ []) ∙ append-nil (layout l)
