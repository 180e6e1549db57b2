-- "Grammar": the rows as tokens, and the tree, with no row numbers in it. `yield` gives the tokens that a tree is read from.
use Rattle.std.specs.Prelude.{ℕ, ◌+◌, ◌-◌, ◌*◌, ◌/◌, ◌%◌, ◌^◌, Bool, true, false, cond, ◌||◌, List, [], ◌∷◌, ◌++◌, eqb, ltb, length, take, drop, get_or}
use Rattle.rules.specs.Text.{byte, bytes}
use Rattle.rules.specs.Kinds.{Spelt, kind_in, last_unmade, KeywordUnit, KeywordSection, KeywordReturn, KeywordMap, KeywordType, KeywordMax, KeywordIf, KeywordElse, KeywordGuard, KeywordEvent, LBrace, RBrace, LParen, RParen, Colon, Dot, Comma, Semicolon, LBracket, RBracket, Equals, Plus, Minus, Star, Shl, Identifier, StringLiteral, Number, KeywordBytes, Eof}
use Rattle.rules.specs.Rows.{Row, spelling, value_bits}
use Rattle.rules.specs.Sets.{from_section, Unknown}

-- What a parser sees of a row: a name or a string with its spelling, a number with its value's bits, and of any other its kind.
pub data Tok : Type 0 where
  sign : ℕ → Tok
  name string : List ℕ → Tok
  value : ℕ → Tok

unfoldable pub kind_of : Tok → ℕ
kind_of (sign k) = k
kind_of (name w) = Identifier
kind_of (string w) = StringLiteral
kind_of (value v) = Number

unfoldable pub spelling_of : Tok → List ℕ
spelling_of (sign k) = []
spelling_of (name w) = w
spelling_of (string w) = w
spelling_of (value v) = []

unfoldable pub bits_in : Tok → ℕ
bits_in (sign k) = 0
bits_in (name w) = 0
bits_in (string w) = 0
bits_in (value v) = v

unfoldable pub tok_of : List ℕ → Row → Tok
tok_of t r =
    cond (eqb r.kind Identifier) (name (spelling t r))
    (cond (eqb r.kind StringLiteral) (string (spelling t r))
    (cond (eqb r.kind Number) (value (value_bits r)) (sign r.kind)))

-- Lists are built at their end: `more a t` is the arguments a and then t, `seq l t` the list l and then t.
pub data Tree : Type 0 where
  none : Tree
  -- expressions: number, variable, dereference, parentheses, field, call, binary by its sign's kind; arguments
  num : (bits : ℕ) → Tree
  var : (name : List ℕ) → Tree
  star group : Tree → Tree
  field : Tree → (name : List ℕ) → Tree
  call : Tree → (name : List ℕ) → Tree → Tree
  bin : (kind : ℕ) → Tree → Tree → Tree
  one : Tree → Tree
  more : Tree → Tree → Tree
  -- statements: reg, imm or heap; return; an expression; = or +=; if with its bodies, the second `none` if there is no else
  decl : (kind : ℕ) (name : List ℕ) → Tree → Tree
  ret plain : Tree → Tree
  assign : (kind : ℕ) → Tree → Tree → Tree
  guard : (name : List ℕ) → Tree → Tree → Tree
  then_body else_body : Tree → Tree
  seq : Tree → Tree → Tree
  -- units: section or licence with its string
  text : (kind : ℕ) (string : List ℕ) → Tree
  unit : (name : List ℕ) → Tree → Tree
  -- maps: type; key or value with its type's kind; max, a number and then shifts by numbers
  map_type : (name : List ℕ) → Tree
  typed : (kind type : ℕ) → Tree
  limit : Tree → Tree
  first : (bits : ℕ) → Tree
  shifted : (kind : ℕ) → Tree → (bits : ℕ) → Tree
  map_decl : (name : List ℕ) → Tree → Tree
  -- events: a type, `bytes` or a type with a length
  plain_field : (name : List ℕ) (type : ℕ) → Tree
  bytes_field : (name : List ℕ) (bits : ℕ) → Tree
  array_field : (name : List ℕ) (type bits : ℕ) → Tree
  event : (name : List ℕ) → Tree → Tree
  program : Tree → Tree

unfoldable pub yield : Tree → List Tok
yield none = []
yield (num v) = value v ∷ []
yield (var w) = name w ∷ []
yield (star t) = sign Star ∷ yield t
yield (group t) = sign LParen ∷ (yield t ++ (sign RParen ∷ []))
yield (field t w) = yield t ++ (sign Dot ∷ name w ∷ [])
yield (call t w a) = yield t ++ (sign Dot ∷ name w ∷ sign LParen ∷ (yield a ++ (sign RParen ∷ [])))
yield (bin k l r) = yield l ++ (sign k ∷ yield r)
yield (one t) = yield t
yield (more a t) = yield a ++ (sign Comma ∷ yield t)
yield (decl k w e) = sign k ∷ name w ∷ sign Equals ∷ (yield e ++ (sign Semicolon ∷ []))
yield (ret e) = sign KeywordReturn ∷ (yield e ++ (sign Semicolon ∷ []))
yield (plain e) = yield e ++ (sign Semicolon ∷ [])
yield (assign k l r) = yield l ++ (sign k ∷ (yield r ++ (sign Semicolon ∷ [])))
yield (guard w b e) = sign KeywordIf ∷ sign KeywordGuard ∷ sign LParen ∷ name w ∷ sign RParen ∷ (yield b ++ yield e)
yield (then_body s) = sign LBrace ∷ (yield s ++ (sign RBrace ∷ []))
yield (else_body s) = sign KeywordElse ∷ sign LBrace ∷ (yield s ++ (sign RBrace ∷ []))
yield (seq l t) = yield l ++ yield t
yield (text k w) = sign k ∷ string w ∷ sign Semicolon ∷ []
yield (unit w l) = sign KeywordUnit ∷ name w ∷ sign LBrace ∷ (yield l ++ (sign RBrace ∷ []))
yield (map_type w) = sign KeywordType ∷ sign Colon ∷ sign Dot ∷ name w ∷ sign Semicolon ∷ []
yield (typed k t) = sign k ∷ sign Colon ∷ sign t ∷ sign Semicolon ∷ []
yield (limit c) = sign KeywordMax ∷ sign Colon ∷ (yield c ++ (sign Semicolon ∷ []))
yield (first v) = value v ∷ []
yield (shifted k c v) = yield c ++ (sign k ∷ value v ∷ [])
yield (map_decl w l) = sign KeywordMap ∷ name w ∷ sign LBrace ∷ (yield l ++ (sign RBrace ∷ []))
yield (plain_field w t) = name w ∷ sign Colon ∷ sign t ∷ sign Semicolon ∷ []
yield (bytes_field w v) =
    name w ∷ sign Colon ∷ sign KeywordBytes ∷ sign LBracket ∷ value v ∷ sign RBracket ∷ sign Semicolon ∷ []
yield (array_field w t v) = name w ∷ sign Colon ∷ sign t ∷ sign LBracket ∷ value v ∷ sign RBracket ∷ sign Semicolon ∷ []
yield (event w l) = sign KeywordEvent ∷ name w ∷ sign LBrace ∷ (yield l ++ (sign RBrace ∷ []))
yield (program l) = yield l ++ (sign Eof ∷ [])

-- ---- what a tree says, as far as the checks and the nodes need it

-- a variable, also in parentheses
unfoldable pub is_variable : Tree → Bool
is_variable none = false
is_variable (num v) = false
is_variable (var w) = true
is_variable (star t) = false
is_variable (group t) = is_variable t
is_variable (field t w) = false
is_variable (call t w a) = false
is_variable (bin k l r) = false
is_variable (one t) = false
is_variable (more a t) = false
is_variable (decl k w e) = false
is_variable (ret e) = false
is_variable (plain e) = false
is_variable (assign k l r) = false
is_variable (guard w b e) = false
is_variable (then_body s) = false
is_variable (else_body s) = false
is_variable (seq l t) = false
is_variable (text k w) = false
is_variable (unit w l) = false
is_variable (map_type w) = false
is_variable (typed k t) = false
is_variable (limit c) = false
is_variable (first v) = false
is_variable (shifted k c v) = false
is_variable (map_decl w l) = false
is_variable (plain_field w t) = false
is_variable (bytes_field w v) = false
is_variable (array_field w t v) = false
is_variable (event w l) = false
is_variable (program l) = false

-- a sum, or a list the last of which is one
unfoldable pub is_sum : Tree → Bool
is_sum none = false
is_sum (num v) = false
is_sum (var w) = false
is_sum (star t) = false
is_sum (group t) = false
is_sum (field t w) = false
is_sum (call t w a) = false
is_sum (bin k l r) = eqb k Plus || eqb k Minus
is_sum (one t) = is_sum t
is_sum (more a t) = is_sum t
is_sum (decl k w e) = false
is_sum (ret e) = false
is_sum (plain e) = false
is_sum (assign k l r) = false
is_sum (guard w b e) = false
is_sum (then_body s) = false
is_sum (else_body s) = false
is_sum (seq l t) = is_sum t
is_sum (text k w) = false
is_sum (unit w l) = false
is_sum (map_type w) = false
is_sum (typed k t) = false
is_sum (limit c) = false
is_sum (first v) = false
is_sum (shifted k c v) = false
is_sum (map_decl w l) = false
is_sum (plain_field w t) = false
is_sum (bytes_field w v) = false
is_sum (array_field w t v) = false
is_sum (event w l) = false
is_sum (program l) = false

-- an `if` without `else`, or a list the last of which is one
unfoldable pub hangs : Tree → Bool
hangs none = false
hangs (num v) = false
hangs (var w) = false
hangs (star t) = false
hangs (group t) = false
hangs (field t w) = false
hangs (call t w a) = false
hangs (bin k l r) = false
hangs (one t) = hangs t
hangs (more a t) = hangs t
hangs (decl k w e) = false
hangs (ret e) = false
hangs (plain e) = false
hangs (assign k l r) = false
hangs (guard w b e) = eqb (length (yield e)) 0
hangs (then_body s) = false
hangs (else_body s) = false
hangs (seq l t) = hangs t
hangs (text k w) = false
hangs (unit w l) = false
hangs (map_type w) = false
hangs (typed k t) = false
hangs (limit c) = false
hangs (first v) = false
hangs (shifted k c v) = false
hangs (map_decl w l) = false
hangs (plain_field w t) = false
hangs (bytes_field w v) = false
hangs (array_field w t v) = false
hangs (event w l) = false
hangs (program l) = false

-- how many things a list has; an else body is one
unfoldable pub count : Tree → ℕ
count none = 0
count (num v) = 0
count (var w) = 0
count (star t) = 0
count (group t) = 0
count (field t w) = 0
count (call t w a) = 0
count (bin k l r) = 0
count (one t) = 1
count (more a t) = count a + 1
count (decl k w e) = 0
count (ret e) = 0
count (plain e) = 0
count (assign k l r) = 0
count (guard w b e) = 0
count (then_body s) = 0
count (else_body s) = 1
count (seq l t) = count l + 1
count (text k w) = 0
count (unit w l) = 0
count (map_type w) = 0
count (typed k t) = 0
count (limit c) = 0
count (first v) = 0
count (shifted k c v) = 0
count (map_decl w l) = 0
count (plain_field w t) = 0
count (bytes_field w v) = 0
count (array_field w t v) = 0
count (event w l) = 0
count (program l) = 0

-- the sections' strings, in order
unfoldable pub sections_of : Tree → List (List ℕ)
sections_of none = []
sections_of (num v) = []
sections_of (var w) = []
sections_of (star t) = []
sections_of (group t) = []
sections_of (field t w) = []
sections_of (call t w a) = []
sections_of (bin k l r) = []
sections_of (one t) = []
sections_of (more a t) = []
sections_of (decl k w e) = []
sections_of (ret e) = []
sections_of (plain e) = []
sections_of (assign k l r) = []
sections_of (guard w b e) = []
sections_of (then_body s) = []
sections_of (else_body s) = []
sections_of (seq l t) = sections_of l ++ sections_of t
sections_of (text k w) = cond (eqb k KeywordSection) (w ∷ []) []
sections_of (unit w l) = []
sections_of (map_type w) = []
sections_of (typed k t) = []
sections_of (limit c) = []
sections_of (first v) = []
sections_of (shifted k c v) = []
sections_of (map_decl w l) = []
sections_of (plain_field w t) = []
sections_of (bytes_field w v) = []
sections_of (array_field w t v) = []
sections_of (event w l) = []
sections_of (program l) = []

-- what stands between a string's quotes, escapes undecoded
unfoldable pub content : List ℕ → List ℕ
content w = take (length w - 2) (drop 1 w)

-- A section's text is the string's content without its last byte if that is a quote.
unfoldable pub section_text : List ℕ → List ℕ
section_text w =
    cond (ltb 0 (length (content w)))
    (cond (eqb (get_or (content w) (length (content w) - 1) 0) (byte "\"")) (take (length (content w) - 1) (content w)) (content w))
    (content w)

-- The first section gives the kind (none: Unknown).
unfoldable pub kind_of_first : List (List ℕ) → ℕ
kind_of_first [] = Unknown
kind_of_first (w ∷ ws) = from_section (section_text w)

unfoldable pub unit_kind : Tree → ℕ
unit_kind l = kind_of_first (sections_of l)

-- ---- maps: fields repeat freely, the last holds

-- the types in source order
abbrev pub MapHash : ℕ
MapHash = 1

abbrev pub MapArray : ℕ
MapArray = 2

abbrev pub MapRingbuf : ℕ
MapRingbuf = 3

abbrev pub MapLruHash : ℕ
MapLruHash = 4

abbrev pub MapProgArray : ℕ
MapProgArray = 5

abbrev pub map_type_numbers : List ℕ
map_type_numbers =
    MapHash ∷ MapArray ∷ MapRingbuf ∷ MapLruHash ∷ MapProgArray ∷ []

unfoldable pub map_types : List Spelt
map_types =
    record { spelling = bytes "hash"; kind = MapHash }
    ∷ record { spelling = bytes "array"; kind = MapArray }
    ∷ record { spelling = bytes "ringbuf"; kind = MapRingbuf }
    ∷ record { spelling = bytes "lru_hash"; kind = MapLruHash }
    ∷ record { spelling = bytes "prog_array"; kind = MapProgArray }
    ∷ []

-- 0 if it is none
unfoldable pub map_type_number : List ℕ → ℕ
map_type_number w = kind_in map_types 0 w

-- `max` goes left to right, 64-bit two's complement: left shift drops high bits, right shift keeps the sign
unfoldable pub shift_right : ℕ → ℕ → ℕ
shift_right x c = cond (ltb x (2 ^ 63)) (x / 2 ^ c) (2 ^ 64 - 1 - (2 ^ 64 - 1 - x) / 2 ^ c)

unfoldable pub shift_bits : ℕ → ℕ → ℕ → ℕ
shift_bits k x c = cond (eqb k Shl) (x * 2 ^ c % 2 ^ 64) (shift_right x c)

unfoldable pub max_bits : Tree → ℕ
max_bits none = 0
max_bits (num v) = 0
max_bits (var w) = 0
max_bits (star t) = 0
max_bits (group t) = 0
max_bits (field t w) = 0
max_bits (call t w a) = 0
max_bits (bin k l r) = 0
max_bits (one t) = 0
max_bits (more a t) = 0
max_bits (decl k w e) = 0
max_bits (ret e) = 0
max_bits (plain e) = 0
max_bits (assign k l r) = 0
max_bits (guard w b e) = 0
max_bits (then_body s) = 0
max_bits (else_body s) = 0
max_bits (seq l t) = 0
max_bits (text k w) = 0
max_bits (unit w l) = 0
max_bits (map_type w) = 0
max_bits (typed k t) = 0
max_bits (limit c) = 0
max_bits (first v) = v
max_bits (shifted k c v) = shift_bits k (max_bits c) v
max_bits (map_decl w l) = 0
max_bits (plain_field w t) = 0
max_bits (bytes_field w v) = 0
max_bits (array_field w t v) = 0
max_bits (event w l) = 0
max_bits (program l) = 0

-- the last of two, where 0 is none
abbrev pub last_of : ℕ → ℕ → ℕ
last_of x y = cond (eqb y 0) x y

-- types are numbered 1 to 4 in source order, which is that of their kinds
abbrev pub type_number : ℕ → ℕ
type_number k = k - last_unmade

-- the number of a map's type, 0 if none is given
unfoldable pub type_of : Tree → ℕ
type_of none = 0
type_of (num v) = 0
type_of (var w) = 0
type_of (star t) = 0
type_of (group t) = 0
type_of (field t w) = 0
type_of (call t w a) = 0
type_of (bin k l r) = 0
type_of (one t) = 0
type_of (more a t) = 0
type_of (decl k w e) = 0
type_of (ret e) = 0
type_of (plain e) = 0
type_of (assign k l r) = 0
type_of (guard w b e) = 0
type_of (then_body s) = 0
type_of (else_body s) = 0
type_of (seq l t) = last_of (type_of l) (type_of t)
type_of (text k w) = 0
type_of (unit w l) = 0
type_of (map_type w) = map_type_number w
type_of (typed k t) = 0
type_of (limit c) = 0
type_of (first v) = 0
type_of (shifted k c v) = 0
type_of (map_decl w l) = 0
type_of (plain_field w t) = 0
type_of (bytes_field w v) = 0
type_of (array_field w t v) = 0
type_of (event w l) = 0
type_of (program l) = 0

-- the type that a field, key or value, gives
unfoldable pub typed_by : ℕ → Tree → ℕ
typed_by f none = 0
typed_by f (num v) = 0
typed_by f (var w) = 0
typed_by f (star t) = 0
typed_by f (group t) = 0
typed_by f (field t w) = 0
typed_by f (call t w a) = 0
typed_by f (bin k l r) = 0
typed_by f (one t) = 0
typed_by f (more a t) = 0
typed_by f (decl k w e) = 0
typed_by f (ret e) = 0
typed_by f (plain e) = 0
typed_by f (assign k l r) = 0
typed_by f (guard w b e) = 0
typed_by f (then_body s) = 0
typed_by f (else_body s) = 0
typed_by f (seq l t) = last_of (typed_by f l) (typed_by f t)
typed_by f (text k w) = 0
typed_by f (unit w l) = 0
typed_by f (map_type w) = 0
typed_by f (typed k t) = cond (eqb k f) (type_number t) 0
typed_by f (limit c) = 0
typed_by f (first v) = 0
typed_by f (shifted k c v) = 0
typed_by f (map_decl w l) = 0
typed_by f (plain_field w t) = 0
typed_by f (bytes_field w v) = 0
typed_by f (array_field w t v) = 0
typed_by f (event w l) = 0
typed_by f (program l) = 0

-- one more than max, 0 if none is given
unfoldable pub limit_of : Tree → ℕ
limit_of none = 0
limit_of (num v) = 0
limit_of (var w) = 0
limit_of (star t) = 0
limit_of (group t) = 0
limit_of (field t w) = 0
limit_of (call t w a) = 0
limit_of (bin k l r) = 0
limit_of (one t) = 0
limit_of (more a t) = 0
limit_of (decl k w e) = 0
limit_of (ret e) = 0
limit_of (plain e) = 0
limit_of (assign k l r) = 0
limit_of (guard w b e) = 0
limit_of (then_body s) = 0
limit_of (else_body s) = 0
limit_of (seq l t) = last_of (limit_of l) (limit_of t)
limit_of (text k w) = 0
limit_of (unit w l) = 0
limit_of (map_type w) = 0
limit_of (typed k t) = 0
limit_of (limit c) = max_bits c + 1
limit_of (first v) = 0
limit_of (shifted k c v) = 0
limit_of (map_decl w l) = 0
limit_of (plain_field w t) = 0
limit_of (bytes_field w v) = 0
limit_of (array_field w t v) = 0
limit_of (event w l) = 0
limit_of (program l) = 0

-- the fields that a map may lack
abbrev pub FieldType : ℕ
FieldType = 1

abbrev pub FieldKey : ℕ
FieldKey = 2

abbrev pub FieldValue : ℕ
FieldValue = 3

abbrev pub FieldMax : ℕ
FieldMax = 4

abbrev pub map_field_numbers : List ℕ
map_field_numbers =
    FieldType ∷ FieldKey ∷ FieldValue ∷ FieldMax ∷ []

-- After `}`: type is required, then key, value, max in that order (ringbuf: max only). The field that lacks, 1 to 4, or 0.
unfoldable pub lacking : (type key val lim : ℕ) → ℕ
lacking type key val lim =
    cond (eqb type 0) FieldType
    (cond (eqb type MapRingbuf) (cond (eqb lim 0) FieldMax 0)
    (cond (eqb key 0) FieldKey (cond (eqb val 0) FieldValue (cond (eqb lim 0) FieldMax 0))))
