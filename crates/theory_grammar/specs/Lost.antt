-- Where a table is lost: the first row with which no program goes on, and how the place of a refusal stands to it.
use Rattle.std.specs.Prelude.{◌≡◌, Bool, true, false, cond, List, ◌++◌, ℕ, ◌+◌, ◌-◌, ◌<◌, eqb, take, drop}
use Rattle.rules.specs.declared.Syntax.{Syntax}
use Rattle.rules.specs.declared.Syntax.TheVariants.{Wanted, NotTopLevel, NotMapField, MapTypeUnknown, NotType, MaxNegative, OutOfRange, ShiftCount, MapLacks, NotEventType, CallOnOther, TooDeep}
use Rattle.rules.specs.Kinds.{LBrace, LParen, Colon, Dot, LBracket, Identifier}
use Rattle.rules.specs.Tree.{Tok, Tree, yield, is_variable}
use Rattle.rules.specs.Parse.{kind_at}
use Rattle.rules.specs.Grammar.{Basic, Program, Is}

-- ---- refusals by what they tell

-- 21, 22, 23, 25 and 30: a row of another kind was wanted
unfoldable pub is_misfit : Syntax → Bool
is_misfit (Wanted low high) = true
is_misfit NotTopLevel = true
is_misfit NotMapField = true
is_misfit MapTypeUnknown = false
is_misfit NotType = true
is_misfit MaxNegative = false
is_misfit OutOfRange = false
is_misfit ShiftCount = false
is_misfit (MapLacks field) = false
is_misfit NotEventType = true
is_misfit CallOnOther = false
is_misfit TooDeep = false

-- 24, 26 to 29 and 31: what is checked beside the grammar (`Grammar.Is`, strict). 32 is neither: the nesting.
unfoldable pub is_check : Syntax → Bool
is_check (Wanted low high) = false
is_check NotTopLevel = false
is_check NotMapField = false
is_check MapTypeUnknown = true
is_check NotType = false
is_check MaxNegative = true
is_check OutOfRange = true
is_check ShiftCount = true
is_check (MapLacks field) = true
is_check NotEventType = false
is_check CallOnOther = true
is_check TooDeep = false

-- ---- the lost row

-- The row that is lost where a refusal stands at row r: r itself, but
-- for 24 the name in front of r, and for 29 the `}` in front of r,
-- for 25 the row that is no type, in front of r (then the colon is two rows before r), or r itself where that is Eof,
-- for 27 of a `max` the row behind r, which shows that no shift follows (a length stands behind `[`, and is lost itself),
-- for 31 the parenthesis behind the method's name,
-- for 32 of a body's brace the `if`, five rows before it, and of an argument list (its parenthesis stands behind a name) the row that is no `)`.
unfoldable pub lost : List Tok → Syntax → ℕ → ℕ
lost ts (Wanted low high) r = r
lost ts NotTopLevel r = r
lost ts NotMapField r = r
lost ts MapTypeUnknown r = r - 1
lost ts NotType r = cond (eqb (kind_at ts (r - 2)) Colon) (r - 1) r
lost ts MaxNegative r = r
lost ts OutOfRange r = cond (eqb (kind_at ts (r - 1)) LBracket) r (r + 1)
lost ts ShiftCount r = r
lost ts (MapLacks field) r = r - 1
lost ts NotEventType r = r
lost ts CallOnOther r = r + 1
lost ts TooDeep r = cond (eqb (kind_at ts r) LBrace) (r - 5) (cond (eqb (kind_at ts (r - 1)) Identifier) (r + 1) r)

-- At row s a call on something else than a variable opens: from row i on stand that and a dot, the method's name and the parenthesis.
pub record OpensCall (ts : List Tok) (s : ℕ) : Type 0 where
  pub i : ℕ
  pub dot : ℕ
  pub deep : ℕ
  pub callee : Tree
  pub is : Is true Basic deep callee
  pub other : is_variable callee ≡ false
  pub stands : drop i ts ≡ yield callee ++ drop dot ts
  pub dotted : kind_at ts dot ≡ Dot
  pub named : kind_at ts (dot + 1) ≡ Identifier
  pub opens : kind_at ts (dot + 1 + 1) ≡ LParen
  pub here : s ≡ dot + 1 + 1

-- Row s is where a refusal at row r is lost: the row that `lost` gives, or for 31 an earlier parenthesis that opens such a call (in its arguments
-- stands the one that is told).
pub data LostAt (ts : List Tok) (why : Syntax) (r s : ℕ) : Type 0 where
  own : s ≡ lost ts why r → LostAt ts why r s
  around : why ≡ CallOnOther → s < lost ts why r → OpensCall ts s → LostAt ts why r s

-- ---- programs that go on

-- a program of the grammar within the nesting n, the checks among its rules or not (strict), that begins with the first s rows
pub record GoesOn (strict : Bool) (n : ℕ) (ts : List Tok) (s : ℕ) : Type 0 where
  pub tree : Tree
  pub is : Is strict Program n tree
  pub begins : take s (yield tree) ≡ take s ts

-- How deep the program may be nested that goes on in front of a lost row.
unfoldable pub nesting : Syntax → ℕ
nesting why = cond (is_misfit why) 65 64

-- A refusal at row r is about the first row with which no program goes on: some program begins with the rows in front of it (and so
-- with any fewer), and none with these and the row itself.
--
-- For 24, 26 to 29 and 31 a program is one within the checks and the nesting, that is, one that the parser takes.
--
-- For 32 it is one of the grammar within the nesting, with the checks left aside: `1.f(` is doomed at its parenthesis, since only a
-- variable has methods, and is told with 31 behind its `)`; so in front of a refusal 32 there may stand a call that no program within
-- the checks has (`1.f(` and 64 more parentheses).
--
-- For 21, 22, 23, 25 and 30 the checks are left aside too, and the program that begins with the rows in front may be nested 65 deep, one
-- more than the parser goes, since an `if` that is nested 65 deep is refused with 32 only at its brace. That none begins with the row
-- too holds of programs of any nesting, and all the more of those within the checks.
--
-- For 31 the row may be the parenthesis of a call around the one that is told: in `1.f(2.g())` the inner call is told, and the table is lost at
-- the outer parenthesis.
pub record First (ts : List Tok) (why : Syntax) (r : ℕ) : Type 0 where
  -- the row that the refusal is about
  pub row : ℕ
  pub at : LostAt ts why r row
  -- the rows in front of it begin a program
  pub goes : GoesOn (is_check why) (nesting why) ts row
  -- and with the row itself they begin none
  pub stops : (n : ℕ) → (is_misfit why ≡ false → n ≡ 64) → GoesOn (is_check why) n ts (row + 1) → ⊥
