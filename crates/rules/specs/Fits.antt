-- Sets of row kinds: bit k for kind k, written as sums of named pieces. No two pieces of a sum have a kind in common.
use Rattle.std.specs.Prelude.{Bool, ℕ, ◌+◌, ◌*◌, ◌/◌, ◌%◌, ◌^◌, eqb}
use Rattle.rules.specs.declared.Syntax.{Syntax}
use Rattle.rules.specs.declared.Syntax.TheVariants.{Wanted, NotTopLevel, NotMapField, MapTypeUnknown, NotType, MaxNegative, OutOfRange, ShiftCount, MapLacks, NotEventType, CallOnOther, TooDeep}
use Rattle.rules.specs.Kinds.{TypeU32, TypeU64, TypeI32, TypeI64, KeywordUnit, KeywordSection, KeywordLicense, KeywordReturn, KeywordReg, KeywordImm, KeywordMap, KeywordType, KeywordKey, KeywordValue, KeywordMax, KeywordIf, KeywordHeap, KeywordEvent, RBrace, LParen, RParen, Dot, Equals, PlusEquals, Plus, Minus, Star, Slash, Percent, Shr, Shl, Identifier, Number, KeywordBytes, Eof}

-- the set of one kind, and whether a kind is in a set
abbrev pub only : ℕ → ℕ
only k = 2 ^ k

unfoldable pub has : ℕ → ℕ → Bool
has s k = eqb ((s / 2 ^ k) % 2) 1

-- ---- the pieces

-- what begins an expression
abbrev pub operands : ℕ
operands = only LParen + only Star + only Identifier + only Number

-- what begins a statement that begins with no expression
abbrev pub statements : ℕ
statements = only KeywordReturn + only KeywordReg + only KeywordImm + only KeywordIf + only KeywordHeap

-- what a unit holds beside statements
abbrev pub texts : ℕ
texts = only KeywordSection + only KeywordLicense

-- what goes on with every expression, and what with those in which no sum was read
abbrev pub ons : ℕ
ons = only Dot + only Star + only Slash + only Percent + only Plus + only Minus

abbrev pub shifts : ℕ
shifts = only Shr + only Shl

abbrev pub assigns : ℕ
assigns = only Equals + only PlusEquals

-- a call's first argument, or `)`
abbrev pub first_arguments : ℕ
first_arguments = operands + only RParen

-- ---- lists: what begins a thing of theirs, or ends them

abbrev pub body_things : ℕ
body_things = operands + statements + only RBrace

abbrev pub unit_things : ℕ
unit_things = body_things + texts

abbrev pub event_fields : ℕ
event_fields = only Identifier + only RBrace

-- 22 and 23
abbrev pub tops : ℕ
tops = only KeywordUnit + only KeywordMap + only KeywordEvent + only Eof

abbrev pub map_fields : ℕ
map_fields = only KeywordType + only KeywordKey + only KeywordValue + only KeywordMax + only RBrace

-- 25 and 30
abbrev pub types : ℕ
types = only TypeU32 + only TypeU64 + only TypeI32 + only TypeI64

abbrev pub event_types : ℕ
event_types = types + only KeywordBytes

-- ---- sets in refusals

-- 21 with its set, in two words: kinds 0 to 31, and from 32 on
abbrev pub wrong : ℕ → Syntax
wrong s = Wanted (s % 2 ^ 32) (s / 2 ^ 32)

-- the set that a refusal tells
unfoldable pub set_told : Syntax → ℕ
set_told (Wanted low high) = high * 2 ^ 32 + low
set_told NotTopLevel = tops
set_told NotMapField = map_fields
set_told MapTypeUnknown = 0
set_told NotType = types
set_told MaxNegative = 0
set_told OutOfRange = 0
set_told ShiftCount = 0
set_told (MapLacks field) = 0
set_told NotEventType = event_types
set_told CallOnOther = 0
set_told TooDeep = 0

-- 21 with another set; any other refusal as it is
unfoldable pub retold : ℕ → Syntax → Syntax
retold s (Wanted low high) = wrong s
retold s NotTopLevel = NotTopLevel
retold s NotMapField = NotMapField
retold s MapTypeUnknown = MapTypeUnknown
retold s NotType = NotType
retold s MaxNegative = MaxNegative
retold s OutOfRange = OutOfRange
retold s ShiftCount = ShiftCount
retold s (MapLacks field) = MapLacks field
retold s NotEventType = NotEventType
retold s CallOnOther = CallOnOther
retold s TooDeep = TooDeep
