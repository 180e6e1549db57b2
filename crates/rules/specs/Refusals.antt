-- "Refusal numbers": the number of each refusal, and what it tells besides.
use Rattle.std.specs.Prelude.{ℕ, ◌/◌, ◌%◌, ◌^◌}
use Rattle.rules.specs.declared.Lexical.{Lexical}
use Rattle.rules.specs.declared.Lexical.TheVariants.{NoRowBegins, LoneSign, NoHexDigit, OpenComment, OpenString, BadEscape, NumberTooLarge}
use Rattle.rules.specs.declared.Outer.{Outer}
use Rattle.rules.specs.declared.Outer.TheVariants.{TextTooLong, BadByte, NotWellFormed, NoRowRoom, NoNodeRoom, EditNotSensible, WindowShort}
use Rattle.rules.specs.declared.Syntax.{Syntax}
use Rattle.rules.specs.declared.Syntax.TheVariants.{Wanted, NotTopLevel, NotMapField, MapTypeUnknown, NotType, MaxNegative, OutOfRange, ShiftCount, MapLacks, NotEventType, CallOnOther, TooDeep}
use Rattle.rules.specs.declared.Reason.{Reason}
use Rattle.rules.specs.declared.Reason.TheVariants as reason
use Rattle.rules.specs.Fits.{tops, map_fields, types, event_types}

abbrev pub outer_number : Outer → ℕ
outer_number TextTooLong = 1
outer_number BadByte = 2
outer_number NotWellFormed = 3
outer_number NoRowRoom = 4
outer_number NoNodeRoom = 5
outer_number EditNotSensible = 6
outer_number WindowShort = 7

abbrev pub lexical_number : Lexical → ℕ
lexical_number NoRowBegins = 11
lexical_number OpenComment = 12
lexical_number OpenString = 13
lexical_number BadEscape = 14
lexical_number NumberTooLarge = 15
lexical_number LoneSign = 16
lexical_number NoHexDigit = 17

abbrev pub syntax_number : Syntax → ℕ
syntax_number (Wanted low high) = 21
syntax_number NotTopLevel = 22
syntax_number NotMapField = 23
syntax_number MapTypeUnknown = 24
syntax_number NotType = 25
syntax_number MaxNegative = 26
syntax_number OutOfRange = 27
syntax_number ShiftCount = 28
syntax_number (MapLacks field) = 29
syntax_number NotEventType = 30
syntax_number CallOnOther = 31
syntax_number TooDeep = 32

-- of the kinds that would have fitted, in 21, 22, 23, 25 and 30, those from 0 to 31; the field of 29
abbrev pub first_told : Syntax → ℕ
first_told (Wanted first second) = first
first_told NotTopLevel = tops % 2 ^ 32
first_told NotMapField = map_fields % 2 ^ 32
first_told MapTypeUnknown = 0
first_told NotType = types % 2 ^ 32
first_told MaxNegative = 0
first_told OutOfRange = 0
first_told ShiftCount = 0
first_told (MapLacks field) = field
first_told NotEventType = event_types % 2 ^ 32
first_told CallOnOther = 0
first_told TooDeep = 0

-- and those from 32 on
abbrev pub second_told : Syntax → ℕ
second_told (Wanted first second) = second
second_told NotTopLevel = tops / 2 ^ 32
second_told NotMapField = map_fields / 2 ^ 32
second_told MapTypeUnknown = 0
second_told NotType = types / 2 ^ 32
second_told MaxNegative = 0
second_told OutOfRange = 0
second_told ShiftCount = 0
second_told (MapLacks field) = 0
second_told NotEventType = event_types / 2 ^ 32
second_told CallOnOther = 0
second_told TooDeep = 0

-- the kind that 21 found, at a row of kind k
abbrev pub found_told : Syntax → ℕ → ℕ
found_told (Wanted low high) k = k
found_told NotTopLevel k = 0
found_told NotMapField k = 0
found_told MapTypeUnknown k = 0
found_told NotType k = 0
found_told MaxNegative k = 0
found_told OutOfRange k = 0
found_told ShiftCount k = 0
found_told (MapLacks field) k = 0
found_told NotEventType k = 0
found_told CallOnOther k = 0
found_told TooDeep k = 0

abbrev pub reason_number : Reason → ℕ
reason_number (reason.Outer x) = outer_number x
reason_number (reason.Lexical x) = lexical_number x
reason_number (reason.Syntax x) = syntax_number x
