-- What calls tell, as results: what was asked for, or why not.
use Rattle.std.specs.Prelude.{ℕ, Option, Result}
use Rattle.rules.specs.declared.Cursor.{Cursor}
use Rattle.rules.specs.declared.Halt.{Halt}
use Rattle.rules.specs.declared.Lexical.{Lexical}
use Rattle.rules.specs.declared.Outer.{Outer}
use Rattle.rules.specs.declared.Reason.{Reason}
use Rattle.rules.specs.declared.Table.{Table}
use Rattle.rules.specs.declared.Unfit.{Unfit}
use Rattle.rules.specs.declared.Unread.{Unread}
use Rattle.rules.specs.declared.Unparsed.{Unparsed}

-- whether a call has what it asks for
abbrev pub Judged : Type 0
Judged = Result (Unit {0}) Unfit

abbrev pub unfit : Outer → Cursor → Unfit
unfit why at = record { why = why; at = at }

-- what a scan or an edit tells
abbrev pub Told : Type 0
Told = Result Table Unread

abbrev pub unread : Outer → Cursor → ℕ → Unread
unread why at rows = record { why = why; at = at; rows = rows }

-- what a parse tells
abbrev pub Parsed : Type 0
Parsed = Result ℕ Unparsed

abbrev pub unparsed : Reason → Cursor → ℕ → Unparsed
unparsed why at found = record { why = why; at = at; found = found }

-- how a table ends: at the text's end, or where it cannot be read on
abbrev pub Ending : Type 0
Ending = Option Halt

abbrev pub halt : Lexical → Cursor → Halt
halt why at = record { why = why; at = at }
