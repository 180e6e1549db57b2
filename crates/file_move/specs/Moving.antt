-- What stands in lent memory behind a move.
use Rattle.std.specs.Prelude.{List, ◌++◌, ℕ, drop, Result, Ok, Err}
use Rattle.rules_forms.specs.declared.Apart.{Apart}

-- a file in front of what was there, or what was there
abbrev pub left_by : Result ℕ Apart → List ℕ → List ℕ → List ℕ
left_by (Ok n) file lent = file ++ drop n lent
left_by (Err why) file lent = lent
