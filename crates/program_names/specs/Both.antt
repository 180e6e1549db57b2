-- Two texts as one table of rows.
use Rattle.std.specs.Prelude.{Bool, List, ℕ, ◌+◌}
use Rattle.rules_program.specs.Find.{spelling_of_both}
use Rattle.program_names.specs.Heads.{is_head}
use Rattle.program_names.specs.declared.Both.{Both}

-- how many rows both have
abbrev pub rows_of : Both → ℕ
rows_of b = b.prelude.count + b.probe.count

-- whether a row of both is the keyword of a map or of an event
abbrev pub heads : Both → ℕ → Bool
heads b = is_head b.prelude.rows.now b.prelude.count b.probe.rows.now

-- what a row of both spells
abbrev pub spelled : Both → ℕ → List ℕ
spelled b = spelling_of_both b.prelude.text.now b.prelude.rows.now b.prelude.count b.probe.text.now b.probe.rows.now
