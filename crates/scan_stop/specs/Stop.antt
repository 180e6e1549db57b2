-- How a walk stops.
use Rattle.std.specs.Prelude.{◌≡◌, Bool, true, false, List, ℕ, ◌+◌, ◌^◌, ◌<◌, None, Some}
use Rattle.rules.specs.declared.Cursor.{Cursor}
use Rattle.rules.specs.Outcomes.{halt}
use Rattle.rules.specs.declared.Lexical.{Lexical}
use Rattle.rules.specs.Text.{along, Roomy}
use Rattle.rules.specs.Rows.{eof_row}
use Rattle.scan_reader.specs.declared.Brief.{Brief}
use Rattle.scan_reader.specs.Brief.{End, Unknown, refusal_code}
use Rattle.scan_puts.specs.Put.{placed}
use Rattle.scan_stop.specs.declared.Stop.{Stop}
use Rattle.scan_stop.specs.declared.Stop.TheVariants.{Met, Over, Short}
use Rattle.scan_stop.specs.declared.Walked.{Walked}

-- it stopped for want of bytes
abbrev pub is_lacking : Stop → Bool
is_lacking (Met p r c) = false
is_lacking (Over e) = false
is_lacking Short = true

-- it stopped at the text's end or a refusal
abbrev pub IsOver : Stop → Type 0
IsOver (Met p r c) = ⊥
IsOver (Over e) = Unit
IsOver Short = ⊥

-- what was told last, behind n rows: the text's end, that more bytes must be shown, or a refusal
pub record Last (n : ℕ) (at : Cursor) (r : Brief) : Type 0 where
  pub few : n + 1 < 2 ^ 64
  pub roomy : Roomy r.size at

-- and what is then answered, behind c comments: ws are the lent words, us what stands in them afterwards
pub record Finished (n : ℕ) (at : Cursor) (c : ℕ) (r : Brief) (x : Walked) (ws us : List ℕ) : Type 0 where
  pub end : r.kind ≡ End → (x ≡ record { count = n + 1; stop = Over None }) × (us ≡ placed n (eof_row at c) ws)
  pub unknown : r.kind ≡ Unknown → (x ≡ record { count = n; stop = Short }) × (us ≡ ws)
  pub refused : (why : Lexical) → r.kind ≡ refusal_code why → (x ≡ record { count = n; stop = Over (Some (halt why (along at r.size))) }) × (us ≡ ws)
