-- When a place, a row and an ending can be moved: what stood at o stands at p, and nothing wraps.
use Rattle.std.specs.Prelude.{◌≡◌, ℕ, ◌+◌, ◌-◌, ◌^◌, ◌≤◌, ◌<◌, None, Some}
use Rattle.rules.specs.declared.Cursor.{Cursor}
use Rattle.rules.specs.declared.Lexical.{Lexical}
use Rattle.rules.specs.Outcomes.{Ending, halt}
use Rattle.rules.specs.Rows.{Row, row_place}

-- a counter x moves from o to p
pub record Moves (o p x : ℕ) : Type 0 where
  pub behind : o ≤ x
  pub room : x - o + p < 2 ^ 32

pub record MovesPlace (o p q : Cursor) : Type 0 where
  pub offset : Moves o.offset.0 p.offset.0 q.offset.0
  pub line : Moves o.line.0 p.line.0 q.line.0
  pub column : q.line.0 ≡ o.line.0 → Moves o.column.0 p.column.0 q.column.0

pub record MovesRow (o p : Cursor) (r : Row) : Type 0 where
  pub place : MovesPlace o p (row_place r)
  pub end : Moves o.offset.0 p.offset.0 r.end

pub data MovesEnding (o p : Cursor) : Ending → Type 0 where
  none : MovesEnding o p None
  refused : {why : Lexical} {q : Cursor} → MovesPlace o p q → MovesEnding o p (Some (halt why q))
