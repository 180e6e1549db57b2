-- Whether an edit is sensible, what stands behind more rows, and what is told.
use Rattle.std.specs.Prelude.{Bool, ◌&&◌, Option, Some, None, ℕ, ◌+◌, ◌^◌, ◌<◌, eqb, leb, Ok, Err}
use Rattle.rules.specs.declared.Outer.TheVariants.{NoRowRoom}
use Rattle.rules.specs.Outcomes.{Told, unread}
use Rattle.rules.specs.Text.{start_place}
use Rattle.rules.specs.Edit.{new_length}
use Rattle.edit_parts.specs.declared.Rest.{Rest}

unfoldable pub sensible_at : (len a b n begin start size : ℕ) → Bool
sensible_at len a b n begin start size = (leb a b && leb b len) && (eqb start begin && leb (start + size) (new_length len a b n))

-- n rows more in front
abbrev pub rest_behind : ℕ → Rest → Rest
rest_behind n x = record { count = n + x.count; ending = x.ending }

abbrev pub behind_of : ℕ → Option Rest → Option Rest
behind_of n (Some x) = Some (rest_behind n x)
behind_of n None = None

-- so many kept rows, and the rest of them, if there was room
abbrev pub tell_of : ℕ → Option Rest → ℕ → ℕ → Told
tell_of k (Some x) size m = Ok (record { count = k + x.count; length = size; ending = x.ending })
tell_of k None size m = Err (unread NoRowRoom start_place m)

abbrev pub TellsFit : ℕ → Option Rest → ℕ → Type 0
TellsFit k (Some x) m = k + x.count < 2 ^ 32
TellsFit k None m = m < 2 ^ 32
