-- When a window shows enough, told by rows and offsets alone.
use Rattle.std.specs.Prelude.{ℕ, ◌+◌, ◌-◌, ◌≤◌, ◌<◌, List, ◌∷◌, ◌≡◌}
use Rattle.rules.specs.declared.Cursor.{Cursor}
use Rattle.rules.specs.declared.Lexical.{Lexical}
use Rattle.rules.specs.Rows.{Row}
use Rattle.rules.specs.Scan.{Reading, put, stops, read_rows}

-- a row starts at m
pub data Starts (m : ℕ) : List Row → Type 0 where
  first : {r : Row} {rs : List Row} → r.start ≡ m → Starts m (r ∷ rs)
  later : {r : Row} {rs : List Row} → Starts m rs → Starts m (r ∷ rs)

-- the reading ends in a refusal, and the byte at offset d decides it
pub data Decided (d : ℕ) : Reading → Type 0 where
  here : {why : Lexical} {p : Cursor} {d' : ℕ} → d ≡ d' → Decided d (stops why p d')
  behind : {r : Row} {l : Reading} → Decided d l → Decided d (put r l)

-- Old bytes a to b became n new ones; `old` and `new` are the scans of the two texts, and the window ends at hi. Below hi a row of the
-- new scan starts, not before a + n, where an old row started, moved; or a byte decides the new scan's refusal.
pub data Shows (old new : Reading) (a b n hi : ℕ) : Type 0 where
  meeting : (m : ℕ) → a + n ≤ m → m < hi → Starts m (read_rows new) → Starts (m + b - (a + n)) (read_rows old) → Shows old new a b n hi
  refusal : (d : ℕ) → d < hi → Decided d new → Shows old new a b n hi
